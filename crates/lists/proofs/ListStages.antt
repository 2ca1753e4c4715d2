-- From the bytes of an operation list to its answer: what its tokens' table holds, what the rules come to, what is left. Relies on `lexis` and `syntax` for
-- the table and the faults of bytes and syntax, on `RowFaults` and `NameMarks` for what the walk over the headers comes to.
use mathlib.Core.Path.{◌≡◌, refl, sym, ap, ap₂, subst, ◌∙◌}
use mathlib.Core.Bool.{true}
use mathlib.Core.List.{List, []}
use mathlib.Core.Option.{Option, some}
use mathlib.Core.Option.{none as nothing}
use Prim.Native.Nat.{◌/◌, ℕ, ◌+◌, ◌*◌, ◌≤◌, min}
use native.Mathlib.Nat.{zero-add}
use native.Mathlib.Omega.{arith}
use lib.ListN.{length, replicate, length-replicate}
use lib.Seq.{sets, length-sets}
use Rattle.lexis.specs.Sizes.{max_text, max_tokens, record_words, first_mark, work_words, max_brackets}
use Rattle.lexis.specs.Lexer.{Token, Lexed, accepted, refused, lex, Placed}
use Rattle.lexis.specs.Lexer.Placed.{none, next}
use Rattle.lexis.proofs.Theorems.{placed}
use Rattle.lexis.specs.Answer.{answer}
use Rattle.lexis.specs.Symbol.{symbols}
use Rattle.lexis.specs.Work.{records, Recorded, Room}
use Rattle.lexis.specs.Answer as LA
use Rattle.lexis.specs.Answer.{Counted}
use Rattle.lexis.specs.Answer.Counted.{Tokens, Fault as Refused}
use Rattle.syntax.specs.Tree.{Header}
use Rattle.syntax.specs.Parser.{Parse, parse_list}
use Rattle.syntax.specs.Parser.Parse.{ok, bad}
use Rattle.syntax.specs.Table.{toks, place_of, parsed}
use Rattle.syntax.specs.Read.{agreed, read_after, read_of}
use Rattle.syntax.specs.declared.Syntax.TheVariants as S
use Rattle.syntax.proofs.Reading.{got}
use Rattle.syntax.proofs.Table.{toks-length}
use Rattle.syntax.proofs.Theorems.{list-all-read}
use Rattle.index.specs.Layout.{index_words}
use Rattle.index.specs.Indexed.{Walkable}
use Rattle.index.proofs.Theorems.{empty-walkable}
use Rattle.lists.specs.Directory.{first_parameter, parameter_words}
use Rattle.lists.specs.Fault.{Fault, earlier, first}
use Rattle.lists.specs.Best.{clean, fault_of, meant}
use Rattle.lists.specs.ListRules.{list_faults}
use Rattle.lists.specs.Answer.{stop, and_then, bytes_stage, syntax_stage, rules_stage, list_stages}
use Rattle.lists.specs.Headers.{Roomy, Ready, empty_row, row_faults, of_headers, Numbered, HeadersRead, OfHeaders}
use Rattle.lists.specs.Stages.{ListRead, Served, ListPassed}
use Rattle.lists.specs.declared.headers.Ruled.{Ruled}
use Rattle.lists.specs.declared.best.Fault.{Fault as Found}
use Rattle.std.proofs.Common.{Some, None}
use Rattle.lists.proofs.Bests.{clean-none}
use Rattle.lists.proofs.Faultless.{own-clean, few-operations}
use Rattle.lists.proofs.RowFaults.{list-faults}
use Rattle.lists.proofs.NameMarks.{names-start}

-- ---- bytes and syntax

-- what reading n tokens says of the list
module _ (text before after : List ℕ) (n : ℕ) (small : n ≤ max_tokens) (large : work_words ≤ length before) where
  read_by : (l : Lexed) → lex text ≡ l → Tokens n ≡ read_after S.List (length text) l → Recorded true l before after → n * record_words ≤ length before
      → ListRead text after n
  unfolding list_stages
  read_by (refused c p) e h w r = let z : ◌≡◌ {A = ℕ} 0 1 = cc in absurd (omega arith)
  read_by (accepted ts) e h w r = go (parse_list ts) refl h
    where
      go : (p : Parse (List Header)) → parse_list ts ≡ p → Tokens n ≡ agreed (length ts) (parsed (length text) (length ts) p) → ListRead text after n
      go (bad c us) q k = let z : ◌≡◌ {A = ℕ} 0 1 = cc in absurd (omega arith)
      go (ok hs us) q k =
          let m : n ≡ length ts = cc in
          let g = got text before after (Tokens n) n (ap Tokens (m ∙ sym (zero-add (length ts))) ∙ ap LA.counted (sym e))
          (subst (λ (l : Lexed). Recorded true l before after) (sym e) w) (small, r) large refl in
          let same : g.tokens ≡ ts = let y = sym g.is ∙ e in cc in
          let d : toks text after n 0 ≡ ts = g.decoded ∙ same in
          let none : us ≡ [] = list-all-read max_brackets ts hs us q in
          record {
            headers = hs;
            lexed = e ∙ ap accepted (sym d);
            table = g.table;
            parsed = ap parse_list d ∙ q ∙ ap (λ (x : List Token). ok hs x) none;
            stages =
                ap (λ (l : Lexed). and_then (bytes_stage 1 l) (λ xs. and_then (syntax_stage 1 text (parse_list xs))
                (λ ys. rules_stage 1 ys (first (list_faults ys))))) e
                ∙ ap (λ (x : Parse (List Header)). and_then (syntax_stage 1 text x) (λ ys. rules_stage 1 ys (first (list_faults ys)))) q;
          }

  pub read-list : {x : Counted} → x ≡ read_of S.List text → x ≡ Tokens n → Recorded true (lex text) before after → Room x (length before)
      → ListRead text after n
  read-list {x} h e w r = read_by (lex text) refl (sym e ∙ h) w (subst (λ (y : Counted). Room y (length before)) e r).1

-- a fault of the bytes or the syntax stops the stages
pub read-stops : (text : List ℕ) {c p : ℕ} {x : Counted} → x ≡ read_of S.List text → x ≡ Refused c p → list_stages text ≡ stop (answer c 1 p 0)
unfolding list_stages
read-stops text {c} {p} h e = go (lex text) (sym e ∙ h)
  where
    parses : (ts : List Token) (x : Parse (List Header)) → Refused c p ≡ agreed (length ts) (parsed (length text) (length ts) x)
        → and_then (syntax_stage 1 text x) (λ ys. rules_stage 1 ys (first (list_faults ys))) ≡ stop (answer c 1 p 0)
    parses ts (ok hs us) k = let z : ◌≡◌ {A = ℕ} 0 1 = cc in absurd (omega arith)
    parses ts (bad d us) k = let a : d ≡ c = cc in let b : place_of (length text) us ≡ p = cc in ap₂ (λ (x y : ℕ). stop (answer x 1 y 0)) a b

    go : (l : Lexed) → Refused c p ≡ read_after S.List (length text) l → and_then (bytes_stage 1 l)
        (λ xs. and_then (syntax_stage 1 text (parse_list xs)) (λ ys. rules_stage 1 ys (first (list_faults ys)))) ≡ stop (answer c 1 p 0)
    go (refused d q) k = let a : d ≡ c = cc in let b : q ≡ p = cc in ap₂ (λ (x y : ℕ). stop (answer x 1 y 0)) a b
    go (accepted ts) k = parses ts (parse_list ts) k

-- the work area keeps its length
pub written-length : (l : Lexed) (before after : List ℕ) → Recorded true l before after → length after ≡ length before
written-length (accepted ts) before after h =
    ap (λ (x : List ℕ). length x) h ∙ length-sets (sets before 0 (records ts)) first_mark (symbols ts) ∙ length-sets before 0 (records ts)
written-length (refused c p) before after h = h

-- ---- rules

module _ {text work index index' words words' : List ℕ} {n : ℕ} (list : ListRead text work n) (served : Served index words n) (ruled : Ruled)
    (all : OfHeaders text work index index' words words' n 0 (empty_row clean 0 0 0) ruled)
  where
    start : Numbered text work index 0 0 []
    start = names-start text work index (length index) served.empty

    read : HeadersRead text work index index' words words' n 0 (empty_row clean 0 0 0) ruled list.headers
    read = all list.headers list.parsed

    found-is : meant ruled.best ≡ first (list_faults list.headers)
    found-is =
        read.faulted [] start refl
        ∙ ap (λ (x : Option Fault). earlier x (first (row_faults of_headers [] [] list.headers))) clean-none
        ∙ list-faults list.headers

    pub rules-pass : Roomy words' n → Walkable index' n n → n ≤ max_tokens → ruled.count ≤ n → ruled.best.fault ≡ None
        → ListPassed text work index' words' n ruled.count
    unfolding meant
    rules-pass roomy walk small few z =
        let m : nothing ≡ first (list_faults list.headers) = rw z at found-is in
        let count = read.count in
        record {
          headers = list.headers;
          stages = list.stages ∙ ap (rules_stage 1 list.headers) (sym m);
          count = omega arith;
          small = small;
          few = few;
          lexed = list.lexed;
          table = list.table;
          parsed = list.parsed;
          directory = read.stored (let l = few-operations list.headers (sym m) in omega arith) (own-clean list.headers (sym m));
          roomy = roomy;
          walkable = walk;
          names = read.names [] start refl;
        }

    pub rules-stop : {f : Found} → ruled.best.fault ≡ Some f → list_stages text ≡ stop (answer f.code 1 f.at f.detail)
    unfolding meant
    rules-stop {f} z =
        let m : some (fault_of f) ≡ first (list_faults list.headers) = rw z at found-is in
        list.stages ∙ ap (rules_stage 1 list.headers) (sym m)

-- room for n tokens is room for fewer
pub served-less : {index words : List ℕ} {m n : ℕ} → n ≤ m → Served index words m → Served index words n
served-less l s = record {
  empty = s.empty;
  room = let r = s.room in omega arith;
  roomy = record { room = let r = s.roomy.room in omega arith };
}

-- a text has no more tokens than bytes
tokens-few : {text : List ℕ} {at : ℕ} {ts : List Token} → Placed text at ts → at + length ts ≤ length text
tokens-few (none e) = omega arith
tokens-few (next a b c d e p) = let l = tokens-few p in omega arith

pub list-few : {text work : List ℕ} {n : ℕ} → ListRead text work n → n ≤ length text
list-few {text} {work} {n} list =
    let p = tokens-few (placed text (toks text work n 0) list.lexed) in
    let l = toks-length text work n 0 in
    omega arith

-- zeros, as many as a text of m bytes may ask for
pub served-zeros : (i w m : ℕ) → index_words (min m max_tokens) ≤ i → first_parameter + min m max_tokens / 4 * parameter_words ≤ w
    → Served (replicate i 0) (replicate w 0) (min m max_tokens)
served-zeros i w m e f =
    let a : length {A = ℕ} (replicate i 0) ≡ i = length-replicate i 0 in
    let b : length {A = ℕ} (replicate w 0) ≡ w = length-replicate w 0 in
    record {
      empty = ap (λ (m : ℕ). replicate {A = ℕ} m 0) (sym a);
      room = omega arith;
      roomy = record { room = omega arith };
    }

-- the walk may start
pub walk-ready : {text work index words : List ℕ} {n : ℕ} → ListRead text work n → length text ≤ max_text → n ≤ max_tokens → Served index words n
    → Ready text index n 0 (empty_row clean 0 0 0)
walk-ready {index = index} list short small s = record {
  short = short;
  small = small;
  inside = omega arith;
  few = omega arith;
  counted = omega arith;
  numbered = omega arith;
  names = empty-walkable index (length index) s.empty 0 _ s.room;
}
