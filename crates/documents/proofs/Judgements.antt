-- What the list says to a call: the parts of a call by the place of its `=`, the sum of its faults, and the look-up of its operation.
-- Relies on `CallPlaces` for the parts of a call, on `CallUsage` for what the look-up makes of its faults and on `Entries` for the directory.
use mathlib.Core.Path.{◌≡◌, sym, ap, ap₂, subst, ◌∙◌}
use mathlib.Core.Bool.{Bool, not, true≢false}
use mathlib.Core.List.{List, ◌∷◌, ◌++◌, map, flat_map}
use mathlib.Core.Option.{Option, some}
use mathlib.Core.Option.{none as nothing}
use Prim.Native.Nat.{ℕ, ◌+◌, ◌<◌, ◌≤◌}
use native.Mathlib.Omega.{arith}
use lib.ListN.{length, take, drop, length-map}
use Rattle.lexis.specs.Sizes.{max_brackets, max_operations, max_parameters}
use Rattle.lexis.specs.Lexer.{Token}
use Rattle.lexis.specs.Symbol.{right_round}
use Rattle.syntax.specs.Tree.{Param, Arg, Header, Call}
use Rattle.syntax.specs.Parser.{plain, commas, row, argument}
use Rattle.syntax.specs.Parser.Parse.{ok}
use Rattle.syntax.specs.Table.{start_at, token_at, toks}
use Rattle.syntax.proofs.Row.{Shrinks, left-ok, row-shrinks}
use Rattle.syntax.proofs.Tails.{Tails, row-tails, argument-tails}
use Rattle.syntax.proofs.Shrinks.{argument-shrinks}
use Rattle.syntax.proofs.Table.{toks-length}
use Rattle.std.proofs.Common.{Option as Maybe, Some, None}
use Rattle.lists.specs.Fault.{Fault, fault, faults, starts, unless, earlier, first}
use Rattle.lists.specs.Best.{meant}
use Rattle.lists.specs.Masks.{is_required}
use Rattle.lists.specs.Names.{repeats, first_token, start_of}
use Rattle.lists.specs.ListRules.{over, list_faults}
use Rattle.lists.specs.Reading.{is_some, fits, result_type}
use Rattle.lists.specs.Found.{find, index_of, found}
use Rattle.lists.specs.Walks.{when}
use Rattle.lists.specs.Lists.{header_faults}
use Rattle.lists.proofs.First.{first-append, first-none}
use Rattle.lists.proofs.Parts.{First, first_of}
use Rattle.lists.proofs.Faultless.{neither, own-clean, none-beyond, no-faults}
use Rattle.lists.proofs.ListFaults.{list-parts}
use mathlib.Core.Logic.{∥∥₁_elim}
use Rattle.std.specs.Prelude.{Some}
use Rattle.std.proofs.Props.{props}
use Rattle.index.specs.Indexed.{Walkable}
use Rattle.lists.specs.Headers.{Numbered}
use Rattle.documents.specs.declared.arguments.Tally.{Tally}
use Rattle.documents.specs.declared.judging.Judged.{Judged}
use Rattle.documents.specs.Binding.{lacked, leading}
use Rattle.documents.specs.DocumentRules.{bound_at, left_faults}
use Rattle.documents.specs.Arguments.{without, bound}
use Rattle.documents.specs.Tallies.{Tallies}
use Rattle.documents.specs.Judged.{Readable, Directs, Directed, CallWith, ClosesAt, Says, Judges}
use Rattle.documents.proofs.Flat.{left-starts}
use Rattle.documents.proofs.CallPlaces.{CallParts, call-parts}
use Rattle.documents.proofs.CallUsage.{unknown, known, when-not}
use Rattle.documents.proofs.Declared.{found-missing, found_some}
use Rattle.documents.proofs.Slots.{bound-length, missing-is}
use Rattle.documents.proofs.Turns.{whole}
use Rattle.documents.proofs.DirectoryEntries.{OperationOf, index_below, operation-of, readable}

-- ---- the parts of a call

module _ {text table : List ℕ} {n at equal : ℕ} {c : Call} (w : CallWith text table n at equal c) where
  pub parts : CallParts max_brackets (toks text table n at) c w.after
  parts = call-parts max_brackets (toks text table n at) c w.after w.read

  -- past the `=`
  at_name : First text table n (equal + 1) c.op (parts.bracket ∷ parts.inner)
  at_name =
      let e = sym w.leads ∙ parts.leads in
      let z : toks text table n (equal + 1) ≡ c.op ∷ parts.bracket ∷ parts.inner = cc in
      first_of text table n (equal + 1) c.op _ z

  at_bracket : First text table n (equal + 1 + 1) parts.bracket parts.inner
  at_bracket = first_of text table n (equal + 1 + 1) parts.bracket _ at_name.rest

  at_left : First text table n at (first_token c.left) (left-starts parts.is-left).others
  at_left = let s = left-starts parts.is-left in first_of text table n at (first_token c.left) s.others s.whole

  pub names-operation : token_at text table (equal + 1) ≡ c.op
  names-operation = at_name.here

  pub name-starts : start_at table (equal + 1) ≡ c.op.start
  unfolding token_at
  name-starts = ap (λ (t : Token). t.start) at_name.here

  pub left-starts-at : start_at table at ≡ start_of c.left
  unfolding token_at
  left-starts-at = ap (λ (t : Token). t.start) at_left.here

  pub arguments-are : row plain (commas right_round) (argument max_brackets) (toks text table n (equal + 3)) ≡ ok c.args parts.behind
  arguments-are =
      let q : equal + 3 ≡ equal + 1 + 1 + 1 = omega arith in
      ap (row plain (commas right_round) (argument max_brackets)) (ap (λ (k : ℕ). toks text table n k) q ∙ at_bracket.rest) ∙ parts.read

-- their reader takes tokens, and leaves those that it does not take
pub arguments-small : Shrinks (row plain (commas right_round) (argument max_brackets))
arguments-small = row-shrinks plain (commas right_round) (argument max_brackets) (argument-shrinks max_brackets)

pub arguments-tails : Tails (row plain (commas right_round) (argument max_brackets))
arguments-tails = row-tails plain (commas right_round) (argument max_brackets) (argument-tails max_brackets)

-- where arguments stand there is one
pub arguments-inside : (text table : List ℕ) (n i : ℕ) {xs : List Arg} {us : List Token}
    → row plain (commas right_round) (argument max_brackets) (toks text table n i) ≡ ok xs us → i < n
arguments-inside text table n i h =
    let l = left-ok (rw h at (arguments-small (toks text table n i))) in
    omega (arith, l, toks-length text table n i)

-- ---- the faults of one call

module _ (ps : List Param) (l : length ps ≤ max_parameters) where
  pub required-few : length (map is_required ps) ≤ max_parameters
  required-few = rw (length-map ps is_required) l

  pub bound-few : (xs : List Arg) → length (bound ps xs) ≤ max_parameters
  bound-few xs = rw (bound-length ps (leading xs) xs) l

-- those of its arguments and of its left side, as the code adds them up
pub call-sum : (h : Header) (c : Call) (s : Tally) {x y z : Option Fault} {m : Bool} {place start : ℕ} → Tallies h.params c.args s
    → x ≡ first (lacked place 0 (without (map is_required h.params) (bound h.params c.args))) → place ≡ c.op.start
    → y ≡ first (when (not m) (fault 20 start)) → start ≡ start_of c.left → m ≡ fits c.left (result_type h.results)
    → z ≡ earlier (earlier (meant s.best) x) y → z ≡ first (bound_at c.op.start h c ++ left_faults h c)
call-sum h c s {m = m} {place = place} {start = start} t e o f d g k =
    let ps = h.params in
    let xs = c.args in
    k
    ∙ ap₂ earlier
    (ap₂ earlier t.faulted (e ∙ ap first (sym (missing-is place ps xs))) ∙ sym (whole place ps xs) ∙ ap (λ (j : ℕ). first (bound_at j h c)) o)
    (f ∙ ap first (when-not m (fault 20 start)) ∙ ap₂ (λ (b : Bool) (j : ℕ). first (unless b (fault 20 j))) g d)
    ∙ sym (first-append (bound_at c.op.start h c) (left_faults h c))

-- ---- the look-up

-- a list without faults has no more operations than may be
few-operations : (hs : List Header) → first (list_faults hs) ≡ nothing → length hs ≤ max_operations
few-operations hs h =
    let ks = map (λ (g : Header). g.keyword.start) hs in
    let a = first (over max_operations ks) in
    let b = first (faults 13 (starts (repeats (map (λ (g : Header). g.name) hs)))) in
    let c = first (flat_map header_faults hs) in
    let e = first-none (over max_operations ks) (neither a (earlier b c) (sym (list-parts hs) ∙ h)).0 in
    let n = none-beyond max_operations ks (no-faults 12 (take 1 (drop max_operations ks)) e) in
    omega (arith, n, length-map hs (λ (g : Header). g.keyword.start))

-- an undeclared operation
pub judges-unknown : (hs : List Header) (c : Call) {text table : List ℕ} {n equal : ℕ} {r : Judged} (t : Token) {o : Maybe ℕ}
    → t ≡ c.op → o ≡ found hs t → o ≡ None → meant r.best ≡ some (fault 15 t.start)
    → ClosesAt text table n (equal + 3) r.close → Judges hs c text table n equal r
judges-unknown hs c t e f g m k =
    let u = found-missing hs c.op (f ∙ ap (found hs) e) g in
    record {
      found = m ∙ ap (λ (s : Token). some (fault 15 s.start)) e ∙ sym (unknown hs c u);
      op = λ h z. absurd (true≢false (sym (ap is_some z) ∙ ap is_some u));
      closes = k;
    }

module _ {text table index words : List ℕ} {n : ℕ} where
  -- the operation that is found, in the directory of the headers hs
  module _ {hs : List Header} (d : Directs text table index words n hs) (t : Token) {o : Maybe ℕ} {k : ℕ} (e : o ≡ found hs t) (q : o ≡ Some k) where
    pub found-operation : OperationOf text table words n k hs t
    found-operation =
        let s = found_some hs t e q in
        let z : 0 + index_of hs t ≡ k = omega (arith, s.1) in
        subst (λ (i : ℕ). OperationOf text table words n i hs t) z (operation-of t d.operations s.0)

    pub found-clean : first (header_faults found-operation.head) ≡ nothing
    found-clean = found-operation.own (own-clean hs d.clean)

    found_below : k < length hs
    found_below = let s = found_some hs t e q in let l = index_below hs t s.0 in omega (arith, s.1, l)

  pub found-readable : (d : Directed text table index words n) (t : Token) {o : Maybe ℕ} {k : ℕ} → o ≡ found d.headers t → o ≡ Some k → Readable words n k
  found-readable d t {k = k} e q =
      let f = found-operation d.directs t e q in
      let l = found_below d.directs t e q in
      readable f.stands (found-clean d.directs t e q) (omega (arith, l, few-operations d.headers d.directs.clean))
      (omega (arith, d.roomy.room, f.stands.tokens))

  -- whatever headers the directory holds
  pub directed-walkable : ∥ Directed text table index words n ∥₁ → Walkable index n n
  directed-walkable t = ∥∥₁_elim t (Prim.hlevel props) (λ d. d.walkable)

  pub found-within : ∥ Directed text table index words n ∥₁ → (t : Token) {o : Maybe ℕ} {k : ℕ}
      → ((hs : List Header) → Numbered text table index n (length hs) (map (λ (h : Header). h.name) hs) → o ≡ found hs t) → o ≡ Some k → Readable words n k
  found-within d t f q = ∥∥₁_elim d (Prim.hlevel props) (λ e. found-readable e t (f e.headers e.directs.names) q)

  -- a declared operation
  pub judges-known : {hs : List Header} (d : Directs text table index words n hs) (c : Call) {dtext dtable : List ℕ} {dn at equal : ℕ} {r : Judged}
      (t : Token) {o : Maybe ℕ} {k : ℕ} → t ≡ c.op → (e : o ≡ found hs t) (q : o ≡ Some k) → r.op ≡ Some k
      → Says dtext dtable dn at equal (found-operation d t e q).head r → CallWith dtext dtable dn at equal c → Judges hs c dtext dtable dn equal r
  judges-known {hs} d c t w e q p s v =
      let f = found-operation d t e q in
      let i = found_some hs t e q in
      record {
        found = s.faults c v ∙ sym (known hs c f.head (ap (find hs) (sym w) ∙ f.is));
        op = λ h z. p ∙ ap Some (i.1 ∙ ap (index_of hs) w);
        closes = s.closes;
      }
