-- A call that is read from a place: its parts as the grammar has them, and the places at which a flat scan finds them: the `=`, the
-- operation's name, the closing bracket, and what comes after the call. Assumes nothing.
use mathlib.Core.Path.{◌≡◌, refl, sym, ap, subst, ◌∙◌}
use mathlib.Core.Bool.{Bool, true, false, cond, false≢true}
use mathlib.Core.List.{List, [], ◌∷◌, ◌++◌, flat_map}
use Prim.Native.Nat.{ℕ, ◌+◌, ◌-◌, ◌≤◌, ◌<◌}
use native.Mathlib.Nat.{le_refl}
use native.Mathlib.Omega.{arith}
use lib.Dec.{eqb}
use lib.ListN.{length}
use Rattle.lexis.specs.Lexer.{Token}
use Rattle.lexis.specs.Symbol.{sym_of, left_round, right_round, equal, semicolon, a_name}
use Rattle.syntax.specs.Tree.{Arg, Call}
use Rattle.syntax.specs.Grammar.{Separated, IsArg, IsLeft}
use Rattle.syntax.specs.Grammar.Separated.{last, next}
use Rattle.syntax.specs.Parser.{expect, begins, rest, row, plain, argument, left, call}
use Rattle.syntax.specs.Parser.Parse.{ok}
use Rattle.syntax.specs.Parser.Row.{commas}
use Rattle.syntax.specs.Table.{toks}
use Rattle.syntax.proofs.Table.{toks-rest, toks-length, toks-suffix}
use Rattle.syntax.proofs.Tails.{Suffix}
use Rattle.syntax.proofs.Tails.Suffix.{all, past}
use Rattle.syntax.proofs.Sound.{argument-reads, left-reads}
use Rattle.lists.specs.Names.{first_token, names_in, value_of, assigned, used}
use Rattle.lists.specs.Scans.{names_among, uses_among, from_symbol, open_after, from_close}
use Rattle.lists.proofs.Parts.{cancel, toks-split, First, first_of, those-append, uses-append}
use Rattle.documents.specs.Calls.{CallFrom}
use Rattle.documents.proofs.CallParses.{then_ok, expect-ok, reads_ok, Reading, separated-ok}
use Rattle.documents.proofs.Flat.{Comes, left-equal, left-names, left-starts, arguments-uses, arguments-close, names-past, uses-past, symbol-here}
use Rattle.documents.proofs.Flat.{close-here}

-- ---- the parts of a call

pub record CallParts (b : ℕ) (ts : List Token) (c : Call) (us : List Token) : Type 0 where
  pub bracket : Token
  pub inner : List Token
  pub behind : List Token
  pub leads : left b ts ≡ ok c.left (c.op ∷ bracket ∷ inner)
  pub is-left : IsLeft b ts c.left (c.op ∷ bracket ∷ inner)
  pub named : sym_of c.op ≡ a_name
  pub opened : sym_of bracket ≡ left_round
  pub read : row plain (commas right_round) (argument b) inner ≡ ok c.args behind
  pub args : Separated (IsArg b) right_round inner c.args behind
  pub ends : us ≡ cond (begins semicolon behind) (rest behind) behind

pub arguments-are : {b : ℕ} {ts us : List Token} {xs : List Arg} → Separated (Reading (argument b)) right_round ts xs us
    → Separated (IsArg b) right_round ts xs us
arguments-are {b} (last {c = c} {ts} {us} {a = x} h e) = last (reads_ok IsArg b (argument b) (argument-reads b) ts x (c ∷ us) h) e
arguments-are {b} (next {c = c} {ts} {us} {a = x} h e r) = next (reads_ok IsArg b (argument b) (argument-reads b) ts x (c ∷ us) h) e (arguments-are r)

pub call-parts : (b : ℕ) (ts : List Token) (c : Call) (us : List Token) → call b ts ≡ ok c us → CallParts b ts c us
unfolding call
call-parts b ts c us e =
    let l = then_ok (left b ts) _ c us e in
    let n = then_ok (expect a_name l.1) _ c us l.3 in
    let o = then_ok (expect left_round n.1) _ c us n.3 in
    let r = then_ok (row plain (commas right_round) (argument b) o.1) _ c us o.3 in
    let p = expect-ok a_name l.1 n.0 n.1 n.2 in
    let q = expect-ok left_round n.1 o.0 o.1 o.2 in
    let L : IsLeft b ts l.0 l.1 = reads_ok IsLeft b (left b) (left-reads b) ts l.0 l.1 l.2 in
    let whole : l.1 ≡ n.0 ∷ o.0 ∷ o.1 = p.0 ∙ ap (λ (x : List Token). n.0 ∷ x) q.0 in
    let made : record { left = l.0; op = n.0; args = r.0 } ≡ c = cc r.3 in
    let end : cond (begins semicolon r.1) (rest r.1) r.1 ≡ us = cc r.3 in
    rw (← made) (record {
      bracket = o.0;
      inner = o.1;
      behind = r.1;
      leads = l.2 ∙ ap (λ (x : List Token). ok l.0 x) whole;
      is-left = rw whole at L;
      named = p.1;
      opened = q.1;
      read = r.2;
      args = arguments-are (separated-ok (argument b) right_round o.1 r.0 r.1 r.2);
      ends = sym end;
    })

-- ---- their places

suffix-length : {ts us : List Token} → Suffix ts us → length us ≤ length ts
suffix-length all = le_refl _
suffix-length (past {ts = ts} {us = us} s) = let l = suffix-length s in omega arith

close-suffix : (k : ℕ) (ts : List Token) → Suffix ts (from_close k ts)
unfolding from_close
close-suffix k [] = all
close-suffix k (t ∷ ts) = go (eqb (open_after k (sym_of t)) 0) (close-suffix (open_after k (sym_of t)) ts)
  where
    go : (b : Bool) → Suffix ts (from_close (open_after k (sym_of t)) ts) → Suffix (t ∷ ts) (cond b (t ∷ ts) (from_close (open_after k (sym_of t)) ts))
    go true s = all
    go false s = past s

-- the place after a call is beyond the bracket that closes its arguments
pub next-after : (ts : List Token) (close to : ℕ) → to ≡ cond (begins semicolon ts) (close + 2) (close + 1) → close < to
next-after ts close to e = by (begins semicolon ts) e
  where
    by : (b : Bool) → to ≡ cond b (close + 2) (close + 1) → close < to
    by true q = omega arith
    by false q = omega arith

module _ (text table : List ℕ) (n : ℕ) where
  abbrev tk : ℕ → List Token
  tk i = toks text table n i

  -- arguments that are read from place i on close where a flat scan says so
  module _ (b i : ℕ) (xs : List Arg) (us : List Token) (r : row plain (commas right_round) (argument b) (toks text table n i) ≡ ok xs us) where
    args_are : Separated (IsArg b) right_round (tk i) xs us
    args_are = arguments-are (separated-ok (argument b) right_round (tk i) xs us r)

    y : Comes (from_close 1) right_round (tk i) us
    y = arguments-close args_are

    closing-is : from_close 1 (tk i) ≡ y.token ∷ us
    closing-is = y.reached ∙ close-here y.token us y.closes

    -- and a place after which the rest is theirs is that of their bracket
    module _ (close : ℕ) (e : us ≡ toks text table n (close + 1)) (h : close < n) where
      closes_here : tk close ≡ y.token ∷ us
      closes_here =
          let s = subst (Suffix (tk i)) closing-is (close-suffix 1 (tk i)) in
          let l = ap (λ (l : List Token). length l) e ∙ toks-length text table n (close + 1) in
          let z : n - length (y.token ∷ us) ≡ close = omega arith in
          sym (toks-suffix text table n i s ∙ ap tk z)

      after-start : i ≤ close
      after-start =
          let s = suffix-length (subst (Suffix (tk i)) closing-is (close-suffix 1 (tk i))) in
          let l = ap (λ (l : List Token). length l) e ∙ toks-length text table n (close + 1) in
          let m = toks-length text table n i in
          omega arith

      pub uses-of : uses_among (toks text table close i) ≡ flat_map (λ (a : Arg). names_in (value_of a)) xs
      uses-of =
          let C = y.token in
          let other : begins equal (C ∷ us) ≡ false = simp y.closes in
          let whole : uses_among (tk i) ≡ uses_among (toks text table close i) ++ uses_among us =
          ap uses_among (toks-split text table n i close after-start (omega arith) ∙ ap (λ (z : List Token). toks text table close i ++ z) closes_here)
          ∙ uses-append (toks text table close i) (C ∷ us) other
          ∙ ap (λ (z : List Token). uses_among (toks text table close i) ++ z) (uses-past C us y.closes refl) in
          cancel _ _ (uses_among us) (sym whole ∙ arguments-uses args_are)

  module _ (at : ℕ) where
    -- how the place of a call's `=` is found
    pub record FoundEqual (e : ℕ) : Type 0 where
      pub from : at ≤ e
      pub left : e ≤ n
      pub is : toks text table n e ≡ from_symbol equal (toks text table n at)

    module _ (e : ℕ) (f : FoundEqual e) (b : ℕ) (c : Call) (us : List Token) (w : CallParts b (toks text table n at) c us) where
      x : Comes (from_symbol equal) equal (tk at) (c.op ∷ w.bracket ∷ w.inner)
      x = left-equal w.is-left

      at-equal : First text table n e x.token (c.op ∷ w.bracket ∷ w.inner)
      at-equal = first_of text table n e x.token _ (f.is ∙ x.reached ∙ symbol-here x.token _ equal x.closes)

      at_name : First text table n (e + 1) c.op (w.bracket ∷ w.inner)
      at_name = first_of text table n (e + 1) c.op _ at-equal.rest

      at_bracket : First text table n (e + 1 + 1) w.bracket w.inner
      at_bracket = first_of text table n (e + 1 + 1) w.bracket _ at_name.rest

      inside : toks text table n (e + 3) ≡ w.inner
      inside = let q : e + 3 ≡ e + 1 + 1 + 1 = omega arith in ap tk q ∙ at_bracket.rest

      read-there : row plain (commas right_round) (argument b) (toks text table n (e + 3)) ≡ ok c.args w.behind
      read-there = ap (row plain (commas right_round) (argument b)) inside ∙ w.read

      names-are : names_among (toks text table e at) ≡ assigned c
      names-are =
          let rest = c.op ∷ w.bracket ∷ w.inner in
          let whole : names_among (tk at) ≡ names_among (toks text table e at) ++ names_among rest =
          ap names_among (toks-split text table n at e f.from f.left)
          ∙ those-append _ (toks text table e at) (tk e)
          ∙ ap (λ (l : List Token). names_among (toks text table e at) ++ l)
          (ap names_among (f.is ∙ x.reached ∙ symbol-here x.token rest equal x.closes) ∙ names-past x.token rest x.closes refl) in
          cancel (names_among (toks text table e at)) (assigned c) (names_among rest) (sym whole ∙ left-names w.is-left)

      -- after the call: past a semicolon, where there is one
      module _ (close next : ℕ) (closes : (w.behind ≡ toks text table n (close + 1)) × (close < n))
          (next-is : next ≡ cond (begins semicolon (toks text table n (close + 1))) (close + 2) (close + 1)) where
        after_is : (us ≡ toks text table n next) × (next ≤ n)
        after_is =
            go (begins semicolon w.behind) refl w.ends
            (next-is ∙ ap (λ (l : List Token). cond (begins semicolon l) (close + 2) (close + 1)) (sym closes.0))
          where
            beyond : (ts : List Token) → ts ≡ tk (close + 1) → begins semicolon ts ≡ true → close + 1 < n
            beyond [] z q = absurd (false≢true q)
            beyond (t ∷ ts) z q = (first_of text table n (close + 1) t ts (sym z)).inside

            go : (s : Bool) → begins semicolon w.behind ≡ s → us ≡ cond (begins semicolon w.behind) (rest w.behind) w.behind
                → next ≡ cond (begins semicolon w.behind) (close + 2) (close + 1) → (us ≡ toks text table n next) × (next ≤ n)
            go true q u v =
                let i = beyond w.behind closes.0 q in
                let j : next ≡ close + 2 = v ∙ ap (λ (s : Bool). cond s (close + 2) (close + 1)) q in
                let k : next ≡ close + 1 + 1 = omega arith in (
                  u ∙ ap (λ (s : Bool). cond s (rest w.behind) w.behind) q ∙ ap rest closes.0 ∙ toks-rest text table n (close + 1)
                      ∙ ap tk (sym k),
                  omega arith,
                )
            go false q u v =
                let k : next ≡ close + 1 = v ∙ ap (λ (s : Bool). cond s (close + 2) (close + 1)) q in
                let i = closes.1 in
                (u ∙ ap (λ (s : Bool). cond s (rest w.behind) w.behind) q ∙ closes.0 ∙ ap tk (sym k), omega arith)

        uses-are : uses_among (toks text table close (e + 3)) ≡ used c
        unfolding used
        uses-are = uses-of b (e + 3) c.args w.behind read-there close closes.0 closes.1

    -- a call whose `=` is found
    pub call_from : (e : ℕ) → FoundEqual e → (b : ℕ) (c : Call) (us : List Token) → call b (toks text table n at) ≡ ok c us → CallFrom text table n at e c
    call_from e f b c us h =
        let w = call-parts b (tk at) c us h in
        let s = left-starts w.is-left in
        let o = first_of text table n at (first_token c.left) s.others s.whole in
        record {
          first = o.here;
          leads = λ d ws k. let v = call-parts d (tk at) c ws k in v.leads ∙ ap (λ (l : List Token). ok c.left l) (sym (at-equal e f d c ws v).rest);
          assigns = names-are e f b c us w;
          title = (at_name e f b c us w).here;
          arguments = λ d ws k. let v = call-parts d (tk at) c ws k in record { behind = v.behind; read = read-there e f d c ws v };
          inside = (o.inside, (at_name e f b c us w).inside);
        }

    -- and whose arguments close somewhere: its uses, and what comes after it
    pub record CallEnds (equal close next : ℕ) (c : Call) (us : List Token) : Type 0 where
      pub uses : uses_among (toks text table close (equal + 3)) ≡ used c
      pub after : us ≡ toks text table n next
      pub inside : next ≤ n

    pub call_ends : (e close next : ℕ) → FoundEqual e → (b : ℕ)
        →
        ((xs : List Arg) (us : List Token) → row plain (commas right_round) (argument b) (toks text table n (e + 3)) ≡ ok xs us
        → (us ≡ toks text table n (close + 1)) × (close < n))
        → next ≡ cond (begins semicolon (toks text table n (close + 1))) (close + 2) (close + 1) → (c : Call) (us : List Token)
        → call b (toks text table n at) ≡ ok c us → CallEnds e close next c us
    call_ends e close to f b closes q c us h =
        let w = call-parts b (tk at) c us h in
        let k = closes c.args w.behind (read-there e f b c us w) in
        let a = after_is e f b c us w close to k q in
        record { uses = uses-are e f b c us w close to k q; after = a.0; inside = a.1 }
