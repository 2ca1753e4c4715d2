-- Values and defaults as they are read: a value starts at its first token, and a default stands behind an equals sign. Relies on `HeaderParses`.
use mathlib.Core.Path.{◌≡◌, refl, sym, ap}
use mathlib.Core.Bool.{Bool, true, false, cond, ◌&&◌, ◌||◌}
use mathlib.Core.List.{List, [], ◌∷◌}
use mathlib.Core.Option.{Option, some}
use mathlib.Core.Option.{none as nothing}
use Prim.Native.Nat.{ℕ, zero, suc, ◌≤◌}
use native.Mathlib.Omega.{arith}
use lib.Dec.{eqb, leb}
use lib.ListN.{length}
use borrow.Author.Tests.{leb-true, leb-false}
use Rattle.lexis.specs.Lexer.{Token}
use Rattle.lexis.specs.Symbol.{sym_of, is_literal, left_round, left_square, equal, minus, a_name, a_number}
use Rattle.syntax.specs.Tree.{unsigned, negated, Value}
use Rattle.syntax.specs.Tree.Value.{name, literal, array, tuple}
use Rattle.syntax.specs.Grammar.{Leaves, literals, takes_names, takes_literals}
use Rattle.syntax.specs.Parser.{expect, negative, Reader, mapped, begins, rest, value_step, array_items, tuple_items, bracketed, value, default}
use Rattle.syntax.specs.Parser.Parse.{ok, bad}
use Rattle.syntax.specs.Table.{token_at, toks, place_of, Holds}
use Rattle.syntax.proofs.Table.{toks-none, toks_more}
use Rattle.lists.specs.Names.{start_of}
use Rattle.lists.proofs.HeaderParses.{mapped-ok}

-- ---- a value starts at its first token

opened-starts : (val : Reader Value) (t : Token) (ts : List Token) (v : Value) (us : List Token) → bracketed val t ts ≡ ok v us → start_of v ≡ t.start
unfolding bracketed
opened-starts val t ts v us h = go (eqb (sym_of t) left_square) h
  where
    go : (b : Bool) → cond b (mapped (array t) (array_items val ts)) (mapped (tuple t) (tuple_items val ts)) ≡ ok v us → start_of v ≡ t.start
    go true k = let m = mapped-ok (array t) (array_items val ts) k in ap start_of (sym m.made)
    go false k = let m = mapped-ok (tuple t) (tuple_items val ts) k in ap start_of (sym m.made)

negative-starts : (t : Token) (ts : List Token) (v : Value) (us : List Token) → negative t ts ≡ ok v us → start_of v ≡ t.start
unfolding negative
negative-starts t ts v us h = let m = mapped-ok (λ n. literal (negated t n)) (expect a_number ts) h in ap start_of (sym m.made)

step-starts : (m : Leaves) (opened : Token → Reader Value) (e : ℕ) (ts : List Token) (v : Value) (us : List Token)
    → ((t : Token) (ws : List Token) → opened t ws ≡ ok v us → start_of v ≡ t.start) → value_step m opened ts ≡ ok v us → start_of v ≡ place_of e ts
unfolding value_step
step-starts m opened e [] v us f h = let z : ◌≡◌ {A = ℕ} 0 1 = cc in absurd (omega arith)
step-starts m opened e (t ∷ ts) v us f h =
    go (takes_names m && eqb (sym_of t) a_name) (takes_literals m && is_literal (sym_of t)) (takes_literals m && eqb (sym_of t) minus)
    (eqb (sym_of t) left_square || eqb (sym_of t) left_round) h
  where
    go : (a b s c : Bool)
        → cond a (ok (name t) ts) (cond b (ok (literal (unsigned t)) ts) (cond s (negative t ts) (cond c (opened t ts) (bad 9 (t ∷ ts))))) ≡ ok v us
        → start_of v ≡ t.start
    go true b s c k = let q : name t ≡ v = cc in ap start_of (sym q)
    go false true s c k = let q : literal (unsigned t) ≡ v = cc in ap start_of (sym q)
    go false false true c k = negative-starts t ts v us k
    go false false false true k = f t ts k
    go false false false false k = let z : ◌≡◌ {A = ℕ} 0 1 = cc in absurd (omega arith)

pub value-starts : (m : Leaves) (b e : ℕ) (ts : List Token) (v : Value) (us : List Token) → value m b ts ≡ ok v us → start_of v ≡ place_of e ts
unfolding value
value-starts m zero e ts v us h = step-starts m _ e ts v us (λ t ws k. let z : ◌≡◌ {A = ℕ} 0 1 = cc in absurd (omega arith)) h
value-starts m (suc b) e ts v us h = step-starts m _ e ts v us (λ t ws k. opened-starts (value m b) t ws v us k) h

-- ---- places

-- no place lies past the text's end
pub place_in : (text table : List ℕ) (n i : ℕ) → Holds text table n → place_of (length text) (toks text table n i) ≤ length text
unfolding token_at
place_in text table n i h = go (leb n i) refl
  where
    go : (b : Bool) → leb n i ≡ b → place_of (length text) (toks text table n i) ≤ length text
    go true e = rw (toks-none text table n i (leb-true n i e)) (omega arith)
    go false e = let l = leb-false n i e in let w = h.within i l in rw (toks_more text table n i l) (omega (arith, w.0, w.1))

-- ---- a default

-- a default, by whether an equals sign stands there
pub default_none : (b : ℕ) (ts : List Token) (d : Option Value) (us : List Token) → begins equal ts ≡ false → default b ts ≡ ok d us → d ≡ nothing
unfolding default
default_none b ts d us e h = let k : ok nothing ts ≡ ok d us = rw e at h in cc

pub default-left : (b : ℕ) (ts : List Token) (d : Option Value) (us : List Token) → begins equal ts ≡ false → default b ts ≡ ok d us → ts ≡ us
unfolding default
default-left b ts d us e h = let k : ok nothing ts ≡ ok d us = rw e at h in cc

pub record Given (b : ℕ) (ts : List Token) (d : Option Value) (us : List Token) : Type 0 where
  pub tree : Value
  pub read : value literals b (rest ts) ≡ ok tree us
  pub is : d ≡ some tree

pub default-some : (b : ℕ) (ts : List Token) (d : Option Value) (us : List Token) → begins equal ts ≡ true → default b ts ≡ ok d us → Given b ts d us
unfolding default
default-some b ts d us e h =
    let k : mapped {B = Option Value} some (value literals b (rest ts)) ≡ ok d us = rw e at h in
    let m = mapped-ok {B = Option Value} some (value literals b (rest ts)) k in
    record { tree = m.tree; read = m.one; is = sym m.made }
