-- The arguments of a call, read in a table: one with a label and one without; and the tally of one argument more, by each way that the
-- code takes.
use mathlib.Core.Path.{◌≡◌, refl, sym, ap, ◌∙◌}
use mathlib.Core.Bool.{Bool, true, false, cond, ◌&&◌, ◌||◌, true≢false, false≢true}
use mathlib.Core.List.{List, [], ◌∷◌}
use Prim.Native.Nat.{ℕ, zero, suc, ◌+◌, ◌<◌}
use native.Mathlib.Omega.{arith}
use lib.Dec.{eqb}
use Rattle.lexis.specs.Lexer.{Token}
use Rattle.lexis.specs.Symbol.{sym_of, is_literal, left_round, left_square, equal, minus, a_name, a_number}
use Rattle.syntax.specs.Tree.{unsigned, negated, Value, Values, Arg}
use Rattle.syntax.specs.Tree.Value.{name, literal, array, tuple}
use Rattle.syntax.specs.Tree.Arg.{positional, named}
use Rattle.syntax.specs.Grammar.{both}
use Rattle.syntax.specs.Parser.{expect, negative, Parse, then, mapped, rest, begins, value_step, array_items, tuple_items, bracketed, value, labelled, argument}
use Rattle.syntax.specs.Parser.Parse.{ok, bad}
use Rattle.syntax.specs.Table.{token_at, toks}
use Rattle.syntax.specs.Inner.{is_label}
use Rattle.syntax.proofs.Table.{toks-rest}
use Rattle.syntax.proofs.Symbols.{begins-look}
use Rattle.lists.specs.Names.{first_token}
use Rattle.documents.proofs.RowParses.{mapped-ok}
use Rattle.documents.proofs.Items.{clash, token-there, token-is}

-- ---- values by their first token

-- what is read from a token t and the tokens us: t itself where it is a name; a tree that starts with it and is no name where not
data Reads (t : Token) (us : List Token) : Bool → Parse Value → Type 0 where
  a-fault : {b : Bool} {c : ℕ} {ws : List Token} → Reads t us b (bad c ws)
  a-name : Reads t us true (ok (name t) us)
  a-literal : Reads t us false (ok (literal (unsigned t)) us)
  a-negative : {n : Token} {ws : List Token} → Reads t us false (ok (literal (negated t n)) ws)
  an-array : {vs : Values} {ws : List Token} → Reads t us false (ok (array t vs) ws)
  a-tuple : {vs : Values} {ws : List Token} → Reads t us false (ok (tuple t vs) ws)

module _ (t : Token) (us : List Token) where
  reads-array : (p : Parse Values) → Reads t us false (mapped (array t) p)
  reads-array (ok vs ws) = an-array
  reads-array (bad c ws) = a-fault

  reads-tuple : (p : Parse Values) → Reads t us false (mapped (tuple t) p)
  reads-tuple (ok vs ws) = a-tuple
  reads-tuple (bad c ws) = a-fault

  reads-either : (b : Bool) (p q : Parse Values) → Reads t us false (cond b (mapped (array t) p) (mapped (tuple t) q))
  reads-either true p q = reads-array p
  reads-either false p q = reads-tuple q

  reads-negative : Reads t us false (negative t us)
  unfolding negative
  reads-negative = go (expect a_number us)
    where
      go : (p : Parse Token) → Reads t us false (mapped (λ n. literal (negated t n)) p)
      go (ok n ws) = a-negative
      go (bad c ws) = a-fault

  reads-step : (p q s r : Bool) {x : Parse Value} → Reads t us false x
      → Reads t us p (cond p (ok (name t) us) (cond q (ok (literal (unsigned t)) us) (cond s (negative t us) (cond r x (bad 9 (t ∷ us))))))
  reads-step true q s r y = a-name
  reads-step false true s r y = a-literal
  reads-step false false true r y = reads-negative
  reads-step false false false true y = y
  reads-step false false false false y = a-fault

  value-reads : (b : ℕ) → Reads t us (eqb (sym_of t) a_name) (value both b (t ∷ us))
  unfolding value value_step bracketed
  value-reads zero = reads-step (eqb (sym_of t) a_name) (is_literal (sym_of t)) (eqb (sym_of t) minus) (eqb (sym_of t) left_square || eqb (sym_of t) left_round) a-fault
  value-reads (suc b) =
      reads-step (eqb (sym_of t) a_name) (is_literal (sym_of t)) (eqb (sym_of t) minus) (eqb (sym_of t) left_square || eqb (sym_of t) left_round)
      (reads-either (eqb (sym_of t) left_square) (array_items (λ ws. value both b ws) us) (tuple_items (λ ws. value both b ws) us))

no_value : (b : ℕ) {v : Value} {us : List Token} {X : Type 0} → value both b [] ≡ ok v us → X
unfolding value value_step
no_value zero h = clash cc
no_value (suc b) h = clash cc

ok-tree : {v w : Value} {us ws : List Token} → ok v us ≡ ok w ws → first_token w ≡ first_token v
ok-tree {v} {w} h = let z : v ≡ w = cc in ap first_token (sym z)

first-is : {t : Token} {us ws : List Token} {b : Bool} {v : Value} {p : Parse Value} → Reads t us b p → p ≡ ok v ws → first_token v ≡ t
first-is a-fault h = clash cc
first-is a-name h = ok-tree h
first-is a-literal h = ok-tree h
first-is a-negative h = ok-tree h
first-is an-array h = ok-tree h
first-is a-tuple h = ok-tree h

-- a value starts with the token at its place
pub record Starts (text table : List ℕ) (n i : ℕ) (v : Value) : Type 0 where
  pub within : i < n
  pub first : first_token v ≡ token_at text table i

pub value-starts : (text table : List ℕ) (n i b : ℕ) {v : Value} {us : List Token} → value both b (toks text table n i) ≡ ok v us → Starts text table n i v
value-starts text table n i b {v} {us} h = go (toks text table n i) refl h
  where
    go : (ts : List Token) → toks text table n i ≡ ts → value both b ts ≡ ok v us → Starts text table n i v
    go [] e k = no_value b k
    go (t ∷ ts) e k = record { within = token-there text table n i e; first = first-is (value-reads t ts b) k ∙ token-is text table n i e }

-- ---- arguments

-- an argument with a label, or without one
data Labels (b : ℕ) (t : Token) (us : List Token) (ws : List Token) : Bool → Arg → Type 0 where
  label : {v : Value} → value both b (rest us) ≡ ok v ws → Labels b t us ws true (named t v)
  bare : {v : Value} → value both b (t ∷ us) ≡ ok v ws → Labels b t us ws false (positional v)

module _ (b : ℕ) (t : Token) (us : List Token) {x : Arg} {ws : List Token} where
  plain-labels : (v : Value) (q : Bool) {vs : List Token} → value both b (t ∷ us) ≡ ok v vs → ok (positional v) vs ≡ ok x ws → Labels b t us ws false x
  plain-labels v q {vs} e h =
      let y : positional v ≡ x = cc in
      let z : vs ≡ ws = cc in
      rw (← y) (bare (e ∙ ap (λ (l : List Token). ok v l) z))

  name-labels : (q : Bool) → value both b (t ∷ us) ≡ ok (name t) us → labelled (name t) q b us ≡ ok x ws → Labels b t us ws q x
  name-labels true e h = let m = mapped-ok (named t) (value both b (rest us)) h in rw (sym m.made) (label m.one)
  name-labels false e h = plain-labels (name t) false e h

  labels-by : {p : Bool} {r : Parse Value} → Reads t us p r → value both b (t ∷ us) ≡ r → then r (λ v ws. labelled v (begins equal ws) b ws) ≡ ok x ws
      → Labels b t us ws (p && begins equal us) x
  labels-by a-fault e h = clash cc
  labels-by a-name e h = name-labels (begins equal us) e h
  labels-by a-literal e h = plain-labels (literal (unsigned t)) false e h
  labels-by (a-negative {n = n}) e h = plain-labels (literal (negated t n)) false e h
  labels-by (an-array {vs = vs}) e h = plain-labels (array t vs) false e h
  labels-by (a-tuple {vs = vs}) e h = plain-labels (tuple t vs) false e h

  argument-labels : argument b (t ∷ us) ≡ ok x ws → Labels b t us ws (is_label (t ∷ us)) x
  unfolding argument
  argument-labels h =
      rw (sym (begins-look equal us (omega arith))) (labels-by (value-reads t us b) refl h)

no-argument : (b : ℕ) {x : Arg} {us : List Token} {X : Type 0} → argument b [] ≡ ok x us → X
unfolding argument value value_step
no-argument zero h = clash cc
no-argument (suc b) h = clash cc

module _ (text table : List ℕ) (n i b : ℕ) {x : Arg} {ws : List Token} (h : argument b (toks text table n i) ≡ ok x ws) where
  -- with a label: the token at its place, and a value two tokens on
  pub record Labelled : Type 0 where
    pub tree : Value
    pub reads : value both b (toks text table n (i + 2)) ≡ ok tree ws
    pub is : x ≡ named (token_at text table i) tree

  pub record Bare : Type 0 where
    pub tree : Value
    pub reads : value both b (toks text table n i) ≡ ok tree ws
    pub is : x ≡ positional tree

  pub with-label : is_label (toks text table n i) ≡ true → Labelled
  with-label l = go (toks text table n i) refl l h
    where
      made : {t : Token} {us : List Token} {c : Bool} → toks text table n i ≡ t ∷ us → c ≡ true → {y : Arg} → y ≡ x → Labels b t us ws c y → Labelled
      made {t} {us} e q y (label {v = v} k) =
          let z : i + 1 + 1 ≡ i + 2 = omega arith in
          let r : rest us ≡ toks text table n (i + 2) = sym (ap (λ (ts : List Token). rest (rest ts)) e) ∙ ap rest (toks-rest text table n i)
          ∙ toks-rest text table n (i + 1) ∙ ap (λ (m : ℕ). toks text table n m) z in
          record { tree = v; reads = ap (value both b) (sym r) ∙ k; is = sym y ∙ ap (λ (s : Token). named s v) (token-is text table n i e) }
      made e q y (bare k) = absurd (false≢true q)

      go : (ts : List Token) → toks text table n i ≡ ts → is_label ts ≡ true → argument b ts ≡ ok x ws → Labelled
      go [] e q k = absurd (false≢true q)
      go (t ∷ us) e q k = made e q refl (argument-labels b t us k)

  pub without-label : is_label (toks text table n i) ≡ false → Bare
  without-label l = go (toks text table n i) refl l h
    where
      made : {t : Token} {us : List Token} {c : Bool} → toks text table n i ≡ t ∷ us → c ≡ false → {y : Arg} → y ≡ x → Labels b t us ws c y → Bare
      made e q y (label k) = absurd (true≢false q)
      made e q y (bare {v = v} k) = record { tree = v; reads = ap (value both b) e ∙ k; is = sym y }

      none : argument b [] ≡ ok x ws → Bare
      none k = no-argument b k

      go : (ts : List Token) → toks text table n i ≡ ts → is_label ts ≡ false → argument b ts ≡ ok x ws → Bare
      go [] e q k = none k
      go (t ∷ us) e q k = made e q refl (argument-labels b t us k)
