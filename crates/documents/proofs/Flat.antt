-- Flat scans over the tokens of values, left sides, arguments and names give what the trees hold: the names of a value, the uses of
-- arguments, the `=` of a left side, the closing bracket of arguments. One token first, then values, then what is made of them.
-- Assumes nothing.
use mathlib.Core.Path.{◌≡◌, refl, sym, ap, subst, ◌∙◌}
use mathlib.Core.Bool.{Bool, true, false, cond, ◌&&◌, ◌||◌}
use mathlib.Core.List.{List, [], ◌∷◌, ◌++◌, flat_map, append_assoc}
use Prim.Native.Nat.{ℕ, suc}
use native.Mathlib.Omega.{arith}
use lib.Dec.{eqb}
use borrow.Author.Tests.{eqb-true, eq-eqb, ne_eqb}
use Rattle.lexis.specs.Lexer.{Token}
use Rattle.lexis.specs.Symbol.{sym_of, is_literal, right_round, equal, minus, a_name, a_number, a_literal}
use Rattle.syntax.specs.Tree.{Literal, Value, Values, Arg}
use Rattle.syntax.specs.Grammar.{IsLiteral, Separated, Leaves, Spells, Items, IsArg, IsLeft}
use Rattle.syntax.specs.Grammar.Separated.{last, next}
use Rattle.syntax.specs.Grammar.IsLiteral.{no_sign, a-sign}
use Rattle.syntax.specs.Grammar.Spells.{a-name, a-literal, an-empty-array, an-array, a-tuple}
use Rattle.syntax.specs.Grammar.Items.{last-item, next-item}
use Rattle.syntax.specs.Grammar.IsArg.{a-positional, a-named}
use Rattle.syntax.specs.Grammar.IsLeft.{one-pattern, a-bare-tuple}
use Rattle.syntax.specs.Parser.{begins}
use Rattle.lists.specs.Names.{those, first_token, names_in, names_of, value_of}
use Rattle.lists.specs.Scans.{names_among, uses_among, from_symbol, open_after, from_close}

-- ---- one token

module _ (t : Token) (ts : List Token) {s : ℕ} (h : sym_of t ≡ s) where
  -- no name
  pub names-past : eqb s a_name ≡ false → names_among (t ∷ ts) ≡ names_among ts
  unfolding those
  names-past n = simp (h, n)

  pub uses-past : eqb s a_name ≡ false → uses_among (t ∷ ts) ≡ uses_among ts
  unfolding uses_among
  uses-past n = simp (h, n)

  -- another terminal
  pub symbol-past : (x : ℕ) → eqb s x ≡ false → from_symbol x (t ∷ ts) ≡ from_symbol x ts
  unfolding from_symbol
  symbol-past x n = simp (h, n)

  pub close-past : (k j : ℕ) → open_after k s ≡ suc j → from_close k (t ∷ ts) ≡ from_close (suc j) ts
  unfolding from_close
  close-past k j e = simp (h, e, ne_eqb (suc j) 0 (λ z. omega arith))

module _ (t : Token) (ts : List Token) where
  pub names-here : sym_of t ≡ a_name → names_among (t ∷ ts) ≡ t ∷ names_among ts
  unfolding those
  names-here h = simp h

  uses-here : sym_of t ≡ a_name → begins equal ts ≡ false → uses_among (t ∷ ts) ≡ t ∷ uses_among ts
  unfolding uses_among
  uses-here h e = simp (h, e)

  -- a label
  uses-label : begins equal ts ≡ true → uses_among (t ∷ ts) ≡ uses_among ts
  unfolding uses_among
  uses-label e = simp e (no-use (eqb (sym_of t) a_name))
    where
      no-use : (c : Bool) → cond (c && false) (t ∷ uses_among ts) (uses_among ts) ≡ uses_among ts
      no-use true = refl
      no-use false = refl

  pub symbol-here : (x : ℕ) → sym_of t ≡ x → from_symbol x (t ∷ ts) ≡ t ∷ ts
  unfolding from_symbol
  symbol-here x h = simp (eq-eqb (sym_of t) x h)

-- ---- literals

-- the terminals of a literal
data InLiteral : ℕ → Type 0 where
  its-number : InLiteral a_number
  its-word : InLiteral a_literal
  its-sign : InLiteral minus

in-literal : (s : ℕ) → is_literal s ≡ true → InLiteral s
in-literal s h = go (eqb s a_number) refl h
  where
    go : (c : Bool) → eqb s a_number ≡ c → (c || eqb s a_literal) ≡ true → InLiteral s
    go true p e = subst InLiteral (sym (eqb-true s a_number p)) its-number
    go false p e = subst InLiteral (sym (eqb-true s a_literal e)) its-word

-- a scan that goes past each of them goes past a literal
literal-past : {X : Type 0} (F : List Token → X) → ((t : Token) (ts : List Token) (s : ℕ) → sym_of t ≡ s → InLiteral s → F (t ∷ ts) ≡ F ts)
    → {ts us : List Token} {l : Literal} → IsLiteral ts l us → F ts ≡ F us
literal-past F f (no_sign {t = t} {ts} h) = f t ts (sym_of t) refl (in-literal (sym_of t) h)
literal-past F f (a-sign {s = s} {t} {ts} h k) = f s (t ∷ ts) minus h its-sign ∙ f t ts a_number k its-number

module _ (t : Token) (ts : List Token) where
  literal-names : {s : ℕ} → sym_of t ≡ s → InLiteral s → names_among (t ∷ ts) ≡ names_among ts
  literal-names e its-number = names-past t ts e refl
  literal-names e its-word = names-past t ts e refl
  literal-names e its-sign = names-past t ts e refl

  literal-uses : {s : ℕ} → sym_of t ≡ s → InLiteral s → uses_among (t ∷ ts) ≡ uses_among ts
  literal-uses e its-number = uses-past t ts e refl
  literal-uses e its-word = uses-past t ts e refl
  literal-uses e its-sign = uses-past t ts e refl

  literal-symbol : {s : ℕ} → sym_of t ≡ s → InLiteral s → from_symbol equal (t ∷ ts) ≡ from_symbol equal ts
  literal-symbol e its-number = symbol-past t ts e equal refl
  literal-symbol e its-word = symbol-past t ts e equal refl
  literal-symbol e its-sign = symbol-past t ts e equal refl

  literal-close : (k : ℕ) {s : ℕ} → sym_of t ≡ s → InLiteral s → from_close (suc k) (t ∷ ts) ≡ from_close (suc k) ts
  unfolding open_after
  literal-close k e its-number = close-past t ts e (suc k) k refl
  literal-close k e its-word = close-past t ts e (suc k) k refl
  literal-close k e its-sign = close-past t ts e (suc k) k refl

-- ---- values

-- two parts of a list
part : {us ws : List Token} (xs ys zs : List Token) → us ≡ xs ++ ws → ws ≡ ys ++ zs → us ≡ (xs ++ ys) ++ zs
part xs ys zs p q = p ∙ ap (λ (l : List Token). xs ++ l) q ∙ sym (append_assoc xs ys zs)

-- one part, and nothing of the rest
alone : {us ws zs : List Token} (xs : List Token) → us ≡ xs ++ ws → ws ≡ zs → us ≡ (xs ++ []) ++ zs
alone {zs = zs} xs p q = part xs [] zs p q

mutual
  unfolding names_in names_of

  pub spells-names : {m : Leaves} {b : ℕ} {ts us : List Token} {v : Value} → Spells m b ts v us → names_among ts ≡ names_in v ++ names_among us
  spells-names (a-name {t = t} {ts} p h) = names-here t ts h
  spells-names (a-literal p h) = literal-past (λ ts. names_among ts) (λ t ts s e i. literal-names t ts e i) h
  spells-names (an-empty-array {o = o} {c} {ts} h k) = names-past o (c ∷ ts) h refl ∙ names-past c ts k refl
  spells-names (an-array {o = o} {ts} h i) = names-past o ts h refl ∙ items-names refl i
  spells-names (a-tuple {o = o} {c} {ts} {us} {ws} {v} {vs} h s k i) =
      names-past o ts h refl ∙ part (names_in v) (names_of vs) (names_among ws) (spells-names s) (names-past c us k refl ∙ items-names refl i)

  pub items-names : {m : Leaves} {close b : ℕ} {ts us : List Token} {vs : Values} → eqb close a_name ≡ false → Items m close b ts vs us
      → names_among ts ≡ names_of vs ++ names_among us
  items-names n (last-item {c = c} {us = us} {v} s k) = alone (names_in v) (spells-names s) (names-past c us k n)
  items-names n (next-item {c = c} {us = us} {ws} {v} {vs} s k i) =
      part (names_in v) (names_of vs) (names_among ws) (spells-names s) (names-past c us k refl ∙ items-names n i)

-- no `=` follows
other-begins : (c : Token) {s : ℕ} → sym_of c ≡ s → eqb s equal ≡ false → eqb (sym_of c) equal ≡ false
other-begins c h n = ap (λ (x : ℕ). eqb x equal) h ∙ n

mutual
  unfolding names_in names_of

  spells-uses : {m : Leaves} {b : ℕ} {ts us : List Token} {v : Value} → Spells m b ts v us → begins equal us ≡ false → uses_among ts ≡ names_in v ++ uses_among us
  spells-uses (a-name {t = t} {ts} p h) e = uses-here t ts h e
  spells-uses (a-literal p h) e = literal-past (λ ts. uses_among ts) (λ t ts s e i. literal-uses t ts e i) h
  spells-uses (an-empty-array {o = o} {c} {ts} h k) e = uses-past o (c ∷ ts) h refl ∙ uses-past c ts k refl
  spells-uses (an-array {o = o} {ts} h i) e = uses-past o ts h refl ∙ items-uses refl refl i
  spells-uses (a-tuple {o = o} {c} {ts} {us} {ws} {v} {vs} h s k i) e =
      uses-past o ts h refl
      ∙ part (names_in v) (names_of vs) (uses_among ws) (spells-uses s (other-begins c k refl)) (uses-past c us k refl ∙ items-uses refl refl i)

  items-uses : {m : Leaves} {close b : ℕ} {ts us : List Token} {vs : Values} → eqb close a_name ≡ false → eqb close equal ≡ false → Items m close b ts vs us
      → uses_among ts ≡ names_of vs ++ uses_among us
  items-uses n o (last-item {c = c} {us = us} {v} s k) = alone (names_in v) (spells-uses s (other-begins c k o)) (uses-past c us k n)
  items-uses n o (next-item {c = c} {us = us} {ws} {v} {vs} s k i) =
      part (names_in v) (names_of vs) (uses_among ws) (spells-uses s (other-begins c k refl)) (uses-past c us k refl ∙ items-uses n o i)

-- a scan F comes to a terminal before the tokens us
pub record Comes (F : List Token → List Token) (close : ℕ) (ts us : List Token) : Type 0 where
  pub token : Token
  pub closes : sym_of token ≡ close
  pub reached : F ts ≡ F (token ∷ us)

before : {F : List Token → List Token} {close : ℕ} {ts us : List Token} (ws : List Token) → F ts ≡ F ws → Comes F close ws us → Comes F close ts us
before ws e c = record { token = c.token; closes = c.closes; reached = e ∙ c.reached }

mutual
  spells-equal : {m : Leaves} {b : ℕ} {ts us : List Token} {v : Value} → Spells m b ts v us → from_symbol equal ts ≡ from_symbol equal us
  spells-equal (a-name {t = t} {ts} p h) = symbol-past t ts h equal refl
  spells-equal (a-literal p h) = literal-past (from_symbol equal) (λ t ts s e i. literal-symbol t ts e i) h
  spells-equal (an-empty-array {o = o} {c} {ts} h k) = symbol-past o (c ∷ ts) h equal refl ∙ symbol-past c ts k equal refl
  spells-equal (an-array {o = o} {ts} {us} h i) =
      let c = items-equal i in symbol-past o ts h equal refl ∙ c.reached ∙ symbol-past c.token us c.closes equal refl
  spells-equal (a-tuple {o = o} {c = q} {ts} {us} {ws} h s k i) =
      let c = items-equal i in
      symbol-past o ts h equal refl ∙ spells-equal s ∙ symbol-past q us k equal refl ∙ c.reached ∙ symbol-past c.token ws c.closes equal refl

  items-equal : {m : Leaves} {close b : ℕ} {ts us : List Token} {vs : Values} → Items m close b ts vs us → Comes (from_symbol equal) close ts us
  items-equal (last-item {c = c} s k) = record { token = c; closes = k; reached = spells-equal s }
  items-equal (next-item {c = c} {us = us} s k i) = before us (spells-equal s ∙ symbol-past c us k equal refl) (items-equal i)

mutual
  unfolding open_after

  spells-close : {m : Leaves} {b : ℕ} {ts us : List Token} {v : Value} → (k : ℕ) → Spells m b ts v us → from_close (suc k) ts ≡ from_close (suc k) us
  spells-close k (a-name {t = t} {ts} p h) = close-past t ts h (suc k) k refl
  spells-close k (a-literal p h) = literal-past (from_close (suc k)) (λ t ts s e i. literal-close t ts k e i) h
  spells-close k (an-empty-array {o = o} {c} {ts} h e) = close-past o (c ∷ ts) h (suc k) (suc k) refl ∙ close-past c ts e (suc (suc k)) k refl
  spells-close k (an-array {o = o} {ts} {us} h i) =
      let c = items-close (suc k) i in close-past o ts h (suc k) (suc k) refl ∙ c.reached ∙ close-past c.token us c.closes (suc (suc k)) k refl
  spells-close k (a-tuple {o = o} {c = q} {ts} {us} {ws} h s e i) =
      let c = items-close (suc k) i in
      close-past o ts h (suc k) (suc k) refl ∙ spells-close (suc k) s ∙ close-past q us e (suc (suc k)) (suc k) refl ∙ c.reached
      ∙ close-past c.token ws c.closes (suc (suc k)) k refl

  items-close : {m : Leaves} {close b : ℕ} {ts us : List Token} {vs : Values} → (k : ℕ) → Items m close b ts vs us → Comes (from_close (suc k)) close ts us
  items-close k (last-item {c = c} s e) = record { token = c; closes = e; reached = spells-close k s }
  items-close k (next-item {c = c} {us = us} s e i) = before us (spells-close k s ∙ close-past c us e (suc k) k refl) (items-close k i)

-- ---- left sides

-- the `=` of a left side
pub left-equal : {b : ℕ} {ts us : List Token} {v : Value} → IsLeft b ts v us → Comes (from_symbol equal) equal ts us
left-equal (one-pattern {e = e} s h) = record { token = e; closes = h; reached = spells-equal s }
left-equal (a-bare-tuple {t = t} {c} {ts} {us} s h i) = before us (spells-equal s ∙ symbol-past c us h equal refl) (items-equal i)

pub left-names : {b : ℕ} {ts us : List Token} {v : Value} → IsLeft b ts v us → names_among ts ≡ names_in v ++ names_among us
unfolding names_in names_of
left-names (one-pattern {e = e} {us = us} {v} s h) = spells-names s ∙ ap (λ (l : List Token). names_in v ++ l) (names-past e us h refl)
left-names (a-bare-tuple {c = c} {us = us} {ws} {v} {vs} s h i) =
    part (names_in v) (names_of vs) (names_among ws) (spells-names s) (names-past c us h refl ∙ items-names refl i)

-- the first token of a left side
pub record Starts (v : Value) (ts : List Token) : Type 0 where
  pub others : List Token
  pub whole : ts ≡ first_token v ∷ others

spells-starts : {m : Leaves} {b : ℕ} {ts us : List Token} {v : Value} → Spells m b ts v us → Starts v ts
spells-starts (a-name {ts = ts} p h) = record { others = ts; whole = refl }
spells-starts (a-literal p (no_sign {ts = ts} h)) = record { others = ts; whole = refl }
spells-starts (a-literal p (a-sign {t = t} {ts} h k)) = record { others = t ∷ ts; whole = refl }
spells-starts (an-empty-array {c = c} {ts} h k) = record { others = c ∷ ts; whole = refl }
spells-starts (an-array {ts = ts} h i) = record { others = ts; whole = refl }
spells-starts (a-tuple {ts = ts} h s k i) = record { others = ts; whole = refl }

pub left-starts : {b : ℕ} {ts us : List Token} {v : Value} → IsLeft b ts v us → Starts v ts
left-starts (one-pattern s h) = spells-starts s
left-starts (a-bare-tuple {ts = ts} s h i) = record { others = ts; whole = refl }

-- ---- arguments

argument-uses : {b : ℕ} {ts us : List Token} {x : Arg} → IsArg b ts x us → begins equal us ≡ false → uses_among ts ≡ names_in (value_of x) ++ uses_among us
argument-uses (a-positional s) e = spells-uses s e
argument-uses (a-named {n = n} {e} {ts} hn he s) q = uses-label n (e ∷ ts) (eq-eqb (sym_of e) equal he) ∙ uses-past e ts he refl ∙ spells-uses s q

abbrev uses_of : List Arg → List Token
uses_of xs = flat_map (λ (a : Arg). names_in (value_of a)) xs

pub arguments-uses : {b : ℕ} {ts us : List Token} {xs : List Arg} → Separated (IsArg b) right_round ts xs us → uses_among ts ≡ uses_of xs ++ uses_among us
unfolding flat_map
arguments-uses (last {c = c} {us = us} {a = x} h e) = alone (names_in (value_of x)) (argument-uses h (other-begins c e refl)) (uses-past c us e refl)
arguments-uses (next {c = c} {us = us} {ws} {a = x} {xs} h e r) =
    part (names_in (value_of x)) (uses_of xs) (uses_among ws) (argument-uses h (other-begins c e refl)) (uses-past c us e refl ∙ arguments-uses r)

argument-close : {b : ℕ} {ts us : List Token} {x : Arg} → IsArg b ts x us → from_close 1 ts ≡ from_close 1 us
unfolding open_after
argument-close (a-positional s) = spells-close 0 s
argument-close (a-named {n = n} {e} {ts} hn he s) = close-past n (e ∷ ts) hn 1 0 refl ∙ close-past e ts he 1 0 refl ∙ spells-close 0 s

-- the closing bracket of arguments
pub arguments-close : {b : ℕ} {ts us : List Token} {xs : List Arg} → Separated (IsArg b) right_round ts xs us → Comes (from_close 1) right_round ts us
unfolding open_after
arguments-close (last {c = c} h e) = record { token = c; closes = e; reached = argument-close h }
arguments-close (next {c = c} {us = us} h e r) = before us (argument-close h ∙ close-past c us e 1 0 refl) (arguments-close r)

-- a scan that has come to a closing bracket stops
pub close-here : (t : Token) (ts : List Token) → sym_of t ≡ right_round → from_close 1 (t ∷ ts) ≡ t ∷ ts
unfolding from_close open_after
close-here t ts h = simp h

-- ---- rows of names

module _ {Item : List Token → Token → List Token → Type 0}
    (is : (ts : List Token) (t : Token) (us : List Token) → Item ts t us → (ts ≡ t ∷ us) × (sym_of t ≡ a_name)) where
  pub row-names : {ts us : List Token} {xs : List Token} → Separated Item right_round ts xs us → names_among ts ≡ xs ++ names_among us
  row-names {ts} (last {c = c} {us = us} {a = t} h e) =
      let p = is ts t (c ∷ us) h in ap names_among p.0 ∙ names-here t (c ∷ us) p.1 ∙ ap (λ (l : List Token). t ∷ l) (names-past c us e refl)
  row-names {ts} (next {c = c} {us = us} {a = t} h e r) =
      let p = is ts t (c ∷ us) h in ap names_among p.0 ∙ names-here t (c ∷ us) p.1 ∙ ap (λ (l : List Token). t ∷ l) (names-past c us e refl ∙ row-names r)

  pub row-close : {ts us : List Token} {xs : List Token} → Separated Item right_round ts xs us → Comes (from_symbol right_round) right_round ts us
  row-close {ts} (last {c = c} {us = us} {a = t} h e) =
      let p = is ts t (c ∷ us) h in
      record { token = c; closes = e; reached = ap (from_symbol right_round) p.0 ∙ symbol-past t (c ∷ us) p.1 right_round refl }
  row-close {ts} (next {c = c} {us = us} {a = t} h e r) =
      let p = is ts t (c ∷ us) h in
      before us (ap (from_symbol right_round) p.0 ∙ symbol-past t (c ∷ us) p.1 right_round refl ∙ symbol-past c us e right_round refl) (row-close r)
