-- Names with a number each: the number of a name among entries and more entries, the inputs of a header, and the calls that assign a name.
use Prim.Native.Nat.{ℕ, zero, suc, ◌+◌, ◌-◌, ◌<◌}
use mathlib.Core.Path.{◌≡◌, refl, sym, ap, ap₂, ◌∙◌}
use mathlib.Core.Bool.{Bool, true, false, cond, not, ◌||◌}
use mathlib.Core.List.{List, [], ◌∷◌, ◌++◌, flat_map, append_assoc, append-nil}
use native.Mathlib.Omega.{arith}
use lib.Dec.{eqb, ltb}
use lib.ListN.{length}
use borrow.Author.Tests.{eq-eqb, ne_eqb, lt-ltb, le-ltb}
use Rattle.spellings.specs.Comparison.{same_bytes}
use Rattle.lexis.specs.Lexer.{Token}
use Rattle.syntax.specs.Tree.{Call}
use Rattle.index.specs.Mapped.{kept, keeping}
use Rattle.lists.specs.Names.{is_among, assigned, all_assigned}
use Rattle.documents.specs.Tables.{assigner}
use Rattle.documents.specs.Naming.{Entry, numbered, entry_number, input_word, output_word, headed, assigners_from, assigners}
use Rattle.documents.specs.Records.{wired}
use Rattle.documents.proofs.Lookups.{among-append}

-- ---- numbers that are kept

pub kept-some : (a b : ℕ) → (a ≡ 0 → ⊥) → kept a b ≡ a
kept-some a b h = ap (λ (c : Bool). cond c b a) (ne_eqb a 0 h)

kept-none : (a b : ℕ) → a ≡ 0 → kept a b ≡ b
kept-none a b h = ap (λ (c : Bool). cond c b a) (eq-eqb a 0 h)

kept-zero : (a : ℕ) → kept a 0 ≡ a
kept-zero zero = kept-none 0 0 refl
kept-zero (suc a) = kept-some (suc a) 0 (λ e. omega arith)

kept-assoc : (a b c : ℕ) → kept (kept a b) c ≡ kept a (kept b c)
kept-assoc zero b c = ap (λ (x : ℕ). kept x c) (kept-none 0 b refl) ∙ sym (kept-none 0 (kept b c) refl)
kept-assoc (suc a) b c =
    ap (λ (x : ℕ). kept x c) (kept-some (suc a) b (λ e. omega arith))
    ∙ kept-some (suc a) c (λ e. omega arith)
    ∙ sym (kept-some (suc a) (kept b c) (λ e. omega arith))

-- ---- entries after entries

pub number_append : (es fs : List Entry) (w : List ℕ) → entry_number (es ++ fs) w ≡ kept (entry_number es w) (entry_number fs w)
unfolding entry_number
number_append [] fs w = sym (kept-none 0 (entry_number fs w) refl)
number_append (e ∷ es) fs w =
    let a = cond (same_bytes e.name.bytes w) e.number 0 in
    ap (kept a) (number_append es fs w) ∙ sym (kept-assoc a (entry_number es w) (entry_number fs w))

-- one entry more
pub number-last : (es : List Entry) (x : ℕ) (t : Token) (w : List ℕ) → entry_number (es ++ numbered x (t ∷ [])) w ≡ keeping (entry_number es) t.bytes x w
unfolding entry_number
number-last es x t w = number_append es (numbered x (t ∷ [])) w ∙ ap (kept (entry_number es w)) (kept-zero (cond (same_bytes t.bytes w) x 0))

pub numbered-append : (x : ℕ) (ss ts : List Token) → numbered x (ss ++ ts) ≡ numbered x ss ++ numbered x ts
numbered-append x [] ts = refl
numbered-append x (s ∷ ss) ts = ap (λ (l : List Entry). record { name = s; number = x } ∷ l) (numbered-append x ss ts)

-- ---- one number for all

number_same : (x : ℕ) (ss : List Token) (t : Token) → entry_number (numbered x ss) t.bytes ≡ cond (is_among ss t) x 0
unfolding entry_number is_among
number_same x [] t = refl
number_same x (s ∷ ss) t = by (same_bytes s.bytes t.bytes) (number_same x ss t)
  where
    by : (b : Bool) → entry_number (numbered x ss) t.bytes ≡ cond (is_among ss t) x 0
        → kept (cond b x 0) (entry_number (numbered x ss) t.bytes) ≡ cond (b || is_among ss t) x 0
    by true e = ap (kept x) e ∙ both (is_among ss t)
      where
        both : (c : Bool) → kept x (cond c x 0) ≡ x
        both true = self x
          where
            self : (y : ℕ) → kept y y ≡ y
            self zero = refl
            self (suc y) = kept-some (suc y) (suc y) (λ e. omega arith)
        both false = kept-zero x
    by false e = kept-none 0 (entry_number (numbered x ss) t.bytes) refl ∙ e

-- a name has a number where it is among the names
is-listed : (x : ℕ) → 0 < x → (b : Bool) → not (eqb (cond b x 0) 0) ≡ b
is-listed x h true = ap not (ne_eqb x 0 (λ e. omega arith))
is-listed x h false = refl

either : (a b : ℕ) (p q : Bool) → not (eqb a 0) ≡ p → not (eqb b 0) ≡ q → not (eqb (kept a b) 0) ≡ (p || q)
either zero b p q e f = ap (λ (c : ℕ). not (eqb c 0)) (kept-none 0 b refl) ∙ f ∙ ap (λ (c : Bool). c || q) e
either (suc a) b p q e f =
    ap (λ (c : ℕ). not (eqb c 0)) (kept-some (suc a) b (λ z. omega arith)) ∙ one ∙ sym (ap (λ (c : Bool). c || q) (sym e ∙ one))
  where
    one : not (eqb (suc a) 0) ≡ true
    one = ap not (ne_eqb (suc a) 0 (λ z. omega arith))

pub same-listed : (x : ℕ) (ss : List Token) (t : Token) → 0 < x → not (eqb (entry_number (numbered x ss) t.bytes) 0) ≡ is_among ss t
same-listed x ss t h = ap (λ (c : ℕ). not (eqb c 0)) (number_same x ss t) ∙ is-listed x h (is_among ss t)

-- ---- a header

module _ (before ss : List Token) (x : ℕ) (h : 0 < x) (t : Token) where
  pub header-listed : not (eqb (entry_number (numbered input_word before ++ numbered x ss) t.bytes) 0) ≡ is_among (before ++ ss) t
  header-listed =
      ap (λ (c : ℕ). not (eqb c 0)) (number_append (numbered input_word before) (numbered x ss) t.bytes)
      ∙ either (entry_number (numbered input_word before) t.bytes) (entry_number (numbered x ss) t.bytes) (is_among before t) (is_among ss t)
      (same-listed input_word before t (omega arith)) (same-listed x ss t h)
      ∙ sym (among-append before ss t)

pub header-input : (ins outs : List Token) (t : Token) → eqb (entry_number (headed ins outs) t.bytes) input_word ≡ is_among ins t
header-input ins outs t =
    ap (λ (c : ℕ). eqb c input_word)
    (number_append (numbered input_word ins) (numbered output_word outs) t.bytes ∙ ap₂ kept (number_same input_word ins t) (number_same output_word outs t))
    ∙ by (is_among ins t) (is_among outs t)
  where
    by : (p q : Bool) → eqb (kept (cond p input_word 0) (cond q output_word 0)) input_word ≡ p
    by true q = refl
    by false true = refl
    by false false = refl

-- ---- the calls that assign a name

pub assigners-last : (k : ℕ) (ds : List Call) (c : Call)
    → assigners_from k (ds ++ (c ∷ [])) ≡ assigners_from k ds ++ numbered (suc (k + length ds)) (assigned c)
unfolding assigners_from
assigners-last k [] c =
    let z : suc k ≡ suc (k + 0) = omega arith in append-nil (numbered (suc k) (assigned c)) ∙ ap (λ (x : ℕ). numbered x (assigned c)) z
assigners-last k (d ∷ ds) c =
    let z : suc (suc k + length ds) ≡ suc (k + length (d ∷ ds)) = omega arith in
    ap (λ (l : List Entry). numbered (suc k) (assigned d) ++ l)
    (assigners-last (suc k) ds c ∙ ap (λ (x : ℕ). assigners_from (suc k) ds ++ numbered x (assigned c)) z)
    ∙ sym (append_assoc (numbered (suc k) (assigned d)) (assigners_from (suc k) ds) (numbered (suc (k + length (d ∷ ds))) (assigned c)))

-- the number is that of the first call that assigns it; every number is above k, and none beyond the last call's
assigner-from : (k : ℕ) (ds : List Call) (t : Token)
    → entry_number (assigners_from k ds) t.bytes ≡ cond (is_among (all_assigned ds) t) (suc (k + assigner ds t)) 0
unfolding assigners_from entry_number all_assigned flat_map is_among assigner
assigner-from k [] t = refl
assigner-from k (c ∷ cs) t =
    number_append (numbered (suc k) (assigned c)) (assigners_from (suc k) cs) t.bytes
    ∙ ap₂ kept (number_same (suc k) (assigned c) t) (assigner-from (suc k) cs t)
    ∙ by (is_among (assigned c) t) (is_among (all_assigned cs) t)
    ∙ ap₂ (λ (p : Bool) (x : ℕ). cond p (suc (k + x)) 0) (sym (among-append (assigned c) (all_assigned cs) t)) refl
  where
    by : (p q : Bool) → kept (cond p (suc k) 0) (cond q (suc (suc k + assigner cs t)) 0)
        ≡ cond (p || q) (suc (k + cond p 0 (suc (assigner cs t)))) 0
    by true q = let z : suc k ≡ suc (k + 0) = omega arith in kept-some (suc k) _ (λ e. omega arith) ∙ z
    by false true = let z : suc (suc k + assigner cs t) ≡ suc (k + suc (assigner cs t)) = omega arith in kept-none 0 _ refl ∙ z
    by false false = refl

pub assigner-below : (ds : List Call) (t : Token) → is_among (all_assigned ds) t ≡ true → assigner ds t < length ds
unfolding all_assigned flat_map is_among assigner
assigner-below [] t h = let z : ◌≡◌ {A = ℕ} 0 1 = cc in absurd (omega arith)
assigner-below (c ∷ cs) t h = by (is_among (assigned c) t) refl (sym (among-append (assigned c) (all_assigned cs) t) ∙ h) (assigner-below cs t)
  where
    by : (p : Bool) → is_among (assigned c) t ≡ p → (is_among (assigned c) t || is_among (all_assigned cs) t) ≡ true
        → (is_among (all_assigned cs) t ≡ true → assigner cs t < length cs) → cond (is_among (assigned c) t) 0 (suc (assigner cs t)) < length (c ∷ cs)
    by true e q ih = let z : cond (is_among (assigned c) t) 0 (suc (assigner cs t)) ≡ 0 = ap (λ (b : Bool). cond b 0 (suc (assigner cs t))) e in omega arith
    by false e q ih =
        let l = ih (sym (ap (λ (b : Bool). b || is_among (all_assigned cs) t) e) ∙ q) in
        let z : cond (is_among (assigned c) t) 0 (suc (assigner cs t)) ≡ suc (assigner cs t) = ap (λ (b : Bool). cond b 0 (suc (assigner cs t))) e in
        omega arith

-- whatever calls follow
pub assigner-kept : (ds rest : List Call) (t : Token) → is_among (all_assigned ds) t ≡ true → assigner (ds ++ rest) t ≡ assigner ds t
unfolding all_assigned flat_map is_among assigner
assigner-kept [] rest t h = let z : ◌≡◌ {A = ℕ} 0 1 = cc in absurd (omega arith)
assigner-kept (c ∷ cs) rest t h = by (is_among (assigned c) t) refl (sym (among-append (assigned c) (all_assigned cs) t) ∙ h) (assigner-kept cs rest t)
  where
    by : (p : Bool) → is_among (assigned c) t ≡ p → (is_among (assigned c) t || is_among (all_assigned cs) t) ≡ true
        → (is_among (all_assigned cs) t ≡ true → assigner (cs ++ rest) t ≡ assigner cs t)
        → cond (is_among (assigned c) t) 0 (suc (assigner (cs ++ rest) t)) ≡ cond (is_among (assigned c) t) 0 (suc (assigner cs t))
    by true e q ih = ap (λ (b : Bool). cond b 0 (suc (assigner (cs ++ rest) t))) e ∙ sym (ap (λ (b : Bool). cond b 0 (suc (assigner cs t))) e)
    by false e q ih =
        ap (λ (x : ℕ). cond (is_among (assigned c) t) 0 (suc x)) (ih (sym (ap (λ (b : Bool). b || is_among (all_assigned cs) t) e) ∙ q))

-- ---- within call number k, after the calls ds and the names ss of its own left side

module _ (ds : List Call) (ss : List Token) (k : ℕ) (e : k ≡ length ds) (t : Token) where
  abbrev number : ℕ
  number = entry_number (assigners ds ++ numbered (suc k) ss) t.bytes

  number_is : number ≡ kept (cond (is_among (all_assigned ds) t) (suc (assigner ds t)) 0) (cond (is_among ss t) (suc k) 0)
  number_is =
      number_append (assigners ds) (numbered (suc k) ss) t.bytes
      ∙ ap₂ kept (assigner-from 0 ds t ∙ ap (λ (x : ℕ). cond (is_among (all_assigned ds) t) (suc x) 0) z) (number_same (suc k) ss t)
    where
      z : 0 + assigner ds t ≡ assigner ds t
      z = omega arith

  -- it is assigned already
  pub assigned-before : not (eqb number 0) ≡ is_among (all_assigned ds ++ ss) t
  assigned-before = ap (λ (c : ℕ). not (eqb c 0)) number_is ∙ by (is_among (all_assigned ds) t) (is_among ss t) ∙ sym (among-append (all_assigned ds) ss t)
    where
      by : (p q : Bool) → not (eqb (kept (cond p (suc (assigner ds t)) 0) (cond q (suc k) 0)) 0) ≡ (p || q)
      by p q =
          either (cond p (suc (assigner ds t)) 0) (cond q (suc k) 0) p q (is-listed (suc (assigner ds t)) (omega arith) p) (is-listed (suc k) (omega arith) q)

  known : is_among (all_assigned ds) t ≡ true → number ≡ suc (assigner ds t)
  known h =
      number_is
      ∙ ap (λ (p : Bool). kept (cond p (suc (assigner ds t)) 0) (cond (is_among ss t) (suc k) 0)) h
      ∙ kept-some (suc (assigner ds t)) _ (λ z. omega arith)

  -- by none of the calls before
  pub unwired-is : cond (eqb number 0) (eqb number 0) (ltb k number) ≡ not (is_among (all_assigned ds) t)
  unwired-is = by (is_among (all_assigned ds) t) refl (is_among ss t) refl
    where
      as_number : {x : ℕ} → number ≡ x → cond (eqb number 0) (eqb number 0) (ltb k number) ≡ cond (eqb x 0) (eqb x 0) (ltb k x)
      as_number q = ap (λ (y : ℕ). cond (eqb y 0) (eqb y 0) (ltb k y)) q

      by : (p : Bool) → is_among (all_assigned ds) t ≡ p → (q : Bool) → is_among ss t ≡ q
          → cond (eqb number 0) (eqb number 0) (ltb k number) ≡ not (is_among (all_assigned ds) t)
      by true h q g =
          let l = assigner-below ds t h in
          as_number (known h)
          ∙ ap (λ (b : Bool). cond b b (ltb k (suc (assigner ds t)))) (ne_eqb (suc (assigner ds t)) 0 (λ z. omega arith))
          ∙ le-ltb k (suc (assigner ds t)) (omega arith)
          ∙ sym (ap not h)
      by false h true g =
          as_number (number_is ∙ ap₂ (λ (p q : Bool). kept (cond p (suc (assigner ds t)) 0) (cond q (suc k) 0)) h g ∙ kept-none 0 (suc k) refl)
          ∙ ap (λ (b : Bool). cond b b (ltb k (suc k))) (ne_eqb (suc k) 0 (λ z. omega arith))
          ∙ lt-ltb k (suc k) (omega arith)
          ∙ sym (ap not h)
      by false h false g =
          as_number (number_is ∙ ap₂ (λ (p q : Bool). kept (cond p (suc (assigner ds t)) 0) (cond q (suc k) 0)) h g)
          ∙ sym (ap not h)

  -- by the call that the wire names
  pub wired-is : is_among (all_assigned ds) t ≡ true → wired number k ≡ assigner ds t
  wired-is h =
      let l = assigner-below ds t h in
      let z : suc (assigner ds t) - 1 ≡ assigner ds t = omega arith in
      ap (λ (x : ℕ). wired x k) (known h)
      ∙ ap (λ (b : Bool). cond b 0 (cond (ltb k (suc (assigner ds t))) 0 (suc (assigner ds t) - 1))) (ne_eqb (suc (assigner ds t)) 0 (λ y. omega arith))
      ∙ ap (λ (b : Bool). cond b 0 (suc (assigner ds t) - 1)) (le-ltb k (suc (assigner ds t)) (omega arith))
      ∙ z

-- a name that no call assigns
pub unassigned-is : (cs : List Call) (t : Token) → eqb (entry_number (assigners cs) t.bytes) 0 ≡ not (is_among (all_assigned cs) t)
unassigned-is cs t = ap (λ (x : ℕ). eqb x 0) (assigner-from 0 cs t) ∙ by (is_among (all_assigned cs) t)
  where
    by : (b : Bool) → eqb (cond b (suc (0 + assigner cs t)) 0) 0 ≡ not b
    by true = ne_eqb (suc (0 + assigner cs t)) 0 (λ e. omega arith)
    by false = refl
