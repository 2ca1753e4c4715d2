-- What the readers of documents answer at each of their ways out. Assumes nothing.
use mathlib.Core.Path.{◌≡◌, refl, sym, ap, ◌∙◌}
use mathlib.Core.Bool.{Bool, true, false, cond}
use Prim.Native.Nat.{ℕ, zero, suc, ◌+◌, ◌-◌, ◌<◌, ◌≤◌}
use native.Mathlib.Omega.{arith}
use mathlib.Core.List.{List, [], ◌∷◌}
use lib.Dec.{eqb}
use lib.ListN.{length}
use borrow.Author.Tests.{eq-eqb, ne_eqb, eqb-true}
use Rattle.lexis.specs.Sizes.{max_brackets}
use Rattle.lexis.specs.Lexer.{Token}
use Rattle.syntax.specs.Read.{Parsed}
use Rattle.syntax.specs.Read.Parsed.{Done, Fault}
use Rattle.syntax.specs.declared.list.Item.TheVariants.{Name, Argument}
use Rattle.lexis.specs.Symbol.{sym_of, left_round, right_round, left_curly, right_curly, equal, comma, semicolon, arrow, a_name, a_number, version, graph}
use Rattle.syntax.specs.Tree.{Value, Call}
use Rattle.syntax.specs.Tree.Value.{tuple}
use Rattle.syntax.specs.Tree.Values.{more}
use Rattle.syntax.specs.Grammar.{names}
use Rattle.syntax.specs.Parser.{Parse, then, mapped, expect, begins, rest, row, values, plain, commas, closed, follow, onward, value_step, value, left}
use Rattle.syntax.specs.Parser.{call, at_end, document}
use Rattle.syntax.specs.Parser.Parse.{ok, bad}
use Rattle.syntax.specs.Parser.Follow.{again, done}
use Rattle.syntax.specs.Table.{place_of, parsed}
use Rattle.syntax.specs.Tokens.{from, answer}
use Rattle.syntax.specs.declared.tokens.Tokens.{Tokens}
use Rattle.syntax.specs.Inner.{lookahead, semicolon_of, inputs_of, graph_of}
use Rattle.syntax.proofs.Row.{row_is}
use Rattle.syntax.proofs.Shrinks.{value-shrinks, call-shrinks}
use Rattle.syntax.proofs.Tails.{Takes, then-takes, further, expect-tails, left-tails, call-tails, row-tails}
use Rattle.syntax.proofs.Table.{toks-none, toks_more}
use Rattle.syntax.proofs.Chain.{outcome, onwards, goes, stops, chain, steps, steps-append, mapped-same}
use Rattle.syntax.proofs.Symbols.{begins-look, stands, one_more, none_more}
use Rattle.syntax.proofs.Rows.{tail-is, row-sound}
use Rattle.syntax.proofs.Values.{value-sound}
use Rattle.syntax.proofs.Lists.{item-sound, word, listed}

-- ---- left sides: a row of patterns that the equals sign closes

then-alike : {A B C : Type 0} (e n : ℕ) (p : Parse A) (k : A → List Token → Parse B) (l : A → List Token → Parse C)
    → ((a : A) (us : List Token) → parsed e n (k a us) ≡ parsed e n (l a us)) → parsed e n (then p k) ≡ parsed e n (then p l)
then-alike e n (ok a us) k l h = h a us
then-alike e n (bad c us) k l h = refl

module _ (e n b : ℕ) where
  left_by : (t c : Token) (v : Value) (ws : List Token) (p q : Bool) → eqb (sym_of c) equal ≡ p → eqb (sym_of c) comma ≡ q
      → parsed e n
      (cond p (ok v ws) (then (cond q (ok c ws) (bad 9 (c ∷ ws))) (λ c us. mapped (λ vs. tuple t (more v vs)) (row values (commas equal) (value names b) us))))
      ≡ cond q (parsed e n (row values (commas equal) (value names b) ws)) (parsed e n (cond p (ok c ws) (bad 9 (c ∷ ws))))
  left_by t c v ws true true x y = absurd (omega (arith, eqb-true (sym_of c) equal x, eqb-true (sym_of c) comma y))
  left_by t c v ws true false x y = refl
  left_by t c v ws false true x y = mapped-same e n (λ vs. tuple t (more v vs)) (row values (commas equal) (value names b) ws)
  left_by t c v ws false false x y = refl

  after-left : (t : Token) (v : Value) (us : List Token)
      → parsed e n
      (cond (begins equal us) (ok v (rest us))
      (then (expect comma us) (λ c ws. mapped (λ vs. tuple t (more v vs)) (row values (commas equal) (value names b) ws))))
      ≡ cond (eqb (lookahead us) comma) (parsed e n (row values (commas equal) (value names b) (rest us))) (parsed e n (expect equal us))
  unfolding expect
  after-left t v [] = refl
  after-left t v (c ∷ ws) = left_by t c v ws (eqb (sym_of c) equal) (eqb (sym_of c) comma) refl refl

none-value : (b : ℕ) → value names b [] ≡ bad 9 []
unfolding value value_step
none-value zero = refl
none-value (suc b) = refl

left_is : (e n b : ℕ) (ts : List Token) → parsed e n (left b ts) ≡ parsed e n (row values (commas equal) (value names b) ts)
unfolding left
left_is e n b [] = sym (ap (parsed e n) (row_is values (commas equal) (value names b) (value-shrinks names b) []) ∙ simp (none-value b))
left_is e n b (t ∷ ts) =
    then-alike e n (value names b (t ∷ ts)) _ _ (λ v us. after-left e n b t v us ∙ sym (tail-is values equal (value-sound names b) e n v us))
    ∙ sym (ap (parsed e n) (row_is values (commas equal) (value names b) (value-shrinks names b) (t ∷ ts)))

-- ---- calls

module _ (ts : Tokens) where
  abbrev ended : ℕ → Parsed
  ended j = answer ts semicolon_of j

  pub call-is : (i : ℕ)
      → answer ts (call max_brackets) i ≡ steps (answer ts (row values (commas equal) (value names max_brackets)) i)
      (word ts a_name ∷ word ts left_round ∷ listed ts Argument ∷ ended ∷ [])
  unfolding call
  call-is i =
      chain ts i _ (word ts a_name ∷ word ts left_round ∷ listed ts Argument ∷ ended ∷ [])
      (left-tails max_brackets (from ts i)) (λ v i.
      chain ts i _ (word ts left_round ∷ listed ts Argument ∷ ended ∷ []) (expect-tails a_name (from ts i)) (λ m i.
      chain ts i _ (listed ts Argument ∷ ended ∷ []) (expect-tails left_round (from ts i)) (λ o i.
      chain ts i _ (ended ∷ []) ((row-sound plain right_round (item-sound Argument)).tails (from ts i)) (λ xs i. refl))))
      ∙ ap (λ (z : Parsed). steps z (word ts a_name ∷ word ts left_round ∷ listed ts Argument ∷ ended ∷ []))
      (left_is (length ts.text.now) ts.count max_brackets (from ts i))

  module _ (i : ℕ) {s : ℕ} (sees : s ≡ lookahead (from ts i)) where
    pub at-semicolon : s ≡ semicolon → Done (i + 1) ≡ answer ts semicolon_of i
    at-semicolon h =
        one_more ts i (stands ts.text.now ts.table.now ts.count i sees (omega arith))
        ∙ sym (simp (begins-look semicolon (from ts i) (omega arith), eq-eqb (lookahead (from ts i)) semicolon (sym sees ∙ h)))

    pub at_none : i ≤ ts.count → (s ≡ semicolon → ⊥) → Done i ≡ answer ts semicolon_of i
    at_none l h =
        none_more ts i l
        ∙ sym (simp (begins-look semicolon (from ts i) (omega arith), ne_eqb (lookahead (from ts i)) semicolon (λ z. h (sees ∙ z))))

-- ---- bodies

none-call : (b : ℕ) → call b [] ≡ bad 9 []
unfolding call left
none-call b = refl

none-body : row plain (closed right_curly) (call max_brackets) [] ≡ bad 9 []
none-body = row_is plain (closed right_curly) (call max_brackets) (call-shrinks max_brackets) [] ∙ simp (none-call max_brackets)

module _ (e n : ℕ) where
  body-by : (a : Call) (t : Token) (us : List Token) (p : Bool)
      → parsed e n
      (onward (cond p (done us) (again (t ∷ us))) (t ∷ us) (λ ws. mapped (λ cs. a ∷ cs) (row plain (closed right_curly) (call max_brackets) ws))
      (λ ws. ok (a ∷ []) ws))
      ≡ cond p (Done (n - length us)) (parsed e n (row plain (closed right_curly) (call max_brackets) (t ∷ us)))
  body-by a t us true = refl
  body-by a t us false = mapped-same e n (λ cs. a ∷ cs) (row plain (closed right_curly) (call max_brackets) (t ∷ us))

  after_call : (a : Call) (us : List Token)
      → parsed e n
      (onward (follow (closed right_curly) us) us (λ ws. mapped (λ cs. a ∷ cs) (row plain (closed right_curly) (call max_brackets) ws)) (λ ws. ok (a ∷ []) ws))
      ≡ cond (eqb (lookahead us) right_curly) (Done (n - length (rest us))) (parsed e n (row plain (closed right_curly) (call max_brackets) us))
  unfolding follow
  after_call a [] = sym (ap (parsed e n) none-body)
  after_call a (t ∷ us) = body-by a t us (eqb (sym_of t) right_curly)

module _ (ts : Tokens) (i : ℕ) where
  abbrev behind : ℕ → Parsed
  behind j =
      cond (eqb (lookahead (from ts j)) right_curly) (Done (ts.count - length (rest (from ts j))))
      (answer ts (row plain (closed right_curly) (call max_brackets)) j)

  body-from : answer ts (row plain (closed right_curly) (call max_brackets)) i ≡ onwards
      (answer ts (call max_brackets) i) behind
  body-from =
      ap (outcome ts) (row_is plain (closed right_curly) (call max_brackets) (call-shrinks max_brackets) (from ts i))
      ∙ chain ts i _ (behind ∷ []) (call-tails max_brackets (from ts i)) (λ a j. after_call (length ts.text.now) ts.count a (from ts j))

  pub body-fell : {c q : ℕ} → Fault c q ≡ answer ts (call max_brackets) i
      → Fault c q ≡ answer ts (row plain (closed right_curly) (call max_brackets)) i
  body-fell f = stops behind f ∙ sym body-from

  module _ {j s : ℕ} (first : Done j ≡ answer ts (call max_brackets) i) (sees : s ≡ lookahead (from ts j)) where
    pub body-last : s ≡ right_curly → Done (j + 1) ≡ answer ts (row plain (closed right_curly) (call max_brackets)) i
    body-last w =
        goes behind first
        (rw (eq-eqb (lookahead (from ts j)) right_curly (sym sees ∙ w))
        (one_more ts j (stands ts.text.now ts.table.now ts.count j sees (omega arith))))
        ∙ sym body-from

    pub body-next : (s ≡ right_curly → ⊥)
        → answer ts (row plain (closed right_curly) (call max_brackets)) i ≡ outcome ts
        (row plain (closed right_curly) (call max_brackets) (from ts j))
    body-next w = sym (goes behind first (rw (ne_eqb (lookahead (from ts j)) right_curly (λ z. w (sees ∙ z)))) ∙ sym body-from)

-- ---- documents

end_same : {A B : Type 0} (e n : ℕ) (a : A) (b : B) (ts : List Token) → parsed e n (at_end a ts) ≡ parsed e n (at_end b ts)
end_same e n a b [] = refl
end_same e n a b (t ∷ ts) = refl

module _ (ts : Tokens) where
  abbrev bodies : ℕ → Parsed
  bodies j = answer ts (row plain (closed right_curly) (call max_brackets)) j

  abbrev finish : ℕ → Parsed
  finish j = answer {A = List Token} ts (at_end []) j

  names-tail : (i : ℕ) → Takes (from ts i) (row plain (commas right_round) (expect a_name) (from ts i))
  names-tail i = (row-sound plain right_round (item-sound Name)).tails (from ts i)

  body-tail : (i : ℕ) → Takes (from ts i) (row plain (closed right_curly) (call max_brackets) (from ts i))
  body-tail i = row-tails plain (closed right_curly) (call max_brackets) (call-tails max_brackets) (from ts i)

  inputs-tail : Takes (from ts 0) (inputs_of (from ts 0))
  unfolding inputs_of
  inputs-tail =
      then-takes (expect-tails version (from ts 0)) (λ v us p.
      then-takes (further p (expect-tails a_number us)) (λ l us p.
      then-takes (further p (expect-tails graph us)) (λ g us p.
      then-takes (further p (expect-tails a_name us)) (λ m us p.
      then-takes (further p (expect-tails left_round us)) (λ o us p.
      further p (row-tails plain (commas right_round) (expect a_name) (expect-tails a_name) us))))))

  -- the steps up to the end, from each place on
  abbrev s1 : List (ℕ → Parsed) → List (ℕ → Parsed)
  s1 gs = bodies ∷ gs

  abbrev s2 : List (ℕ → Parsed) → List (ℕ → Parsed)
  s2 gs = word ts left_curly ∷ s1 gs

  abbrev s3 : List (ℕ → Parsed) → List (ℕ → Parsed)
  s3 gs = listed ts Name ∷ s2 gs

  abbrev s4 : List (ℕ → Parsed) → List (ℕ → Parsed)
  s4 gs = word ts left_round ∷ s3 gs

  abbrev rear : List (ℕ → Parsed) → List (ℕ → Parsed)
  rear gs = word ts arrow ∷ s4 gs

  abbrev s6 : List (ℕ → Parsed) → List (ℕ → Parsed)
  s6 gs = listed ts Name ∷ gs

  abbrev s7 : List (ℕ → Parsed) → List (ℕ → Parsed)
  s7 gs = word ts left_round ∷ s6 gs

  abbrev s8 : List (ℕ → Parsed) → List (ℕ → Parsed)
  s8 gs = word ts a_name ∷ s7 gs

  abbrev s9 : List (ℕ → Parsed) → List (ℕ → Parsed)
  s9 gs = word ts graph ∷ s8 gs

  abbrev front : List (ℕ → Parsed) → List (ℕ → Parsed)
  front gs = word ts a_number ∷ s9 gs

  pub inputs-is : answer ts inputs_of 0 ≡ steps (word ts version 0) (front [])
  unfolding inputs_of
  inputs-is =
      chain ts 0 _ (front []) (expect-tails version (from ts 0)) (λ v i.
      chain ts i _ (s9 []) (expect-tails a_number (from ts i)) (λ l i.
      chain ts i _ (s8 []) (expect-tails graph (from ts i)) (λ g i.
      chain ts i _ (s7 []) (expect-tails a_name (from ts i)) (λ m i.
      chain ts i _ (s6 []) (expect-tails left_round (from ts i)) (λ o i. refl)))))

  pub graph_is : answer ts graph_of 0 ≡ steps (answer ts inputs_of 0) (rear [])
  unfolding graph_of
  graph_is =
      chain ts 0 _ (rear []) (inputs-tail) (λ is i.
      chain ts i _ (s4 []) (expect-tails arrow (from ts i)) (λ a i.
      chain ts i _ (s3 []) (expect-tails left_round (from ts i)) (λ o i.
      chain ts i _ (s2 []) (names-tail i) (λ os i.
      chain ts i _ (s1 []) (expect-tails left_curly (from ts i)) (λ q i. refl)))))

  pub document-is : answer ts (document max_brackets) 0 ≡ onwards (answer ts graph_of 0) finish
  unfolding document
  document-is =
      chain ts 0 _ (front (rear (finish ∷ []))) (expect-tails version (from ts 0)) (λ v i.
      chain ts i _ (s9 (rear (finish ∷ []))) (expect-tails a_number (from ts i)) (λ l i.
      chain ts i _ (s8 (rear (finish ∷ []))) (expect-tails graph (from ts i)) (λ g i.
      chain ts i _ (s7 (rear (finish ∷ []))) (expect-tails a_name (from ts i)) (λ m i.
      chain ts i _ (s6 (rear (finish ∷ []))) (expect-tails left_round (from ts i)) (λ o i.
      chain ts i _ (rear (finish ∷ [])) (names-tail i) (λ is i.
      chain ts i _ (s4 (finish ∷ [])) (expect-tails arrow (from ts i)) (λ a i.
      chain ts i _ (s3 (finish ∷ [])) (expect-tails left_round (from ts i)) (λ o i.
      chain ts i _ (s2 (finish ∷ [])) (names-tail i) (λ os i.
      chain ts i _ (s1 (finish ∷ [])) (expect-tails left_curly (from ts i)) (λ q i.
      chain ts i _ (finish ∷ []) (body-tail i)
      (λ cs i. end_same (length ts.text.now) ts.count (record { version = l; graph = m; inputs = is; outputs = os; calls = cs }) [] (from ts i))))))))))))
      ∙ steps-append (word ts version 0) (front []) (rear (finish ∷ []))
      ∙ ap (λ (z : Parsed). steps z (rear (finish ∷ []))) (sym inputs-is)
      ∙ steps-append (answer ts inputs_of 0) (rear []) (finish ∷ [])
      ∙ ap (λ (z : Parsed). onwards z finish) (sym graph_is)

  pub at_rest : (j : ℕ) → j < ts.count → Fault 9 (place_of (length ts.text.now) (from ts j)) ≡ finish j
  at_rest j h =
      ap (λ (ws : List Token). Fault 9 (place_of (length ts.text.now) ws)) (toks_more ts.text.now ts.table.now ts.count j h)
      ∙ sym (ap (λ (ws : List Token). outcome {A = List Token} ts (at_end [] ws)) (toks_more ts.text.now ts.table.now ts.count j h))

  pub at-end : (j : ℕ) → ts.count ≤ j → Done ts.count ≡ finish j
  at-end j h =
      let q : ts.count ≡ ts.count - 0 = omega arith in
      ap Done q
      ∙ sym (ap (λ (ws : List Token). outcome {A = List Token} ts (at_end [] ws)) (toks-none ts.text.now ts.table.now ts.count j h))
