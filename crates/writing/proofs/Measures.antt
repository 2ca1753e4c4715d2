-- What putting bytes and pieces comes to: counts that are true up to the end of a word and never fall, and bytes that are stored in a row. Then,
-- that every token of a table is as the lexer has it where the table holds the tokens of a text.
use mathlib.Core.Path.{◌≡◌, refl, sym, ap₂, ◌∙◌}
use mathlib.Core.Bool.{Bool, true, false, cond, ◌&&◌, and-eq-true_iff, true≢false}
use mathlib.Core.List.{List, [], ◌∷◌}
use Prim.Native.Nat.{ℕ, zero, suc, ◌+◌, ◌-◌, ◌≤◌, ◌<◌, min}
use native.Mathlib.Nat.{add-zero, le_refl, le_trans}
use native.Mathlib.Omega.{arith}
use borrow.Author.Tests.{le-leb, lt-leb, leb-true, leb-false, lt-ltb, ltb-true, ltb-false}
use lib.Dec.{leb, ltb}
use lib.ListN.{length, set, take, length-set, length-take, length-drop}
use lib.Seq.{sets, sets-eq, take-append_seam}
use Rattle.lexis.specs.Sizes.{max_text, max_tokens}
use Rattle.lexis.specs.Lexer.{Token, accepted, lex}
use Rattle.syntax.specs.Table.{token_at, tokens_from, toks, Holds}
use Rattle.writing.specs.declared.place.Place.{Place}
use Rattle.writing.specs.Pieces.{Piece, text}
use Rattle.writing.specs.Writing.{max_count, one_more, store_byte, passed, stored, tallied, place_after, keeps_limits, start, Ranged}
use Rattle.writing.proofs.Good.{Each, Good, lex-good}

-- ---- counts

-- one more, or the count that is at its end already
one-more : (n k : ℕ) → n ≤ max_count → (one_more n ≤ max_count) × (min (one_more n + k) max_count ≡ min (n + suc k) max_count)
unfolding one_more
one-more n k h = go (ltb n max_count) refl
  where
    go : (b : Bool) → ltb n max_count ≡ b → (cond b (suc n) n ≤ max_count) × (min (cond b (suc n) n + k) max_count ≡ min (n + suc k) max_count)
    go true e = let l = ltb-true n max_count e in (omega (arith, l), omega (arith, l))
    go false e = let l = ltb-false n max_count e in (h, omega (arith, l, h))

pub passed_is : (at : ℕ) (bs : List ℕ) → at ≤ max_count → passed at bs ≡ min (at + length bs) max_count
unfolding passed
passed_is at [] h = omega arith
passed_is at (b ∷ bs) h = let o = one-more at (length bs) h in passed_is (one_more at) bs o.0 ∙ o.1

pub tallied-is : (n : ℕ) (ps : List Piece) → n ≤ max_count → tallied n ps ≡ min (n + length ps) max_count
unfolding tallied
tallied-is n [] h = omega arith
tallied-is n (p ∷ ps) h = let o = one-more n (length ps) h in tallied-is (one_more n) ps o.0 ∙ o.1

-- a count never falls
more-not-less : (n : ℕ) → n ≤ one_more n
unfolding one_more
more-not-less n = go (ltb n max_count)
  where
    go : (b : Bool) → n ≤ cond b (suc n) n
    go true = omega arith
    go false = omega arith

passed-grows : (at : ℕ) (bs : List ℕ) → at ≤ passed at bs
unfolding passed
passed-grows at [] = le_refl at
passed-grows at (b ∷ bs) = le_trans (more-not-less at) (passed-grows (one_more at) bs)

tallied-grows : (n : ℕ) (ps : List Piece) → n ≤ tallied n ps
unfolding tallied
tallied-grows n [] = le_refl n
tallied-grows n (p ∷ ps) = le_trans (more-not-less n) (tallied-grows (one_more n) ps)

-- so what is beyond the limits stays there
pub stays-over : (s : Place) (ps : List Piece) → keeps_limits s ≡ false → keeps_limits (place_after s ps) ≡ false
unfolding place_after
stays-over s ps f = go (keeps_limits (place_after s ps)) refl
  where
    go : (b : Bool) → keeps_limits (place_after s ps) ≡ b → b ≡ false
    go false e = refl
    go true e =
        let k = (and-eq-true_iff (leb (passed s.bytes (text ps)) max_text) (leb (tallied s.tokens ps) max_tokens)).0 e in
        let bytes : s.bytes ≤ max_text = le_trans (passed-grows s.bytes (text ps)) (leb-true _ max_text k.0) in
        let tokens : s.tokens ≤ max_tokens = le_trans (tallied-grows s.tokens ps) (leb-true _ max_tokens k.1) in
        absurd (true≢false (sym ((and-eq-true_iff (leb s.bytes max_text) (leb s.tokens max_tokens)).1
        (le-leb s.bytes max_text bytes, le-leb s.tokens max_tokens tokens)) ∙ f))

-- a text from the first byte on is counted well enough to tell whether it keeps the limits
capped : (n m : ℕ) → m < max_count → leb (min n max_count) m ≡ leb n m
capped n m h = go (leb n m) refl
  where
    go : (b : Bool) → leb n m ≡ b → leb (min n max_count) m ≡ b
    go true e = let l = leb-true n m e in le-leb (min n max_count) m (omega (arith, l))
    go false e = let l = leb-false n m e in lt-leb (min n max_count) m (omega (arith, l, h))

pub limits-kept : (ps : List Piece) → keeps_limits (place_after start ps) ≡ (leb (length (text ps)) max_text && leb (length ps) max_tokens)
unfolding place_after
limits-kept ps =
    let bytes : passed 0 (text ps) ≡ min (length (text ps)) max_count = omega (arith, passed_is 0 (text ps) (omega arith)) in
    let tokens : tallied 0 ps ≡ min (length ps) max_count = omega (arith, tallied-is 0 ps (omega arith)) in
    ap₂ (λ (x y : ℕ). leb x max_text && leb y max_tokens) bytes tokens
    ∙ ap₂ ◌&&◌ (capped (length (text ps)) max_text (omega arith)) (capped (length ps) max_tokens (omega arith))

-- ---- bytes in a row

pub stored_is : (out : List ℕ) (at : ℕ) (bs : List ℕ) → at + length bs ≤ length out → at + length bs ≤ max_count → stored out at bs ≡ sets out at bs
unfolding stored store_byte one_more
stored_is out at [] h l = refl
stored_is out at (b ∷ bs) h l =
    rw (lt-ltb at (length out) (omega (arith, h)), lt-ltb at max_count (omega (arith, l)))
    (stored_is (set out at b) (suc at) bs (rw (length-set out at b) (omega (arith, h))) (omega (arith, l)))

-- bytes that are stored from the first on are the first
pub stored-front : (out bs : List ℕ) → length bs ≤ length out → length bs ≤ max_count → take (length bs) (stored out 0 bs) ≡ bs
stored-front out bs h l = rw (stored_is out 0 bs (omega (arith, h)) (omega (arith, l)), sets-eq bs out 0 (omega (arith, h)), take-append_seam)

-- ---- tokens of a table

each-token : (P : Token → Type 0) (text table : List ℕ) (i k j : ℕ) → Each P (tokens_from text table i k) → j < k → P (token_at text table (i + j))
unfolding tokens_from
each-token P text table i zero j e h = absurd (omega (arith, h))
each-token P text table i (suc k) zero e h = rw (add-zero i) e.0
each-token P text table i (suc k) (suc j) e h =
    let s : i + suc j ≡ i + 1 + j = omega arith in
    rw s (each-token P text table (i + 1) k j e.1 (omega (arith, h)))

pub ranged : (text table : List ℕ) (n : ℕ) → Holds text table n → lex text ≡ accepted (toks text table n 0) → Ranged text table n
unfolding token_at
ranged text table n held e = record {
  within = λ i l. record { number = (good i l).number; whole = λ w. record { begun = begun i l; digits = (good i l).whole w } };
}
  where
    good : (i : ℕ) → i < n → Good (token_at text table i).kind (token_at text table i).bytes
    good i l =
        let z : i ≡ 0 + i = omega arith in
        rw z (each-token (λ t. Good t.kind t.bytes) text table 0 (n - 0) i (lex-good text (toks text table n 0) e) (omega (arith, l)))

    begun : (i : ℕ) → i < n → 0 < length (token_at text table i).bytes
    begun i l =
        let w = held.within i l in
        simp (length-take, length-drop) (omega (arith, w.0, w.1))
