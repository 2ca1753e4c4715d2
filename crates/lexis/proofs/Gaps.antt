-- A run of white space, and a comment up to its line's end, within a gap: what follows does not depend on where in a gap one begins.
use mathlib.Core.Path.{◌≡◌, refl, sym, ap, ◌∙◌}
use mathlib.Core.Bool.{Bool, true, false, cond, not}
use mathlib.Core.List.{List, [], ◌∷◌}
use Prim.Native.Nat.{ℕ, suc, ◌+◌, ◌<◌}
use native.Mathlib.Nat.{zero-add}
use native.Mathlib.Omega.{arith}
use lib.Dec.{eqb}
use lib.ListN.{length, drop, get_or}
use lib.Seq.{drop-drop}
use borrow.Author.Tests.{eqb-true}
use Rattle.lexis.specs.Bytes.{class_of, span_len, gap_from, gap_len}
use Rattle.lexis.specs.Lexer.{lex_from}
use Rattle.lexis.specs.Runs.{is_space, in_comment}
use Rattle.lexis.proofs.Runs.{gap-space, gap-sign}
use Rattle.lexis.proofs.Lexer.{lex-gap}

spaces-first : (t : List ℕ) → gap_from false t ≡ span_len is_space t + gap_from false (drop (span_len is_space t) t)
unfolding gap_from span_len
spaces-first [] = refl
spaces-first (x ∷ s) = go (eqb (class_of x) 1) refl (spaces-first s)
  where
    go : (b : Bool) → eqb (class_of x) 1 ≡ b → gap_from false s ≡ span_len is_space s + gap_from false (drop (span_len is_space s) s)
        → gap_from false (x ∷ s) ≡ cond b (suc (span_len is_space s)) 0 + gap_from false (drop (cond b (suc (span_len is_space s)) 0) (x ∷ s))
    go true e r = rw e (omega arith)
    go false e r = sym (zero-add _)

comment-first : (t : List ℕ) → gap_from true t ≡ span_len in_comment t + gap_from false (drop (span_len in_comment t) t)
unfolding gap_from span_len class_of
comment-first [] = refl
comment-first (x ∷ s) = go (eqb x 10) refl (comment-first s)
  where
    go : (b : Bool) → eqb x 10 ≡ b → gap_from true s ≡ span_len in_comment s + gap_from false (drop (span_len in_comment s) s)
        → suc (gap_from (not b) s) ≡ cond (not b) (suc (span_len in_comment s)) 0 + gap_from false
        (drop (cond (not b) (suc (span_len in_comment s)) 0) (x ∷ s))
    go true e r = rw (eqb-true x 10 e) (omega arith)
    go false e r = omega arith

module _ (s : List ℕ) (at n : ℕ) where
  -- what follows a gap does not depend on where in it one begins
  pub same_gap : (e : ℕ) → at + gap_len (drop at s) ≡ e + gap_len (drop e s) → lex_from 0 n at (drop at s) ≡ lex_from 0 n e (drop e s)
  same_gap e q = after at ∙ ap (λ (k : ℕ). lex_from 0 n k (drop k s)) q ∙ sym (after e)
    where
      after : (i : ℕ) → lex_from 0 n i (drop i s) ≡ lex_from 0 n (i + gap_len (drop i s)) (drop (i + gap_len (drop i s)) s)
      after i = lex-gap n i (drop i s) ∙ ap (lex_from 0 n (i + gap_len (drop i s))) (drop-drop (gap_len (drop i s)) i s)

  pub pass-spaces : (e : ℕ) → at < length s → class_of (get_or s at 0) ≡ 1 → e ≡ at + 1 + span_len is_space (drop (at + 1) s)
      → lex_from 0 n at (drop at s) ≡ lex_from 0 n e (drop e s)
  pass-spaces e h k q = same_gap e
      (gap-space s at false h refl k
      ∙ ap (λ (g : ℕ). at + 1 + g)
      (spaces-first (drop (at + 1) s)
      ∙ ap (λ (l : List ℕ). span_len is_space (drop (at + 1) s) + gap_from false l) (drop-drop (span_len is_space (drop (at + 1) s)) (at + 1) s))
      ∙ rw q (omega arith))

  pub pass-comment : (e : ℕ) → at < length s → class_of (get_or s at 0) ≡ 5 → e ≡ at + 1 + span_len in_comment (drop (at + 1) s)
      → lex_from 0 n at (drop at s) ≡ lex_from 0 n e (drop e s)
  pass-comment e h k q = same_gap e
      (gap-sign s at false h refl k
      ∙ ap (λ (g : ℕ). at + 1 + g)
      (comment-first (drop (at + 1) s)
      ∙ ap (λ (l : List ℕ). span_len in_comment (drop (at + 1) s) + gap_from false l) (drop-drop (span_len in_comment (drop (at + 1) s)) (at + 1) s))
      ∙ rw q (omega arith))
