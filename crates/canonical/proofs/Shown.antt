-- What `show` leaves in the output. In order: four numbers one after another; the stages of `canon`, where a text that passes has room and
-- a refusal has a code; the text or the numbers; the bytes themselves, where the output holds them.
use mathlib.Core.Path.{◌≡◌, refl, sym, ap}
use mathlib.Core.Bool.{Bool, true, false, ◌&&◌, and-eq-true_iff}
use mathlib.Core.List.{List, append_assoc}
use Prim.Native.Nat.{ℕ, ◌≤◌, ◌<◌, ◌^◌}
use native.Mathlib.Omega.{arith}
use borrow.Author.Tests.{leb-true}
use lib.Dec.{leb}
use lib.ListN.{length, take, length-append}
use lib.Seq.{sets}
use Rattle.lexis.specs.Sizes.{max_text, max_tokens}
use Rattle.lexis.specs.Answer.{answer}
use Rattle.lexis.specs.declared.Answer.{Answer}
use Rattle.lists.specs.Answer.{Stage, pass, stop, and_then, guard, stage_answer}
use Rattle.documents.specs.Answer.{both_stages}
use Rattle.documents.proofs.Refusals.{both-codes}
use Rattle.writing.specs.Pieces.{Piece, text}
use Rattle.canonical.specs.Answer.{layout_of, writing_stages, text_stages, CanonRoom, canon_room, canon_serves, written, canon_answer, output_after}
use Rattle.canonical.specs.Program.{printed, shown}
use Rattle.writing.specs.Writing.{passed, stored}
use Rattle.canonical.specs.Inner.{number_then}
use Rattle.canonical.proofs.Digits.{digits-length}
use Rattle.writing.proofs.Putting.{Stores, stores-then}
use Rattle.writing.proofs.Measures.{passed_is, stored_is, stored-front}

-- ---- four numbers

-- they are stored one after another
pub numbers-stored : (a : Answer) (out : List ℕ) {x y z out' : List ℕ} {i j k end : ℕ} → Stores (number_then a.code 32) out x 0 i
    → Stores (number_then a.text 32) x y i j
    → Stores (number_then a.position 32) y z j k → Stores (number_then a.detail 10) z out' k end → Stores (printed a) out out' 0 end
unfolding printed
numbers-stored a out {x} {y} {z} {i = i} {j} {k} c t p d =
    let q = stores-then y j (number_then a.position 32) (number_then a.detail 10) p d in
    let r = stores-then x i (number_then a.text 32) _ t q in
    simp append_assoc at (stores-then out 0 (number_then a.code 32) _ c r)

-- numbers of at most ten digits take at most 44 bytes
pub numbers-length : (a : Answer) → a.code < 10 ^ 10 → a.text < 10 ^ 10 → a.position < 10 ^ 10 → a.detail < 10 ^ 10 → length (printed a) ≤ 44
unfolding printed
numbers-length a c t p d =
    simp length-append (omega (arith, digits-length 9 a.code c, digits-length 9 a.text t, digits-length 9 a.position p, digits-length 9 a.detail d))

-- ---- the stages

-- a text that passes keeps the byte limit, and an output of n bytes holds it; a refusal's code is not 0
data Sound (n : ℕ) : Stage (List ℕ) → Type 0 where
  passes : {bytes : List ℕ} → length bytes ≤ max_text → length bytes ≤ n → Sound n (pass bytes)
  stops : {r : Answer} → 1 ≤ r.code → Sound n (stop r)

sound-guard : {n : ℕ} (b : Bool) (r : Answer) (s : Stage (List ℕ)) → 1 ≤ r.code → (b ≡ true → Sound n s) → Sound n (guard b r s)
sound-guard true r s c h = h refl
sound-guard false r s c h = stops c

sound-then : {A : Type 0} {n : ℕ} (s : Stage A) (f : A → Stage (List ℕ)) → ((r : Answer) → s ≡ stop r → 3 ≤ r.code) → ((a : A) → Sound n (f a))
    → Sound n (and_then s f)
sound-then (pass a) f c h = h a
sound-then (stop r) f c h = let l = c r refl in stops {r = r} (omega (arith, l))

sound-writing : (ps : List Piece) (n : ℕ) → Sound n (writing_stages ps n)
unfolding writing_stages
sound-writing ps n =
    let k = leb (length (text ps)) max_text in
    let m = leb (length ps) max_tokens in
    let o = leb (length (text ps)) n in
    sound-guard (k && m) (answer 25 0 0 0) _ (omega arith) λ l.
    sound-guard o (answer 26 0 0 (length (text ps))) (pass (text ps)) (omega arith) λ h.
    passes (leb-true (length (text ps)) max_text ((and-eq-true_iff k m).0 l).0) (leb-true (length (text ps)) n h)

sound-written : (list doc : List ℕ) (l : CanonRoom) → Sound l.out (written list doc l)
unfolding written text_stages
sound-written list doc l =
    sound-guard (canon_serves l) (answer 1 0 0 0) _ (omega arith) λ _.
    sound-guard (leb (length list) max_text) (answer 2 1 max_text 0) _ (omega arith) λ _.
    sound-guard (leb (length doc) max_text) (answer 2 2 max_text 0) _ (omega arith) λ _.
    sound-then (both_stages list doc) _ (both-codes list doc) λ k. sound-writing (layout_of k.headers k.document) l.out

-- ---- the text or the numbers

-- bytes that have room are stored in a row, and counted in full
in-full : (out bytes : List ℕ) → length bytes ≤ length out → length bytes ≤ max_text → Stores bytes out (sets out 0 bytes) 0 (length bytes)
in-full out bytes h l =
    let p = passed_is 0 bytes (omega arith) in
    (omega (arith, p, l), sym (stored_is out 0 bytes (omega (arith, h)) (omega (arith, l))))

module _ (list doc work₁ work₂ out : List ℕ) where
  abbrev stages : Stage (List ℕ)
  stages = written list doc (canon_room work₁ work₂ out)

  -- after acceptance the output holds the text
  pub text-shown : {a : Answer} {out' : List ℕ} → a ≡ canon_answer list doc (canon_room work₁ work₂ out) → out' ≡ output_after stages out → a.code ≡ 0
      → Stores (shown stages) out out' 0 a.detail
  unfolding canon_answer output_after
  text-shown {a} {out'} e o z = go stages (sound-written list doc (canon_room work₁ work₂ out)) e o
    where
      go : (s : Stage (List ℕ)) → Sound (length out) s → a ≡ stage_answer s length → out' ≡ output_after s out → Stores (shown s) out out' 0 a.detail
      go (pass bytes) (passes l h) e o = rw (e, o) (in-full out bytes h l)
      go (stop r) (stops c) e o = let d : a.code ≡ r.code = ap (λ (x : Answer). x.code) e in absurd (omega (arith, d, z, c))

  -- after a refusal the output is as it was, and its numbers are stored there
  pub numbers-shown : {a : Answer} {mid out' : List ℕ} {end : ℕ} → a ≡ canon_answer list doc (canon_room work₁ work₂ out) → mid ≡ output_after stages out
      → (a.code ≡ 0 → ⊥)
      → Stores (printed a) mid out' 0 end → Stores (shown stages) out out' 0 end
  unfolding canon_answer output_after
  numbers-shown {a} {mid} {out'} {end} e o n p = go stages e o
    where
      go : (s : Stage (List ℕ)) → a ≡ stage_answer s length → mid ≡ output_after s out → Stores (shown s) out out' 0 end
      go (pass bytes) e o = absurd (n (ap (λ (x : Answer). x.code) e))
      go (stop r) e o = rw (← e, ← o) p

-- ---- the bytes themselves

-- Bytes that are stored from the first on, where the output holds them, are its first bytes, as many as are counted. So whoever lends `show`
-- at least 44 bytes, and as many as the text has, finds there what is shown.
pub shown-bytes : (out bytes : List ℕ) → length bytes ≤ length out → length bytes ≤ max_text
    → (take (passed 0 bytes) (stored out 0 bytes) ≡ bytes) × (passed 0 bytes ≡ length bytes)
shown-bytes out bytes h l =
    let e = passed_is 0 bytes (omega arith) in
    let p : passed 0 bytes ≡ length bytes = omega (arith, e, l) in
    (rw p (stored-front out bytes h (omega (arith, l))), p)
