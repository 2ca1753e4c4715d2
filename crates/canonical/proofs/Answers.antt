-- What the page of the demands says of answers and is not said in a crate below: `tokens` in both directions; work areas after an answer;
-- refusals that operations share; the tokens of a canonical text.
use mathlib.Core.Path.{◌≡◌, refl, sym, ap, ◌∙◌}
use mathlib.Core.Bool.{true, false}
use mathlib.Core.List.{List, [], ◌∷◌}
use mathlib.Core.Logic.{inl, inr}
use Prim.Native.Nat.{ℕ, suc, ◌+◌, ◌≤◌, ◌<◌}
use native.Mathlib.Nat.{zero-add}
use lib.ListN.{length, replicate}
use lib.Seq.{sets}
use borrow.Author.Tests.{le-leb, lt-leb}
use Rattle.lexis.specs.Sizes.{max_text, max_tokens, table_words, work_words}
use Rattle.lexis.specs.Code as Code
use Rattle.lexis.specs.Lexer.{Token, accepted, refused, lex}
use Rattle.lexis.specs.Answer.{answer, token_records, tokens_answer, tokens_table}
use Rattle.lexis.specs.declared.Answer.{Answer}
use Rattle.lexis.proofs.Rows.{listed}
use Rattle.syntax.specs.Tree.{Header}
use Rattle.lists.specs.Answer.{Stage, pass, stop, stage_answer, list_stages, declarations_answer, work_after}
use Rattle.lists.specs.Accepted.{AcceptedList}
use Rattle.lists.proofs.Theorems.{declarations-stages, work-zero, work-kept}
use Rattle.documents.specs.Answer.{both_stages, CheckRoom, check_serves, check_answer}
use Rattle.documents.proofs.Theorems.{list-first, check-refuses, guarded-long, guarded-long-document, guarded-good}
use Rattle.writing.specs.Plan.{Plan}
use Rattle.writing.specs.Pieces.{Piece, tokens_at}
use Rattle.writing.specs.Layout.{document_pieces, canonical}
use Rattle.canonical.specs.Answer.{text_stages, canon_serves, written, canon_answer}
use Rattle.canonical.specs.Demand.{HasPlan, Lent, room_of, numbers, IsGuard}
use Rattle.canonical.proofs.PlanFitted.{plan-fits}
use Rattle.canonical.proofs.CanonicalTokens.{lex-canonical, lex-over}
use Rattle.canonical.proofs.CanonStages.{text-stopped}

-- ---- tokens

module _ (text table : List ℕ) where
  pub tokens-room : length table < table_words → tokens_answer text table ≡ answer Code.short_room 0 0 0
  unfolding tokens_answer
  tokens-room l = rw (lt-leb table_words (length table) l)

  pub tokens-long : table_words ≤ length table → max_text < length text → tokens_answer text table ≡ answer Code.long_text 1 max_text 0
  unfolding tokens_answer
  tokens-long r l = rw (le-leb table_words (length table) r, lt-leb (length text) max_text l)

  pub tokens-accepts : (ts : List Token) → table_words ≤ length table → length text ≤ max_text → lex text ≡ accepted ts
      → (tokens_answer text table ≡ answer Code.accepted 0 0 (length ts)) × (tokens_table text table ≡ sets table 0 (token_records text ts))
  unfolding tokens_answer tokens_table
  tokens-accepts ts r l e = (
    rw (le-leb table_words (length table) r, le-leb (length text) max_text l, e) (ap (answer Code.accepted 0 0) (zero-add (length ts))),
    rw (le-leb table_words (length table) r, le-leb (length text) max_text l, e),
  )

  pub tokens-fault : (c p : ℕ) → table_words ≤ length table → length text ≤ max_text → lex text ≡ refused c p → tokens_answer text table ≡ answer c 1 p 0
  unfolding tokens_answer
  tokens-fault c p r l e = rw (le-leb table_words (length table) r, le-leb (length text) max_text l, e)

  pub tokens-accepted : (tokens_answer text table).code ≡ Code.accepted
      → (table_words ≤ length table) × ((length text ≤ max_text) × ((ts : List Token) × (lex text ≡ accepted ts)))
  tokens-accepted e = let d = listed text table e in (d.room, (d.fits, (d.ts, d.lexed)))

-- ---- work areas

pub work-after : (r : Answer) (work : List ℕ) → ((IsGuard r → ⊥) → work_after r work ≡ replicate (length work) 0) × (IsGuard r → work_after r work ≡ work)
work-after r work = (λ n. work-zero r work (λ e. n (inl e)) (λ e. n (inr e)), λ g. work-kept r work g)

pub works-after : (r : Answer) (work₁ work₂ : List ℕ)
    → ((IsGuard r → ⊥) → (work_after r work₁ ≡ replicate (length work₁) 0) × (work_after r work₂ ≡ replicate (length work₂) 0))
    × (IsGuard r → (work_after r work₁ ≡ work₁) × (work_after r work₂ ≡ work₂))
works-after r work₁ work₂ = let a = work-after r work₁ in let b = work-after r work₂ in (λ n. (a.0 n, b.0 n), λ g. (a.1 g, b.1 g))

-- ---- refusals

pub declarations-refuses : (list : List ℕ) (work : ℕ) (q : Answer) → work_words ≤ work → length list ≤ max_text → list_stages list ≡ stop q
    → declarations_answer list work ≡ q
declarations-refuses list work q r l e = declarations-stages list work r l ∙ ap (λ (s : Stage (List Header)). stage_answer s length) e

-- a list that declarations does not accept stops the stages of both texts, with the same numbers
refused-list : (list doc : List ℕ) (work : ℕ) → work_words ≤ work → length list ≤ max_text → ((declarations_answer list work).code ≡ Code.accepted → ⊥)
    → both_stages list doc ≡ stop (declarations_answer list work)
refused-list list doc work r l n = go (list_stages list) refl
  where
    go : (s : Stage (List Header)) → list_stages list ≡ s → both_stages list doc ≡ stop (declarations_answer list work)
    go (pass hs) e = absurd (n (ap (λ (a : Answer). a.code) (declarations-stages list work r l ∙ ap (λ (s : Stage (List Header)). stage_answer s length) e)))
    go (stop q) e = list-first list doc q e ∙ ap (λ (a : Answer). stop a) (sym (declarations-refuses list work q r l e))

pub check-list : (list doc : List ℕ) (l : CheckRoom) (work : ℕ) → check_serves l ≡ true → work_words ≤ work → length list ≤ max_text → length doc ≤ max_text
    → ((declarations_answer list work).code ≡ Code.accepted → ⊥) → check_answer list doc l ≡ declarations_answer list work
check-list list doc l work s r m k n = check-refuses list doc l (declarations_answer list work) s m k (refused-list list doc work r m n)

module _ (list doc : List ℕ) (l : Lent) where
  pub canon-room : canon_serves (room_of l) ≡ false → numbers list doc l ≡ answer Code.short_room 0 0 0
  unfolding numbers canon_answer written
  canon-room e = rw e

  pub canon-long : canon_serves (room_of l) ≡ true → max_text < length list → numbers list doc l ≡ answer Code.long_text 1 max_text 0
  unfolding numbers canon_answer written
  canon-long r k = rw (guarded-long (canon_serves (room_of l)) list doc (text_stages list doc (length l.out)) r k)

  pub canon-long-document : canon_serves (room_of l) ≡ true → length list ≤ max_text → max_text < length doc → numbers list doc l ≡ answer Code.long_text 2 max_text 0
  unfolding numbers canon_answer written
  canon-long-document r k m = rw (guarded-long-document (canon_serves (room_of l)) list doc (text_stages list doc (length l.out)) r k m)

  pub canon-list : (work : ℕ) → canon_serves (room_of l) ≡ true → work_words ≤ work → length list ≤ max_text → length doc ≤ max_text
      → ((declarations_answer list work).code ≡ Code.accepted → ⊥) → numbers list doc l ≡ declarations_answer list work
  unfolding numbers canon_answer written
  canon-list work s r m k n =
      let t = text_stages list doc (length l.out) in
      let e = guarded-good (canon_serves (room_of l)) list doc t s m k ∙ text-stopped list doc (length l.out) (refused-list list doc work r m n) in
      ap (λ (x : Stage (List ℕ)). stage_answer x length) e

-- ---- the tokens of a canonical text

tokens-length : (at : ℕ) (ps : List Piece) → length (tokens_at at ps) ≡ length ps
unfolding tokens_at
tokens-length at [] = refl
tokens-length at (p ∷ ps) = ap suc (tokens-length (at + length p.bytes + length p.space) ps)

pub canonical-tokens : (list doc : List ℕ) (hs : List Header) (p : Plan) → AcceptedList list hs → HasPlan hs doc p
    → (length (document_pieces hs p) ≤ max_tokens → (ts : List Token) × ((lex (canonical hs p) ≡ accepted ts) × (length ts ≡ length (document_pieces hs p))))
    × (max_tokens < length (document_pieces hs p) → (q : ℕ) × (lex (canonical hs p) ≡ refused Code.too_many q))
canonical-tokens list doc hs p a h =
    let f = plan-fits list doc hs h.tree p a h.accepted h.planned in
    (λ k. (tokens_at 0 (document_pieces hs p), (lex-canonical hs p f k, tokens-length 0 (document_pieces hs p))), λ k. lex-over hs p f k)
