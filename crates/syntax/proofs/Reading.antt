-- From the bytes of a text to its syntax. Relies on `lexis` for the places of the tokens, on `Decode` for the table. Assumes nothing.
use mathlib.Core.Path.{◌≡◌, refl, sym, ap, subst, ◌∙◌}
use Prim.Native.Nat.{ℕ, ◌+◌, ◌≤◌}
use native.Mathlib.Omega.{arith}
use mathlib.Core.Bool.{Bool, true, false}
use mathlib.Core.List.{List}
use lib.Dec.{leb}
use lib.ListN.{length}
use borrow.Author.Tests.{leb-true, leb-false}
use Rattle.lexis.specs.Lexer.{Token, Lexed, accepted, refused, lex}
use Rattle.lexis.specs.Answer.{counted}
use Rattle.lexis.specs.Work.{Recorded, Room}
use Rattle.lexis.specs.Sizes.{max_tokens, work_words}
use Rattle.lexis.specs.Answer.{Counted}
use Rattle.lexis.specs.Answer.Counted.{Tokens, Fault as Refused}
use Rattle.lexis.proofs.Theorems.{placed}
use Rattle.syntax.specs.Read.{Parsed}
use Rattle.syntax.specs.declared.Syntax.{Syntax}
use Rattle.syntax.specs.Table.{toks, Holds, place_of}
use Rattle.syntax.specs.Read.{syntax_of, agreed, read_after, read_of}
use Rattle.syntax.proofs.Symbols.{place_none, place-more}
use Rattle.syntax.proofs.Decode.{holds, decode}

-- ---- the table of a text's tokens

-- what a count of n tokens says of the work area
pub record Got (text after : List ℕ) (n : ℕ) : Type 0 where
  pub tokens : List Token
  pub is : lex text ≡ accepted tokens
  pub count : n ≡ length tokens
  pub table : Holds text after n
  pub decoded : toks text after n 0 ≡ tokens

pub room_of : (m : ℕ) {x : Counted} {n : ℕ} → Room x m → x ≡ Tokens n → Room (Tokens n) m
room_of m room e = subst (λ (y : Counted). Room y m) e room

module _ (text before after : List ℕ) where
  got-by : (l : Lexed) (n : ℕ) → lex text ≡ l → Tokens n ≡ counted l → Recorded true l before after → n ≤ max_tokens → work_words ≤ length before
      → Got text after n
  got-by (accepted ts) n e h w few room =
      let m : n ≡ length ts = let z : n ≡ 0 + length ts = cc in omega arith in
      let p = placed text ts e in
      let r : length ts ≤ max_tokens = omega arith in
      record {
        tokens = ts;
        is = e;
        count = m;
        table = subst (λ (k : ℕ). Holds text after k) (sym m) (subst (λ (x : List ℕ). Holds text x (length ts)) (sym w) (holds text before ts p r room));
        decoded = ap (λ (k : ℕ). toks text after k 0) m ∙ (ap (λ (x : List ℕ). toks text x (length ts) 0) w ∙ decode text before ts p r room);
      }
  got-by (refused c p) n e h w few room = let z : ◌≡◌ {A = ℕ} 0 1 = cc in absurd (omega arith)

  pub got : (x : Counted) (n : ℕ) → x ≡ counted (lex text) → Recorded true (lex text) before after → Room x (length before) → work_words ≤ length before
      → x ≡ Tokens n → Got text after n
  got x n h w few room e = got-by (lex text) n refl (sym e ∙ h) w (room_of (length before) few e).0 room

-- ---- answers

pub read-refused : (w : Syntax) (text : List ℕ) (x : Counted) {c p : ℕ} → x ≡ counted (lex text) → x ≡ Refused c p → x ≡ read_of w text
read-refused w text x h e = go (lex text) h e
  where
    go : (l : Lexed) {c p : ℕ} → x ≡ counted l → x ≡ Refused c p → x ≡ read_after w (length text) l
    go (accepted ts) h e = let y = sym e ∙ h in let z : ◌≡◌ {A = ℕ} 0 1 = cc in absurd (omega arith)
    go (refused c p) h e = h

module _ (w : Syntax) (text after : List ℕ) (n : ℕ) (g : Got text after n) where
  pub read_is : {x : Parsed} → x ≡ syntax_of w (length text) n (toks text after n 0) → agreed n x ≡ read_of w text
  read_is h =
      ap (agreed n) (h ∙ ap (syntax_of w (length text) n) g.decoded)
      ∙ (ap (λ (k : ℕ). agreed k (syntax_of w (length text) k g.tokens)) g.count ∙ ap (read_after w (length text)) (sym g.is))

-- ---- the place of a token, or the end, lies in the text

pub place-within : (text table : List ℕ) (n : ℕ) → Holds text table n → (i : ℕ) → place_of (length text) (toks text table n i) ≤ length text
place-within text table n h i = go (leb n i) refl
  where
    go : (b : Bool) → leb n i ≡ b → place_of (length text) (toks text table n i) ≤ length text
    go true e = omega (arith, place_none text table n i (leb-true n i e))
    go false e = let l = leb-false n i e in omega (arith, place-more text table n i l, (h.within i l).0, (h.within i l).1)
