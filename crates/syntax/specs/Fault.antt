-- What the place of a syntax fault means: the tokens before it begin a valid text, and with the token at it, or the end, they do not.
use Rattle.std.specs.Prelude.{◌≡◌, List, [], ◌∷◌, ◌++◌, ◌⊎◌, ℕ, suc}
use Rattle.lexis.specs.Lexer.{Token}
use Rattle.syntax.specs.Code as Code

-- two ends of a text that begin with the same token, or are both empty
pub data Alike : List Token → List Token → Type 0 where
  both_end : Alike [] []
  both-begin : {t : Token} {us ws : List Token} → Alike (t ∷ us) (t ∷ ws)

-- Of the tokens ts, us are those from the first fault on, and c is its code. Valid b: token lists that the grammar derives with b
-- brackets open at once; most is the limit.
pub record FirstFault (Valid : ℕ → List Token → Type 0) (most c : ℕ) (ts us : List Token) : Type 0 where
  pub before : List Token
  pub split : ts ≡ before ++ us
  -- some valid text has the tokens before the fault
  pub viable : (ws : List Token) × Valid most (before ++ ws)
  -- none has those and the token at it, or ends there
  pub first : (ws : List Token) → Alike us ws → Valid most (before ++ ws) → ⊥
  pub code : (c ≡ Code.syntax) ⊎ (c ≡ Code.bracket)
  -- 9: not with any number of brackets
  pub nine : c ≡ Code.syntax → (b : ℕ) (ws : List Token) → Alike us ws → Valid b (before ++ ws) → ⊥
  -- 10: with one bracket more some does
  pub ten : c ≡ Code.bracket → (ws : List Token) × (Alike us ws × Valid (suc most) (before ++ ws))
