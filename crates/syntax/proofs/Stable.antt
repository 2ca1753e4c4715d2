-- What the parser gives depends on the tokens up to and including the first one after what it took, and on nothing behind that; and a
-- higher bracket limit changes only faults of code 10. `Local` and `Limit` show the two halves. Assumes nothing.
use mathlib.Core.Path.{◌≡◌, refl, sym, ◌∙◌}
use mathlib.Core.List.{List, [], ◌∷◌, ◌++◌, append_cancel_right}
use Prim.Native.Nat.{ℕ, ◌≤◌}
use Rattle.lexis.specs.Lexer.{Token}
use Rattle.syntax.specs.Fault.{Alike}
use Rattle.syntax.specs.Fault.Alike.{both_end, both-begin}
use Rattle.syntax.specs.Parser.{Parse, Reader, operations, document}
use Rattle.syntax.specs.Parser.Parse.{ok, bad}
use Rattle.syntax.proofs.Local.{Fixed, Code}
use Rattle.syntax.proofs.Local.Code.{is-nine, is-ten}
use Rattle.syntax.proofs.LocalReaders.{operations-local, document-local}
use Rattle.syntax.proofs.Limit.{Raised, Raises, operations-raised, document-raised}
use Rattle.syntax.proofs.Limit.Raised.{same-tree, same-fault}

-- what the readers f give under the bracket limit b on the tokens ts; p are the tokens before those not read
pub data Stable {A : Type 0} (f : ℕ → Reader A) (b : ℕ) (ts : List Token) : Parse A → Type 0 where
  -- a tree, and the same tree under every higher limit
  went : {a : A} {us : List Token} (p : List Token) → ts ≡ p ++ us → ((b' : ℕ) (ws : List Token) → b ≤ b' → Alike us ws → f b' (p ++ ws) ≡ ok a ws)
      → Stable f b ts (ok a us)
  -- a fault, and the same fault under every higher limit
  nine : {us : List Token} (p : List Token) → ts ≡ p ++ us → ((b' : ℕ) (ws : List Token) → b ≤ b' → Alike us ws → f b' (p ++ ws) ≡ bad 9 ws)
      → Stable f b ts (bad 9 us)
  -- a bracket more than may be open
  ten : {us : List Token} (p : List Token) → ts ≡ p ++ us → ((ws : List Token) → Alike us ws → f b (p ++ ws) ≡ bad 10 ws) → Stable f b ts (bad 10 us)

-- ---- the two halves together

raised-ok : {A : Type 0} {a : A} {us : List Token} {y : Parse A} → Raised (ok a us) y → y ≡ ok a us
raised-ok same-tree = refl

raised-nine : {A : Type 0} {us : List Token} {y : Parse A} → Raised (bad 9 us) y → y ≡ bad 9 us
raised-nine same-fault = refl

module _ {A : Type 0} (f : ℕ → Reader A) (b : ℕ) (up : (b' : ℕ) → b ≤ b' → Raises (f b) (f b')) where
  by_code : {c : ℕ} {ts us : List Token} → Code c → Fixed (f b) ts (bad c us) → Stable f b ts (bad c us)
  by_code is-nine h = nine h.taken h.split (λ b' ws l al. raised-nine (rw (h.holds ws al) at (up b' l (h.taken ++ ws))))
  by_code is-ten h = ten h.taken h.split h.holds

  stable : (ts : List Token) (x : Parse A) → Fixed (f b) ts x → Stable f b ts x
  stable ts (ok a us) h = went h.taken h.split (λ b' ws l al. raised-ok (rw (h.holds ws al) at (up b' l (h.taken ++ ws))))
  stable ts (bad c us) h = by_code h.code h

pub operations-stable : (b : ℕ) (ts : List Token) → Stable operations b ts (operations b ts)
operations-stable b ts = stable operations b (operations-raised b) ts (operations b ts) (operations-local b ts)

pub document-stable : (b : ℕ) (ts : List Token) → Stable document b ts (document b ts)
document-stable b ts = stable document b (document-raised b) ts (document b ts) (document-local b ts)

-- ---- what follows

alike_self : (ts : List Token) → Alike ts ts
alike_self [] = both_end
alike_self (t ∷ ts) = both-begin

module _ {A : Type 0} {f : ℕ → Reader A} {b : ℕ} {ts us : List Token} where
  -- a tree is the tree under every higher limit
  pub ok-stays : {a : A} → Stable f b ts (ok a us) → (b' : ℕ) → b ≤ b' → f b' ts ≡ ok a us
  ok-stays (went p e h) b' l = rw e (h b' us l (alike_self us))

  module _ (p : List Token) (e : ts ≡ p ++ us) where
    -- with these and the token at the fault, or the end, it is the same fault
    pub nine-stays : Stable f b ts (bad 9 us) → (b' : ℕ) (ws : List Token) → b ≤ b' → Alike us ws → f b' (p ++ ws) ≡ bad 9 ws
    nine-stays (nine q e' h) = rw (append_cancel_right p q us (sym e ∙ e')) h

    pub ten-stays : Stable f b ts (bad 10 us) → (ws : List Token) → Alike us ws → f b (p ++ ws) ≡ bad 10 ws
    ten-stays (ten q e' h) = rw (append_cancel_right p q us (sym e ∙ e')) h
