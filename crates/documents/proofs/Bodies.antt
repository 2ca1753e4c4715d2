-- The calls of a body: the row of them is `Calls` up to its closing bracket. Assumes nothing.
use mathlib.Core.Path.{◌≡◌, refl}
use mathlib.Core.Bool.{Bool, true, false, cond}
use mathlib.Core.List.{List, [], ◌∷◌}
use Prim.Native.Nat.{ℕ, zero, suc}
use native.Mathlib.Omega.{arith}
use lib.Dec.{eqb}
use lib.ListN.{length}
use borrow.Author.Tests.{eqb-true}
use Rattle.lexis.specs.Lexer.{Token}
use Rattle.lexis.specs.Symbol.{sym_of, right_curly}
use Rattle.syntax.specs.Tree.{Call}
use Rattle.syntax.specs.Parser.{mapped, plain, follow, onward, row_f, row, call}
use Rattle.syntax.specs.Parser.Parse.{ok}
use Rattle.syntax.specs.Parser.Row.{closed}
use Rattle.syntax.specs.Parser.Follow.{again, done}
use Rattle.documents.specs.Calls.{Calls}
use Rattle.documents.specs.Calls.Calls.{no_call, a_call}
use Rattle.documents.proofs.CallParses.{then_ok, mapped-ok}

clash : {C : Type 0} → ◌≡◌ {A = ℕ} 0 1 → C
clash z = absurd (omega arith)

-- calls up to the bracket q, and ws after it
pub record Body (b : ℕ) (ts : List Token) (cs : List Call) (ws : List Token) : Type 0 where
  pub bracket : Token
  pub closes : sym_of bracket ≡ right_curly
  pub calls : Calls b ts cs (bracket ∷ ws)

module _ (b : ℕ) where
  behind : (f : ℕ) (ts : List Token) (c : Call) (us : List Token) (cs : List Call) (ws : List Token) → call b ts ≡ ok c us
      → ((us : List Token) (cs : List Call) → row_f f plain (closed right_curly) (call b) us ≡ ok cs ws → Body b us cs ws)
      → onward (follow (closed right_curly) us) us (λ ws. mapped (λ cs. c ∷ cs) (row_f f plain (closed right_curly) (call b) ws)) (λ ws. ok (c ∷ []) ws) ≡ ok cs ws
      → Body b ts cs ws
  unfolding follow
  behind f ts c [] cs ws h ih e = clash cc
  behind f ts c (q ∷ us) cs ws h ih e = go (eqb (sym_of q) right_curly) refl e
    where
      go : (p : Bool) → eqb (sym_of q) right_curly ≡ p
          → onward (cond p (done us) (again (q ∷ us))) (q ∷ us) (λ ws. mapped (λ cs. c ∷ cs) (row_f f plain (closed right_curly) (call b) ws))
          (λ ws. ok (c ∷ []) ws) ≡ ok cs ws
          → Body b ts cs ws
      go true p e =
          let x : c ∷ [] ≡ cs = cc in
          let y : us ≡ ws = cc in
          rw (← x, ← y) (record { bracket = q; closes = eqb-true (sym_of q) right_curly p; calls = a_call h no_call })
      go false p e =
          let m = mapped-ok (λ cs. c ∷ cs) (row_f f plain (closed right_curly) (call b) (q ∷ us)) cs ws e in
          let r = ih (q ∷ us) m.0 m.1 in
          rw m.2 (record { bracket = r.bracket; closes = r.closes; calls = a_call h r.calls })

  body-fuel : (f : ℕ) (ts : List Token) (cs : List Call) (ws : List Token) → row_f f plain (closed right_curly) (call b) ts ≡ ok cs ws → Body b ts cs ws
  unfolding row_f
  body-fuel zero ts cs ws e = clash cc
  body-fuel (suc f) ts cs ws e =
      let t = then_ok (call b ts) _ cs ws e in
      behind f ts t.0 t.1 cs ws t.2 (λ us cs e. body-fuel f us cs ws e) t.3

  pub body_ok : (ts : List Token) (cs : List Call) (ws : List Token) → row plain (closed right_curly) (call b) ts ≡ ok cs ws → Body b ts cs ws
  unfolding row
  body_ok ts cs ws e = body-fuel (suc (length ts)) ts cs ws e
