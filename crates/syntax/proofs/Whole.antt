-- What holds of the readers of whole texts, once for operation lists and documents: what they read is all of the tokens, its tree is
-- the only one, and a fault of theirs is the first. Assumes nothing.
use mathlib.Core.Path.{◌≡◌, refl, sym, ap, ◌∙◌}
use mathlib.Core.Logic.{◌⊎◌, inl, inr}
use mathlib.Core.List.{List, [], ◌∷◌, ◌++◌, append_assoc}
use Prim.Native.Nat.{ℕ, zero, suc, ◌≤◌, max}
use native.Mathlib.Omega.{arith}
use lib.ListN.{length}
use Rattle.lexis.specs.Lexer.{Token}
use Rattle.lexis.specs.Symbol.{left_round, right_round, left_curly, right_curly, arrow, a_name, a_number, version, graph}
use Rattle.syntax.specs.Grammar.{IsList, IsDocument}
use Rattle.syntax.specs.Fault.{Alike, FirstFault}
use Rattle.syntax.specs.Fault.Alike.{both_end, both-begin}
use Rattle.syntax.specs.Parser.{Parse, Reader, then, mapped, expect, follow, onward, plain, row_f, row, header, operations, call, at_end, document}
use Rattle.syntax.specs.Parser.Parse.{ok, bad}
use Rattle.syntax.specs.Parser.Row.{commas, closed, to_the_end}
use Rattle.syntax.proofs.Right.{Right}
use Rattle.syntax.proofs.Right.Right.{good, nine, ten}
use Rattle.syntax.proofs.Sound.{operations-right, document-reads}
use Rattle.syntax.proofs.Complete.{operations-complete, document-complete}
use Rattle.syntax.proofs.Stable.{Stable, operations-stable, document-stable, ok-stays, nine-stays, ten-stays}

-- ---- no token is left

pub data Ends {A : Type 0} : Parse A → Type 0 where
  at-the-end : {a : A} → Ends (ok a [])
  at-a-fault : {c : ℕ} {us : List Token} → Ends (bad c us)

then-ends : {A B : Type 0} (x : Parse A) {k : A → Reader B} → ((a : A) (us : List Token) → Ends (k a us)) → Ends (then x k)
then-ends (ok a us) h = h a us
then-ends (bad c us) h = at-a-fault

mapped-ends : {A B : Type 0} {x : Parse A} (f : A → B) → Ends x → Ends (mapped f x)
mapped-ends f at-the-end = at-the-end
mapped-ends f at-a-fault = at-a-fault

onward-ends : {A : Type 0} (a : A) (us : List Token) (k : Reader (List A)) → ((ws : List Token) → Ends (k ws))
    → Ends (onward (follow to_the_end us) us (λ ws. mapped (plain.cons a) (k ws)) (λ ws. ok (a ∷ []) ws))
unfolding follow
onward-ends a [] k h = at-the-end
onward-ends a (t ∷ us) k h = mapped-ends (plain.cons a) (h (t ∷ us))

row_ends : {A : Type 0} (item : Reader A) (f : ℕ) (ts : List Token) → Ends (row_f f plain to_the_end item ts)
unfolding row_f
row_ends item zero ts = at-a-fault
row_ends item (suc f) ts = then-ends (item ts) (λ a us. onward-ends a us (λ ws. row_f f plain to_the_end item ws) (λ ws. row_ends item f ws))

operations-ends : (b : ℕ) (ts : List Token) → Ends (operations b ts)
unfolding operations row
operations-ends b [] = at-the-end
operations-ends b (t ∷ ts) = row_ends (header b) (suc (length (t ∷ ts))) (t ∷ ts)

at-end-ends : {A : Type 0} (a : A) (us : List Token) → Ends (at_end a us)
at-end-ends a [] = at-the-end
at-end-ends a (t ∷ us) = at-a-fault

document-ends : (b : ℕ) (ts : List Token) → Ends (document b ts)
unfolding document
document-ends b ts =
    then-ends (expect version ts) (λ v us.
    then-ends (expect a_number us) (λ l us.
    then-ends (expect graph us) (λ g us.
    then-ends (expect a_name us) (λ n us.
    then-ends (expect left_round us) (λ o us.
    then-ends (row plain (commas right_round) (expect a_name) us) (λ is us.
    then-ends (expect arrow us) (λ a us.
    then-ends (expect left_round us) (λ o us.
    then-ends (row plain (commas right_round) (expect a_name) us) (λ os us.
    then-ends (expect left_curly us) (λ q us.
    then-ends (row plain (closed right_curly) (call b) us) (λ cs us.
    at-end-ends (record { version = l; graph = n; inputs = is; outputs = os; calls = cs }) us)))))))))))

-- ---- two splits of one list

alike : (us : List Token) → Alike us us
alike [] = both_end
alike (t ∷ us) = both-begin

-- the first parts are the same, or one goes on where the other ends
pub data Splits (p us p' us' : List Token) : Type 0 where
  same_place : p ≡ p' → us ≡ us' → Splits p us p' us'
  goes_on : (t : Token) (q : List Token) → p' ≡ p ++ (t ∷ q) → us ≡ t ∷ (q ++ us') → Splits p us p' us'
  ends-before : (t : Token) (q : List Token) → p ≡ p' ++ (t ∷ q) → us' ≡ t ∷ (q ++ us) → Splits p us p' us'

splits-cons : {p us p' us' : List Token} (x : Token) → Splits p us p' us' → Splits (x ∷ p) us (x ∷ p') us'
splits-cons x (same_place e f) = same_place (ap (λ (l : List Token). x ∷ l) e) f
splits-cons x (goes_on t q e f) = goes_on t q (ap (λ (l : List Token). x ∷ l) e) f
splits-cons x (ends-before t q e f) = ends-before t q (ap (λ (l : List Token). x ∷ l) e) f

splits : (p us p' us' : List Token) → p ++ us ≡ p' ++ us' → Splits p us p' us'
splits [] us [] us' e = same_place refl e
splits [] us (t ∷ q) us' e = goes_on t q refl e
splits (t ∷ q) us [] us' e = ends-before t q refl (sym e)
splits (x ∷ p) us (y ∷ p') us' e =
    let h : y ≡ x = cc in
    let r = splits p us p' us' cc in
    rw h (splits-cons x r)

-- ---- whole texts

-- the readers f of whole texts that are Valid
pub record Whole {A : Type 0} (f : ℕ → Reader A) (Valid : ℕ → List Token → A → Type 0) : Type 0 where
  pub right : (b : ℕ) (ts : List Token) → Right (λ b ts a us. us ≡ [] → Valid b ts a) b ts (f b ts)
  pub complete : (b : ℕ) (ts : List Token) (a : A) → Valid b ts a → f b ts ≡ ok a []
  pub stable : (b : ℕ) (ts : List Token) → Stable f b ts (f b ts)
  pub ends : (b : ℕ) (ts : List Token) → Ends (f b ts)

pub lists : Whole operations IsList
lists = record { right = operations-right; complete = λ b ts a h. operations-complete h; stable = operations-stable; ends = operations-ends }

pub documents : Whole document IsDocument
documents = record { right = λ b. (document-reads b).each; complete = λ b ts a h. document-complete h; stable = document-stable; ends = document-ends }

-- ---- what follows

clash : ◌≡◌ {A = ℕ} 0 1 → ⊥
clash z = omega arith

module _ {A : Type 0} {f : ℕ → Reader A} {Valid : ℕ → List Token → A → Type 0} (w : Whole f Valid) where
  pub sound : (b : ℕ) (ts : List Token) (a : A) → f b ts ≡ ok a [] → Valid b ts a
  sound b ts a e = go (rw e at (w.right b ts))
    where
      go : Right (λ b ts a us. us ≡ [] → Valid b ts a) b ts (ok a []) → Valid b ts a
      go (good p d h) = rw d (h b [] (omega arith) refl)

  pub all_read : (b : ℕ) (ts : List Token) (a : A) (us : List Token) → f b ts ≡ ok a us → us ≡ []
  all_read b ts a us e = go (rw e at (w.ends b ts))
    where
      go : {us : List Token} → Ends {A = A} (ok a us) → us ≡ []
      go at-the-end = refl

  -- what is valid stays so where more brackets may be open
  above : (b b' : ℕ) (ts : List Token) (a : A) → b ≤ b' → Valid b ts a → f b' ts ≡ ok a []
  above b b' ts a l v = ok-stays (rw (w.complete b ts a v) at (w.stable b ts)) b' l

  pub one-tree : (b b' : ℕ) (ts : List Token) (a a' : A) → Valid b ts a → Valid b' ts a' → a ≡ a'
  one-tree b b' ts a a' v v' =
      let p = above b (max b b') ts a (omega arith) v in
      let q = above b' (max b b') ts a' (omega arith) v' in
      cc

  at-nine : (b : ℕ) (ts us : List Token) → Stable f b ts (bad 9 us) → (p : List Token) → ts ≡ p ++ us → (b' : ℕ) (ws : List Token) → Alike us ws
      → ((a : A) × Valid b' (p ++ ws) a) → ⊥
  at-nine b ts us s p d b' ws al v =
      let q = nine-stays p d s (max b b') ws (omega arith) al in
      let r = above b' (max b b') (p ++ ws) v.0 (omega arith) v.1 in
      clash cc

  at-ten : (b : ℕ) (ts us : List Token) → Stable f b ts (bad 10 us) → (p : List Token) → ts ≡ p ++ us → (ws : List Token) → Alike us ws
      → ((a : A) × Valid b (p ++ ws) a) → ⊥
  at-ten b ts us s p d ws al v =
      let q = ten-stays p d s ws al in
      let r = w.complete b (p ++ ws) v.0 v.1 in
      clash cc

  pub fault : (b c : ℕ) (ts us : List Token) → f b ts ≡ bad c us → FirstFault (λ b ts. (a : A) × Valid b ts a) b c ts us
  fault b c ts us e = go (rw e at (w.right b ts)) (rw e at (w.stable b ts))
    where
      go : {c : ℕ} {us : List Token} → Right (λ b ts a us. us ≡ [] → Valid b ts a) b ts (bad c us) → Stable f b ts (bad c us)
          → FirstFault (λ b ts. (a : A) × Valid b ts a) b c ts us
      go (nine p d q) s =
          record {
            before = p;
            split = d;
            viable = (q.tokens ++ [], (q.tree, q.reaches b [] (omega arith) refl));
            first = at-nine b ts _ s p d b;
            code = inl refl;
            nine = λ z. at-nine b ts _ s p d;
            ten = λ z. absurd (omega arith);
          }
      go (ten {t} p d q q') s =
          record {
            before = p;
            split = d;
            viable = (q.tokens ++ [], (q.tree, q.reaches b [] (omega arith) refl));
            first = at-ten b ts _ s p d;
            code = inr refl;
            nine = λ z. absurd (omega arith);
            ten = λ z. (t ∷ (q'.tokens ++ []), (both-begin, (q'.tree, rw append_assoc at (q'.reaches (suc b) [] (omega arith) refl))));
          }

  -- a fault of code 10 stands at a token
  pub at-token : (b c : ℕ) (ts us : List Token) → f b ts ≡ bad c us → c ≡ 10 → (t : Token) × ((ws : List Token) × (us ≡ t ∷ ws))
  at-token b c ts us e k = go (rw e at (w.right b ts)) k
    where
      go : {c : ℕ} {us : List Token} → Right (λ b ts a us. us ≡ [] → Valid b ts a) b ts (bad c us) → c ≡ 10 → (t : Token) × ((ws : List Token) × (us ≡ t ∷ ws))
      go (nine p d q) k = absurd (omega (arith, k))
      go (ten {t} {us} p d q q') k = (t, (us, refl))

  -- the codes of two first faults at one place agree
  same_code : (b c c' : ℕ) (ts us us' : List Token) (h : FirstFault (λ b ts. (a : A) × Valid b ts a) b c ts us)
      (k : FirstFault (λ b ts. (a : A) × Valid b ts a) b c' ts us')
      → h.before ≡ k.before → us ≡ us' → c' ≡ c
  same_code b c c' ts us us' h k p q = go h.code k.code
    where
      go : (c ≡ 9) ⊎ (c ≡ 10) → (c' ≡ 9) ⊎ (c' ≡ 10) → c' ≡ c
      go (inl e) (inl e') = e' ∙ sym e
      go (inr e) (inr e') = e' ∙ sym e
      go (inl e) (inr e') = let v = k.ten e' in absurd (h.nine e (suc b) v.0 (rw q v.1.0) (rw p v.1.1))
      go (inr e) (inl e') = let v = h.ten e in absurd (k.nine e' (suc b) v.0 (rw (← q) v.1.0) (rw (← p) v.1.1))

  -- a first fault is the answer: no other place and no other code is given
  pub exact : (b c : ℕ) (ts us : List Token) → FirstFault (λ b ts. (a : A) × Valid b ts a) b c ts us → f b ts ≡ bad c us
  exact b c ts us h = go (f b ts) refl
    where
      past : (t : Token) (p q vs : List Token) → p ++ (t ∷ (q ++ vs)) ≡ (p ++ (t ∷ q)) ++ vs
      past t p q vs = sym (append_assoc p (t ∷ q) vs)

      at : (c' : ℕ) (ws : List Token) (k : FirstFault (λ b ts. (a : A) × Valid b ts a) b c' ts ws) → Splits h.before us k.before ws
          → ◌≡◌ {A = Parse A} (bad c' ws) (bad c us)
      at c' ws k (same_place p e) = rw (same_code b c c' ts us ws h k p e, e)
      at c' ws k (goes_on t q p e) =
          absurd (h.first (t ∷ (q ++ k.viable.0)) (rw e both-begin) (rw (past t h.before q k.viable.0, ← p) k.viable.1))
      at c' ws k (ends-before t q p e) =
          absurd (k.first (t ∷ (q ++ h.viable.0)) (rw e both-begin) (rw (past t k.before q h.viable.0, ← p) h.viable.1))

      go : (x : Parse A) → f b ts ≡ x → x ≡ bad c us
      go (ok a ws) e =
          let z = all_read b ts a ws e in
          let v = sound b ts a (rw z at e) in
          absurd (h.first us (alike us) (a, rw h.split at v))
      go (bad c' ws) e = let k = fault b c' ts ws e in at c' ws k (splits h.before us k.before ws (sym h.split ∙ k.split))
