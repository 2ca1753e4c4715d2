-- The stages of a text pass exactly when the text is accepted: once for any text, then for operation lists. Assumes nothing.
use mathlib.Core.Path.{◌≡◌, refl}
use mathlib.Core.List.{List, []}
use mathlib.Core.Option.{Option, some}
use mathlib.Core.Option.{none as nothing}
use Prim.Native.Nat.{ℕ, ◌≤◌}
use native.Mathlib.Omega.{arith}
use lib.ListN.{length}
use Rattle.lexis.specs.Sizes.{max_text, max_brackets}
use Rattle.lexis.specs.Lexer.{Token, Lexed, accepted, refused, lex}
use Rattle.syntax.specs.Tree.{Header}
use Rattle.syntax.specs.Parser.{Parse, Reader, operations}
use Rattle.syntax.specs.Parser.Parse.{ok, bad}
use Rattle.syntax.proofs.Theorems.{list-parsed, list-all-read}
use Rattle.lists.specs.Fault.{Fault, first}
use Rattle.lists.specs.ListRules.{list_faults}
use Rattle.lists.specs.Answer.{Stage, pass, and_then, bytes_stage, syntax_stage, rules_stage, list_stages}
use Rattle.lists.specs.Accepted.{AcceptedList}
use Rattle.lists.proofs.First.{first-none}

clash : ◌≡◌ {A = ℕ} 0 1 → ⊥
clash z = omega arith

-- the stages of text k by a reader and its rules
abbrev pub stages : {A : Type 0} → ℕ → Reader A → (A → List Fault) → List ℕ → Stage A
stages k f faults_of text =
    and_then (bytes_stage k (lex text)) (λ ts.
    and_then (syntax_stage k text (f ts)) (λ a.
    rules_stage k a (first (faults_of a))))

module _ {A : Type 0} (k : ℕ) (f : Reader A) (faults_of : A → List Fault) (text : List ℕ) where
  -- what a text that passes is: tokens that the reader takes, with no fault
  pub record Passed (a : A) : Type 0 where
    pub tokens : List Token
    pub rest : List Token
    pub lexed : lex text ≡ accepted tokens
    pub read : f tokens ≡ ok a rest
    pub lawful : faults_of a ≡ []

  lawful-by : (a b : A) (x : Option Fault) → rules_stage k a x ≡ pass b → (x ≡ nothing) × (a ≡ b)
  lawful-by a b nothing e = (refl, cc)
  lawful-by a b (some y) e = absurd (clash cc)

  read_by : (a : A) (ts : List Token) (x : Parse A) → f ts ≡ x → lex text ≡ accepted ts
      → and_then (syntax_stage k text x) (λ b. rules_stage k b (first (faults_of b))) ≡ pass a → Passed a
  read_by a ts (bad c us) r l e = absurd (clash cc)
  read_by a ts (ok b us) r l e =
      let q = lawful-by b a (first (faults_of b)) e in
      record { tokens = ts; rest = us; lexed = l; read = rw q.1 at r; lawful = rw q.1 at (first-none (faults_of b) q.0) }

  pub passed : (a : A) → stages k f faults_of text ≡ pass a → Passed a
  passed a e = go (lex text) refl e
    where
      go : (l : Lexed) → lex text ≡ l
          → and_then (bytes_stage k l) (λ ts. and_then (syntax_stage k text (f ts)) (λ b. rules_stage k b (first (faults_of b)))) ≡ pass a → Passed a
      go (accepted ts) q e = read_by a ts (f ts) refl q e
      go (refused c p) q e = absurd (clash cc)

  pub passes : (a : A) → Passed a → stages k f faults_of text ≡ pass a
  unfolding first
  passes a p = rw (p.lexed, p.read, p.lawful)

-- ---- lists

pub list-passed : (list : List ℕ) (hs : List Header) → length list ≤ max_text → list_stages list ≡ pass hs → AcceptedList list hs
unfolding list_stages
list-passed list hs s e =
    let p = passed 1 (operations max_brackets) list_faults list hs e in
    let z = list-all-read max_brackets p.tokens hs p.rest p.read in
    record { short = s; tokens = p.tokens; lexed = p.lexed; spelt = (list-parsed max_brackets p.tokens hs).0 (rw z at p.read); lawful = p.lawful }

pub list-passes : (list : List ℕ) (hs : List Header) → AcceptedList list hs → list_stages list ≡ pass hs
unfolding list_stages
list-passes list hs a =
    passes 1 (operations max_brackets) list_faults list hs
    (record { tokens = a.tokens; rest = []; lexed = a.lexed; read = (list-parsed max_brackets a.tokens hs).1 a.spelt; lawful = a.lawful })
