-- In a document without the fault of code 22, the call that a wire names comes before the call that uses the identifier, and assigns it.
-- Assumes nothing.
use mathlib.Core.Path.{◌≡◌, refl, sym, ap, ◌∙◌}
use mathlib.Core.Bool.{Bool, true, false, cond, not, ◌||◌}
use mathlib.Core.List.{List, [], ◌∷◌, ◌++◌, flat_map, append_assoc, append-nil}
use Prim.Native.Nat.{ℕ, suc}
use native.Mathlib.Omega.{arith}
use lib.ListN.{length}
use Rattle.lexis.specs.Lexer.{Token}
use Rattle.syntax.specs.Tree.{Call}
use Rattle.lists.specs.Fault.{Fault, faults, starts}
use Rattle.lists.specs.Names.{those, is_among, assigned, used, all_assigned}
use Rattle.lists.proofs.Faultless.{no-faults, no-starts}
use Rattle.documents.specs.Wiring.{strangers, unwired_after}
use Rattle.documents.specs.Tables.{assigner}
use Rattle.documents.specs.Wired.{AssignedBy}
use Rattle.documents.proofs.Lookups.{among-append}

clash : ◌≡◌ {A = ℕ} 0 1 → ⊥
clash z = omega arith

-- ---- lists of names

-- where no token is a stranger, each is known
no-stranger : (known xs : List Token) (t : Token) (ys : List Token) → strangers known (xs ++ (t ∷ ys)) ≡ [] → is_among known t ≡ true
unfolding those
no-stranger known [] t ys e = go (is_among known t) e
  where
    go : (b : Bool) → cond (not b) (t ∷ strangers known ys) (strangers known ys) ≡ [] → b ≡ true
    go true e = refl
    go false e = absurd (clash cc)
no-stranger known (x ∷ xs) t ys e = go (is_among known x) e (λ q. no-stranger known xs t ys q)
  where
    go : (b : Bool) → cond (not b) (x ∷ strangers known (xs ++ (t ∷ ys))) (strangers known (xs ++ (t ∷ ys))) ≡ []
        → (strangers known (xs ++ (t ∷ ys)) ≡ [] → is_among known t ≡ true) → is_among known t ≡ true
    go true e f = f e
    go false e f = absurd (clash cc)

none_left : (xs ys : List Fault) → xs ++ ys ≡ [] → (xs ≡ []) × (ys ≡ [])
none_left [] ys e = (refl, e)
none_left (x ∷ xs) ys e = absurd (clash cc)

-- ---- a use is assigned before

-- the uses of the call after `before` are known
known-before : (known : List Token) (before : List Call) (c : Call) (after : List Call) → unwired_after known (before ++ (c ∷ after)) ≡ []
    → strangers (known ++ all_assigned before) (used c) ≡ []
unfolding unwired_after all_assigned flat_map
known-before known [] c after e =
    let q = none_left (faults 22 (starts (strangers known (used c)))) (unwired_after (known ++ assigned c) after) e in
    rw (append-nil known) (no-starts (strangers known (used c)) (no-faults 22 (starts (strangers known (used c))) q.0))
known-before known (x ∷ before) c after e =
    let q = none_left (faults 22 (starts (strangers known (used x)))) (unwired_after (known ++ assigned x) (before ++ (c ∷ after))) e in
    rw (← append_assoc known (assigned x) (all_assigned before)) (known-before (known ++ assigned x) before c after q.1)

-- the first of the calls that assigns it
found : (before after : List Call) (t : Token) → is_among (all_assigned before) t ≡ true
    → AssignedBy (before ++ after) (assigner (before ++ after) t) (length before) t
unfolding all_assigned flat_map assigner is_among
found [] after t e = absurd (clash cc)
found (x ∷ before) after t e = go (is_among (assigned x) t) refl (sym (among-append (assigned x) (all_assigned before) t) ∙ e) (λ q. found before after t q)
  where
    go : (b : Bool) → is_among (assigned x) t ≡ b → (b || is_among (all_assigned before) t) ≡ true
        → (is_among (all_assigned before) t ≡ true → AssignedBy (before ++ after) (assigner (before ++ after) t) (length before) t)
        → AssignedBy (x ∷ (before ++ after)) (cond b 0 (suc (assigner (before ++ after) t))) (suc (length before)) t
    go true p e f = record { earlier = []; call = x; later = before ++ after; stands = refl; index = refl; before = omega arith; assigns = p }
    go false p e f =
        let r = f e in
        record {
          earlier = x ∷ r.earlier;
          call = r.call;
          later = r.later;
          stands = ap (λ (l : List Call). x ∷ l) r.stands;
          index = ap suc r.index;
          before = omega (arith, r.before);
          assigns = r.assigns;
        }

pub wired : (before : List Call) (c : Call) (after : List Call) (xs : List Token) (t : Token) (ys : List Token)
    → unwired_after [] (before ++ (c ∷ after)) ≡ [] → used c ≡ xs ++ (t ∷ ys)
    → AssignedBy (before ++ (c ∷ after)) (assigner (before ++ (c ∷ after)) t) (length before) t
wired before c after xs t ys e u = found before (c ∷ after) t (no-stranger (all_assigned before) xs t ys (rw u at (known-before [] before c after e)))
