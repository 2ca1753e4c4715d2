-- The faults of a call under a list: what the look-up of its operation makes of them. Assumes nothing.
use mathlib.Core.Path.{◌≡◌, refl, ap}
use mathlib.Core.Bool.{Bool, true, false, not}
use mathlib.Core.List.{List, [], ◌∷◌, ◌++◌}
use mathlib.Core.Option.{Option, some}
use mathlib.Core.Option.{none as nothing}
use Rattle.syntax.specs.Tree.{Header, Call}
use Rattle.lists.specs.Fault.{Fault, fault, unless, first}
use Rattle.lists.specs.Found.{find}
use Rattle.lists.specs.Walks.{when}
use Rattle.documents.specs.DocumentRules.{by_operation, undeclared, argument_faults, unmatched, bound_at, left_faults}
use Rattle.documents.specs.Operations.{operation_faults}

-- ---- one call

-- an undeclared operation: 15 alone
pub unknown : (hs : List Header) (c : Call) → find hs c.op ≡ nothing → first (operation_faults hs c) ≡ some (fault 15 c.op.start)
unfolding operation_faults undeclared argument_faults unmatched first
unknown hs c e =
    ap
    (λ (o : Option Header). first
    (by_operation o (λ h. []) (fault 15 c.op.start ∷ []) ++ (by_operation o (λ h. bound_at c.op.start h c) [] ++ by_operation o (λ h. left_faults h c) [])))
    e

-- a declared one: those of its header
pub known : (hs : List Header) (c : Call) (h : Header) → find hs c.op ≡ some h
    → first (operation_faults hs c) ≡ first (bound_at c.op.start h c ++ left_faults h c)
unfolding operation_faults undeclared argument_faults unmatched
known hs c h e =
    ap
    (λ (o : Option Header). first
    (by_operation o (λ h. []) (fault 15 c.op.start ∷ []) ++ (by_operation o (λ h. bound_at c.op.start h c) [] ++ by_operation o (λ h. left_faults h c) [])))
    e

pub when-not : (b : Bool) (x : Fault) → when (not b) x ≡ unless b x
when-not true x = refl
when-not false x = refl
