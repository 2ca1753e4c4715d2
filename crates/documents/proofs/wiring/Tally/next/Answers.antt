-- A refusal is a fault at the place; without one the first fault stays.
use mathlib.Core.Path.{◌≡◌, refl, sym, ap, ◌∙◌}
use native.Mathlib.Omega.{arith}
use borrow.Author.Tests.{ne_eqb}
use Rattle.lexis.specs.Refusal.{refusal_number}
use Rattle.std.proofs.Math.Option.{some, none as nothing}
use Rattle.std.proofs.Common.{Bool, cond}
use Rattle.lists.specs.Fault.{earlier, fault}
use Rattle.lists.specs.Best.{meant}
use Rattle.lists.proofs.Bests.{clean-none}
use Rattle.documents.specs.Walks.{code_of, coded}
use Rattle.documents.proofs.RefusalNumbers.{refusal-positive}
use Rattle.documents.proofs.wiring.Tally.next.Goals as goal
use Rattle.documents.proofs.wiring.Tally.next.Goals.{in-Some, in-None}

pub returns : goal.returns
returns c = let here : meant c.match-refusal.here ≡ coded (code_of c.args.refusal) c.args.place =
    elim c.match-refusal.branch [
      | in-Some w ↦
          rw (w.here-is, w.in-Some.is) (w.one-here.ensures
          ∙ sym (ap (λ (b : Bool). cond b nothing (some (fault (refusal_number w.in-Some.refusal) c.args.place)))
          (ne_eqb _ 0 (λ e. let l = refusal-positive w.in-Some.refusal in omega (arith, l, e)))))
      | in-None w ↦ rw (w.here-is, w.in-None.is) (ap meant w.none-here.ensures ∙ clean-none)
    ] in
    (c.earlier.ensures ∙ ap (earlier (meant c.args.self.best)) here, refl)
