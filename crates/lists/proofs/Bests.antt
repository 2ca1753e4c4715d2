-- The first fault as the code holds it: none, one, and the earlier of two. Assumes nothing.
use mathlib.Core.Path.{◌≡◌, refl, sym, ap}
use mathlib.Core.Bool.{Bool, true, false}
use mathlib.Core.Option.{some, none as nothing}
use Rattle.lists.specs.Fault.{Fault, first}
use Rattle.lists.specs.Best.{clean, meant}
use Rattle.lists.specs.Walks.{when}

pub clean-none : meant clean ≡ nothing
unfolding meant
clean-none = refl

pub no-fault : (test : Bool) (x : Fault) → test ≡ false → meant clean ≡ first (when test x)
unfolding meant first
no-fault test x h = sym (ap (λ (b : Bool). first (when b x)) h)

pub one-fault : (test : Bool) (x : Fault) → test ≡ true → some x ≡ first (when test x)
unfolding first
one-fault test x h = sym (ap (λ (b : Bool). first (when b x)) h)
