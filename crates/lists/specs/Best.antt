-- The first fault that a walk has met, as the code holds it.
use Rattle.std.specs.Prelude.{Option as Maybe, Some, None}
use Rattle.std.proofs.Math.Option.{Option, some, none as nothing}
use Rattle.lists.specs.Fault.{Fault}
use Rattle.lists.specs.declared.best.Fault.{Fault as Found}
use Rattle.lists.specs.declared.best.Best.{Best}

-- no fault
abbrev pub clean : Best
clean = record { fault = None }

-- a fault of the code
abbrev pub fault_of : Found → Fault
fault_of f = record { at = f.at; code = f.code; detail = f.detail }

-- the fault, where there is one
abbrev pub meant_by : Maybe Found → Option Fault
meant_by None = nothing
meant_by (Some f) = some (fault_of f)

unfoldable pub meant : Best → Option Fault
meant b = meant_by b.fault
