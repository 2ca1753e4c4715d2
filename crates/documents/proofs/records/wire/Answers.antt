use mathlib.Core.Path.{◌∙◌}
use mathlib.Core.List.{[], ◌∷◌}
use Prim.Native.Nat.{◌+◌, ◌*◌}
use Rattle.documents.specs.Records.{first_wire, wire_size}
use Rattle.documents.proofs.Recording.{two-sets, wire-stored, wire-beyond}
use Rattle.documents.proofs.records.wire.Goals as goal

pub returns-then-u-ge-USES : goal.returns-then-u-ge-USES
returns-then-u-ge-USES c = wire-beyond c.args.records.now c.args.u (c.args.place ∷ c.args.call ∷ []) c.if-u-ge-USES.true

pub returns : goal.returns
returns c = two-sets c.args.records.now (first_wire + c.args.u * wire_size) c.args.place c.args.call
    ∙ wire-stored c.args.records.now c.args.u (c.args.place ∷ c.args.call ∷ []) c.if-u-ge-USES.false
