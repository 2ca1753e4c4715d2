use mathlib.Core.Path.{refl, ◌∙◌}
use mathlib.Core.List.{[], ◌∷◌}
use Prim.Native.Nat.{◌*◌}
use Rattle.documents.proofs.Recording.{four-sets, call-stored, call-beyond}
use Rattle.documents.proofs.records.record.Goals as goal

pub returns-then-k-ge-CALLS : goal.returns-then-k-ge-CALLS
returns-then-k-ge-CALLS c = call-beyond c.args.records.now c.args.k (c.args.op ∷ c.args.place ∷ c.args.assigned ∷ c.args.used ∷ []) refl c.if-k-ge-CALLS.true

pub returns : goal.returns
returns c = four-sets c.args.records.now (c.args.k * 4) c.args.op c.args.place c.args.assigned c.args.used
    ∙ call-stored c.args.records.now c.args.k (c.args.op ∷ c.args.place ∷ c.args.assigned ∷ c.args.used ∷ []) refl c.if-k-ge-CALLS.false
