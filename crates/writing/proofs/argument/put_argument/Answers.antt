-- The name, `=`, and the value.
use Prim.Native.Nat.{◌+◌}
use Rattle.writing.proofs.ArgumentPuts.{argument-put}
use Rattle.writing.proofs.argument.put_argument.Goals as goal

pub returns : goal.returns
returns c = λ p o w q v h.
    argument-put c.args.callee.now.list.text.now c.args.callee.now.list.table.now c.args.callee.now.words.now c.args.callee.now.list.count (c.args.callee.now.operation.first + c.args.i) w q c.name_of.ensures.value
    c.put_token.ensures c.put_mark.ensures
    (c.put_bound.ensures p o w q v h)
