use Prim.Native.Nat.{◌+◌}
use mathlib.Core.Path.{refl}
use native.Mathlib.Omega.{arith}
use Rattle.index.proofs.Steps.{chain-low, entered-known, entered-new}
use Rattle.index.proofs.enter.Goals as goal

pub bounds-index-c : goal.bounds-index-c
bounds-index-c c = omega (arith, chain-low c.bytes_at-w.result.now, c.chain_of-c.ensures, c.requires.walkable.falling.room)

pub seek-requires : goal.seek-requires
seek-requires c = let w = c.requires.walkable in let l = w.low c.chain_of-c.result (omega (arith, chain-low c.bytes_at-w.result.now, c.chain_of-c.ensures)) in
    record { falling = w.falling; first_le_n = omega (arith, l, c.requires.t_lt_n.0) }

pub returns-in-Some : goal.returns-in-Some
returns-in-Some c = let ts = c.args.tokens.now in
    let p = entered-known ts.text.now ts.table.now c.args.index.now c.bytes_at-w.result.now c.args.t c.chain_of-c.result _ (c.in-Some.p + 1) ts.count
    c.bytes_at-w.ensures c.chain_of-c.ensures refl (c.in-Some.ensures.seeks, c.in-Some.ensures.upper_bound)
    c.requires.walkable c.requires.t_lt_n.0 c.in-Some.p refl in
    record { enters = p.0; walkable_2 = p.1.0; upper_bound = p.1.1 }

pub overflow_cast-index : goal.overflow_cast-index
overflow_cast-index c = let l = c.requires.walkable.low c.chain_of-c.result (omega (arith, chain-low c.bytes_at-w.result.now, c.chain_of-c.ensures)) in
    omega (arith, l, c.requires.t_lt_n.1)

pub returns : goal.returns
returns c = let ts = c.args.tokens.now in
    let p = entered-new ts.text.now ts.table.now c.args.index.now c.bytes_at-w.result.now c.args.t c.chain_of-c.result _ 0 ts.count
    c.bytes_at-w.ensures c.chain_of-c.ensures refl (c.in_default.ensures.seeks, c.in_default.ensures.upper_bound)
    c.requires.walkable c.requires.t_lt_n.0 (omega arith) in
    record { enters = p.0; walkable_2 = p.1.0; upper_bound = p.1.1 }
