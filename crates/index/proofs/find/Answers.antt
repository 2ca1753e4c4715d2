use mathlib.Core.Path.{refl}
use native.Mathlib.Omega.{arith}
use Rattle.index.specs.Layout.{link_to}
use Rattle.index.proofs.Steps.{chain-low, finds}
use Rattle.index.proofs.find.Goals as goal

pub bounds-index-chain_of : goal.bounds-index-chain_of
bounds-index-chain_of c = omega (arith, chain-low c.args.w.now, c.chain_of.ensures, c.requires.walkable.falling.room)

pub seek-requires : goal.seek-requires
seek-requires c = let l = c.requires.walkable.low c.chain_of.result (omega (arith, chain-low c.args.w.now, c.chain_of.ensures)) in
    record { falling = c.requires.walkable.falling; first_le_n = omega (arith, l) }

pub returns : goal.returns
returns c = let l = c.requires.walkable.low c.chain_of.result (omega (arith, chain-low c.args.w.now, c.chain_of.ensures)) in
    record {
      finds = finds c.args.tokens.now.text.now c.args.tokens.now.table.now c.args.index.now c.args.w.now
          c.chain_of.result _ (link_to c.seek.result) c.chain_of.ensures refl c.seek.ensures.seeks;
      upper_bound = omega (arith, l, c.seek.ensures.upper_bound);
    }
