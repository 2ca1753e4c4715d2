-- The name is entered, its mark looked at and set.
use mathlib.Core.Path.{ap}
use Prim.Native.Nat.{ℕ}
use native.Mathlib.Omega.{arith}
use lib.Dec.{eqb}
use Rattle.index.proofs.Theorems.{walks-changed}
use Rattle.lists.proofs.NameMarks.{marks}
use Rattle.lists.proofs.headers.named.Goals as goal

pub enter-p-requires : goal.enter-p-requires
enter-p-requires c = record {
  t_lt_n = (c.requires.i_lt_n.0, omega (arith, c.requires.i_lt_n.0, c.requires.i_lt_n.1));
  walkable = c.requires.walkable_2;
}

pub word_of-requires : goal.word_of-requires
word_of-requires c = omega (arith, c.enter-p.ensures.walkable_2.falling.room, c.enter-p.ensures.upper_bound, c.requires.i_lt_n.0)

pub set_word-requires : goal.set_word-requires
set_word-requires c = record {
  field_in_bounds = omega (
    arith,
    c.enter-p.ensures.walkable_2.falling.room,
    c.enter-p.ensures.upper_bound,
    c.requires.i_lt_n.0,
  );
  x_bound = omega (arith, c.requires.i_lt_n.1, c.requires.i_lt_n.2);
}

pub returns : goal.returns
returns c = record {
  walkable = rw c.set_word.ensures (walks-changed c.enter-p.result 1 c.args.k (omega arith) c.enter-p.ensures.walkable_2);
  meaning = marks c.args.tokens.now.text.now c.args.tokens.now.table.now c.args.index.now c.enter-p.new.index c.args.i c.args.k c.enter-p.result
      c.enter-p.ensures.enters
      (ap (λ (x : ℕ). eqb x c.args.k) c.word_of.ensures)
      (omega (arith, c.enter-p.ensures.walkable_2.falling.room, c.enter-p.ensures.upper_bound, c.requires.i_lt_n.0)) c.set_word.ensures;
}
