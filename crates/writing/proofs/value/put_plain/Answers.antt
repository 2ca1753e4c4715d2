-- The place of the leaf's token is that after its sign, where it has one.
use mathlib.Core.Path.{refl, ◌∙◌}
use native.Mathlib.Omega.{arith}
use Rattle.writing.proofs.Signs.{signs-few, signs-are}
use borrow.Author.Rules.{rules}
use Rattle.writing.proofs.value.put_plain.Goals as goal

pub overflow_add-i : goal.overflow_add-i
overflow_add-i c = let h = signs-few c.args.c in
    search rules

pub returns-then-tokens-i : goal.returns-then-tokens-i
returns-then-tokens-i c = record {
  range = (omega arith, c.requires.v_le_n);
  meaning = λ u w l is q. absurd (omega (arith, l, c.from.ensures, signs-are c.args.c, c.if-tokens-i.true));
}

pub returns : goal.returns
returns c = record {
  range = (omega arith, omega (arith, c.if-tokens-i.false));
  meaning = rw (← (c.from.ensures ∙ signs-are c.args.c)) (λ u w l is q. (c.put_leaf.ensures u w is q, refl));
}
