-- No equals sign, a default that fits, or one that does not.
use mathlib.Core.Path.{sym, ap, ◌∙◌}
use native.Mathlib.Omega.{arith}
use Rattle.syntax.proofs.Symbols.{stands}
use Rattle.lists.specs.Best.{meant}
use Rattle.lists.proofs.GivenDefaults.{no-default-is, fitting-is, misfit-is}
use Rattle.lists.proofs.headers.default_of.Goals as goal

pub returns-then-symbol_at-ne-EQUAL : goal.returns-then-symbol_at-ne-EQUAL
returns-then-symbol_at-ne-EQUAL c = record {
  range = omega arith;
  meaning = λ u ws o us t is d. no-default-is is d (λ z. c.if-symbol_at-ne-EQUAL.true (c.symbol_at.ensures ∙ z)) (ap meant c.none.ensures);
}

pub overflow_add-v : goal.overflow_add-v
overflow_add-v c =
    let s = c.args.tokens.now in
    let q = sym c.symbol_at.ensures ∙ c.if-symbol_at-ne-EQUAL.false in
    omega (arith, stands s.text.now s.table.now s.count c.args.ty.end (sym q) (omega arith))

pub misfit_at-requires : goal.misfit_at-requires
misfit_at-requires c = c.requires.0

pub returns-in_default : goal.returns-in_default
returns-in_default c =
    let s = c.args.tokens.now in
    let q = sym c.symbol_at.ensures ∙ c.if-symbol_at-ne-EQUAL.false in
    record {
      range = omega (arith, stands s.text.now s.table.now s.count c.args.ty.end (sym q) (omega arith));
      meaning = λ u ws o us t is d.
          misfit-is c.args.t t is d q c.fits_item.ensures.meaning c.in_default.is c.value_end.ensures c.misfit_at.ensures;
    }

pub returns : goal.returns
returns c =
    let s = c.args.tokens.now in
    let q = sym c.symbol_at.ensures ∙ c.if-symbol_at-ne-EQUAL.false in
    record {
      range = omega (arith, stands s.text.now s.table.now s.count c.args.ty.end (sym q) (omega arith));
      meaning = λ u ws o us t is d. fitting-is c.args.t t is d q c.fits_item.ensures.meaning c.in-Some.is (ap meant c.none-2.ensures);
    }
