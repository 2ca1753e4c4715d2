-- The argument is refused, or binds the parameter of its number.
use mathlib.Core.Path.{refl, ◌∙◌}
use native.Mathlib.Omega.{arith}
use borrow.Author.Tests.{not-true, not-false}
use Rattle.documents.proofs.Aims.{aim-trailing, aim-beyond, aim-unfit, aim-place}
use Rattle.documents.proofs.arguments.positional.Goals as goal

pub returns-then-not-t : goal.returns-then-not-t
returns-then-not-t c = record { range = record { number = tt; value = omega arith }; place = refl; meaning = λ ps xs v d k. aim-trailing v k c.args.t.at (not-true c.args.t.leads c.if-not-t.true) }

pub returns-then-callee-p : goal.returns-then-callee-p
returns-then-callee-p c = record {
  range = record { number = tt; value = omega arith };
  place = refl;
  meaning = λ ps xs v d k.
      aim-beyond v k c.args.t.at (not-false c.args.t.leads c.if-not-t.false) (omega (arith, d.count, c.if-callee-p.true));
}

pub returns-then-not-is_tensor : goal.returns-then-not-is_tensor
returns-then-not-is_tensor c = let led = not-false c.args.t.leads c.if-not-t.false in
    record {
      range = record { number = tt; value = omega arith };
      place = refl;
      meaning = λ ps xs v d u.
          aim-unfit v u c.args.t.at d led c.if-callee-p.false (λ y h. c.is_tensor.ensures y (c.code_of.ensures ∙ h)) c.if-not-is_tensor.true;
    }

pub returns : goal.returns
returns c = let led = not-false c.args.t.leads c.if-not-t.false in
    record {
      range = record { number = c.if-callee-p.false; value = omega arith };
      place = refl;
      meaning = λ ps xs v d u.
          aim-place v u c.args.t.at d led c.if-callee-p.false (λ y h. c.is_tensor.ensures y (c.code_of.ensures ∙ h)) c.if-not-is_tensor.false;
    }
