-- A number in range reduces to the number that is put.
use mathlib.Core.Path.{sym, ◌∙◌}
use Rattle.writing.proofs.Spelled.{held-is, reduced-near, reduced-is, reduced-some}
use Rattle.writing.proofs.spelling.put_number.Goals as goal

pub put_signed-requires : goal.put_signed-requires
put_signed-requires c = let near = reduced-near c.args.word.now (sym c.reduce.ensures ∙ c.in-Some.is) in
    rw (held-is _ near) near

pub returns-in-Some : goal.returns-in-Some
returns-in-Some c = λ ok. rw
    (reduced-is c.args.word.now
    (sym c.reduce.ensures ∙ c.in-Some.is))
    c.put_signed.ensures

pub returns-in_default : goal.returns-in_default
returns-in_default c = λ ok. absurd (reduced-some c.args.word.now ok (sym c.reduce.ensures ∙ c.in_default.is))
