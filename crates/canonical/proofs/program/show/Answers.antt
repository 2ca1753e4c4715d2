-- The text as canon has written it, or the numbers of its refusal.
use Rattle.canonical.proofs.Shown.{text-shown, numbers-shown}
use Rattle.canonical.proofs.program.show.Goals as goal

pub returns-then-a-eq-ACCEPTED : goal.returns-then-a-eq-ACCEPTED
returns-then-a-eq-ACCEPTED c = let p = text-shown c.args.list.now c.args.doc.now c.args.work1.now c.args.work2.now c.args.out.now c.canon-a.ensures.value
    c.canon-a.ensures.out_after c.if-a-eq-ACCEPTED.true in
    let e = c.canon-a.ensures.value in
    record { value = p.0; out_after = p.1; work1_after = rw (← e) c.canon-a.ensures.work1_after; work2_after = rw (← e) c.canon-a.ensures.work2_after }

pub returns : goal.returns
returns c = let p = numbers-shown c.args.list.now c.args.doc.now c.args.work1.now c.args.work2.now c.args.out.now c.canon-a.ensures.value
    c.canon-a.ensures.out_after
    c.if-a-eq-ACCEPTED.false (c.put_numbers.ensures.value, c.put_numbers.ensures.out_after) in
    let e = c.canon-a.ensures.value in
    record { value = p.0; out_after = p.1; work1_after = rw (← e) c.canon-a.ensures.work1_after; work2_after = rw (← e) c.canon-a.ensures.work2_after }
