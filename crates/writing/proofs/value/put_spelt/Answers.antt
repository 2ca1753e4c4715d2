-- What each way puts is a law of `Leaves`. A number is in range and not too long.
use native.Mathlib.Omega.{arith}
use Rattle.writing.proofs.Leaves.{a-number, puts-name, puts-string, puts-truth, puts-extent, puts-number}
use Rattle.writing.proofs.value.put_spelt.Goals as goal

pub returns-then-kind-eq-NAME : goal.returns-then-kind-eq-NAME
returns-then-kind-eq-NAME c = λ t u v ek eb is e. puts-name c.args.negative c.args.kind c.args.word.now t is ek eb e c.if-kind-eq-NAME.true c.put_word.ensures

pub returns-then-kind-eq-STRING : goal.returns-then-kind-eq-STRING
returns-then-kind-eq-STRING c = λ t u v ek eb is e. puts-string c.args.negative c.args.kind c.args.word.now t is ek eb e c.if-kind-eq-STRING.true
    c.put_string.ensures

pub returns-then-kind-eq-TRUTH : goal.returns-then-kind-eq-TRUTH
returns-then-kind-eq-TRUTH c = λ t u v ek eb is e. puts-truth c.args.negative c.args.kind c.args.word.now t is ek eb e c.if-kind-eq-TRUTH.true
    c.put_truth.ensures

pub returns-then-at-eq-EXTENT : goal.returns-then-at-eq-EXTENT
returns-then-at-eq-EXTENT c = λ t u v ek eb is e. puts-extent c.args.negative c.args.kind c.args.word.now t is ek eb e c.if-kind-eq-NAME.false
    c.if-at-eq-EXTENT.true
    (λ w. c.put_extent.ensures (c.requires.as_lexed.whole w))

pub returns-else-word-le-NUMBER : goal.returns-else-word-le-NUMBER
returns-else-word-le-NUMBER c = λ t u v ek eb is e. let n = a-number c.args.negative c.args.kind c.args.word.now t is ek eb e c.if-kind-eq-NAME.false
    c.if-kind-eq-STRING.false c.if-kind-eq-TRUTH.false c.if-at-eq-EXTENT.false in
    absurd (omega (arith, (c.requires.as_lexed.number n.0).1, c.if-word-le-NUMBER.false))

pub returns-then-word-le-NUMBER : goal.returns-then-word-le-NUMBER
returns-then-word-le-NUMBER c = λ t u v ek eb is e. puts-number c.args.negative c.args.kind c.args.word.now t is ek eb e c.if-kind-eq-NAME.false
    c.if-kind-eq-STRING.false c.if-kind-eq-TRUTH.false c.if-at-eq-EXTENT.false
    (λ n. c.put_number.ensures (c.requires.as_lexed.number n).0)
