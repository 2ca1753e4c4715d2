-- Six stores, one after the other, unless the operation is beyond the size.
use native.Mathlib.Numerals.{add-one, add-two, add-three, add-four, add_five}
use native.Mathlib.Omega.{arith}
use lib.ListN.{length-set}
use borrow.Author.Tests.{le-ltb, lt-ltb}
use Rattle.lexis.specs.Sizes.{max_operations}
use Rattle.lists.proofs.directory.store_operation.Goals as goal

pub returns-then-k-ge-OPERATIONS : goal.returns-then-k-ge-OPERATIONS
returns-then-k-ge-OPERATIONS c = simp (le-ltb c.args.k max_operations c.if-k-ge-OPERATIONS.true)

pub bounds-words-at-2 : goal.bounds-words-at-2
bounds-words-at-2 c = simp length-set (omega arith)

pub bounds-words-at-3 : goal.bounds-words-at-3
bounds-words-at-3 c = simp length-set (omega arith)

pub bounds-words-at-4 : goal.bounds-words-at-4
bounds-words-at-4 c = simp length-set (omega arith)

pub bounds-words-at-5 : goal.bounds-words-at-5
bounds-words-at-5 c = simp length-set (omega arith)

pub bounds-words-at-6 : goal.bounds-words-at-6
bounds-words-at-6 c = simp length-set (omega arith)

pub shape_of-words : goal.shape_of-words
shape_of-words c = simp length-set

pub returns : goal.returns
returns c = simp (add-one, add-two, add-three, add-four, add_five, lt-ltb c.args.k max_operations c.if-k-ge-OPERATIONS.false)
