use mathlib.Core.Path.{refl}
use native.Mathlib.Omega.{arith}
use lib.ListN.{length}
use Rattle.lexis.proofs.Pass.{told, lexing-first, record-room, mark-room, lexing-next, lexing-mark, lexing-gap, lexing-end, lexing-fault}
use Rattle.lexis.proofs.lex_into.Goals as goal

pub loop-r-init : goal.loop-r-init
loop-r-init c = lexing-first _ _ _ _ c.new-c.ensures

pub put_record-requires : goal.put_record-requires
put_record-requires c = let s = told c.args.text.now c.loop-r.c _ _ c.next.ensures c.in-Next.is in
    let p = record-room _ _ _ _ _ c.loop-r.invariant _ _ s c.requires.text_len_bound c.requires.text_in_bounds in record { record_words_in_bounds = p.0; start_le_max_text = p.1 }

pub mark-requires : goal.mark-requires
mark-requires c = let s = told c.args.text.now c.loop-r.c _ _ c.next.ensures c.in-Next.is in
    record {
      start_lt_end = s.some;
      end_in_bounds = s.inside;
      i_in_bounds = mark-room _ _ _ _ _ c.loop-r.invariant _ _ _ s c.requires.text_in_bounds
          c.put_record.ensures;
    }

pub loop-r-smaller-in-Next : goal.loop-r-smaller-in-Next
loop-r-smaller-in-Next c = let s = told c.args.text.now c.loop-r.c _ _ c.next.ensures c.in-Next.is in
    omega (arith, s.moves, s.within)

pub loop-r-preserved-in-Next : goal.loop-r-preserved-in-Next
loop-r-preserved-in-Next c = let s = told c.args.text.now c.loop-r.c _ _ c.next.ensures c.in-Next.is in
    lexing-next _ _ _ _ _ c.loop-r.invariant _ _ _ _ s
    c.put_record.ensures c.mark.ensures

pub put_record-requires-in-Mark : goal.put_record-requires-in-Mark
put_record-requires-in-Mark c = let s = told c.args.text.now c.loop-r.c _ _ c.next.ensures c.in-Mark.is in
    let p = record-room _ _ _ _ _ c.loop-r.invariant _ _ s c.requires.text_len_bound c.requires.text_in_bounds in record { record_words_in_bounds = p.0; start_le_max_text = p.1 }

pub bounds-text-at : goal.bounds-text-at
bounds-text-at c = let s = told c.args.text.now c.loop-r.c _ _ c.next.ensures c.in-Mark.is in
    omega (arith, s.some, s.inside)

pub put_mark-requires : goal.put_mark-requires
put_mark-requires c = let s = told c.args.text.now c.loop-r.c _ _ c.next.ensures c.in-Mark.is in
    mark-room _ _ _ _ _ c.loop-r.invariant _ _ _ s c.requires.text_in_bounds c.put_record-in-Mark.ensures

pub loop-r-smaller-in-Mark : goal.loop-r-smaller-in-Mark
loop-r-smaller-in-Mark c = let s = told c.args.text.now c.loop-r.c _ _ c.next.ensures c.in-Mark.is in
    omega (arith, s.moves, s.within)

pub loop-r-preserved-in-Mark : goal.loop-r-preserved-in-Mark
loop-r-preserved-in-Mark c = let s = told c.args.text.now c.loop-r.c _ _ c.next.ensures c.in-Mark.is in
    lexing-mark _ _ _ _ _ c.loop-r.invariant _ _ _ _ s
    c.put_record-in-Mark.ensures c.from.ensures
    c.put_mark.ensures

pub loop-r-smaller : goal.loop-r-smaller
loop-r-smaller c = let s = told c.args.text.now c.loop-r.c _ _ c.next.ensures c.in-Gap.is in
    omega (arith, s.moves, s.within)

pub loop-r-preserved : goal.loop-r-preserved
loop-r-preserved c = let s = told c.args.text.now c.loop-r.c _ _ c.next.ensures c.in-Gap.is in
    lexing-gap _ _ _ _ _ c.loop-r.invariant _ s

pub shape_of-work-in-End : goal.shape_of-work-in-End
shape_of-work-in-End c = c.loop-r.invariant.long

pub returns-in-End : goal.returns-in-End
returns-in-End c = let text = c.args.text.now in
    let p = lexing-end c.args.marked text c.args.work.now c.loop-r.c _ c.loop-r.invariant _ _ refl
    (told text c.loop-r.c _ _ c.next.ensures c.in-End.is) refl c.requires.text_in_bounds in record { value = p.0; recorded = p.1.0; room = p.1.1 }

pub overflow_cast-result-in-Fault : goal.overflow_cast-result-in-Fault
overflow_cast-result-in-Fault c = omega (arith, (told c.args.text.now c.loop-r.c _ _ c.next.ensures c.in-Fault.is).1, c.requires.text_len_bound)

pub shape_of-work-in-Fault : goal.shape_of-work-in-Fault
shape_of-work-in-Fault c = c.loop-r.invariant.long

pub returns-in-Fault : goal.returns-in-Fault
returns-in-Fault c = let work = c.args.work.now in
    let text = c.args.text.now in
    let p = lexing-fault c.args.marked text work c.loop-r.c _ c.loop-r.invariant _ _ _ _ (length work) refl refl
    (told text c.loop-r.c _ _ c.next.ensures c.in-Fault.is).0 in record { value = p.0; recorded = p.1.0; room = p.1.1 }
