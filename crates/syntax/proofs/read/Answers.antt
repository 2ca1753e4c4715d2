-- `read` meets its contract: what the lexer leaves in the work area holds the tokens, and a fault's place lies in the text. Assumes nothing.
use mathlib.Core.Path.{refl}
use native.Mathlib.Omega.{arith}
use Rattle.std.proofs.lemmas.Result.{err_from_is_err_and}
use Rattle.syntax.proofs.Reading.{got, read-refused, read_is, place-within}
use Rattle.syntax.proofs.read.Goals as goal

pub returns-in_err-n-clause-value : goal.returns-in_err-n-clause-value
returns-in_err-n-clause-value c = let p = err_from_is_err_and c.from_residual.result c.from_residual.ensures.1 in
    rw (p.1, p.2) (read-refused c.args.which c.args.text.now _ c.in_err-n.ensures.value refl)

pub invariant_of-tokens : goal.invariant_of-tokens
invariant_of-tokens c = let f = c.in_ok-n.ensures in
    record { holds = (got c.args.text.now c.args.work.now c.lex_into.new.work _ _ f.value f.recorded f.room c.requires.work_words_in_bounds refl).table }

pub returns-in-Ok-clause-value : goal.returns-in-Ok-clause-value
returns-in-Ok-clause-value c = let text = c.args.text.now in
    let work = c.lex_into.new.work in
    let f = c.in_ok-n.ensures in
    let g = got text c.args.work.now work _ _ f.value f.recorded f.room c.requires.work_words_in_bounds refl in
    read_is c.args.which text work _ g c.in-Ok.ensures

pub overflow_cast-result : goal.overflow_cast-result
overflow_cast-result c = let text = c.args.text.now in
    let work = c.lex_into.new.work in
    let f = c.in_ok-n.ensures in
    let g = got text c.args.work.now work _ _ f.value f.recorded f.room c.requires.work_words_in_bounds refl in
    omega (arith, place-within text work _ g.table c.place.result, c.place_at.ensures, c.requires.text_len_bound)

pub returns-in-Err-clause-value : goal.returns-in-Err-clause-value
returns-in-Err-clause-value c = let text = c.args.text.now in
    let work = c.lex_into.new.work in
    let f = c.in_ok-n.ensures in
    let g = got text c.args.work.now work _ _ f.value f.recorded f.room c.requires.work_words_in_bounds refl in
    rw (c.refusal.ensures, c.place_at.ensures, c.place.ensures) (read_is c.args.which text work _ g c.in-Err.ensures)
