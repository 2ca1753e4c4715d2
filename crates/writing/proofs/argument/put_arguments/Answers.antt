-- The values are bound in empty slots, then put in declared order.
use Rattle.writing.proofs.ArgumentPlaces.{empty-slots}
use Rattle.writing.proofs.argument.put_arguments.Goals as goal

pub returns : goal.returns
returns c = record {
  range = c.bind_all-close.ensures.range;
  meaning = λ ps xs us vs d h m v.
      let r = c.bind_all-close.ensures.meaning ps xs us d h (empty-slots 32) in
      (c.put_slots.ensures ps xs vs d r.0 m v, r.1, r.2);
}
