-- The answer of the stages.
use mathlib.Core.Path.{sym, ap, ◌∙◌}
use mathlib.Core.List.{List}
use Prim.Native.Nat.{ℕ}
use native.Mathlib.Omega.{arith}
use lib.ListN.{length}
use Rattle.lexis.specs.Answer.{answer}
use Rattle.syntax.specs.Tree.{Header}
use Rattle.lists.specs.Answer.{Stage, stage_answer}
use Rattle.lists.proofs.ListStages.{served-zeros}
use Rattle.lists.proofs.list_answer.Goals as goal

pub list_stages-requires : goal.list_stages-requires
list_stages-requires c = record {
  text_len_bound = (c.requires.list_len_bound, c.requires.work_words_in_bounds);
  served = served-zeros 13312 3840 _ (omega arith) (omega arith);
}

pub overflow_cast-listed : goal.overflow_cast-listed
overflow_cast-listed c = let p = c.in-Ok.ensures in omega (arith, p.small, p.few)

pub returns-in-Ok : goal.returns-in-Ok
returns-in-Ok c = let p = c.in-Ok.ensures in
    record {
      value = c.accepted.ensures ∙ sym (ap (λ (s : Stage (List Header)). stage_answer s length) p.stages ∙ ap (λ (k : ℕ). answer 0 0 0 k) p.count);
      work_len_unchanged = c.list_stages.auto.work;
    }

pub returns-in-Err : goal.returns-in-Err
returns-in-Err c = record {
  value = sym (ap (λ (s : Stage (List Header)). stage_answer s length) c.in-Err.ensures);
  work_len_unchanged = c.list_stages.auto.work;
}
