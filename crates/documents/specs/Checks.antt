-- What only the contracts of `check` cite: what its stages leave in both tables.
use Rattle.std.specs.Prelude.{◌≡◌, List, length, ℕ, ◌*◌}
use Rattle.std.proofs.lemmas.List.Edits.{sets}
use Rattle.lexis.specs.Code as Code
use Rattle.lexis.specs.Answer.{answer}
use Rattle.lexis.specs.declared.Answer.{Answer}
use Rattle.lists.specs.Answer.{Stage, stage_answer}
use Rattle.documents.specs.Records.{call_size, wire_size, first_wire, Stored}
use Rattle.documents.specs.declared.stages.Sizes.{Sizes}
use Rattle.documents.specs.Answer.{Checked, calls_after, wires_after}

-- the answer and both tables after these stages
pub record Ended (s : Stage Checked) (calls calls' wires wires' : List ℕ) (r : Answer) : Type 0 where
  pub answered : r ≡ stage_answer s (λ k. length k.document.calls)
  pub called : calls' ≡ calls_after s calls
  pub wired : wires' ≡ wires_after s wires

-- the answer for these sizes, and both tables after the records were copied
pub record Tabled (records calls calls' wires wires' : List ℕ) (s : Sizes) (r : Answer) : Type 0 where
  pub answered : r ≡ answer Code.accepted 0 0 s.calls
  pub called : (xs : List ℕ) → s.calls * call_size ≡ length xs → Stored records 0 xs → calls' ≡ sets calls 0 xs
  pub wired : (xs : List ℕ) → s.uses * wire_size ≡ length xs → Stored records first_wire xs → wires' ≡ sets wires 0 xs
