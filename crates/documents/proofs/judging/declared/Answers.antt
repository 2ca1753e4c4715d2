-- The arguments' faults and the left side's, by the numbers of the directory.
use mathlib.Core.Path.{refl, ap, ◌∙◌}
use mathlib.Core.List.{map}
use mathlib.Core.Option.{Option}
use Prim.Native.Nat.{ℕ}
use native.Mathlib.Omega.{arith}
use Rattle.lexis.specs.Sizes.{max_brackets}
use Rattle.lexis.specs.Symbol.{right_round}
use Rattle.syntax.specs.Parser.{row, plain, commas, typed_name}
use Rattle.syntax.specs.Table.{toks}
use Rattle.lists.specs.Fault.{Fault, earlier}
use Rattle.lists.specs.Best.{meant}
use Rattle.lists.specs.Masks.{is_required}
use Rattle.documents.specs.declared.operation.Operation.{Operation}
use Rattle.documents.specs.Arguments.{bound}
use Rattle.documents.proofs.DirectoryEntries.{takes}
use Rattle.documents.proofs.Judgements.{parts, name-starts, left-starts-at, arguments-are, required-few, bound-few, call-sum}
use Rattle.documents.proofs.judging.declared.Goals as goal

pub returns : goal.returns
returns c = record {
  range = (refl, omega (arith, c.tally_all-t.ensures.range.0, c.requires.at_lt_dn.1), c.tally_all-t.ensures.range.1);
  meaning = λ h e g.
      let d = takes c.callee_at-callee.ensures e g in
      let ps = h.params in
      let few = d.few in
      let results =
      ap (λ (i : ℕ). row plain (commas right_round) (typed_name max_brackets) (toks c.args.directory.now.tokens.text.now c.args.directory.now.tokens.table.now c.args.directory.now.tokens.count i)) (ap (λ (o : Operation). o.results) c.callee_at-callee.ensures.operation) ∙ e.results in
      record {
        faults = λ k w.
            let q = (c.tally_all-t.ensures.meaning ps k.args (parts w).behind d (arguments-are w)).0 in
            let xs = k.args in
            call-sum h k c.tally_all-t.result q
            (c.first_missing-missing.ensures (map is_required ps) (bound ps xs) (ap (λ (o : Operation). o.required) c.callee_at-callee.ensures.operation ∙ e.required) q.flags (required-few ps few) (bound-few ps few xs))
            (c.start_at.ensures ∙ name-starts w) c.refusal_if-unmatched.ensures (c.start_at-2.ensures ∙ left-starts-at w)
            (c.matches-matched.ensures max_brackets k.left _ max_brackets h.results e.after w.leads results (ap (λ (o : Operation). o.code) c.callee_at-callee.ensures.operation ∙ e.code))
            (c.earlier-2.ensures ∙ ap (λ (v : Option Fault). earlier v (meant c.refusal_if-unmatched.result)) c.earlier.ensures);
        closes = λ xs us r. let q = c.tally_all-t.ensures.meaning ps xs us d r in (q.1, q.2);
      };
}
