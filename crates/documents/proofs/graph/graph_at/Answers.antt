use Rattle.documents.proofs.Documents.{FoundGraph, graph_is}
use Prim.Native.Nat.{◌+◌}
use mathlib.Core.Path.{refl}
use native.Mathlib.Omega.{arith}
use Rattle.documents.proofs.graph.graph_at.Goals as goal

pub returns : goal.returns
returns c = let f : FoundGraph c.args.tokens.now.text.now c.args.tokens.now.table.now
    c.args.tokens.now.count
    (record {
      first = 5;
      inputs = c.find-inputs.result;
      outputs = c.find-inputs.result + 3;
      closes = c.find-closes.result;
      body = c.find-closes.result + 2;
      end = c.saturating_sub.result;
    })
    =
    record {
      first-is = refl;
      inputs-from = c.find-inputs.ensures.0;
      inputs_in = c.find-inputs.ensures.1;
      inputs-is = c.find-inputs.ensures.2;
      outputs-from = c.find-closes.ensures.0;
      outputs-in = c.find-closes.ensures.1;
      outputs-is = c.find-closes.ensures.2;
      begins-is = refl;
      body_is = refl;
      end_is = c.saturating_sub.ensures;
    } in
    record {
      inputs_le_n = (c.find-inputs.ensures.1, c.find-closes.ensures.1, omega (arith, c.saturating_sub.ensures));
      by_index = λ b d h. graph_is c.args.tokens.now.text.now c.args.tokens.now.table.now
          c.args.tokens.now.count _ f b d h;
    }
