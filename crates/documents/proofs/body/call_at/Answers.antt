-- Left side, list, uses and record of a call, one after the other.
use mathlib.Core.Path.{refl, ap, ◌∙◌}
use mathlib.Core.List.{List}
use Prim.Native.Nat.{ℕ, ◌+◌, ◌≤◌}
use native.Mathlib.Omega.{arith}
use lib.ListN.{length}
use Rattle.lexis.specs.Sizes.{max_brackets}
use Rattle.lexis.specs.Lexer.{Token}
use Rattle.syntax.specs.Table.{toks}
use Rattle.index.proofs.Theorems.{walks-wider}
use Rattle.documents.proofs.BodyWalks.{stepped}
use Rattle.documents.proofs.CallPlaces.{FoundEqual, call_from, call_ends, next-after}
use Rattle.documents.proofs.Recording.{call_length}
use Rattle.documents.proofs.body.call_at.Goals as goal

pub returns : goal.returns
returns c = let from : c.args.walk.at ≤ c.find-equal.result = omega (arith, c.find-equal.ensures.0, c.requires.at_lt_dn.0) in
    let on = next-after (toks c.args.source.now.tokens.text.now c.args.source.now.tokens.table.now c.args.source.now.tokens.count (c.judge-j.result.close + 1)) c.judge-j.result.close
    c.after_call.result c.after_call.ensures in
    record {
      at_lt_at = (
        omega (arith, from, c.judge-j.ensures.range.1, on),
        omega (arith, c.requires.at_lt_dn.1, from, c.judge-j.ensures.range.1, on),
        omega (arith, c.left_side-left.ensures.count_le_count.1, c.judge-j.ensures.range.1, on),
        omega (arith, c.used-right.ensures.count_le_count.1, c.requires.at_lt_dn.3, from, c.judge-j.ensures.range.1, on),
      );
      walkable_2 = (
        walks-wider (omega (arith, c.judge-j.ensures.range.1, on)) c.left_side-left.ensures.walkable_2,
        walks-wider c.find-equal.ensures.1 c.left_side-left.ensures.walkable_2,
        ap (λ (y : List ℕ). length y) c.record.ensures ∙ call_length _ c.args.walk.calls _ refl ∙ c.used-right.ensures.records_len_unchanged,
      );
      stepped = λ hs ins outs ds d us H k state.
          let e : FoundEqual c.args.source.now.tokens.text.now c.args.source.now.tokens.table.now c.args.source.now.tokens.count c.args.walk.at c.find-equal.result = record { from = from; left = c.find-equal.ensures.1; is = c.find-equal.ensures.2 } in
          let f = call_from c.args.source.now.tokens.text.now c.args.source.now.tokens.table.now c.args.source.now.tokens.count c.args.walk.at c.find-equal.result e max_brackets d us k in
          let q = c.judge-j.ensures.meaning hs d H (record { after = us; read = k; leads = f.leads max_brackets us k }) in
          stepped c.args.source.now.tokens.text.now c.args.source.now.tokens.table.now c.args.index.now _ c.args.records.now _ _ c.args.source.now.tokens.count c.find-equal.result hs ins outs ds d us c.args.walk _ c.requires.records_room
          state f
          c.left_side-left.result _ c.used-right.result c.judge-j.result
          (call_ends c.args.source.now.tokens.text.now c.args.source.now.tokens.table.now c.args.source.now.tokens.count c.args.walk.at c.find-equal.result c.judge-j.result.close c.after_call.result
          e max_brackets q.closes
          c.after_call.ensures d us k)
          (c.left_side-left.ensures.left_side ins outs ds d f state.counted.calls state.named state.counted.assigned) q c.earlier.ensures refl c.used-right.ensures.uses
          c.unwrap_or.result c.place_of-place.result _ _ c.unwrap_or.ensures (c.place_of-place.ensures.value f.inside.1 ∙ ap (λ (t : Token). t.start) f.title) refl refl
          c.record.ensures refl refl refl refl (omega (arith, c.judge-j.ensures.range.1, on));
    }
