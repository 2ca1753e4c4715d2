-- All at once where the output holds them, else one by one.
use mathlib.Core.Path.{refl, sym, ◌∙◌}
use Prim.Native.Nat.{◌+◌, ◌≤◌}
use native.Mathlib.Omega.{arith}
use lib.ListN.{length}
use borrow.Author.Tests.{leb-true}
use Rattle.writing.proofs.Measures.{passed_is}
use Rattle.writing.proofs.writer.Writer.put_bytes.Goals as goal

pub paste-requires : goal.paste-requires
paste-requires c = leb-true _ _ (sym c.lies_in.ensures ∙ c.if-not-lies_in.false)

pub returns : goal.returns
returns c =
    let at = c.args.self.now.place.bytes in
    let h : at + length c.args.word.now ≤ length c.args.self.now.out.now = leb-true _ _ (sym c.lies_in.ensures ∙ c.if-not-lies_in.false) in
    record { same = refl; bytes = c.paste.ensures; end = omega (arith, h, passed_is at c.args.word.now (omega (arith, h))); tokens = refl }
