use Rattle.lists.proofs.TypeTokens.{shape_of, read_of}
use Rattle.lists.proofs.fitting.shape_at.Goals as goal

pub returns : goal.returns
returns c =
    let s = c.args.tokens.now in
    record {
      range = c.type_of-u.ensures.range.end;
      meaning = λ b u us t h. (
        shape_of s.text.now s.table.now s.count c.args.at c.type_of-u.result c.type_of-u.ensures.meaning t h,
        (read_of s.text.now s.table.now s.count c.args.at c.type_of-u.result c.type_of-u.ensures.meaning t h).end,
      );
    }
