use Rattle.syntax.specs.Tokens.{from}
use Rattle.lists.proofs.Matching.{item-told}
use Rattle.lists.proofs.fitting.fits_item.Goals as goal

pub returns : goal.returns
returns c =
    let v = c.args.values.now in
    let ts = from c.args.types.now c.args.t in
    record {
      range = c.fits_one.ensures.range;
      meaning = item-told v.text.now v.table.now v.count c.args.v ts c.args.kinds c.args.pairs
          c.fits_one.result c.fits_one.ensures.meaning;
    }
