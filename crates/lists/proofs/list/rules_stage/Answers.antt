-- The walk over the headers judges the rules and leaves directory and names.
use Rattle.lists.proofs.ListStages.{walk-ready, rules-pass, rules-stop}
use Rattle.lists.proofs.RowWalks.{roomy-kept}
use Rattle.lists.proofs.list.rules_stage.Goals as goal

pub headers-ruled-requires : goal.headers-ruled-requires
headers-ruled-requires c = record {
  ready = walk-ready c.requires.list_read c.requires.text_len_bound.0 c.requires.text_len_bound.1
      c.requires.served;
  roomy = c.requires.served.roomy;
  reads = record
      { tree = c.requires.list_read.headers; left = _; is = c.requires.list_read.parsed };
}

pub returns : goal.returns
returns c = rules-pass c.requires.list_read c.requires.served c.headers-ruled.result c.headers-ruled.ensures.meaning
    (roomy-kept c.headers-ruled.auto.words c.requires.served.roomy) c.headers-ruled.ensures.walkable
    c.requires.text_len_bound.1 c.headers-ruled.ensures.few c.in_default.is

pub returns-in-Some : goal.returns-in-Some
returns-in-Some c = rules-stop c.requires.list_read c.requires.served c.headers-ruled.result c.headers-ruled.ensures.meaning c.in-Some.is
