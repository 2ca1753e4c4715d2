-- A fault stops the stages; without one both texts pass.
use Rattle.documents.proofs.BothStages.{rules-stop, rules-pass}
use Rattle.documents.proofs.stages.rules_in.Goals as goal

pub returns-in-Some : goal.returns-in-Some
returns-in-Some g c = rules-stop c.requires.list_passed c.requires.document_read _ c.document_rules-ruled.result c.document_rules-ruled.ensures c.in-Some.is

pub returns : goal.returns
returns g c = rules-pass c.requires.list_passed c.requires.document_read _ c.document_rules-ruled.result c.document_rules-ruled.ensures c.in_default.is
