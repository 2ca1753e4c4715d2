-- The version, the header, the calls, and the names of the header that no call assigns.
use Rattle.lexis.specs.Sizes.{max_brackets}
use Rattle.index.proofs.Theorems.{walks-wider}
use Rattle.documents.proofs.DocumentWalks.{blank-walks, blank-named, body-named, rules-are}
use Rattle.documents.proofs.document.document_rules.Goals as goal

pub header-listed-requires : goal.header-listed-requires
header-listed-requires c = record { rising = (c.graph_at-graph.ensures.by_index c.requires.has_document.brackets c.requires.has_document.tree c.requires.has_document.is).rising; closes_le_count = c.graph_at-graph.ensures.inputs_le_n.1; walkable = blank-walks c.args.source.now.tokens.text.now c.args.source.now.tokens.table.now c.args.index.now c.args.source.now.tokens.count c.graph_at-graph.result.first c.requires.blank }

pub body-walk-requires : goal.body-walk-requires
body-walk-requires c = let r = (c.graph_at-graph.ensures.by_index c.requires.has_document.brackets c.requires.has_document.tree c.requires.has_document.is).rising in
    record { records_room = c.requires.records_room; end_le_dn = c.graph_at-graph.ensures.inputs_le_n.2; walkable = (walks-wider r.body c.header-listed.ensures.walkable_2, walks-wider c.graph_at-graph.ensures.inputs_le_n.1 c.header-listed.ensures.walkable_2) }

pub returns : goal.returns
returns c = λ hs d H e.
    let at = c.graph_at-graph.ensures.by_index max_brackets d e in
    let headed = c.header-listed.ensures.headed (blank-named c.args.source.now.tokens.text.now c.args.source.now.tokens.table.now c.args.index.now c.args.source.now.tokens.count c.graph_at-graph.result.first c.requires.blank) in
    let named = body-named c.args.source.now.tokens.text.now c.args.source.now.tokens.table.now c.graph_at-graph.result c.args.source.now.tokens.count max_brackets d at _ c.bad_version-version.result c.header-listed.result headed in
    rules-are c.args.source.now.tokens.text.now c.args.source.now.tokens.table.now c.graph_at-graph.result c.args.source.now.tokens.count max_brackets d at hs _ _ _ c.bad_version-version.result c.header-listed.result
    c.earlier.result
    c.unmade.result c.body-walk.result c.bad_version-version.ensures headed
    (c.body-walk.ensures.body hs d.inputs d.outputs d.calls H at.calls named) c.earlier.ensures c.unmade.ensures
