use Rattle.std.proofs.Common.{◌≡◌}
use Rattle.module_texts.specs.Docs.{doc_view}
use Rattle.name_tables.specs.Names.{entered}
use Rattle.item_docs.proofs.Tables.{doc_turn}
use Rattle.item_docs.proofs.table.names_of_docs.Goals as goal

pub loop-place-preserved : goal.loop-place-preserved
loop-place-preserved c =
    let next : c.enter.new.names ≡ entered (doc_view c.index-docs-place.result).item c.loop-place.place c.loop-place.names = cc (c.in_ok-enter.ensures) in
    doc_turn c.args.docs.now c.loop-place.place c.index-docs-place.result _ _ _ c.loop-place-test.true c.index-docs-place.is next c.loop-place.invariant
