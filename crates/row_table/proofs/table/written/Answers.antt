use Rattle.std.proofs.Common.{◌≡◌, sym, ap, ◌∙◌}
use Rattle.schema_tree.specs.Document.{view}
use Rattle.schema_types.specs.View.{schema_view, object_view}
use Rattle.convert_defs.specs.Table.{finding_of}
use Rattle.row_table.proofs.Written.{object_seen, boolean_seen}
use Rattle.row_table.proofs.table.written.Goals as goal

pub returns-in-Bool : goal.returns-in-Bool
returns-in-Bool c =
    let d = view c.args.document.now in
    λ r. c.always.ensures r d ∙ ap (finding_of r d) (sym (ap schema_view c.in-Bool.is ∙ boolean_seen c.in-Bool.b))

pub returns-in_ok-found-in-Object : goal.returns-in_ok-found-in-Object
returns-in_ok-found-in-Object c =
    let d = view c.args.document.now in
    λ r. c.in_ok-found-in-Object.ensures r ∙ ap (λ o. finding_of r d (object_view o)) c.deref.ensures ∙ ap (finding_of r d) (sym (ap schema_view c.in-Object.is ∙ object_seen c.in-Object.object))
