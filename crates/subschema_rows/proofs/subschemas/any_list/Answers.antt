use Rattle.std.proofs.Common.{◌≡◌, sym, ap, ◌∙◌}
use Rattle.schema_types.specs.declared.schema.Subschemas.{out-Subschemas}
use Rattle.subschema_rows.specs.Only.{any_in}
use Rattle.subschema_rows.proofs.SubschemaViews.{subschemas_seen, list_seen}
use Rattle.subschema_rows.proofs.subschemas.any_list.Goals as goal

pub returns : goal.returns
returns c =
    let x = out-Subschemas c.args.subschemas.now in
    list_seen c.as_ref.result x.any_of c.as_ref.ensures.value ∙ sym (ap any_in (subschemas_seen c.args.subschemas.now))
