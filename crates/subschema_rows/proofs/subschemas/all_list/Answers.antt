use Rattle.std.proofs.Common.{◌≡◌, sym, ap, ◌∙◌}
use Rattle.schema_types.specs.declared.schema.Subschemas.{out-Subschemas}
use Rattle.subschema_rows.specs.Only.{all_in}
use Rattle.subschema_rows.proofs.SubschemaViews.{subschemas_seen, list_seen}
use Rattle.subschema_rows.proofs.subschemas.all_list.Goals as goal

pub returns : goal.returns
returns c =
    let x = out-Subschemas c.args.subschemas.now in
    list_seen c.as_ref.result x.all_of c.as_ref.ensures.value ∙ sym (ap all_in (subschemas_seen c.args.subschemas.now))
