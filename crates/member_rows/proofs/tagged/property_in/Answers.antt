use Rattle.std.proofs.Common.{◌∙◌, ap, option_map}
use Rattle.schema_types.specs.View.{schema_view}
use Rattle.enum_shapes.proofs.Named.{property_found, seen_copied}
use Rattle.member_rows.proofs.tagged.property_in.Goals as goal

pub returns : goal.returns
returns c = seen_copied c.get.result ∙ ap (option_map schema_view) c.get.ensures.value ∙ property_found c.args.name.now c.args.properties.now.entries
