use Rattle.std.proofs.Common.{◌≡◌}
use Rattle.schema_types.specs.View.{properties_view}
use Rattle.convert_defs.specs.Shapes.{is_no_property, less_property}
use Rattle.member_rows.proofs.tagged.names_tag_alone.Given as goal

abbrev pub invariant-loop-name : goal.invariant-loop-name
invariant-loop-name l = is_no_property (less_property l.tag (properties_view l.properties.entries)) ≡ is_no_property (less_property l.tag (properties_view l.name-iterator))
