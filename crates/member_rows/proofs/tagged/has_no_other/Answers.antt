use Rattle.std.proofs.Common.{◌≡◌, ap}
use Rattle.schema_defs.specs.Schema.{Named}
use Rattle.schema_types.specs.View.{schema_view}
use Rattle.enum_defs.specs.Words.{props_of}
use Rattle.convert_defs.specs.Shapes.{is_no_property, less_property}
use Rattle.member_rows.proofs.TagTexts.{others_seen}
use Rattle.member_rows.proofs.tagged.has_no_other.Goals as goal

pub returns-in-Some : goal.returns-in-Some
returns-in-Some c =
    others_seen c.args.tag.now (schema_view c.args.schema.now) c.in-Some.members.now c.names_tag_alone.result c.in-Some.ensures c.names_tag_alone.ensures

pub returns-in-None : goal.returns-in-None
returns-in-None c = ap (λ (ns : Named). is_no_property (less_property c.args.tag.now (props_of ns))) c.in-None.ensures
