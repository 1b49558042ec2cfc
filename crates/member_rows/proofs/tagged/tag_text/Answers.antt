use Rattle.std.proofs.Common.{◌≡◌, None, option_map, refl}
use Rattle.schema_defs.specs.Schema.{no_named}
use Rattle.schema_types.specs.View.{schema_view, members_view}
use Rattle.member_rows.proofs.TagTexts.{tag_seen}
use Rattle.member_rows.proofs.tagged.tag_text.Goals as goal

pub returns-in-Some : goal.returns-in-Some
returns-in-Some c =
    tag_seen c.args.tag.now (schema_view c.args.schema.now) (members_view c.in-Some.members.now) (option_map (λ t. t.now) c.text_of_tag.result) c.in-Some.ensures c.text_of_tag.ensures

pub returns-in-None : goal.returns-in-None
returns-in-None c = tag_seen c.args.tag.now (schema_view c.args.schema.now) no_named None c.in-None.ensures refl
