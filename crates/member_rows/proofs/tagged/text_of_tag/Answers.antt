use Rattle.std.proofs.Common.{◌≡◌, Some, None, ◌∙◌}
use Rattle.schema_types.specs.View.{schema_view}
use Rattle.member_rows.proofs.TagTexts.{text_seen}
use Rattle.member_rows.proofs.tagged.text_of_tag.Goals as goal

pub returns-in-Some : goal.returns-in-Some
returns-in-Some c = c.constant_text.ensures ∙ text_seen c.args.tag.now c.args.members.now (Some (schema_view c.in-Some.schema.now)) c.in-Some.ensures

pub returns-in-None : goal.returns-in-None
returns-in-None c = text_seen c.args.tag.now c.args.members.now None c.in-None.ensures
