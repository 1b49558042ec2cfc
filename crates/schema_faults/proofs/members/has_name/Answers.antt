use Rattle.std.proofs.Common.{◌≡◌, Option, Some, None, option_map, ap, ◌∙◌, refl, Bor}
use Rattle.std.specs.Prelude.{is_some}
use Rattle.serde_json.specs.View.{view, members_view}
use Rattle.serde_json.specs.declared.value.Value.{Value as Read}
use Rattle.json_value.specs.View.{value_of, members_of}
use Rattle.schema_faults.proofs.Names.{is_named}
use Rattle.schema_faults.proofs.members.has_name.Goals as goal

same_presence : (r : Option (Bor Read)) → is_some r ≡ is_some (option_map (λ x. value_of (view x.now)) r)
same_presence None = refl
same_presence (Some x) = refl

pub returns : goal.returns
returns c = c.is_some.ensures ∙ same_presence c.member.result ∙ ap is_some c.member.ensures ∙ is_named c.args.name.now (members_of (members_view c.args.members.now.entries))
