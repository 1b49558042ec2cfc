use Rattle.std.proofs.Common.{◌≡◌, sym, ap, ◌∙◌}
use Rattle.schema_defs.specs.Schema.{Named}
use Rattle.convert_defs.specs.Row.{struct_row}
use Rattle.convert_defs.specs.Owners.{struct_of}
use Rattle.object_rows.specs.Parts.{props_in, rest_in, rules_in}
use Rattle.object_rows.proofs.MemberViews.{members_seen}
use Rattle.object_rows.proofs.object.struct_row.Goals as goal

pub returns : goal.returns
returns c =
    λ r.
    (λ i. struct_row (c.is_false.ensures i) (c.in_ok-fields.ensures i) (c.in_ok-outside.ensures i))
    ∙ sym (ap (λ (n : Named). struct_of c.args.setting (props_in n) (rest_in n) (rules_in n)) (members_seen c.args.members.now))
