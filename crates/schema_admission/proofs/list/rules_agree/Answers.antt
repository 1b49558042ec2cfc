use Rattle.std.proofs.Common.{◌&&◌, sym, ap, ◌∙◌}
use Rattle.serde_json.specs.View.{members_view}
use Rattle.json_value.specs.View.{members_of}
use Rattle.schema_defs.specs.Layer.{within}
use Rattle.schema_types.specs.declared.schema.ObjectValidation.{out-ObjectValidation}
use Rattle.schema_admission.proofs.Views.{rules-out}
use Rattle.schema_admission.proofs.Members.{members_counted}
use Rattle.schema_admission.proofs.list.rules_agree.Goals as goal

pub returns : goal.returns
returns c =
    let o = c.args.object.now in
    let counted = c.is_within-counted.ensures ∙ ap (within (out-ObjectValidation o).min_properties (out-ObjectValidation o).max_properties) (c.len.ensures.len ∙ members_counted c.args.members.now.entries) in
    c.both.ensures ∙ (λ i. counted i && c.has_each-named.ensures i) ∙ sym (rules-out o (members_of (members_view c.args.members.now.entries)))
