use Rattle.std.proofs.Common.{map, codes, ap, ◌∙◌}
use Rattle.token_trees.specs.View.{name_view}
use Rattle.syntax_trees.specs.Item.{field_view}
use Rattle.attr_parts.specs.Lifetimes.{lifetimes}
use Rattle.attr_parts.specs.Names.{attr_name}
use Rattle.attr_parts.specs.Values.{default_view}
use Rattle.attr_defs.specs.Looks.{default_of, function_of, look, is_set}
use Rattle.attr_defs.specs.Members.{field_default, reader_of, held_by}
use Rattle.attr_defs.specs.Owners.{whole}
use Rattle.attr_acts.specs.Kept.{values_in}
use Rattle.derive_attr.proofs.Fields.{same_attrs}
use Rattle.derive_attr.proofs.field.decided.Goals as goal

pub returns : goal.returns
returns c =
    let v = values_in c.args.settings in
    let f = field_view c.args.field.now in
    let container = default_view c.args.container_default.now in
    let private = name_view c.args.private.now in
    let own = c.default-own.ensures ∙ ap (λ t. look default_of (v t)) c.whole-3.ensures in
    let skipped = c.is_set-skipped.ensures ∙ ap (λ t. is_set (v t)) c.whole.ensures in
    let function = c.function-function.ensures ∙ ap (λ t. look function_of (v t)) c.whole-2.ensures in
    same_attrs f (attr_name c.args.name.now) container private v (map attr_name c.args.settings.names.items) _ _ _ _
    c.in_ok-member_names.ensures
    (c.in_ok-default.ensures ∙ ap (λ o. field_default o c.is_set-skipped.result container) own ∙ ap (λ b. field_default (look default_of (v (whole (codes "default")))) b container) skipped)
    (c.in_ok-deserialize_with.ensures ∙ ap (λ o. reader_of o (lifetimes c.in_ok-held.held) private f.ty) function ∙ ap (λ h. reader_of (look function_of (v (whole (codes "deserialize_with")))) h private f.ty) c.in_ok-held.ensures)
    (c.in_ok-held_by.ensures ∙ ap (λ h. held_by h f.ty) c.in_ok-held.ensures)
