use Rattle.std.proofs.Common.{map, ap, ◌∙◌}
use Rattle.syntax_trees.specs.Item.{item_view, attribute_view}
use Rattle.attr_parts.proofs.Added.{always_err}
use Rattle.attr_parts.proofs.Steps.{tells_all}
use Rattle.attr_defs.specs.Acts.{Values, values_of}
use Rattle.attr_defs.specs.Container.{container_from, container_diagnostics}
use Rattle.attr_defs.specs.Owners.{of_container}
use Rattle.attr_defs.specs.Rows.{all_acts}
use Rattle.attr_defs.specs.Texts.{lexed}
use Rattle.attr_acts.specs.Kept.{values_in}
use Rattle.derive_attr.proofs.Containers.{told_by_settings, front_by_settings}
use Rattle.derive_attr.proofs.container.Container.from_ast.Goals as goal

pub returns-in_err-tell_whole-clause-err : goal.returns-in_err-tell_whole-clause-err
returns-in_err-tell_whole-clause-err c =
    let i = item_view c.args.item.now in
    always_err _ _
    (front_by_settings i (values_in c.in_ok-settings.settings) (all_acts lexed (of_container i) (map attribute_view c.deref.result.now)) _ _ _
    c.in_ok-settings.ensures.values
    (ap (λ xs. all_acts lexed (of_container i) (map attribute_view xs)) c.deref.ensures.value)
    c.in_ok-settings.ensures.told
    c.in_err-tell_whole.ensures.err)

pub returns-in_err-container-clause-err : goal.returns-in_err-container-clause-err
returns-in_err-container-clause-err c =
    let i = item_view c.args.item.now in
    always_err _ _
    (tells_all _ _ (container_diagnostics lexed i)
    (told_by_settings i (values_in c.in_ok-settings.settings) (all_acts lexed (of_container i) (map attribute_view c.deref.result.now)) _ _ _
    c.in_ok-settings.ensures.values
    (ap (λ xs. all_acts lexed (of_container i) (map attribute_view xs)) c.deref.ensures.value)
    c.in_ok-settings.ensures.told
    c.in_ok-tell_whole.ensures.ok))

pub returns-clause-attrs : goal.returns-clause-attrs
returns-clause-attrs c =
    let i = item_view c.args.item.now in
    c.in_ok-container.ensures
    ∙ ap (λ (v : Values). container_from i v) (c.in_ok-settings.ensures.values ∙ ap (λ xs. values_of (all_acts lexed (of_container i) (map attribute_view xs))) c.deref.ensures.value)

pub returns-clause-told : goal.returns-clause-told
returns-clause-told c =
    let i = item_view c.args.item.now in
    told_by_settings i (values_in c.in_ok-settings.settings) (all_acts lexed (of_container i) (map attribute_view c.deref.result.now)) _ _ _
    c.in_ok-settings.ensures.values
    (ap (λ xs. all_acts lexed (of_container i) (map attribute_view xs)) c.deref.ensures.value)
    c.in_ok-settings.ensures.told
    c.in_ok-tell_whole.ensures.ok
