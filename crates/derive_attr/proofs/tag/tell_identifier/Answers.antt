use Rattle.std.proofs.Common.{◌≡◌, ◌++◌, List, OnOk, OnErr, subst, ap, ◌∙◌}
use Rattle.syntax_trees.specs.Item.{body_view}
use Rattle.attr_parts.specs.Diagnostics.{DiagnosticD, diagnostics, TellsFront}
use Rattle.attr_acts.specs.Kept.{values_in}
use Rattle.derive_attr.proofs.Identifiers.{told_at}
use Rattle.derive_attr.proofs.tag.tell_identifier.Goals as goal

pub returns-clause-ok : goal.returns-clause-ok
returns-clause-ok c =
    let v = values_in c.args.settings.now in
    let e = told_at (body_view c.args.body.now) v _ _ (c.get-field.ensures ∙ ap v c.whole.ensures) (c.get-variant.ensures ∙ ap v c.whole-2.ensures) in
    let P : List DiagnosticD → Type 0 = λ l. OnOk c.tell_identifier_by.result (diagnostics c.tell_identifier_by.new.cx ≡ diagnostics c.args.cx.now ++ l) in
    subst P e c.tell_identifier_by.ensures.ok

pub returns-clause-err : goal.returns-clause-err
returns-clause-err c =
    let v = values_in c.args.settings.now in
    let e = told_at (body_view c.args.body.now) v _ _ (c.get-field.ensures ∙ ap v c.whole.ensures) (c.get-variant.ensures ∙ ap v c.whole-2.ensures) in
    let P : List DiagnosticD → Type 0 = λ l. OnErr c.tell_identifier_by.result (TellsFront (diagnostics c.args.cx.now) (diagnostics c.tell_identifier_by.new.cx) l) in
    subst P e c.tell_identifier_by.ensures.err
