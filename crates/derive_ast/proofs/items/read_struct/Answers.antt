use Rattle.std.proofs.Common.{None, ap, ◌++◌, ◌∙◌, subst}
use Rattle.token_trees.specs.View.{name_view}
use Rattle.syntax_trees.specs.Item.{fields_view}
use Rattle.attr_parts.specs.Diagnostics.{diagnostics, TellsFront}
use Rattle.attr_defs.specs.Texts.{lexed}
use Rattle.derive_attr.specs.ContainerView.{container_view as attrs_view}
use Rattle.container_defs.specs.Model.{fields_told_from}
use Rattle.derive_ast.proofs.Loops.{always_err}
use Rattle.derive_ast.proofs.Made.{same_struct}
use Rattle.derive_ast.proofs.items.read_struct.Goals as goal

pub returns-in_err-read-clause-err : goal.returns-in_err-read-clause-err
returns-in_err-read-clause-err g c =
    always_err _ _ (subst (λ fs. TellsFront (diagnostics c.args.cx.now) (diagnostics c.read_fields.new.cx) (fields_told_from lexed None 0 fs)) c.each_of-each.ensures c.in_err-read.ensures.err)

pub returns-clause-told : goal.returns-clause-told
returns-clause-told g c = c.in_ok-read.ensures.told ∙ ap (λ fs. diagnostics c.args.cx.now ++ fields_told_from lexed None 0 fs) c.each_of-each.ensures

pub returns-clause-body : goal.returns-clause-body
returns-clause-body g c =
    same_struct lexed (name_view c.args.private.now) g.R.Renamer.variant_name g.R.Renamer.field_name (attrs_view c.args.container.now) (fields_view c.args.fields.now) _ _ _ _ _
    c.style_of-style.ensures c.rename_all_rules-rules.ensures c.default-default.ensures c.each_of-each.ensures c.in_ok-read.ensures.fields
