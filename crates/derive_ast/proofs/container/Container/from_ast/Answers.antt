use Rattle.std.proofs.Common.{◌≡◌, ap, subst}
use Rattle.std.specs.Prelude.{option_map}
use Rattle.token_trees.specs.View.{name_view}
use Rattle.syntax_trees.specs.Item.{item_view}
use Rattle.attr_defs.specs.Container.{container_diagnostics}
use Rattle.attr_defs.specs.Texts.{lexed}
use Rattle.container_defs.specs.Model.{members_told, told_at_last}
use Rattle.container_defs.specs.Reading.{container_of}
use Rattle.derive_ast.specs.Views.{container_view}
use Rattle.derive_ast.proofs.Loops.{always_err}
use Rattle.derive_ast.proofs.Made.{front_first, front_last}
use Rattle.derive_ast.proofs.container.Container.from_ast.Goals as goal

pub returns-in_err-read_item-clause-err : goal.returns-in_err-read_item-clause-err
returns-in_err-read_item-clause-err g c =
    let i = item_view c.args.item.now in
    let read = container_of lexed g.R.Renamer.variant_name g.R.Renamer.field_name (name_view c.args.private.now) i in
    always_err _ _ (front_first _ _ (container_diagnostics lexed i) (members_told lexed i.body) (told_at_last c.args.derive i read) c.in_err-read_item.ensures.err)

pub returns-in_err-check-in-Some-clause-err : goal.returns-in_err-check-in-Some-clause-err
returns-in_err-check-in-Some-clause-err g c =
    let i = item_view c.args.item.now in
    let read = container_of lexed g.R.Renamer.variant_name g.R.Renamer.field_name (name_view c.args.private.now) i in
    let held = subst (λ o. option_map container_view o ≡ read) c.in-Some.is c.in_ok-read_item.ensures.container in
    always_err _ _ (front_last _ _ _ (container_diagnostics lexed i) (members_told lexed i.body) (told_at_last c.args.derive i read) _ c.in_ok-read_item.ensures.told c.in_err-check-in-Some.ensures.err (ap (told_at_last c.args.derive i) held))
