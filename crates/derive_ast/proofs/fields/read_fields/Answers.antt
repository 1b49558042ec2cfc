use Rattle.token_trees.specs.View.{name_view}
use Rattle.syntax_trees.specs.Item.{field_view as field_tree}
use Rattle.attr_parts.specs.Values.{default_view}
use Rattle.attr_defs.specs.Texts.{lexed}
use Rattle.derive_attr.specs.FieldView.{handed_view}
use Rattle.container_defs.specs.Reading.{name_field}
use Rattle.derive_ast.specs.Views.{field_view}
use Rattle.derive_ast.proofs.Loops.{always_err, told_on, front_on, front_told, same_left}
use Rattle.derive_ast.proofs.ReadOn.{read_on, next_field, next_field_told}
use Rattle.derive_ast.proofs.fields.read_fields.Goals as goal

pub returns-in_err-read_field-clause-err : goal.returns-in_err-read_field-clause-err
returns-in_err-read_field-clause-err g c =
    let l = c.loop-index in
    let next = next_field_told lexed (handed_view c.args.attrs) field_tree c.args.fields.now l.index c.index-fields-index.result c.loop-index-test.true c.index-fields-index.is in
    always_err _ _ (front_on _ _ _ _ _ _ (same_left _ _ _ _ _ l.invariant.told next) c.in_err-read_field.ensures.err)

pub returns-in_err-push-clause-err : goal.returns-in_err-push-clause-err
returns-in_err-push-clause-err g c =
    let l = c.loop-index in
    let next = next_field_told lexed (handed_view c.args.attrs) field_tree c.args.fields.now l.index c.index-fields-index.result c.loop-index-test.true c.index-fields-index.is in
    always_err _ _ (front_told _ _ _ _ _ _ (same_left _ _ _ _ _ l.invariant.told next) c.in_ok-read_field.ensures.told)

pub loop-index-preserved : goal.loop-index-preserved
loop-index-preserved g c =
    let l = c.loop-index in
    let x = c.index-fields-index.result in
    let fields = c.args.fields.now in
    let borrow = handed_view c.args.attrs in
    let private = name_view c.args.private.now in
    let default = default_view c.args.container_default.now in
    let told = next_field_told lexed borrow field_tree fields l.index x c.loop-index-test.true c.index-fields-index.is in
    let next = next_field lexed private default borrow field_tree fields l.index x c.loop-index-test.true c.index-fields-index.is in
    record {
      model = read_on field_view (name_field g.R.Renamer.variant_name g.R.Renamer.field_name c.args.rules) l.read.items _ c.in_ok-read_field.field-0 _ _ _ _ l.invariant.model next c.in_ok-push.ensures.items c.in_ok-read_field.ensures.field;
      told = told_on _ _ _ _ _ _ (same_left _ _ _ _ _ l.invariant.told told) c.in_ok-read_field.ensures.told;
    }
