use Rattle.std.proofs.Common.{map}
use Rattle.conversion_table.specs.Conversions.{conversions_view}
use Rattle.derive_ast.specs.Views.{container_view}
use Rattle.derive_model.proofs.Whys.{inside_of, form_of}
use Rattle.derive_model.proofs.making.check_forms.Goals as goal

pub returns-in-Ok-told_form-clause-inside : goal.returns-in-Ok-told_form-clause-inside
returns-in-Ok-told_form-clause-inside g c =
    inside_of g.R.Renamer.variant_name g.R.Renamer.field_name (conversions_view c.args.conversions.now) c.args.names.now.items.now c.args.items.now (map container_view c.args.read.now) c.requires.names c.requires.read
    c.in-Ok.outside c.in-Ok.ensures c.in-Ok-told_form.ensures.none

pub returns-in-Err-told_form-clause-form : goal.returns-in-Err-told_form-clause-form
returns-in-Err-told_form-clause-form g c =
    form_of g.R.Renamer.variant_name g.R.Renamer.field_name (conversions_view c.args.conversions.now) c.args.names.now.items.now c.args.items.now (map container_view c.args.read.now) c.requires.names c.requires.read
    c.in-Ok.outside c.in-Err-told_form.error c.in-Ok.ensures c.in-Err-told_form.ensures.form
