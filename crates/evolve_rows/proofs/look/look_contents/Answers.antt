use Rattle.std.proofs.Common.{ap, sym, ◌∙◌}
use Rattle.model_defs.specs.Reads.{allowed}
use Rattle.value_models.specs.FieldView.{style_view}
use Rattle.value_models.specs.VariantView.{fields_in}
use Rattle.evolve_defs.specs.Forms.{contents_form, item_form}
use Rattle.evolve_rows.specs.PlaceView.{table_view}
use Rattle.evolve_rows.proofs.look.look_contents.Goals as goal

pub returns-in-Newtype-clause-form : goal.returns-in-Newtype-clause-form
returns-in-Newtype-clause-form c =
    c.look_newtype.ensures.form c.args.closed
    ∙ ap (λ s. contents_form (item_form (table_view c.args.table.now) (allowed (table_view c.args.table.now).models)) c.args.closed (style_view s) (fields_in c.args.variant.now.fields)) (sym c.in-Newtype.is)
