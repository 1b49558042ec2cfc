use Rattle.std.proofs.Common.{ap, sym, ◌∙◌, Some}
use Rattle.value_models.specs.ContainerView.{tag_view}
use Rattle.value_models.specs.VariantView.{variant_view}
use Rattle.writing_laws.specs.Kinds.{content_may_read}
use Rattle.value_kinds.specs.Kinds.{kinds_where}
use Rattle.evolve_defs.specs.Forms.{content_of}
use Rattle.evolve_defs.specs.Spots.{variant_node}
use Rattle.evolve_rows.specs.PlaceView.{table_view}
use Rattle.evolve_rows.proofs.kinds.tagged_kinds.Goals as goal

pub returns-in-Internal : goal.returns-in-Internal
returns-in-Internal c =
    λ closed. c.beside_kinds.ensures (table_view c.args.table.now) closed
    ∙ ap (λ g. kinds_where (λ k. content_may_read k (table_view c.args.table.now).models (content_of (variant_node closed (tag_view g) (Some (variant_view c.args.variant.now)))))) (sym c.in-Internal.is)
