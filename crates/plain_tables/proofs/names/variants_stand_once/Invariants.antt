use Rattle.std.proofs.Common.{◌≡◌, drop}
use Rattle.value_models.specs.VariantView.{variants_view}
use Rattle.describe_defs.specs.Plain.{stand_once}
use Rattle.plain_tables.specs.Apart.{new_names}
use Rattle.plain_tables.proofs.Once.{names_in}
use Rattle.plain_tables.proofs.names.variants_stand_once.Given as goal

abbrev pub invariant-loop-variant : goal.invariant-loop-variant
invariant-loop-variant l = stand_once (names_in (variants_view l.variants)) ≡ new_names l.names (names_in (variants_view (drop l.variant-index l.variants)))
