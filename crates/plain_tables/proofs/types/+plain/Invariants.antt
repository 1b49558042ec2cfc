use Rattle.std.proofs.Common.{◌≡◌, drop}
use Rattle.std.specs.List.{list_all}
use Rattle.value_models.specs.TypeView.{types_view}
use Rattle.value_models.specs.ContainersView.{containers_in}
use Rattle.describe_defs.specs.Plain.{is_plain_type}
use Rattle.plain_tables.specs.Among.{is_among}
use Rattle.plain_tables.proofs.types.+plain.Given as goal

abbrev pub invariant-are_plain_types-loop-ty : goal.invariant-are_plain_types-loop-ty
invariant-are_plain_types-loop-ty l =
    list_all (is_plain_type (is_among (containers_in l.containers))) (types_view l.types) ≡ list_all (is_plain_type (is_among (containers_in l.containers))) (types_view (drop l.ty-index l.types))
