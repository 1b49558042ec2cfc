-- Variants that are ready within so many rounds.
use Rattle.std.specs.Prelude.{ℕ, List, Bool, false, Option, Some, None, if◌then◌else◌}
use Rattle.model_defs.specs.Types.{TypeModel}
use Rattle.model_defs.specs.Model.{VariantModel}
use Rattle.model_defs.specs.Layer.{Content}
use Rattle.example_defs.specs.Built.{is_ready, first_found, first_ready}
use Rattle.example_parts.specs.Names.{names_of_variants, name_found}
use Rattle.example_values.specs.Fewest.{Rounds, content_fewest, are_within}

module _ (leads : TypeModel → Bool) (item : List ℕ → Rounds) (n : ℕ) where
  abbrev pub built_within : Content → Bool
  built_within c = are_within (content_fewest leads item c) n

  abbrev pub ready_within : VariantModel → Bool
  ready_within w = is_ready leads built_within false w

  abbrev pub ready_or_none : List ℕ → VariantModel → Option (List ℕ × VariantModel)
  ready_or_none m w = if ready_within w then Some (m, w) else None

  abbrev pub if_named : Option (List ℕ) → VariantModel → Option (List ℕ × VariantModel)
  if_named None w = None
  if_named (Some m) w = ready_or_none m w

  abbrev pub found_or_none : List VariantModel → ℕ → VariantModel → Option (List ℕ × VariantModel)
  found_or_none ws i w = if_named (name_found (names_of_variants ws) i) w

  abbrev pub first_found_within : List (List ℕ) → List VariantModel → Option (List ℕ × VariantModel)
  first_found_within earlier ws = first_found leads built_within false earlier ws

  abbrev pub first_ready_within : List VariantModel → Option (List ℕ × VariantModel)
  first_ready_within ws = first_ready leads built_within false ws
