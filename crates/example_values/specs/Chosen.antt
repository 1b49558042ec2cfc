-- The variant of which a value is made.
use Rattle.std.specs.Prelude.{◌≡◌, ℕ, suc, List, Bool, true, false, Option, is_some}
use Rattle.model_defs.specs.Types.{TypeModel}
use Rattle.model_defs.specs.Model.{VariantModel, TagModel, ContainerModel, ConversionsD}
use Rattle.model_defs.specs.Reads.{leads_to_option}
use Rattle.example_defs.specs.Built.{first_variant, content_built_in}
use Rattle.example_defs.specs.Enough.{no_texts}
use Rattle.value_models.specs.VariantView.{variant_view}
use Rattle.example_values.specs.Fewest.{Rounds, content_fewest, are_within}
use Rattle.example_values.specs.declared.choosing.Chosen.{Chosen}

abbrev pub chosen_view : Chosen → List ℕ × VariantModel
chosen_view c = (c.name.now, variant_view c.variant.now)

-- the first variant that is ready within so many rounds
abbrev pub first_within : (TypeModel → Bool) → (List ℕ → Rounds) → ℕ → TagModel → List VariantModel → Option (List ℕ × VariantModel)
first_within leads item n tag ws = first_variant leads (λ c. are_within (content_fewest leads item c) n) false tag ws

module _ (ms : List ContainerModel) (cs : ConversionsD) (tag : TagModel) (ws : List VariantModel) where
  -- the first variant that has a name that finds it, and is ready, after so many rounds
  abbrev pub first_after : Bool → ℕ → Option (List ℕ × VariantModel)
  first_after closed k = first_variant (leads_to_option ms) (content_built_in ms cs no_texts k) closed tag ws

  -- the first such after as many rounds as there is one at all, and no fewer
  abbrev pub IsChosen : Option (List ℕ × VariantModel) → Type 0
  IsChosen o =
      (closed : Bool) (k : ℕ) → is_some (first_after closed k) ≡ true → ((j : ℕ) → suc j ≡ k → is_some (first_after closed j) ≡ false)
      → o ≡ first_after closed k
