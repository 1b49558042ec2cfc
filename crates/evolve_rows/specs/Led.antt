-- What old variants lead to, one after another: a pair of contents, nothing more, or none that reads them.
use Rattle.std.specs.Prelude.{ℕ, suc, List, [], ◌∷◌, ◌++◌, Bool, true, false, Option, Some, None}
use Rattle.model_defs.specs.Model.{VariantModel, variant_named}
use Rattle.model_defs.specs.Layer.{is_unit}
use Rattle.evolve_defs.specs.Steps.{variant_lost}
use Rattle.evolve_defs.specs.Walk.{Turn, stops, goes}
use Rattle.evolve_defs.specs.Spots.{Spots, of_variant, number_named}
use Rattle.evolve_rows.specs.TurnView.{pair_view}
use Rattle.evolve_rows.specs.declared.variants.Led.{Led}
use Rattle.evolve_rows.specs.declared.variants.Led.TheVariants.{Nowhere, To}

abbrev pub led_view : Led → List Spots
led_view Nowhere = []
led_view (To p) = pair_view p ∷ []

-- both are units or neither is; beside a tag a unit is a struct without fields
abbrev pub units_led : Bool → Bool → Bool → Spots → Option (List Spots)
units_led true a b p = Some (p ∷ [])
units_led false true true p = Some []
units_led false false false p = Some (p ∷ [])
units_led false true false p = None
units_led false false true p = None

abbrev pub led_to : Bool → Bool → Spots → Option VariantModel → Option (List Spots)
led_to beside a p None = None
led_to beside a p (Some u) = units_led beside a (is_unit u) p

-- an old variant at its number, among the new ones
abbrev pub led : Bool → List ℕ → List ℕ → ℕ → VariantModel → List VariantModel → Option (List Spots)
led beside h k i w us = led_to beside (is_unit w) (of_variant h i, of_variant k (number_named 0 w.serialize_name us)) (variant_named w.serialize_name us)

abbrev pub joined : Option (List Spots) → Turn Spots → Turn Spots
joined None t = stops variant_lost
joined (Some ps) (stops e) = stops e
joined (Some ps) (goes qs) = goes (ps ++ qs)

abbrev pub all_led : Bool → List ℕ → List ℕ → ℕ → List VariantModel → List VariantModel → Turn Spots
all_led beside h k i [] us = goes []
all_led beside h k i (w ∷ ws) us = joined (led beside h k i w us) (all_led beside h k (suc i) ws us)
