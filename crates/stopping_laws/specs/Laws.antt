-- Where reading stops, whatever numbers the stated defaults hold.
use Rattle.std.specs.Prelude.{◌≡◌, List, Bool, true, false}
use Rattle.json_value.specs.Value.{Value}
use Rattle.schema_defs.specs.Location.{Location}
use Rattle.schema_defs.specs.Texts.{Relations}
use Rattle.model_defs.specs.Types.{TypeModel}
use Rattle.model_defs.specs.Model.{ContainerModel, ConversionsD}
use Rattle.model_defs.specs.Reads.{reads}
use Rattle.model_defs.specs.Refusals.{refused_at}
use Rattle.typed_defs.specs.Typed.{Typed}
use Rattle.typed_defs.specs.Fit.{are_models_fit}
use Rattle.reading_defs.specs.Proper.{has_json_numbers, are_rules_fit, have_shapes}
use Rattle.reading_defs.specs.Reading.{Read, taken, stopped, unsound, reading}
use Rattle.reading_defs.specs.Laws.{defaults_are_sound}

-- within the forms, and with sound defaults
pub record IsWithinForms (models : List ContainerModel) (conversions : ConversionsD) (relations : Relations) : Type 0 where
  pub fit : are_models_fit models ≡ true
  pub shapes : have_shapes models ≡ true
  pub rules : are_rules_fit models ≡ true
  pub sound : defaults_are_sound models conversions relations ≡ true

-- a typed value exactly where the value is read; else the place where reading stops
abbrev pub IsStop : Bool → Location → Read Typed → Type 0
IsStop takes stops (taken x) = takes ≡ true
IsStop takes stops (stopped l) = (takes ≡ false) × (stops ≡ l)
IsStop takes stops unsound = ⊥

abbrev pub ReadingStops : Type 0
ReadingStops =
    (models : List ContainerModel) (conversions : ConversionsD) (relations : Relations) → IsWithinForms models conversions relations
    → (t : TypeModel) (v : Value) → has_json_numbers v ≡ true
    → IsStop (reads models conversions relations t v) (refused_at models conversions relations t v) (reading models conversions relations t v)
