-- Tables whose values are written as they settle, and what reading by them gives.
use Rattle.std.specs.Prelude.{◌≡◌, List, [], length, Bool, true, false}
use Rattle.std.specs.List.{list_all}
use Rattle.json_value.specs.Value.{Value}
use Rattle.schema_defs.specs.Location.{Location}
use Rattle.schema_defs.specs.Texts.{Relations}
use Rattle.model_defs.specs.Types.{TypeModel}
use Rattle.model_defs.specs.Model.{DefaultModel, no_default, own_default, stated_default, FieldModel, BodyModel, struct_model, enum_model, ContainerModel, ConversionsD}
use Rattle.model_defs.specs.Reads.{reads}
use Rattle.model_defs.specs.Refusals.{refused_at}
use Rattle.model_defs.specs.Settled.{settled}
use Rattle.typed_defs.specs.Typed.{Typed}
use Rattle.typed_defs.specs.Written.{written}
use Rattle.typed_defs.specs.Fit.{are_models_fit}
use Rattle.reading_defs.specs.Proper.{has_json_numbers, are_rules_fit, have_shapes}
use Rattle.reading_defs.specs.Reading.{Read, taken, stopped, unsound, default_inside, reading}

abbrev pub is_taken : {A : Type 0} → Read A → Bool
is_taken (taken x) = true
is_taken (stopped l) = false
is_taken unsound = false

-- ---- sound defaults: the type of the field reads it, and no place of the table is come to inside itself

module _ (models : List ContainerModel) (conversions : ConversionsD) (relations : Relations) where
  abbrev pub is_sound : TypeModel → DefaultModel → Bool
  is_sound t (stated_default n) = is_taken (default_inside models conversions relations (length conversions.defaults) [] n t)
  is_sound t no_default = true
  is_sound t own_default = true

  abbrev pub fields_are_sound : List FieldModel → Bool
  fields_are_sound fs = list_all (λ f. is_sound f.field_type f.default) fs

  abbrev pub body_is_sound : BodyModel → Bool
  body_is_sound (struct_model style fs) = fields_are_sound fs
  body_is_sound (enum_model tag ws) = list_all (λ w. fields_are_sound w.fields) ws

  abbrev pub defaults_are_sound : Bool
  defaults_are_sound = list_all (λ m. body_is_sound m.body) models

  -- within the forms, and with sound defaults
  pub record IsProper : Type 0 where
    pub fit : are_models_fit models ≡ true
    pub shapes : have_shapes models ≡ true
    pub rules : are_rules_fit models ≡ true
    pub numbers : list_all has_json_numbers conversions.defaults ≡ true
    pub sound : defaults_are_sound ≡ true

-- ---- the law

-- a typed value exactly where the value is read, and it is written as the value settles; else the place where reading stops
abbrev pub IsReading : Bool → Location → Value → (Typed → Value) → Read Typed → Type 0
IsReading takes stops settles writes (taken x) = (takes ≡ true) × (writes x ≡ settles)
IsReading takes stops settles writes (stopped l) = (takes ≡ false) × (stops ≡ l)
IsReading takes stops settles writes unsound = ⊥

abbrev pub ReadingAgrees : Type 0
ReadingAgrees =
    (models : List ContainerModel) (conversions : ConversionsD) (relations : Relations) → IsProper models conversions relations
    → (t : TypeModel) (v : Value) → has_json_numbers v ≡ true
    → IsReading (reads models conversions relations t v) (refused_at models conversions relations t v) (settled models conversions relations t v) (written models t) (reading models conversions relations t v)
