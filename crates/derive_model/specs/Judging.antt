-- What a module says of values: typed values, the place where reading stops, and verdicts.
use Rattle.std.specs.Prelude.{◌≡◌, ◌&&◌, ℕ, Bool, true, false, List}
use Rattle.std.specs.List.{list_all}
use Rattle.schema_defs.specs.Faults.{Rises}
use Rattle.serde_json.specs.Data.{Data}
use Rattle.json_value.specs.Value.{Value}
use Rattle.json_value.specs.View.{value_of}
use Rattle.schema_defs.specs.Location.{Location}
use Rattle.schema_defs.specs.Texts.{Relations}
use Rattle.model_defs.specs.Types.{TypeModel}
use Rattle.model_defs.specs.Model.{ContainerModel, ConversionsD}
use Rattle.model_defs.specs.Reads.{reads}
use Rattle.model_defs.specs.Refusals.{refused_at}
use Rattle.model_defs.specs.Settled.{settled}
use Rattle.typed_defs.specs.Typed.{Typed}
use Rattle.typed_defs.specs.Written.{written}
use Rattle.reading_defs.specs.Proper.{has_json_numbers}
use Rattle.reading_defs.specs.Reading.{taken, reading}
use Rattle.reading_defs.specs.Laws.{defaults_are_sound}
use Rattle.derive_model.specs.VerdictView as verdict
use Rattle.derive_model.specs.VerdictView.{VerdictD}
use Rattle.derive_model.specs.declared.errors.ReadError.{ReadError}
use Rattle.derive_model.specs.declared.errors.ReadError.TheVariants.{Memory, Texts, Refused}

module _ (models : List ContainerModel) (conversions : ConversionsD) (relations : Relations) where
  -- what is asked of stated defaults: each is sound, and has the numbers that JSON values have
  pub record AreSound : Type 0 where
    pub numbers : list_all has_json_numbers conversions.defaults ≡ true
    pub sound : defaults_are_sound models conversions relations ≡ true

  -- whether they are so
  abbrev pub are_sound : Bool
  are_sound = list_all has_json_numbers conversions.defaults && defaults_are_sound models conversions relations

  module _ (t : TypeModel) (v : Value) where
    -- the value is read, as that typed value, which is written as the value settles
    abbrev pub IsRead : Typed → Type 0
    IsRead x =
        (reading models conversions relations t v ≡ taken x) × (reads models conversions relations t v ≡ true)
        × (written models t x ≡ settled models conversions relations t v)

    -- the value isn't read, and reading stops at that place
    abbrev pub IsStopped : Location → Type 0
    IsStopped l = (reads models conversions relations t v ≡ false) × (l ≡ refused_at models conversions relations t v)

    -- what a typed value that was read is written as
    abbrev pub IsWritten : Data → Type 0
    IsWritten d = (x : Typed) × (reading models conversions relations t v ≡ taken x) × (value_of d ≡ written models t x)

    -- taken exactly where it is read, and then as it is written, which is what it settles to; else refused where reading stops
    abbrev pub IsVerdict : VerdictD → Type 0
    IsVerdict (verdict.taken d) = (reads models conversions relations t v ≡ true) × IsWritten d × (value_of d ≡ settled models conversions relations t v)
    IsVerdict (verdict.refused l) = IsStopped l

    -- why there is no typed value: want of memory, a judge of texts that failed, or the place where reading stops
    abbrev pub IsUnread : ℕ → ℕ → ReadError → Type 0
    IsUnread before after Memory = Unit {0}
    IsUnread before after Texts = Rises before after
    IsUnread before after (Refused l) = IsStopped l
