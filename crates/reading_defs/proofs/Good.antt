-- Fields whose values are written as they settle: within the forms, and with a sound default where one is stated.
use Rattle.std.proofs.Common.{◌≡◌, ℕ, List, [], ◌∷◌, true}
use Rattle.json_value.specs.Value.{Value}
use Rattle.model_defs.specs.Types.{TypeModel}
use Rattle.model_defs.specs.Model.{stated_default, FieldModel, ContainerModel}
use Rattle.model_defs.specs.Layer.{Content, one_type, places, named_fields}
use Rattle.typed_defs.specs.Written.{written}
use Rattle.typed_defs.specs.Fit.{is_field_fit}
use Rattle.reading_defs.specs.Reading.{Read, taken, stopped, unsound}
use Rattle.typed_defs.specs.Typed.{Typed}

module _ (models : List ContainerModel) (E : Type 0) (d : ℕ → TypeModel → Value) (q : ℕ → TypeModel → Read Typed) where
  -- a stated default that is read, and written as it settles
  abbrev pub SoundAt : ℕ → TypeModel → Read Typed → Type 0
  SoundAt n t (taken x) = written models t x ≡ d n t
  SoundAt n t (stopped l) = E
  SoundAt n t unsound = E

  pub record FieldIsGood (f : FieldModel) : Type 0 where
    pub fit : is_field_fit f ≡ true
    pub sound : (n : ℕ) → f.default ≡ stated_default n → SoundAt n f.field_type (q n f.field_type)

  abbrev pub FieldsAreGood : List FieldModel → Type 0
  FieldsAreGood [] = Unit {0}
  FieldsAreGood (f ∷ fs) = FieldIsGood f × FieldsAreGood fs

  abbrev pub ContentIsGood : Content → Type 0
  ContentIsGood (one_type t) = Unit {0}
  ContentIsGood (places ts) = Unit {0}
  ContentIsGood (named_fields closed fs) = FieldsAreGood fs
