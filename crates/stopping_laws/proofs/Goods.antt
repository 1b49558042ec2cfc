-- Fields whose stated defaults are sound, and what a reading would be written as.
use Rattle.std.proofs.Common.{◌≡◌, ℕ, List, Bool, true, false, sym, ap, ◌∙◌, refl, true≢false}
use Rattle.json_value.specs.Value.{Value, null}
use Rattle.schema_defs.specs.Texts.{Relations}
use Rattle.model_defs.specs.Types.{TypeModel}
use Rattle.model_defs.specs.Model.{stated_default, FieldModel, ContainerModel, ConversionsD}
use Rattle.typed_defs.specs.Typed.{Typed}
use Rattle.typed_defs.specs.Written.{written}
use Rattle.typed_defs.specs.Fit.{is_field_fit}
use Rattle.reading_defs.specs.Reading.{Read, taken, stopped, unsound}
use Rattle.reading_defs.specs.Laws.{is_taken, is_sound}
use Rattle.reading_defs.proofs.Good.{SoundAt, FieldIsGood}

-- ---- what is read, written

abbrev pub put_of : List ContainerModel → TypeModel → Read Typed → Value
put_of ms t (taken x) = written ms t x
put_of ms t (stopped l) = null
put_of ms t unsound = null

-- ---- good fields

module _ (models : List ContainerModel) (cs : ConversionsD) (r : Relations) (q : ℕ → TypeModel → Read Typed) (is : (n : ℕ) (t : TypeModel) → is_sound models cs r t (stated_default n) ≡ true → is_taken (q n t) ≡ true) where
  abbrev pub put_default : ℕ → TypeModel → Value
  put_default n t = put_of models t (q n t)

  sound_where : (n : ℕ) (t : TypeModel) (a : Read Typed) → is_taken a ≡ true → a ≡ q n t → SoundAt models ⊥ put_default q n t a
  sound_where n t (taken x) h e = ap (put_of models t) e
  sound_where n t (stopped l) h e = absurd (true≢false (sym h))
  sound_where n t unsound h e = absurd (true≢false (sym h))

  pub field_good : (f : FieldModel) → is_field_fit f ≡ true → is_sound models cs r f.field_type f.default ≡ true → FieldIsGood models ⊥ put_default q f
  field_good f a b = record {
    fit = a;
    sound = λ n e. sound_where n f.field_type (q n f.field_type) (is n f.field_type (sym (ap (is_sound models cs r f.field_type) e) ∙ b)) refl;
  }
