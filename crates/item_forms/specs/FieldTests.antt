-- What is asked of each field, and of fields beside one another.
use Rattle.std.specs.Prelude.{ℕ, ◌&&◌, ◌||◌, List, Bool, not, is_some}
use Rattle.container_defs.specs.Container.{ReadField}
use Rattle.container_defs.specs.Reader.{has_name}
use Rattle.container_defs.specs.Forms.{is_known, fails, field_type, is_known_reader, is_known_condition, has_odd_emptiness, has_extras, has_odd_some, has_odd_whole, is_odd_rest}
use Rattle.item_forms.specs.declared.field_test.FieldTest.{FieldTest}
use Rattle.item_forms.specs.declared.field_test.FieldTest.TheVariants.{Bound, Getter, Skip, SerializeWith, OtherReader, OtherCondition, OddRest, NamelessExtras, UnknownType, OddSome, OddWhole, OddEmptiness}

module _ (items : List (List ℕ)) where
  abbrev pub field_test : FieldTest → ReadField → Bool
  field_test Bound = λ f. is_some f.attrs.ser_bound || is_some f.attrs.de_bound
  field_test Getter = λ f. is_some f.attrs.getter
  field_test Skip = λ f. f.attrs.skip_serializing || f.attrs.skip_deserializing
  field_test SerializeWith = λ f. is_some f.attrs.serialize_with
  field_test OtherReader = λ f. fails is_known_reader f.attrs.deserialize_with
  field_test OtherCondition = λ f. fails is_known_condition f.attrs.skip_serializing_if
  field_test OddRest = λ f. is_odd_rest f
  field_test NamelessExtras = λ f. not (has_name f.member) && has_extras f
  field_test UnknownType = λ f. not (is_known items (field_type f))
  field_test OddSome = λ f. has_odd_some f
  field_test OddWhole = λ f. has_odd_whole f
  field_test OddEmptiness = λ f. has_odd_emptiness f
