-- What is asked of each variant.
use Rattle.std.specs.Prelude.{◌||◌, Bool, is_some}
use Rattle.container_defs.specs.Container.{ReadVariant}
use Rattle.item_forms.specs.declared.variant_test.VariantTest.{VariantTest}
use Rattle.item_forms.specs.declared.variant_test.VariantTest.TheVariants.{Bound, Other, Untagged, Skip, SerializeWith, DeserializeWith}

abbrev pub variant_test : VariantTest → ReadVariant → Bool
variant_test Bound = λ v. is_some v.attrs.ser_bound || is_some v.attrs.de_bound
variant_test Other = λ v. v.attrs.other
variant_test Untagged = λ v. v.attrs.untagged
variant_test Skip = λ v. v.attrs.skip_serializing || v.attrs.skip_deserializing
variant_test SerializeWith = λ v. is_some v.attrs.serialize_with
variant_test DeserializeWith = λ v. is_some v.attrs.deserialize_with
