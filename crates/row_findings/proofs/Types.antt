-- Two types of which one is null.
use Rattle.std.proofs.Common.{◌≡◌, List, [], ◌∷◌, Option, Some, None, refl}
use Rattle.std.specs.Prelude.{if◌then◌else◌}
use Rattle.schema_defs.specs.declared.InstanceType.{InstanceType}
use Rattle.schema_defs.specs.declared.InstanceType.TheVariants.{Null, Boolean, Object, Array, Number, Text, Integer}
use Rattle.schema_defs.specs.Schema.{many_types}
use Rattle.enum_defs.specs.Words.{same_type}
use Rattle.convert_defs.specs.Table.{type_beside_null}

pub one_type_alone : (a : InstanceType) → type_beside_null (Some (many_types (a ∷ []))) ≡ None
one_type_alone Null = refl
one_type_alone Boolean = refl
one_type_alone Object = refl
one_type_alone Array = refl
one_type_alone Number = refl
one_type_alone Text = refl
one_type_alone Integer = refl

pub two_types : (a b : InstanceType) → type_beside_null (Some (many_types (a ∷ b ∷ []))) ≡ (if same_type Null a then Some b else if same_type Null b then Some a else None)
two_types Null b = refl
two_types Boolean Null = refl
two_types Boolean Boolean = refl
two_types Boolean Object = refl
two_types Boolean Array = refl
two_types Boolean Number = refl
two_types Boolean Text = refl
two_types Boolean Integer = refl
two_types Object Null = refl
two_types Object Boolean = refl
two_types Object Object = refl
two_types Object Array = refl
two_types Object Number = refl
two_types Object Text = refl
two_types Object Integer = refl
two_types Array Null = refl
two_types Array Boolean = refl
two_types Array Object = refl
two_types Array Array = refl
two_types Array Number = refl
two_types Array Text = refl
two_types Array Integer = refl
two_types Number Null = refl
two_types Number Boolean = refl
two_types Number Object = refl
two_types Number Array = refl
two_types Number Number = refl
two_types Number Text = refl
two_types Number Integer = refl
two_types Text Null = refl
two_types Text Boolean = refl
two_types Text Object = refl
two_types Text Array = refl
two_types Text Number = refl
two_types Text Text = refl
two_types Text Integer = refl
two_types Integer Null = refl
two_types Integer Boolean = refl
two_types Integer Object = refl
two_types Integer Array = refl
two_types Integer Number = refl
two_types Integer Text = refl
two_types Integer Integer = refl

pub more_than_two : (a b c : InstanceType) (ks : List InstanceType) → type_beside_null (Some (many_types (a ∷ b ∷ c ∷ ks))) ≡ None
more_than_two Null Null c ks = refl
more_than_two Null Boolean c ks = refl
more_than_two Null Object c ks = refl
more_than_two Null Array c ks = refl
more_than_two Null Number c ks = refl
more_than_two Null Text c ks = refl
more_than_two Null Integer c ks = refl
more_than_two Boolean Null c ks = refl
more_than_two Boolean Boolean c ks = refl
more_than_two Boolean Object c ks = refl
more_than_two Boolean Array c ks = refl
more_than_two Boolean Number c ks = refl
more_than_two Boolean Text c ks = refl
more_than_two Boolean Integer c ks = refl
more_than_two Object Null c ks = refl
more_than_two Object Boolean c ks = refl
more_than_two Object Object c ks = refl
more_than_two Object Array c ks = refl
more_than_two Object Number c ks = refl
more_than_two Object Text c ks = refl
more_than_two Object Integer c ks = refl
more_than_two Array Null c ks = refl
more_than_two Array Boolean c ks = refl
more_than_two Array Object c ks = refl
more_than_two Array Array c ks = refl
more_than_two Array Number c ks = refl
more_than_two Array Text c ks = refl
more_than_two Array Integer c ks = refl
more_than_two Number Null c ks = refl
more_than_two Number Boolean c ks = refl
more_than_two Number Object c ks = refl
more_than_two Number Array c ks = refl
more_than_two Number Number c ks = refl
more_than_two Number Text c ks = refl
more_than_two Number Integer c ks = refl
more_than_two Text Null c ks = refl
more_than_two Text Boolean c ks = refl
more_than_two Text Object c ks = refl
more_than_two Text Array c ks = refl
more_than_two Text Number c ks = refl
more_than_two Text Text c ks = refl
more_than_two Text Integer c ks = refl
more_than_two Integer Null c ks = refl
more_than_two Integer Boolean c ks = refl
more_than_two Integer Object c ks = refl
more_than_two Integer Array c ks = refl
more_than_two Integer Number c ks = refl
more_than_two Integer Text c ks = refl
more_than_two Integer Integer c ks = refl
