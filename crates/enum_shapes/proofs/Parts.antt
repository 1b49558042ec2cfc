-- Schemas and keywords of members, part by part.
use Rattle.std.proofs.Common.{◌≡◌, Bool, true, false, ◌&&◌, Option, None, refl}
use Rattle.std.specs.Prelude.{if◌then◌else◌}
use Rattle.std.specs.List.{list_all}
use Rattle.schema_defs.specs.declared.InstanceType.TheVariants.{Object}
use Rattle.schema_defs.specs.Schema.{Schema, boolean, object, Named, no_named, named, no_schema, the_schema, no_properties, property}
use Rattle.enum_defs.specs.Words.{has_type, is_bare, is_unruled, without_lists, is_name, names_of}
use Rattle.enum_defs.specs.Shapes.{is_object_alone, closedness, is_uncounted, closed_by}
use Rattle.enum_shapes.specs.Here.{is_object_typed_in, is_bare_in, is_unruled_in, has_no_pattern_in, is_uncounted_in, requires_named_in, rest_in}

turned : (t b u l : Bool) → (t && b && u && l) ≡ (t && l && b && u)
turned true true true l = shut l
  where
    shut : (l : Bool) → l ≡ (l && true && true)
    shut true = refl
    shut false = refl
turned true true false true = refl
turned true true false false = refl
turned true false u true = refl
turned true false u false = refl
turned false b u l = refl

pub is_object_alone_parts : (s : Schema) → is_object_alone s ≡ (is_object_typed_in s && is_bare_in s && is_unruled_in s)
is_object_alone_parts (boolean b) = refl
is_object_alone_parts (object p ss ls ns) = turned (has_type Object p.types) (is_bare p ss) (is_unruled p) (without_lists ls)

-- the two conditions inside
nested : (u r : Bool) (o : Option Bool) → (if u && r then o else None) ≡ (if true && u && r then o else None)
nested true r o = refl
nested false r o = refl

pub closedness_parts : (ns : Named) → closedness ns ≡ (if has_no_pattern_in ns && is_uncounted_in ns && requires_named_in ns then rest_in ns else None)
closedness_parts no_named = refl
closedness_parts (named props no_properties rest no_schema rules) = nested (is_uncounted rules) (list_all (λ n. is_name n (names_of props)) rules.required) (closed_by rest)
closedness_parts (named props (property k s ps) rest names rules) = refl
closedness_parts (named props no_properties rest (the_schema s) rules) = refl
