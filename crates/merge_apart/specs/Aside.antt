-- Properties and required names that stand aside while an object is merged with another schema, and that object with them.
use Rattle.std.specs.Prelude.{ℕ, ◌&&◌, ◌||◌, not, List, [], Bool, true, false, is_some, bytes_eq, if◌then◌else◌}
use Rattle.std.specs.List.{list_any}
use Rattle.schema_defs.specs.Schema.{Schema, boolean, object, no_same, Named, no_named, named, no_schema, Properties, no_properties, property}
use Rattle.schema_defs.specs.Layer.{property_at, is_given}
use Rattle.enum_defs.specs.Words.{is_name, names_of, props_of}
use Rattle.merge_defs.specs.Alike.{is_absent}
use Rattle.merge_defs.specs.Objects.{is_below, put_names}
use Rattle.schema_sameness.specs.Parts.{named_in}

pub record Aside : Type 0 where
  pub properties : Properties
  pub required : List (List ℕ)

abbrev pub nothing_aside : Aside
nothing_aside = record { properties = no_properties; required = [] }

-- ---- an object with what stands aside of it

-- a property goes before the first whose name is greater; one of that name stays as it is
abbrev pub put_at : List ℕ → Schema → Properties → Properties
put_at n s no_properties = property n s no_properties
put_at n s (property m t ps) = if bytes_eq n m then property m t ps else if is_below n m then property n s (property m t ps) else property m t (put_at n s ps)

abbrev pub put_all : Properties → Properties → Properties
put_all no_properties ps = ps
put_all (property n s qs) ps = put_at n s (put_all qs ps)

abbrev pub with_members : Aside → Named → Named
with_members a no_named = no_named
with_members a (named ps pp x xn c) = named (put_all a.properties ps) pp x xn (record c { required = put_names a.required c.required })

abbrev pub with_aside : Aside → Schema → Schema
with_aside a (boolean b) = boolean b
with_aside a (object p ss ls ns) = object p ss ls (with_members a ns)

-- ---- what may stand aside

-- `true`, or an object on its walk
abbrev pub is_settled : Schema → Bool
is_settled (boolean b) = b
is_settled (object p ss ls ns) = is_some p.walk

abbrev pub are_settled : Properties → Bool
are_settled no_properties = true
are_settled (property n s ps) = is_settled s && are_settled ps

-- each name once
abbrev pub is_each_once : Properties → Bool
is_each_once no_properties = true
is_each_once (property n s ps) = not (is_given (property_at n ps)) && is_each_once ps

-- ---- where an object may be merged without what stands aside

-- on its walk, and without a reference, subschemas and names by pattern
abbrev pub is_open : Schema → Bool
is_open (object p no_same ls (named ps no_properties x no_schema c)) = is_some p.walk && is_absent p.reference
is_open _ = false

-- the other side, without a reference and subschemas, which says nothing of names that it doesn't name
abbrev pub names_alone : Schema → Bool
names_alone (object p no_same ls no_named) = is_absent p.reference
names_alone (object p no_same ls (named ps no_properties no_schema no_schema c)) = is_absent p.reference
names_alone _ = false

-- whether a name stands aside, as a property or as required
abbrev pub stands_aside : Aside → List ℕ → Bool
stands_aside a n = is_given (property_at n a.properties) || is_name n a.required

abbrev pub properties_in : Schema → Properties
properties_in s = props_of (named_in s)

-- whether none of the schema's properties stands aside
abbrev pub is_apart : Aside → Schema → Bool
is_apart a s = not (list_any (stands_aside a) (names_of (properties_in s)))

abbrev pub merges_apart : Aside → Schema → Schema → Bool
merges_apart a s t = (is_open s && names_alone t) && (is_apart a s && is_apart a t)
