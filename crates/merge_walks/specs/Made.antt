-- Which walk a schema carries that a merge makes: the longer of its members' walks, the first at a tie.
use Rattle.std.specs.Prelude.{List, [], ◌∷◌, ◌++◌, Option, Some, None, length, nat_lt, if◌then◌else◌}
use Rattle.schema_defs.specs.Schema.{Schema, boolean, object, Same, no_same, same_value, Named, no_named, named, MaybeSchema, no_schema, the_schema, MaybeSchemas, no_list, the_list, Schemas, no_more, schema, Properties, no_properties, property}
use Rattle.merge_defs.specs.Outcome.{Outcome}
use Rattle.merge_walks.specs.Carried.{Walk, made_on, own_walk}

abbrev pub longer : Walk → Walk → Walk
longer v w = if nat_lt (length v) (length w) then w else v

abbrev pub longest_after : Walk → List Walk → Walk
longest_after v [] = v
longest_after v (w ∷ ws) = longest_after (longer v w) ws

-- where none is given, w
abbrev pub longest_or : Walk → List Walk → Walk
longest_or w [] = w
longest_or w (v ∷ vs) = longest_after v vs

-- ---- walks of parts

abbrev pub walks_of : Schema → List Walk
walks_of (boolean b) = []
walks_of (object p ss ls ns) = own_walk p ∷ []

abbrev pub walks_of_all : Schemas → List Walk
walks_of_all no_more = []
walks_of_all (schema s ss) = walks_of s ++ walks_of_all ss

abbrev pub walks_of_list : MaybeSchemas → List Walk
walks_of_list no_list = []
walks_of_list (the_list ss) = walks_of_all ss

abbrev pub walks_of_maybe : MaybeSchema → List Walk
walks_of_maybe no_schema = []
walks_of_maybe (the_schema s) = walks_of s

abbrev pub walks_of_same : Same → List Walk
walks_of_same no_same = []
walks_of_same (same_value all any one none c) = walks_of_list all ++ walks_of_list any ++ walks_of_list one ++ walks_of_maybe none

-- ---- what was made

-- the walk that stands
abbrev pub if_walked : Option Walk → Schema → Schema → Schema
if_walked (Some w) s t = s
if_walked None s t = t

-- what was made of members that are merged on walk w: a schema that has no walk has the longest of its parts in allOf, anyOf, oneOf and not, and w where there are none
abbrev mutual
  pub settled : Walk → Schema → Schema
  settled w (boolean b) = boolean b
  settled w (object p ss ls ns) =
      if_walked p.walk (object p ss ls ns) (object (record p { walk = Some (made_on (longest_or w (walks_of_same (settled_same w ss)))) }) (settled_same w ss) ls (settled_named w ns))

  pub settled_same : Walk → Same → Same
  settled_same w no_same = no_same
  settled_same w (same_value all any one none c) = same_value (settled_list w all) (settled_list w any) (settled_list w one) (settled_maybe w none) c

  pub settled_named : Walk → Named → Named
  settled_named w no_named = no_named
  settled_named w (named ps pp x xn c) = named (settled_properties w ps) pp x xn c

  pub settled_maybe : Walk → MaybeSchema → MaybeSchema
  settled_maybe w no_schema = no_schema
  settled_maybe w (the_schema s) = the_schema (settled w s)

  pub settled_list : Walk → MaybeSchemas → MaybeSchemas
  settled_list w no_list = no_list
  settled_list w (the_list ss) = the_list (settled_all w ss)

  pub settled_all : Walk → Schemas → Schemas
  settled_all w no_more = no_more
  settled_all w (schema s ss) = schema (settled w s) (settled_all w ss)

  pub settled_properties : Walk → Properties → Properties
  settled_properties w no_properties = no_properties
  settled_properties w (property n s ps) = property n (settled w s) (settled_properties w ps)

-- a merge whose sides may have been made on the way
abbrev pub on_made : Walk → (Schema → Schema → Outcome Schema) → Schema → Schema → Outcome Schema
on_made w f s t = f (settled w s) (settled w t)
