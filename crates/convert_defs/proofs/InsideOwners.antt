-- The parts of rows of objects and of arrays are inside the schema.
use Rattle.std.proofs.Common.{ℕ, zero, suc, List, [], ◌∷◌, ◌++◌, Bool, true, false, ◌&&◌, ◌||◌, not, Option, Some, None, refl, codes}
use Rattle.std.specs.Prelude.{if◌then◌else◌}
use Rattle.schema_defs.specs.declared.Setting.{Setting}
use Rattle.schema_defs.specs.declared.InstanceType.TheVariants.{Text}
use Rattle.schema_defs.specs.Location.{Step}
use Rattle.schema_defs.specs.Schema.{Plain, boolean, object, Lists, no_lists, lists, Named, no_named, named, MaybeSchema, no_schema, the_schema, Schemas, no_more, schema, Places, no_items, each_item, by_place, Properties, no_properties, property, ListRules, MemberRules, Document}
use Rattle.schema_defs.specs.Layer.{is_given}
use Rattle.convert_defs.specs.Row.{Part, field_parts, outside_parts, further_parts, Row, vec_row, set_row, map_row, refused_row, noted, plainly, asking, here, narrowed, names_note, bad_array, names as names_cause}
use Rattle.convert_defs.specs.IntegerRow.{note_if}
use Rattle.convert_defs.specs.Owners.{part_at, each_part, listed_parts, unlisted, fixed_row, open_list, is_true, is_by_place, list_notes, sized_finding, fixed_size, array_finding, property_fields, outside_names, outside_row, other_part, struct_of, no_property, is_empty, is_false, is_shut, are_alike, pattern_names, pattern_row, name_part, names_texts, map_of, counts_notes, names_notes, object_finding}
use Rattle.convert_defs.proofs.Views.{AllParts}
use Rattle.each_schema.specs.Each.{EachInLists, EachInNamed, EachInMaybe, EachInAll, EachInPlaces, EachInProperties}
use Rattle.convert_defs.proofs.InsideParts.{IsMadeToo, In as PartIn, AllIn as RowIn, parts-both, of-one-type}

module _ (At : Plain → Named → Type 0) (sized : ListRules → Type 0) (made_here : IsMadeToo At) (d : Document) where
  abbrev In : Part → Type 0
  In = PartIn At sized

  abbrev AllIn : Row → Type 0
  AllIn = RowIn At sized

  part-at : (k : Step) (m : MaybeSchema) → EachInMaybe At sized m → In (part_at k m)
  part-at k no_schema h = tt
  part-at k (the_schema s) h = h

  -- ---- objects

  fields-in : (st : Setting) (req : List (List ℕ)) (ps : Properties) → EachInProperties At sized ps → AllParts In (field_parts (property_fields st req ps))
  fields-in st req no_properties h = tt
  fields-in st req (property k s ps) h = (h.0, fields-in st req ps h.1)

  outside-in : (ns : List (List ℕ)) (rest : MaybeSchema) → EachInMaybe At sized rest → AllParts In (outside_parts (outside_row ns rest))
  outside-in (n ∷ ns) rest h = (part-at (codes "additionalProperties") rest h, tt)
  outside-in [] no_schema h = tt
  outside-in [] (the_schema (boolean b)) h = tt
  outside-in [] (the_schema (object p ss ls ns)) h = (h, tt)

  struct-in : (st : Setting) (props : Properties) (rest : MaybeSchema) (rules : MemberRules) → EachInProperties At sized props → EachInMaybe At sized rest → AllIn (struct_of st props rest rules)
  struct-in st props rest rules h g = parts-both At sized (field_parts (property_fields st rules.required props)) (outside_parts (outside_row (outside_names props rules.required) rest)) (fields-in st rules.required props h) (outside-in (outside_names props rules.required) rest g)

  name-in : (m : MaybeSchema) → EachInMaybe At sized m → In (name_part m)
  name-in no_schema h = of-one-type At sized made_here Text refl
  name-in (the_schema (boolean b)) h = of-one-type At sized made_here Text refl
  name-in (the_schema (object p ss ls ns)) h = h

  map-in : (rest names : MaybeSchema) → EachInMaybe At sized rest → EachInMaybe At sized names → AllIn (map_of rest names)
  map-in rest names h g = by (names_texts names)
    where
      by : (b : Bool) → AllIn (if b then map_row (name_part names) (other_part rest) else refused_row names_cause)
      by true = (name-in names g, (part-at (codes "additionalProperties") rest h, tt))
      by false = tt

  pattern-in : (qs : Properties) → EachInProperties At sized qs → AllIn (pattern_row qs)
  pattern-in no_properties h = tt
  pattern-in (property k s qs) h = (h.0, tt)

  pub object-in : (st : Setting) (ns : Named) → EachInNamed At sized ns → AllIn (object_finding st ns).row
  object-in st no_named h = (of-one-type At sized made_here Text refl, (tt, tt))
  object-in st (named props patterns rest names rules) h = by (no_property props && is_empty rules.required && no_property patterns && not (is_false rest)) (no_property props && is_empty rules.required && not (is_given names) && is_shut rest && are_alike patterns)
    where
      by : (a b : Bool) → AllIn (if a then noted (counts_notes rules) (map_of rest names) else if b then asking (pattern_names patterns) (noted (counts_notes rules ++ note_if (not (is_given rest)) (here narrowed names_note)) (pattern_row patterns)) else noted (counts_notes rules ++ names_notes patterns names) (struct_of st props rest rules)).row
      by true b = map-in rest names h.2 h.3
      by false true = pattern-in patterns h.1
      by false false = struct-in st props rest rules h.0 h.2

  -- ---- arrays

  places-in : (i n : ℕ) (ss : Schemas) → EachInAll At sized ss → AllParts In (listed_parts i n ss)
  places-in i zero ss h = tt
  places-in i (suc n) no_more h = tt
  places-in i (suc n) (schema s ss) h = (h.0, places-in (suc i) n ss h.1)

  further-in : (n : ℕ) (p : Part) → In p → AllParts In (further_parts n p)
  further-in zero p h = tt
  further-in (suc n) p h = (h, tt)

  each-in : (m : Places) → EachInPlaces At sized m → In (each_part m)
  each-in no_items h = tt
  each-in (each_item s) h = h
  each-in (by_place ss) h = tt

  fixed-in : (n : ℕ) (m : Places) (rest : MaybeSchema) → EachInPlaces At sized m → EachInMaybe At sized rest → AllIn (fixed_row n m rest)
  fixed-in n no_items rest h g = (tt, tt)
  fixed-in n (each_item s) rest h g = (h, tt)
  fixed-in n (by_place ss) rest h g =
      let p = part_at (codes "additionalItems") rest in
      parts-both At sized (listed_parts 0 n ss) (further_parts (unlisted n ss) p) (places-in 0 n ss h) (further-in (unlisted n ss) p (part-at (codes "additionalItems") rest g))

  open-in : (rules : ListRules) (p : Part) → In p → AllIn (open_list rules p)
  open-in rules p h = by (is_true rules.unique_items)
    where
      by : (b : Bool) → AllIn (if b then set_row p else vec_row p)
      by true = (h, tt)
      by false = (h, tt)

  sized-in : (m : Places) (rest contains : MaybeSchema) (rules : ListRules) (o : Option ℕ) → EachInPlaces At sized m → EachInMaybe At sized rest → AllIn (sized_finding m rest contains rules o).row
  sized-in m rest contains rules (Some n) h g = fixed-in n m rest h g
  sized-in m rest contains rules None h g = by (is_by_place m || is_given contains)
    where
      by : (b : Bool) → AllIn (if b then plainly (refused_row bad_array) else noted (list_notes rules) (open_list rules (each_part m))).row
      by true = tt
      by false = open-in rules (each_part m) (each-in m h)

  pub array-in : (ls : Lists) → EachInLists At sized ls → AllIn (array_finding ls).row
  array-in no_lists h = (tt, tt)
  array-in (lists m rest contains rules) h = sized-in m rest contains rules (fixed_size rules contains) h.0 h.1
