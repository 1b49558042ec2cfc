-- What a row merges, as the program hands it to merges: on its walk, without its reference, without its subschemas.
use Rattle.std.specs.Prelude.{ℕ, List, [], ◌∷◌, Bool, true, false, Option, Some, None, option_map, string_bytes, if◌then◌else◌}
use Rattle.json_value.specs.Value.{Value}
use Rattle.schema_defs.specs.Schema.{Plain, Schema, boolean, object, Same, no_same, Document}
use Rattle.convert_defs.specs.Convert.{Handed, named_by}
use Rattle.convert_defs.specs.Row.{Part, made}
use Rattle.convert_defs.specs.Standing.{less_reference}
use Rattle.merge_defs.specs.Outcome.{Outcome}
use Rattle.merge_walks.specs.Carried.{Walk, root_walk, own_walk, carried}
use Rattle.merge_walks.specs.Walked.{merge_by_walks, with_by_walks}
use Rattle.json_value.specs.View.{kept_view}
use Rattle.schema_types.specs.View.{schema_view}
use Rattle.convert_walks.specs.Spot.{Spot, part_schema, part_spot}
use Rattle.convert_walks.specs.Merging.{annotated, carried_parts}
use Rattle.convert_walks.specs.Tree as tree
use Rattle.merged_rows.specs.Starts.{spot_of}
use Rattle.merged_rows.specs.declared.annotations.Annotations.{Annotations}
use Rattle.merged_rows.specs.declared.instead.Standing.{Standing}

-- ---- what is merged

abbrev pub carried_part : Spot → Part → Schema
carried_part o p = carried (part_spot o [] p).walk (part_schema p)

abbrev pub without_reference : Schema → Schema
without_reference (boolean b) = boolean b
without_reference (object p ss ls ns) = object (less_reference p) ss ls ns

abbrev pub without_subschemas : Schema → Schema
without_subschemas (boolean b) = boolean b
without_subschemas (object p ss ls ns) = object p no_same ls ns

abbrev pub subschemas_in : Schema → Same
subschemas_in (boolean b) = no_same
subschemas_in (object p ss ls ns) = ss

-- whether its first part was made: a body, of which the other parts are subschemas
abbrev pub is_made_part : Part → Bool
is_made_part (made b) = true
is_made_part _ = false

abbrev pub begins_made : List Part → Bool
begins_made [] = false
begins_made (p ∷ ps) = is_made_part p

-- a row without a reference
abbrev pub merged_without : Document → ℕ → ℕ → Spot → Schema → List Part → Outcome Schema
merged_without d most n o s ps =
    if begins_made ps then with_by_walks d most n (carried o.walk (without_subschemas s)) (subschemas_in s) else merge_by_walks d most n (carried_parts o ps)

-- ---- what stands in place of the schema

pub record AnnotationsD : Type 0 where
  pub title : Option (List ℕ)
  pub description : Option (List ℕ)
  pub default : Option Value

abbrev pub annotations_view : Annotations → AnnotationsD
annotations_view a = record { title = option_map (λ t. string_bytes t.now) a.title; description = option_map (λ t. string_bytes t.now) a.description; default = option_map (λ v. kept_view v.now) a.default }

-- a boolean has none
abbrev pub annotations_in : Schema → Option AnnotationsD
annotations_in (boolean b) = None
annotations_in (object p ss ls ns) = Some (record { title = p.title; description = p.description; default = p.default })

abbrev pub with_texts : Option (List ℕ) → Option (List ℕ) → Option Value → Schema → Schema
with_texts t e v (boolean b) = boolean b
with_texts t e v (object q ss ls ns) = object (record q { title = t; description = e; default = v }) ss ls ns

abbrev pub with_annotations : Option AnnotationsD → Schema → Schema
with_annotations None m = m
with_annotations (Some a) m = with_texts a.title a.description a.default m

abbrev pub annotated_by : Option Plain → Schema → Schema
annotated_by None m = m
annotated_by (Some p) m = annotated p m

-- without the mark of what was made
abbrev pub own_walk_in : Schema → Walk
own_walk_in (boolean b) = root_walk
own_walk_in (object q ss ls ns) = own_walk q

-- a boolean that was made is named as the written schema
abbrev pub handed_on : Handed → Schema → Schema → Handed
handed_on h s (boolean b) = Some (named_by h s)
handed_on h s (object p ss ls ns) = h

abbrev pub standing_view : Handed → Schema → Standing → tree.Standing
standing_view h s t = record { spot = spot_of t.start [] (handed_on h s (schema_view t.schema)); schema = schema_view t.schema }
