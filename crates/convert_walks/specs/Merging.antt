-- The schema that a row merges: of a reference's target and the rest, of the members of a lone allOf, or of a body and its subschemas.
use Rattle.std.specs.Prelude.{ℕ, List, [], ◌∷◌, Option, Some, None}
use Rattle.schema_defs.specs.Schema.{Plain, Schema, boolean, object, Same, no_same, Lists, Named, Schemas, no_more, schema, Document}
use Rattle.schema_defs.specs.Admits.{target, target_location}
use Rattle.convert_defs.specs.Standing.{less_reference}
use Rattle.convert_defs.specs.Row.{Part, made}
use Rattle.merge_defs.specs.Outcome.{Outcome, never}
use Rattle.merge_walks.specs.Carried.{on_walk, to_target, carried}
use Rattle.merge_walks.specs.Walked.{join_by_walks, merge_by_walks, with_by_walks}
use Rattle.convert_walks.specs.Spot.{Spot, part_schema, part_spot}

-- the parts of a row as they stand on their walks
abbrev pub carried_parts : Spot → List Part → Schemas
carried_parts o [] = no_more
carried_parts o (p ∷ ps) = schema (carried (part_spot o [] p).walk (part_schema p)) (carried_parts o ps)

-- a schema that was merged has the annotations of the written one
abbrev pub annotated : Plain → Schema → Schema
annotated p (boolean b) = boolean b
annotated p (object q ss ls ns) = object (record q { title = p.title; description = p.description; default = p.default }) ss ls ns

-- `most` is how many steps a walk may have, and n how many levels there are
module _ (d : Document) (most n : ℕ) where
  abbrev pub with_target : Spot → List ℕ → Option Schema → Schema → Outcome Schema
  with_target o q None s = never []
  with_target o q (Some t) s = join_by_walks d most n (on_walk (to_target o.walk (target_location d q)) t) s

  -- the row's parts are a body and its subschemas, or the members of allOf
  abbrev pub without_reference : Spot → Plain → Same → Lists → Named → List Part → Outcome Schema
  without_reference o p ss ls ns (made b ∷ ps) = with_by_walks d most n (carried o.walk (object p no_same ls ns)) ss
  without_reference o p ss ls ns ps = merge_by_walks d most n (carried_parts o ps)

  abbrev pub merged_by : Spot → Plain → Same → Lists → Named → List Part → Option (List ℕ) → Outcome Schema
  merged_by o p ss ls ns ps None = without_reference o p ss ls ns ps
  merged_by o p ss ls ns ps (Some q) = with_target o q (target d q) (carried o.walk (object (less_reference p) ss ls ns))

  abbrev pub merged_at : Spot → Schema → List Part → Outcome Schema
  merged_at o (boolean b) ps = never []
  merged_at o (object p ss ls ns) ps = merged_by o p ss ls ns ps p.reference
