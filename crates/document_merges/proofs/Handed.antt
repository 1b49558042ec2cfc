-- What a row merges doesn't hang on the name that is handed down.
use Rattle.std.proofs.Common.{◌≡◌, ℕ, List, [], ◌∷◌, Option, Some, None, refl, ap}
use Rattle.schema_defs.specs.Schema.{Plain, Schema, boolean, object, Same, Lists, Named, Document, schema}
use Rattle.convert_defs.specs.Convert.{Handed}
use Rattle.convert_defs.specs.Row.{Part, child, of_branch, lone, made}
use Rattle.merge_walks.specs.Carried.{carried}
use Rattle.merge_walks.specs.Walked.{merge_by_walks}
use Rattle.convert_walks.specs.Merging.{carried_parts, merged_at, merged_by, without_reference}
use Rattle.convert_walks.specs.Spot.{Spot, part_schema, part_spot}

abbrev pub handing : Spot → Handed → Spot
handing o h = record o { handed = h }

same_walk : (o : Spot) (h : Handed) (p : Part) → (part_spot (handing o h) [] p).walk ≡ (part_spot o [] p).walk
same_walk o h (child k s) = refl
same_walk o h (of_branch k s) = refl
same_walk o h (lone k (boolean b)) = refl
same_walk o h (lone k (object p ss ls ns)) = refl
same_walk o h (made s) = refl

same_parts : (o : Spot) (h : Handed) (ps : List Part) → carried_parts (handing o h) ps ≡ carried_parts o ps
same_parts o h [] = refl
same_parts o h (p ∷ ps) = λ i. schema (carried (same_walk o h p i) (part_schema p)) (same_parts o h ps i)

module _ (d : Document) (most n : ℕ) (o : Spot) (h : Handed) where
  same_without : (p : Plain) (ss : Same) (ls : Lists) (ns : Named) (ps : List Part) → without_reference d most n (handing o h) p ss ls ns ps ≡ without_reference d most n o p ss ls ns ps
  same_without p ss ls ns [] = refl
  same_without p ss ls ns (made b ∷ ps) = refl
  same_without p ss ls ns (child k s ∷ ps) = ap (merge_by_walks d most n) (same_parts o h (child k s ∷ ps))
  same_without p ss ls ns (of_branch k s ∷ ps) = ap (merge_by_walks d most n) (same_parts o h (of_branch k s ∷ ps))
  same_without p ss ls ns (lone k s ∷ ps) = ap (merge_by_walks d most n) (same_parts o h (lone k s ∷ ps))

  same_by : (p : Plain) (ss : Same) (ls : Lists) (ns : Named) (ps : List Part) (q : Option (List ℕ)) → merged_by d most n (handing o h) p ss ls ns ps q ≡ merged_by d most n o p ss ls ns ps q
  same_by p ss ls ns ps None = same_without p ss ls ns ps
  same_by p ss ls ns ps (Some q) = refl

  pub same_merge : (s : Schema) (ps : List Part) → merged_at d most n (handing o h) s ps ≡ merged_at d most n o s ps
  same_merge (boolean b) ps = refl
  same_merge (object p ss ls ns) ps = same_by p ss ls ns ps p.reference
