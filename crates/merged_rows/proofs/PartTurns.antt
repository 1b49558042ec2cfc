-- The parts of a row as merges see them, one after the other.
use Rattle.std.proofs.Common.{◌≡◌, ℕ, ◌+◌, ◌<◌, ◌≤◌, List, [], ◌∷◌, ◌++◌, map, drop, length, get_or, sym, ap, ◌∙◌, append_assoc, append-nil}
use Rattle.std.proofs.lemmas.List.{drop_all, drop_more, map_push}
use Rattle.schema_defs.specs.Schema.{Schemas, schemas, schema_list}
use Rattle.schema_types.specs.View.{schema_view, schemas_view}
use Rattle.schema_types.specs.declared.schema.Schema.{Schema}
use Rattle.convert_walks.specs.Spot.{Spot}
use Rattle.convert_walks.specs.Merging.{carried_parts}
use Rattle.merge_walked.proofs.Lists.{relisted}
use Rattle.row_findings.specs.declared.part.Part.{Part}
use Rattle.row_findings.specs.View.{part_view}
use Rattle.merged_rows.specs.Rows.{carried_part}

module _ (o : Spot) (ps : List Part) where
  pub parts_begin : (done : List Schema) → done ≡ [] → carried_parts o (map part_view ps) ≡ schemas (schemas_view done ++ schema_list (carried_parts o (map part_view (drop 0 ps))))
  parts_begin done e = relisted (carried_parts o (map part_view ps)) ∙ ap (λ xs. schemas (schemas_view xs ++ schema_list (carried_parts o (map part_view ps)))) (sym e)

  pub parts_turn : (i : ℕ) (d : Part) (old new : List Schema) (s : Schema) (whole : Schemas) → i < length ps → new ≡ old ++ s ∷ [] → schema_view s ≡ carried_part o (part_view (get_or ps i d))
      → whole ≡ schemas (schemas_view old ++ schema_list (carried_parts o (map part_view (drop i ps)))) → whole ≡ schemas (schemas_view new ++ schema_list (carried_parts o (map part_view (drop (i + 1) ps))))
  parts_turn i d old new s whole h e g was =
      let rest = schema_list (carried_parts o (map part_view (drop (i + 1) ps))) in
      was
      ∙ ap (λ qs. schemas (schemas_view old ++ schema_list (carried_parts o (map part_view qs)))) (drop_more ps i d h)
      ∙ ap (λ x. schemas (schemas_view old ++ x ∷ rest)) (sym g)
      ∙ ap schemas (sym (append_assoc (schemas_view old) (schema_view s ∷ []) rest))
      ∙ ap (λ xs. schemas (xs ++ rest)) (sym (ap schemas_view e ∙ map_push schema_view old s))

  pub parts_end : (i : ℕ) (done : List Schema) (all : List Part) → length ps ≤ i → ps ≡ all → carried_parts o (map part_view ps) ≡ schemas (schemas_view done ++ schema_list (carried_parts o (map part_view (drop i ps))))
      → schemas (schemas_view done) ≡ carried_parts o (map part_view all)
  parts_end i done all h e was =
      ap schemas (sym (append-nil (schemas_view done))) ∙ ap (λ qs. schemas (schemas_view done ++ schema_list (carried_parts o (map part_view qs)))) (sym (drop_all i ps h)) ∙ sym was ∙ ap (λ qs. carried_parts o (map part_view qs)) e
