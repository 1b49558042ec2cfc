-- Parts and merges, one after another.
use Rattle.std.proofs.Common.{◌≡◌, ℕ, ◌+◌, ◌<◌, ◌≤◌, List, ◌∷◌, ◌++◌, length, drop, get_or, refl, sym, ap, ◌∙◌, append_assoc, append-nil}
use Rattle.std.proofs.lemmas.List.{drop_all}
use Rattle.schema_defs.specs.Texts.{Relations}
use Rattle.schema_defs.specs.Location.{Location}
use Rattle.schema_defs.specs.Schema.{Document, Schema}
use Rattle.convert_defs.specs.Row.{Part}
use Rattle.convert_walks.specs.Spot.{Spot, Branches, part_spot, part_schema}
use Rattle.convert_walks.specs.Tree.{tree_at, parts_trees}
use Rattle.row_findings.specs.declared.part.Part.{Part as CodePart}
use Rattle.row_findings.specs.declared.part.PartKind.{PartKind}
use Rattle.row_findings.specs.declared.part.PartKind.TheVariants as kinds
use Rattle.row_findings.specs.Given.{source_view}
use Rattle.row_findings.specs.View.{part_by, part_view, steps_view}
use Rattle.schema_defs.proofs.Turns.{mapped_drop}
use Rattle.document_merges.specs.declared.listed.Listed.{Listed}
use Rattle.document_merges.specs.Listed.{listed_view}
use Rattle.document_merges.specs.Merges.{MergeD, merges_in}
use Rattle.document_merges.proofs.Found.{merges_of_both}

module _ (r : Relations) (d : Document) (most n : ℕ) (o : Spot) (ms : Branches) where
  abbrev pub merges_of_parts : List Part → List MergeD
  merges_of_parts ps = merges_in (parts_trees r d most (λ o s. tree_at r d most n o s) o ms ps)

  abbrev pub merges_of_part : Part → List MergeD
  merges_of_part p = merges_in (tree_at r d most n (part_spot o ms p) (part_schema p))

  one_part : (p : Part) (ps : List Part) → merges_of_parts (p ∷ ps) ≡ merges_of_part p ++ merges_of_parts ps
  one_part p ps = merges_of_both (tree_at r d most n (part_spot o ms p) (part_schema p)) (parts_trees r d most (λ o s. tree_at r d most n o s) o ms ps)

  -- what is left after one more part, and after all
  module _ (xs : List Listed) (i : ℕ) where
    pub part_turn : (x : Listed) (old new whole : List MergeD) → i < length xs → x ≡ get_or xs i x → new ≡ old ++ merges_of_part (part_view x.part.now)
        → old ++ merges_of_parts (listed_view (drop i xs)) ≡ whole → new ++ merges_of_parts (listed_view (drop (i + 1) xs)) ≡ whole
    part_turn x old new whole h at e was =
        let rest = listed_view (drop (i + 1) xs) in
        ap (λ ms. ms ++ merges_of_parts rest) e
        ∙ append_assoc old (merges_of_part (part_view x.part.now)) (merges_of_parts rest)
        ∙ ap (λ ms. old ++ ms) (sym (one_part (part_view x.part.now) rest) ∙ ap merges_of_parts (sym (mapped_drop (λ (p : Listed). part_view p.part.now) xs i x h at)))
        ∙ was

    pub part_end : (old whole : List MergeD) → length xs ≤ i → old ++ merges_of_parts (listed_view (drop i xs)) ≡ whole → old ≡ whole
    part_end old whole h was = sym (append-nil old) ∙ ap (λ ys. old ++ merges_of_parts (listed_view ys)) (sym (drop_all i xs h)) ∙ was

-- ---- the schema of a part

by_kind : (k : PartKind) (l : Location) (s : Schema) → part_schema (part_by k l s) ≡ s
by_kind kinds.Child l s = refl
by_kind kinds.OfBranch l s = refl
by_kind kinds.Lone l s = refl
by_kind kinds.Made l s = refl

pub schema_of_part : (p : CodePart) → part_schema (part_view p) ≡ source_view p.source
schema_of_part p = by_kind p.kind (steps_view p.steps) (source_view p.source)
