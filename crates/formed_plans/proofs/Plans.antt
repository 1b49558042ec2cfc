-- What a document whose rows may merge is converted to is formed, by levels, and so is its table with names.
use Rattle.std.proofs.Common.{ℕ, ◌≡◌, zero, suc, List, [], ◌∷◌, true, Option, Some, None, refl}
use Rattle.std.specs.List.{AllByRecursion}
use Rattle.schema_defs.specs.Texts.{Relations}
use Rattle.schema_defs.specs.Schema.{Schema, Definition, Document}
use Rattle.convert_defs.specs.Row.{Part}
use Rattle.convert_defs.specs.Table.{finding_of, row_of}
use Rattle.convert_defs.specs.Convert.{named_by}
use Rattle.convert_walks.specs.Spot.{Spot, Branches, part_spot, part_schema}
use Rattle.convert_walks.specs.Merging.{merged_at}
use Rattle.convert_walks.specs.Tree.{Standing, instead, if_merged, standing_entry, row_entry, entry_at, definition_spot, root_spot, table_of}
use Rattle.conversion_laws.proofs.Targets.{body_entry}
use Rattle.space_trees.specs.Formed.{rest_is_wanted, is_formed_shape_by}
use Rattle.formed_plans.proofs.NamedForm.{IsWanted, table-named}
use Rattle.merged_documents.proofs.Leaves.{row_has_leaf}
use Rattle.formed_plans.proofs.MadeForm.{Fine, row-fine, item-fine}
use Rattle.merged_documents.proofs.Tables.{all-trees, all-items}
use Rattle.formed_plans.specs.Laws.{PlansAreFormed}

module _ (r : Relations) (d : Document) (most : ℕ) where
  abbrev AllFine : ℕ → Type 0
  AllFine n = (o : Spot) (s : Schema) → Fine (entry_at r d most n o s)

  -- what a row that merges is converted to, and any other
  standing-fine : (n : ℕ) → AllFine n → (t : Option Standing) → Fine (standing_entry r d most n (λ o s. entry_at r d most n o s) t)
  standing-fine n rec None = refl
  standing-fine n rec (Some t) = rec t.spot t.schema

  entry-of-row : (n : ℕ) → AllFine n → (o : Spot) (s : Schema) (ps : Option (List Part)) → Fine (row_entry r d most n (λ o s. entry_at r d most n o s) o s (finding_of r d s).branches (row_of r d s) ps)
  entry-of-row n rec o s (Some ps) = standing-fine n rec (instead o s (merged_at d most n o s ps))
  entry-of-row n rec o s None =
      let met : Branches = (finding_of r d s).branches in
      row-fine (λ p. entry_at r d most n (part_spot o met p) (part_schema p)) (λ p. rec (part_spot o met p) (part_schema p)) (named_by o.handed s) (row_of r d s) (row_has_leaf r d s)

  pub entry-fine : (n : ℕ) → AllFine n
  entry-fine zero o s = refl
  entry-fine (suc n) o s = entry-of-row n (entry-fine n) o s (if_merged (row_of r d s))

  bodies-fine : (n : ℕ) (ds : List Definition) → AllByRecursion (λ e. Fine (body_entry r d most n e)) ds
  bodies-fine n [] = tt
  bodies-fine n (e ∷ ds) = (entry-fine n (definition_spot r d most n e) e.body, bodies-fine n ds)

  pub table-fine : (n : ℕ) → IsWanted (table_of r d most n)
  table-fine n =
      let root = entry-fine n (root_spot r d most n) d.root in
      record {
        trees = all-trees r d most n Fine root (λ e. refl);
        targets = all-items r d most n Fine root (λ i. is_formed_shape_by rest_is_wanted i.shape ≡ true) (λ name e x. item-fine name e x) (bodies-fine n d.definitions);
      }

pub plans_are_formed : PlansAreFormed
plans_are_formed r d most n = table-named (table_of r d most n) (table-fine r d most n)
