-- Tables that are emitted for documents that were read: of what the law on writing asks, what holds of each of them.
use Rattle.std.specs.Prelude.{◌≡◌, ℕ, true}
use Rattle.std.specs.List.{list_all, AllByRecursion}
use Rattle.schema_defs.specs.Texts.{Relations}
use Rattle.schema_defs.specs.Schema.{Document}
use Rattle.reading_defs.specs.Proper.{has_json_numbers}
use Rattle.writing_laws.specs.Kinds.{untagged_are_apart}
use Rattle.writing_laws.specs.Tables.{AllOrdered, lists_scalars}
use Rattle.entry_defs.specs.Table.{Table, items_of}
use Rattle.emit_defs.specs.Models.{conversions_of_items}
use Rattle.emit_defs.specs.Emission.{models_of}
use Rattle.document_laws.specs.Laws.{WasRead}
use Rattle.merged_documents.specs.Laws.{plan_of}
use Rattle.emitted_back.specs.Laws.{variant_names_differ, IsWrittenApart}

-- rules list scalars, and names of variants differ where they are written
pub record ListsScalars (t : Table) : Type 0 where
  pub variants : AllByRecursion (λ i. variant_names_differ i.shape ≡ true) (items_of t)
  pub rules : list_all (λ c. lists_scalars c.rule) (conversions_of_items (items_of t)).constraints ≡ true

abbrev pub PlansListScalars : Type 0
PlansListScalars = (r : Relations) (d : Document) (most n : ℕ) → WasRead d → ListsScalars (plan_of r d most n)

abbrev pub PlansAreWrittenApart : Type 0
PlansAreWrittenApart =
    (r : Relations) (d : Document) (most n : ℕ) → WasRead d → untagged_are_apart (models_of (plan_of r d most n)) ≡ true
    → list_all has_json_numbers (conversions_of_items (items_of (plan_of r d most n))).defaults ≡ true → AllOrdered (conversions_of_items (items_of (plan_of r d most n))).defaults
    → IsWrittenApart (plan_of r d most n)
