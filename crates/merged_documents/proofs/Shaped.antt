-- The table of a document that was read is as emission asks, and so its plan can be written: merges keep that fewer than 2^32 places are asked of a list.
use Rattle.std.proofs.Common.{ℕ, ◌≡◌, ◌<◌, ◌^◌, List, [], ◌∷◌, Option, Some, None, refl, subst, arith}
use Rattle.std.specs.Prelude.{max}
use Rattle.std.specs.List.{AllByRecursion}
use Rattle.schema_defs.specs.Texts.{Relations}
use Rattle.schema_defs.specs.Schema.{Schema, Definition, Document}
use Rattle.entry_defs.specs.Sound.{Leads}
use Rattle.entry_defs.specs.Ends.{Ends}
use Rattle.emit_defs.proofs.Named.{named_tables_are_formed}
use Rattle.naming_defs.specs.Good.{is_good_name}
use Rattle.convert_defs.specs.RootReference.{refers_to_root}
use Rattle.convert_defs.specs.Table.{row_of}
use Rattle.convert_defs.specs.Proper.{IsProper, AllAreProper}
use Rattle.convert_defs.proofs.Bare.{some-same}
use Rattle.convert_defs.proofs.ProperParts.{parts-proper}
use Rattle.merge_defs.specs.Outcome.{either}
use Rattle.convert_walks.specs.Spot.{Spot}
use Rattle.convert_walks.specs.Tree.{entry_at, definition_spot, root_spot, root_use, table_of}
use Rattle.conversion_laws.specs.Keeping.{SizesAreKept}
use Rattle.conversion_laws.proofs.Merging.{standing-proper}
use Rattle.conversion_laws.proofs.Targets.{body_entry}
use Rattle.document_laws.specs.Laws.{AsksForFew}
use Rattle.document_laws.proofs.Proper.{documents_are_sized}
use Rattle.merged_documents.proofs.Deep.{Deep, DeepShape, both_entry, item_deep, both_targets}
use Rattle.merged_documents.proofs.ShapedRows.{row_deep}
use Rattle.merged_documents.proofs.ShapedFindings.{finding_shaped}
use Rattle.merged_documents.specs.Laws.{ReadTablesAreShaped, ReadPlansAreEmittable}
use Rattle.merged_documents.proofs.Documents.{read_tables_are_fit, read_documents_are_planned}
use Rattle.merged_documents.proofs.Entries.{IsHandedOn, entry-says}
use Rattle.merged_documents.proofs.Tables.{all-trees, all-items}

-- ---- sizes

few-of-both : (a b : Option ℕ) → ((n : ℕ) → a ≡ Some n → n < 2 ^ 32) → ((n : ℕ) → b ≡ Some n → n < 2 ^ 32) → (n : ℕ) → either max a b ≡ Some n → n < 2 ^ 32
few-of-both None b f g n e = g n e
few-of-both (Some m) None f g n e = f n e
few-of-both (Some m) (Some k) f g n e = subst (λ n. n < 2 ^ 32) (some-same (max m k) n e) (omega (arith, f m refl, g k refl))

few-kept : SizesAreKept AsksForFew
few-kept = record { of_both = λ c e x y. few-of-both c.min_items e.min_items x y; up_to = λ c most x. x }

-- ---- entries

module _ (r : Relations) (d : Document) (most n : ℕ) (proper : AllAreProper AsksForFew d) where
  abbrev Is : ℕ → Spot → Schema → Type 0
  Is i o s = IsProper AsksForFew d s

  deep-on : IsHandedOn r d most Is (λ s e. Deep e)
  deep-on = record {
    nothing = λ s. tt;
    to_parts = λ i o s h e. parts-proper AsksForFew d r s h;
    by_row = λ i o s h e conv name x. row_deep conv name (row_of r d s) (finding_shaped r d s h) x;
    in_place = λ i o s h ps e t j. (standing-proper d r most i o s ps e t j AsksForFew few-kept proper h, λ u f. f);
  }

  pub entry-deep : (o : Spot) (s : Schema) → IsProper AsksForFew d s → Deep (entry_at r d most n o s)
  entry-deep o s h = entry-says r d most Is (λ s e. Deep e) deep-on n o s h

  bodies-deep : (ds : List Definition) → AllByRecursion (λ e. IsProper AsksForFew d e.body) ds → AllByRecursion (λ e. Deep (body_entry r d most n e)) ds
  bodies-deep [] h = tt
  bodies-deep (e ∷ ds) h = (entry-deep (definition_spot r d most n e) e.body h.0, bodies-deep ds h.1)

  root-deep : Deep (root_use r d most n (refers_to_root d))
  root-deep = (all-trees r d most n Deep (entry-deep (root_spot r d most n) d.root proper.root) (λ e. tt)).0

  targets-deep : AllByRecursion (λ x. DeepShape x.led_to.shape) (table_of r d most n).targets
  targets-deep = all-items r d most n Deep (entry-deep (root_spot r d most n) d.root proper.root) (λ i. DeepShape i.shape) (λ name e x. item_deep name e x) (bodies-deep d.definitions proper.definitions)

pub read_tables_are_shaped : ReadTablesAreShaped
read_tables_are_shaped r d most n w =
    let t = table_of r d most n in
    let fit = read_tables_are_fit r d most n w in
    let proper = documents_are_sized d w in
    record {
      trees = (both_entry (Ends t) (Leads t) (root_use r d most n (refers_to_root d)) fit.trees.0 (root-deep r d most n proper), tt);
      targets = both_targets (Ends t) (Leads t) t.targets fit.targets (targets-deep r d most n proper);
    }

pub read_plans_are_emittable : ReadPlansAreEmittable
read_plans_are_emittable r d most n w =
    let p = read_documents_are_planned r d most n w in
    record { sound = p.sound; named = p.named; formed = named_tables_are_formed is_good_name (table_of r d most n) (read_tables_are_shaped r d most n w) }
