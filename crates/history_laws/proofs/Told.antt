-- Trees of the tables that a space comes to stand in its entries, each at the id that was told.
use Rattle.std.proofs.Common.{◌≡◌, ℕ, List, Some, refl, subst}
use Rattle.schema_defs.specs.Location.{Location}
use Rattle.schema_defs.specs.Texts.{Relations}
use Rattle.schema_defs.specs.Schema.{Schema, Document}
use Rattle.schema_defs.specs.Children.{schema_at}
use Rattle.entry_defs.specs.Sound.{Leads}
use Rattle.entry_defs.specs.Table.{TargetEntry, Table, found}
use Rattle.naming_defs.specs.Good.{is_good_name}
use Rattle.naming_defs.proofs.Kept.{keeps-leading}
use Rattle.convert_defs.specs.Convert.{Handed, as_item}
use Rattle.convert_walks.specs.Tree.{entry_at, table_of}
use Rattle.document_laws.specs.Laws.{WasRead}
use Rattle.space_defs.specs.Held.{SpacesEmitTables}
use Rattle.space_trees.specs.Filled.{leads_in, ids_in}
use Rattle.history_laws.specs.Placing.{with_names, entries_of, with_tree}
use Rattle.history_laws.specs.Laws.{ComesAbout, by_targets, by_schema, IsHeld, AddsOne, TablesAreHeld, SchemasStand, ItemsStand, TablesAreEmitted}
use Rattle.history_laws.proofs.Standing.{table-held}
use Rattle.history_laws.proofs.Targeted.{alone, leads-there}
use Rattle.history_laws.proofs.Adding.{adds-one}
use Rattle.history_laws.proofs.LedTo.{led-at}
use Rattle.history_laws.proofs.Coming.{added-entry, is-fit, is-sound, is-formed}

-- ---- the tables that a space comes to

module _ (r : Relations) (d : Document) (depth n : ℕ) (w : WasRead d) where
  is-held : (t : Table) → ComesAbout r d depth n t → IsHeld t
  is-held t c =
      let formed = is-formed r d depth n t c in
      table-held (with_names t) (leads-there (with_names t)) (is-sound r d depth n w t c) formed (alone t (is-fit r d depth n w t c) formed)

  schema-stands : (t : Table) → ComesAbout r d depth n t → (at : Location) (h : Handed) (s : Schema) → schema_at d at ≡ Some s → AddsOne t (added-entry r d depth n at h s)
  schema-stands t c at h s e =
      let u = with_tree t (added-entry r d depth n at h s) in
      let b : ComesAbout r d depth n u = by_schema t at h s c e in
      adds-one t (added-entry r d depth n at h s) (is-sound r d depth n w u b) (is-formed r d depth n u b) (is-held t c)

pub tables_are_held : TablesAreHeld
tables_are_held r d depth n w t c = is-held r d depth n w t c

pub schemas_stand : SchemasStand
schemas_stand r d depth n w t c at h s e = schema-stands r d depth n w t c at h s e

pub tables_are_emitted : SpacesEmitTables → TablesAreEmitted
tables_are_emitted law r d depth n w t c e root st = law (leads_in (with_names t)) (entries_of t) (with_names t) (is-held r d depth n w t c) e root st

-- ---- the items that references lead to

same-targets : (r : Relations) (d : Document) (depth n : ℕ) (t : Table) → ComesAbout r d depth n t → (table_of r d depth n).targets ≡ t.targets
same-targets r d depth n _ by_targets = refl
same-targets r d depth n _ (by_schema t at h s c e) = same-targets r d depth n t c

pub items_stand : ItemsStand
items_stand r d depth n w t c at q e =
    let x = led-at r d depth n (λ o s. Unit {0}) (λ e. tt) (λ e h. tt) at q e in
    let l : Leads t q = (_, subst (λ (ts : List TargetEntry). found q ts ≡ Some (as_item x.2 (entry_at r d depth n x.3 x.0))) (same-targets r d depth n t c) x.4) in
    (is-held r d depth n w t c).led q (ids_in (with_names t) q) (leads-there (with_names t) q (keeps-leading is_good_name t q l))
