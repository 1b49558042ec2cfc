-- The tables that a space comes to: each of their trees is the entry of a schema of the document, and so they are fit, formed and as emission asks.
use Rattle.std.proofs.Common.{◌≡◌, ℕ, List, [], ◌∷◌, ◌++◌, true, Some, refl, sym, ap, subst}
use Rattle.std.specs.List.{AllByRecursion}
use Rattle.schema_defs.specs.Location.{Location}
use Rattle.schema_defs.specs.Texts.{Relations}
use Rattle.schema_defs.specs.Schema.{Schema, Document}
use Rattle.schema_defs.specs.Children.{schema_at}
use Rattle.entry_defs.specs.Entry.{Entry}
use Rattle.entry_defs.specs.Ends.{Ends}
use Rattle.entry_defs.specs.Sound.{Each, Leads, IsSound}
use Rattle.entry_defs.specs.Table.{Table}
use Rattle.naming_defs.specs.Good.{is_good_name}
use Rattle.naming_defs.specs.Laws.{IsFit}
use Rattle.naming_defs.proofs.Fresh.{names_are_good}
use Rattle.naming_defs.proofs.Good.{numbered_names_are_good}
use Rattle.naming_defs.proofs.Sound.{named_tables_are_sound}
use Rattle.emit_defs.specs.Formed.{EntryIsFormed, Shaped, Anywhere, IsShaped, IsEmittable}
use Rattle.emit_defs.proofs.Named.{named_tables_are_formed}
use Rattle.convert_defs.specs.Convert.{Handed}
use Rattle.each_schema.specs.Each.{of_any_size}
use Rattle.convert_walks.specs.Tree.{entry_at, table_of}
use Rattle.document_laws.specs.Laws.{WasRead, AsksForFew}
use Rattle.document_laws.proofs.Proper.{documents_are_proper, documents_are_sized}
use Rattle.space_trees.specs.Formed.{rest_is_wanted, is_formed_by, IsFormed}
use Rattle.merged_documents.proofs.Deep.{both_entry}
use Rattle.merged_documents.proofs.Documents.{read_tables_are_fit}
use Rattle.merged_documents.proofs.Fit.{entry-said}
use Rattle.merged_documents.proofs.Shaped.{entry-deep, read_tables_are_shaped}
use Rattle.formed_plans.proofs.NamedForm.{table-named}
use Rattle.formed_plans.proofs.Plans.{entry-fine, table-fine}
use Rattle.history_laws.specs.Placing.{with_names, with_tree}
use Rattle.history_laws.specs.Added.{begins_at}
use Rattle.history_laws.specs.Laws.{ComesAbout, by_targets, by_schema, TablesAreFit, TablesAreEmittable, TablesAreFormed}
use Rattle.history_laws.proofs.Fitting.{fit-with}
use Rattle.history_laws.proofs.Located.{proper-at}

pub all-more : (P : Entry → Type 0) (es : List Entry) (e : Entry) → AllByRecursion P es → P e → AllByRecursion P (es ++ e ∷ [])
all-more P [] e h x = (x, tt)
all-more P (y ∷ es) e h x = (h.0, all-more P es e h.1 x)

module _ (r : Relations) (d : Document) (depth n : ℕ) where
  abbrev own : Table
  own = table_of r d depth n

  abbrev pub added-entry : Location → Handed → Schema → Entry
  added-entry at h s = entry_at r d depth n (begins_at at h) s

  -- the items of the document's own table, and trees of which all holds that holds of the entries of its schemas
  abbrev Came : (Entry → Type 0) → Table → Type 0
  Came P t = (es : List Entry) × (t ≡ record { targets = own.targets; trees = es }) × AllByRecursion P es

  came : (P : Entry → Type 0) → ((at : Location) (h : Handed) (s : Schema) → schema_at d at ≡ Some s → P (added-entry at h s)) → (t : Table) → ComesAbout r d depth n t → Came P t
  came P f _ by_targets = ([], refl, tt)
  came P f _ (by_schema t at h s c e) =
      let x = came P f t c in
      let y = added-entry at h s in
      (x.0 ++ y ∷ [], ap (λ (u : Table). with_tree u y) x.1, all-more P x.0 y x.2 (f at h s e))

  pub came-of : (t : Table) → ComesAbout r d depth n t → (es : List Entry) × (t ≡ record { targets = own.targets; trees = es })
  came-of t c = let x = came (λ e. Unit {0}) (λ at h s e. tt) t c in (x.0, x.1)

  module _ (w : WasRead d) where
    abbrev IsSaid : Entry → Type 0
    IsSaid e = Each (Ends own) (Leads own) e

    schema-said : (at : Location) (h : Handed) (s : Schema) → schema_at d at ≡ Some s → IsSaid (added-entry at h s)
    schema-said at h s e =
        let proper = documents_are_proper d w in
        (entry-said r d depth n proper w.read.guarded (begins_at at h) s (proper-at of_any_size d proper at s e)).0

    pub is-fit : (t : Table) → ComesAbout r d depth n t → IsFit t
    is-fit t c =
        let x = came IsSaid schema-said t c in
        subst IsFit (sym x.1) (fit-with own.targets own.trees x.0 (read_tables_are_fit r d depth n w) x.2)

    abbrev AsAsked : Entry → Type 0
    AsAsked e = EntryIsFormed e × Each Shaped Anywhere e

    schema-shaped : (at : Location) (h : Handed) (s : Schema) → schema_at d at ≡ Some s → AsAsked (added-entry at h s)
    schema-shaped at h s e =
        let sized = documents_are_sized d w in
        both_entry (Ends own) (Leads own) (added-entry at h s) (schema-said at h s e) (entry-deep r d depth n sized (begins_at at h) s (proper-at AsksForFew d sized at s e))

    is-shaped : (t : Table) → ComesAbout r d depth n t → IsShaped t
    is-shaped t c =
        let x = came AsAsked schema-shaped t c in
        subst IsShaped (sym x.1) (record { trees = x.2; targets = (read_tables_are_shaped r d depth n w).targets })

    pub is-sound : (t : Table) → ComesAbout r d depth n t → IsSound (with_names t)
    is-sound t c = named_tables_are_sound is_good_name t (is-fit t c)

    is-emittable : (t : Table) → ComesAbout r d depth n t → IsEmittable (with_names t)
    is-emittable t c = record { sound = is-sound t c; named = names_are_good is_good_name t numbered_names_are_good; formed = named_tables_are_formed is_good_name t (is-shaped t c) }

  abbrev Wanted : Entry → Type 0
  Wanted e = is_formed_by rest_is_wanted e ≡ true

  pub is-formed : (t : Table) → ComesAbout r d depth n t → IsFormed (with_names t)
  is-formed t c =
      let x = came Wanted (λ at h s e. entry-fine r d depth n (begins_at at h) s) t c in
      subst (λ (u : Table). IsFormed (with_names u)) (sym x.1) (table-named (record { targets = own.targets; trees = x.0 }) (record { trees = x.2; targets = (table-fine r d depth n).targets }))

pub tables_are_fit : TablesAreFit
tables_are_fit r d depth n w t c = is-fit r d depth n w t c

pub tables_are_emittable : TablesAreEmittable
tables_are_emittable r d depth n w t c = is-emittable r d depth n w t c

pub tables_are_formed : TablesAreFormed
tables_are_formed r d depth n w t c = is-formed r d depth n t c
