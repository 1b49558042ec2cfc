-- What is said of a document's table: of its trees, where it is said of the entries of the root and of the definitions, and of its items.
use Rattle.std.proofs.Common.{ℕ, ◌≡◌, List, [], ◌∷◌, ◌++◌, map, Bool, true, false, refl}
use Rattle.std.specs.List.{AllByRecursion}
use Rattle.schema_defs.specs.Texts.{Relations}
use Rattle.schema_defs.specs.Schema.{Definition, Document}
use Rattle.entry_defs.specs.Entry.{the_root, Entry, reference}
use Rattle.entry_defs.specs.Table.{ItemEntry}
use Rattle.convert_defs.specs.RootReference.{refers_to_root}
use Rattle.convert_defs.specs.Convert.{as_item, root_name}
use Rattle.convert_walks.specs.Tree.{root_entry, definition_target, root_targets, root_use, table_of}
use Rattle.conversion_laws.proofs.Targets.{body_entry}

module _ (r : Relations) (d : Document) (most n : ℕ) (Says : Entry → Type 0) (root : Says (root_entry r d most n)) where
  by-root : (b : Bool) → refers_to_root d ≡ b → (refers_to_root d ≡ true → Says (reference the_root)) → Says (root_use r d most n b)
  by-root true e f = f e
  by-root false e f = root

  -- the root's tree leads to it, where some reference does
  pub all-trees : (refers_to_root d ≡ true → Says (reference the_root)) → AllByRecursion Says (table_of r d most n).trees
  all-trees f = (by-root (refers_to_root d) refl f, tt)

  module _ (OfItem : ItemEntry → Type 0) (as-item : (name : List ℕ) (e : Entry) → Says e → OfItem (as_item name e)) where
    root-items : (b : Bool) → AllByRecursion (λ x. OfItem x.led_to) (root_targets r d most n b)
    root-items true = (as-item (root_name d.root) (root_entry r d most n) root, tt)
    root-items false = tt

    items-of : (ds : List Definition) → AllByRecursion (λ e. Says (body_entry r d most n e)) ds → AllByRecursion (λ x. OfItem x.led_to) (map (definition_target r d most n) ds ++ root_targets r d most n (refers_to_root d))
    items-of [] h = root-items (refers_to_root d)
    items-of (e ∷ ds) h = (as-item e.name (body_entry r d most n e) h.0, items-of ds h.1)

    pub all-items : AllByRecursion (λ e. Says (body_entry r d most n e)) d.definitions → AllByRecursion (λ x. OfItem x.led_to) (table_of r d most n).targets
    all-items h = items-of d.definitions h
