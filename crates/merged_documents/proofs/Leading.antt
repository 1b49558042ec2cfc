-- A reference of the document leads to an item of its table.
use Rattle.std.proofs.Common.{ℕ, ◌≡◌, List, [], ◌∷◌, Bool, true, false, Option, Some, None, option_map, refl, sym, ap, ◌∙◌, bytes_eq}
use Rattle.std.specs.Prelude.{is_some, if◌then◌else◌}
use Rattle.schema_defs.specs.Texts.{Relations}
use Rattle.schema_defs.specs.Schema.{Definition, Document}
use Rattle.schema_defs.specs.Admits.{target, defined, defined_as, definition_name, is_root_reference}
use Rattle.entry_defs.specs.Entry.{Target, the_root, definition}
use Rattle.entry_defs.specs.Table.{ItemEntry, found, target_item}
use Rattle.entry_defs.specs.Sound.{Leads}
use Rattle.convert_defs.specs.Table.{target_of}
use Rattle.convert_defs.specs.RootReference.{refers_to_root}
use Rattle.convert_defs.specs.Convert.{as_item, root_name}
use Rattle.convert_defs.proofs.Bare.{impossible, none-some, some-same}
use Rattle.convert_walks.specs.Tree.{root_entry, root_targets}
use Rattle.conversion_laws.proofs.Targets.{table, body_entry, made_targets, root-last, root-led}

module _ (r : Relations) (d : Document) (most n : ℕ) where
  an-item : (k : List ℕ) (ds : List Definition) → is_some (option_map (λ e. e.body) (defined k ds)) ≡ true → (i : ItemEntry) × (found (definition k) (made_targets r d most n ds) ≡ Some i)
  an-item k [] h = impossible h
  an-item k (e ∷ ds) h = by (bytes_eq k e.name) h (an-item k ds)
    where
      by : (b : Bool) → is_some (option_map (λ e. e.body) (if b then Some e else defined k ds)) ≡ true
          → (is_some (option_map (λ e. e.body) (defined k ds)) ≡ true → (i : ItemEntry) × (found (definition k) (made_targets r d most n ds) ≡ Some i))
          → (i : ItemEntry) × ((if b then Some (as_item e.name (body_entry r d most n e)) else found (definition k) (made_targets r d most n ds)) ≡ Some i)
      by true h f = (as_item e.name (body_entry r d most n e), refl)
      by false h f = f h

  -- where the root is referred to
  pub root-leads : refers_to_root d ≡ true → Leads (table r d most n) the_root
  root-leads h = (as_item (root_name d.root) (root_entry r d most n), root-last r d most n d.definitions (root_targets r d most n (refers_to_root d)) ∙ root-led r d most n (refers_to_root d) h)

  pub leads-on : (q : List ℕ) (t : Target) → (is_root_reference q ≡ true → refers_to_root d ≡ true) → is_some (target d q) ≡ true → target_of q ≡ Some t → Leads (table r d most n) t
  leads-on q t known g h = by (is_root_reference q) (definition_name q) known g h
    where
      by : (b : Bool) (o : Option (List ℕ)) → (b ≡ true → refers_to_root d ≡ true) → is_some (if b then Some d.root else option_map (λ e. e.body) (defined_as d o)) ≡ true
          → (if b then Some the_root else option_map definition o) ≡ Some t → Leads (table r d most n) t
      by true o k g h = let a = root-leads (k refl) in (a.0, ap (target_item (table r d most n)) (sym (some-same the_root t h)) ∙ a.1)
      by false None k g h = none-some t h
      by false (Some m) k g h = let a = an-item m d.definitions g in (a.0, ap (target_item (table r d most n)) (sym (some-same (definition m) t h)) ∙ a.1)
