-- Where the references of a document lead in its table: the definitions come first, and then the root.
use Rattle.std.proofs.Common.{◌≡◌, ℕ, zero, suc, List, [], ◌∷◌, ◌++◌, map, length, Bool, true, false, Option, Some, None, option_map, refl, sym, ap, ◌∙◌, bytes_eq}
use Rattle.std.specs.Prelude.{if◌then◌else◌}
use Rattle.std.specs.List.{flat_map}
use Rattle.json_value.specs.Value.{Value}
use Rattle.schema_defs.specs.Texts.{Relations}
use Rattle.schema_defs.specs.Schema.{Definition, Document}
use Rattle.schema_defs.specs.Admits.{target, defined, defined_as, definition_name, is_root_reference, allowed}
use Rattle.model_defs.specs.Layer as model
use Rattle.entry_defs.specs.Entry.{Target, the_root, definition, Entry, boolean_entry, integer_entry, text_entry, native_entry, any_entry, unit_entry, option_entry, vec_entry, set_entry, map_entry, tuple_entry, array_entry, reference, item}
use Rattle.entry_defs.specs.Table.{ItemEntry, TargetEntry, Table, found, target_item, items_in, items_in_shape, allowed as entries_allowed}
use Rattle.entry_defs.specs.Layer as entry
use Rattle.entry_defs.specs.Layer.{entry_takes, shape_takes}
use Rattle.convert_defs.specs.Table.{target_of}
use Rattle.convert_defs.specs.RootReference.{refers_to_root}
use Rattle.convert_defs.specs.Convert.{as_item, root_name}
use Rattle.convert_defs.proofs.Bare.{and_true, impossible, none-some, some-same}
use Rattle.convert_walks.specs.Tree.{entry_at, definition_spot, root_entry, definition_target, root_targets, table_of}

-- an entry that is made an item takes what it took
module _ (r : Relations) (v : Value) (es : model.Parts entry.Judge) (tgt : Target → Bool) (n : List ℕ) where
  pub item-takes : (e : Entry) → entry_takes r v es tgt e ≡ shape_takes r v es tgt (as_item n e).shape
  item-takes (item l h) = refl
  item-takes boolean_entry = sym (and_true _)
  item-takes (integer_entry g) = sym (and_true _)
  item-takes text_entry = sym (and_true _)
  item-takes (native_entry f) = sym (and_true _)
  item-takes any_entry = refl
  item-takes unit_entry = sym (and_true _)
  item-takes (option_entry e) = sym (and_true _)
  item-takes (vec_entry e) = sym (and_true _)
  item-takes (set_entry e) = sym (and_true _)
  item-takes (map_entry k e) = sym (and_true _)
  item-takes (tuple_entry us) = sym (and_true _)
  item-takes (array_entry e m) = sym (and_true _)
  item-takes (reference t) = sym (and_true _)

abbrev pub added : ℕ → ℕ → ℕ
added zero m = m
added (suc k) m = suc (added k m)

module _ (r : Relations) (d : Document) (most n : ℕ) where
  abbrev pub table : Table
  table = table_of r d most n

  -- what a definition is converted to
  abbrev pub body_entry : Definition → Entry
  body_entry e = entry_at r d most n (definition_spot r d most n e) e.body

  abbrev pub made_targets : List Definition → List TargetEntry
  made_targets ds = map (definition_target r d most n) ds ++ root_targets r d most n (refers_to_root d)

  pub root-last : (ds : List Definition) (ts : List TargetEntry) → found the_root (map (definition_target r d most n) ds ++ ts) ≡ found the_root ts
  root-last [] ts = refl
  root-last (e ∷ ds) ts = root-last ds ts

  pub root-led : (b : Bool) → b ≡ true → found the_root (root_targets r d most n b) ≡ Some (as_item (root_name d.root) (root_entry r d most n))
  root-led true h = refl
  root-led false h = impossible h

  pub no-definition : (k : List ℕ) (b : Bool) → found (definition k) (root_targets r d most n b) ≡ None
  no-definition k true = refl
  no-definition k false = refl

  -- a reference without a target leads to no item
  no-item : (k : List ℕ) (ds : List Definition) → option_map (λ e. e.body) (defined k ds) ≡ None → found (definition k) (made_targets ds) ≡ None
  no-item k [] h = no-definition k (refers_to_root d)
  no-item k (e ∷ ds) h = by (bytes_eq k e.name) h (no-item k ds)
    where
      by : (b : Bool) → option_map (λ e. e.body) (if b then Some e else defined k ds) ≡ None → (option_map (λ e. e.body) (defined k ds) ≡ None → found (definition k) (made_targets ds) ≡ None)
          → (if b then Some (as_item e.name (body_entry e)) else found (definition k) (made_targets ds)) ≡ None
      by true h f = none-some e.body (sym h)
      by false h f = f h

  pub no-target : (q : List ℕ) (t : Target) → target d q ≡ None → target_of q ≡ Some t → target_item table t ≡ None
  no-target q t g h = by (is_root_reference q) (definition_name q) g h
    where
      by : (b : Bool) (o : Option (List ℕ)) → (if b then Some d.root else option_map (λ e. e.body) (defined_as d o)) ≡ None → (if b then Some the_root else option_map definition o) ≡ Some t → target_item table t ≡ None
      by true o g h = none-some d.root (sym g)
      by false None g h = none-some t h
      by false (Some k) g h = ap (target_item table) (sym (some-same (definition k) t h)) ∙ no-item k d.definitions g

  -- the table allows as many as there are definitions, and more
  at-least : (ds : List Definition) (xs : List ItemEntry) → (m : ℕ) × (length (map (λ x. x.led_to) (map (definition_target r d most n) ds) ++ xs) ≡ added (length ds) m)
  at-least [] xs = (length xs, refl)
  at-least (e ∷ ds) xs = let a = at-least ds xs in (a.0, ap suc a.1)

  abbrev inner : List ItemEntry
  inner = flat_map (λ e. items_in_shape e.led_to.shape) table.targets

  abbrev last : List ItemEntry
  last = (map (λ x. x.led_to) (root_targets r d most n (refers_to_root d)) ++ inner) ++ flat_map items_in table.trees

  split : (ds : List Definition) → ((map (λ x. x.led_to) (made_targets ds) ++ inner) ++ flat_map items_in table.trees) ≡ map (λ x. x.led_to) (map (definition_target r d most n) ds) ++ last
  split [] = refl
  split (e ∷ ds) = ap (λ is. as_item e.name (body_entry e) ∷ is) (split ds)

  pub spare : (m : ℕ) × (entries_allowed table ≡ added (allowed d) m)
  spare = let a = at-least d.definitions last in (a.0, ap suc (ap length (split d.definitions) ∙ a.1))
