-- The names of the definitions' items, given one after another.
use Rattle.std.proofs.Common.{◌≡◌, ℕ, ◌+◌, Bool, true, false, List, [], ◌∷◌, ◌++◌, map, length, bytes_eq, refl, ap, sym, subst, ◌∙◌, append_assoc, append-nil}
use Rattle.std.specs.List.{flat_map, IsDistinct}
use Rattle.std.proofs.lemmas.List.{map-append}
use Rattle.schema_defs.specs.Texts.{Relations}
use Rattle.schema_defs.specs.Schema.{Document, Definition}
use Rattle.entry_defs.specs.Entry.{definition, the_root, Entry, boolean_entry, integer_entry, text_entry, native_entry, any_entry, unit_entry, option_entry, vec_entry, set_entry, map_entry, tuple_entry, array_entry, reference, item}
use Rattle.entry_defs.specs.Table.{ItemEntry, TargetEntry, Table, root_of, items_in, items_in_shape, items_of}
use Rattle.naming_defs.specs.Names.{Names, is_value, taking, item_name, named_shape, named_targets, after_targets, keys, named_table}
use Rattle.naming_defs.specs.Good.{is_good_name}
use Rattle.naming_defs.proofs.Fresh.{names-distinct}
use Rattle.emit_defs.specs.Setting.{Setting, setting_of}
use Rattle.emit_defs.specs.Models.{shape_defaults}
use Rattle.emit_defs.specs.Trees.{item_trees}
use Rattle.convert_defs.specs.Convert.{as_item}
use Rattle.convert_walks.specs.Tree.{entry_at, definition_spot, definition_target, root_targets, table_of}
use Rattle.convert_defs.specs.RootReference.{refers_to_root}
use Rattle.merged_documents.specs.Laws.{plan_of}
use Rattle.item_docs.specs.Docs.{names_in, definition_docs}
use Rattle.doc_laws.specs.Laws.{doc_names, item_names, DocsHaveItemsNames, ItemNamesDiffer}
use Rattle.doc_laws.proofs.Alike.{Alike, taking_alike, name_alike}

-- ---- names that targets are given

abbrev given : Names → Names → List TargetEntry → Names
given beside first [] = []
given beside first (x ∷ xs) = item_name is_good_name beside first x.led_to.name ∷ given beside (taking (is_value x.led_to.shape) (item_name is_good_name beside first x.led_to.name) first) xs

names_given : (beside first : Names) (xs : List TargetEntry) (t : Names) → map (λ x. x.led_to.name) (named_targets is_good_name beside first xs t).1 ≡ given beside first xs
names_given beside first [] t = refl
names_given beside first (x ∷ xs) t =
    let n = item_name is_good_name beside first x.led_to.name in
    ap (λ z. n ∷ z) (names_given beside (taking (is_value x.led_to.shape) n first) xs (named_shape is_good_name beside x.led_to.shape t).0)

item_name_kept : (n : List ℕ) (e : Entry) → (as_item n e).name ≡ n
item_name_kept n boolean_entry = refl
item_name_kept n (integer_entry i) = refl
item_name_kept n text_entry = refl
item_name_kept n (native_entry f) = refl
item_name_kept n any_entry = refl
item_name_kept n unit_entry = refl
item_name_kept n (option_entry e) = refl
item_name_kept n (vec_entry e) = refl
item_name_kept n (set_entry e) = refl
item_name_kept n (map_entry k e) = refl
item_name_kept n (tuple_entry es) = refl
item_name_kept n (array_entry e k) = refl
item_name_kept n (reference q) = refl
item_name_kept n (item m h) = refl

-- ---- those of a document

module _ (r : Relations) (d : Document) (most n : ℕ) where
  abbrev targets_of : List Definition → List TargetEntry
  targets_of ds = map (definition_target r d most n) ds

  abbrev names_of : List Definition → Names
  names_of ds = map (λ e. e.name) ds

  keys_are : (ds : List Definition) (b : Bool) → keys is_good_name (targets_of ds ++ root_targets r d most n b) ≡ names_of ds
  keys_are [] true = refl
  keys_are [] false = refl
  keys_are (e ∷ ds) b = ap (λ z. e.name ∷ z) (keys_are ds b)

  -- docs are told by these
  same : (beside : Names) (ds : List Definition) (rest : List TargetEntry) (taken first : Names) → Alike taken first
      → (more : Names) × (map (λ x. x.item) (definition_docs d beside taken (names_of ds)) ++ more ≡ given beside first (targets_of ds ++ rest))
  same beside [] rest taken first a = (given beside first rest, refl)
  same beside (e ∷ ds) rest taken first a =
      let x = definition_target r d most n e in
      let v = is_value x.led_to.shape in
      let m = item_name is_good_name beside taken e.name in
      let k = item_name is_good_name beside first x.led_to.name in
      let kept : x.led_to.name ≡ e.name = item_name_kept e.name (entry_at r d most n (definition_spot r d most n e) e.body) in
      let one : m ≡ k = name_alike beside taken first e.name a ∙ ap (item_name is_good_name beside first) (sym kept) in
      let A : List ℕ → Type 0 = λ z. Alike (m ∷ taken) (taking v z first) in
      let rec = same beside ds rest (m ∷ taken) (taking v k first) (subst A one (taking_alike v m taken first a)) in
      (rec.0, λ i. one i ∷ rec.1 i)

-- ---- the items that are emitted

trees_named : (s : Setting) (is : List ItemEntry) (k : ℕ) → map (λ i. i.name.text) (item_trees s k is) ≡ map (λ i. i.name) is
trees_named s [] k = refl
trees_named s (i ∷ is) k = ap (λ z. i.name ∷ z) (trees_named s is (k + length (shape_defaults i.shape)))

led_named : (xs : List TargetEntry) → map (λ i. i.name) (map (λ x. x.led_to) xs) ≡ map (λ x. x.led_to.name) xs
led_named [] = refl
led_named (x ∷ xs) = ap (λ z. x.led_to.name ∷ z) (led_named xs)

pub docs_have_items_names : DocsHaveItemsNames
docs_have_items_names r d most n =
    let t = table_of r d most n in
    let p = plan_of r d most n in
    let beside = keys is_good_name t.targets in
    let led : List ItemEntry = map (λ x. x.led_to) p.targets in
    let inner : List ItemEntry = flat_map (λ x. items_in_shape x.led_to.shape) p.targets in
    let trees : List ItemEntry = flat_map items_in p.trees in
    let others : List ItemEntry = inner ++ trees in
    let own : beside ≡ names_in d = keys_are r d most n d.definitions (refers_to_root d) in
    let told = same r d most n beside d.definitions (root_targets r d most n (refers_to_root d)) [] [] (λ m g. refl) in
    let first : map (λ x. x.led_to.name) p.targets ≡ given beside [] t.targets = names_given beside [] t.targets (after_targets is_good_name beside [] t.targets) in (
      told.0 ++ map (λ i. i.name) others,
      sym (append_assoc (doc_names d) told.0 (map (λ i. i.name) others))
          ∙ ap (λ z. (map (λ x. x.item) (definition_docs d z [] (names_in d)) ++ told.0) ++ map (λ i. i.name) others) (sym own)
          ∙ ap (λ z. z ++ map (λ i. i.name) others) (told.1 ∙ sym first ∙ sym (led_named p.targets))
          ∙ sym (map-append (λ i. i.name) led others)
          ∙ ap (λ z. map (λ i. i.name) z) (sym (append_assoc led inner trees))
          ∙ sym (trees_named (setting_of p) (items_of p) 0),
    )

pub item_names_differ : ItemNamesDiffer
item_names_differ r d most n =
    let p = plan_of r d most n in
    subst (IsDistinct bytes_eq) (sym (trees_named (setting_of p) (items_of p) 0)) (names-distinct is_good_name (table_of r d most n))
