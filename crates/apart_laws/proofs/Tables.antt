-- The named table of a document that was read lists scalars, and names of its tagged variants differ.
use Rattle.std.proofs.Common.{◌≡◌, ℕ, List, [], ◌∷◌, ◌++◌, map, Bool, true, ◌&&◌, not, Some, None, bytes_eq, refl, ap, ◌∙◌, subst, inl, inr}
use Rattle.std.specs.List.{list_all, flat_map, AllByRecursion}
use Rattle.schema_defs.specs.Texts.{Relations}
use Rattle.schema_defs.specs.Schema.{Schema, Definition, Document}
use Rattle.model_defs.specs.Model.{TagModel, external_tag, internal_tag, adjacent_tag, untagged, RuleD, ConstraintD}
use Rattle.writing_laws.specs.Tables.{lists_scalars}
use Rattle.entry_defs.specs.Entry.{Target, Entry, Shape, struct_shape, enum_shape, newtype_shape, Variants, no_variants, variant_then, variants_of}
use Rattle.entry_defs.specs.Table.{ItemEntry, TargetEntry, items_in, items_in_shape, items_of, Among}
use Rattle.entry_defs.specs.Sound.{Any, Each, EachInShape, Leads}
use Rattle.entry_defs.specs.Ends.{Ends}
use Rattle.entry_defs.proofs.Each.{each_entry, each_in_shape, in_entry, in_shape, each_weaker, weaker_shape}
use Rattle.naming_defs.specs.Names.{Names, name_by, variant_name, variant_names, identified_variants, is_value, taking, named, named_shape, named_variants, named_contents, item_name, keys, after_targets, named_targets, named_trees}
use Rattle.naming_defs.specs.Good.{is_good_name}
use Rattle.naming_defs.proofs.Kept.{each-named, each-shape}
use Rattle.emit_defs.specs.Formed.{Anywhere}
use Rattle.emit_defs.specs.Models.{shape_rules, item_constraints}
use Rattle.convert_defs.specs.Row.{Part, row_parts}
use Rattle.convert_defs.specs.Table.{row_of}
use Rattle.convert_defs.proofs.Bare.{and_left, and_right}
use Rattle.convert_defs.proofs.Views.{AllParts}
use Rattle.convert_walks.specs.Spot.{Spot}
use Rattle.convert_walks.specs.Tree.{entry_at, definition_spot, root_spot, table_of}
use Rattle.conversion_laws.proofs.Targets.{body_entry}
use Rattle.merged_documents.specs.Laws.{plan_of}
use Rattle.merged_documents.proofs.Documents.{read_tables_are_fit}
use Rattle.merged_documents.proofs.Entries.{IsHandedOn, entry-says}
use Rattle.merged_documents.proofs.Tables.{all-trees, all-items}
use Rattle.emitted_back.specs.Laws.{variants_differ, tagged_differ, variant_names_differ}
use Rattle.emitted_back.proofs.Fields.{both}
use Rattle.apart_laws.specs.Laws.{PlansListScalars, PlansAreWrittenApart}
use Rattle.apart_laws.proofs.Items.{IsApart, AllApart, Within, ItemWithin, item_within}
use Rattle.apart_laws.proofs.Rows.{row_within}
use Rattle.apart_laws.proofs.Findings.{finding_apart}

-- ---- entries

module _ (r : Relations) (d : Document) (most n : ℕ) where
  -- of each schema
  abbrev Always : ℕ → Spot → Schema → Type 0
  Always i o s = Unit {0}

  handed : IsHandedOn r d most Always (λ s e. Within e)
  handed = record {
    nothing = λ s. tt;
    to_parts = λ i o s h e. all_always (row_parts (row_of r d s));
    by_row = λ i o s h e conv name x. row_within conv name (row_of r d s) (finding_apart r d s) x;
    in_place = λ i o s h ps e t j. (tt, λ u f. f);
  }
    where
      all_always : (ps : List Part) → AllParts (λ p. Unit {0}) ps
      all_always [] = tt
      all_always (p ∷ ps) = (tt, all_always ps)

  entry_within : (o : Spot) (s : Schema) → Within (entry_at r d most n o s)
  entry_within o s = entry-says r d most Always (λ s e. Within e) handed n o s tt

  bodies_within : (ds : List Definition) → AllByRecursion (λ e. Within (body_entry r d most n e)) ds
  bodies_within [] = tt
  bodies_within (e ∷ ds) = (entry_within (definition_spot r d most n e) e.body, bodies_within ds)

  trees_within : AllByRecursion Within (table_of r d most n).trees
  trees_within = all-trees r d most n Within (entry_within (root_spot r d most n) d.root) (λ e. tt)

  targets_within : AllByRecursion (λ x. ItemWithin x.led_to) (table_of r d most n).targets
  targets_within = all-items r d most n Within (entry_within (root_spot r d most n) d.root) ItemWithin item_within (bodies_within d.definitions)

-- ---- names keep it

abbrev OfItem : List ℕ → Shape → Type 0
OfItem n h = IsApart h

module _ (is_good : List ℕ → Bool) where
  -- where the names of variants are kept
  module _ (tag : TagModel) (kept : (m n : List ℕ) → name_by tag m n ≡ n) where
    none_identified : (x : List ℕ) (taken beside : Names) (ws : Variants)
        → list_all (λ u. not (bytes_eq u.name x)) (variants_of (identified_variants is_good tag taken beside ws)) ≡ list_all (λ u. not (bytes_eq u.name x)) (variants_of ws)
    none_identified x taken beside no_variants = refl
    none_identified x taken beside (variant_then i n c ws) =
        let a = kept (variant_name is_good tag taken beside n) n in
        let b = none_identified x (variant_name is_good tag taken beside n ∷ taken) beside ws in
        λ k. not (bytes_eq (a k) x) && b k

    differ_identified : (taken beside : Names) (ws : Variants) → variants_differ (variants_of (identified_variants is_good tag taken beside ws)) ≡ variants_differ (variants_of ws)
    differ_identified taken beside no_variants = refl
    differ_identified taken beside (variant_then i n c ws) =
        let m = variant_name is_good tag taken beside n in
        let a = ap (λ x. list_all (λ u. not (bytes_eq u.name x)) (variants_of (identified_variants is_good tag (m ∷ taken) beside ws))) (kept m n) ∙ none_identified n (m ∷ taken) beside ws in
        let b = differ_identified (m ∷ taken) beside ws in
        λ k. a k && b k

  module _ (beside : Names) where
    none_named : (x : List ℕ) (ws : Variants) (t : Names) → list_all (λ u. not (bytes_eq u.name x)) (variants_of (named_variants is_good beside ws t).1) ≡ list_all (λ u. not (bytes_eq u.name x)) (variants_of ws)
    none_named x no_variants t = refl
    none_named x (variant_then i n c ws) t = ap (λ b. not (bytes_eq n x) && b) (none_named x ws (named_contents is_good beside c t).0)

    differ_named : (ws : Variants) (t : Names) → variants_differ (variants_of (named_variants is_good beside ws t).1) ≡ variants_differ (variants_of ws)
    differ_named no_variants t = refl
    differ_named (variant_then i n c ws) t =
        let a = none_named n ws (named_contents is_good beside c t).0 in
        let b = differ_named ws (named_contents is_good beside c t).0 in
        λ k. a k && b k

    both_named : (tag : TagModel) → ((m n : List ℕ) → name_by tag m n ≡ n) → (ws : Variants) (t : Names)
        → variants_differ (variants_of (identified_variants is_good tag [] (variant_names ws) (named_variants is_good beside ws t).1)) ≡ variants_differ (variants_of ws)
    both_named tag kept ws t = differ_identified tag kept [] (variant_names ws) (named_variants is_good beside ws t).1 ∙ differ_named ws t

    tag_named : (tag : TagModel) (ws : Variants) (t : Names) → tagged_differ tag (identified_variants is_good tag [] (variant_names ws) (named_variants is_good beside ws t).1) ≡ tagged_differ tag ws
    tag_named external_tag ws t = both_named external_tag (λ m n. refl) ws t
    tag_named (internal_tag x) ws t = both_named (internal_tag x) (λ m n. refl) ws t
    tag_named (adjacent_tag x y) ws t = both_named (adjacent_tag x y) (λ m n. refl) ws t
    tag_named untagged ws t = refl

    shape_named : (h : Shape) (t : Names) → IsApart h → IsApart (named_shape is_good beside h t).1
    shape_named (struct_shape closed fs) t x = record { variants = refl; rules = refl }
    shape_named (enum_shape closed tag ws) t x = record { variants = tag_named tag ws t ∙ x.variants; rules = refl }
    shape_named (newtype_shape e None) t x = record { variants = refl; rules = refl }
    shape_named (newtype_shape e (Some u)) t x = record { variants = refl; rules = x.rules }

    of_item : (n m : List ℕ) (h : Shape) (t : Names) → OfItem n h → OfItem m (named_shape is_good beside h t).1
    of_item n m h t x = shape_named h t x

    abbrev EachApart : Entry → Type 0
    EachApart e = Each OfItem Anywhere e

    abbrev TargetApart : TargetEntry → Type 0
    TargetApart x = IsApart x.led_to.shape × EachInShape OfItem Anywhere x.led_to.shape

    trees_named : (es : List Entry) (t : Names) → AllByRecursion EachApart es → AllByRecursion EachApart (named_trees is_good beside es t).1
    trees_named [] t h = tt
    trees_named (e ∷ es) t h = (each-named is_good beside OfItem OfItem Anywhere Anywhere of_item (λ q x. x) e t h.0, trees_named es (named is_good beside e t).0 h.1)

    targets_named : (first : Names) (xs : List TargetEntry) (t : Names) → AllByRecursion TargetApart xs → AllByRecursion TargetApart (named_targets is_good beside first xs t).1
    targets_named first [] t h = tt
    targets_named first (x ∷ xs) t h =
        let n = item_name is_good beside first x.led_to.name in (
          (shape_named x.led_to.shape t h.0.0, each-shape is_good beside OfItem OfItem Anywhere Anywhere of_item (λ q x. x) x.led_to.shape t h.0.1),
          targets_named (taking (is_value x.led_to.shape) n first) xs (named_shape is_good beside x.led_to.shape t).0 h.1,
        )

-- ---- the items of a table

abbrev IsOk : ItemEntry → Type 0
IsOk i = IsApart i.shape

holds : (is : List ItemEntry) → AllApart is → (i : ItemEntry) → Among i is → IsOk i
holds [] h i a = absurd a
holds (x ∷ is) h i (inl e) = subst IsOk e h.0
holds (x ∷ is) h i (inr a) = holds is h.1 i a

all_among : (xs : List ItemEntry) → ((i : ItemEntry) → Among i xs → IsOk i) → AllApart xs
all_among [] f = tt
all_among (x ∷ xs) f = (f x (inl refl), all_among xs (λ i a. f i (inr a)))

split : (i : ItemEntry) (xs ys : List ItemEntry) → (Among i xs → IsOk i) → (Among i ys → IsOk i) → Among i (xs ++ ys) → IsOk i
split i [] ys f g a = g a
split i (x ∷ xs) ys f g (inl e) = f (inl e)
split i (x ∷ xs) ys f g (inr a) = split i xs ys (λ b. f (inr b)) g a

of_led : (xs : List TargetEntry) → AllByRecursion (λ x. IsApart x.led_to.shape × EachInShape OfItem Anywhere x.led_to.shape) xs → (i : ItemEntry) → Among i (map (λ x. x.led_to) xs) → IsOk i
of_led [] h i a = absurd a
of_led (x ∷ xs) h i (inl e) = subst IsOk e h.0.0
of_led (x ∷ xs) h i (inr a) = of_led xs h.1 i a

of_inner : (xs : List TargetEntry) → AllByRecursion (λ x. IsApart x.led_to.shape × EachInShape OfItem Anywhere x.led_to.shape) xs → (i : ItemEntry) → Among i (flat_map (λ x. items_in_shape x.led_to.shape) xs) → IsOk i
of_inner [] h i a = absurd a
of_inner (x ∷ xs) h i a = split i (items_in_shape x.led_to.shape) (flat_map (λ x. items_in_shape x.led_to.shape) xs) (λ b. (in_shape OfItem Anywhere x.led_to.shape h.0.1 i b).0) (of_inner xs h.1 i) a

of_trees : (es : List Entry) → AllByRecursion (λ e. Each OfItem Anywhere e) es → (i : ItemEntry) → Among i (flat_map items_in es) → IsOk i
of_trees [] h i a = absurd a
of_trees (e ∷ es) h i a = split i (items_in e) (flat_map items_in es) (λ b. (in_entry OfItem Anywhere e h.0 i b).0) (of_trees es h.1 i) a

-- what holds of each item, once it is said by entries
module _ (P : List ℕ → Shape → Type 0) (Q : Target → Type 0) where
  each_apart : (e : Entry) → Each P Q e → Within e → Each OfItem Anywhere e
  each_apart e x h = each_entry OfItem Anywhere e (holds (items_in e) h) (each_weaker P Any Q Anywhere (λ n h p. tt) (λ q p. tt) e x)

  shape_apart : (h : Shape) → EachInShape P Q h → AllApart (items_in_shape h) → EachInShape OfItem Anywhere h
  shape_apart h x a = each_in_shape OfItem Anywhere h (holds (items_in_shape h) a) (weaker_shape P Any Q Anywhere (λ n h p. tt) (λ q p. tt) h x)

  trees_each : (es : List Entry) → AllByRecursion (λ e. Each P Q e) es → AllByRecursion Within es → AllByRecursion (λ e. Each OfItem Anywhere e) es
  trees_each [] x h = tt
  trees_each (e ∷ es) x h = (each_apart e x.0 h.0, trees_each es x.1 h.1)

  targets_each : (xs : List TargetEntry) → AllByRecursion (λ x. P x.led_to.name x.led_to.shape × EachInShape P Q x.led_to.shape) xs → AllByRecursion (λ x. ItemWithin x.led_to) xs
      → AllByRecursion (λ x. IsApart x.led_to.shape × EachInShape OfItem Anywhere x.led_to.shape) xs
  targets_each [] x h = tt
  targets_each (e ∷ es) x h = ((h.0.0, shape_apart e.led_to.shape x.0.1 h.0.1), targets_each es x.1 h.1)

-- ---- what the law says

abbrev NamesDiffer : ItemEntry → Type 0
NamesDiffer i = variant_names_differ i.shape ≡ true

all_differ : (is : List ItemEntry) → AllApart is → AllByRecursion NamesDiffer is
all_differ [] h = tt
all_differ (i ∷ is) h = (h.0.variants, all_differ is h.1)

of_item_rules : (n : List ℕ) (us : List RuleD) (rest : List ConstraintD) → list_all lists_scalars us ≡ true → list_all (λ c. lists_scalars c.rule) rest ≡ true
    → list_all (λ c. lists_scalars c.rule) (map (λ u. record { item = n; rule = u }) us ++ rest) ≡ true
of_item_rules n [] rest h g = g
of_item_rules n (u ∷ us) rest h g = both (lists_scalars u) _ (and_left _ _ h) (of_item_rules n us rest (and_right (lists_scalars u) _ h) g)

all_scalar : (is : List ItemEntry) → AllApart is → list_all (λ c. lists_scalars c.rule) (flat_map item_constraints is) ≡ true
all_scalar [] h = refl
all_scalar (i ∷ is) h = of_item_rules i.name (shape_rules i.shape) (flat_map item_constraints is) h.0.rules (all_scalar is h.1)

pub plans_list_scalars : PlansListScalars
plans_list_scalars r d most n w =
    let t = table_of r d most n in
    let fit = read_tables_are_fit r d most n w in
    let p = plan_of r d most n in
    let beside = keys is_good_name t.targets in
    let xs = targets_named is_good_name beside [] t.targets (after_targets is_good_name beside [] t.targets) (targets_each (Ends t) (Leads t) t.targets fit.targets (targets_within r d most n)) in
    let es = trees_named is_good_name beside t.trees (named_targets is_good_name beside [] t.targets (after_targets is_good_name beside [] t.targets)).0 (trees_each (Ends t) (Leads t) t.trees fit.trees (trees_within r d most n)) in
    let all = all_among (items_of p) (λ i a. split i (map (λ x. x.led_to) p.targets ++ flat_map (λ x. items_in_shape x.led_to.shape) p.targets) (flat_map items_in p.trees)
    (split i (map (λ x. x.led_to) p.targets) (flat_map (λ x. items_in_shape x.led_to.shape) p.targets) (of_led p.targets xs i) (of_inner p.targets xs i)) (of_trees p.trees es i) a) in
    record { variants = all_differ (items_of p) all; rules = all_scalar (items_of p) all }

pub plans_are_written_apart : PlansAreWrittenApart
plans_are_written_apart r d most n w kinds numbers ordered =
    let s = plans_list_scalars r d most n w in
    record { variants = s.variants; kinds = kinds; rules = s.rules; numbers = numbers; ordered = ordered }
