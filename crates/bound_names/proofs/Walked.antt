-- Naming, walked: what is bound, and which items there are.
use Rattle.std.proofs.Common.{◌≡◌, ℕ, List, [], ◌∷◌, ◌++◌, map, Bool, true, false, ◌&&◌, not, refl, sym, ap, ◌∙◌, subst, inl, inr, codes}
use Rattle.std.specs.List.{flat_map}
use Rattle.std.proofs.lemmas.Bool.{and_parts}
use Rattle.std.proofs.lemmas.Grind.{flat_map-append}
use Rattle.model_defs.specs.Model.{TagModel}
use Rattle.model_defs.proofs.Flat.{not_true}
use Rattle.entry_defs.specs.Entry.{Entry, boolean_entry, integer_entry, text_entry, native_entry, any_entry, unit_entry, option_entry, vec_entry, set_entry, map_entry, tuple_entry, array_entry, reference, item, Entries, no_entries, entry_then, entry_again, Shape, struct_shape, enum_shape, newtype_shape, Fields, no_fields, field_then, field_again, rest_field, Variants, no_variants, variant_then, Contents, unit_contents, newtype_contents, tuple_contents, struct_contents}
use Rattle.entry_defs.specs.Table.{ItemEntry, TargetEntry, Table, items_in, items_in_entries, items_in_shape, items_in_fields, items_in_variants, items_in_contents, items_of}
use Rattle.naming_defs.specs.Derived.{is_derived, is_denied}
use Rattle.naming_defs.specs.Names.{Names, is_among, field_names, identifiers, variant_names, is_value, taking, values, bound, item_is_good, bound_is_good, field_name, identified, identified_fields, identified_within, variant_name, identified_variants, item_name, named, named_entries, named_shape, named_fields, named_variants, named_contents, after_targets, named_targets, named_trees, keys, named_table}
use Rattle.naming_defs.proofs.Free.{given-free}
use Rattle.naming_defs.proofs.Fresh.{FreshNames}
use Rattle.bound_names.specs.Laws.{bound_in, bound_by, bound_names}
use Rattle.bound_names.proofs.Apart.{Apart, nothing, fewer, one-then, with-item, binding, given-is, of-fresh, in-either, in-left, in-right}

abbrev own : ItemEntry → Names
own i = bound_names i.shape

abbrev pub all_bound : List ItemEntry → Names
all_bound is = flat_map own is

-- ---- one after another

both : (t u w : Names) (xs ys : List ItemEntry) → Apart t (all_bound xs) xs u → Apart u (all_bound ys) ys w → Apart t (all_bound (xs ++ ys)) (xs ++ ys) w
both t u w xs ys p q = subst (λ (bs : Names). Apart t bs (xs ++ ys) w) (sym (flat_map-append own xs ys)) (one-then t u w (all_bound xs) (all_bound ys) xs ys p q)

-- with what is bound outside the items
shuffled : (n : List ℕ) (a b : Names) (xs ys : List ItemEntry) → is_among n ((a ++ b) ++ all_bound (xs ++ ys)) ≡ true → is_among n ((a ++ all_bound xs) ++ (b ++ all_bound ys)) ≡ true
shuffled n a b xs ys h =
    let x = all_bound xs in
    let y = all_bound ys in
    elim (in-either n (a ++ b) (all_bound (xs ++ ys)) h) [
      | inl k ↦ elim (in-either n a b k) [ inl c ↦ in-left n (a ++ x) (b ++ y) (in-left n a x c) | inr c ↦ in-right n (a ++ x) (b ++ y) (in-left n b y c) ]
      | inr k ↦ elim (in-either n x y (subst (λ (z : Names). is_among n z ≡ true) (flat_map-append own xs ys) k)) [
        | inl c ↦ in-left n (a ++ x) (b ++ y) (in-right n a x c)
        | inr c ↦ in-right n (a ++ x) (b ++ y) (in-right n b y c)
      ]
    ]

both-own : (t u w a b : Names) (xs ys : List ItemEntry) → Apart t (a ++ all_bound xs) xs u → Apart u (b ++ all_bound ys) ys w → Apart t ((a ++ b) ++ all_bound (xs ++ ys)) (xs ++ ys) w
both-own t u w a b xs ys p q =
    fewer t ((a ++ all_bound xs) ++ (b ++ all_bound ys)) ((a ++ b) ++ all_bound (xs ++ ys)) (xs ++ ys) w (λ n h. shuffled n a b xs ys h) (one-then t u w (a ++ all_bound xs) (b ++ all_bound ys) xs ys p q)

-- ---- identifiers

same-items : (fits : List ℕ → Bool) (taken beside : Names) (fs : Fields) → items_in_fields (identified fits taken beside fs) ≡ items_in_fields fs
same-items fits taken beside no_fields = refl
same-items fits taken beside (field_then i n e s fs) = ap (λ is. items_in e ++ is) (same-items fits (field_name fits taken beside n ∷ taken) beside fs)
same-items fits taken beside (field_again i n fs) = same-items fits (field_name fits taken beside n ∷ taken) beside fs
same-items fits taken beside (rest_field i e) = refl

module _ (is_good : List ℕ → Bool) where
  variant-items : (tag : TagModel) (taken beside : Names) (ws : Variants) → items_in_variants (identified_variants is_good tag taken beside ws) ≡ items_in_variants ws
  variant-items tag taken beside no_variants = refl
  variant-items tag taken beside (variant_then i n c ws) = ap (λ is. items_in_contents c ++ is) (variant-items tag (variant_name is_good tag taken beside n ∷ taken) beside ws)

  same-bound : (tag : TagModel) (taken beside : Names) (ws : Variants) → bound_by (identified_variants is_good tag taken beside ws) ≡ bound_by ws
  same-bound tag taken beside no_variants = refl
  same-bound tag taken beside (variant_then i n c ws) = ap (λ ns. bound_in c ++ ns) (same-bound tag (variant_name is_good tag taken beside n ∷ taken) beside ws)

  abbrev fits : List ℕ → Bool
  fits = bound_is_good is_good

  abbrev Underived : List ℕ → Type 0
  Underived n = is_derived n ≡ false

  field-underived : (taken beside : Names) (n : List ℕ) → Underived (field_name fits taken beside n)
  field-underived taken beside n = given-is Underived fits (codes "field") taken beside n (λ h. not_true (is_derived n) (and_parts (is_good n) (not (is_derived n)) h).1) (λ i. refl)

  fields-fresh : (taken beside : Names) (fs : Fields) → FreshNames Underived taken (identifiers (identified fits taken beside fs))
  fields-fresh taken beside no_fields = tt
  fields-fresh taken beside (field_then i n e s fs) = (given-free (codes "field") fits taken beside n, field-underived taken beside n, fields-fresh (field_name fits taken beside n ∷ taken) beside fs)
  fields-fresh taken beside (field_again i n fs) = (given-free (codes "field") fits taken beside n, field-underived taken beside n, fields-fresh (field_name fits taken beside n ∷ taken) beside fs)
  fields-fresh taken beside (rest_field i e) = (given-free (codes "field") fits taken beside i, field-underived taken beside i, tt)

  module _ (beside : Names) where
    item-undenied : (t : Names) (n : List ℕ) → is_denied (item_name is_good beside t n) ≡ false
    item-undenied t n =
        given-is (λ m. is_denied m ≡ false) (item_is_good is_good) (codes "Type") t beside n (λ h. not_true (is_denied n) (and_parts (is_good n) (not (is_denied n)) h).1) (λ i. refl)

    same-value : (h : Shape) (t : Names) → is_value (named_shape is_good beside h t).1 ≡ is_value h
    same-value (struct_shape closed no_fields) t = refl
    same-value (struct_shape closed (field_then i n e s fs)) t = refl
    same-value (struct_shape closed (field_again i n fs)) t = refl
    same-value (struct_shape closed (rest_field i e)) t = refl
    same-value (enum_shape closed tag ws) t = refl
    same-value (newtype_shape e rule) t = refl

    mutual
      entry : (e : Entry) (t : Names) → (let a = named is_good beside e t in Apart t (all_bound (items_in a.1)) (items_in a.1) a.0)
      entry (option_entry e) t = entry e t
      entry (vec_entry e) t = entry e t
      entry (set_entry e) t = entry e t
      entry (map_entry k e) t = let a = named is_good beside k t in let b = named is_good beside e a.0 in both t a.0 b.0 (items_in a.1) (items_in b.1) (entry k t) (entry e a.0)
      entry (tuple_entry es) t = places es t
      entry (array_entry e n) t = entry e t
      entry (item n h) t =
          let m = item_name is_good beside t n in
          let u = taking (is_value h) m t in
          let a = named_shape is_good beside h u in
          with-item t a.0 (bound_names a.1 ++ all_bound (items_in_shape a.1)) m a.1 (is_value h) (items_in_shape a.1) (same-value h u) (given-free (codes "Type") (item_is_good is_good) t beside n) (item-undenied t n) (shape h u)
      entry boolean_entry t = nothing t
      entry (integer_entry g) t = nothing t
      entry text_entry t = nothing t
      entry (native_entry f) t = nothing t
      entry any_entry t = nothing t
      entry unit_entry t = nothing t
      entry (reference q) t = nothing t

      places : (es : Entries) (t : Names) → (let a = named_entries is_good beside es t in Apart t (all_bound (items_in_entries a.1)) (items_in_entries a.1) a.0)
      places no_entries t = nothing t
      places (entry_then e es) t = let a = named is_good beside e t in let b = named_entries is_good beside es a.0 in both t a.0 b.0 (items_in a.1) (items_in_entries b.1) (entry e t) (places es a.0)
      places (entry_again es) t = places es t

      pub shape : (h : Shape) (t : Names) → (let a = named_shape is_good beside h t in Apart t (bound_names a.1 ++ all_bound (items_in_shape a.1)) (items_in_shape a.1) a.0)
      shape (struct_shape closed fs) t =
          let a = named_fields is_good beside fs t in
          subst (λ (is : List ItemEntry). Apart t (all_bound is) is a.0) (sym (same-items is_good [] (field_names a.1) a.1)) (fields fs t)
      shape (enum_shape closed tag ws) t =
          let a = named_variants is_good beside ws t in
          let vs = identified_variants is_good tag [] (variant_names ws) a.1 in
          subst (λ (is : List ItemEntry). Apart t (bound_by vs ++ all_bound is) is a.0) (sym (variant-items tag [] (variant_names ws) a.1))
          (subst (λ (bs : Names). Apart t (bs ++ all_bound (items_in_variants a.1)) (items_in_variants a.1) a.0) (sym (same-bound tag [] (variant_names ws) a.1)) (variants ws t))
      shape (newtype_shape e rule) t = entry e t

      fields : (fs : Fields) (t : Names) → (let a = named_fields is_good beside fs t in Apart t (all_bound (items_in_fields a.1)) (items_in_fields a.1) a.0)
      fields no_fields t = nothing t
      fields (field_then i n e s fs) t = let a = named is_good beside e t in let b = named_fields is_good beside fs a.0 in both t a.0 b.0 (items_in a.1) (items_in_fields b.1) (entry e t) (fields fs a.0)
      fields (field_again i n fs) t = fields fs t
      fields (rest_field i e) t = entry e t

      variants : (ws : Variants) (t : Names) → (let a = named_variants is_good beside ws t in Apart t (bound_by a.1 ++ all_bound (items_in_variants a.1)) (items_in_variants a.1) a.0)
      variants no_variants t = nothing t
      variants (variant_then i n c ws) t =
          let a = named_contents is_good beside c t in let b = named_variants is_good beside ws a.0 in
          both-own t a.0 b.0 (bound_in a.1) (bound_by b.1) (items_in_contents a.1) (items_in_variants b.1) (contents c t) (variants ws a.0)

      contents : (c : Contents) (t : Names) → (let a = named_contents is_good beside c t in Apart t (bound_in a.1 ++ all_bound (items_in_contents a.1)) (items_in_contents a.1) a.0)
      contents unit_contents t = nothing t
      contents (newtype_contents e) t = entry e t
      contents (tuple_contents es) t = places es t
      contents (struct_contents fs) t =
          let a = named_fields is_good beside fs t in
          let ids = identifiers (identified_within is_good a.0 a.1) in
          subst (λ (is : List ItemEntry). Apart t (ids ++ all_bound is) is (bound ids a.0)) (sym (same-items fits (values a.0) (field_names a.1) a.1))
          (binding t a.0 (all_bound (items_in_fields a.1)) ids (items_in_fields a.1) (of-fresh Underived (values a.0) ids (fields-fresh (values a.0) (field_names a.1) a.1)) (fields fs t))

    -- ---- tables

    led : (first : Names) (xs : List TargetEntry) (t : Names) → Apart first [] (map (λ x. x.led_to) (named_targets is_good beside first xs t).1) (after_targets is_good beside first xs)
    led first [] t = nothing first
    led first (x ∷ xs) t =
        let m = item_name is_good beside first x.led_to.name in
        let u = taking (is_value x.led_to.shape) m first in
        let a = named_shape is_good beside x.led_to.shape t in
        with-item first (after_targets is_good beside u xs) [] m a.1 (is_value x.led_to.shape) (map (λ x. x.led_to) (named_targets is_good beside u xs a.0).1) (same-value x.led_to.shape t)
        (given-free (codes "Type") (item_is_good is_good) first beside x.led_to.name) (item-undenied first x.led_to.name) (led u xs a.0)

    inner : (first : Names) (xs : List TargetEntry) (t : Names)
        → (let a = named_targets is_good beside first xs t in let is = flat_map (λ x. items_in_shape x.led_to.shape) a.1 in
        Apart t (all_bound (map (λ x. x.led_to) a.1) ++ all_bound is) is a.0)
    inner first [] t = nothing t
    inner first (x ∷ xs) t =
        let u = taking (is_value x.led_to.shape) (item_name is_good beside first x.led_to.name) first in
        let a = named_shape is_good beside x.led_to.shape t in
        let b = named_targets is_good beside u xs a.0 in
        both-own t a.0 b.0 (bound_names a.1) (all_bound (map (λ x. x.led_to) b.1)) (items_in_shape a.1) (flat_map (λ x. items_in_shape x.led_to.shape) b.1) (shape x.led_to.shape t) (inner u xs a.0)

    trees : (es : List Entry) (t : Names) → (let a = named_trees is_good beside es t in Apart t (all_bound (flat_map items_in a.1)) (flat_map items_in a.1) a.0)
    trees [] t = nothing t
    trees (e ∷ es) t = let a = named is_good beside e t in let b = named_trees is_good beside es a.0 in both t a.0 b.0 (items_in a.1) (flat_map items_in b.1) (entry e t) (trees es a.0)

  pub table : (t : Table) → (u : Names) × Apart [] (all_bound (items_of (named_table is_good t))) (items_of (named_table is_good t)) u
  table t =
      let beside = keys is_good t.targets in
      let first = after_targets is_good beside [] t.targets in
      let a = named_targets is_good beside [] t.targets first in
      let b = named_trees is_good beside t.trees a.0 in
      let to = map (λ x. x.led_to) a.1 in
      let is = flat_map (λ x. items_in_shape x.led_to.shape) a.1 in
      let targets = one-then [] first a.0 [] (all_bound to ++ all_bound is) to is (led beside [] t.targets first) (inner beside [] t.targets first) in
      let together = subst (λ (bs : Names). Apart [] bs (to ++ is) a.0) (sym (flat_map-append own to is)) targets in
      (b.0, both [] a.0 b.0 (to ++ is) (flat_map items_in b.1) together (trees beside t.trees a.0))
