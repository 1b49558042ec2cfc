-- What is formed stays so under names, where a rest that wants the name `extra` gets the one that it should have.
use Rattle.std.proofs.Common.{◌≡◌, ℕ, Bool, List, [], ◌∷◌, ◌++◌, reverse, true, ◌&&◌, refl, sym, ap, ◌∙◌, subst, codes, append_assoc, append-nil}
use Rattle.std.proofs.lemmas.Slice.Eq.{bytes_eq-Decides}
use Rattle.std.proofs.lemmas.Grind.{reverse_onto}
use Rattle.std.specs.List.{AllByRecursion}
use Rattle.model_defs.specs.Model.{TagModel}
use Rattle.entry_defs.specs.Entry.{Entry, boolean_entry, integer_entry, text_entry, native_entry, any_entry, unit_entry, option_entry, vec_entry, set_entry, map_entry, tuple_entry, array_entry, reference, item, Entries, no_entries, entry_then, entry_again, Shape, struct_shape, enum_shape, newtype_shape, Fields, no_fields, field_then, field_again, rest_field, rest_of, Variants, no_variants, variant_then, Contents, unit_contents, newtype_contents, tuple_contents, struct_contents}
use Rattle.entry_defs.specs.Table.{TargetEntry, Table}
use Rattle.naming_defs.specs.Names.{Names, is_value, taking, values, bound_is_good, field_names, variant_names, field_name, identified, identified_fields, variant_name, identified_variants, item_name, named, named_entries, named_shape, named_fields, named_variants, named_contents, after_targets, named_targets, named_trees, keys, named_table}
use Rattle.naming_defs.specs.Good.{is_good_name}
use Rattle.entry_space.proofs.Keys.{first-true, second-true, both-true}
use Rattle.space_trees.specs.Formed.{has_place, has_field, own_identifiers, rest_name, is_rest_of, rest_is_wanted, rest_is_named, has_no_rest, is_formed_by, are_formed_by, is_formed_shape_by, are_formed_fields_by, are_formed_variants_by, is_formed_contents_by, IsFormed}

-- ---- rests

same-json-names : (taken beside : Names) (fs : Fields) → field_names (identified is_good_name taken beside fs) ≡ field_names fs
same-json-names taken beside no_fields = refl
same-json-names taken beside (field_then i n e s fs) = ap (λ z. n ∷ z) (same-json-names (field_name is_good_name taken beside n ∷ taken) beside fs)
same-json-names taken beside (field_again i n fs) = ap (λ z. n ∷ z) (same-json-names (field_name is_good_name taken beside n ∷ taken) beside fs)
same-json-names taken beside (rest_field i e) = refl

turned-more : (x : List ℕ) (xs taken : Names) → reverse xs ++ (x ∷ taken) ≡ reverse (x ∷ xs) ++ taken
turned-more x xs taken = sym (append_assoc (reverse xs) (x ∷ []) taken) ∙ ap (λ z. z ++ taken) (sym (reverse_onto xs x []))

abbrev named_after : Names → Names → Fields → List ℕ
named_after taken beside fs = field_name is_good_name (reverse (own_identifiers (identified is_good_name taken beside fs)) ++ taken) beside (codes "extra")

rest-after : (taken beside : Names) (fs : Fields) → rest_is_wanted fs ≡ true → is_rest_of (named_after taken beside fs) (rest_of (identified is_good_name taken beside fs)) ≡ true
rest-after taken beside no_fields h = refl
rest-after taken beside (field_then i n e s fs) h =
    let x = field_name is_good_name taken beside n in
    let r = rest_of (identified is_good_name (x ∷ taken) beside fs) in
    subst (λ z. is_rest_of (field_name is_good_name z beside (codes "extra")) r ≡ true) (turned-more x (own_identifiers (identified is_good_name (x ∷ taken) beside fs)) taken) (rest-after (x ∷ taken) beside fs h)
rest-after taken beside (field_again i n fs) h =
    let x = field_name is_good_name taken beside n in
    let r = rest_of (identified is_good_name (x ∷ taken) beside fs) in
    subst (λ z. is_rest_of (field_name is_good_name z beside (codes "extra")) r ≡ true) (turned-more x (own_identifiers (identified is_good_name (x ∷ taken) beside fs)) taken) (rest-after (x ∷ taken) beside fs h)
rest-after taken beside (rest_field i e) h =
    let q = (bytes_eq-Decides i (codes "extra")).0 h in
    (bytes_eq-Decides (field_name is_good_name taken beside i) (field_name is_good_name taken beside (codes "extra"))).1 (ap (field_name is_good_name taken beside) q)

rest-named : (fs : Fields) → rest_is_wanted fs ≡ true → rest_is_named (identified_fields is_good_name fs) ≡ true
rest-named fs h =
    let gs = identified is_good_name [] (field_names fs) fs in
    let first : field_name is_good_name (reverse (own_identifiers gs) ++ []) (field_names fs) (codes "extra") ≡ rest_name gs =
    λ x. field_name is_good_name (append-nil (reverse (own_identifiers gs)) x) (sym (same-json-names [] (field_names fs) fs) x) (codes "extra")
    in subst (λ n. is_rest_of n (rest_of gs) ≡ true) first (rest-after [] (field_names fs) fs h)

-- ---- identifiers change nothing else

module _ (fits : List ℕ → Bool) where
  has-identified : (taken beside : Names) (fs : Fields) → has_field (identified fits taken beside fs) ≡ has_field fs
  has-identified taken beside no_fields = refl
  has-identified taken beside (field_then i n e s fs) = refl
  has-identified taken beside (field_again i n fs) = refl
  has-identified taken beside (rest_field i e) = refl

  formed-identified : (taken beside : Names) (fs : Fields) → are_formed_fields_by rest_is_named (identified fits taken beside fs) ≡ are_formed_fields_by rest_is_named fs
  formed-identified taken beside no_fields = refl
  formed-identified taken beside (field_then i n e s fs) = ap (λ b. is_formed_by rest_is_named e && b) (formed-identified (field_name fits taken beside n ∷ taken) beside fs)
  formed-identified taken beside (field_again i n fs) =
      λ x. has-identified (field_name fits taken beside n ∷ taken) beside fs x && formed-identified (field_name fits taken beside n ∷ taken) beside fs x
  formed-identified taken beside (rest_field i e) = refl

  no-rest-identified : (taken beside : Names) (fs : Fields) → has_no_rest (rest_of (identified fits taken beside fs)) ≡ has_no_rest (rest_of fs)
  no-rest-identified taken beside no_fields = refl
  no-rest-identified taken beside (field_then i n e s fs) = no-rest-identified (field_name fits taken beside n ∷ taken) beside fs
  no-rest-identified taken beside (field_again i n fs) = no-rest-identified (field_name fits taken beside n ∷ taken) beside fs
  no-rest-identified taken beside (rest_field i e) = refl

variants-identified : (tag : TagModel) (taken beside : Names) (ws : Variants) → are_formed_variants_by rest_is_named (identified_variants is_good_name tag taken beside ws) ≡ are_formed_variants_by rest_is_named ws
variants-identified tag taken beside no_variants = refl
variants-identified tag taken beside (variant_then i n c ws) = ap (λ b. is_formed_contents_by rest_is_named c && b) (variants-identified tag (variant_name is_good_name tag taken beside n ∷ taken) beside ws)

-- ---- names of items

module _ (beside : Names) where
  wanted-named : (fs : Fields) (t : Names) → rest_is_wanted (named_fields is_good_name beside fs t).1 ≡ rest_is_wanted fs
  wanted-named no_fields t = refl
  wanted-named (field_then i n e s fs) t = wanted-named fs (named is_good_name beside e t).0
  wanted-named (field_again i n fs) t = wanted-named fs t
  wanted-named (rest_field i e) t = refl

  no-rest-named : (fs : Fields) (t : Names) → has_no_rest (rest_of (named_fields is_good_name beside fs t).1) ≡ has_no_rest (rest_of fs)
  no-rest-named no_fields t = refl
  no-rest-named (field_then i n e s fs) t = no-rest-named fs (named is_good_name beside e t).0
  no-rest-named (field_again i n fs) t = no-rest-named fs t
  no-rest-named (rest_field i e) t = refl

  field-named : (fs : Fields) (t : Names) → has_field (named_fields is_good_name beside fs t).1 ≡ has_field fs
  field-named no_fields t = refl
  field-named (field_then i n e s fs) t = refl
  field-named (field_again i n fs) t = refl
  field-named (rest_field i e) t = refl

  place-named : (es : Entries) (t : Names) → has_place (named_entries is_good_name beside es t).1 ≡ has_place es
  place-named no_entries t = refl
  place-named (entry_then e es) t = refl
  place-named (entry_again es) t = refl

  mutual
    formed-named : (e : Entry) (t : Names) → is_formed_by rest_is_wanted e ≡ true → is_formed_by rest_is_named (named is_good_name beside e t).1 ≡ true
    formed-named boolean_entry t h = refl
    formed-named (integer_entry g) t h = refl
    formed-named text_entry t h = refl
    formed-named (native_entry f) t h = refl
    formed-named any_entry t h = refl
    formed-named unit_entry t h = refl
    formed-named (reference q) t h = refl
    formed-named (option_entry e) t h = formed-named e t h
    formed-named (vec_entry e) t h = formed-named e t h
    formed-named (set_entry e) t h = formed-named e t h
    formed-named (array_entry e n) t h = formed-named e t h
    formed-named (map_entry k e) t h =
        both-true _ _ (formed-named k t (first-true (is_formed_by rest_is_wanted k) (is_formed_by rest_is_wanted e) h))
        (formed-named e (named is_good_name beside k t).0 (second-true (is_formed_by rest_is_wanted k) (is_formed_by rest_is_wanted e) h))
    formed-named (tuple_entry es) t h = entries-named es t h
    formed-named (item n s) t h = shape-named s (taking (is_value s) (item_name is_good_name beside t n) t) h

    entries-named : (es : Entries) (t : Names) → are_formed_by rest_is_wanted es ≡ true → are_formed_by rest_is_named (named_entries is_good_name beside es t).1 ≡ true
    entries-named no_entries t h = refl
    entries-named (entry_then e es) t h =
        both-true _ _ (formed-named e t (first-true (is_formed_by rest_is_wanted e) (are_formed_by rest_is_wanted es) h))
        (entries-named es (named is_good_name beside e t).0 (second-true (is_formed_by rest_is_wanted e) (are_formed_by rest_is_wanted es) h))
    entries-named (entry_again es) t h =
        both-true _ _ (place-named es t ∙ first-true (has_place es) (are_formed_by rest_is_wanted es) h) (entries-named es t (second-true (has_place es) (are_formed_by rest_is_wanted es) h))

    shape-named : (s : Shape) (t : Names) → is_formed_shape_by rest_is_wanted s ≡ true → is_formed_shape_by rest_is_named (named_shape is_good_name beside s t).1 ≡ true
    shape-named (struct_shape closed fs) t h =
        let gs = (named_fields is_good_name beside fs t).1 in
        both-true _ _ (rest-named gs (wanted-named fs t ∙ first-true (rest_is_wanted fs) (are_formed_fields_by rest_is_wanted fs) h))
        (formed-identified is_good_name [] (field_names gs) gs ∙ fields-named fs t (second-true (rest_is_wanted fs) (are_formed_fields_by rest_is_wanted fs) h))
    shape-named (enum_shape closed tag ws) t h =
        variants-identified tag [] (variant_names ws) (named_variants is_good_name beside ws t).1 ∙ variants-named ws t h
    shape-named (newtype_shape e rule) t h = formed-named e t h

    fields-named : (fs : Fields) (t : Names) → are_formed_fields_by rest_is_wanted fs ≡ true → are_formed_fields_by rest_is_named (named_fields is_good_name beside fs t).1 ≡ true
    fields-named no_fields t h = refl
    fields-named (field_then i n e s fs) t h =
        both-true _ _ (formed-named e t (first-true (is_formed_by rest_is_wanted e) (are_formed_fields_by rest_is_wanted fs) h))
        (fields-named fs (named is_good_name beside e t).0 (second-true (is_formed_by rest_is_wanted e) (are_formed_fields_by rest_is_wanted fs) h))
    fields-named (field_again i n fs) t h =
        both-true _ _ (field-named fs t ∙ first-true (has_field fs) (are_formed_fields_by rest_is_wanted fs) h) (fields-named fs t (second-true (has_field fs) (are_formed_fields_by rest_is_wanted fs) h))
    fields-named (rest_field i e) t h = formed-named e t h

    variants-named : (ws : Variants) (t : Names) → are_formed_variants_by rest_is_wanted ws ≡ true → are_formed_variants_by rest_is_named (named_variants is_good_name beside ws t).1 ≡ true
    variants-named no_variants t h = refl
    variants-named (variant_then i n c ws) t h =
        both-true _ _ (contents-named c t (first-true (is_formed_contents_by rest_is_wanted c) (are_formed_variants_by rest_is_wanted ws) h))
        (variants-named ws (named_contents is_good_name beside c t).0 (second-true (is_formed_contents_by rest_is_wanted c) (are_formed_variants_by rest_is_wanted ws) h))

    contents-named : (c : Contents) (t : Names) → is_formed_contents_by rest_is_wanted c ≡ true → is_formed_contents_by rest_is_named (named_contents is_good_name beside c t).1 ≡ true
    contents-named unit_contents t h = refl
    contents-named (newtype_contents e) t h = formed-named e t h
    contents-named (tuple_contents es) t h = entries-named es t h
    contents-named (struct_contents fs) t h =
        let a = named_fields is_good_name beside fs t in
        let fits = bound_is_good is_good_name in
        both-true _ _ (no-rest-identified fits (values a.0) (field_names a.1) a.1 ∙ no-rest-named fs t ∙ first-true (has_no_rest (rest_of fs)) (are_formed_fields_by rest_is_wanted fs) h)
        (formed-identified fits (values a.0) (field_names a.1) a.1 ∙ fields-named fs t (second-true (has_no_rest (rest_of fs)) (are_formed_fields_by rest_is_wanted fs) h))

  targets-named : (first : Names) (xs : List TargetEntry) (t : Names) → AllByRecursion (λ x. is_formed_shape_by rest_is_wanted x.led_to.shape ≡ true) xs
      → AllByRecursion (λ x. is_formed_shape_by rest_is_named x.led_to.shape ≡ true) (named_targets is_good_name beside first xs t).1
  targets-named first [] t h = tt
  targets-named first (x ∷ xs) t h =
      (shape-named x.led_to.shape t h.0, targets-named (taking (is_value x.led_to.shape) (item_name is_good_name beside first x.led_to.name) first) xs (named_shape is_good_name beside x.led_to.shape t).0 h.1)

  trees-named : (es : List Entry) (t : Names) → AllByRecursion (λ e. is_formed_by rest_is_wanted e ≡ true) es
      → AllByRecursion (λ e. is_formed_by rest_is_named e ≡ true) (named_trees is_good_name beside es t).1
  trees-named [] t h = tt
  trees-named (e ∷ es) t h = (formed-named e t h.0, trees-named es (named is_good_name beside e t).0 h.1)

-- before names are given
pub record IsWanted (t : Table) : Type 0 where
  pub trees : AllByRecursion (λ e. is_formed_by rest_is_wanted e ≡ true) t.trees
  pub targets : AllByRecursion (λ x. is_formed_shape_by rest_is_wanted x.led_to.shape ≡ true) t.targets

pub table-named : (t : Table) → IsWanted t → IsFormed (named_table is_good_name t)
table-named t h =
    let beside = keys is_good_name t.targets in
    let a = named_targets is_good_name beside [] t.targets (after_targets is_good_name beside [] t.targets) in
    record { trees = trees-named beside t.trees a.0 h.trees; targets = targets-named beside [] t.targets (after_targets is_good_name beside [] t.targets) h.targets }
