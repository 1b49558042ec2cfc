-- What asks nothing of the same value: a tree takes what the form at its id takes, where that holds of the parts.
use Rattle.std.proofs.Common.{◌≡◌, ℕ, suc, List, [], ◌∷◌, map, length, Bool, true, false, ◌&&◌, ◌||◌, not, cond, Option, Some, None, refl, sym, ap, subst, ◌∙◌, bytes_eq}
use Rattle.std.specs.Prelude.{◌==◌}
use Rattle.std.specs.List.{filter, list_all, AllZip}
use Rattle.json_value.specs.Value.{Value, text, object, member_at}
use Rattle.model_defs.specs.Layer.{MemberPart, Parts, no_parts, list_parts, object_parts, is_none, named, without, members_in}
use Rattle.entry_defs.specs.Entry.{Target, Entry, text_entry, Entries, no_entries, entry_then, entry_again, next_entry, entries_of, Fields, no_fields, fields_of, rest_of, FieldEntry, Rest, no_rest, rest, Variants, no_variants, variant_then, variants_of, VariantEntry, Contents, unit_contents, newtype_contents, tuple_contents, struct_contents}
use Rattle.entry_defs.specs.Layer.{Judge, each_item, of_length, each_member, as_map, in_places, by_places, may_be_missing, field_takes, is_field, others, rest_takes, members_take, struct_takes, variant_named, variant_of_text, tagged_variant, is_unit, contents_entry, is_unit_named, contents_take, external_takes, beside_tag, internal_takes, beside_content, adjacent_takes}
use Rattle.entry_defs.specs.Space.{Id, FieldAt, RestAt, ContentsAt, VariantAt, Space, Holds, HoldsEntries, HoldsFields, HoldsVariants, HoldsContents}
use Rattle.emit_defs.proofs.Pairs.{part, parts, filter_part, none_part, members_in_parts}
use Rattle.space_defs.proofs.Pairs.{held_next, FieldHeld, fields_held, RestHeld, rest_held}
use Rattle.entry_laws.specs.Ids.{part_at, parts_at, fields_at, contents_at, variants_at}
use Rattle.entry_laws.proofs.Both.{Both}

module _ (leads : Target → Id → Bool) (space : Space) where
  abbrev Pair : Type 0
  Pair = Both leads space

  abbrev Ms : Type 0
  Ms = List (MemberPart Pair)

  abbrev left : Ms → List (MemberPart Judge)
  left ms = map (part (λ p. p.left)) ms

  abbrev right : Ms → List (MemberPart Judge)
  right ms = map (part (λ p. p.right)) ms

  -- ---- items

  items-same : (e : Entry) (i : Id) → Holds leads space e i → (js : List Pair) → list_all (λ j. j e) (map (λ p. p.left) js) ≡ list_all (λ j. j (part_at i)) (map (λ p. p.right) js)
  items-same e i h [] = refl
  items-same e i h (j ∷ js) =
      let rec = items-same e i h js in
      λ k. j.agree.one e i h k && rec k

  pub each-same : (e : Entry) (i : Id) → Holds leads space e i → (xs : Parts Pair) → each_item e (parts (λ p. p.left) xs) ≡ each_item (part_at i) (parts (λ p. p.right) xs)
  each-same e i h no_parts = refl
  each-same e i h (list_parts js) = items-same e i h js
  each-same e i h (object_parts ms) = refl

  counts-same : (js : List Pair) → length (map (λ p. p.left) js) ≡ length (map (λ p. p.right) js)
  counts-same [] = refl
  counts-same (j ∷ js) = ap suc (counts-same js)

  pub length-same : (n : ℕ) (xs : Parts Pair) → of_length n (parts (λ p. p.left) xs) ≡ of_length n (parts (λ p. p.right) xs)
  length-same n no_parts = refl
  length-same n (list_parts js) = ap (λ m. m == n) (counts-same js)
  length-same n (object_parts ms) = refl

  members-each : (k e : Entry) (l j : Id) → Holds leads space k l → Holds leads space e j → (ms : Ms) → each_member k e (left ms) ≡ each_member (part_at l) (part_at j) (right ms)
  members-each k e l j hk he [] = refl
  members-each k e l j hk he (m ∷ ms) =
      let rec = members-each k e l j hk he ms in
      λ i. (m.key.agree.one k l hk i && m.value.agree.one e j he i) && rec i

  pub map-same : (k e : Entry) (l j : Id) → Holds leads space k l → Holds leads space e j → (xs : Parts Pair) → as_map k e (parts (λ p. p.left) xs) ≡ as_map (part_at l) (part_at j) (parts (λ p. p.right) xs)
  map-same k e l j hk he no_parts = refl
  map-same k e l j hk he (list_parts js) = refl
  map-same k e l j hk he (object_parts ms) = members-each k e l j hk he ms

  places-same : (es : Entries) (js : List Id) → HoldsEntries leads space es js → (xs : List Pair) → in_places (entries_of es) (map (λ p. p.left) xs) ≡ in_places (entries_of (parts_at js)) (map (λ p. p.right) xs)
  places-same no_entries [] h [] = refl
  places-same no_entries [] h (x ∷ xs) = refl
  places-same no_entries (j ∷ js) h xs = absurd h
  places-same (entry_then e es) [] h xs = absurd h
  places-same (entry_then e es) (j ∷ js) h [] = refl
  places-same (entry_then e es) (j ∷ js) h (x ∷ xs) =
      let rec = places-same es js h.1 xs in
      λ i. x.agree.one e j h.0 i && rec i
  places-same (entry_again es) [] h xs = absurd h
  places-same (entry_again es) (j ∷ js) h [] = refl
  places-same (entry_again es) (j ∷ js) h (x ∷ xs) =
      let rec = places-same es js h.1 xs in
      let n : Holds leads space (next_entry es) j = held_next leads space es js j h.1 h.0 in
      λ i. x.agree.one (next_entry es) j n i && rec i

  pub tuple-same : (es : Entries) (js : List Id) → HoldsEntries leads space es js → (xs : Parts Pair) → by_places (entries_of es) (parts (λ p. p.left) xs) ≡ by_places (entries_of (parts_at js)) (parts (λ p. p.right) xs)
  tuple-same es js h no_parts = refl
  tuple-same es js h (list_parts xs) = places-same es js h xs
  tuple-same es js h (object_parts ms) = refl

  -- ---- fields

  abbrev field_seen : FieldAt → FieldEntry
  field_seen g = record { identifier = g.identifier; name = g.name; entry = part_at g.entry; state = g.state }

  abbrev rest_seen : Option RestAt → Rest
  rest_seen None = no_rest
  rest_seen (Some p) = rest p.identifier (part_at p.entry)

  rest-at : (gs : List FieldAt) (p : Option RestAt) → rest_of (fields_at gs p) ≡ rest_seen p
  rest-at [] None = refl
  rest-at [] (Some p) = refl
  rest-at (g ∷ gs) p = rest-at gs p

  one-field : (f : FieldEntry) (g : FieldAt) → FieldHeld leads space f g → (ms : Ms) → field_takes f (left ms) ≡ field_takes (field_seen g) (right ms)
  one-field f g k [] = ap may_be_missing (sym k.state)
  one-field f g k (m ∷ []) = m.value.agree.one f.entry g.entry k.entry
  one-field f g k (m ∷ n ∷ ms) = refl

  field-same : (f : FieldEntry) (g : FieldAt) → FieldHeld leads space f g → (ms : Ms) → field_takes f (named f.name (left ms)) ≡ field_takes (field_seen g) (named g.name (right ms))
  field-same f g k ms =
      ap (field_takes f) (filter_part (λ p. p.left) (bytes_eq f.name) ms)
      ∙ one-field f g k (named f.name ms)
      ∙ ap (field_takes (field_seen g)) (sym (filter_part (λ p. p.right) (bytes_eq f.name) ms))
      ∙ ap (λ n. field_takes (field_seen g) (named n (right ms))) (sym k.name)

  all-fields : (fs : List FieldEntry) (gs : List FieldAt) (p : Option RestAt) → AllZip (FieldHeld leads space) fs gs → (ms : Ms)
      → list_all (λ f. field_takes f (named f.name (left ms))) fs ≡ list_all (λ f. field_takes f (named f.name (right ms))) (fields_of (fields_at gs p))
  all-fields [] [] None z ms = refl
  all-fields [] [] (Some q) z ms = refl
  all-fields [] (g ∷ gs) p z ms = absurd z
  all-fields (f ∷ fs) [] p z ms = absurd z
  all-fields (f ∷ fs) (g ∷ gs) p z ms =
      let one = field-same f g z.0 ms in
      let rec = all-fields fs gs p z.1 ms in
      λ i. one i && rec i

  is-field : (fs : List FieldEntry) (gs : List FieldAt) (p : Option RestAt) → AllZip (FieldHeld leads space) fs gs → (n : List ℕ) → is_field fs n ≡ is_field (fields_of (fields_at gs p)) n
  is-field [] [] None z n = refl
  is-field [] [] (Some q) z n = refl
  is-field [] (g ∷ gs) p z n = absurd z
  is-field (f ∷ fs) [] p z n = absurd z
  is-field (f ∷ fs) (g ∷ gs) p z n =
      let name = z.0.name in
      let rec = is-field fs gs p z.1 n in
      λ i. bytes_eq (sym name i) n || rec i

  members-texts : (e : Entry) (j : Id) → Holds leads space e j → (ms : Ms) → each_member text_entry e (left ms) ≡ each_member text_entry (part_at j) (right ms)
  members-texts e j h [] = refl
  members-texts e j h (m ∷ ms) =
      let rec = members-texts e j h ms in
      λ i. (m.key.agree.texts i && m.value.agree.one e j h i) && rec i

  rest-same : (o : Rest) (gs : List FieldAt) (p : Option RestAt) → RestHeld leads space o p → (ms : Ms) → rest_takes o (left ms) ≡ rest_takes (rest_of (fields_at gs p)) (right ms)
  rest-same o gs p h ms = by o p h ∙ ap (λ z. rest_takes z (right ms)) (sym (rest-at gs p))
    where
      by : (o : Rest) (p : Option RestAt) → RestHeld leads space o p → rest_takes o (left ms) ≡ rest_takes (rest_seen p) (right ms)
      by no_rest p h = ap (λ z. rest_takes (rest_seen z) (right ms)) (sym h)
      by (rest i e) p h = members-texts e h.0.entry h.3 ms ∙ ap (λ z. rest_takes (rest_seen z) (right ms)) (sym h.1)

  pub members-same : (closed : Bool) (fs : Fields) (gs : List FieldAt) (p : Option RestAt) → HoldsFields leads space fs gs p → (ms : Ms)
      → members_take closed (fields_of fs) (rest_of fs) (left ms) ≡ members_take closed (fields_of (fields_at gs p)) (rest_of (fields_at gs p)) (right ms)
  members-same closed fs gs p h ms =
      let xs = fields_of fs in
      let ys = fields_of (fields_at gs p) in
      let z = fields_held leads space fs gs p h in
      let same : others xs ms ≡ others ys ms = λ i. filter (λ m. not (is-field xs gs p z m.name i)) ms in
      let mine : others xs (left ms) ≡ left (others xs ms) = filter_part (λ p. p.left) (λ n. not (is_field xs n)) ms in
      let yours : others ys (right ms) ≡ right (others ys ms) = filter_part (λ p. p.right) (λ n. not (is_field ys n)) ms in
      let a : is_none (others xs (left ms)) ≡ is_none (others ys (right ms))
      = ap is_none mine ∙ none_part (λ p. p.left) (others xs ms) ∙ ap is_none same ∙ sym (none_part (λ p. p.right) (others ys ms)) ∙ sym (ap is_none yours) in
      let b = all-fields xs gs p z ms in
      let c : rest_takes (rest_of fs) (others xs (left ms)) ≡ rest_takes (rest_of (fields_at gs p)) (others ys (right ms))
      = ap (rest_takes (rest_of fs)) mine ∙ rest-same (rest_of fs) gs p (rest_held leads space fs gs p h) (others xs ms) ∙ ap (rest_takes (rest_of (fields_at gs p))) (ap right same ∙ sym yours) in
      λ i. (not closed || a i) && b i && c i

  pub struct-same : (closed : Bool) (fs : Fields) (gs : List FieldAt) (p : Option RestAt) → HoldsFields leads space fs gs p → (xs : Parts Pair)
      → struct_takes closed (fields_of fs) (rest_of fs) (parts (λ p. p.left) xs) ≡ struct_takes closed (fields_of (fields_at gs p)) (rest_of (fields_at gs p)) (parts (λ p. p.right) xs)
  struct-same closed fs gs p h no_parts = refl
  struct-same closed fs gs p h (list_parts js) = refl
  struct-same closed fs gs p h (object_parts ms) = members-same closed fs gs p h ms

  -- ---- variants

  -- the contents of the second stand for those of the first
  abbrev Stand : Option VariantEntry → Option VariantEntry → Type 0
  Stand None None = Unit {0}
  Stand (Some w) (Some y) = (c : ContentsAt) × (y.contents ≡ contents_at c) × HoldsContents leads space w.contents c
  Stand _ _ = ⊥

  found : (k : List ℕ) (ws : Variants) (xs : List VariantAt) → HoldsVariants leads space ws xs → Stand (variant_named k (variants_of ws)) (variant_named k (variants_of (variants_at xs)))
  found k no_variants [] h = tt
  found k no_variants (x ∷ xs) h = absurd h
  found k (variant_then i n c ws) [] h = absurd h
  found k (variant_then i n c ws) (x ∷ xs) h =
      let w : VariantEntry = record { identifier = i; name = n; contents = c } in
      let y : VariantEntry = record { identifier = x.identifier; name = x.name; contents = contents_at x.contents } in
      let rec = found k ws xs h.3 in
      subst (λ m. Stand (cond (bytes_eq k n) (Some w) (variant_named k (variants_of ws))) (cond (bytes_eq k m) (Some y) (variant_named k (variants_of (variants_at xs))))) (sym h.1)
      (elim (bytes_eq k n) as (λ b. Stand (cond b (Some w) (variant_named k (variants_of ws))) (cond b (Some y) (variant_named k (variants_of (variants_at xs))))) [
        | true ↦ (x.contents, refl, h.2)
        | false ↦ rec
      ])

  of-text : (ws : Variants) (xs : List VariantAt) → HoldsVariants leads space ws xs → (o : Option Value) → Stand (variant_of_text (variants_of ws) o) (variant_of_text (variants_of (variants_at xs)) o)
  of-text ws xs h (Some (text k)) = found k ws xs h
  of-text ws xs h _ = tt

  tagged : (tag : List ℕ) (ws : Variants) (xs : List VariantAt) → HoldsVariants leads space ws xs → (v : Value) → Stand (tagged_variant tag (variants_of ws) v) (tagged_variant tag (variants_of (variants_at xs)) v)
  tagged tag ws xs h (object ms) = of-text ws xs h (member_at tag ms)
  tagged tag ws xs h _ = tt

  unit-same : (c : Contents) (x : ContentsAt) → HoldsContents leads space c x → is_unit c ≡ is_unit (contents_at x)
  unit-same unit_contents x h = ap (λ y. is_unit (contents_at y)) (sym h)
  unit-same (newtype_contents e) x h = ap (λ y. is_unit (contents_at y)) (sym h.1)
  unit-same (tuple_contents es) x h = ap (λ y. is_unit (contents_at y)) (sym h.1)
  unit-same (struct_contents fs) x h = ap (λ y. is_unit (contents_at y)) (sym h.1)

  -- contents that aren't unit
  abbrev has_contents : Bool → Judge → Contents → Bool
  has_contents closed j c = not (is_unit c) && j (contents_entry closed c)

  has-same : (closed : Bool) (p : Pair) (c : Contents) (x : ContentsAt) → HoldsContents leads space c x → has_contents closed p.left c ≡ has_contents closed p.right (contents_at x)
  has-same closed p unit_contents x h = ap (λ y. has_contents closed p.right (contents_at y)) (sym h)
  has-same closed p (newtype_contents e) x h = p.agree.one e h.0 h.2 ∙ ap (λ y. has_contents closed p.right (contents_at y)) (sym h.1)
  has-same closed p (tuple_contents es) x h = p.agree.several es h.0 h.2 ∙ ap (λ y. has_contents closed p.right (contents_at y)) (sym h.1)
  has-same closed p (struct_contents fs) x h = p.agree.fields closed fs h.0 h.2 ∙ ap (λ y. has_contents closed p.right (contents_at y)) (sym h.1)

  unit-named : (a b : Option VariantEntry) → Stand a b → is_unit_named a ≡ is_unit_named b
  unit-named None None h = refl
  unit-named (Some w) (Some y) h = unit-same w.contents h.0 h.2 ∙ ap is_unit (sym h.1)
  unit-named None (Some y) h = absurd h
  unit-named (Some w) None h = absurd h

  one-member : (closed : Bool) (p : Pair) (a b : Option VariantEntry) → Stand a b → contents_take closed p.left a ≡ contents_take closed p.right b
  one-member closed p None None h = refl
  one-member closed p (Some w) (Some y) h = has-same closed p w.contents h.0 h.2 ∙ ap (has_contents closed p.right) (sym h.1)
  one-member closed p None (Some y) h = absurd h
  one-member closed p (Some w) None h = absurd h

  pub external-same : (closed : Bool) (ws : Variants) (xs : List VariantAt) → HoldsVariants leads space ws xs → (v : Value) (ps : Parts Pair)
      → external_takes closed (variants_of ws) v (parts (λ p. p.left) ps) ≡ external_takes closed (variants_of (variants_at xs)) v (parts (λ p. p.right) ps)
  external-same closed ws xs h (text k) ps = unit-named _ _ (found k ws xs h)
  external-same closed ws xs h _ (object_parts (m ∷ [])) = one-member closed m.value _ _ (found m.name ws xs h)
  external-same closed ws xs h _ no_parts = refl
  external-same closed ws xs h _ (list_parts js) = refl
  external-same closed ws xs h _ (object_parts []) = refl
  external-same closed ws xs h _ (object_parts (m ∷ p ∷ ms)) = refl

  beside-same : (closed : Bool) (c : Contents) (x : ContentsAt) → HoldsContents leads space c x → (ms : Ms) → beside_tag closed (left ms) c ≡ beside_tag closed (right ms) (contents_at x)
  beside-same closed unit_contents x h ms = members-same closed no_fields [] None tt ms ∙ ap (λ y. beside_tag closed (right ms) (contents_at y)) (sym h)
  beside-same closed (newtype_contents e) x h ms = ap (λ y. beside_tag closed (right ms) (contents_at y)) (sym h.1)
  beside-same closed (tuple_contents es) x h ms = ap (λ y. beside_tag closed (right ms) (contents_at y)) (sym h.1)
  beside-same closed (struct_contents fs) x h ms = members-same closed fs h.0 None h.2 ms ∙ ap (λ y. beside_tag closed (right ms) (contents_at y)) (sym h.1)

  internal-members : (closed : Bool) (tag : List ℕ) (ms : Ms) (a b : Option VariantEntry) → Stand a b → internal_takes closed tag (left ms) a ≡ internal_takes closed tag (right ms) b
  internal-members closed tag ms None None h = refl
  internal-members closed tag ms (Some w) (Some y) h =
      ap (λ z. beside_tag closed z w.contents) (filter_part (λ p. p.left) (λ n. not (bytes_eq tag n)) ms)
      ∙ beside-same closed w.contents h.0 h.2 (without tag ms)
      ∙ ap (λ z. beside_tag closed z (contents_at h.0)) (sym (filter_part (λ p. p.right) (λ n. not (bytes_eq tag n)) ms))
      ∙ ap (beside_tag closed (without tag (right ms))) (sym h.1)
  internal-members closed tag ms None (Some y) h = absurd h
  internal-members closed tag ms (Some w) None h = absurd h

  pub internal-same : (closed : Bool) (tag : List ℕ) (ws : Variants) (xs : List VariantAt) → HoldsVariants leads space ws xs → (v : Value) (ps : Parts Pair)
      → internal_takes closed tag (members_in (parts (λ p. p.left) ps)) (tagged_variant tag (variants_of ws) v) ≡ internal_takes closed tag (members_in (parts (λ p. p.right) ps)) (tagged_variant tag (variants_of (variants_at xs)) v)
  internal-same closed tag ws xs h v ps =
      ap (λ z. internal_takes closed tag z (tagged_variant tag (variants_of ws) v)) (members_in_parts (λ p. p.left) ps)
      ∙ internal-members closed tag (members_in ps) _ _ (tagged tag ws xs h v)
      ∙ ap (λ z. internal_takes closed tag z (tagged_variant tag (variants_of (variants_at xs)) v)) (sym (members_in_parts (λ p. p.right) ps))

  content-same : (closed : Bool) (c : Contents) (x : ContentsAt) → HoldsContents leads space c x → (ms : Ms) → beside_content closed c (left ms) ≡ beside_content closed (contents_at x) (right ms)
  content-same closed c x h [] = unit-same c x h
  content-same closed c x h (m ∷ ms) = has-same closed m.value c x h

  adjacent-members : (closed : Bool) (tag content : List ℕ) (ms : Ms) (a b : Option VariantEntry) → Stand a b → adjacent_takes closed tag content (left ms) a ≡ adjacent_takes closed tag content (right ms) b
  adjacent-members closed tag content ms None None h = refl
  adjacent-members closed tag content ms (Some w) (Some y) h =
      let mine : without content (without tag (left ms)) ≡ left (without content (without tag ms))
      = ap (without content) (filter_part (λ p. p.left) (λ n. not (bytes_eq tag n)) ms) ∙ filter_part (λ p. p.left) (λ n. not (bytes_eq content n)) (without tag ms) in
      let yours : without content (without tag (right ms)) ≡ right (without content (without tag ms))
      = ap (without content) (filter_part (λ p. p.right) (λ n. not (bytes_eq tag n)) ms) ∙ filter_part (λ p. p.right) (λ n. not (bytes_eq content n)) (without tag ms) in
      let none = ap is_none mine ∙ none_part (λ p. p.left) (without content (without tag ms)) ∙ sym (none_part (λ p. p.right) (without content (without tag ms))) ∙ sym (ap is_none yours) in
      let beside =
      ap (beside_content closed w.contents) (filter_part (λ p. p.left) (bytes_eq content) ms)
      ∙ content-same closed w.contents h.0 h.2 (named content ms)
      ∙ ap (beside_content closed (contents_at h.0)) (sym (filter_part (λ p. p.right) (bytes_eq content) ms))
      ∙ ap (λ z. beside_content closed z (named content (right ms))) (sym h.1) in
      λ i. (not closed || none i) && beside i
  adjacent-members closed tag content ms None (Some y) h = absurd h
  adjacent-members closed tag content ms (Some w) None h = absurd h

  pub adjacent-same : (closed : Bool) (tag content : List ℕ) (ws : Variants) (xs : List VariantAt) → HoldsVariants leads space ws xs → (v : Value) (ps : Parts Pair)
      → adjacent_takes closed tag content (members_in (parts (λ p. p.left) ps)) (tagged_variant tag (variants_of ws) v)
      ≡ adjacent_takes closed tag content (members_in (parts (λ p. p.right) ps)) (tagged_variant tag (variants_of (variants_at xs)) v)
  adjacent-same closed tag content ws xs h v ps =
      ap (λ z. adjacent_takes closed tag content z (tagged_variant tag (variants_of ws) v)) (members_in_parts (λ p. p.left) ps)
      ∙ adjacent-members closed tag content (members_in ps) _ _ (tagged tag ws xs h v)
      ∙ ap (λ z. adjacent_takes closed tag content z (tagged_variant tag (variants_of (variants_at xs)) v)) (sym (members_in_parts (λ p. p.right) ps))
