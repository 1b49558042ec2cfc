-- Each row makes such an entry of parts that are converted to such.
use Rattle.std.proofs.Common.{◌≡◌, ◌<◌, ◌^◌, ◌+◌, ℕ, zero, suc, List, [], ◌∷◌, Bool, true, false, ◌&&◌, not, bytes_eq, refl, sym, ap, ◌∙◌, true≢false, Some, None, Option, length, arith}
use Rattle.std.specs.Prelude.{if◌then◌else◌}
use Rattle.std.specs.List.{list_all}
use Rattle.model_defs.specs.Model.{TagModel, external_tag, internal_tag, adjacent_tag, untagged, RuleD, text_rule, allow_rule, deny_rule}
use Rattle.entry_defs.specs.Entry.{Entry, boolean_entry, integer_entry, text_entry, native_entry, any_entry, unit_entry, option_entry, vec_entry, set_entry, map_entry, tuple_entry, array_entry, reference, item, Entries, no_entries, entry_then, entry_again, entries_of, struct_shape, enum_shape, newtype_shape, Rest, no_rest, rest, rest_of, Fields, no_fields, fields_of, tuple_contents, newtype_contents, struct_contents}
use Rattle.emit_defs.specs.Formed.{HasOne, HasTwo, RestMay, StandsBeside, StandBeside, TagFits, RuleFits}
use Rattle.convert_defs.specs.Row.{Part, FieldRow, field_parts, OutsideRow, outside_parts, further_parts, VariantBody, unit_body, part_body, fields_body, body_parts, VariantRow, variants_parts, Row, leaf_row, as_it_is_row, option_row, ruled_row, vec_row, set_row, array_row, tuple_row, map_row, pattern_map_row, struct_row, enum_row, merged_row, refused_row, row_parts}
use Rattle.convert_defs.specs.Convert.{same_flag, unit_in, has_two_places, is_without_rest, content_of, labeled, nullable_entry, alike_fields, alike_entries, row_fields, row_entries, outside_fields, is_closed, body_content, row_variants, entry_of}
use Rattle.convert_defs.proofs.Bare.{and_right}
use Rattle.convert_defs.proofs.Views.{AllParts}
use Rattle.convert_defs.proofs.Rows.{parts-left, parts-right}
use Rattle.merged_documents.proofs.Deep.{Few, Deep, DeepEntries, DeepFields, DeepVariants, DeepContents}

-- ---- what a row is to say

abbrev pub NoTexts : RuleD → Type 0
NoTexts (text_rule t) = ⊥
NoTexts (allow_rule vs) = Unit {0}
NoTexts (deny_rule vs) = Unit {0}

abbrev pub Filled : List Part → ℕ → Type 0
Filled [] zero = ⊥
Filled [] (suc n) = Unit {0}
Filled (p ∷ ps) n = Unit {0}

abbrev pub keeps_some : Option OutsideRow → Bool
keeps_some None = false
keeps_some (Some o) = o.keeps_rest

-- no field has the name
abbrev pub Others : List ℕ → List FieldRow → Type 0
Others t fs = list_all (λ f. not (bytes_eq f.name t)) fs ≡ true

abbrev pub BesideBody : List ℕ → VariantBody → Type 0
BesideBody t unit_body = Unit {0}
BesideBody t (part_body p) = ⊥
BesideBody t (fields_body fs) = Others t fs

abbrev pub Beside : List ℕ → List VariantRow → Type 0
Beside t [] = Unit {0}
Beside t (w ∷ ws) = BesideBody t w.body × Beside t ws

abbrev pub TagMay : TagModel → List VariantRow → Type 0
TagMay external_tag ws = Unit {0}
TagMay (internal_tag t) ws = Beside t ws
TagMay (adjacent_tag t c) ws = bytes_eq t c ≡ false
TagMay untagged ws = Unit {0}

abbrev pub RowIsShaped : Row → Type 0
RowIsShaped (leaf_row e) = Deep e
RowIsShaped (ruled_row p u) = NoTexts u
RowIsShaped (array_row p n) = n < 2 ^ 64
RowIsShaped (tuple_row ps n p) = Filled ps n × (length ps + n < 2 ^ 64)
RowIsShaped (struct_row c fs o) = c ≡ true → keeps_some o ≡ false
RowIsShaped (enum_row tag c ws) = TagMay tag ws
RowIsShaped _ = Unit {0}

-- ---- pieces

two_places : (us : Entries) → has_two_places us ≡ true → HasTwo us
two_places no_entries h = absurd (true≢false (sym h))
two_places (entry_then e no_entries) h = absurd (true≢false (sym h))
two_places (entry_then e (entry_then u us)) h = tt
two_places (entry_then e (entry_again us)) h = tt
two_places (entry_again no_entries) h = absurd (true≢false (sym h))
two_places (entry_again (entry_then u us)) h = tt
two_places (entry_again (entry_again us)) h = tt

restless : (o : Rest) → is_without_rest o ≡ true → o ≡ no_rest
restless no_rest h = refl
restless (rest i e) h = absurd (true≢false (sym h))

unit_deep : (tag : TagModel) → DeepContents (unit_in tag)
unit_deep external_tag = tt
unit_deep (internal_tag t) = tt
unit_deep (adjacent_tag t c) = tt
unit_deep untagged = tt

content_deep : (tag : TagModel) (closed : Bool) (e : Entry) → Deep e → DeepContents (content_of tag closed e)
content_deep tag closed (tuple_entry us) x = by (has_two_places us) refl
  where
    by : (b : Bool) → has_two_places us ≡ b → DeepContents (if b then tuple_contents us else newtype_contents (tuple_entry us))
    by true h = (two_places us h, x.1, x.2)
    by false h = x
content_deep tag closed unit_entry x = unit_deep tag
content_deep tag closed (item l (struct_shape c fs)) x = by (same_flag c closed && is_without_rest (rest_of fs)) refl
  where
    by : (b : Bool) → (same_flag c closed && is_without_rest (rest_of fs)) ≡ b → DeepContents (if b then struct_contents fs else newtype_contents (item l (struct_shape c fs)))
    by true h = (restless (rest_of fs) (and_right (same_flag c closed) _ h), x.1)
    by false h = x
content_deep tag closed (item l (enum_shape c t ws)) x = x
content_deep tag closed (item l (newtype_shape e u)) x = x
content_deep tag closed boolean_entry x = tt
content_deep tag closed (integer_entry g) x = tt
content_deep tag closed text_entry x = tt
content_deep tag closed (native_entry f) x = tt
content_deep tag closed any_entry x = tt
content_deep tag closed (option_entry e) x = x
content_deep tag closed (vec_entry e) x = x
content_deep tag closed (set_entry e) x = x
content_deep tag closed (map_entry k e) x = x
content_deep tag closed (array_entry e n) x = x
content_deep tag closed (reference t) x = tt

labeled_deep : (n : List ℕ) (e : Entry) → Deep e → Deep (labeled n e)
labeled_deep n (item l h) x = x
labeled_deep n (option_entry e) x = labeled_deep n e x
labeled_deep n boolean_entry x = tt
labeled_deep n (integer_entry g) x = tt
labeled_deep n text_entry x = tt
labeled_deep n (native_entry f) x = tt
labeled_deep n any_entry x = tt
labeled_deep n unit_entry x = tt
labeled_deep n (vec_entry e) x = x
labeled_deep n (set_entry e) x = x
labeled_deep n (map_entry k e) x = x
labeled_deep n (tuple_entry us) x = x
labeled_deep n (array_entry e m) x = x
labeled_deep n (reference t) x = tt

nullable_deep : (b : Bool) (e : Entry) → Deep e → Deep (nullable_entry b e)
nullable_deep false e x = x
nullable_deep true (option_entry e) x = x
nullable_deep true (item l h) x = x
nullable_deep true boolean_entry x = tt
nullable_deep true (integer_entry g) x = tt
nullable_deep true text_entry x = tt
nullable_deep true (native_entry f) x = tt
nullable_deep true any_entry x = tt
nullable_deep true unit_entry x = tt
nullable_deep true (vec_entry e) x = x
nullable_deep true (set_entry e) x = x
nullable_deep true (map_entry k e) x = x
nullable_deep true (tuple_entry us) x = x
nullable_deep true (array_entry e m) x = x
nullable_deep true (reference t) x = tt

rule_fits : (e : Entry) (u : RuleD) → NoTexts u → RuleFits e (Some u)
rule_fits e (text_rule t) x = absurd x
rule_fits e (allow_rule vs) x = allowed e
  where
    allowed : (e : Entry) → RuleFits e (Some (allow_rule vs))
    allowed boolean_entry = tt
    allowed (integer_entry g) = tt
    allowed text_entry = tt
    allowed (native_entry f) = tt
    allowed any_entry = tt
    allowed unit_entry = tt
    allowed (option_entry e) = tt
    allowed (vec_entry e) = tt
    allowed (set_entry e) = tt
    allowed (map_entry k e) = tt
    allowed (tuple_entry us) = tt
    allowed (array_entry e n) = tt
    allowed (reference t) = tt
    allowed (item l h) = tt
rule_fits e (deny_rule vs) x = denied e
  where
    denied : (e : Entry) → RuleFits e (Some (deny_rule vs))
    denied boolean_entry = tt
    denied (integer_entry g) = tt
    denied text_entry = tt
    denied (native_entry f) = tt
    denied any_entry = tt
    denied unit_entry = tt
    denied (option_entry e) = tt
    denied (vec_entry e) = tt
    denied (set_entry e) = tt
    denied (map_entry k e) = tt
    denied (tuple_entry us) = tt
    denied (array_entry e n) = tt
    denied (reference t) = tt
    denied (item l h) = tt

may : (c : Bool) (o : Rest) → (c ≡ true → o ≡ no_rest) → RestMay c o
may c no_rest f = tt
may false (rest i e) f = refl
may true (rest i e) f = sym (ap is_without_rest (f refl))

rest_alike : (ns : List (List ℕ)) (b : Bool) (e : Entry) → b ≡ false → rest_of (alike_fields ns b e) ≡ no_rest
rest_alike [] true e h = absurd (true≢false h)
rest_alike [] false e h = refl
rest_alike (n ∷ []) true e h = absurd (true≢false h)
rest_alike (n ∷ []) false e h = refl
rest_alike (n ∷ m ∷ ns) b e h = rest_alike (m ∷ ns) b e h

alike_deep : (ns : List (List ℕ)) (b : Bool) (e : Entry) → Deep e → DeepFields (alike_fields ns b e)
alike_deep [] true e h = h
alike_deep [] false e h = tt
alike_deep (n ∷ []) true e h = h
alike_deep (n ∷ []) false e h = (h, tt)
alike_deep (n ∷ m ∷ ns) b e h = alike_deep (m ∷ ns) b e h

-- ---- rows

module _ (conv : Part → Entry) where
  abbrev pub AllDeep : List Part → Type 0
  AllDeep ps = AllParts (λ p. Deep (conv p)) ps

  fields_deep : (fs : List FieldRow) (more : Fields) → AllDeep (field_parts fs) → DeepFields more → DeepFields (row_fields conv fs more)
  fields_deep [] more h g = g
  fields_deep (f ∷ fs) more h g = (nullable_deep f.nullable (conv f.part) h.0, fields_deep fs more h.1 g)

  fields_rest : (fs : List FieldRow) (more : Fields) → rest_of (row_fields conv fs more) ≡ rest_of more
  fields_rest [] more = refl
  fields_rest (f ∷ fs) more = fields_rest fs more

  lacks_same : (t : List ℕ) (fs : List FieldRow) → list_all (λ f. not (bytes_eq f.name t)) (fields_of (row_fields conv fs no_fields)) ≡ list_all (λ f. not (bytes_eq f.name t)) fs
  lacks_same t [] = refl
  lacks_same t (f ∷ fs) = ap (λ b. not (bytes_eq f.name t) && b) (lacks_same t fs)

  entries_deep : (ps : List Part) (more : Entries) → AllDeep ps → DeepEntries more → DeepEntries (row_entries conv ps more)
  entries_deep [] more h g = g
  entries_deep (p ∷ ps) more h g = (h.0, entries_deep ps more h.1 g)

  places_deep : (n : ℕ) (p : Part) → AllDeep (further_parts n p) → DeepEntries (alike_entries n (conv p))
  places_deep zero p h = tt
  places_deep (suc zero) p h = (h.0, tt)
  places_deep (suc (suc n)) p h = places_deep (suc n) p h

  has_one : (ps : List Part) (n : ℕ) (e : Entry) → Filled ps n → HasOne (row_entries conv ps (alike_entries n e))
  has_one [] zero e h = absurd h
  has_one [] (suc zero) e h = tt
  has_one [] (suc (suc n)) e h = tt
  has_one (p ∷ ps) n e h = tt

  counted : (ps : List Part) (more : Entries) → length (entries_of (row_entries conv ps more)) ≡ length ps + length (entries_of more)
  counted [] more = omega arith
  counted (p ∷ ps) more = let rec = counted ps more in omega arith

  counted_alike : (n : ℕ) (e : Entry) → length (entries_of (alike_entries n e)) ≡ n
  counted_alike zero e = refl
  counted_alike (suc zero) e = refl
  counted_alike (suc (suc n)) e = ap suc (counted_alike (suc n) e)

  few : (ps : List Part) (n : ℕ) (e : Entry) → length ps + n < 2 ^ 64 → Few (row_entries conv ps (alike_entries n e))
  few ps n e h =
      let all = counted ps (alike_entries n e) in
      let alike = counted_alike n e in
      omega arith

  outside_deep : (o : Option OutsideRow) → AllDeep (outside_parts o) → DeepFields (outside_fields conv o)
  outside_deep None h = tt
  outside_deep (Some o) h = alike_deep o.names o.keeps_rest (conv o.part) h.0

  outside_rest : (o : Option OutsideRow) → keeps_some o ≡ false → rest_of (outside_fields conv o) ≡ no_rest
  outside_rest None h = refl
  outside_rest (Some o) h = rest_alike o.names o.keeps_rest (conv o.part) h

  body_deep : (tag : TagModel) (closed : Bool) (b : VariantBody) → AllDeep (body_parts b) → DeepContents (body_content conv tag closed b)
  body_deep tag closed unit_body h = tt
  body_deep tag closed (part_body p) h = content_deep tag closed (conv p) h.0
  body_deep tag closed (fields_body fs) h = (fields_rest fs no_fields, fields_deep fs no_fields h tt)

  variants_deep : (tag : TagModel) (closed : Bool) (ws : List VariantRow) → AllDeep (variants_parts ws) → DeepVariants (row_variants conv tag closed ws)
  variants_deep tag closed [] h = tt
  variants_deep tag closed (w ∷ ws) h =
      (body_deep tag closed w.body (parts-left (λ p. Deep (conv p)) (body_parts w.body) (variants_parts ws) h), variants_deep tag closed ws (parts-right (λ p. Deep (conv p)) (body_parts w.body) (variants_parts ws) h))

  stands_beside : (t : List ℕ) (tag : TagModel) (closed : Bool) (b : VariantBody) → BesideBody t b → StandsBeside t (body_content conv tag closed b)
  stands_beside t tag closed unit_body x = tt
  stands_beside t tag closed (part_body p) x = absurd x
  stands_beside t tag closed (fields_body fs) x = lacks_same t fs ∙ x

  stand_beside : (t : List ℕ) (tag : TagModel) (closed : Bool) (ws : List VariantRow) → Beside t ws → StandBeside t (row_variants conv tag closed ws)
  stand_beside t tag closed [] x = tt
  stand_beside t tag closed (w ∷ ws) x = (stands_beside t tag closed w.body x.0, stand_beside t tag closed ws x.1)

  tag_fits : (tag : TagModel) (closed : Bool) (ws : List VariantRow) → TagMay tag ws → TagFits tag (row_variants conv tag closed ws)
  tag_fits external_tag closed ws x = tt
  tag_fits (internal_tag t) closed ws x = stand_beside t (internal_tag t) closed ws x
  tag_fits (adjacent_tag t c) closed ws x = x
  tag_fits untagged closed ws x = tt

  pub row_deep : (name : List ℕ) (w : Row) → RowIsShaped w → AllDeep (row_parts w) → Deep (entry_of conv name w)
  row_deep name (leaf_row e) x h = labeled_deep name e x
  row_deep name (as_it_is_row p) x h = h.0
  row_deep name (option_row p) x h = h.0
  row_deep name (ruled_row p u) x h = (rule_fits (conv p) u x, h.0)
  row_deep name (vec_row p) x h = h.0
  row_deep name (set_row p) x h = h.0
  row_deep name (array_row p n) x h = (x, h.0)
  row_deep name (tuple_row ps n p) x h =
      (has_one ps n (conv p) x.0, few ps n (conv p) x.1, entries_deep ps (alike_entries n (conv p)) (parts-left (λ p. Deep (conv p)) ps (further_parts n p) h) (places_deep n p (parts-right (λ p. Deep (conv p)) ps (further_parts n p) h)))
  row_deep name (map_row k p) x h = (h.0, h.1.0)
  row_deep name (pattern_map_row qs p) x h = ((tt, tt), h.0)
  row_deep name (struct_row c fs o) x h = (
    may c (rest_of (row_fields conv fs (outside_fields conv o))) (λ e. fields_rest fs (outside_fields conv o) ∙ outside_rest o (x e)),
    fields_deep fs (outside_fields conv o) (parts-left (λ p. Deep (conv p)) (field_parts fs) (outside_parts o) h) (outside_deep o (parts-right (λ p. Deep (conv p)) (field_parts fs) (outside_parts o) h)),
  )
  row_deep name (enum_row tag c ws) x h = (tag_fits tag (is_closed conv c ws) ws x, variants_deep tag (is_closed conv c ws) ws h)
  row_deep name (merged_row ps) x h = tt
  row_deep name (refused_row c) x h = tt
