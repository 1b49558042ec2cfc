-- What is in the entry of a row leads on and comes to an end, where this is so of its parts.
use Rattle.schema_defs.specs.declared.Setting.TheVariants.{Strict}
use Rattle.std.proofs.Common.{ℕ, ◌≡◌, zero, suc, List, [], ◌∷◌, ◌++◌, Bool, true, false, ◌&&◌, Option, Some, None, inl, inr, sym, ap, ◌∙◌, subst}
use Rattle.std.specs.Prelude.{if◌then◌else◌}
use Rattle.schema_defs.specs.Texts.{Relations}
use Rattle.schema_defs.specs.Schema.{Schema}
use Rattle.model_defs.specs.Model.{TagModel, external_tag, internal_tag, adjacent_tag, untagged}
use Rattle.entry_defs.specs.Entry.{Target, Entry, boolean_entry, integer_entry, text_entry, native_entry, any_entry, unit_entry, option_entry, vec_entry, set_entry, map_entry, tuple_entry, array_entry, reference, item, Entries, Shape, struct_shape, enum_shape, newtype_shape, Fields, rest_of, no_fields, newtype_contents, tuple_contents, struct_contents, fields_of}
use Rattle.entry_defs.specs.Table.{Table}
use Rattle.entry_defs.specs.Members.{names_differ}
use Rattle.entry_defs.specs.Sound.{Each, EachEntry, EachField, EachVariant, EachInContents, Leads}
use Rattle.entry_defs.specs.Ends.{Asked, AskedByShape, EndsWithin, Ends}
use Rattle.entry_defs.proofs.Each.{each_weaker}
use Rattle.convert_defs.specs.Row.{narrowed, Part, FieldRow, field_parts, OutsideRow, outside_parts, further_parts, VariantBody, unit_body, part_body, fields_body, body_parts, VariantRow, variants_parts, Row, leaf_row, as_it_is_row, option_row, ruled_row, vec_row, set_row, array_row, tuple_row, map_row, pattern_map_row, struct_row, enum_row, merged_row, refused_row, row_parts}
use Rattle.convert_defs.specs.Table.{target_of}
use Rattle.convert_defs.specs.Apart.{differ}
use Rattle.convert_defs.specs.Convert.{same_flag, is_without_rest, has_two_places, unit_in, content_of, labeled, nullable_entry, row_fields, row_entries, row_variants, alike_fields, alike_entries, outside_fields, body_content, is_closed, entry_of}
use Rattle.convert_defs.proofs.Views.{AllParts}
use Rattle.convert_defs.proofs.Rows.{parts-left, parts-right}
use Rattle.convert_defs.proofs.Apart.{names_in, names_outside}
use Rattle.convert_defs.proofs.Objects.{same-differ, differ-names, all-named-once}
use Rattle.convert_defs.proofs.Weaker.{shape-weaker}
use Rattle.convert_defs.proofs.Fine.{own, BodyFine, BodiesFine, LeafFine, Fine}

-- ---- contents of variants, and labels

module _ (P : List ℕ → Shape → Type 0) (Q : Target → Type 0) (unnamed : (l m : List ℕ) (h : Shape) → P l h → P m h) where
  labeled-each : (n : List ℕ) (e : Entry) → Each P Q e → Each P Q (labeled n e)
  labeled-each n (item l h) x = (unnamed l n h x.0, x.1)
  labeled-each n (option_entry e) x = labeled-each n e x
  labeled-each n boolean_entry x = x
  labeled-each n (integer_entry g) x = x
  labeled-each n text_entry x = x
  labeled-each n (native_entry f) x = x
  labeled-each n any_entry x = x
  labeled-each n unit_entry x = x
  labeled-each n (vec_entry e) x = x
  labeled-each n (set_entry e) x = x
  labeled-each n (map_entry k e) x = x
  labeled-each n (tuple_entry us) x = x
  labeled-each n (array_entry e m) x = x
  labeled-each n (reference t) x = x

module _ (P : List ℕ → Shape → Type 0) (Q : Target → Type 0) where
  nullable-each : (b : Bool) (e : Entry) → Each P Q e → Each P Q (nullable_entry b e)
  nullable-each false e x = x
  nullable-each true (option_entry e) x = x
  nullable-each true (item l h) x = x
  nullable-each true boolean_entry x = x
  nullable-each true (integer_entry g) x = x
  nullable-each true text_entry x = x
  nullable-each true (native_entry f) x = x
  nullable-each true any_entry x = x
  nullable-each true unit_entry x = x
  nullable-each true (vec_entry e) x = x
  nullable-each true (set_entry e) x = x
  nullable-each true (map_entry k e) x = x
  nullable-each true (tuple_entry us) x = x
  nullable-each true (array_entry e m) x = x
  nullable-each true (reference t) x = x

  unit-each : (tag : TagModel) → EachInContents P Q (unit_in tag)
  unit-each external_tag = tt
  unit-each (internal_tag t) = tt
  unit-each (adjacent_tag t c) = tt
  unit-each untagged = tt

  content-each : (tag : TagModel) (closed : Bool) (e : Entry) → Each P Q e → EachInContents P Q (content_of tag closed e)
  content-each tag closed (tuple_entry us) x = by (has_two_places us)
    where
      by : (b : Bool) → EachInContents P Q (if b then tuple_contents us else newtype_contents (tuple_entry us))
      by true = x
      by false = x
  content-each tag closed unit_entry x = unit-each tag
  content-each tag closed (item l (struct_shape c fs)) x = by (same_flag c closed && is_without_rest (rest_of fs))
    where
      by : (b : Bool) → EachInContents P Q (if b then struct_contents fs else newtype_contents (item l (struct_shape c fs)))
      by true = (x.1.0, x.1.1)
      by false = x
  content-each tag closed (item l (enum_shape c t ws)) x = x
  content-each tag closed (item l (newtype_shape e u)) x = x
  content-each tag closed boolean_entry x = x
  content-each tag closed (integer_entry g) x = x
  content-each tag closed text_entry x = x
  content-each tag closed (native_entry f) x = x
  content-each tag closed any_entry x = x
  content-each tag closed (option_entry e) x = x
  content-each tag closed (vec_entry e) x = x
  content-each tag closed (set_entry e) x = x
  content-each tag closed (map_entry k e) x = x
  content-each tag closed (array_entry e n) x = x
  content-each tag closed (reference t) x = x

-- ---- one row

module _ (table : Table) (P : List ℕ → Type 0) (last : ℕ) where
  abbrev E : List ℕ → Shape → Type 0
  E = Ends table

  abbrev L : Target → Type 0
  L = Leads table

  -- what is said of a part's entry
  abbrev pub Said : Entry → Type 0
  Said e = Each E L e × Asked (EndsWithin table last) e

  module _ (r : Relations) (conv : Part → Entry) where
    fields-each : (fs : List FieldRow) (more : Fields) → AllParts (λ p. Said (conv p)) (field_parts fs) → EachField E L more → EachField E L (row_fields conv fs more)
    fields-each [] more h g = g
    fields-each (f ∷ fs) more h g = (nullable-each E L f.nullable (conv f.part) h.0.0, fields-each fs more h.1 g)

    entries-each : (ps : List Part) (more : Entries) → AllParts (λ p. Said (conv p)) ps → EachEntry E L more → EachEntry E L (row_entries conv ps more)
    entries-each [] more h g = g
    entries-each (p ∷ ps) more h g = (h.0.0, entries-each ps more h.1 g)

    places-each : (n : ℕ) (p : Part) → AllParts (λ p. Said (conv p)) (further_parts n p) → EachEntry E L (alike_entries n (conv p))
    places-each zero p h = tt
    places-each (suc zero) p h = (h.0.0, tt)
    places-each (suc (suc n)) p h = places-each (suc n) p h

    alike-each : (ns : List (List ℕ)) (b : Bool) (e : Entry) → Each E L e → EachField E L (alike_fields ns b e)
    alike-each [] true e h = h
    alike-each [] false e h = tt
    alike-each (n ∷ []) true e h = h
    alike-each (n ∷ []) false e h = (h, tt)
    alike-each (n ∷ m ∷ ns) b e h = alike-each (m ∷ ns) b e h

    outside-each : (o : Option OutsideRow) → AllParts (λ p. Said (conv p)) (outside_parts o) → EachField E L (outside_fields conv o)
    outside-each None h = tt
    outside-each (Some o) h = alike-each o.names o.keeps_rest (conv o.part) h.0.0

    fields-differ : (fs : List FieldRow) → differ (names_in fs) ≡ true → names_differ (fields_of (row_fields conv fs no_fields)) ≡ true
    fields-differ fs h = same-differ narrowed Strict (λ s e. Unit {0}) conv r fs ∙ h

    all-differ : (fs : List FieldRow) (o : Option OutsideRow) → differ (names_in fs ++ names_outside o) ≡ true → names_differ (fields_of (row_fields conv fs (outside_fields conv o))) ≡ true
    all-differ fs o h = differ-names narrowed Strict (λ s e. Unit {0}) conv r (fields_of (row_fields conv fs (outside_fields conv o))) ∙ ap differ (all-named-once narrowed Strict (λ s e. Unit {0}) conv r fs o) ∙ h

    body-each : (s : Schema) (tag : TagModel) (closed : Bool) (b : VariantBody) → BodyFine P s tag b → AllParts (λ p. Said (conv p)) (body_parts b) → EachInContents E L (body_content conv tag closed b)
    body-each s tag closed unit_body x h = tt
    body-each s tag closed (part_body p) x h = content-each E L tag closed (conv p) h.0.0
    body-each s tag closed (fields_body fs) x h = (fields-differ fs (of tag x), fields-each fs no_fields h tt)
      where
        of : (tag : TagModel) → BodyFine P s tag (fields_body fs) → differ (names_in fs) ≡ true
        of external_tag x = x
        of (internal_tag t) x = x
        of (adjacent_tag t c) x = x
        of untagged x = x

    variants-each : (s : Schema) (tag : TagModel) (closed : Bool) (ws : List VariantRow) → BodiesFine P s tag ws → AllParts (λ p. Said (conv p)) (variants_parts ws) → EachVariant E L (row_variants conv tag closed ws)
    variants-each s tag closed [] x h = tt
    variants-each s tag closed (w ∷ ws) x h =
        (body-each s tag closed w.body x.0 (parts-left (λ p. Said (conv p)) (body_parts w.body) (variants_parts ws) h), variants-each s tag closed ws x.1 (parts-right (λ p. Said (conv p)) (body_parts w.body) (variants_parts ws) h))

    quiet-ends : (n : List ℕ) (h : Shape) → AskedByShape (λ q. ⊥) h → E n h
    quiet-ends n h x = (0, shape-weaker (λ q. ⊥) (EndsWithin table 0) (λ q b. absurd b) h x)

    leaf-each : (s : Schema) (leading : (q : List ℕ) (t : Target) → own s ≡ Some q → target_of q ≡ Some t → L t) (e : Entry) → LeafFine P s e → Each E L e
    leaf-each s leading e (inl x) = each_weaker (λ n h. AskedByShape (λ q. ⊥) h) E (λ q. ⊥) L quiet-ends (λ q b. absurd b) e x.0
    leaf-each s leading e (inr (t, q, h, u, k)) = subst (Each E L) (sym h) (leading q t k u)

    -- an item that the row makes ends as its entry does
    pub row-each : (s : Schema) (leading : (q : List ℕ) (t : Target) → own s ≡ Some q → target_of q ≡ Some t → L t) (name : List ℕ) (w : Row) → Fine P s w → AllParts (λ p. Said (conv p)) (row_parts w) → Asked (EndsWithin table last) (entry_of conv name w) → Each E L (entry_of conv name w)
    row-each s leading name (leaf_row e) x h a = labeled-each E L (λ l m h x. x) name e (leaf-each s leading e x)
    row-each s leading name (as_it_is_row p) x h a = h.0.0
    row-each s leading name (option_row p) x h a = h.0.0
    row-each s leading name (ruled_row p u) x h a = ((last, a), h.0.0)
    row-each s leading name (vec_row p) x h a = h.0.0
    row-each s leading name (set_row p) x h a = h.0.0
    row-each s leading name (array_row p n) x h a = h.0.0
    row-each s leading name (tuple_row ps n p) x h a = entries-each ps (alike_entries n (conv p)) (parts-left (λ p. Said (conv p)) ps (further_parts n p) h) (places-each n p (parts-right (λ p. Said (conv p)) ps (further_parts n p) h))
    row-each s leading name (map_row k p) x h a = (h.0.0, h.1.0.0)
    row-each s leading name (pattern_map_row qs p) x h a = (((0, tt), tt), h.0.0)
    row-each s leading name (struct_row c fs u) x h a = ((last, a), (all-differ fs u x, fields-each fs (outside_fields conv u) (parts-left (λ p. Said (conv p)) (field_parts fs) (outside_parts u) h) (outside-each u (parts-right (λ p. Said (conv p)) (field_parts fs) (outside_parts u) h))))
    row-each s leading name (enum_row tag c ws) x h a = ((last, a), variants-each s tag (is_closed conv c ws) ws x h)
    row-each s leading name (merged_row ps) x h a = tt
    row-each s leading name (refused_row c) x h a = tt
