-- Fields as properties, and as places.
use Rattle.std.proofs.Common.{◌≡◌, ℕ, suc, ◌+◌, ◌≤◌, ◌<◌, List, [], ◌∷◌, ◌++◌, map, drop, length, get_or, filter, not, Bool, true, false, Option, Some, None, cond, if◌then◌else◌, refl, sym, ap, ◌∙◌, append_assoc, drop-cons, arith}
use Rattle.std.proofs.lemmas.List.{drop_all, append-nil, map-append}
use Rattle.std.specs.Ordering.{nat_cmp, match_ordering}
use Rattle.std.specs.declared.cmp.Ordering.TheVariants.{Less, Equal, Greater}
use Rattle.serde_json.specs.declared.value.Value as value'
use Rattle.json_value.specs.Value.{Value, items}
use Rattle.json_value.specs.View.{kept_view}
use Rattle.model_defs.specs.Types.{tuple_type, types}
use Rattle.model_defs.specs.Model.{FieldModel}
use Rattle.value_models.specs.declared.field.Field.{Field}
use Rattle.value_models.specs.FieldView.{field_view, fields_view}
use Rattle.value_models.specs.TypeView.{type_view}
use Rattle.describe_defs.specs.Plain.{count_types, named_fields_of, rests_of, types_in}
use Rattle.describe_defs.specs.Description.{with_entry, in_order}
use Rattle.describe_defs.specs.Written.{EntryV, member_of, object_value, required_of, type_value, places_value, field_value, map_value, rest_value, closed_value, struct_value, members_value}
use Rattle.describe_defs.proofs.Ordered.{order}
use Rattle.describe_defs.proofs.InOrder.{made, order_made}
use Rattle.described_types.specs.Seen.{kept_items, is_picked}
use Rattle.described_types.proofs.Lists.{count_of_types, values_of_types}
use Rattle.described_values.specs.Seen.{first_of}
use Rattle.described_values.specs.Shown.{Shown, shown, shown_with, shown_fields, named_text, object_by, object_of, rest_of}

-- ---- rests

by_first : (fs : List FieldModel) (o : Option Value) → rest_value fs o ≡ rest_of (first_of fs) o
by_first [] o = refl
by_first (f ∷ fs) o = refl

pub by_rest : (fs : List FieldModel) (f : FieldModel) (o r : Option Value) → Some f ≡ first_of fs → r ≡ map_value f.field_type o → r ≡ rest_value fs o
by_rest fs f o r e h = h ∙ ap (λ g. rest_of g o) e ∙ sym (by_first fs o)

pub by_no_rest : (fs : List FieldModel) (o r : Option Value) → None ≡ first_of fs → r ≡ o → r ≡ rest_value fs o
by_no_rest fs o r e h = h ∙ ap (λ g. rest_of g o) e ∙ sym (by_first fs o)

-- ---- what was gathered is what the object has

module _ {A B : Type 0} (g : A → B) where
  names_made : (es : List (List ℕ × A)) → map (λ x. x.0) (made g es) ≡ map (λ x. x.0) es
  names_made [] = refl
  names_made (e ∷ es) = ap (λ ns. e.0 ∷ ns) (names_made es)

  names_in_order : (es : List (List ℕ × A)) → map (λ x. x.0) (in_order es) ≡ map (λ x. x.0) (in_order (made g es))
  names_in_order es = sym (ap (map (λ x. x.0)) (order_made g es) ∙ names_made (in_order es))

no_value : Value → Bool
no_value v = true

bare_texts : (es : List EntryV) → made no_value (map named_text es) ≡ made no_value (map member_of es)
unfolding no_value
bare_texts [] = refl
bare_texts (e ∷ es) = ap (λ xs. (e.name, true) ∷ xs) (bare_texts es)

required_next : (e : EntryV) (es : List EntryV) (b : Bool) → (shown es).required ≡ in_order (map named_text (filter (λ e. e.required) es))
    → (if b then with_entry (named_text e) (shown es).required else (shown es).required) ≡ in_order (map named_text (cond b (e ∷ filter (λ e. e.required) es) (filter (λ e. e.required) es)))
required_next e es true h = ap (with_entry (named_text e)) h
required_next e es false h = h

required_are : (es : List EntryV) → (shown es).required ≡ in_order (map named_text (filter (λ e. e.required) es))
required_are [] = refl
required_are (e ∷ es) = required_next e es e.required (required_are es)

required_names : (es : List EntryV) → map (λ e. e.0) (shown es).required ≡ required_of es
required_names es =
    let few : List EntryV = filter (λ e. e.required) es in
    ap (map (λ e. e.0)) (required_are es) ∙ names_in_order no_value (map named_text few) ∙ ap (λ xs. map (λ x. x.0) (in_order xs)) (bare_texts few) ∙ sym (names_in_order no_value (map member_of few))

properties_are : (es : List EntryV) → (shown es).properties ≡ in_order (map member_of es)
properties_are [] = refl
properties_are (e ∷ es) = ap (with_entry (member_of e)) (properties_are es)

with_some : (e : List ℕ × Value) (xs : List (List ℕ × Value)) (ns : List (List ℕ)) (r : Option Value) → object_by (with_entry e xs) ns r ≡ members_value (with_entry e xs) ns r
with_some e [] ns r = refl
with_some e (f ∷ fs) ns r =
    elim (order e.0 f.0) as (λ o. object_by (match_ordering o (e ∷ f ∷ fs) (e ∷ f ∷ fs) (f ∷ with_entry e fs)) ns r ≡ members_value (match_ordering o (e ∷ f ∷ fs) (e ∷ f ∷ fs) (f ∷ with_entry e fs)) ns r) [
      | Less ↦ refl
      | Equal ↦ refl
      | Greater ↦ refl
    ]

pub objects_are : (es : List EntryV) (r : Option Value) → object_of (shown es) r ≡ object_value es r
objects_are [] r = refl
objects_are (e ∷ es) r =
    with_some (member_of e) (shown es).properties (map (λ e. e.0) (shown (e ∷ es)).required) r
    ∙ (λ i. members_value (properties_are (e ∷ es) i) (required_names (e ∷ es) i) r)

picked_next : (all : Bool) (f : FieldModel) (fs : List FieldModel) (b : Bool) → shown_fields all fs ≡ shown (map field_value (filter (is_picked all) fs))
    → (if b then shown_with (field_value f) (shown_fields all fs) else shown_fields all fs) ≡ shown (map field_value (cond b (f ∷ filter (is_picked all) fs) (filter (is_picked all) fs)))
picked_next all f fs true h = ap (shown_with (field_value f)) h
picked_next all f fs false h = h

picked_are : (all : Bool) (fs : List FieldModel) → shown_fields all fs ≡ shown (map field_value (filter (is_picked all) fs))
picked_are all [] = refl
picked_are all (f ∷ fs) = picked_next all f fs (is_picked all f) (picked_are all fs)

pub all_picked : (fs : List FieldModel) → shown_fields true fs ≡ shown (map field_value fs)
all_picked [] = refl
all_picked (f ∷ fs) = ap (shown_with (field_value f)) (all_picked fs)

pub struct_is : (closed : Bool) (fs : List FieldModel) (s : Shown) (r : Option Value) (v : Value) → s ≡ shown_fields false fs → r ≡ rest_value (rests_of fs) (closed_value closed) → v ≡ object_of s r → v ≡ struct_value closed fs
struct_is closed fs s r v e h k = k ∙ (λ i. object_of ((e ∙ picked_are false fs) i) (h i)) ∙ objects_are (map field_value (named_fields_of fs)) (rest_value (rests_of fs) (closed_value closed))

-- ---- places

pub next : {A : Type 0} (xs : List A) (i : ℕ) (x : A) → i < length xs → x ≡ get_or xs i x → drop i xs ≡ x ∷ drop (i + 1) xs
next xs i x h e = drop-cons xs i x h ∙ ap (λ y. y ∷ drop (suc i) xs) (sym e) ∙ ap (λ n. x ∷ drop n xs) (let k : suc i ≡ i + 1 = omega arith in k)

pub one_more : (fs : List Field) (i : ℕ) (f : Field) (old new : List value'.Value) (v : value'.Value) (w : List Value)
    → i < length fs → f ≡ get_or fs i f → kept_view v ≡ type_value (type_view f.field_type) → new ≡ old ++ v ∷ []
    → map kept_view old ++ map type_value (types_in (fields_view (drop i fs))) ≡ w → map kept_view new ++ map type_value (types_in (fields_view (drop (i + 1) fs))) ≡ w
one_more fs i f old new v w h e k n was =
    ap (λ vs. map kept_view vs ++ map type_value (types_in (fields_view (drop (i + 1) fs)))) n ∙ ap (λ ys. ys ++ map type_value (types_in (fields_view (drop (i + 1) fs)))) (map-append kept_view old (v ∷ []))
    ∙ append_assoc (map kept_view old) (kept_view v ∷ []) (map type_value (types_in (fields_view (drop (i + 1) fs))))
    ∙ ap (λ z. map kept_view old ++ z ∷ map type_value (types_in (fields_view (drop (i + 1) fs)))) k
    ∙ ap (λ us. map kept_view old ++ map type_value (types_in (fields_view us))) (sym (next fs i f h e)) ∙ was

pub no_more : (fs : List Field) (i : ℕ) (vs : List value'.Value) (w : List Value) → length fs ≤ i → map kept_view vs ++ map type_value (types_in (fields_view (drop i fs))) ≡ w → map kept_view vs ≡ w
no_more fs i vs w h was = sym (append-nil (map kept_view vs)) ∙ ap (λ us. map kept_view vs ++ map type_value (types_in (fields_view us))) (sym (drop_all i fs h)) ∙ was

pub places_are : (fs : List Field) (vs : List value'.Value) (n : ℕ) (v : Value) → map kept_view vs ≡ map type_value (types_in (fields_view fs)) → n ≡ length fs
    → v ≡ places_value n (kept_items vs) → v ≡ type_value (tuple_type (types (types_in (fields_view fs))))
places_are fs vs n v e l h =
    h ∙ (λ i. places_value ((l ∙ sym (long fs)) i) (items (e i)))
    ∙ (λ i. places_value (sym (count_of_types (types_in (fields_view fs))) i) (sym (values_of_types (types_in (fields_view fs))) i))
  where
    long : (fs : List Field) → length (types_in (fields_view fs)) ≡ length fs
    long [] = refl
    long (f ∷ fs) = ap suc (long fs)
