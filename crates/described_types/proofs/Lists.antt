-- A list of values, as it is seen; and the types of a tuple, one by one.
use Rattle.std.proofs.Common.{◌≡◌, ℕ, zero, suc, ◌+◌, ◌≤◌, ◌<◌, List, [], ◌∷◌, ◌++◌, map, drop, length, get_or, refl, sym, ap, ◌∙◌, append_assoc, drop-cons, arith}
use Rattle.std.specs.declared.alloc.Global.{Global}
use Rattle.std.specs.declared.vec.Vec.{Vec}
use Rattle.std.proofs.lemmas.List.{drop_all, append-nil, map-append}
use Rattle.serde_json.specs.declared.value.Value.TheVariants as values'
use Rattle.serde_json.proofs.Views.{view-Array}
use Rattle.json_value.specs.View.{kept_view, value_of}
use Rattle.value_models.specs.declared.value_type.ValueType.{ValueType}
use Rattle.value_models.specs.TypeView.{type_view, types_view}
use Rattle.std.specs.Prelude.{codes}
use Rattle.serde_json.specs.View as json
use Rattle.serde_json.specs.declared.value.Value as value'
use Rattle.json_value.specs.Value.{Value, Items, list, items, item, no_items}
use Rattle.json_value.specs.View as seen
use Rattle.schema_defs.specs.Location.{escaped, location_text}
use Rattle.model_defs.specs.Types.{TypeModel, tuple_type, types}
use Rattle.describe_defs.specs.Plain.{count_types}
use Rattle.describe_defs.specs.Description.{item_reference}
use Rattle.describe_defs.specs.Written.{places_value, type_value, type_values, copies_of}
use Rattle.described_types.specs.Seen.{kept_items}

pub items_seen : (vs : List value'.Value) → seen.items_of (json.items_view vs) ≡ kept_items vs
items_seen [] = refl
items_seen (v ∷ vs) = ap (item (kept_view v)) (items_seen vs)

pub list_seen : (vs : List value'.Value) → list (seen.items_of (json.items_view vs)) ≡ list (kept_items vs)
list_seen vs = ap list (items_seen vs)

pub values_of_types : (ts : List TypeModel) → type_values (types ts) ≡ items (map type_value ts)
values_of_types [] = refl
values_of_types (t ∷ ts) = ap (item (type_value t)) (values_of_types ts)

pub count_of_types : (ts : List TypeModel) → count_types (types ts) ≡ length ts
count_of_types [] = refl
count_of_types (t ∷ ts) = ap suc (count_of_types ts)

pub array_seen : (vs : Vec value'.Value Global) → kept_view (values'.Array vs) ≡ list (kept_items vs.items)
array_seen vs = ap value_of (view-Array vs) ∙ list_seen vs.items

-- a value more in a list that is filled from a list
pub one_more : (ts : List ValueType) (i : ℕ) (t : ValueType) (old new : List value'.Value) (v : value'.Value) (w : List Value)
    → i < length ts → t ≡ get_or ts i t → kept_view v ≡ type_value (type_view t) → new ≡ old ++ v ∷ []
    → map kept_view old ++ map type_value (types_view (drop i ts)) ≡ w → map kept_view new ++ map type_value (types_view (drop (i + 1) ts)) ≡ w
one_more ts i t old new v w h e k n was =
    ap (λ vs. map kept_view vs ++ map type_value (types_view (drop (i + 1) ts))) n
    ∙ ap (λ ys. ys ++ map type_value (types_view (drop (i + 1) ts))) (map-append kept_view old (v ∷ []))
    ∙ append_assoc (map kept_view old) (kept_view v ∷ []) (map type_value (types_view (drop (i + 1) ts)))
    ∙ ap (λ z. map kept_view old ++ z ∷ map type_value (types_view (drop (i + 1) ts))) k
    ∙ ap (λ us. map kept_view old ++ map type_value us) (sym (next ts i t h e)) ∙ was
  where
    next : (ts : List ValueType) (i : ℕ) (t : ValueType) → i < length ts → t ≡ get_or ts i t → types_view (drop i ts) ≡ type_view t ∷ types_view (drop (i + 1) ts)
    next ts i t h e =
        ap types_view (drop-cons ts i t h) ∙ ap (λ y. type_view y ∷ types_view (drop (suc i) ts)) (sym e) ∙ ap (λ n. type_view t ∷ types_view (drop n ts)) (let k : suc i ≡ i + 1 = omega arith in k)

pub no_more : (ts : List ValueType) (i : ℕ) (vs : List value'.Value) (w : List Value) → length ts ≤ i → map kept_view vs ++ map type_value (types_view (drop i ts)) ≡ w → map kept_view vs ≡ w
no_more ts i vs w h was = sym (append-nil (map kept_view vs)) ∙ ap (λ us. map kept_view vs ++ map type_value (types_view us)) (sym (drop_all i ts h)) ∙ was

-- the values of a tuple's types
pub tuple_seen : (ts : List ValueType) (vs : List value'.Value) (n : ℕ) (v : value'.Value) → map kept_view vs ≡ map type_value (types_view ts) → n ≡ length ts
    → kept_view v ≡ places_value n (kept_items vs) → kept_view v ≡ type_value (tuple_type (types (types_view ts)))
tuple_seen ts vs n v e l h =
    h ∙ (λ i. places_value ((l ∙ sym (long ts)) i) (items (e i)))
    ∙ (λ i. places_value (sym (count_of_types (types_view ts)) i) (sym (values_of_types (types_view ts)) i))
  where
    long : (ts : List ValueType) → length (types_view ts) ≡ length ts
    long [] = refl
    long (t ∷ ts) = ap suc (long ts)

-- the reference to an item is the text of its place among the definitions
pub reference_text : (n : List ℕ) → location_text (codes "definitions" ∷ n ∷ []) ≡ item_reference n
reference_text n = ap (λ z. codes "#/definitions/" ++ z) (append-nil (escaped n))

-- ---- copies

snoc : Items → Value → Items
snoc no_items w = item w no_items
snoc (item v vs) w = item v (snoc vs w)

items_longer : (vs : List value'.Value) (v : value'.Value) → kept_items (vs ++ v ∷ []) ≡ snoc (kept_items vs) (kept_view v)
unfolding snoc
items_longer [] v = refl
items_longer (x ∷ xs) v = ap (item (kept_view x)) (items_longer xs v)

copies_longer : (n : ℕ) (w : Value) → copies_of (suc n) w ≡ snoc (copies_of n w) w
unfolding snoc
copies_longer zero w = refl
copies_longer (suc n) w = ap (item w) (copies_longer n w)

pub one_copy : (old new : List value'.Value) (v : value'.Value) (n : ℕ) (w : Value) → new ≡ old ++ v ∷ [] → kept_view v ≡ w → kept_items old ≡ copies_of n w → kept_items new ≡ copies_of (n + 1) w
one_copy old new v n w e k was =
    ap kept_items e ∙ items_longer old v ∙ (λ i. snoc (was i) (k i)) ∙ sym (copies_longer n w) ∙ ap (λ m. copies_of m w) (let h : suc n ≡ n + 1 = omega arith in h)
