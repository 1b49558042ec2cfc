-- Parts are smaller than what they are parts of.
use Rattle.std.proofs.Common.{◌≡◌, ℕ, zero, suc, ◌+◌, ◌<◌, ◌≤◌, List, [], ◌∷◌, map, drop, length, get_or, filter, Bool, true, false, cond, not, Option, Some, None, slice_get, bytes_eq, refl, sym, ap, ◌∙◌, arith, BTreeMap, String, is_some, true≢false, rules}
use Rattle.std.specs.List.{list_any}
use Rattle.std.specs.declared.alloc.Global.{Global}
use Rattle.std.specs.declared.vec.Vec.{Vec}
use Rattle.serde_json.specs.declared.value.Value as json
use Rattle.serde_json.specs.declared.value.Value.{the_lemmas as json_lemmas}
use Rattle.serde_json.specs.declared.value.Value.TheVariants as json'
use Rattle.std.proofs.lemmas.List.{length-map}
use Rattle.value_models.specs.declared.field.Field.{Field}
use Rattle.value_models.specs.FieldView.{field_view, fields_view}
use Rattle.value_models.specs.VariantView.{fields_in}
use Rattle.value_parts.specs.declared.sorted.Sorted.{Sorted}
use Rattle.serde_json.specs.View.{members_view, items_view}
use Rattle.serde_json.proofs.Views.{view-Array, view-Object}
use Rattle.json_value.specs.Value as value
use Rattle.json_value.specs.Value.{Value, Items, Members, null, number, fraction, text, list, object, no_members, member, values, entries, value_size}
use Rattle.json_value.specs.View.{value_of, items_of, members_of, kept_view}
use Rattle.model_defs.specs.Model.{Style, struct_style, tuple_style, newtype_style, unit_style, FieldModel, VariantModel, TagModel, external_tag, internal_tag, adjacent_tag, untagged}
use Rattle.model_defs.specs.Layer.{is_unit}
use Rattle.reading_defs.specs.Reading.{stopped}
use Rattle.value_parts.specs.declared.members.Member.{Member}
use Rattle.value_parts.specs.At.{Entry}
use Rattle.value_parts.specs.Choice.{Choice, settled, inside, beside, in_turn, variant_from, entry_of, entries_without, unit_choice, contents_choice, one_choice, external_choice, tagged, bare_choice, style_choice, internal_found, content_choice, closed_choice, adjacent_found, internal_choice, adjacent_choice, entries_in, choice}
use Rattle.value_parts.specs.Entries.{entry_view, entries_view}
use Rattle.value_parts.specs.Slots.{entries_size}
use Rattle.value_parts.proofs.Turns.{mapped_drop, mapped_get}
use Rattle.value_reading.proofs.Sizes.{values_size, values_are, entries_are, values_kept}
use Rattle.value_reading.proofs.Work.{defaults_size}

pub array_kept : (v : json.Value) (vs : Vec json.Value Global) → v ≡ json'.Array vs → kept_view v ≡ list (items_of (items_view vs.items))
array_kept v vs e = ap kept_view e ∙ ap value_of (view-Array vs)

pub array_small : (v : json.Value) (vs : Vec json.Value Global) (us : List json.Value) → v ≡ json'.Array vs → us ≡ vs.items → values_size (map kept_view us) < value_size (kept_view v)
array_small v vs us e h =
    omega (arith, ap value_size (array_kept v vs e), sym (values_are (items_of (items_view vs.items))) ∙ ap values_size (values_kept vs.items ∙ ap (map kept_view) (sym h)))

pub object_kept : (v : json.Value) (m : BTreeMap (String Global) json.Value) → v ≡ json'.Object m → kept_view v ≡ object (members_of (members_view m.entries))
object_kept v m e = ap kept_view e ∙ ap value_of (view-Object m)

pub object_small : (v : json.Value) (m : BTreeMap (String Global) json.Value) (es : List Entry) → v ≡ json'.Object m → es ≡ entries (members_of (members_view m.entries)) → entries_size es < value_size (kept_view v)
object_small v m es e h = omega (arith, ap value_size (object_kept v m e), ap entries_size h ∙ entries_are (members_of (members_view m.entries)))

-- ---- an item, and a member, of a list

pub item_small : (vs : List json.Value) (i : ℕ) (v : json.Value) (n : ℕ) → i < length vs → v ≡ get_or vs i v → values_size (map kept_view (drop i vs)) ≤ n → value_size (kept_view v) ≤ n
item_small vs i v n h e k = omega (arith, ap values_size (mapped_drop kept_view vs i v h e), k)

pub rest_small : (vs : List json.Value) (i : ℕ) (v : json.Value) (n : ℕ) → i < length vs → v ≡ get_or vs i v → values_size (map kept_view (drop i vs)) ≤ n → values_size (map kept_view (drop (i + 1) vs)) ≤ n
rest_small vs i v n h e k = omega (arith, ap values_size (mapped_drop kept_view vs i v h e), k)

pub member_small : (ms : List Member) (i : ℕ) (m : Member) (n : ℕ) → i < length ms → m ≡ get_or ms i m → entries_size (entries_view (drop i ms)) ≤ n → 1 + value_size (entry_view m).1 ≤ n
member_small ms i m n h e k = omega (arith, ap entries_size (mapped_drop entry_view ms i m h e), k)

small_after : (ms : List Member) (i : ℕ) → entries_size (entries_view (drop (suc i) ms)) ≤ entries_size (entries_view (drop i ms))
small_after [] zero = omega arith
small_after [] (suc i) = omega arith
small_after (m ∷ ms) zero = omega arith
small_after (m ∷ ms) (suc i) = small_after ms i

pub members_small : (ms : List Member) (i n : ℕ) → entries_size (entries_view (drop i ms)) ≤ n → entries_size (entries_view (drop (i + 1) ms)) ≤ n
members_small ms i n h =
    let next : suc i ≡ i + 1 = omega arith in
    omega (arith, small_after ms i, ap (λ j. entries_size (entries_view (drop j ms))) next, h)

-- ---- a stated default

abbrev held : Value → Option Value → Value
held d None = d
held d (Some x) = x

pub some_size : (vs : List Value) → 1 ≤ defaults_size vs
some_size [] = omega arith
some_size (v ∷ vs) = omega (arith, some_size vs)

pub default_small : (vs : List Value) (i : ℕ) (v : Value) → Some v ≡ slice_get vs i → value_size v ≤ defaults_size vs
default_small [] i v h = absurd (none h)
  where
    none : Some v ≡ None → ⊥
    none e = true≢false (ap is_some e)
default_small (u ∷ vs) zero v h = omega (arith, ap value_size (same h))
  where
    same : Some v ≡ Some u → v ≡ u
    same e = ap (held v) e
default_small (u ∷ vs) (suc i) v h = omega (arith, default_small vs i v h)

-- ---- what is chosen

abbrev choice_size : Choice → ℕ
choice_size (settled r) = 0
choice_size (inside i w e) = value_size e.1
choice_size (beside i fs es) = entries_size es
choice_size (in_turn ws) = 0

kept_size : (b : Bool) (e : Entry) (ds es : List Entry) → entries_size ds ≤ entries_size es → entries_size (cond b (e ∷ ds) ds) ≤ entries_size (e ∷ es)
kept_size true e ds es h = omega (arith, h)
kept_size false e ds es h = omega (arith, h)

without_small : (n : List ℕ) (es : List Entry) → entries_size (entries_without n es) ≤ entries_size es
without_small n [] = omega arith
without_small n (e ∷ es) = kept_size (not (bytes_eq n e.0)) e (entries_without n es) es (without_small n es)

abbrev entry_size : Option Entry → ℕ
entry_size None = 0
entry_size (Some e) = value_size e.1

first_size : (b : Bool) (e : Entry) (o : Option Entry) (es : List Entry) → entry_size o ≤ entries_size es → entry_size (cond b (Some e) o) ≤ entries_size (e ∷ es)
first_size true e o es h = omega arith
first_size false e o es h = omega (arith, h)

entry_small : (n : List ℕ) (es : List Entry) → entry_size (entry_of n es) ≤ entries_size es
entry_small n [] = omega arith
entry_small n (e ∷ es) = first_size (bytes_eq n e.0) e (entry_of n es) es (entry_small n es)

size_if : (b : Bool) (c d : Choice) (n : ℕ) → choice_size c ≤ n → choice_size d ≤ n → choice_size (cond b c d) ≤ n
size_if true c d n h k = h
size_if false c d n h k = k

contents_small : (e : Entry) (o : Option (ℕ × VariantModel)) → choice_size (contents_choice e o) ≤ value_size e.1
contents_small e None = omega arith
contents_small e (Some f) = size_if (is_unit f.1) (settled (stopped [])) (inside f.0 f.1 e) (value_size e.1) (omega arith) (omega arith)

one_small : (ws : List VariantModel) (es : List Entry) → choice_size (one_choice ws es) ≤ entries_size es
one_small ws [] = omega arith
one_small ws (e ∷ []) = omega (arith, contents_small e (variant_from 0 ws e.0))
one_small ws (e ∷ d ∷ es) = omega arith

unit_small : (o : Option (ℕ × VariantModel)) → choice_size (unit_choice o) ≤ 0
unit_small None = omega arith
unit_small (Some f) = omega arith

external_small : (ws : List VariantModel) (v : Value) → choice_size (external_choice ws v) < value_size v
external_small ws null = omega arith
external_small ws (value.boolean b) = omega arith
external_small ws (number z) = omega arith
external_small ws fraction = omega arith
external_small ws (text n) = omega (arith, unit_small (variant_from 0 ws n))
external_small ws (list xs) = omega arith
external_small ws (object ms) = omega (arith, one_small ws (entries ms), entries_are ms)

bare_small : (closed : Bool) (i : ℕ) (es : List Entry) → choice_size (bare_choice closed i es) ≤ entries_size es
bare_small true i [] = omega arith
bare_small true i (e ∷ es) = omega arith
bare_small false i [] = omega arith
bare_small false i (e ∷ es) = omega arith

style_small : (closed : Bool) (i : ℕ) (w : VariantModel) (st : Style) (es : List Entry) → choice_size (style_choice closed i w st es) ≤ entries_size es
style_small closed i w struct_style es = omega arith
style_small closed i w unit_style es = bare_small closed i es
style_small closed i w tuple_style es = omega arith
style_small closed i w newtype_style es = omega arith

internal_found_small : (closed : Bool) (tag : List ℕ) (es : List Entry) (o : Option (ℕ × VariantModel)) → choice_size (internal_found closed tag es o) ≤ entries_size es
internal_found_small closed tag es None = omega arith
internal_found_small closed tag es (Some f) = omega (arith, style_small closed f.0 f.1 f.1.style (entries_without tag es), without_small tag es)

internal_small : (closed : Bool) (tag : List ℕ) (ws : List VariantModel) (es : List Entry) (o : Option Entry) → choice_size (internal_choice closed tag ws es o) ≤ entries_size es
internal_small closed tag ws es None = omega arith
internal_small closed tag ws es (Some e) = internal_found_small closed tag es (tagged ws e.1)

content_small : (i : ℕ) (w : VariantModel) (o : Option Entry) → choice_size (content_choice i w o) ≤ entry_size o
content_small i w None = omega arith
content_small i w (Some e) = size_if (is_unit w) (settled (stopped (e.0 ∷ []))) (inside i w e) (value_size e.1) (omega arith) (omega arith)

closed_small : (closed : Bool) (os : List Entry) (c : Choice) → choice_size (closed_choice closed os c) ≤ choice_size c
closed_small true [] c = omega arith
closed_small true (o ∷ os) c = omega arith
closed_small false [] c = omega arith
closed_small false (o ∷ os) c = omega arith

adjacent_found_small : (closed : Bool) (tag content : List ℕ) (es : List Entry) (o : Option (ℕ × VariantModel)) → choice_size (adjacent_found closed tag content es o) ≤ entries_size es
adjacent_found_small closed tag content es None = omega arith
adjacent_found_small closed tag content es (Some f) =
    omega (arith, closed_small closed (entries_without content (entries_without tag es)) (content_choice f.0 f.1 (entry_of content es)), content_small f.0 f.1 (entry_of content es), entry_small content es)

adjacent_small : (closed : Bool) (tag content : List ℕ) (ws : List VariantModel) (es : List Entry) (o : Option Entry) → choice_size (adjacent_choice closed tag content ws es o) ≤ entries_size es
adjacent_small closed tag content ws es None = omega arith
adjacent_small closed tag content ws es (Some e) = adjacent_found_small closed tag content es (tagged ws e.1)

entries_less : (v : Value) → entries_size (entries_in v) < value_size v
entries_less null = omega arith
entries_less (value.boolean b) = omega arith
entries_less (number z) = omega arith
entries_less fraction = omega arith
entries_less (text n) = omega arith
entries_less (list xs) = omega arith
entries_less (object ms) = omega (arith, entries_are ms)

choice_small : (closed : Bool) (tag : TagModel) (ws : List VariantModel) (v : Value) → choice_size (choice closed tag ws v) < value_size v
choice_small closed external_tag ws v = external_small ws v
choice_small closed (internal_tag tag) ws v = omega (arith, internal_small closed tag ws (entries_in v) (entry_of tag (entries_in v)), entries_less v)
choice_small closed (adjacent_tag tag content) ws v = omega (arith, adjacent_small closed tag content ws (entries_in v) (entry_of tag (entries_in v)), entries_less v)
choice_small closed untagged ws v = omega (arith, entries_less v)

pub inside_small : (closed : Bool) (tag : TagModel) (ws : List VariantModel) (v : Value) (i : ℕ) (w : VariantModel) (e : Entry) → inside i w e ≡ choice closed tag ws v → value_size e.1 < value_size v
inside_small closed tag ws v i w e h = omega (arith, ap choice_size h, choice_small closed tag ws v)

pub beside_small : (closed : Bool) (tag : TagModel) (ws : List VariantModel) (v : Value) (i : ℕ) (fs : List FieldModel) (es : List Entry) → beside i fs es ≡ choice closed tag ws v → entries_size es < value_size v
beside_small closed tag ws v i fs es h = omega (arith, ap choice_size h, choice_small closed tag ws v)

-- ---- null, and as many fields as there are

pub view-Null : kept_view json'.Null ≡ null
view-Null = search (rules, json_lemmas)

pub fields_there : (s : Sorted) (xs : List Field) → fields_view xs ≡ fields_in s.fields.now → length xs ≡ length (fields_in s.fields.now)
fields_there s xs h = sym (length-map xs field_view) ∙ ap length h
