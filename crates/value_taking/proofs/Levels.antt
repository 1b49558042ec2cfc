-- Whether a value is read, by its level: its parts as lists of values and of members, and a type behind its options and boxes.
use Rattle.std.proofs.Common.{◌≡◌, ℕ, zero, suc, ◌-◌, ◌==◌, List, [], ◌∷◌, length, Bool, true, false, ◌&&◌, ◌||◌, Some, None, refl, sym, ap, ◌∙◌, arith, ne_eqb, eq-eqb, eqb-true}
use Rattle.std.proofs.lemmas.Bool.{eqb-false}
use Rattle.std.specs.List.{list_all}
use Rattle.json_value.specs.Value as value
use Rattle.json_value.specs.Value.{Value, Items, Members, null, number, fraction, text, list, object, no_items, item, no_members, member, values, entries}
use Rattle.schema_defs.specs.declared.Format.{Format}
use Rattle.model_defs.specs.Types.{TypeModel, boolean_type, integer_type, text_type, native_type, any_type, unit_type, option_type, boxed_type, vec_type, set_type, map_type, tuple_type, array_type, item_type, outside_type, types_of}
use Rattle.model_defs.specs.Model.{ContainerModel, container_named}
use Rattle.model_defs.specs.Layer.{Content, one_type, is_null, has_the_format, each_item, of_length, by_places, in_places, as_map, each_member}
use Rattle.model_defs.specs.Reads.{allowed, reads, item_judges, member_judges}
use Rattle.example_defs.specs.Enough.{no_texts}
use Rattle.value_parts.specs.At.{Entry, each, by_place}
use Rattle.value_parts.specs.Leaves.{leaf, is_optional}
use Rattle.value_taking.specs.At.{Tables, judge, parts, entry_part, entry_parts, type_at, item_at, content_at, container_at, found_at, part_at, in_front, demanded, pairs_at, map_at, leaf_at}

-- ---- tests

same_length : (m n : ℕ) (b : Bool) → (m == n) ≡ b → (suc m == suc n) ≡ b
same_length m n true h = eq-eqb (suc m) (suc n) (ap suc (eqb-true m n h))
same_length m n false h = ne_eqb (suc m) (suc n) (λ e. eqb-false m n h (omega (arith, e)))

module _ (s : Tables) where
  judge_is : (v : Value) (c : Content) → judge s v c ≡ content_at s (allowed s.models) c v
  judge_is null c = refl
  judge_is (value.boolean b) c = refl
  judge_is (number z) c = refl
  judge_is fraction c = refl
  judge_is (text n) c = refl
  judge_is (list xs) c = refl
  judge_is (object ms) c = refl

  pub as_type_is : (t : TypeModel) (v : Value) → judge s v (one_type t) ≡ part_at s t v
  as_type_is t v = judge_is v (one_type t)

  pub as_content_is : (c : Content) (v : Value) → judge s v c ≡ content_at s (allowed s.models) c v
  as_content_is c v = judge_is v c

  pub members_seen : (ms : Members) → member_judges s.models s.conversions no_texts ms ≡ entry_parts s (entries ms)
  members_seen no_members = refl
  members_seen (member k v ms) = ap (λ ps. entry_part s (k, v) ∷ ps) (members_seen ms)

  -- ---- lists

  each_is : (t : TypeModel) (xs : Items) → list_all (λ j. j (one_type t)) (item_judges s.models s.conversions no_texts xs) ≡ list_all (part_at s t) (values xs)
  each_is t no_items = refl
  each_is t (item v vs) = λ i. as_type_is t v i && each_is t vs i

  count_is : (xs : Items) → length (item_judges s.models s.conversions no_texts xs) ≡ length (values xs)
  count_is no_items = refl
  count_is (item v vs) = ap suc (count_is vs)

  list_is : (t : TypeModel) (v : Value) → each_item (one_type t) (parts s v) ≡ demanded s (each t) None v
  list_is t null = refl
  list_is t (value.boolean b) = refl
  list_is t (number z) = refl
  list_is t fraction = refl
  list_is t (text n) = refl
  list_is t (list xs) = each_is t xs
  list_is t (object ms) = refl

  array_is : (t : TypeModel) (n : ℕ) (v : Value) → (of_length n (parts s v) && each_item (one_type t) (parts s v)) ≡ demanded s (each t) (Some n) v
  array_is t n null = refl
  array_is t n (value.boolean b) = refl
  array_is t n (number z) = refl
  array_is t n fraction = refl
  array_is t n (text m) = refl
  array_is t n (list xs) = λ i. (count_is xs i == n) && each_is t xs i
  array_is t n (object ms) = refl

  longer : (b c p q : Bool) → c ≡ b → q ≡ (b && p) → (r : Bool) → (r && q) ≡ (c && (r && p))
  longer true c p q h g true = g ∙ ap (λ d. d && p) (sym h)
  longer false c p q h g true = g ∙ ap (λ d. d && p) (sym h)
  longer true c p q h g false = ap (λ d. d && false) (sym h)
  longer false c p q h g false = ap (λ d. d && false) (sym h)

  places_are : (ts : List TypeModel) (xs : Items) → in_places ts (item_judges s.models s.conversions no_texts xs) ≡ ((length (values xs) == length ts) && in_front s ts (values xs))
  places_are [] no_items = refl
  places_are [] (item v vs) = ap (λ b. b && true) (sym (ne_eqb (suc (length (values vs))) 0 (λ e. omega (arith, e))))
  places_are (t ∷ ts) no_items = ap (λ b. b && true) (sym (ne_eqb 0 (suc (length ts)) (λ e. omega (arith, e))))
  places_are (t ∷ ts) (item v vs) =
      longer (length (values vs) == length ts) (suc (length (values vs)) == suc (length ts)) (in_front s ts (values vs)) (in_places ts (item_judges s.models s.conversions no_texts vs))
      (same_length (length (values vs)) (length ts) (length (values vs) == length ts) refl) (places_are ts vs) (judge s v (one_type t))
      ∙ ap (λ r. (suc (length (values vs)) == suc (length ts)) && (r && in_front s ts (values vs))) (as_type_is t v)

  pub tuple_is : (ts : List TypeModel) (v : Value) → by_places ts (parts s v) ≡ demanded s (by_place ts) (Some (length ts)) v
  tuple_is ts null = refl
  tuple_is ts (value.boolean b) = refl
  tuple_is ts (number z) = refl
  tuple_is ts fraction = refl
  tuple_is ts (text m) = refl
  tuple_is ts (list xs) = places_are ts xs
  tuple_is ts (object ms) = refl

  -- ---- maps

  pub pairs_are : (k t : TypeModel) (es : List Entry) → each_member k t (entry_parts s es) ≡ pairs_at s k t es
  pairs_are k t [] = refl
  pairs_are k t (e ∷ es) = λ i. (part_at s k (text e.0) && as_type_is t e.1 i) && pairs_are k t es i

  map_is : (k t : TypeModel) (v : Value) → as_map k t (parts s v) ≡ map_at s k t v
  map_is k t null = refl
  map_is k t (value.boolean b) = refl
  map_is k t (number z) = refl
  map_is k t fraction = refl
  map_is k t (text m) = refl
  map_is k t (list xs) = refl
  map_is k t (object ms) = ap (each_member k t) (members_seen ms) ∙ pairs_are k t (entries ms)

  -- ---- behind options and boxes

  no_format : (f : Format) (v : Value) → has_the_format no_texts f v ≡ false
  no_format f null = refl
  no_format f (value.boolean b) = refl
  no_format f (number z) = refl
  no_format f fraction = refl
  no_format f (text n) = refl
  no_format f (list xs) = refl
  no_format f (object ms) = refl

  unchanged : (b r q : Bool) → r ≡ q → r ≡ ((b && false) || q)
  unchanged true r q h = h
  unchanged false r q h = h

  in_option : (b o q : Bool) → (b || ((b && o) || q)) ≡ ((b && true) || q)
  in_option true o q = refl
  in_option false o q = refl

  pub behind : (k : ℕ) (t : TypeModel) (v : Value) → type_at s k t v ≡ ((is_null v && is_optional t) || leaf_at s k (leaf t) v)
  behind k boolean_type v = unchanged (is_null v) (type_at s k boolean_type v) (leaf_at s k boolean_type v) refl
  behind k (integer_type g) v = unchanged (is_null v) (type_at s k (integer_type g) v) (leaf_at s k (integer_type g) v) refl
  behind k text_type v = unchanged (is_null v) (type_at s k text_type v) (leaf_at s k text_type v) refl
  behind k (native_type f) v = unchanged (is_null v) (type_at s k (native_type f) v) (leaf_at s k (native_type f) v) (no_format f v)
  behind k any_type v = unchanged (is_null v) (type_at s k any_type v) (leaf_at s k any_type v) refl
  behind k unit_type v = unchanged (is_null v) (type_at s k unit_type v) (leaf_at s k unit_type v) refl
  behind k (option_type t) v = ap (λ r. is_null v || r) (behind k t v) ∙ in_option (is_null v) (is_optional t) (leaf_at s k (leaf t) v)
  behind k (boxed_type t) v = behind k t v
  behind k (vec_type t) v = unchanged (is_null v) (type_at s k (vec_type t) v) (leaf_at s k (vec_type t) v) (list_is t v)
  behind k (set_type t) v = unchanged (is_null v) (type_at s k (set_type t) v) (leaf_at s k (set_type t) v) (list_is t v)
  behind k (map_type u t) v = unchanged (is_null v) (type_at s k (map_type u t) v) (leaf_at s k (map_type u t) v) (map_is u t v)
  behind k (tuple_type ts) v = unchanged (is_null v) (type_at s k (tuple_type ts) v) (leaf_at s k (tuple_type ts) v) (tuple_is (types_of ts) v)
  behind k (array_type t n) v = unchanged (is_null v) (type_at s k (array_type t n) v) (leaf_at s k (array_type t n) v) (array_is t n v)
  behind k (item_type n) v = unchanged (is_null v) (type_at s k (item_type n) v) (leaf_at s k (item_type n) v) refl
  behind k outside_type v = unchanged (is_null v) (type_at s k outside_type v) (leaf_at s k outside_type v) refl

  pub absent_level : (k : ℕ) (t : TypeModel) (v : Value) (b : Bool) → b ≡ (is_null v && is_optional t) → b ≡ true → true ≡ type_at s k t v
  absent_level k t v b e h = sym (behind k t v ∙ ap (λ c. c || leaf_at s k (leaf t) v) (sym e ∙ h))

  pub present_level : (k : ℕ) (t u : TypeModel) (v : Value) (b o : Bool) → b ≡ (is_null v && is_optional t) → b ≡ false → u ≡ leaf t → o ≡ leaf_at s k u v → o ≡ type_at s k t v
  present_level k t u v b o e h l is =
      is ∙ ap (λ z. leaf_at s k z v) l ∙ sym (behind k t v ∙ ap (λ c. c || leaf_at s k (leaf t) v) (sym e ∙ h))

  pub part_here : (k : ℕ) (t : TypeModel) (v : Value) (o : Bool) → k ≡ allowed s.models → o ≡ type_at s k t v → o ≡ part_at s t v
  part_here k t v o h w = w ∙ ap (λ j. type_at s j t v) h

  pub value_here : (t : TypeModel) (v : Value) (o : Bool) → o ≡ part_at s t v → o ≡ reads s.models s.conversions no_texts t v
  value_here t v o h = h ∙ sym (as_type_is t v)

  -- ---- items

  pub item_there : (k : ℕ) (n : List ℕ) (v : Value) (m : ContainerModel) (o : Bool) → (k ≡ 0 → ⊥) → Some m ≡ container_named n s.models → o ≡ container_at s (k - 1) m v → o ≡ item_at s k n v
  item_there zero n v m o h e g = absurd (h refl)
  item_there (suc k) n v m o h e g =
      let less : suc k - 1 ≡ k = omega arith in
      g ∙ ap (λ j. container_at s j m v) less ∙ ap (λ c. found_at s k c v) e

  pub item_nowhere : (k : ℕ) (n : List ℕ) (v : Value) → (k ≡ 0 → ⊥) → None ≡ container_named n s.models → false ≡ item_at s k n v
  item_nowhere zero n v h e = absurd (h refl)
  item_nowhere (suc k) n v h e = ap (λ c. found_at s k c v) e

  pub items_spent : (k : ℕ) (n : List ℕ) (v : Value) → k ≡ 0 → false ≡ item_at s k n v
  items_spent zero n v h = refl
  items_spent (suc k) n v h = absurd (omega (arith, h))
