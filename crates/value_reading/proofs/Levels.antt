-- Reading at a value by its level: the parts as lists of values and of members, and a type behind its options and boxes.
use Rattle.std.proofs.Common.{◌≡◌, ℕ, zero, suc, ◌-◌, ◌==◌, List, [], ◌∷◌, map, drop, length, Bool, true, false, cond, not, ◌&&◌, Option, Some, None, refl, sym, ap, ◌∙◌, arith, rules}
use Rattle.std.specs.declared.alloc.Global.{Global}
use Rattle.std.specs.declared.vec.Vec.{Vec}
use Rattle.std.proofs.lemmas.List.{length-map}
use Rattle.schema_defs.specs.Texts.{Relations}
use Rattle.value_models.specs.declared.value_type.ValueType.{ValueType, the_lemmas as type_lemmas}
use Rattle.value_models.specs.declared.value_type.ValueType.TheVariants as types'
use Rattle.value_models.specs.TypeView.{type_view, types_view}
use Rattle.json_value.specs.Value as value
use Rattle.json_value.specs.Value.{Value, Items, Members, null, number, fraction, text, list, object, no_items, item, no_members, member, values, entries}
use Rattle.model_defs.specs.Types.{TypeModel, boolean_type, integer_type, text_type, native_type, any_type, unit_type, option_type, boxed_type, vec_type, set_type, map_type, tuple_type, array_type, item_type, outside_type, types, types_of}
use Rattle.model_defs.specs.Model.{newtype_style, FieldModel, struct_model, ContainerModel, ConversionsD, container_named}
use Rattle.model_defs.specs.Layer.{Content, MemberPart, is_null}
use Rattle.model_defs.specs.Reads.{allowed}
use Rattle.typed_defs.specs.Typed as typed
use Rattle.typed_defs.specs.Typed.{Typed, typeds, pairs}
use Rattle.typed_defs.specs.Written.{written}
use Rattle.reading_defs.specs.Reading.{Read, taken, stopped, unsound, Reader, read_map, items_read, places_read, list_read, array_read, tuple_read, object_read, pairs_read, keep_apart, absent, reader_within, value_reader, item_readers, member_readers, readers_of, reading}
use Rattle.value_parts.specs.Leaves.{leaf, is_optional, wrapped, scalar_read}
use Rattle.value_parts.specs.At.{Setting, Entry, default_of, reader, entry_part, entry_parts, type_at, item_at, content_at, container_at, body_at, pairs_at, map_at, Demand, each, by_place, demanded, leaf_at}
use Rattle.value_reading.specs.Steps.{part_at, newtype_at}

tuple_seen : (ts : Vec ValueType Global) → type_view (types'.Tuple ts) ≡ tuple_type (types (types_view ts.items))
tuple_seen ts = search (rules, type_lemmas)

module _ (s : Setting) where
  abbrev within : Value → Reader
  within v = reader_within s.models s.conversions s.relations (default_of s) v (readers_of s.models s.conversions s.relations (default_of s) v) (allowed s.models)

  reader_is : (v : Value) → reader s v ≡ within v
  reader_is null = refl
  reader_is (value.boolean b) = refl
  reader_is (number z) = refl
  reader_is fraction = refl
  reader_is (text n) = refl
  reader_is (list xs) = refl
  reader_is (object ms) = refl

  pub as_type_is : (t : TypeModel) (v : Value) → (reader s v).as_type t ≡ part_at s t v
  as_type_is t v = let asked : Reader → Read Typed = λ r. r.as_type t in ap asked (reader_is v)

  pub as_content_is : (c : Content) (v : Value) → (reader s v).as_content c ≡ content_at s (allowed s.models) c v
  as_content_is c v = let asked : Reader → Read (List Typed) = λ r. r.as_content c in ap asked (reader_is v)

  pub items_seen : (xs : Items) → item_readers s.models s.conversions s.relations (default_of s) xs ≡ map (reader s) (values xs)
  items_seen no_items = refl
  items_seen (item v vs) = ap (λ rs. reader s v ∷ rs) (items_seen vs)

  pub members_seen : (ms : Members) → member_readers s.models s.conversions s.relations (default_of s) ms ≡ entry_parts s (entries ms)
  members_seen no_members = refl
  members_seen (member k v ms) = ap (λ ps. entry_part s (k, v) ∷ ps) (members_seen ms)

  -- ---- lists

  list_is : (t : TypeModel) (v : Value) → list_read t (readers_of s.models s.conversions s.relations (default_of s) v) ≡ demanded s (each t) None v
  list_is t null = refl
  list_is t (value.boolean b) = refl
  list_is t (number z) = refl
  list_is t fraction = refl
  list_is t (text n) = refl
  list_is t (list xs) = ap (items_read 0 t) (items_seen xs)
  list_is t (object ms) = refl

  count_is : (xs : Items) → length (item_readers s.models s.conversions s.relations (default_of s) xs) ≡ length (values xs)
  count_is xs = ap length (items_seen xs) ∙ length-map (values xs) (reader s)

  array_is : (t : TypeModel) (n : ℕ) (v : Value) → array_read t n (readers_of s.models s.conversions s.relations (default_of s) v) ≡ demanded s (each t) (Some n) v
  array_is t n null = refl
  array_is t n (value.boolean b) = refl
  array_is t n (number z) = refl
  array_is t n fraction = refl
  array_is t n (text m) = refl
  array_is t n (list xs) = λ i. cond (count_is xs i == n) (items_read 0 t (items_seen xs i)) (stopped [])
  array_is t n (object ms) = refl

  pub tuple_is : (ts : List TypeModel) (v : Value) → tuple_read ts (readers_of s.models s.conversions s.relations (default_of s) v) ≡ demanded s (by_place ts) (Some (length ts)) v
  tuple_is ts null = refl
  tuple_is ts (value.boolean b) = refl
  tuple_is ts (number z) = refl
  tuple_is ts fraction = refl
  tuple_is ts (text m) = refl
  tuple_is ts (list xs) = λ i. cond (count_is xs i == length ts) (places_read 0 ts (items_seen xs i)) (stopped [])
  tuple_is ts (object ms) = refl

  map_is : (k t : TypeModel) (v : Value) → object_read k t (readers_of s.models s.conversions s.relations (default_of s) v) ≡ read_map (λ es. typed.map_of (pairs es)) (map_at s k t v)
  map_is k t null = refl
  map_is k t (value.boolean b) = refl
  map_is k t (number z) = refl
  map_is k t fraction = refl
  map_is k t (text m) = refl
  map_is k t (list xs) = refl
  map_is k t (object ms) = ap (λ ps. read_map (λ es. typed.map_of (pairs es)) (pairs_read k t ps)) (members_seen ms)

  -- ---- behind options and boxes

  unchanged : (b : Bool) (r q : Read Typed) → r ≡ q → r ≡ cond (b && false) (taken typed.none) (read_map (λ x. x) q)
  unchanged true r (taken x) h = h
  unchanged true r (stopped l) h = h
  unchanged true r unsound h = h
  unchanged false r (taken x) h = h
  unchanged false r (stopped l) h = h
  unchanged false r unsound h = h

  in_option : (b o : Bool) (w : Typed → Typed) (q : Read Typed)
      → cond b (taken typed.none) (read_map typed.some (cond (b && o) (taken typed.none) (read_map w q))) ≡ cond (b && true) (taken typed.none) (read_map (λ x. typed.some (w x)) q)
  in_option true o w q = refl
  in_option false o w (taken x) = refl
  in_option false o w (stopped l) = refl
  in_option false o w unsound = refl

  abbrev by_leaf : ℕ → TypeModel → Value → Read Typed
  by_leaf k t v = cond (is_null v && is_optional t) (taken typed.none) (read_map (wrapped t) (leaf_at s k (leaf t) v))

  pub behind : (k : ℕ) (t : TypeModel) (v : Value) → type_at s k t v ≡ by_leaf k t v
  behind k boolean_type v = unchanged (is_null v) (type_at s k boolean_type v) (leaf_at s k boolean_type v) refl
  behind k (integer_type g) v = unchanged (is_null v) (type_at s k (integer_type g) v) (leaf_at s k (integer_type g) v) refl
  behind k text_type v = unchanged (is_null v) (type_at s k text_type v) (leaf_at s k text_type v) refl
  behind k (native_type f) v = unchanged (is_null v) (type_at s k (native_type f) v) (leaf_at s k (native_type f) v) refl
  behind k any_type v = unchanged (is_null v) (type_at s k any_type v) (leaf_at s k any_type v) refl
  behind k unit_type v = unchanged (is_null v) (type_at s k unit_type v) (leaf_at s k unit_type v) refl
  behind k (option_type t) v = ap (λ r. cond (is_null v) (taken typed.none) (read_map typed.some r)) (behind k t v) ∙ in_option (is_null v) (is_optional t) (wrapped t) (leaf_at s k (leaf t) v)
  behind k (boxed_type t) v = behind k t v
  behind k (vec_type t) v = unchanged (is_null v) (type_at s k (vec_type t) v) (leaf_at s k (vec_type t) v) (ap (read_map (λ xs. typed.list (typeds xs))) (list_is t v))
  behind k (set_type t) v = unchanged (is_null v) (type_at s k (set_type t) v) (leaf_at s k (set_type t) v) (ap (read_map (λ xs. typed.list (typeds (keep_apart (written s.models t) [] xs)))) (list_is t v))
  behind k (map_type u t) v = unchanged (is_null v) (type_at s k (map_type u t) v) (leaf_at s k (map_type u t) v) (map_is u t v)
  behind k (tuple_type ts) v = unchanged (is_null v) (type_at s k (tuple_type ts) v) (leaf_at s k (tuple_type ts) v) (ap (read_map (λ xs. typed.list (typeds xs))) (tuple_is (types_of ts) v))
  behind k (array_type t n) v = unchanged (is_null v) (type_at s k (array_type t n) v) (leaf_at s k (array_type t n) v) (ap (read_map (λ xs. typed.list (typeds xs))) (array_is t n v))
  behind k (item_type n) v = unchanged (is_null v) (type_at s k (item_type n) v) (leaf_at s k (item_type n) v) refl
  behind k outside_type v = unchanged (is_null v) (type_at s k outside_type v) (leaf_at s k outside_type v) refl

  pub absent_level : (k : ℕ) (t : TypeModel) (v : Value) (b : Bool) → b ≡ (is_null v && is_optional t) → b ≡ true → taken typed.none ≡ type_at s k t v
  absent_level k t v b e h = sym (behind k t v ∙ ap (λ c. cond c (taken typed.none) (read_map (wrapped t) (leaf_at s k (leaf t) v))) (sym e ∙ h))

  pub present_level : (k : ℕ) (t u : TypeModel) (v : Value) (b : Bool) (r o : Read Typed) → b ≡ (is_null v && is_optional t) → b ≡ false → u ≡ leaf t
      → r ≡ leaf_at s k u v → o ≡ read_map (wrapped t) r → o ≡ type_at s k t v
  present_level k t u v b r o e h l is w =
      w ∙ ap (read_map (wrapped t)) (is ∙ ap (λ z. leaf_at s k z v) l)
      ∙ sym (behind k t v ∙ ap (λ c. cond c (taken typed.none) (read_map (wrapped t) (leaf_at s k (leaf t) v))) (sym e ∙ h))

  pub part_here : (k : ℕ) (t : TypeModel) (v : Value) (o : Read Typed) → k ≡ allowed s.models → o ≡ type_at s k t v → o ≡ part_at s t v
  part_here k t v o h w = w ∙ ap (λ j. type_at s j t v) h

  -- ---- items

  pub item_there : (k : ℕ) (n : List ℕ) (v : Value) (m : ContainerModel) (o : Read Typed) → (k ≡ 0 → ⊥) → Some m ≡ container_named n s.models
      → o ≡ container_at s (k - 1) (Some m) v → o ≡ item_at s k n v
  item_there zero n v m o h e g = absurd (h refl)
  item_there (suc k) n v m o h e g =
      let less : suc k - 1 ≡ k = omega arith in
      g ∙ ap (λ j. container_at s j (Some m) v) less ∙ ap (λ c. container_at s k c v) e

  pub item_nowhere : (k : ℕ) (n : List ℕ) (v : Value) → (k ≡ 0 → ⊥) → None ≡ container_named n s.models → stopped [] ≡ item_at s k n v
  item_nowhere zero n v h e = absurd (h refl)
  item_nowhere (suc k) n v h e = ap (λ c. container_at s k c v) e

  pub items_spent : (k : ℕ) (n : List ℕ) (v : Value) → k ≡ 0 → stopped [] ≡ item_at s k n v
  items_spent zero n v h = refl
  items_spent (suc k) n v h = absurd (omega (arith, h))

  pub newtype_is : (k : ℕ) (closed : Bool) (fs : List FieldModel) (v : Value) → newtype_at s k fs v ≡ body_at s k closed (struct_model newtype_style fs) v
  newtype_is k closed [] v = refl
  newtype_is k closed (f ∷ []) v = refl
  newtype_is k closed (f ∷ g ∷ fs) v = refl

  pub newtype_there : (k : ℕ) (closed : Bool) (fs : List FieldModel) (v : Value) (o : Read Typed) → o ≡ newtype_at s k fs v → o ≡ body_at s k closed (struct_model newtype_style fs) v
  newtype_there k closed fs v o h = h ∙ newtype_is k closed fs v

  -- ---- tuples

  types_back : (ts : List TypeModel) → types_of (types ts) ≡ ts
  types_back [] = refl
  types_back (t ∷ ts) = ap (λ us. t ∷ us) (types_back ts)

  tuple_leaf : (k : ℕ) (ts : List TypeModel) (v : Value) → read_map (λ xs. typed.list (typeds xs)) (demanded s (by_place ts) (Some (length ts)) v) ≡ leaf_at s k (tuple_type (types ts)) v
  tuple_leaf k ts v = ap (λ us. read_map (λ xs. typed.list (typeds xs)) (demanded s (by_place us) (Some (length us)) v)) (sym (types_back ts))

  pub tuple_level : (k : ℕ) (t : ValueType) (us : Vec ValueType Global) (ts : List ValueType) (n : Option ℕ) (v : Value) (r : Read (List Typed)) (o : Read Typed) → t ≡ types'.Tuple us → ts ≡ us.items
      → n ≡ Some (length (types_view ts)) → r ≡ demanded s (by_place (types_view ts)) n v → o ≡ read_map (λ xs. typed.list (typeds xs)) r → o ≡ leaf_at s k (type_view t) v
  tuple_level k t us ts n v r o e i m is w =
      w ∙ ap (read_map (λ xs. typed.list (typeds xs))) (is ∙ ap (λ j. demanded s (by_place (types_view ts)) j v) m) ∙ tuple_leaf k (types_view ts) v
      ∙ ap (λ us. leaf_at s k (tuple_type (types (types_view us))) v) i ∙ sym (ap (λ u. leaf_at s k u v) (ap type_view e ∙ tuple_seen us))

-- ---- the whole value

pub reading_here : (ms : List ContainerModel) (cs : ConversionsD) (r : Relations) (more : ℕ) (entered : List ℕ) (t : TypeModel) (v : Value) (o : Read Typed) → more ≡ length cs.defaults → entered ≡ []
    → o ≡ part_at (record { models = ms; conversions = cs; relations = r; more = more; entered = entered }) t v → o ≡ reading ms cs r t v
reading_here ms cs r more entered t v o m e h =
    h ∙ (λ i. part_at (record { models = ms; conversions = cs; relations = r; more = m i; entered = e i }) t v)
    ∙ sym (as_type_is (record { models = ms; conversions = cs; relations = r; more = length cs.defaults; entered = [] }) t v)
