-- The values of types, by what they are made of.
use Rattle.std.proofs.Common.{◌≡◌, ℕ, ℤ, pos, negsuc, neg_ℤ, ◌<◌, List, map, cond, Bool, true, ◌||◌, refl, ap, ◌∙◌, int_le, arith}
use Rattle.std.specs.Prelude.{◌==◌, replicate}
use Rattle.std.specs.List.{list_all}
use Rattle.std.proofs.lemmas.Int.{ints}
use Rattle.std.proofs.lemmas.Bool.{lt-ltb}
use Rattle.json_value.specs.Value.{Value, number, null, list, items}
use Rattle.schema_defs.specs.Integers.{in_range}
use Rattle.typed_defs.specs.Written.{json_number}
use Rattle.model_defs.specs.Types.{TypeModel, boolean_type, integer_type, text_type, native_type, any_type, unit_type, option_type, boxed_type, vec_type, set_type, map_type, tuple_type, array_type, item_type, outside_type}
use Rattle.model_defs.specs.Model.{ContainerModel, ConversionsD}
use Rattle.model_defs.specs.Layer.{one_type}
use Rattle.example_defs.specs.Built.{nearest, is_i64}
use Rattle.example_laws.proofs.Small.{left, right}
use Rattle.example_values.specs.Leaves.{leaf_made}
use Rattle.example_values.specs.Shapes.{ShapeD, a_leaf, same_as, each_of, copies_of, of_item, shape_of}
use Rattle.example_values.specs.Made.{IsFirst, IsMade, AreMade, AreCopies, IsNamedMade}
use Rattle.example_values.proofs.Firsts.{B, M, BN, MN, by_first}

-- ---- numbers

as_json : (z : ℤ) → is_i64 z ≡ true → json_number z ≡ number z
as_json (pos n) h =
    let b = right (int_le (neg_ℤ (pos 9223372036854775808)) (pos n)) (int_le (pos n) (pos 9223372036854775807)) h in
    let k : n < 18446744073709551616 = grind (arith, ints) in
    ap (λ t. cond t (number (pos n)) null) (lt-ltb n 18446744073709551616 k)
as_json (negsuc n) h =
    let a = left (int_le (neg_ℤ (pos 9223372036854775808)) (negsuc n)) (int_le (negsuc n) (pos 9223372036854775807)) h in
    let k : n < 9223372036854775808 = grind (arith, ints) in
    ap (λ t. cond t (number (negsuc n)) null) (lt-ltb n 9223372036854775808 k)

module _ (ms : List ContainerModel) (cs : ConversionsD) where
  leaf_is : (t : TypeModel) (k : ℕ) → a_leaf ≡ shape_of t → BN ms cs k (one_type t) ≡ true → leaf_made t ≡ MN ms cs k (one_type t)
  leaf_is boolean_type k e h = refl
  leaf_is (integer_type g) k e h = as_json (nearest g) (right (in_range (nearest g) g) (is_i64 (nearest g)) h)
  leaf_is text_type k e h = refl
  leaf_is (native_type f) k e h = refl
  leaf_is any_type k e h = refl
  leaf_is unit_type k e h = refl
  leaf_is (option_type t) k e h = refl
  leaf_is (boxed_type t) k e h = cc
  leaf_is (vec_type t) k e h = refl
  leaf_is (set_type t) k e h = refl
  leaf_is (map_type n t) k e h = refl
  leaf_is (tuple_type ts) k e h = cc
  leaf_is (array_type t n) k e h = cc
  leaf_is (item_type n) k e h = cc
  leaf_is outside_type k e h = refl

  pub by_leaf : (t : TypeModel) (v : Value) → a_leaf ≡ shape_of t → v ≡ leaf_made t → IsMade ms cs (one_type t) v
  unfolding IsMade
  by_leaf t v e d = by_first ms cs (one_type t) v (λ k f. d ∙ leaf_is t k e f.now)

  -- ---- types that hold others

  abbrev built_as : ℕ → TypeModel → ShapeD → Bool
  built_as k t a_leaf = BN ms cs k (one_type t)
  built_as k t (same_as u) = B ms cs k (one_type u)
  built_as k t (each_of us) = list_all (λ u. B ms cs k (one_type u)) us
  built_as k t (copies_of u n) = (n == 0) || B ms cs k (one_type u)
  built_as k t (of_item n) = BN ms cs k (one_type (item_type n))

  abbrev made_as : ℕ → TypeModel → ShapeD → Value
  made_as k t a_leaf = MN ms cs k (one_type t)
  made_as k t (same_as u) = M ms cs k (one_type u)
  made_as k t (each_of us) = list (items (map (λ u. M ms cs k (one_type u)) us))
  made_as k t (copies_of u n) = list (items (replicate n (M ms cs k (one_type u))))
  made_as k t (of_item n) = MN ms cs k (one_type (item_type n))

  as_built : (k : ℕ) (t : TypeModel) → built_as k t (shape_of t) ≡ BN ms cs k (one_type t)
  as_built k boolean_type = refl
  as_built k (integer_type g) = refl
  as_built k text_type = refl
  as_built k (native_type f) = refl
  as_built k any_type = refl
  as_built k unit_type = refl
  as_built k (option_type t) = refl
  as_built k (boxed_type t) = refl
  as_built k (vec_type t) = refl
  as_built k (set_type t) = refl
  as_built k (map_type n t) = refl
  as_built k (tuple_type ts) = refl
  as_built k (array_type t n) = refl
  as_built k (item_type n) = refl
  as_built k outside_type = refl

  as_made : (k : ℕ) (t : TypeModel) → made_as k t (shape_of t) ≡ MN ms cs k (one_type t)
  as_made k boolean_type = refl
  as_made k (integer_type g) = refl
  as_made k text_type = refl
  as_made k (native_type f) = refl
  as_made k any_type = refl
  as_made k unit_type = refl
  as_made k (option_type t) = refl
  as_made k (boxed_type t) = refl
  as_made k (vec_type t) = refl
  as_made k (set_type t) = refl
  as_made k (map_type n t) = refl
  as_made k (tuple_type ts) = refl
  as_made k (array_type t n) = refl
  as_made k (item_type n) = refl
  as_made k outside_type = refl

  -- a type of that shape
  by_shape : (t : TypeModel) (d : ShapeD) (v : Value) → d ≡ shape_of t → ((k : ℕ) → IsFirst (λ j. built_as j t d) k → v ≡ made_as k t d) → (n : ℕ) → B ms cs n (one_type t) ≡ true → v ≡ M ms cs n (one_type t)
  by_shape t d v e h =
      by_first ms cs (one_type t) v (λ k f.
      h k (record {
        now = ap (built_as k t) e ∙ as_built k t ∙ f.now;
        before = λ j s. ap (built_as j t) e ∙ as_built j t ∙ f.before j s;
      })
      ∙ ap (made_as k t) e ∙ as_made k t)

  pub by_same : (t u : TypeModel) (v : Value) → same_as u ≡ shape_of t → IsMade ms cs (one_type u) v → IsMade ms cs (one_type t) v
  unfolding IsMade
  by_same t u v e m = by_shape t (same_as u) v e (λ k f. m k f.now)

  pub by_each : (t : TypeModel) (us : List TypeModel) (vs : List Value) (v : Value) → each_of us ≡ shape_of t → AreMade ms cs us vs → v ≡ list (items vs) → IsMade ms cs (one_type t) v
  unfolding IsMade AreMade
  by_each t us vs v e m d = by_shape t (each_of us) v e (λ k f. d ∙ ap (λ xs. list (items xs)) (m k f.now))

  pub by_copies : (t u : TypeModel) (n : ℕ) (vs : List Value) (v : Value) → copies_of u n ≡ shape_of t → AreCopies ms cs u n vs → v ≡ list (items vs) → IsMade ms cs (one_type t) v
  unfolding IsMade AreCopies
  by_copies t u n vs v e m d = by_shape t (copies_of u n) v e (λ k f. d ∙ ap (λ xs. list (items xs)) (m k f.now))

  pub by_item : (t : TypeModel) (n : List ℕ) (v : Value) → of_item n ≡ shape_of t → IsNamedMade ms cs n v → IsMade ms cs (one_type t) v
  unfolding IsMade IsNamedMade
  by_item t n v e m = by_shape t (of_item n) v e (λ k f. m k f)
