-- Spots that the test calls the same are the same.
use Rattle.std.proofs.Common.{◌≡◌, ◌&&◌, ℕ, List, Bool, true, false, bytes_eq, nat_eq, refl, sym, ap, true≢false, arith}
use Rattle.std.proofs.lemmas.Bool.{eqb-true}
use Rattle.std.proofs.lemmas.Int.{ints}
use Rattle.std.proofs.lemmas.Slice.Eq.{bytes_eq-Decides}
use Rattle.std.specs.Ordering.{int_eq}
use Rattle.schema_defs.specs.declared.Format.{Format}
use Rattle.schema_defs.specs.declared.Format.TheVariants.{Uuid, Date, DateTime, Ip, Ipv4, Ipv6}
use Rattle.schema_defs.specs.Integers.{Range}
use Rattle.model_defs.specs.Types.{TypeModel, boolean_type, integer_type, text_type, native_type, any_type, unit_type, option_type, boxed_type, vec_type, set_type, map_type, tuple_type, array_type, item_type, outside_type, TypeModels, no_types, type_then}
use Rattle.container_defs.specs.Forms.{same_format, same_range, same_type, same_types}
use Rattle.evolve_defs.specs.Spots.{Spot, Spots, of_type, of_variant}
use Rattle.same_types.proofs.Outside.{outside_is_none as outside_alone}
use Rattle.evolve_walks.specs.Same.{same_spot, same_spots}

first : (a b : Bool) → (a && b) ≡ true → a ≡ true
first true b h = refl
first false b h = absurd (true≢false (sym h))

second : (a b : Bool) → (a && b) ≡ true → b ≡ true
second true b h = h
second false b h = absurd (true≢false (sym h))

name_is : (n m : List ℕ) → bytes_eq n m ≡ true → n ≡ m
name_is n m h = (bytes_eq-Decides n m).0 h

number_is : (n m : ℕ) → nat_eq n m ≡ true → n ≡ m
number_is n m h = eqb-true n m h

-- equal ends
range_is : (g k : Range) → same_range g k ≡ true → g ≡ k
range_is g k h =
    let a : g.least ≡ k.least = grind (arith, ints, first (int_eq g.least k.least) (int_eq g.greatest k.greatest) h) in
    let b : g.greatest ≡ k.greatest = grind (arith, ints, second (int_eq g.least k.least) (int_eq g.greatest k.greatest) h) in
    λ i. record { least = a i; greatest = b i }

format_is : (f g : Format) → same_format f g ≡ true → f ≡ g
format_is Uuid Uuid h = refl
format_is Date Date h = refl
format_is DateTime DateTime h = refl
format_is Ip Ip h = refl
format_is Ipv4 Ipv4 h = refl
format_is Ipv6 Ipv6 h = refl
format_is _ _ h = absurd (true≢false (sym h))

mutual
  pub type_is : (s t : TypeModel) → same_type s t ≡ true → s ≡ t
  type_is boolean_type boolean_type h = refl
  type_is (integer_type g) (integer_type k) h = ap integer_type (range_is g k h)
  type_is text_type text_type h = refl
  type_is (native_type f) (native_type g) h = ap native_type (format_is f g h)
  type_is any_type any_type h = refl
  type_is unit_type unit_type h = refl
  type_is (option_type s) (option_type t) h = ap option_type (type_is s t h)
  type_is (boxed_type s) (boxed_type t) h = ap boxed_type (type_is s t h)
  type_is (vec_type s) (vec_type t) h = ap vec_type (type_is s t h)
  type_is (set_type s) (set_type t) h = ap set_type (type_is s t h)
  type_is (map_type k s) (map_type l t) h =
      let a = type_is k l (first (same_type k l) (same_type s t) h) in
      let b = type_is s t (second (same_type k l) (same_type s t) h) in
      λ i. map_type (a i) (b i)
  type_is (tuple_type ss) (tuple_type ts) h = ap tuple_type (types_are ss ts h)
  type_is (array_type s n) (array_type t m) h =
      let a = type_is s t (first (same_type s t) (nat_eq n m) h) in
      let b : n ≡ m = number_is n m (second (same_type s t) (nat_eq n m) h) in
      λ i. array_type (a i) (b i)
  type_is (item_type n) (item_type m) h = ap item_type (name_is n m h)
  type_is _ _ h = absurd (true≢false (sym h))

  types_are : (ss ts : TypeModels) → same_types ss ts ≡ true → ss ≡ ts
  types_are no_types no_types h = refl
  types_are (type_then s ss) (type_then t ts) h =
      let a = type_is s t (first (same_type s t) (same_types ss ts) h) in
      let b = types_are ss ts (second (same_type s t) (same_types ss ts) h) in
      λ i. type_then (a i) (b i)
  types_are _ _ h = absurd (true≢false (sym h))

spot_is : (p q : Spot) → same_spot p q ≡ true → p ≡ q
spot_is (of_type s) (of_type t) h = ap of_type (type_is s t h)
spot_is (of_variant n i) (of_variant m j) h =
    let a = name_is n m (first (bytes_eq n m) (nat_eq i j) h) in
    let b : i ≡ j = number_is i j (second (bytes_eq n m) (nat_eq i j) h) in
    λ k. of_variant (a k) (b k)
spot_is _ _ h = absurd (true≢false (sym h))

-- ---- a type that no reader knows is the same as none

none_is_outside : (t : TypeModel) → false ≡ same_type t outside_type
none_is_outside boolean_type = refl
none_is_outside (integer_type r) = refl
none_is_outside text_type = refl
none_is_outside (native_type f) = refl
none_is_outside any_type = refl
none_is_outside unit_type = refl
none_is_outside (option_type t) = refl
none_is_outside (boxed_type t) = refl
none_is_outside (vec_type t) = refl
none_is_outside (set_type t) = refl
none_is_outside (map_type k t) = refl
none_is_outside (tuple_type ts) = refl
none_is_outside (array_type t n) = refl
none_is_outside (item_type n) = refl
none_is_outside outside_type = refl

pub outside_is_none : (q : Spot) → false ≡ same_spot (of_type outside_type) q
outside_is_none (of_type t) = outside_alone t
outside_is_none (of_variant n i) = refl

pub none_outside : (p : Spot) → false ≡ same_spot p (of_type outside_type)
none_outside (of_type t) = none_is_outside t
none_outside (of_variant n i) = refl

-- ---- pairs

pub spots_are : (p q : Spots) → same_spots p q ≡ true → p ≡ q
spots_are p q h =
    let a = spot_is p.0 q.0 (first (same_spot p.0 q.0) (same_spot p.1 q.1) h) in
    let b = spot_is p.1 q.1 (second (same_spot p.0 q.0) (same_spot p.1 q.1) h) in
    λ i. (a i, b i)
