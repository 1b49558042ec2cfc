-- A typed value's parts as lists, and what it is written as by the shape of its type.
use Rattle.std.proofs.Common.{◌≡◌, ℕ, List, [], ◌∷◌, ◌++◌, map, refl, sym, ap, ◌∙◌, Option, Some, None, Bool, true, false, cond, nat_lt, arith, String, string_bytes, length, get_or}
use Rattle.std.specs.declared.alloc.Global.{Global}
use Rattle.serde_json.specs.View as json
use Rattle.serde_json.specs.declared.value.Value as value'
use Rattle.json_value.specs.Value as value
use Rattle.json_value.specs.Value.{Value, Items, Members, items, no_items, item, no_members}
use Rattle.json_value.specs.View.{items_of, kept_view}
use Rattle.model_defs.specs.Types.{TypeModel, boolean_type, integer_type, text_type, native_type, any_type, unit_type, option_type, boxed_type, vec_type, set_type, map_type, tuple_type, array_type, item_type, outside_type}
use Rattle.model_defs.specs.Model.{Style, struct_style, tuple_style, newtype_style, unit_style, FieldModel, BodyModel, struct_model, enum_model, ContainerModel, container_named}
use Rattle.model_defs.specs.Settled.{put_all, text_of}
use Rattle.typed_defs.specs.Typed as typed
use Rattle.typed_defs.specs.Typed.{Typed, Typeds, typeds, pairs, typeds_of}
use Rattle.typed_defs.specs.Written.{Parts, Writer, FieldPart, written, writes, each_of, pairs_in, fields_of, rest_of, parts_of, type_writes, pairs_write, by_places, field_types, whole, nothing, one, several, by_key, fields, chosen, inner, struct_writes, body_writes, item_writes, each_writes, map_writes, places_write, content_writes, first_writes}
use Rattle.value_models.specs.declared.typed.Typed.{Typed as Typed'}
use Rattle.value_models.specs.TypedView.{typed_view, typeds_view}
use Rattle.value_writing.specs.Shape.{WrittenShape, shape, struct_shape, body_shape, item_shape, newtype_writes, shape_writes}
use Rattle.value_writing.specs.Pieces.{pairs_written, placed_written, unnamed_written, part_of}

module _ (ms : List ContainerModel) where
  writes_parts : (x : Typed) → writes ms x ≡ type_writes ms (parts_of ms x)
  writes_parts typed.unit = refl
  writes_parts (typed.boolean b) = refl
  writes_parts (typed.integer z) = refl
  writes_parts (typed.text s) = refl
  writes_parts (typed.any v) = refl
  writes_parts typed.none = refl
  writes_parts (typed.some x) = refl
  writes_parts (typed.list xs) = refl
  writes_parts (typed.map_of xs) = refl
  writes_parts (typed.struct xs) = refl
  writes_parts (typed.variant i xs) = refl
  writes_parts (typed.newtype x) = refl

  newtype_is : (f : FieldModel) (p : Parts) → struct_writes newtype_style (f ∷ []) p ≡ newtype_writes f.field_type p
  newtype_is f (whole v) = refl
  newtype_is f nothing = refl
  newtype_is f (one w) = refl
  newtype_is f (several ws) = refl
  newtype_is f (by_key ws) = refl
  newtype_is f (fields ps) = refl
  newtype_is f (chosen i ps) = refl
  newtype_is f (inner w) = refl

  struct_is : (s : Style) (fs : List FieldModel) (p : Parts) → struct_writes s fs p ≡ shape_writes p (struct_shape s fs)
  struct_is struct_style fs p = refl
  struct_is newtype_style [] p = refl
  struct_is newtype_style (f ∷ []) p = newtype_is f p
  struct_is newtype_style (f ∷ g ∷ gs) p = refl
  struct_is tuple_style fs p = refl
  struct_is unit_style fs p = refl

  body_is : (b : BodyModel) (p : Parts) → body_writes b p ≡ shape_writes p (body_shape b)
  body_is (struct_model s fs) p = struct_is s fs p
  body_is (enum_model tag ws) p = refl

  item_is : (o : Option ContainerModel) (p : Parts) → item_writes o p ≡ shape_writes p (item_shape o)
  item_is None p = refl
  item_is (Some m) p = body_is m.body p

  type_shape : (p : Parts) (t : TypeModel) → type_writes ms p t ≡ shape_writes p (shape ms t)
  type_shape p boolean_type = refl
  type_shape p (integer_type g) = refl
  type_shape p text_type = refl
  type_shape p (native_type f) = refl
  type_shape p any_type = refl
  type_shape p unit_type = refl
  type_shape p (option_type t) = refl
  type_shape p (boxed_type t) = type_shape p t
  type_shape p (vec_type t) = refl
  type_shape p (set_type t) = refl
  type_shape p (map_type k t) = refl
  type_shape p (tuple_type ts) = refl
  type_shape p (array_type t n) = refl
  type_shape p (item_type n) = item_is (container_named n ms) p
  type_shape p outside_type = refl

  -- what is written by the shape is what is written
  pub by_shape : (t : TypeModel) (x : Typed) (s : WrittenShape) (v : Value) → s ≡ shape ms t → v ≡ shape_writes (parts_of ms x) s → v ≡ written ms t x
  by_shape t x s v e h = h ∙ ap (shape_writes (parts_of ms x)) e ∙ sym (type_shape (parts_of ms x) t) ∙ (λ i. sym (writes_parts x) i t)

  pub each_mapped : (xs : List Typed) → each_of ms (typeds xs) ≡ map (writes ms) xs
  each_mapped [] = refl
  each_mapped (x ∷ xs) = ap (λ ws. writes ms x ∷ ws) (each_mapped xs)

  pub each_written : (t : TypeModel) (xs : List Typed) → map (λ w. w t) (each_of ms (typeds xs)) ≡ map (λ x. written ms t x) xs
  each_written t [] = refl
  each_written t (x ∷ xs) = ap (λ vs. written ms t x ∷ vs) (each_written t xs)

  pub pairs_are : (k t : TypeModel) (es : List (Typed × Typed)) → pairs_write k t (pairs_in ms (pairs es)) ≡ pairs_written ms k t es
  pairs_are k t [] = refl
  pairs_are k t (e ∷ es) = ap (λ ds. (text_of [] (written ms k e.0), written ms t e.1) ∷ ds) (pairs_are k t es)

  pub fields_mapped : (xs : List Typed) → fields_of ms (typeds xs) ≡ map (part_of ms) xs
  fields_mapped [] = refl
  fields_mapped (x ∷ xs) = ap (λ ps. part_of ms x ∷ ps) (fields_mapped xs)

  pub writers_of_fields : (xs : List Typed) → map (λ p. p.writes) (fields_of ms (typeds xs)) ≡ map (writes ms) xs
  writers_of_fields [] = refl
  writers_of_fields (x ∷ xs) = ap (λ ws. writes ms x ∷ ws) (writers_of_fields xs)

  -- what lists, objects and contents are written as
  pub each_list : (t : TypeModel) (xs : List Typed) (v : Value) → v ≡ value.list (items (map (λ x. written ms t x) xs)) → v ≡ each_writes t (several (each_of ms (typeds xs)))
  each_list t xs v h = h ∙ ap (λ vs. value.list (items vs)) (sym (each_written t xs))

  pub pairs_object : (k t : TypeModel) (es : List (Typed × Typed)) (m : Members) → m ≡ put_all (pairs_written ms k t es) no_members → value.object m ≡ map_writes k t (by_key (pairs_in ms (pairs es)))
  pairs_object k t es m h = ap value.object (h ∙ ap (λ ds. put_all ds no_members) (sym (pairs_are k t es)))

  -- a rest
  pub rest_pairs : (k t : TypeModel) (es : List (Typed × Typed)) (old m : Members) → m ≡ put_all (pairs_written ms k t es) old → m ≡ put_all (rest_of ms (typed.map_of (pairs es)) (map_type k t)) old
  rest_pairs k t es old m h = h ∙ ap (λ ds. put_all ds old) (sym (pairs_are k t es))

  -- no one value, or no one field
  pub first_of_none : (fs : List FieldModel) (xs : List Typed') → (length xs ≡ 1 → ⊥) → value.null ≡ first_writes fs (fields_of ms (typeds (typeds_view xs)))
  first_of_none fs [] h = none fs
    where
      none : (gs : List FieldModel) → value.null ≡ first_writes gs []
      none [] = refl
      none (g ∷ []) = refl
      none (g ∷ k ∷ gs) = refl
  first_of_none fs (x ∷ []) h = absurd (h refl)
  first_of_none fs (x ∷ y ∷ xs) h = several fs
    where
      several : (gs : List FieldModel) → value.null ≡ first_writes gs (fields_of ms (typeds (typeds_view (x ∷ y ∷ xs))))
      several [] = refl
      several (g ∷ []) = refl
      several (g ∷ k ∷ gs) = refl

  pub first_of_one : (fs : List FieldModel) (xs : List Typed') (x : Typed') (v : Value) → length xs ≡ 1 → x ≡ get_or xs 0 x
      → v ≡ first_writes fs (fields_of ms (typeds (typed_view x ∷ []))) → v ≡ first_writes fs (fields_of ms (typeds (typeds_view xs)))
  first_of_one fs [] x v h e w = absurd (omega (arith, h))
  first_of_one fs (y ∷ []) x v h e w = w ∙ ap (λ z. first_writes fs (fields_of ms (typeds (typed_view z ∷ [])))) e
  first_of_one fs (y ∷ z ∷ xs) x v h e w = absurd (omega (arith, h))

  pub places_list : (ts : List TypeModel) (xs : List Typed) (v : Value) → v ≡ value.list (items (placed_written ms ts xs)) → v ≡ places_write ts (several (each_of ms (typeds xs)))
  places_list ts xs v h = h ∙ ap (λ ws. value.list (items (by_places ts ws))) (sym (each_mapped xs))

  pub unnamed_list : (fs : List FieldModel) (xs : List Typed) (v : Value) → v ≡ value.list (items (unnamed_written ms fs xs)) → v ≡ content_writes tuple_style fs (fields_of ms (typeds xs))
  unnamed_list fs xs v h = h ∙ ap (λ ws. value.list (items (by_places (field_types fs) ws))) (sym (writers_of_fields xs))

pub kept_items : (vs : List value'.Value) → items_of (json.items_view vs) ≡ items (map kept_view vs)
kept_items [] = refl
kept_items (v ∷ vs) = ap (item (kept_view v)) (kept_items vs)
