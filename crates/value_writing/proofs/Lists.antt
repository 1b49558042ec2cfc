-- Lists, maps and tuples as they are seen.
use Rattle.std.proofs.Common.{◌≡◌, ℕ, ◌==◌, List, [], ◌∷◌, map, length, vec_len, Bool, true, false, cond, String, Box, BTreeMap, refl, sym, ap, ◌∙◌, rules, arith}
use Rattle.std.specs.declared.alloc.Global.{Global}
use Rattle.std.specs.declared.vec.Vec.{Vec}
use Rattle.std.proofs.Math.Dec.{eqb-suc-zero}
use Rattle.model_defs.specs.Types.{TypeModel, tuple_type, map_type, types, types_of}
use Rattle.typed_defs.specs.Typed as defs
use Rattle.typed_defs.specs.Typed.{typeds, pairs}
use Rattle.typed_defs.specs.Written.{counts_as_empty}
use Rattle.value_models.specs.declared.typed.Typed.{Typed, the_lemmas}
use Rattle.value_models.specs.declared.typed.Typed.TheVariants as variants
use Rattle.value_models.specs.declared.value_type.ValueType.{ValueType, the_lemmas as type_lemmas}
use Rattle.value_models.specs.declared.value_type.ValueType.TheVariants as types'
use Rattle.value_models.specs.TypeView.{type_view, types_view}
use Rattle.value_models.specs.TypedView.{typed_view, typeds_view, pairs_view}
use Rattle.value_writing.specs.Shape.{WrittenShape, shape, in_places}
use Rattle.model_defs.specs.Model.{ContainerModel}
use Rattle.model_defs.specs.Settled.{put_all}
use Rattle.serde_json.specs.declared.value.Value as json'
use Rattle.serde_json.specs.declared.value.Value.{the_lemmas as json_lemmas}
use Rattle.serde_json.specs.declared.value.Value.TheVariants as json
use Rattle.serde_json.proofs.Views.{view-Object}
use Rattle.json_value.specs.Value as value
use Rattle.json_value.specs.Value.{Value, Members, items}
use Rattle.json_value.specs.View.{value_of, kept_view}
use Rattle.typed_defs.specs.Written.{written, parts_of, rest_of, each_writes, places_write, map_writes}
use Rattle.value_models.specs.declared.field.Field.{Field}
use Rattle.value_models.specs.FieldView.{field_view}
use Rattle.value_writing.specs.Seen.{kept_members}
use Rattle.value_writing.specs.Pieces.{pairs_written, placed_written, rest_put}
use Rattle.value_writing.proofs.Parts.{each_list, places_list, pairs_object, rest_pairs}

pub view-List : (xs : Vec Typed Global) → typed_view (variants.List xs) ≡ defs.list (typeds (typeds_view xs.items))
view-List xs = search (rules, the_lemmas)

pub view-Map : (xs : Vec (Typed × Typed) Global) → typed_view (variants.Map xs) ≡ defs.map_of (pairs (pairs_view xs.items))
view-Map xs = search (rules, the_lemmas)

pub view-Tuple : (ts : Vec ValueType Global) → type_view (types'.Tuple ts) ≡ tuple_type (types (types_view ts.items))
view-Tuple ts = search (rules, type_lemmas)

none_left : (xs : List Typed) → (length xs == 0) ≡ counts_as_empty (defs.list (typeds (typeds_view xs)))
none_left [] = refl
none_left (x ∷ xs) = eqb-suc-zero (length xs)

no_pairs_left : (xs : List (Typed × Typed)) → (length xs == 0) ≡ counts_as_empty (defs.map_of (pairs (pairs_view xs)))
no_pairs_left [] = refl
no_pairs_left (x ∷ xs) = eqb-suc-zero (length xs)

pub empty_list : (x : Typed) (xs : Vec Typed Global) (b : Bool) → x ≡ variants.List xs → b ≡ (vec_len xs == 0) → b ≡ counts_as_empty (typed_view x)
empty_list x xs b e h = h ∙ ap (λ n. n == 0) xs.ok.0 ∙ none_left xs.items ∙ ap counts_as_empty (sym (ap typed_view e ∙ view-List xs))

pub empty_map : (x : Typed) (xs : Vec (Typed × Typed) Global) (b : Bool) → x ≡ variants.Map xs → b ≡ (vec_len xs == 0) → b ≡ counts_as_empty (typed_view x)
empty_map x xs b e h = h ∙ ap (λ n. n == 0) xs.ok.0 ∙ no_pairs_left xs.items ∙ ap counts_as_empty (sym (ap typed_view e ∙ view-Map xs))

types_back : (ts : List TypeModel) → types_of (types ts) ≡ ts
types_back [] = refl
types_back (t ∷ ts) = ap (λ us. t ∷ us) (types_back ts)

-- a tuple's types
pub tuple_shape : (ms : List ContainerModel) (t : ValueType) (ts : Vec ValueType Global) → t ≡ types'.Tuple ts → in_places (types_view ts.items) ≡ shape ms (type_view t)
tuple_shape ms t ts e = ap in_places (sym (types_back (types_view ts.items))) ∙ ap (shape ms) (sym (ap type_view e ∙ view-Tuple ts))

-- ---- what is written of lists, maps and tuples, by the values that the program holds

pub view-Null : kept_view json.Null ≡ value.null
view-Null = search (rules, json_lemmas)

pub view-TypeMap : (k t : Box ValueType Global) → type_view (types'.Map k t) ≡ map_type (type_view k.value) (type_view t.value)
view-TypeMap k t = search (rules, type_lemmas)

pub object_kept : (m : BTreeMap (String Global) json'.Value) → kept_view (json.Object m) ≡ value.object (kept_members m.entries)
object_kept m = ap value_of (view-Object m)

module _ (ms : List ContainerModel) where
  pub each_is : (t : TypeModel) (x : Typed) (vs : Vec Typed Global) (us : List Typed) (v : Value) → x ≡ variants.List vs → us ≡ vs.items
      → v ≡ value.list (items (map (λ y. written ms t y) (typeds_view us))) → v ≡ each_writes t (parts_of ms (typed_view x))
  each_is t x vs us v e h g =
      each_list ms t (typeds_view vs.items) v (g ∙ ap (λ ys. value.list (items (map (λ y. written ms t y) (typeds_view ys)))) h)
      ∙ ap (λ z. each_writes t (parts_of ms z)) (sym (ap typed_view e ∙ view-List vs))

  pub places_are : (ts : List TypeModel) (x : Typed) (vs : Vec Typed Global) (us : List Typed) (v : Value) → x ≡ variants.List vs → us ≡ vs.items
      → v ≡ value.list (items (placed_written ms ts (typeds_view us))) → v ≡ places_write ts (parts_of ms (typed_view x))
  places_are ts x vs us v e h g =
      places_list ms ts (typeds_view vs.items) v (g ∙ ap (λ ys. value.list (items (placed_written ms ts (typeds_view ys)))) h)
      ∙ ap (λ z. places_write ts (parts_of ms z)) (sym (ap typed_view e ∙ view-List vs))

  pub pairs_put : (k t : TypeModel) (x : Typed) (ps : Vec (Typed × Typed) Global) (us : List (Typed × Typed)) (old : List (String Global × json'.Value)) (m : BTreeMap (String Global) json'.Value)
      → x ≡ variants.Map ps → us ≡ ps.items → old ≡ [] → kept_members m.entries ≡ put_all (pairs_written ms k t (pairs_view us)) (kept_members old)
      → kept_view (json.Object m) ≡ map_writes k t (parts_of ms (typed_view x))
  pairs_put k t x ps us old m e h n g =
      object_kept m
      ∙ pairs_object ms k t (pairs_view ps.items) (kept_members m.entries) (g ∙ (λ i. put_all (pairs_written ms k t (pairs_view (h i))) (kept_members (n i))))
      ∙ ap (λ z. map_writes k t (parts_of ms z)) (sym (ap typed_view e ∙ view-Map ps))

  pub rest_is : (f : Field) (x : Typed) (k t : Box ValueType Global) (ps : Vec (Typed × Typed) Global) (k' t' : ValueType) (us : List (Typed × Typed)) (old new : Members)
      → f.is_rest ≡ true → f.field_type ≡ types'.Map k t → x ≡ variants.Map ps → k' ≡ k.value → t' ≡ t.value → us ≡ ps.items
      → new ≡ put_all (pairs_written ms (type_view k') (type_view t') (pairs_view us)) old → new ≡ rest_put ms (field_view f) (typed_view x) old
  rest_is f x k t ps k' t' us old new r e g a b h w =
      rest_pairs ms (type_view k.value) (type_view t.value) (pairs_view ps.items) old new (w ∙ (λ i. put_all (pairs_written ms (type_view (a i)) (type_view (b i)) (pairs_view (h i))) old))
      ∙ sym ((λ i. cond (r i) (put_all (rest_of ms (typed_view (g i)) (type_view (e i))) old) old) ∙ (λ i. put_all (rest_of ms (view-Map ps i) (view-TypeMap k t i)) old))
