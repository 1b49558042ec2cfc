-- Lists and objects that the program holds, read by their parts.
use Rattle.std.proofs.Common.{◌≡◌, ℕ, List, [], ◌∷◌, map, length, vec_len, Bool, true, false, ◌&&◌, Option, Some, String, BTreeMap, refl, sym, ap, ◌∙◌, rules}
use Rattle.std.specs.declared.alloc.Global.{Global}
use Rattle.std.specs.declared.vec.Vec.{Vec}
use Rattle.std.proofs.lemmas.List.{length-map}
use Rattle.serde_json.specs.declared.value.Value as json
use Rattle.serde_json.specs.declared.value.Value.TheVariants as json'
use Rattle.serde_json.specs.View.{items_view, members_view}
use Rattle.json_value.specs.Value.{Value, list, object, values, entries, text}
use Rattle.json_value.specs.View.{items_of, members_of, kept_view}
use Rattle.model_defs.specs.Types.{TypeModel, tuple_type, types, types_of}
use Rattle.model_defs.specs.Model.{FieldModel}
use Rattle.model_defs.specs.Layer.{members_take}
use Rattle.model_defs.specs.Reads.{leads_to_option}
use Rattle.value_models.specs.declared.value_type.ValueType.{ValueType, the_lemmas as type_lemmas}
use Rattle.value_models.specs.declared.value_type.ValueType.TheVariants as types'
use Rattle.value_models.specs.TypeView.{type_view, types_view}
use Rattle.value_parts.specs.At.{Entry, Demand, by_place, fits}
use Rattle.serde_json.proofs.Views.{view-Array, view-Object}
use Rattle.json_value.specs.View.{value_of}
use Rattle.value_taking.specs.At.{Tables, part_at, demanded, demanded_from, pair_at, pairs_at, map_at, members_at, struct_at, leaf_at}
use Rattle.value_taking.proofs.Levels.{members_seen}

values_kept : (vs : List json.Value) → values (items_of (items_view vs)) ≡ map kept_view vs
values_kept [] = refl
values_kept (v ∷ vs) = ap (λ ws. kept_view v ∷ ws) (values_kept vs)

array_kept : (v : json.Value) (vs : Vec json.Value Global) → v ≡ json'.Array vs → kept_view v ≡ list (items_of (items_view vs.items))
array_kept v vs e = ap kept_view e ∙ ap value_of (view-Array vs)

object_kept : (v : json.Value) (m : BTreeMap (String Global) json.Value) → v ≡ json'.Object m → kept_view v ≡ object (members_of (members_view m.entries))
object_kept v m e = ap kept_view e ∙ ap value_of (view-Object m)

tuple_seen : (ts : Vec ValueType Global) → type_view (types'.Tuple ts) ≡ tuple_type (types (types_view ts.items))
tuple_seen ts = search (rules, type_lemmas)

types_back : (ts : List TypeModel) → types_of (types ts) ≡ ts
types_back [] = refl
types_back (t ∷ ts) = ap (λ us. t ∷ us) (types_back ts)

module _ (s : Tables) where
  abbrev of_list : Demand → Option ℕ → List Value → Bool
  of_list d n vs = fits n (length vs) && demanded_from s d 0 vs

  array_is : (d : Demand) (n : Option ℕ) (v : json.Value) (us : Vec json.Value Global) → v ≡ json'.Array us → demanded s d n (kept_view v) ≡ of_list d n (map kept_view us.items)
  array_is d n v us e = ap (demanded s d n) (array_kept v us e) ∙ ap (of_list d n) (values_kept us.items)

  fits_is : (n : Option ℕ) (us : Vec json.Value Global) (m : ℕ) (b : Bool) → m ≡ vec_len us → b ≡ fits n m → fits n (length (map kept_view us.items)) ≡ b
  fits_is n us m b l h = sym (h ∙ ap (fits n) (l ∙ us.ok.0 ∙ sym (length-map us.items kept_view)))

  -- a list of the length that is asked, and one of another
  pub fitting : (d : Demand) (n : Option ℕ) (v : json.Value) (us : Vec json.Value Global) (vs : List json.Value) (m : ℕ) (b r : Bool) → v ≡ json'.Array us → vs ≡ us.items
      → m ≡ vec_len us → b ≡ fits n m → b ≡ true → r ≡ demanded_from s d 0 (map kept_view vs) → r ≡ demanded s d n (kept_view v)
  fitting d n v us vs m b r e i l h t is =
      is ∙ ap (λ ws. demanded_from s d 0 (map kept_view ws)) i
      ∙ sym (array_is d n v us e ∙ ap (λ c. c && demanded_from s d 0 (map kept_view us.items)) (fits_is n us m b l h ∙ t))

  pub not_fitting : (d : Demand) (n : Option ℕ) (v : json.Value) (us : Vec json.Value Global) (m : ℕ) (b : Bool) → v ≡ json'.Array us
      → m ≡ vec_len us → b ≡ fits n m → b ≡ false → false ≡ demanded s d n (kept_view v)
  not_fitting d n v us m b e l h t =
      sym (array_is d n v us e ∙ ap (λ c. c && demanded_from s d 0 (map kept_view us.items)) (fits_is n us m b l h ∙ t))

  pub object_level : (k t : TypeModel) (v : json.Value) (o : BTreeMap (String Global) json.Value) (es : List Entry) (r : Bool) → v ≡ json'.Object o
      → es ≡ entries (members_of (members_view o.entries)) → r ≡ pairs_at s k t es → r ≡ map_at s k t (kept_view v)
  object_level k t v o es r e i is = is ∙ ap (pairs_at s k t) i ∙ sym (ap (map_at s k t) (object_kept v o e))

  pub struct_level : (closed : Bool) (fs : List FieldModel) (v : json.Value) (o : BTreeMap (String Global) json.Value) (es : List Entry) (r : Bool) → v ≡ json'.Object o
      → es ≡ entries (members_of (members_view o.entries)) → r ≡ members_at s closed fs es → r ≡ struct_at s closed fs (kept_view v)
  struct_level closed fs v o es r e i is =
      is ∙ ap (members_at s closed fs) i
      ∙ sym (ap (struct_at s closed fs) (object_kept v o e) ∙ ap (members_take (leads_to_option s.models) closed fs) (members_seen s (members_of (members_view o.entries))))

  -- a tuple of these types
  pub tuple_level : (k : ℕ) (t : ValueType) (us : Vec ValueType Global) (ts : List ValueType) (n : Option ℕ) (v : Value) (r : Bool) → t ≡ types'.Tuple us → ts ≡ us.items
      → n ≡ Some (length (types_view ts)) → r ≡ demanded s (by_place (types_view ts)) n v → r ≡ leaf_at s k (type_view t) v
  tuple_level k t us ts n v r e i m is =
      is ∙ ap (λ j. demanded s (by_place (types_view ts)) j v) m ∙ ap (λ ws. demanded s (by_place ws) (Some (length ws)) v) (sym (types_back (types_view ts)))
      ∙ ap (λ ws. leaf_at s k (tuple_type (types (types_view ws))) v) i ∙ sym (ap (λ u. leaf_at s k u v) (ap type_view e ∙ tuple_seen us))

  -- a member of a map
  pub other_name : (k t : TypeModel) (e : Entry) (v : Value) (b : Bool) → v ≡ text e.0 → b ≡ part_at s k v → b ≡ false → false ≡ pair_at s k t e
  other_name k t e v b n h g = ap (λ c. c && part_at s t e.1) (sym g ∙ h ∙ ap (part_at s k) n)

  pub such_name : (k t : TypeModel) (e : Entry) (v : Value) (b o : Bool) → v ≡ text e.0 → b ≡ part_at s k v → b ≡ true → o ≡ part_at s t e.1 → o ≡ pair_at s k t e
  such_name k t e v b o n h g is = is ∙ ap (λ c. c && part_at s t e.1) (sym g ∙ h ∙ ap (part_at s k) n)
