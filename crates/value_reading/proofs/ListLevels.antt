-- Lists and objects that the program holds, read by their parts.
use Rattle.std.proofs.Common.{◌≡◌, ℕ, List, [], ◌∷◌, map, length, vec_len, Bool, true, false, cond, Option, Some, None, String, BTreeMap, refl, sym, ap, ◌∙◌}
use Rattle.std.specs.declared.alloc.Global.{Global}
use Rattle.std.specs.declared.vec.Vec.{Vec}
use Rattle.std.proofs.lemmas.List.{length-map}
use Rattle.serde_json.specs.declared.value.Value as json
use Rattle.serde_json.specs.declared.value.Value.TheVariants as json'
use Rattle.serde_json.specs.View.{items_view, members_view}
use Rattle.json_value.specs.Value.{Value, list, object, values, entries}
use Rattle.json_value.specs.View.{items_of, members_of, kept_view}
use Rattle.model_defs.specs.Types.{TypeModel}
use Rattle.model_defs.specs.Model.{FieldModel}
use Rattle.model_defs.specs.Layer.{MemberPart}
use Rattle.typed_defs.specs.Typed.{Typed}
use Rattle.reading_defs.specs.Reading.{Read, Reader, stopped, absent, members_read}
use Rattle.value_parts.specs.At.{Setting, Entry, Demand, default_of, demanded, demanded_from, fits, pairs_at, map_at, members_at, struct_at}
use Rattle.value_reading.proofs.Sizes.{values_kept}
use Rattle.value_reading.proofs.Small.{array_kept, object_kept}
use Rattle.value_reading.proofs.Levels.{members_seen}

module _ (s : Setting) where
  abbrev of_list : Demand → Option ℕ → List Value → Read (List Typed)
  of_list d n vs = cond (fits n (length vs)) (demanded_from s d 0 vs) (stopped [])

  array_is : (d : Demand) (n : Option ℕ) (v : json.Value) (us : Vec json.Value Global) → v ≡ json'.Array us → demanded s d n (kept_view v) ≡ of_list d n (map kept_view us.items)
  array_is d n v us e = ap (demanded s d n) (array_kept v us e) ∙ ap (of_list d n) (values_kept us.items)

  fits_is : (n : Option ℕ) (us : Vec json.Value Global) (m : ℕ) (b : Bool) → m ≡ vec_len us → b ≡ fits n m → fits n (length (map kept_view us.items)) ≡ b
  fits_is n us m b l h = sym (h ∙ ap (fits n) (l ∙ us.ok.0 ∙ sym (length-map us.items kept_view)))

  -- a list of the length that is asked, and one of another
  pub fitting : (d : Demand) (n : Option ℕ) (v : json.Value) (us : Vec json.Value Global) (vs : List json.Value) (m : ℕ) (b : Bool) (r : Read (List Typed)) → v ≡ json'.Array us → vs ≡ us.items
      → m ≡ vec_len us → b ≡ fits n m → b ≡ true → r ≡ demanded_from s d 0 (map kept_view vs) → r ≡ demanded s d n (kept_view v)
  fitting d n v us vs m b r e i l h t is =
      is ∙ ap (λ ws. demanded_from s d 0 (map kept_view ws)) i
      ∙ sym (array_is d n v us e ∙ ap (λ c. cond c (demanded_from s d 0 (map kept_view us.items)) (stopped [])) (fits_is n us m b l h ∙ t))

  pub not_fitting : (d : Demand) (n : Option ℕ) (v : json.Value) (us : Vec json.Value Global) (m : ℕ) (b : Bool) (r : Read (List Typed)) → v ≡ json'.Array us
      → m ≡ vec_len us → b ≡ fits n m → b ≡ false → r ≡ stopped [] → r ≡ demanded s d n (kept_view v)
  not_fitting d n v us m b r e l h t is =
      is ∙ sym (array_is d n v us e ∙ ap (λ c. cond c (demanded_from s d 0 (map kept_view us.items)) (stopped [])) (fits_is n us m b l h ∙ t))

  pub object_level : (k t : TypeModel) (v : json.Value) (o : BTreeMap (String Global) json.Value) (es : List Entry) (r : Read (List (Typed × Typed))) → v ≡ json'.Object o
      → es ≡ entries (members_of (members_view o.entries)) → r ≡ pairs_at s k t es → r ≡ map_at s k t (kept_view v)
  object_level k t v o es r e i is = is ∙ ap (pairs_at s k t) i ∙ sym (ap (map_at s k t) (object_kept v o e))

  abbrev in_parts : Bool → List FieldModel → List (MemberPart Reader) → Read (List Typed)
  in_parts closed fs ps = members_read (default_of s) (absent s.models) closed fs ps

  pub struct_level : (closed : Bool) (fs : List FieldModel) (v : json.Value) (o : BTreeMap (String Global) json.Value) (es : List Entry) (r : Read (List Typed)) → v ≡ json'.Object o
      → es ≡ entries (members_of (members_view o.entries)) → r ≡ members_at s closed fs es → r ≡ struct_at s closed fs (kept_view v)
  struct_level closed fs v o es r e i is =
      is ∙ ap (members_at s closed fs) i ∙ sym (ap (struct_at s closed fs) (object_kept v o e) ∙ ap (in_parts closed fs) (members_seen s (members_of (members_view o.entries))))
