-- What typed values are written as, by their parts, and what stands for no value.
use Rattle.std.proofs.Common.{◌≡◌, ℕ, zero, suc, List, [], ◌∷◌, map, Bool, true, false, ◌&&◌, cond, refl, sym, ap, ◌∙◌, true≢false, Option, Some, None, option_map}
use Rattle.json_value.specs.Value.{null}
use Rattle.model_defs.specs.Types.{TypeModel, option_type, boxed_type, vec_type, set_type, map_type, item_type}
use Rattle.model_defs.specs.Model.{newtype_style, FieldModel, BodyModel, struct_model, ContainerModel, container_named}
use Rattle.model_defs.specs.Reads.{type_leads, body_leads, container_leads, leads_within, leads_to_option, allowed}
use Rattle.typed_defs.specs.Typed as typed
use Rattle.typed_defs.specs.Typed.{Typed, typeds, pairs}
use Rattle.typed_defs.specs.Written.{FieldPart, written, writes, rest_of, parts_of, type_writes, body_writes, item_writes, each_of, fields_of, counts_as_empty}
use Rattle.typed_defs.specs.Fit.{may_be_empty}
use Rattle.reading_defs.specs.Reading.{type_absent, body_absent, container_absent, absent_within, absent, empty_value}

module _ (ms : List ContainerModel) where
  pub writes_parts : (x : Typed) → writes ms x ≡ type_writes ms (parts_of ms x)
  writes_parts typed.unit = refl
  writes_parts (typed.boolean b) = refl
  writes_parts (typed.integer z) = refl
  writes_parts (typed.text s) = refl
  writes_parts (typed.any v) = refl
  writes_parts typed.none = refl
  writes_parts (typed.some x) = refl
  writes_parts (typed.list xs) = refl
  writes_parts (typed.map_of xs) = refl
  writes_parts (typed.struct xs) = refl
  writes_parts (typed.variant i xs) = refl
  writes_parts (typed.newtype x) = refl

  pub boxed_written : (t : TypeModel) (x : Typed) → written ms (boxed_type t) x ≡ written ms t x
  boxed_written t x = (λ i. writes_parts x i (boxed_type t)) ∙ sym (λ i. writes_parts x i t)

  pub item_written : (n : List ℕ) (x : Typed) → written ms (item_type n) x ≡ item_writes (container_named n ms) (parts_of ms x)
  item_written n x = λ i. writes_parts x i (item_type n)

  pub each_written : (t : TypeModel) (xs : List Typed) → map (λ w. w t) (each_of ms (typeds xs)) ≡ map (written ms t) xs
  each_written t [] = refl
  each_written t (x ∷ xs) = ap (λ vs. written ms t x ∷ vs) (each_written t xs)

  pub each_mapped : (xs : List Typed) → each_of ms (typeds xs) ≡ map (writes ms) xs
  each_mapped [] = refl
  each_mapped (x ∷ xs) = ap (λ ws. writes ms x ∷ ws) (each_mapped xs)

  pub writers_of_fields : (xs : List Typed) → map (λ p. p.writes) (fields_of ms (typeds xs)) ≡ map (writes ms) xs
  writers_of_fields [] = refl
  writers_of_fields (x ∷ xs) = ap (λ ws. writes ms x ∷ ws) (writers_of_fields xs)

  abbrev pub field_part : Typed → FieldPart
  field_part x = record { is_empty = counts_as_empty x; writes = writes ms x; rest = rest_of ms x }

  -- ---- no value

  abbrev pub IsAbsent : Bool → TypeModel → Option Typed → Type 0
  IsAbsent b t None = b ≡ false
  IsAbsent b t (Some x) = (b ≡ true) × (written ms t x ≡ null)

  abbrev IsBodyAbsent : Bool → BodyModel → Option Typed → Type 0
  IsBodyAbsent b m None = b ≡ false
  IsBodyAbsent b m (Some x) = (b ≡ true) × (body_writes m (parts_of ms x) ≡ null)

  boxed_absent : (b : Bool) (t : TypeModel) (o : Option Typed) → IsAbsent b t o → IsAbsent b (boxed_type t) o
  boxed_absent b t None h = h
  boxed_absent b t (Some x) h = (h.0, boxed_written t x ∙ h.1)

  module _ (il : List ℕ → Bool) (ia : List ℕ → Option Typed) (h : (n : List ℕ) → IsAbsent (il n) (item_type n) (ia n)) where
    type_absent-is : (t : TypeModel) → IsAbsent (type_leads il t) t (type_absent ia t)
    type_absent-is (option_type t) = (refl, refl)
    type_absent-is (boxed_type t) = boxed_absent (type_leads il t) t (type_absent ia t) (type_absent-is t)
    type_absent-is (item_type n) = h n
    type_absent-is _ = refl

    inside : (f : FieldModel) (b : Bool) (o : Option Typed) → IsAbsent b f.field_type o → IsBodyAbsent b (struct_model newtype_style (f ∷ [])) (option_map typed.newtype o)
    inside f b None g = g
    inside f b (Some x) g = g

    body_absent-is : (m : BodyModel) → IsBodyAbsent (body_leads il m) m (body_absent ia m)
    body_absent-is (struct_model newtype_style (f ∷ [])) = inside f (type_leads il f.field_type) (type_absent ia f.field_type) (type_absent-is f.field_type)
    body_absent-is _ = refl

    of_body : (n : List ℕ) (m : ContainerModel) → container_named n ms ≡ Some m → (b : Bool) (o : Option Typed) → IsBodyAbsent b m.body o → (u : Bool)
        → IsAbsent (u && b) (item_type n) (cond u o None)
    of_body n m e b o g false = refl
    of_body n m e b None g true = g
    of_body n m e b (Some x) g true = (g.0, item_written n x ∙ ap (λ z. item_writes z (parts_of ms x)) e ∙ g.1)

    of_container : (n : List ℕ) (z : Option ContainerModel) → container_named n ms ≡ z → IsAbsent (container_leads il z) (item_type n) (container_absent ia z)
    of_container n None e = refl
    of_container n (Some m) e = of_body n m e (body_leads il m.body) (body_absent ia m.body) (body_absent-is m.body) m.transparent

  item_absent-is : (k : ℕ) (n : List ℕ) → IsAbsent (leads_within ms k n) (item_type n) (absent_within ms k n)
  item_absent-is zero n = refl
  item_absent-is (suc k) n = of_container (leads_within ms k) (absent_within ms k) (item_absent-is k) n (container_named n ms) refl

  pub absent-is : (t : TypeModel) → IsAbsent (leads_to_option ms t) t (absent ms t)
  absent-is t = type_absent-is (leads_within ms (allowed ms)) (absent_within ms (allowed ms)) (item_absent-is (allowed ms)) t

pub empty_is_empty : (t : TypeModel) → may_be_empty t ≡ true → counts_as_empty (empty_value t) ≡ true
empty_is_empty (option_type t) h = refl
empty_is_empty (vec_type t) h = refl
empty_is_empty (set_type t) h = refl
empty_is_empty (map_type k t) h = refl
empty_is_empty _ h = absurd (true≢false (sym h))
