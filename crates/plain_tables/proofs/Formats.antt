-- Formats of integers, and places of tuples.
use Rattle.std.proofs.Common.{◌≡◌, ℕ, suc, List, [], ◌∷◌, length, cond, Bool, true, false, not, ◌&&◌, Option, Some, None, is_some, IsTrue, ◌↔◌, refl, sym, ap, ◌∙◌, true≢false, arith}
use Rattle.std.specs.Prelude.{unwrap_or}
use Rattle.std.specs.List.{list_all}
use Rattle.schema_defs.specs.Integers.{Range, range_of}
use Rattle.model_defs.specs.Types.{TypeModel, types}
use Rattle.value_models.specs.declared.value_type.ValueType.{ValueType}
use Rattle.value_models.specs.TypeView.{types_view}
use Rattle.describe_defs.specs.Plain.{integer_formats, format_among, integer_format, is_range, has_places, count_types, is_plain_type, are_plain_types, has_none}
use Rattle.described_types.proofs.Lists.{count_of_types}

abbrev is_filled : List ℕ → Bool
is_filled n = not (has_none n)

format_next : (f : List ℕ) (rest : Option (List ℕ)) (b : Bool) → is_filled f ≡ true → is_some rest ≡ is_filled (unwrap_or rest []) → is_some (cond b (Some f) rest) ≡ is_filled (unwrap_or (cond b (Some f) rest) [])
format_next f rest true h e = sym h
format_next f rest false h e = e

format_filled : (g : Range) (fs : List (List ℕ)) → list_all is_filled fs ≡ true → is_some (format_among g fs) ≡ is_filled (unwrap_or (format_among g fs) [])
format_filled g [] h = refl
format_filled g (f ∷ fs) h = format_next f (format_among g fs) (is_range g (range_of f)) (first (is_filled f) (list_all is_filled fs) h) (format_filled g fs (second (is_filled f) (list_all is_filled fs) h))
  where
    first : (b c : Bool) → (b && c) ≡ true → b ≡ true
    first true c h = refl
    first false c h = h

    second : (b c : Bool) → (b && c) ≡ true → c ≡ true
    second true c h = h
    second false c h = absurd (true≢false (sym h))

is_bare : (n : List ℕ) (b : Bool) → b ≡ has_none n → not b ≡ is_filled n
is_bare n b h = ap not h

pub has_format_is : (g : Range) (n : List ℕ) (b : Bool) → (IsTrue b ↔ (length n ≡ 0)) → n ≡ unwrap_or (integer_format g) [] → not b ≡ is_some (integer_format g)
has_format_is g n b e h = is_bare n b (bare n b e) ∙ ap is_filled h ∙ sym (format_filled g integer_formats refl)
  where
    bare : (n : List ℕ) (b : Bool) → (IsTrue b ↔ (length n ≡ 0)) → b ≡ has_none n
    bare [] b e = e.1 refl
    bare (x ∷ xs) true e = absurd (omega (arith, e.0 refl))
    bare (x ∷ xs) false e = refl

-- ---- tuples

module _ (is_item : List ℕ → Bool) where
  each : (ts : List TypeModel) → are_plain_types is_item (types ts) ≡ list_all (is_plain_type is_item) ts
  each [] = refl
  each (t ∷ ts) = ap (λ b. is_plain_type is_item t && b) (each ts)

  pub places_are : (ts : List ValueType) (n : ℕ) (a b c : Bool) → n ≡ length ts → a ≡ has_places n → b ≡ list_all (is_plain_type is_item) (types_view ts) → c ≡ (a && b)
      → c ≡ (has_places (count_types (types (types_view ts))) && are_plain_types is_item (types (types_view ts)))
  places_are ts n a b c l h e k =
      k ∙ (λ i. h i && e i) ∙ (λ i. has_places ((l ∙ sym (long ts) ∙ sym (count_of_types (types_view ts))) i) && sym (each (types_view ts)) i)
    where
      long : (ts : List ValueType) → length (types_view ts) ≡ length ts
      long [] = refl
      long (t ∷ ts) = ap suc (long ts)
