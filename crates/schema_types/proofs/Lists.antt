-- Lists of texts and lists of schemas, compared item by item.
use Rattle.std.proofs.Common.{◌≡◌, suc, List, [], ◌∷◌, length, map, String, Global, string_bytes, bytes_eq, Bool, true, false, ◌&&◌, refl, ap}
use Rattle.std.specs.Cmp.Lexicographic.{pointwise}
use Rattle.std.specs.String.{string_eq}
use Rattle.schema_defs.specs.Schema.{schemas}
use Rattle.schema_types.specs.View.{schemas_view}
use Rattle.schema_types.specs.Same.{same_all}
use Rattle.schema_types.specs.declared.schema.Schema.{Schema}

pub pointwise_of_texts : (ss ts : List (String Global)) → pointwise string_eq ss ts ≡ pointwise bytes_eq (map string_bytes ss) (map string_bytes ts)
pointwise_of_texts [] [] = refl
pointwise_of_texts [] (t ∷ ts) = refl
pointwise_of_texts (s ∷ ss) [] = refl
pointwise_of_texts (s ∷ ss) (t ∷ ts) = ap (λ b. string_eq s t && b) (pointwise_of_texts ss ts)

pub not_both : (a b : Bool) → b ≡ false → (a && b) ≡ false
not_both true b h = h
not_both false b h = refl

pub other_length : (ss ts : List Schema) → (length ss ≡ length ts → ⊥) → same_all (schemas (schemas_view ss)) (schemas (schemas_view ts)) ≡ false
other_length [] [] h = absurd (h refl)
other_length [] (t ∷ ts) h = refl
other_length (s ∷ ss) [] h = refl
other_length (s ∷ ss) (t ∷ ts) h = not_both _ _ (other_length ss ts (λ e. h (ap suc e)))
