-- Properties and required names, looked up, and schemas compared.
use Rattle.std.proofs.Common.{◌≡◌, ℕ, suc, arith, List, [], ◌∷◌, Bool, true, false, ◌||◌, cond, Option, Some, None, is_some, length, map, String, Global, string_bytes, nat_cmp, refl, ap, ◌∙◌}
use Rattle.std.proofs.lemmas.Map.Text.{is_eq-slice_cmp}
use Rattle.std.specs.Cmp.Lexicographic.{slice_cmp}
use Rattle.std.specs.Prelude.{◌↔◌, IsTrue, Decides}
use Rattle.std.specs.Bool.{one_answer}
use Rattle.std.specs.List.{list_any}
use Rattle.std.specs.Map.{lookup}
use Rattle.std.specs.BTreeMap.{is_at}
use Rattle.schema_defs.specs.Schema as defs
use Rattle.schema_defs.specs.Schema.{MaybeSchema, no_schema, the_schema}
use Rattle.schema_defs.specs.Layer.{property_at, is_given}
use Rattle.schema_defs.specs.Mapped.{mapped, unwalked}
use Rattle.schema_types.specs.View.{schema_view, properties_view}
use Rattle.schema_types.specs.Same.{same_schemas}
use Rattle.schema_types.specs.declared.schema.Schema.{Schema}
use Rattle.schema_types.proofs.Alike.{schemas_Decides}
use Rattle.enum_defs.specs.Words.{is_name}
use Rattle.convert_defs.specs.Owners.{no_property, is_empty}

pub same_decided : (b : Bool) (s t : defs.Schema) → Decides b (mapped unwalked s ≡ mapped unwalked t) → b ≡ same_schemas s t
same_decided b s t d = one_answer b (same_schemas s t) d (schemas_Decides s t)

either : (b : Bool) (s : Schema) (o : Option Schema) (m : MaybeSchema) → is_some o ≡ is_given m → is_some (cond b (Some s) o) ≡ is_given (cond b (the_schema (schema_view s)) m)
either true s o m h = refl
either false s o m h = h

pub property_found : (n : List ℕ) (es : List (String Global × Schema)) → is_some (lookup (is_at (λ k. slice_cmp nat_cmp n (string_bytes k))) es) ≡ is_given (property_at n (properties_view es))
property_found n [] = refl
property_found n (e ∷ es) = either _ e.1 _ _ (property_found n es) ∙ ap (λ b. is_given (cond b (the_schema (schema_view e.1)) (property_at n (properties_view es)))) (is_eq-slice_cmp n (string_bytes e.0))

-- a required name
pub key_found : (n : List ℕ) (ks : List (String Global)) → list_any (is_at (λ k. slice_cmp nat_cmp n (string_bytes k))) ks ≡ is_name n (map string_bytes ks)
key_found n [] = refl
key_found n (k ∷ ks) = (λ i. is_eq-slice_cmp n (string_bytes k) i || key_found n ks i)

no_more_than_none : (n : ℕ) → suc n ≡ 0 → ⊥
no_more_than_none n h = omega arith

-- no property at all
pub none_there : (b : Bool) (es : List (String Global × Schema)) → (IsTrue b ↔ (length es ≡ 0)) → b ≡ no_property (properties_view es)
none_there b [] f = f.1 refl
none_there true (e ∷ es) f = absurd (no_more_than_none (length es) (f.0 refl))
none_there false (e ∷ es) f = refl

pub no_key : (b : Bool) (ks : List (String Global)) → (IsTrue b ↔ (length ks ≡ 0)) → b ≡ is_empty (map string_bytes ks)
no_key b [] f = f.1 refl
no_key true (k ∷ ks) f = absurd (no_more_than_none (length ks) (f.0 refl))
no_key false (k ∷ ks) f = refl
