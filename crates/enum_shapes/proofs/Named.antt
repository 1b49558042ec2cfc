-- Properties and required names, looked up.
use Rattle.std.proofs.Common.{◌≡◌, ℕ, suc, arith, List, [], ◌∷◌, Bool, true, false, ◌||◌, cond, Option, Some, None, option_map, option_and_then, is_some, length, map, Bor, String, Global, string_bytes, nat_cmp, refl, ap, ◌∙◌}
use Rattle.std.proofs.lemmas.Map.Text.{is_eq-slice_cmp}
use Rattle.std.specs.Cmp.Lexicographic.{slice_cmp}
use Rattle.std.specs.Prelude.{◌↔◌, IsTrue}
use Rattle.std.specs.List.{list_any}
use Rattle.std.specs.Option.{option_copied}
use Rattle.std.specs.Map.{lookup}
use Rattle.std.specs.BTreeMap.{is_at}
use Rattle.schema_defs.specs.Schema.{MaybeSchema, no_schema, the_schema}
use Rattle.schema_defs.specs.Layer.{property_at}
use Rattle.schema_types.specs.View.{schema_view, properties_view}
use Rattle.schema_types.specs.declared.schema.Schema.{Schema}
use Rattle.enum_defs.specs.Words.{names_of, is_name, given_schema}
use Rattle.enum_shapes.specs.Here.{has_none}
use Rattle.enum_defs.specs.Shapes.{constant_in, constant_text}

found : (b : Bool) (s : Schema) (o : Option Schema) (m : MaybeSchema) → option_map schema_view o ≡ given_schema m → option_map schema_view (cond b (Some s) o) ≡ given_schema (cond b (the_schema (schema_view s)) m)
found true s o m h = refl
found false s o m h = h

pub property_found : (n : List ℕ) (es : List (String Global × Schema)) → option_map schema_view (lookup (is_at (λ k. slice_cmp nat_cmp n (string_bytes k))) es) ≡ given_schema (property_at n (properties_view es))
property_found n [] = refl
property_found n (e ∷ es) = found _ e.1 _ _ (property_found n es) ∙ ap (λ b. given_schema (cond b (the_schema (schema_view e.1)) (property_at n (properties_view es)))) (is_eq-slice_cmp n (string_bytes e.0))

no_more_than_none : (n : ℕ) → suc n ≡ 0 → ⊥
no_more_than_none n h = omega arith

either : (b : Bool) (s : Schema) (o : Option Schema) (rest : Bool) → is_some o ≡ rest → is_some (cond b (Some s) o) ≡ (b || rest)
either true s o rest h = refl
either false s o rest h = h

pub name_found : (n : List ℕ) (es : List (String Global × Schema)) → is_some (lookup (is_at (λ k. slice_cmp nat_cmp n (string_bytes k))) es) ≡ is_name n (names_of (properties_view es))
name_found n [] = refl
name_found n (e ∷ es) = either _ e.1 _ _ (name_found n es) ∙ ap (λ b. b || is_name n (names_of (properties_view es))) (is_eq-slice_cmp n (string_bytes e.0))

-- the constant text of a schema that may be given
pub constant_found : (m : MaybeSchema) → constant_in m ≡ option_and_then constant_text (given_schema m)
constant_found no_schema = refl
constant_found (the_schema s) = refl

-- a required name
pub key_found : (n : List ℕ) (ks : List (String Global)) → list_any (is_at (λ k. slice_cmp nat_cmp n (string_bytes k))) ks ≡ is_name n (map string_bytes ks)
key_found n [] = refl
key_found n (k ∷ ks) = (λ i. is_eq-slice_cmp n (string_bytes k) i || key_found n ks i)

-- a reference to a schema
pub seen_copied : (o : Option (Bor Schema)) → option_map (λ s. schema_view s.now) o ≡ option_map schema_view (option_copied o)
seen_copied None = refl
seen_copied (Some s) = refl

-- no property at all
pub none_there : (b : Bool) (es : List (String Global × Schema)) → (IsTrue b ↔ (length es ≡ 0)) → b ≡ has_none (properties_view es)
none_there b [] f = f.1 refl
none_there true (e ∷ es) f = absurd (no_more_than_none (length es) (f.0 refl))
none_there false (e ∷ es) f = refl
