-- Properties and required names, looked up.
use Rattle.std.proofs.Common.{◌≡◌, ℕ, List, [], ◌∷◌, Bool, true, false, ◌||◌, cond, Option, Some, None, is_some, map, Bor, String, Global, string_bytes, nat_cmp, refl, ap, ◌∙◌}
use Rattle.std.proofs.lemmas.Map.Text.{is_eq-slice_cmp}
use Rattle.std.specs.Cmp.Lexicographic.{slice_cmp}
use Rattle.std.specs.List.{list_any}
use Rattle.std.specs.Option.{option_copied}
use Rattle.std.specs.Map.{lookup}
use Rattle.std.specs.BTreeMap.{is_at}
use Rattle.schema_defs.specs.Schema.{MaybeSchema, the_schema}
use Rattle.schema_defs.specs.Layer.{is_given, property_at}
use Rattle.schema_types.specs.View.{schema_view, properties_view}
use Rattle.schema_types.specs.declared.schema.Schema.{Schema}
use Rattle.enum_defs.specs.Words.{is_name}
use Rattle.merge_members.specs.Plans.{seen_schema, some_schema}

pub seen_copied : (o : Option (Bor Schema)) → seen_schema o ≡ some_schema (option_copied o)
seen_copied None = refl
seen_copied (Some s) = refl

found : (b : Bool) (s : Schema) (o : Option Schema) (m : MaybeSchema) → some_schema o ≡ m → some_schema (cond b (Some s) o) ≡ cond b (the_schema (schema_view s)) m
found true s o m h = refl
found false s o m h = h

pub property_found : (n : List ℕ) (es : List (String Global × Schema)) → some_schema (lookup (is_at (λ k. slice_cmp nat_cmp n (string_bytes k))) es) ≡ property_at n (properties_view es)
property_found n [] = refl
property_found n (e ∷ es) = found _ e.1 _ _ (property_found n es) ∙ ap (λ b. cond b (the_schema (schema_view e.1)) (property_at n (properties_view es))) (is_eq-slice_cmp n (string_bytes e.0))

given : (o : Option Schema) → is_some o ≡ is_given (some_schema o)
given None = refl
given (Some s) = refl

pub name_found : (n : List ℕ) (es : List (String Global × Schema)) → is_some (lookup (is_at (λ k. slice_cmp nat_cmp n (string_bytes k))) es) ≡ is_given (property_at n (properties_view es))
name_found n es = given (lookup (is_at (λ k. slice_cmp nat_cmp n (string_bytes k))) es) ∙ ap is_given (property_found n es)

pub key_found : (n : List ℕ) (ks : List (String Global)) → list_any (is_at (λ k. slice_cmp nat_cmp n (string_bytes k))) ks ≡ is_name n (map string_bytes ks)
key_found n [] = refl
key_found n (k ∷ ks) = (λ i. is_eq-slice_cmp n (string_bytes k) i || key_found n ks i)
