-- Names of properties and of a set, looked up.
use Rattle.std.proofs.Common.{◌≡◌, ℕ, List, [], ◌∷◌, Bool, true, false, ◌||◌, cond, Some, is_some, map, String, Global, string_bytes, nat_cmp, refl, ap, ◌∙◌}
use Rattle.std.proofs.lemmas.Map.Text.{is_eq-slice_cmp}
use Rattle.std.specs.Cmp.Lexicographic.{slice_cmp}
use Rattle.std.specs.List.{list_any}
use Rattle.std.specs.Map.{lookup}
use Rattle.std.specs.BTreeMap.{is_at}
use Rattle.schema_defs.specs.Schema.{the_schema}
use Rattle.schema_defs.specs.Layer.{is_given, property_at}
use Rattle.schema_types.specs.View.{schema_view, properties_view}
use Rattle.schema_types.specs.declared.schema.Schema.{Schema}
use Rattle.enum_defs.specs.Words.{is_name}

pub name_found : (n : List ℕ) (es : List (String Global × Schema)) → is_some (lookup (is_at (λ k. slice_cmp nat_cmp n (string_bytes k))) es) ≡ is_given (property_at n (properties_view es))
name_found n [] = refl
name_found n (e ∷ es) = by (is_at (λ k. slice_cmp nat_cmp n (string_bytes k)) e.0) (name_found n es) ∙ ap (λ b. is_given (cond b (the_schema (schema_view e.1)) (property_at n (properties_view es)))) (is_eq-slice_cmp n (string_bytes e.0))
  where
    by : (b : Bool) → is_some (lookup (is_at (λ k. slice_cmp nat_cmp n (string_bytes k))) es) ≡ is_given (property_at n (properties_view es))
        → is_some (cond b (Some e.1) (lookup (is_at (λ k. slice_cmp nat_cmp n (string_bytes k))) es)) ≡ is_given (cond b (the_schema (schema_view e.1)) (property_at n (properties_view es)))
    by true h = refl
    by false h = h

pub key_found : (n : List ℕ) (ks : List (String Global)) → list_any (is_at (λ k. slice_cmp nat_cmp n (string_bytes k))) ks ≡ is_name n (map string_bytes ks)
key_found n [] = refl
key_found n (k ∷ ks) = (λ i. is_eq-slice_cmp n (string_bytes k) i || key_found n ks i)
