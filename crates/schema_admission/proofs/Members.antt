-- A name among the members of an object.
use Rattle.std.proofs.Common.{◌≡◌, ◌≤◌, ◌+◌, ℕ, suc, List, [], ◌∷◌, length, map, Bool, true, false, ◌||◌, ◌&&◌, arith, bytes_eq, sym, is_some, cond, String, Global, string_bytes, nat_cmp, Some, None, Option, refl, ap, ◌∙◌}
use Rattle.std.proofs.lemmas.Map.Text.{is_eq-slice_cmp}
use Rattle.std.specs.Cmp.Lexicographic.{slice_cmp}
use Rattle.std.specs.List.{list_any}
use Rattle.std.specs.Map.{lookup}
use Rattle.std.specs.BTreeMap.{is_at}
use Rattle.serde_json.specs.View.{members_view}
use Rattle.serde_json.specs.declared.value.Value.{Value}
use Rattle.json_value.specs.Value.{has_name, member_count}
use Rattle.schema_defs.specs.Schema as defs
use Rattle.schema_defs.specs.Schema.{MaybeSchema, no_schema, the_schema, Properties, no_properties, property}
use Rattle.schema_defs.specs.Layer.{Judge, maybe, property_at, is_given}
use Rattle.schema_types.specs.View.{schema_view, properties_view}
use Rattle.schema_types.specs.declared.schema.Schema.{Schema}
use Rattle.schema_defs.specs.Counts.{schema_nodes, maybe_nodes, properties_nodes}
use Rattle.schema_admission.specs.Judging.{maybe_seen}
use Rattle.json_value.specs.View.{members_of}

either : (b : Bool) (v : Value) (o : Option Value) (rest : Bool) → is_some o ≡ rest → is_some (cond b (Some v) o) ≡ (b || rest)
either true v o rest h = refl
either false v o rest h = h

pub names_found : (n : List ℕ) (es : List (String Global × Value)) → is_some (lookup (is_at (λ k. slice_cmp nat_cmp n (string_bytes k))) es) ≡ has_name n (members_of (members_view es))
names_found n [] = refl
names_found n (e ∷ es) = either _ e.1 _ _ (names_found n es) ∙ ap (λ b. b || has_name n (members_of (members_view es))) (is_eq-slice_cmp n (string_bytes e.0))

-- a name among required names
pub listed_among : (n : List ℕ) (ks : List (String Global)) → list_any (is_at (λ k. slice_cmp nat_cmp n (string_bytes k))) ks ≡ list_any (bytes_eq n) (map string_bytes ks)
listed_among n [] = refl
listed_among n (k ∷ ks) = λ i. is_eq-slice_cmp n (string_bytes k) i || listed_among n ks i

found_cond : (b : Bool) (s : Schema) (o : Option Schema) (m : MaybeSchema) → maybe_seen o ≡ m → maybe_seen (cond b (Some s) o) ≡ cond b (the_schema (schema_view s)) m
found_cond true s o m h = refl
found_cond false s o m h = h

-- the property of a name
pub found_at : (n : List ℕ) (es : List (String Global × Schema)) → maybe_seen (lookup (is_at (λ k. slice_cmp nat_cmp n (string_bytes k))) es) ≡ property_at n (properties_view es)
found_at n [] = refl
found_at n (e ∷ es) = found_cond _ e.1 _ _ (found_at n es) ∙ ap (λ b. cond b (the_schema (schema_view e.1)) (property_at n (properties_view es))) (is_eq-slice_cmp n (string_bytes e.0))

seen_given : (o : Option Schema) → is_some o ≡ is_given (maybe_seen o)
seen_given None = refl
seen_given (Some s) = refl

pub given_at : (n : List ℕ) (es : List (String Global × Schema)) → is_some (lookup (is_at (λ k. slice_cmp nat_cmp n (string_bytes k))) es) ≡ is_given (property_at n (properties_view es))
given_at n es = seen_given (lookup (is_at (λ k. slice_cmp nat_cmp n (string_bytes k))) es) ∙ ap is_given (found_at n es)

one_size : (b : Bool) (s : defs.Schema) (m : MaybeSchema) (k : ℕ) → maybe_nodes m ≤ k → maybe_nodes (cond b (the_schema s) m) ≤ schema_nodes s + k
one_size true s m k h = omega arith
one_size false s m k h = omega (arith, h)

pub property_small : (n : List ℕ) (ps : Properties) → maybe_nodes (property_at n ps) ≤ properties_nodes ps
property_small n no_properties = omega arith
property_small n (property k s ps) = one_size (bytes_eq n k) s _ _ (property_small n ps)

pub unless_small : (b : Bool) (m : MaybeSchema) → maybe_nodes (cond b no_schema m) ≤ maybe_nodes m
unless_small true m = omega arith
unless_small false m = omega arith

pub unless_maybe : (b : Bool) (j : Judge) (m : MaybeSchema) → maybe j (cond b no_schema m) ≡ (b || maybe j m)
unless_maybe true j m = refl
unless_maybe false j m = refl

pub members_counted : (es : List (String Global × Value)) → length es ≡ member_count (members_of (members_view es))
members_counted [] = refl
members_counted (e ∷ es) = ap suc (members_counted es)

pub both_hold : (a b : Bool) → a ≡ true → b ≡ true → true ≡ (a && b)
both_hold a b h k = λ i. sym h i && sym k i

pub first_fails : (a b : Bool) → a ≡ false → false ≡ (a && b)
first_fails a b h = λ i. sym h i && b
