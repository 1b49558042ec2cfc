-- The schema that a map of schemas has at a name.
use Rattle.std.proofs.Common.{◌≡◌, ℕ, List, [], ◌∷◌, Bool, true, false, cond, Option, Some, option_map, String, Global, string_bytes, nat_cmp, bytes_eq, refl}
use Rattle.std.proofs.lemmas.Map.Text.{is_eq-slice_cmp}
use Rattle.std.specs.Cmp.Lexicographic.{slice_cmp}
use Rattle.std.specs.Map.{lookup}
use Rattle.std.specs.BTreeMap.{is_at}
use Rattle.schema_defs.specs.Schema.{MaybeSchema, the_schema}
use Rattle.schema_defs.specs.Layer.{property_at}
use Rattle.schema_defs.specs.Children.{Node, at_schema, maybe_node}
use Rattle.schema_types.specs.View.{schema_view, properties_view}
use Rattle.schema_types.specs.declared.schema.Schema.{Schema}

abbrev pub node_of : Schema → Node
node_of s = at_schema (schema_view s)

found_or : (b : Bool) (s : Schema) (x : Option Schema) (y : MaybeSchema) → option_map node_of x ≡ maybe_node y → option_map node_of (cond b (Some s) x) ≡ maybe_node (cond b (the_schema (schema_view s)) y)
found_or true s x y h = refl
found_or false s x y h = h

pub property-lookup : (name : List ℕ) (es : List (String Global × Schema))
    → option_map node_of (lookup (is_at (λ k. slice_cmp nat_cmp name (string_bytes k))) es) ≡ maybe_node (property_at name (properties_view es))
property-lookup name [] = refl
property-lookup name (e ∷ es) = rw (is_eq-slice_cmp name (string_bytes e.0)) (found_or (bytes_eq name (string_bytes e.0)) e.1 _ _ (property-lookup name es))
