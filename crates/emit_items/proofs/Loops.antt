-- What loops over fields and variants have gathered, with what is left; the place of a default is the number of those before.
use Rattle.std.proofs.Common.{◌≡◌, ℕ, ◌+◌, ◌<◌, ◌≤◌, List, [], ◌∷◌, ◌++◌, map, flat_map, drop, length, get_or, Bool, refl}
use Rattle.serde_json.specs.declared.value.Value as json
use Rattle.json_value.specs.Value.{Value}
use Rattle.syntax_trees.specs.Item.{FieldD, VariantD, field_view as tree_view, variant_view as variant_tree}
use Rattle.syntax_trees.specs.declared.item.Field.{Field}
use Rattle.syntax_trees.specs.declared.item.Variant.{Variant}
use Rattle.json_value.specs.View.{kept_view}
use Rattle.entry_defs.specs.Space.{Id, FieldAt, VariantAt, Space}
use Rattle.entry_types.specs.declared.item.FieldEntry.{FieldEntry}
use Rattle.entry_types.specs.declared.item.VariantEntry.{VariantEntry}
use Rattle.entry_types.specs.View.{field_view, state_view, variant_view}
use Rattle.emit_defs.specs.Models.{state_defaults, after_state}
use Rattle.space_defs.specs.Trees.{field_defaults_at, contents_defaults_at, field_tree_at, field_trees_at, variant_tree_at, variant_trees_at}
use Rattle.emit_types.proofs.Pieces.{grown}
use Rattle.emit_types.proofs.Turns.{pushed, turn, end, step, last}

-- ---- defaults

pub kept_turn : (xs : List FieldEntry) (i : ℕ) (x : FieldEntry) (old new : List json.Value) (w : List Value) → i < length xs → x ≡ get_or xs i x
    → map kept_view new ≡ map kept_view old ++ state_defaults (state_view x.state)
    → map kept_view old ++ field_defaults_at (map field_view (drop i xs)) ≡ w → map kept_view new ++ field_defaults_at (map field_view (drop (i + 1) xs)) ≡ w
kept_turn xs i x old new w h e made was =
    step field_view (λ g. state_defaults g.state) (λ gs. field_defaults_at gs) refl (λ g gs. refl) xs i x (map kept_view old) (map kept_view new) w h e made was

pub kept_end : (xs : List FieldEntry) (i : ℕ) (old : List json.Value) (w : List Value) → length xs ≤ i → map kept_view old ++ field_defaults_at (map field_view (drop i xs)) ≡ w → map kept_view old ≡ w
kept_end xs i old w h was = last field_view (λ g. state_defaults g.state) (λ gs. field_defaults_at gs) refl (λ g gs. refl) xs i (map kept_view old) w h was

abbrev kept_by_all : List VariantAt → List Value
kept_by_all ws = flat_map (λ x. contents_defaults_at x.contents) ws

pub kept_by_turn : (xs : List VariantEntry) (i : ℕ) (x : VariantEntry) (old new : List json.Value) (w : List Value) → i < length xs → x ≡ get_or xs i x
    → map kept_view new ≡ map kept_view old ++ contents_defaults_at (variant_view x).contents
    → map kept_view old ++ flat_map (λ x. contents_defaults_at x.contents) (map variant_view (drop i xs)) ≡ w
    → map kept_view new ++ flat_map (λ x. contents_defaults_at x.contents) (map variant_view (drop (i + 1) xs)) ≡ w
kept_by_turn xs i x old new w h e made was =
    step variant_view (λ v. contents_defaults_at v.contents) kept_by_all refl (λ v vs. refl) xs i x (map kept_view old) (map kept_view new) w h e made was

pub kept_by_end : (xs : List VariantEntry) (i : ℕ) (old : List json.Value) (w : List Value) → length xs ≤ i
    → map kept_view old ++ flat_map (λ x. contents_defaults_at x.contents) (map variant_view (drop i xs)) ≡ w → map kept_view old ≡ w
kept_by_end xs i old w h was = last variant_view (λ v. contents_defaults_at v.contents) kept_by_all refl (λ v vs. refl) xs i (map kept_view old) w h was

-- ---- trees

module _ (space : Space) (boxed : Id → Id → Bool) (leads : Id → Bool) (owner : Id) where
  pub fields_turn : (xs : List FieldEntry) (i : ℕ) (x : FieldEntry) (old new : List Field) (t : Field) (kept more : List json.Value) (w : List FieldD) → i < length xs → x ≡ get_or xs i x
      → new ≡ old ++ t ∷ [] → tree_view t ≡ field_tree_at space boxed leads owner (length kept) (field_view x)
      → map kept_view more ≡ map kept_view kept ++ state_defaults (state_view x.state)
      → map tree_view old ++ field_trees_at space boxed leads owner (length kept) (map field_view (drop i xs)) ≡ w
      → map tree_view new ++ field_trees_at space boxed leads owner (length more) (map field_view (drop (i + 1) xs)) ≡ w
  fields_turn xs i x old new t kept more w h e made seen counted was =
      turn field_view (λ n g. field_tree_at space boxed leads owner n g ∷ []) (λ n g. after_state g.state n) (λ n gs. field_trees_at space boxed leads owner n gs) (λ n. refl) (λ n g gs. refl)
      xs i (length kept) (length more) x (map tree_view old) (map tree_view new) w h e
      (pushed tree_view old new t (field_tree_at space boxed leads owner (length kept) (field_view x)) made seen)
      (grown kept_view more kept (state_defaults (state_view x.state)) counted) was

  pub fields_end : (xs : List FieldEntry) (i n : ℕ) (old : List Field) (w : List FieldD) → length xs ≤ i
      → map tree_view old ++ field_trees_at space boxed leads owner n (map field_view (drop i xs)) ≡ w → map tree_view old ≡ w
  fields_end xs i n old w h was =
      end field_view (λ n g. field_tree_at space boxed leads owner n g ∷ []) (λ n g. after_state g.state n) (λ n gs. field_trees_at space boxed leads owner n gs) (λ n. refl) (λ n g gs. refl)
      xs i n (map tree_view old) w h was

  pub variants_turn : (xs : List VariantEntry) (i : ℕ) (x : VariantEntry) (old new : List Variant) (t : Variant) (kept more : List json.Value) (w : List VariantD) → i < length xs → x ≡ get_or xs i x
      → new ≡ old ++ t ∷ [] → variant_tree t ≡ variant_tree_at space boxed leads owner (length kept) (variant_view x)
      → map kept_view more ≡ map kept_view kept ++ contents_defaults_at (variant_view x).contents
      → map variant_tree old ++ variant_trees_at space boxed leads owner (length kept) (map variant_view (drop i xs)) ≡ w
      → map variant_tree new ++ variant_trees_at space boxed leads owner (length more) (map variant_view (drop (i + 1) xs)) ≡ w
  variants_turn xs i x old new t kept more w h e made seen counted was =
      turn variant_view (λ n v. variant_tree_at space boxed leads owner n v ∷ []) (λ n v. n + length (contents_defaults_at v.contents)) (λ n vs. variant_trees_at space boxed leads owner n vs)
      (λ n. refl) (λ n v vs. refl)
      xs i (length kept) (length more) x (map variant_tree old) (map variant_tree new) w h e
      (pushed variant_tree old new t (variant_tree_at space boxed leads owner (length kept) (variant_view x)) made seen)
      (grown kept_view more kept (contents_defaults_at (variant_view x).contents) counted) was

  pub variants_end : (xs : List VariantEntry) (i n : ℕ) (old : List Variant) (w : List VariantD) → length xs ≤ i
      → map variant_tree old ++ variant_trees_at space boxed leads owner n (map variant_view (drop i xs)) ≡ w → map variant_tree old ≡ w
  variants_end xs i n old w h was =
      end variant_view (λ n v. variant_tree_at space boxed leads owner n v ∷ []) (λ n v. n + length (contents_defaults_at v.contents)) (λ n vs. variant_trees_at space boxed leads owner n vs)
      (λ n. refl) (λ n v vs. refl) xs i n (map variant_tree old) w h was
