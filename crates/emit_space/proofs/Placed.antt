-- The items of a space, one entry after another.
use Rattle.std.proofs.Common.{◌≡◌, ℕ, suc, ◌+◌, ◌<◌, ◌≤◌, List, [], ◌∷◌, ◌++◌, map, flat_map, drop, length, get_or, Bool, append_assoc, append-nil, length-append, refl, sym, ap, ◌∙◌, arith}
use Rattle.std.proofs.lemmas.List.{drop_all}
use Rattle.std.proofs.lemmas.Grind.{flat_map-append}
use Rattle.syntax_trees.specs.Item.{ItemD}
use Rattle.entry_defs.specs.Space.{Id, EntryAt, boolean_at, integer_at, text_at, native_at, any_at, null_at, option_at, vec_at, set_at, map_at, tuple_entry_at, array_at, reference_at, item_at, Space}
use Rattle.entry_types.specs.declared.entry.TypeEntry.{TypeEntry}
use Rattle.entry_types.specs.View.{entry_view}
use Rattle.space_defs.specs.Items.{ItemAt, item_then, items_from}
use Rattle.space_defs.specs.Trees.{shape_defaults_at, item_constraints_at, item_tree_at, item_trees_at}
use Rattle.json_value.specs.Value.{Value}
use Rattle.serde_json.specs.declared.value.Value as json
use Rattle.json_value.specs.View.{kept_view}
use Rattle.model_defs.specs.Model.{ConstraintD}
use Rattle.emit_types.specs.Asked.{space_view}
use Rattle.emit_types.proofs.Pieces.{grown}
use Rattle.emit_types.proofs.Turns.{mapped_drop}

parted : (i : Id) (e : EntryAt) (is : List ItemAt) → item_then i e is ≡ item_then i e [] ++ is
parted i (item_at n s) is = refl
parted i boolean_at is = refl
parted i (integer_at n) is = refl
parted i text_at is = refl
parted i (native_at f) is = refl
parted i any_at is = refl
parted i null_at is = refl
parted i (option_at j) is = refl
parted i (vec_at j) is = refl
parted i (set_at j) is = refl
parted i (map_at l j) is = refl
parted i (tuple_entry_at js) is = refl
parted i (array_at j n) is = refl
parted i (reference_at j) is = refl

-- the items from a place on are those of the entry there and those from the next on
items_turn : (es : List TypeEntry) (i : ℕ) (e : TypeEntry) → i < length es → e ≡ get_or es i e
    → items_from i (space_view (drop i es)) ≡ item_then i (entry_view e) [] ++ items_from (i + 1) (space_view (drop (i + 1) es))
items_turn es i e h a =
    let next : suc i ≡ i + 1 = omega arith in
    ap (items_from i) (mapped_drop entry_view es i e h a)
    ∙ parted i (entry_view e) (items_from (suc i) (space_view (drop (i + 1) es)))
    ∙ ap (λ k. item_then i (entry_view e) [] ++ items_from k (space_view (drop (i + 1) es))) next

items_end : (es : List TypeEntry) (i : ℕ) → length es ≤ i → items_from i (space_view (drop i es)) ≡ []
items_end es i h = ap (λ z. items_from i (space_view z)) (drop_all i es h)

-- what each item gives
module _ {Z : Type 0} (f : ItemAt → List Z) where
  more_of_each : (es : List TypeEntry) (i : ℕ) (e : TypeEntry) (old new w : List Z) → i < length es → e ≡ get_or es i e → new ≡ old ++ flat_map f (item_then i (entry_view e) [])
      → old ++ flat_map f (items_from i (space_view (drop i es))) ≡ w → new ++ flat_map f (items_from (i + 1) (space_view (drop (i + 1) es))) ≡ w
  more_of_each es i e old new w h a made was =
      let first = item_then i (entry_view e) [] in
      let rest = items_from (i + 1) (space_view (drop (i + 1) es)) in
      ap (λ z. z ++ flat_map f rest) made
      ∙ append_assoc old (flat_map f first) (flat_map f rest)
      ∙ ap (λ z. old ++ z) (sym (flat_map-append f first rest))
      ∙ ap (λ z. old ++ flat_map f z) (sym (items_turn es i e h a))
      ∙ was

  all_of_each : (es : List TypeEntry) (i : ℕ) (old w : List Z) → length es ≤ i → old ++ flat_map f (items_from i (space_view (drop i es))) ≡ w → old ≡ w
  all_of_each es i old w h was = sym (append-nil old) ∙ ap (λ z. old ++ flat_map f z) (sym (items_end es i h)) ∙ was

-- the trees of items; `n` is the number of defaults before
module _ (space : Space) (boxed : Id → Id → Bool) (leads : Id → Bool) where
  abbrev trees : ℕ → List ItemAt → List ItemD
  trees n is = item_trees_at space boxed leads n is

  abbrev kept_by : List ItemAt → ℕ
  kept_by is = length (flat_map (λ i. shape_defaults_at i.shape) is)

  trees_joined : (n : ℕ) (xs ys : List ItemAt) → trees n (xs ++ ys) ≡ trees n xs ++ trees (n + kept_by xs) ys
  trees_joined n [] ys = let e : n ≡ n + 0 = omega arith in ap (λ k. trees k ys) e
  trees_joined n (x ∷ xs) ys =
      let one = shape_defaults_at x.shape in
      let others = flat_map (λ (i : ItemAt). shape_defaults_at i.shape) xs in
      let l = length-append one others in
      let e : (n + length one) + length others ≡ n + length (one ++ others) = omega arith in
      ap (λ z. item_tree_at space boxed leads n x ∷ z) (trees_joined (n + length one) xs ys ∙ ap (λ k. trees (n + length one) xs ++ trees k ys) e)

  more_trees : (es : List TypeEntry) (i n m : ℕ) (e : TypeEntry) (old new w : List ItemD) → i < length es → e ≡ get_or es i e
      → new ≡ old ++ trees n (item_then i (entry_view e) []) → m ≡ n + kept_by (item_then i (entry_view e) [])
      → old ++ trees n (items_from i (space_view (drop i es))) ≡ w → new ++ trees m (items_from (i + 1) (space_view (drop (i + 1) es))) ≡ w
  more_trees es i n m e old new w h a made counted was =
      let first = item_then i (entry_view e) [] in
      let rest = items_from (i + 1) (space_view (drop (i + 1) es)) in
      ap (λ z. z ++ trees m rest) made
      ∙ append_assoc old (trees n first) (trees m rest)
      ∙ ap (λ k. old ++ (trees n first ++ trees k rest)) counted
      ∙ ap (λ z. old ++ z) (sym (trees_joined n first rest))
      ∙ ap (λ z. old ++ trees n z) (sym (items_turn es i e h a))
      ∙ was

  all_trees : (es : List TypeEntry) (i n : ℕ) (old w : List ItemD) → length es ≤ i → old ++ trees n (items_from i (space_view (drop i es))) ≡ w → old ≡ w
  all_trees es i n old w h was = sym (append-nil old) ∙ ap (λ z. old ++ trees n z) (sym (items_end es i h)) ∙ was

  pub trees_turn : (es : List TypeEntry) (i : ℕ) (e : TypeEntry) (kept more : List json.Value) (old new w : List ItemD) → i < length es → e ≡ get_or es i e
      → new ≡ old ++ item_trees_at space boxed leads (length kept) (item_then i (entry_view e) [])
      → map kept_view more ≡ map kept_view kept ++ flat_map (λ i. shape_defaults_at i.shape) (item_then i (entry_view e) [])
      → old ++ item_trees_at space boxed leads (length kept) (items_from i (space_view (drop i es))) ≡ w
      → new ++ item_trees_at space boxed leads (length more) (items_from (i + 1) (space_view (drop (i + 1) es))) ≡ w
  trees_turn es i e kept more old new w h a made counted was =
      more_trees es i (length kept) (length more) e old new w h a made (grown kept_view more kept (flat_map (λ (x : ItemAt). shape_defaults_at x.shape) (item_then i (entry_view e) [])) counted) was

  pub trees_end : (es : List TypeEntry) (i n : ℕ) (old w : List ItemD) → length es ≤ i → old ++ item_trees_at space boxed leads n (items_from i (space_view (drop i es))) ≡ w → old ≡ w
  trees_end = all_trees

pub defaults_turn : (es : List TypeEntry) (i : ℕ) (e : TypeEntry) (old new w : List Value) → i < length es → e ≡ get_or es i e
    → new ≡ old ++ flat_map (λ i. shape_defaults_at i.shape) (item_then i (entry_view e) [])
    → old ++ flat_map (λ i. shape_defaults_at i.shape) (items_from i (space_view (drop i es))) ≡ w
    → new ++ flat_map (λ i. shape_defaults_at i.shape) (items_from (i + 1) (space_view (drop (i + 1) es))) ≡ w
defaults_turn = more_of_each (λ i. shape_defaults_at i.shape)

pub defaults_end : (es : List TypeEntry) (i : ℕ) (old w : List Value) → length es ≤ i → old ++ flat_map (λ i. shape_defaults_at i.shape) (items_from i (space_view (drop i es))) ≡ w → old ≡ w
defaults_end = all_of_each (λ i. shape_defaults_at i.shape)

pub constraints_turn : (es : List TypeEntry) (i : ℕ) (e : TypeEntry) (old new w : List ConstraintD) → i < length es → e ≡ get_or es i e
    → new ≡ old ++ flat_map item_constraints_at (item_then i (entry_view e) [])
    → old ++ flat_map item_constraints_at (items_from i (space_view (drop i es))) ≡ w
    → new ++ flat_map item_constraints_at (items_from (i + 1) (space_view (drop (i + 1) es))) ≡ w
constraints_turn = more_of_each item_constraints_at

pub constraints_end : (es : List TypeEntry) (i : ℕ) (old w : List ConstraintD) → length es ≤ i → old ++ flat_map item_constraints_at (items_from i (space_view (drop i es))) ≡ w → old ≡ w
constraints_end = all_of_each item_constraints_at
