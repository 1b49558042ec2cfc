-- One turn of each loop, and its end.
use Rattle.std.proofs.Common.{◌≡◌, ℕ, suc, ◌+◌, ◌<◌, ◌≤◌, List, [], ◌∷◌, ◌++◌, map, drop, length, get_or, append_assoc, append-nil, Option, Some, None, option_map, Vec, Global, refl, sym, ap, ◌∙◌, arith}
use Rattle.std.proofs.lemmas.List.{drop_all, map-append}
use Rattle.model_defs.specs.Model.{TagModel}
use Rattle.entry_defs.specs.Entry.{Target, Entry, item}
use Rattle.entry_defs.specs.Space.{Id, FieldAt, VariantAt, Space}
use Rattle.entry_defs.specs.Table.{TargetEntry}
use Rattle.entry_types.specs.declared.entry.TypeId.{TypeId}
use Rattle.entry_types.specs.declared.item.FieldEntry.{FieldEntry}
use Rattle.entry_types.specs.declared.item.VariantEntry.{VariantEntry}
use Rattle.entry_types.specs.View.{id_view, field_view, variant_view}
use Rattle.tree_types.specs.declared.tree.Target.{Target as TreeTarget}
use Rattle.tree_types.specs.declared.tree.FieldHead.{FieldHead}
use Rattle.tree_types.specs.declared.tree.VariantHead.{VariantHead}
use Rattle.tree_types.specs.declared.tree.Tree.{Tree}
use Rattle.tree_types.specs.View.{Parts, variants_view, tree_view, parts_of, item_in, item_entry, target_view, target_entry}
use Rattle.space_trees.specs.Placed.{opened, placed, placed_variants}
use Rattle.space_trees.specs.declared.led.Led.{Led}
use Rattle.space_trees.specs.Leading.{found_led, or_led, led_once}
use Rattle.space_trees.specs.Filled.{led_from, opened_targets, filled_targets, placed_tree, placed_rest}
use Rattle.space_trees.specs.Parts.{part_seen, tree_seen, case_seen, placed_part, placed_parts, placed_variant, field_at, fields_at, name_in}
use Rattle.space_trees.proofs.PartSteps.{joined, turn as joined-turn, end as joined-end}
use Rattle.space_trees.proofs.Steps.{dropped, turn as one-turn, end as one-end, counted_turn, counted_end, or-none, led_turn}

-- ---- parts and variants

pub parts_turn : (ids : Target → Id) (xs : List (FieldHead × Option Tree)) (i : ℕ) (x : FieldHead × Option Tree) (y : Option TypeId) (old new : List (Option TypeId)) (s t : Space) (w : Space × List (Option Id))
    → i < length xs → x ≡ get_or xs i x → placed_part ids (tree_seen x) s ≡ (t, option_map id_view y) → new ≡ old ++ y ∷ [] → joined (map (option_map id_view) old) (placed_parts ids (map tree_seen (drop i xs)) s) ≡ w
    → joined (map (option_map id_view) new) (placed_parts ids (map tree_seen (drop (i + 1) xs)) t) ≡ w
parts_turn ids xs i x y old new s t w h e made pushed was =
    joined-turn tree_seen (λ (o : Option TypeId). option_map id_view o) (placed_part ids) (placed_parts ids) (λ v vs z. refl) (λ z. refl) xs i x y old new s t w h e made pushed was

pub part_turn : (ids : Target → Id) (xs : List (FieldHead × Option Tree)) (i : ℕ) (x : FieldHead × Option Tree) (e : Tree) (y : TypeId) (old new : List (Option TypeId)) (s t : Space) (w : Space × List (Option Id))
    → i < length xs → x ≡ get_or xs i x → x.1 ≡ Some e → placed ids None (tree_view e) s ≡ (t, id_view y) → new ≡ old ++ Some y ∷ []
    → joined (map (option_map id_view) old) (placed_parts ids (map tree_seen (drop i xs)) s) ≡ w
    → joined (map (option_map id_view) new) (placed_parts ids (map tree_seen (drop (i + 1) xs)) t) ≡ w
part_turn ids xs i x e y old new s t w h q some made pushed was =
    parts_turn ids xs i x (Some y) old new s t w h q
    (ap (λ (z : Option Tree). placed_part ids (option_map tree_view z) s) some ∙ ap (λ (a : Space × Id). (a.0, Some a.1)) made) pushed was

pub bare_turn : (ids : Target → Id) (xs : List (FieldHead × Option Tree)) (i : ℕ) (x : FieldHead × Option Tree) (old new : List (Option TypeId)) (s : Space) (w : Space × List (Option Id))
    → i < length xs → x ≡ get_or xs i x → x.1 ≡ None → new ≡ old ++ None ∷ [] → joined (map (option_map id_view) old) (placed_parts ids (map tree_seen (drop i xs)) s) ≡ w
    → joined (map (option_map id_view) new) (placed_parts ids (map tree_seen (drop (i + 1) xs)) s) ≡ w
bare_turn ids xs i x old new s w h q none pushed was =
    parts_turn ids xs i x None old new s s w h q (ap (λ (z : Option Tree). placed_part ids (option_map tree_view z) s) none) pushed was

pub parts_end : (ids : Target → Id) (xs : List (FieldHead × Option Tree)) (i : ℕ) (ys : List (Option TypeId)) (s : Space) (w : Space × List (Option Id)) → length xs ≤ i
    → joined (map (option_map id_view) ys) (placed_parts ids (map tree_seen (drop i xs)) s) ≡ w → w ≡ (s, map (option_map id_view) ys)
parts_end ids xs i ys s w h was = joined-end tree_seen (λ (o : Option TypeId). option_map id_view o) (placed_part ids) (placed_parts ids) (λ v vs z. refl) (λ z. refl) xs i ys s w h was

variants-more : (ids : Target → Id) (tag : TagModel) (v : VariantHead × Parts) (vs : List (VariantHead × Parts)) (z : Space)
    → placed_variants ids (variants_view tag (v ∷ vs)) z
    ≡ ((placed_variants ids (variants_view tag vs) (placed_variant ids tag v z).0).0, (placed_variant ids tag v z).1 ∷ (placed_variants ids (variants_view tag vs) (placed_variant ids tag v z).0).1)
variants-more ids tag (h, ps) vs z = refl

pub variants_turn : (ids : Target → Id) (tag : TagModel) (xs : List (VariantHead × Vec (FieldHead × Option Tree) Global)) (i : ℕ) (x : VariantHead × Vec (FieldHead × Option Tree) Global) (y : VariantEntry) (old new : List VariantEntry) (s t : Space) (w : Space × List VariantAt)
    → i < length xs → x ≡ get_or xs i x → placed_variant ids tag (case_seen x) s ≡ (t, variant_view y) → new ≡ old ++ y ∷ [] → joined (map variant_view old) (placed_variants ids (variants_view tag (map case_seen (drop i xs))) s) ≡ w
    → joined (map variant_view new) (placed_variants ids (variants_view tag (map case_seen (drop (i + 1) xs))) t) ≡ w
variants_turn ids tag xs i x y old new s t w h e made pushed was =
    joined-turn case_seen variant_view (placed_variant ids tag) (λ (ws : List (VariantHead × Parts)) (z : Space). placed_variants ids (variants_view tag ws) z) (variants-more ids tag) (λ z. refl) xs i x y old new s t w h e made pushed was

pub variants_end : (ids : Target → Id) (tag : TagModel) (xs : List (VariantHead × Vec (FieldHead × Option Tree) Global)) (i : ℕ) (ys : List VariantEntry) (s : Space) (w : Space × List VariantAt) → length xs ≤ i
    → joined (map variant_view ys) (placed_variants ids (variants_view tag (map case_seen (drop i xs))) s) ≡ w → w ≡ (s, map variant_view ys)
variants_end ids tag xs i ys s w h was =
    joined-end case_seen variant_view (placed_variant ids tag) (λ (ws : List (VariantHead × Parts)) (z : Space). placed_variants ids (variants_view tag ws) z) (variants-more ids tag) (λ z. refl) xs i ys s w h was

-- ---- fields

fields-none : (ps : Parts) → fields_at ps [] ≡ []
fields-none [] = refl
fields-none (p ∷ ps) = refl

pub fields_turn : (xs : List (FieldHead × Option Tree)) (i : ℕ) (x : FieldHead × Option Tree) (left rest : List TypeId) (j : TypeId) (y : FieldEntry) (old new : List FieldEntry) (w : List FieldAt)
    → i < length xs → x ≡ get_or xs i x → left ≡ j ∷ rest → field_view y ≡ field_at (part_seen x) (id_view j) → new ≡ old ++ y ∷ []
    → map field_view old ++ fields_at (parts_of (drop i xs)) (map id_view left) ≡ w → map field_view new ++ fields_at (parts_of (drop (i + 1) xs)) (map id_view rest) ≡ w
fields_turn xs i x left rest j y old new w h e split made pushed was =
    let more = fields_at (parts_of (drop (i + 1) xs)) (map id_view rest) in
    ap (λ z. z ++ more) (ap (map field_view) pushed ∙ map-append field_view old (y ∷ [])) ∙ append_assoc (map field_view old) (field_view y ∷ []) more
    ∙ ap (λ (z : FieldAt). map field_view old ++ z ∷ more) made
    ∙ ap (λ (z : Parts). map field_view old ++ fields_at z (map id_view (j ∷ rest))) (sym (dropped part_seen xs i x h e))
    ∙ ap (λ z. map field_view old ++ fields_at (parts_of (drop i xs)) (map id_view z)) (sym split) ∙ was

pub fields_end : (xs : List (FieldHead × Option Tree)) (i : ℕ) (left : List TypeId) (old : List FieldEntry) (w : List FieldAt) → length xs ≤ i
    → map field_view old ++ fields_at (parts_of (drop i xs)) (map id_view left) ≡ w → map field_view old ≡ w
fields_end xs i left old w h was = sym (append-nil (map field_view old)) ∙ ap (λ z. map field_view old ++ fields_at (parts_of z) (map id_view left)) (sym (drop_all i xs h)) ∙ was

pub fields_short : (ps : List (FieldHead × Option Tree)) (left : List TypeId) (old : List FieldEntry) (w : List FieldAt) → left ≡ []
    → map field_view old ++ fields_at (parts_of ps) (map id_view left) ≡ w → map field_view old ≡ w
fields_short ps left old w h was =
    sym (append-nil (map field_view old)) ∙ ap (λ z. map field_view old ++ z) (sym (fields-none (parts_of ps))) ∙ ap (λ z. map field_view old ++ fields_at (parts_of ps) (map id_view z)) (sym h) ∙ was

-- ---- targets and trees

pub opened_turn : (xs : List (TreeTarget × Tree)) (i : ℕ) (x : TreeTarget × Tree) (n : List ℕ) (j : Id) (s t w : Space) → i < length xs → x ≡ get_or xs i x → n ≡ name_in (tree_view x.1) → opened n s ≡ (t, j)
    → opened_targets (map target_entry (drop i xs)) s ≡ w → opened_targets (map target_entry (drop (i + 1) xs)) t ≡ w
opened_turn xs i x n j s t w h e named made was =
    one-turn target_entry opened_targets (λ (v : TargetEntry) (z : Space). (opened v.led_to.name z).0) (λ v vs z. refl) (λ z. refl) xs i x s t w h e
    (ap (λ (a : Space × Id). a.0) (sym made) ∙ ap (λ m. (opened m s).0) named) was

pub opened_end : (xs : List (TreeTarget × Tree)) (i : ℕ) (s w : Space) → length xs ≤ i → opened_targets (map target_entry (drop i xs)) s ≡ w → s ≡ w
opened_end xs i s w h was = one-end target_entry opened_targets (λ (v : TargetEntry) (z : Space). (opened v.led_to.name z).0) (λ v vs z. refl) (λ z. refl) xs i s w h was

abbrev fill : (Target → Id) → ℕ → TargetEntry → Space → Space
fill ids i v s = (placed ids (Some i) (item v.led_to.name v.led_to.shape) s).0

pub filled_turn : (ids : Target → Id) (xs : List (TreeTarget × Tree)) (i k n : ℕ) (x : TreeTarget × Tree) (s t w : Space) → i < length xs → x ≡ get_or xs i x → t ≡ (placed ids (Some k) (item_entry (item_in (tree_view x.1))) s).0
    → n ≡ k + 1 → filled_targets ids k (map target_entry (drop i xs)) s ≡ w → filled_targets ids n (map target_entry (drop (i + 1) xs)) t ≡ w
filled_turn ids xs i k n x s t w h e made next was =
    ap (λ m. filled_targets ids m (map target_entry (drop (i + 1) xs)) t) next ∙ counted_turn target_entry (filled_targets ids) (fill ids) (λ m v vs z. refl) (λ m z. refl) xs i k x s t w h e made was

pub filled_end : (ids : Target → Id) (xs : List (TreeTarget × Tree)) (i k : ℕ) (s w : Space) → length xs ≤ i → filled_targets ids k (map target_entry (drop i xs)) s ≡ w → s ≡ w
filled_end ids xs i k s w h was = counted_end target_entry (filled_targets ids) (fill ids) (λ m v vs z. refl) (λ m z. refl) xs i k s w h was

pub rest_turn : (ids : Target → Id) (xs : List Tree) (i : ℕ) (x : Tree) (j : Id) (s t w : Space) → i < length xs → x ≡ get_or xs i x → placed_tree ids (tree_view x) s ≡ (t, j)
    → placed_rest ids (map tree_view (drop i xs)) s ≡ w → placed_rest ids (map tree_view (drop (i + 1) xs)) t ≡ w
rest_turn ids xs i x j s t w h e made was =
    one-turn tree_view (placed_rest ids) (λ (v : Entry) (z : Space). (placed_tree ids v z).0) (λ v vs z. refl) (λ z. refl) xs i x s t w h e (ap (λ (a : Space × Id). a.0) (sym made)) was

pub rest_end : (ids : Target → Id) (xs : List Tree) (i : ℕ) (s w : Space) → length xs ≤ i → placed_rest ids (map tree_view (drop i xs)) s ≡ w → s ≡ w
rest_end ids xs i s w h was = one-end tree_view (placed_rest ids) (λ (v : Entry) (z : Space). (placed_tree ids v z).0) (λ v vs z. refl) (λ z. refl) xs i s w h was

-- ---- where references lead

pub led_loop : (xs : List (TreeTarget × Tree)) (i k n : ℕ) (x : TreeTarget × Tree) (old new : Led) (all : List TargetEntry) → i < length xs → x ≡ get_or xs i x
    → ((q : Target) → found_led new q ≡ or_led (found_led old q) (led_once (target_view x.0) k q)) → n ≡ k + 1
    → ((q : Target) → or_led (found_led old q) (led_from k (map target_entry (drop i xs)) q) ≡ led_from 0 all q)
    → (q : Target) → or_led (found_led new q) (led_from n (map target_entry (drop (i + 1) xs)) q) ≡ led_from 0 all q
led_loop xs i k n x old new all h e made next was q =
    let rest = map target_entry (drop (i + 1) xs) in
    ap (λ m. or_led (found_led new q) (led_from m rest q)) (let m : n ≡ suc k = omega (arith, next) in m)
    ∙ led_turn (target_entry x) rest k q (found_led old q) (found_led new q) (led_from 0 all q) (made q)
    (ap (λ z. or_led (found_led old q) (led_from k z q)) (sym (dropped target_entry xs i x h e)) ∙ was q)

pub led_loop_end : (xs : List (TreeTarget × Tree)) (i k : ℕ) (l : Led) (all : List TargetEntry) → length xs ≤ i
    → ((q : Target) → or_led (found_led l q) (led_from k (map target_entry (drop i xs)) q) ≡ led_from 0 all q) → (q : Target) → found_led l q ≡ led_from 0 all q
led_loop_end xs i k l all h was q = sym (or-none (found_led l q)) ∙ ap (λ z. or_led (found_led l q) (led_from k (map target_entry z) q)) (sym (drop_all i xs h)) ∙ was q
