-- As many references as lead to different items are enough: more change nothing.
use Rattle.std.proofs.Common.{◌≡◌, ℕ, zero, suc, ◌+◌, ◌-◌, ◌≤◌, List, [], ◌∷◌, ◌++◌, map, length, Bool, true, false, ◌&&◌, Some, None, refl, sym, ap, ◌∙◌, arith}
use Rattle.std.specs.List.{flat_map}
use Rattle.json_value.specs.Value.{Value}
use Rattle.schema_defs.specs.Texts.{Relations}
use Rattle.entry_defs.specs.Entry.{Target, Entry, boolean_entry, integer_entry, text_entry, native_entry, any_entry, unit_entry, option_entry, vec_entry, set_entry, map_entry, tuple_entry, array_entry, reference, item}
use Rattle.entry_defs.specs.Layer.{shape_takes}
use Rattle.entry_defs.specs.Table.{ItemEntry, TargetEntry, Table, allowed, items_in, items_of, items_in_shape, target_item}
use Rattle.entry_defs.specs.Takes.{takes, takes_within, follows, item_takes, parts_of}
use Rattle.entry_defs.proofs.Rows.{takes-level}
use Rattle.tree_types.specs.declared.tree.Target.{Target as CodeTarget}
use Rattle.tree_types.specs.declared.tree.Tree.{Tree}
use Rattle.tree_types.specs.declared.tree.TreeTable.{TreeTable}
use Rattle.tree_types.specs.View.{item_in, table_view, target_entry, tree_view}
use Rattle.listed_reading.specs.Followed.{following, takes_in}

-- ---- how many

shorter : (xs ys : List ItemEntry) → length xs ≤ length (xs ++ ys)
shorter [] ys = let e : 0 ≤ length ys = omega arith in e
shorter (x ∷ xs) ys = let h = shorter xs ys in let e : suc (length xs) ≤ suc (length (xs ++ ys)) = omega (arith, h) in e

led : (ts : List TargetEntry) → length (map (λ t. t.led_to) ts) ≡ length ts
led [] = refl
led (t ∷ ts) = ap suc (led ts)

pub as_many : (xs : List (CodeTarget × Tree)) → length (map target_entry xs) ≡ length xs
as_many [] = refl
as_many (x ∷ xs) = ap suc (as_many xs)

pub enough : (t : Table) (left : ℕ) → left ≡ length t.targets → left + (allowed t - left) ≡ allowed t
enough t left h =
    let a = led t.targets in
    let first = map (λ (e : TargetEntry). e.led_to) t.targets in
    let second = flat_map (λ (e : TargetEntry). items_in_shape e.led_to.shape) t.targets in
    let b = shorter first second in
    let c : length (first ++ second) ≤ length (items_of t) = shorter (first ++ second) (flat_map items_in t.trees) in
    omega (arith, h, a, b, c)

pub takes_known : (x : TreeTable) (r : Relations) (e : Entry) (v : Value) (left : ℕ) (b : Bool) → left ≡ length x.targets.items → ((m : ℕ) → takes_in (following (table_view x) left m) r e v ≡ b)
    → b ≡ takes (table_view x) r e v
unfolding takes_in
takes_known x r e v left b h k =
    let t = table_view x in
    sym (takes-level t r v e ∙ sym (ap (λ n. takes_within t r v (parts_of t r v) n e) (enough t left (h ∙ sym (as_many x.targets.items)))) ∙ k (allowed t - left))

-- ---- one reference

same : (b : Bool) → (b && true) ≡ b
same true = refl
same false = refl

one_less : (n : ℕ) → n ≡ suc n - 1
one_less n = omega arith

one_more : (n m : ℕ) → suc n + m ≡ suc (n + m)
one_more n m = omega arith

module _ (t : Table) (r : Relations) (v : Value) where
  -- an item's tree is taken as what the item is
  opened : (k : ℕ) (e : Entry) → shape_takes r v (parts_of t r v) (follows t r v (parts_of t r v) k) (item_in e).shape ≡ takes_within t r v (parts_of t r v) k e
  opened k (item n h) = refl
  opened k boolean_entry = same _
  opened k (integer_entry i) = same _
  opened k text_entry = same _
  opened k (native_entry f) = same _
  opened k any_entry = same _
  opened k unit_entry = same _
  opened k (option_entry e) = same _
  opened k (vec_entry e) = same _
  opened k (set_entry e) = same _
  opened k (map_entry i e) = same _
  opened k (tuple_entry es) = same _
  opened k (array_entry e n) = same _
  opened k (reference q) = same _

  -- a reference, where one may be followed
  pub one_followed : (q : Target) (x : Tree) (left : ℕ) (b : Bool) → (left ≡ 0 → ⊥) → Some (item_in (tree_view x)) ≡ target_item t q
      → ((m : ℕ) → takes_in (following t (left - 1) m) r (tree_view x) v ≡ b) → (m : ℕ) → takes_in (following t left m) r (reference q) v ≡ b
  unfolding takes_in
  one_followed q x zero b h e k m = absurd (h refl)
  one_followed q x (suc left) b h e k m =
      ap (λ n. follows t r v (parts_of t r v) n q) (one_more left m)
      ∙ ap (item_takes (shape_takes r v (parts_of t r v) (follows t r v (parts_of t r v) (left + m)))) (sym e)
      ∙ opened (left + m) (tree_view x)
      ∙ ap (λ n. takes_within t r v (parts_of t r v) (n + m) (tree_view x)) (one_less left)
      ∙ k m

  pub none_followed : (q : Target) (left : ℕ) → (left ≡ 0 → ⊥) → None ≡ target_item t q → (m : ℕ) → takes_in (following t left m) r (reference q) v ≡ false
  unfolding takes_in
  none_followed q zero h e m = absurd (h refl)
  none_followed q (suc left) h e m =
      ap (λ n. follows t r v (parts_of t r v) n q) (one_more left m)
      ∙ ap (item_takes (shape_takes r v (parts_of t r v) (follows t r v (parts_of t r v) (left + m)))) (sym e)
