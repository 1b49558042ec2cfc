-- A table's names, step by step.
use Rattle.std.proofs.Common.{◌≡◌, ◌<◌, ◌++◌, ℕ, zero, suc, List, [], ◌∷◌, map, length, take, get_or, codes, refl, ap, subst, ◌∙◌, arith}
use Rattle.std.proofs.lemmas.List.{length-map}
use Rattle.entry_defs.specs.Entry as defs
use Rattle.entry_defs.specs.Entry.{the_root, definition, Entry, item, Shape}
use Rattle.entry_defs.specs.Table.{TargetEntry, Table}
use Rattle.naming_defs.specs.Names.{Names, is_value, taking, item_name, named, named_shape, after_targets, named_targets, named_trees, keys, named_table}
use Rattle.naming_defs.specs.Good.{is_good_name}
use Rattle.good_names.specs.Given.{Stands, Does}
use Rattle.tree_types.specs.View.{label_view, target_view, tree_view, item_in, target_entry}
use Rattle.tree_names.specs.Folded.{targets_first}
use Rattle.tree_names.specs.Seen.{item_named, target_named, targets_given, targets_named, trees_named, with_names}
use Rattle.good_names.specs.declared.given.GivenNames.{GivenNames}
use Rattle.tree_types.specs.declared.tree.Label.{Label}
use Rattle.tree_types.specs.declared.tree.Target.{Target}
use Rattle.tree_types.specs.declared.tree.Tree.{Tree}
use Rattle.tree_names.proofs.Steps.{does_wrapped}

abbrev T : List ℕ
T = codes "Type"

-- ---- keys

pub key_more : (xs : List TargetEntry) (x : TargetEntry) → keys is_good_name (xs ++ x ∷ []) ≡ keys is_good_name xs ++ keys is_good_name (x ∷ [])
key_more [] x = refl
key_more (y ∷ xs) x = by y.target (key_more xs x)
  where
    by : (q : defs.Target) → keys is_good_name (xs ++ x ∷ []) ≡ keys is_good_name xs ++ keys is_good_name (x ∷ [])
        → keys is_good_name (record y { target = q } ∷ (xs ++ x ∷ [])) ≡ keys is_good_name (record y { target = q } ∷ xs) ++ keys is_good_name (x ∷ [])
    by (definition k) h = ap (λ z. k ∷ z) h
    by the_root h = h

-- ---- what references lead to

given_after : (b : Names) (xs : List TargetEntry) (u : Names) → (targets_given xs b u).0 ≡ after_targets is_good_name b u xs
given_after b [] u = refl
given_after b (x ∷ xs) u = given_after b xs (taking (is_value x.led_to.shape) (item_name is_good_name b u x.led_to.name) u)

given_many : (b : Names) (xs : List TargetEntry) (u : Names) → length (targets_given xs b u).1 ≡ length xs
given_many b [] u = refl
given_many b (x ∷ xs) u = let h = given_many b xs (taking (is_value x.led_to.shape) (item_name is_good_name b u x.led_to.name) u) in omega (arith, h)

-- each has a name
pub as_many : (s r : GivenNames) (xs : List (Target × Tree)) (ls : List Label) → ((p : List ℕ) → Stands s p [] (keys is_good_name (map target_entry xs)))
    → Does T s r (map label_view ls) (targets_given (map target_entry xs)) → length ls ≡ length xs
as_many s r xs ls st d =
    let ys = map target_entry xs in
    let k = keys is_good_name ys in
    let a : length (map label_view ls) ≡ length (targets_given ys k []).1 = ap length (d.step k [] (st T)).0 in
    let b = given_many k ys [] in
    let l : length (map label_view ls) ≡ length ls = simp length-map in
    let m : length (map target_entry xs) ≡ length xs = simp length-map in
    omega (arith, a, b, l, m)

targets_are : (b : Names) (xs : List TargetEntry) (u t : Names) → targets_named (with_names xs (targets_given xs b u).1) b t ≡ named_targets is_good_name b u xs t
targets_are b [] u t = refl
targets_are b (x ∷ xs) u t =
    let n = item_name is_good_name b u x.led_to.name in
    let a = named_shape is_good_name b x.led_to.shape t in
    ap (λ z. (z.0, record { target = x.target; led_to = record { name = n; shape = a.1 } } ∷ z.1)) (targets_are b xs (taking (is_value x.led_to.shape) n u) a.0)

trees_are : (b : Names) (es : List Entry) (t : Names) → trees_named es b t ≡ named_trees is_good_name b es t
trees_are b [] t = refl
trees_are b (e ∷ es) t = let a = named is_good_name b e t in ap (λ z. (z.0, a.1 ∷ z.1)) (trees_are b es a.0)

pub target_does : (s r : GivenNames) (q k : Target) (x y : Tree) (n : List ℕ) → target_view k ≡ target_view q → Does T s r (tree_view y) (item_named n (item_in (tree_view x)).shape)
    → Does T s r (target_entry (k, y)) (target_named (target_entry (q, x), n))
target_does s r q k x y n e d =
    does_wrapped T s r (tree_view y) (item_named n (item_in (tree_view x)).shape) (λ z. record { target = target_view q; led_to = item_in z }) (target_entry (k, y))
    (λ i. record { target = e i; led_to = item_in (tree_view y) }) d

pub both_at : (xs : List TargetEntry) (ns : Names) (i : ℕ) (d : TargetEntry) (n : List ℕ) → i < length xs → i < length ns
    → take (suc i) (with_names xs ns) ≡ take i (with_names xs ns) ++ (get_or xs i d, get_or ns i n) ∷ []
both_at [] ns i d n h k = absurd (omega (arith, h))
both_at (x ∷ xs) [] i d n h k = absurd (omega (arith, k))
both_at (x ∷ xs) (m ∷ ns) zero d n h k = refl
both_at (x ∷ xs) (m ∷ ns) (suc i) d n h k = ap (λ z. (x, m) ∷ z) (both_at xs ns i d n (omega (arith, h)) (omega (arith, k)))

-- ---- all of it

pub targets_do : (s0 s1 s2 : GivenNames) (xs : List TargetEntry) (ns : Names) (ts : List TargetEntry) → ((p : List ℕ) → Stands s0 p [] (keys is_good_name xs)) → Does T s0 s1 ns (targets_given xs)
    → Does T s1 s2 ts (targets_named (with_names xs ns)) → (ts ≡ (targets_first xs).1) × Stands s2 T (targets_first xs).0 (keys is_good_name xs)
targets_do s0 s1 s2 xs ns ts st a b =
    let k = keys is_good_name xs in
    let u = after_targets is_good_name k [] xs in
    let x = a.step k [] (st T) in
    let y = b.step k (targets_given xs k []).0 x.1 in
    let same : targets_named (with_names xs ns) k (targets_given xs k []).0 ≡ named_targets is_good_name k [] xs u
    = (λ i. targets_named (with_names xs (x.0 i)) k (given_after k xs [] i)) ∙ targets_are k xs [] u in (y.0 ∙ ap (λ w. w.1) same, subst (λ (w : Names × List TargetEntry). Stands s2 T w.0 k) same y.1)

pub table_does : (s r : GivenNames) (t : Table) (ts : List TargetEntry) (es : List Entry) → ts ≡ (targets_first t.targets).1 → Stands s T (targets_first t.targets).0 (keys is_good_name t.targets) → Does T s r es (trees_named t.trees)
    → record { targets = ts; trees = es } ≡ named_table is_good_name t
table_does s r t ts es e st c =
    let k = keys is_good_name t.targets in
    let z = c.step k (targets_first t.targets).0 st in
    λ i. record { targets = e i; trees = (z.0 ∙ ap (λ w. w.1) (trees_are k t.trees (targets_first t.targets).0)) i }
