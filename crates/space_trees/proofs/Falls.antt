-- What the walk over a tree goes down to is smaller: the sizes of tree_types, as the walk asks.
use Rattle.std.proofs.Common.{◌≡◌, ◌<◌, ◌+◌, ℕ, List, length, get_or, slice_get, Bool, Option, Some, Box, Vec, Global, arith, sym, ap, ◌∙◌}
use Rattle.tree_types.specs.declared.tree.Label.{Label}
use Rattle.tree_types.specs.declared.tree.Wrap.{Wrap}
use Rattle.tree_types.specs.declared.tree.FieldHead.{FieldHead}
use Rattle.tree_types.specs.declared.tree.VariantHead.{VariantHead}
use Rattle.tree_types.specs.declared.tree.Tree.{Tree}
use Rattle.tree_types.specs.declared.tree.Tree.TheVariants as trees
use Rattle.tree_types.proofs.Sizes.{tree_size, part_size, parts_size, case_size, cases_size, rest_size, tree_in_part, box_in_rest, part_in_parts, front_in_parts, case_in_cases}
use Rattle.tree_types.proofs.Sizes.{one_falls as one_is_smaller, keys_fall as keys_are_smaller, values_fall as values_are_smaller, rest_falls as rest_is_smaller}

pub one_falls : (x : Tree) (w : Wrap) (b : Box Tree Global) → x ≡ trees.One w b → tree_size b.value < tree_size x
one_falls x w b e = let h = one_is_smaller x w b e in omega (arith, h)

pub keys_fall : (x : Tree) (k v : Box Tree Global) → x ≡ trees.Map k v → tree_size k.value < tree_size x
keys_fall x k v e = let h = keys_are_smaller x k v e in omega (arith, h)

pub values_fall : (x : Tree) (k v : Box Tree Global) → x ≡ trees.Map k v → tree_size v.value < tree_size x
values_fall x k v e = let h = values_are_smaller x k v e in omega (arith, h)

pub rest_falls : (x : Tree) (l : Label) (c : Bool) (ps : Vec (FieldHead × Option Tree) Global) (r : Option (Label × Box Tree Global)) (p : Label × Box Tree Global) → x ≡ trees.Struct l c ps r → r ≡ Some p
    → tree_size p.1.value < tree_size x
rest_falls x l c ps r p e some = let h = rest_is_smaller x l c ps r e in let k = box_in_rest r p.0 p.1 some in omega (arith, h, k)

pub part_falls : (ps all : List (FieldHead × Option Tree)) (i : ℕ) (p : FieldHead × Option Tree) (e : Tree) → ps ≡ all → i < length ps → p ≡ get_or ps i p → p.1 ≡ Some e → tree_size e < parts_size all
part_falls ps all i p e same h q some = let k = part_in_parts ps all i p same h q in let m = tree_in_part p e some in omega (arith, k, m)

pub first_falls : (ps all : List (FieldHead × Option Tree)) (p : FieldHead × Option Tree) (e : Tree) → ps ≡ all → Some p ≡ slice_get ps 0 → p.1 ≡ Some e → tree_size e < parts_size all
first_falls ps all p e same h some = let k = front_in_parts ps all p same (sym h) in let m = tree_in_part p e some in omega (arith, k, m)

pub case_falls : (ws all : List (VariantHead × Vec (FieldHead × Option Tree) Global)) (i : ℕ) (w : VariantHead × Vec (FieldHead × Option Tree) Global) → ws ≡ all → i < length ws → w ≡ get_or ws i w → 2 + parts_size w.1.items < cases_size all
case_falls ws all i w same h e = let k = case_in_cases ws all i w same h e in omega (arith, k)
