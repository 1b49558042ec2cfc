-- How much a tree holds: a measure for what goes down a tree. What is held in it is smaller by one or two more, for calls between.
use Rattle.std.proofs.Common.{◌≡◌, ◌<◌, ◌+◌, ℕ, zero, suc, List, [], ◌∷◌, map, length, get_or, slice_get, Bool, Option, Some, None, option_map, Box, Vec, Global, rules, refl, sym, ap, ◌∙◌, arith}
use Rattle.row_findings.specs.declared.row.TagRow.{TagRow}
use Rattle.tree_types.specs.declared.tree.Label.{Label}
use Rattle.tree_types.specs.declared.tree.Wrap.{Wrap}
use Rattle.tree_types.specs.declared.tree.FieldHead.{FieldHead}
use Rattle.tree_types.specs.declared.tree.VariantHead.{VariantHead}
use Rattle.tree_types.specs.declared.tree.Tree.{Tree, the_lemmas, fold-Tree, fold-roll-Tree}
use Rattle.tree_types.specs.declared.tree.Tree.TheOpen.{Tree-F}
use Rattle.tree_types.specs.declared.tree.Tree.TheShapes.{former-Tree-Enum-3-at-6}
use Rattle.tree_types.specs.declared.tree.Tree.TheVariants as trees

-- ---- sizes

abbrev Sized : Type 0
Sized = List (FieldHead × Option ℕ)

abbrev held : Option ℕ → ℕ
held None = 0
held (Some n) = n

abbrev sum_of : Sized → ℕ
sum_of [] = 1
sum_of (p ∷ ps) = 2 + (held p.1 + sum_of ps)

abbrev rest_in : Option (Label × Box ℕ Global) → ℕ
rest_in None = 1
rest_in (Some p) = 3 + p.1.value

abbrev cases_in : List (VariantHead × Sized) → ℕ
cases_in [] = 1
cases_in (w ∷ ws) = 3 + (sum_of w.1 + cases_in ws)

abbrev size_step : Tree-F ℕ → ℕ
size_step (Tree-F.Atom a) = 1
size_step (Tree-F.One w n) = 3 + n.value
size_step (Tree-F.Map k n) = 3 + (k.value + n.value)
size_step (Tree-F.Tuple ps) = 1 + sum_of ps.items
size_step (Tree-F.Struct l closed fs rest) = 1 + (sum_of fs.items + rest_in rest)
size_step (Tree-F.Enum l closed tag ws) = 1 + cases_in (map (λ w. (w.0, w.1.items)) ws.items)

abbrev pub tree_size : Tree → ℕ
tree_size = fold-Tree ℕ size_step

abbrev sizes_of : List (FieldHead × Option Tree) → Sized
sizes_of ps = map (λ p. (p.0, option_map tree_size p.1)) ps

abbrev pub part_size : FieldHead × Option Tree → ℕ
part_size p = 1 + held (option_map tree_size p.1)

abbrev pub parts_size : List (FieldHead × Option Tree) → ℕ
parts_size ps = sum_of (sizes_of ps)

abbrev pub case_size : VariantHead × Vec (FieldHead × Option Tree) Global → ℕ
case_size w = 2 + parts_size w.1.items

abbrev cases_of : List (VariantHead × Vec (FieldHead × Option Tree) Global) → List (VariantHead × Sized)
cases_of ws = map (λ w. (w.0, sizes_of w.1.items)) ws

abbrev pub cases_size : List (VariantHead × Vec (FieldHead × Option Tree) Global) → ℕ
cases_size ws = cases_in (cases_of ws)

abbrev pub rest_size : Option (Label × Box Tree Global) → ℕ
rest_size None = 1
rest_size (Some p) = 3 + tree_size p.1.value

-- ---- once they are built

one_sized : (w : Wrap) (b : Box Tree Global) → tree_size (trees.One w b) ≡ 3 + tree_size b.value
one_sized w b = search (rules, the_lemmas)

map_sized : (k v : Box Tree Global) → tree_size (trees.Map k v) ≡ 3 + (tree_size k.value + tree_size v.value)
map_sized k v = search (rules, the_lemmas)

tuple_sized : (ps : Vec (FieldHead × Option Tree) Global) → tree_size (trees.Tuple ps) ≡ 1 + parts_size ps.items
tuple_sized ps = search (rules, the_lemmas)

struct_sized : (l : Label) (c : Bool) (ps : Vec (FieldHead × Option Tree) Global) (r : Option (Label × Box Tree Global)) → tree_size (trees.Struct l c ps r) ≡ 1 + (parts_size ps.items + rest_size r)
struct_sized l c ps r = search (rules, the_lemmas)

abbrev case_in : VariantHead × Vec (FieldHead × Option ℕ) Global → VariantHead × Sized
case_in w = (w.0, w.1.items)

abbrev case_of : VariantHead × Vec (FieldHead × Option Tree) Global → VariantHead × Sized
case_of w = (w.0, sizes_of w.1.items)

case_sized : (w : VariantHead × Vec (FieldHead × Option Tree) Global) → case_in (former-Tree-Enum-3-at-6.map Tree ℕ tree_size w) ≡ case_of w
case_sized w = search (rules, the_lemmas)

cases_sized : (ws : List (VariantHead × Vec (FieldHead × Option Tree) Global)) → map case_in (map (former-Tree-Enum-3-at-6.map Tree ℕ tree_size) ws) ≡ cases_of ws
cases_sized [] = refl
cases_sized (w ∷ ws) = λ i. case_sized w i ∷ cases_sized ws i

enum_sized : (l : Label) (c : Bool) (t : TagRow) (ws : Vec (VariantHead × Vec (FieldHead × Option Tree) Global) Global) → tree_size (trees.Enum l c t ws) ≡ 1 + cases_size ws.items
enum_sized l c t ws =
    ap tree_size (sym (trees.rolls-Enum l c t ws)) ∙ fold-roll-Tree ℕ size_step (Tree-F.Enum l c t ws)
    ∙ ap (λ vs. 1 + cases_in vs) (cases_sized ws.items)

-- ---- what a tree holds is smaller

pub one_falls : (x : Tree) (w : Wrap) (b : Box Tree Global) → x ≡ trees.One w b → 2 + tree_size b.value < tree_size x
one_falls x w b e = let h = ap tree_size e ∙ one_sized w b in omega (arith, h)

pub keys_fall : (x : Tree) (k v : Box Tree Global) → x ≡ trees.Map k v → 1 + tree_size k.value < tree_size x
keys_fall x k v e = let h = ap tree_size e ∙ map_sized k v in omega (arith, h)

pub values_fall : (x : Tree) (k v : Box Tree Global) → x ≡ trees.Map k v → 1 + tree_size v.value < tree_size x
values_fall x k v e = let h = ap tree_size e ∙ map_sized k v in omega (arith, h)

pub tuple_falls : (x : Tree) (ps : Vec (FieldHead × Option Tree) Global) → x ≡ trees.Tuple ps → parts_size ps.items < tree_size x
tuple_falls x ps e = let h = ap tree_size e ∙ tuple_sized ps in omega (arith, h)

pub fields_fall : (x : Tree) (l : Label) (c : Bool) (ps : Vec (FieldHead × Option Tree) Global) (r : Option (Label × Box Tree Global)) → x ≡ trees.Struct l c ps r → parts_size ps.items < tree_size x
fields_fall x l c ps r e = let h = ap tree_size e ∙ struct_sized l c ps r in omega (arith, h)

pub rest_falls : (x : Tree) (l : Label) (c : Bool) (ps : Vec (FieldHead × Option Tree) Global) (r : Option (Label × Box Tree Global)) → x ≡ trees.Struct l c ps r → rest_size r < tree_size x
rest_falls x l c ps r e = let h = ap tree_size e ∙ struct_sized l c ps r in omega (arith, h)

pub variants_fall : (x : Tree) (l : Label) (c : Bool) (t : TagRow) (ws : Vec (VariantHead × Vec (FieldHead × Option Tree) Global) Global) → x ≡ trees.Enum l c t ws → cases_size ws.items < tree_size x
variants_fall x l c t ws e = let h = ap tree_size e ∙ enum_sized l c t ws in omega (arith, h)

pub tree_in_part : (p : FieldHead × Option Tree) (e : Tree) → p.1 ≡ Some e → tree_size e < part_size p
tree_in_part p e q = let h : held (option_map tree_size p.1) ≡ tree_size e = ap (λ (o : Option Tree). held (option_map tree_size o)) q in omega (arith, h)

pub box_in_rest : (r : Option (Label × Box Tree Global)) (l : Label) (b : Box Tree Global) → r ≡ Some (l, b) → 1 + tree_size b.value < rest_size r
box_in_rest r l b q = let h : rest_size r ≡ 3 + tree_size b.value = ap rest_size q in omega (arith, h)

part_in : (ps : List (FieldHead × Option Tree)) (i : ℕ) (p : FieldHead × Option Tree) → i < length ps → p ≡ get_or ps i p → part_size p < parts_size ps
part_in [] i p h e = absurd (omega (arith, h))
part_in (q ∷ ps) zero p h e = let s : part_size p ≡ part_size q = ap part_size e in omega (arith, s)
part_in (q ∷ ps) (suc i) p h e = let k = part_in ps i p (omega (arith, h)) e in omega (arith, k)

pub part_in_parts : (ps all : List (FieldHead × Option Tree)) (i : ℕ) (p : FieldHead × Option Tree) → ps ≡ all → i < length ps → p ≡ get_or ps i p → part_size p < parts_size all
part_in_parts ps all i p same h e = let k = part_in ps i p h e in let s = ap parts_size same in omega (arith, k, s)

case_in_list : (ws : List (VariantHead × Vec (FieldHead × Option Tree) Global)) (i : ℕ) (w : VariantHead × Vec (FieldHead × Option Tree) Global) → i < length ws → w ≡ get_or ws i w → case_size w < cases_size ws
case_in_list [] i w h e = absurd (omega (arith, h))
case_in_list (v ∷ ws) zero w h e = let s : case_size w ≡ case_size v = ap case_size e in omega (arith, s)
case_in_list (v ∷ ws) (suc i) w h e = let k = case_in_list ws i w (omega (arith, h)) e in omega (arith, k)

pub case_in_cases : (ws all : List (VariantHead × Vec (FieldHead × Option Tree) Global)) (i : ℕ) (w : VariantHead × Vec (FieldHead × Option Tree) Global) → ws ≡ all → i < length ws → w ≡ get_or ws i w
    → case_size w < cases_size all
case_in_cases ws all i w same h e = let k = case_in_list ws i w h e in let s = ap cases_size same in omega (arith, k, s)

front_in : (ps : List (FieldHead × Option Tree)) (p : FieldHead × Option Tree) → slice_get ps 0 ≡ Some p → part_size p < parts_size ps
front_in [] p e = absurd (cc)
front_in (q ∷ ps) p e = let same : p ≡ q = cc in let s : part_size p ≡ part_size q = ap part_size same in omega (arith, s)

pub front_in_parts : (ps all : List (FieldHead × Option Tree)) (p : FieldHead × Option Tree) → ps ≡ all → slice_get ps 0 ≡ Some p → part_size p < parts_size all
front_in_parts ps all p same e = let k = front_in ps p e in let s = ap parts_size same in omega (arith, k, s)
