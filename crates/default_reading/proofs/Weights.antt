-- How much a tree holds, with the stated defaults in it: a measure for what goes down a tree, with room for calls between.
use Rattle.std.proofs.Common.{◌≡◌, ◌<◌, ◌≤◌, ◌+◌, ℕ, zero, suc, List, [], ◌∷◌, map, length, get_or, drop, Bool, true, false, cond, bytes_eq, Option, Some, None, option_map, Box, Vec, Global, rules, refl, sym, ap, ◌∙◌, arith}
use Rattle.json_value.specs.Value as value
use Rattle.json_value.specs.Value.{Value, null, number, fraction, text, list, object, Members, member_at, value_size}
use Rattle.entry_defs.specs.Entry.{State, required, optional, stated}
use Rattle.row_findings.specs.View.{state_view}
use Rattle.row_findings.specs.declared.row.TagRow.{TagRow}
use Rattle.tree_types.specs.declared.tree.Target.{Target}
use Rattle.tree_types.specs.declared.tree.Atom.{Atom}
use Rattle.tree_types.specs.declared.tree.Label.{Label}
use Rattle.tree_types.specs.declared.tree.Wrap.{Wrap}
use Rattle.tree_types.specs.declared.tree.FieldHead.{FieldHead}
use Rattle.tree_types.specs.declared.tree.VariantHead.{VariantHead}
use Rattle.tree_types.specs.declared.tree.Tree.{Tree, the_lemmas, fold-Tree, fold-roll-Tree}
use Rattle.tree_types.specs.declared.tree.Tree.TheOpen.{Tree-F}
use Rattle.tree_types.specs.declared.tree.Tree.TheShapes.{former-Tree-Enum-3-at-6}
use Rattle.tree_types.specs.declared.tree.Tree.TheVariants as trees
use Rattle.default_reading.specs.Seen.{Part, Variant, first_tree, front_tree, or_else, rest_tree, case_named, case_of_text, tagged_case}

-- ---- weights

abbrev Weighed : Type 0
Weighed = List (FieldHead × Option ℕ)

abbrev held : Option ℕ → ℕ
held None = 0
held (Some n) = n

abbrev pub state_weight : State → ℕ
state_weight required = 0
state_weight optional = 0
state_weight (stated v) = value_size v

abbrev sum_of : Weighed → ℕ
sum_of [] = 1
sum_of (p ∷ ps) = 8 + (state_weight (state_view p.0.state) + held p.1 + sum_of ps)

abbrev rest_in : Option (Label × Box ℕ Global) → ℕ
rest_in None = 2
rest_in (Some p) = 2 + p.1.value

abbrev cases_in : List (VariantHead × Weighed) → ℕ
cases_in [] = 1
cases_in (w ∷ ws) = 12 + (sum_of w.1 + cases_in ws)

abbrev weight_step : Tree-F ℕ → ℕ
weight_step (Tree-F.Atom a) = 4
weight_step (Tree-F.One w n) = 8 + n.value
weight_step (Tree-F.Map k n) = 8 + (k.value + n.value)
weight_step (Tree-F.Tuple ps) = 8 + sum_of ps.items
weight_step (Tree-F.Struct l closed fs rest) = 8 + (sum_of fs.items + rest_in rest)
weight_step (Tree-F.Enum l closed tag ws) = 8 + cases_in (map (λ w. (w.0, w.1.items)) ws.items)

abbrev pub tree_weight : Tree → ℕ
tree_weight = fold-Tree ℕ weight_step

abbrev weights_of : List Part → Weighed
weights_of ps = map (λ p. (p.0, option_map tree_weight p.1)) ps

abbrev pub part_weight : Part → ℕ
part_weight p = 6 + (state_weight (state_view p.0.state) + held (option_map tree_weight p.1))

abbrev pub parts_weight : List Part → ℕ
parts_weight ps = sum_of (weights_of ps)

-- of a tree that may be missing
abbrev pub maybe_weight : Option Tree → ℕ
maybe_weight o = 2 + held (option_map tree_weight o)

abbrev cases_of : List Variant → List (VariantHead × Weighed)
cases_of ws = map (λ w. (w.0, weights_of w.1.items)) ws

abbrev pub cases_weight : List Variant → ℕ
cases_weight ws = cases_in (cases_of ws)

abbrev pub targets_weight : List (Target × Tree) → ℕ
targets_weight [] = 0
targets_weight (p ∷ ps) = tree_weight p.1 + targets_weight ps

-- ---- once they are built

pub atom_weighs : (x : Tree) (a : Atom) → x ≡ trees.Atom a → tree_weight x ≡ 4
atom_weighs x a e = ap tree_weight e ∙ built a
  where
    built : (a : Atom) → tree_weight (trees.Atom a) ≡ 4
    built a = search (rules, the_lemmas)

one_built : (w : Wrap) (b : Box Tree Global) → tree_weight (trees.One w b) ≡ 8 + tree_weight b.value
one_built w b = search (rules, the_lemmas)

map_built : (k v : Box Tree Global) → tree_weight (trees.Map k v) ≡ 8 + (tree_weight k.value + tree_weight v.value)
map_built k v = search (rules, the_lemmas)

tuple_built : (ps : Vec (FieldHead × Option Tree) Global) → tree_weight (trees.Tuple ps) ≡ 8 + parts_weight ps.items
tuple_built ps = search (rules, the_lemmas)

abbrev boxed : Option (Label × Box Tree Global) → ℕ
boxed None = 2
boxed (Some p) = 2 + tree_weight p.1.value

struct_built : (l : Label) (c : Bool) (ps : Vec (FieldHead × Option Tree) Global) (r : Option (Label × Box Tree Global)) → tree_weight (trees.Struct l c ps r) ≡ 8 + (parts_weight ps.items + boxed r)
struct_built l c ps r = search (rules, the_lemmas)

rest_weighs : (r : Option (Label × Box Tree Global)) → boxed r ≡ maybe_weight (rest_tree r)
rest_weighs None = refl
rest_weighs (Some p) = refl

abbrev case_listed : VariantHead × Vec (FieldHead × Option ℕ) Global → VariantHead × Weighed
case_listed w = (w.0, w.1.items)

abbrev case_of : Variant → VariantHead × Weighed
case_of w = (w.0, weights_of w.1.items)

case_built : (w : Variant) → case_listed (former-Tree-Enum-3-at-6.map Tree ℕ tree_weight w) ≡ case_of w
case_built w = search (rules, the_lemmas)

cases_built : (ws : List Variant) → map case_listed (map (former-Tree-Enum-3-at-6.map Tree ℕ tree_weight) ws) ≡ cases_of ws
cases_built [] = refl
cases_built (w ∷ ws) = λ i. case_built w i ∷ cases_built ws i

enum_built : (l : Label) (c : Bool) (t : TagRow) (ws : Vec Variant Global) → tree_weight (trees.Enum l c t ws) ≡ 8 + cases_weight ws.items
enum_built l c t ws =
    ap tree_weight (sym (trees.rolls-Enum l c t ws)) ∙ fold-roll-Tree ℕ weight_step (Tree-F.Enum l c t ws)
    ∙ ap (λ vs. 8 + cases_in vs) (cases_built ws.items)

-- ---- what a tree holds

pub one_weighs : (x : Tree) (w : Wrap) (b : Box Tree Global) → x ≡ trees.One w b → tree_weight x ≡ 8 + tree_weight b.value
one_weighs x w b e = ap tree_weight e ∙ one_built w b

pub map_weighs : (x : Tree) (k v : Box Tree Global) → x ≡ trees.Map k v → tree_weight x ≡ 8 + (tree_weight k.value + tree_weight v.value)
map_weighs x k v e = ap tree_weight e ∙ map_built k v

pub tuple_weighs : (x : Tree) (ps : Vec (FieldHead × Option Tree) Global) → x ≡ trees.Tuple ps → tree_weight x ≡ 8 + parts_weight ps.items
tuple_weighs x ps e = ap tree_weight e ∙ tuple_built ps

pub struct_weighs : (x : Tree) (l : Label) (c : Bool) (ps : Vec (FieldHead × Option Tree) Global) (r : Option (Label × Box Tree Global)) → x ≡ trees.Struct l c ps r → tree_weight x ≡ 8 + (parts_weight ps.items + maybe_weight (rest_tree r))
struct_weighs x l c ps r e = ap tree_weight e ∙ struct_built l c ps r ∙ ap (λ n. 8 + (parts_weight ps.items + n)) (rest_weighs r)

pub enum_weighs : (x : Tree) (l : Label) (c : Bool) (t : TagRow) (ws : Vec Variant Global) → x ≡ trees.Enum l c t ws → tree_weight x ≡ 8 + cases_weight ws.items
enum_weighs x l c t ws e = ap tree_weight e ∙ enum_built l c t ws

-- ---- among parts

pub some_weighs : (o : Option Tree) (x : Tree) → o ≡ Some x → maybe_weight o ≡ 2 + tree_weight x
some_weighs o x e = ap maybe_weight e

pub part_in : (ps : List Part) (i : ℕ) (p : Part) → i < length ps → p ≡ get_or ps i p → 1 + part_weight p < parts_weight ps
part_in [] i p h e = absurd (omega (arith, h))
part_in (q ∷ ps) zero p h e = let s : part_weight p ≡ part_weight q = ap part_weight e in omega (arith, s)
part_in (q ∷ ps) (suc i) p h e = let k = part_in ps i p (omega (arith, h)) e in omega (arith, k)

pub place_in : (ps : List Part) (i : ℕ) (p : Part) → i < length ps → p ≡ get_or ps i p → maybe_weight p.1 < parts_weight ps
place_in ps i p h e = let k = part_in ps i p h e in omega (arith, k)

pub first_in : (ps : List Part) → maybe_weight (first_tree ps) ≤ 1 + parts_weight ps
first_in [] = omega arith
first_in ((h, None) ∷ ps) = let k = first_in ps in omega (arith, k)
first_in ((h, Some x) ∷ ps) = omega arith

later : (p : Part) (ps : List Part) → parts_weight ps ≤ parts_weight (p ∷ ps)
later p ps = omega arith

pub first_from : (i : ℕ) (ps : List Part) → maybe_weight (first_tree (drop i ps)) ≤ 1 + parts_weight ps
first_from zero ps = first_in ps
first_from (suc i) [] = omega arith
first_from (suc i) (p ∷ ps) = let k = first_from i ps in let l = later p ps in omega (arith, k, l)

pub front_in : (ps : List Part) → maybe_weight (front_tree ps) ≤ 1 + parts_weight ps
front_in [] = omega arith
front_in (p ∷ ps) = omega arith

-- ---- among variants

pub case_in_list : (ws : List Variant) (i : ℕ) (w : Variant) → i < length ws → w ≡ get_or ws i w → 11 + parts_weight w.1.items < cases_weight ws
case_in_list [] i w h e = absurd (omega (arith, h))
case_in_list (v ∷ ws) zero w h e = let s : parts_weight w.1.items ≡ parts_weight v.1.items = ap (λ (u : Variant). parts_weight u.1.items) e in omega (arith, s)
case_in_list (v ∷ ws) (suc i) w h e = let k = case_in_list ws i w (omega (arith, h)) e in omega (arith, k)

one_case : (b : Bool) (v w : Variant) (o : Option Variant) (n : ℕ) → ((w : Variant) → o ≡ Some w → 11 + parts_weight w.1.items < n) → cond b (Some v) o ≡ Some w → 11 + parts_weight w.1.items < 12 + (parts_weight v.1.items + n)
one_case true v w o n k e = let h : parts_weight v.1.items ≡ parts_weight w.1.items = ap held_by e in omega (arith, h)
  where
    held_by : Option Variant → ℕ
    held_by None = 0
    held_by (Some u) = parts_weight u.1.items
one_case false v w o n k e = let h = k w e in omega (arith, h)

-- the first of a name
pub case_in : (n : List ℕ) (ws : List Variant) (w : Variant) → Some w ≡ case_named n ws → 11 + parts_weight w.1.items < cases_weight ws
case_in n [] w e = absurd (cc)
case_in n (v ∷ ws) w e = one_case (bytes_eq n v.0.label.wanted.now) v w (case_named n ws) (cases_weight ws) (λ u q. case_in n ws u (sym q)) (sym e)

of_text_in : (ws : List Variant) (o : Option Value) (w : Variant) → Some w ≡ case_of_text ws o → 11 + parts_weight w.1.items < cases_weight ws
of_text_in ws None w e = absurd (cc)
of_text_in ws (Some null) w e = absurd (cc)
of_text_in ws (Some (value.boolean b)) w e = absurd (cc)
of_text_in ws (Some (number z)) w e = absurd (cc)
of_text_in ws (Some fraction) w e = absurd (cc)
of_text_in ws (Some (text t)) w e = case_in t ws w e
of_text_in ws (Some (list xs)) w e = absurd (cc)
of_text_in ws (Some (object ms)) w e = absurd (cc)

pub tagged_in : (tag : List ℕ) (ws : List Variant) (ms : Members) (w : Variant) → Some w ≡ tagged_case tag ws ms → 11 + parts_weight w.1.items < cases_weight ws
tagged_in tag ws ms w e = of_text_in ws (member_at tag ms) w e

-- a part with a tree
pub part_weighs : (p : Part) (x : Tree) → p.1 ≡ Some x → part_weight p ≡ 6 + (state_weight (state_view p.0.state) + tree_weight x)
part_weighs p x e = ap (λ (o : Option Tree). 6 + (state_weight (state_view p.0.state) + held (option_map tree_weight o))) e

pub some_parts : (ps : List Part) → 0 < parts_weight ps
some_parts [] = omega arith
some_parts (p ∷ ps) = omega arith

either_in : (o q : Option Tree) (n : ℕ) → maybe_weight o ≤ 1 + n → maybe_weight (or_else o q) ≤ 1 + (n + maybe_weight q)
either_in None q n h = omega arith
either_in (Some x) q n h = omega (arith, h)

pub from_or_rest : (i : ℕ) (ps : List Part) (q : Option Tree) → maybe_weight (or_else (first_tree (drop i ps)) q) ≤ 1 + (parts_weight ps + maybe_weight q)
from_or_rest i ps q = either_in (first_tree (drop i ps)) q (parts_weight ps) (first_from i ps)
