-- How many stated defaults stand in trees, by their forms.
use Rattle.std.proofs.Common.{◌≡◌, ℕ, ◌+◌, List, [], ◌∷◌, Bool, Option, None, Some, Box, Vec, Global, refl, sym, ap, ◌∙◌, arith}
use Rattle.model_defs.specs.Model.{TagModel}
use Rattle.entry_defs.specs.Entry.{Entry, Fields, no_fields}
use Rattle.row_findings.specs.declared.row.TagRow.{TagRow}
use Rattle.row_findings.specs.View.{tag_view}
use Rattle.tree_types.specs.View.{atom_view, wrapped, fields_view, first_part, parts_of, rest_fields, tree_view}
use Rattle.tree_types.specs.declared.tree.Label.{Label}
use Rattle.tree_types.specs.declared.tree.Atom.{Atom}
use Rattle.tree_types.specs.declared.tree.Atom.TheVariants as atoms
use Rattle.tree_types.specs.declared.tree.Wrap.{Wrap}
use Rattle.tree_types.specs.declared.tree.Wrap.TheVariants as wraps
use Rattle.tree_types.specs.declared.tree.Tree.{Tree}
use Rattle.tree_types.specs.declared.tree.Tree.TheVariants as trees
use Rattle.tree_types.proofs.Seen.{atom_seen, one_seen, map_seen, tuple_seen, struct_seen, enum_seen}
use Rattle.default_defs.specs.Supplied.{stated_in, stated_in_contents, stated_in_entries, stated_in_fields, stated_in_variants}
use Rattle.default_reading.specs.Counts.{stated_in_cases}
use Rattle.default_reading.specs.Seen.{Part, Variant, content, entry_of, front_tree, places_in, rest_tree, variants_in}

none_in : (a : Atom) → 0 ≡ stated_in (atom_view a)
none_in atoms.Bool = refl
none_in (atoms.Integer g) = refl
none_in atoms.Text = refl
none_in (atoms.Native f) = refl
none_in atoms.Any = refl
none_in atoms.Unit = refl
none_in (atoms.Reference q) = refl

pub atom_counts : (x : Tree) (a : Atom) → x ≡ trees.Atom a → 0 ≡ stated_in (tree_view x)
atom_counts x a h = none_in a ∙ sym (ap (λ y. stated_in (tree_view y)) h ∙ ap stated_in (atom_seen a))

wrap_counts : (w : Wrap) (e : Entry) → stated_in (wrapped w e) ≡ stated_in e
wrap_counts wraps.Option e = refl
wrap_counts wraps.Vec e = refl
wrap_counts wraps.Set e = refl
wrap_counts (wraps.Array n) e = refl
wrap_counts (wraps.Newtype l rule) e = refl

pub one_counts : (x : Tree) (w : Wrap) (y : Box Tree Global) (z : Tree) (n : ℕ) → x ≡ trees.One w y → z ≡ y.value → n ≡ stated_in (tree_view z) → n ≡ stated_in (tree_view x)
one_counts x w y z n h is k =
    k ∙ ap (λ u. stated_in (tree_view u)) is ∙ sym (ap (λ u. stated_in (tree_view u)) h ∙ ap stated_in (one_seen w y) ∙ wrap_counts w (tree_view y.value))

pub map_counts : (x : Tree) (y z : Box Tree Global) (i j : Tree) (n m t : ℕ) → x ≡ trees.Map y z → i ≡ y.value → j ≡ z.value → n ≡ stated_in (tree_view i) → m ≡ stated_in (tree_view j) → t ≡ n + m → t ≡ stated_in (tree_view x)
map_counts x y z i j n m t h is it k l q =
    let a = k ∙ ap (λ u. stated_in (tree_view u)) is in
    let b = l ∙ ap (λ u. stated_in (tree_view u)) it in
    q ∙ (λ u. a u + b u) ∙ sym (ap (λ u. stated_in (tree_view u)) h ∙ ap stated_in (map_seen y z))

pub tuple_counts : (x : Tree) (ps : Vec Part Global) (qs : List Part) (n : ℕ) → x ≡ trees.Tuple ps → qs ≡ ps.items → n ≡ stated_in_entries (places_in qs) → n ≡ stated_in (tree_view x)
tuple_counts x ps qs n h is k = k ∙ ap (λ us. stated_in_entries (places_in us)) is ∙ sym (ap (λ u. stated_in (tree_view u)) h ∙ ap stated_in (tuple_seen ps))

rest_counts : (o : Option (Label × Box Tree Global)) → stated_in_fields (rest_fields o) ≡ stated_in (entry_of (rest_tree o))
rest_counts None = refl
rest_counts (Some p) = refl

with_rest : (ps : List Part) (g : Fields) → stated_in_fields (fields_view (parts_of ps) g) ≡ stated_in_fields (fields_view (parts_of ps) no_fields) + stated_in_fields g
with_rest [] g = omega arith
with_rest ((h, None) ∷ ps) g = with_rest ps g
with_rest ((h, Some x) ∷ ps) g = let k = with_rest ps g in omega (arith, k)

pub struct_counts : (x : Tree) (l : Label) (c : Bool) (ps : Vec Part Global) (o : Option (Label × Box Tree Global)) (qs : List Part) (q : Option Tree) (n m t : ℕ) → x ≡ trees.Struct l c ps o → qs ≡ ps.items → q ≡ rest_tree o
    → n ≡ stated_in_fields (fields_view (parts_of qs) no_fields) → m ≡ stated_in (entry_of q) → t ≡ n + m → t ≡ stated_in (tree_view x)
struct_counts x l c ps o qs q n m t h is it k w u =
    let a = k ∙ ap (λ us. stated_in_fields (fields_view (parts_of us) no_fields)) is in
    let b = w ∙ ap (λ z. stated_in (entry_of z)) it ∙ sym (rest_counts o) in
    u ∙ (λ i. a i + b i) ∙ sym (ap (λ z. stated_in (tree_view z)) h ∙ ap stated_in (struct_seen l c ps o) ∙ with_rest ps.items (rest_fields o))

cases_count : (tag : TagModel) (ws : List Variant) → stated_in_variants (variants_in tag ws) ≡ stated_in_cases ws
cases_count tag [] = refl
cases_count tag (w ∷ ws) = ap (λ n. stated_in_contents (content w) + n) (cases_count tag ws)

pub enum_counts : (x : Tree) (l : Label) (c : Bool) (tag : TagRow) (ws : Vec Variant Global) (us : List Variant) (n : ℕ) → x ≡ trees.Enum l c tag ws → us ≡ ws.items → n ≡ stated_in_cases us → n ≡ stated_in (tree_view x)
enum_counts x l c tag ws us n h is k =
    k ∙ ap stated_in_cases is ∙ sym (ap (λ u. stated_in (tree_view u)) h ∙ ap stated_in (enum_seen l c tag ws) ∙ cases_count (tag_view tag) ws.items)

-- ---- the first part

pub front_counts : (ps : List Part) → stated_in (entry_of (front_tree ps)) ≡ stated_in (first_part (parts_of ps))
front_counts [] = refl
front_counts ((h, None) ∷ ps) = refl
front_counts ((h, Some x) ∷ ps) = refl
