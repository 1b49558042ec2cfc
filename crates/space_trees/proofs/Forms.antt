-- What is asked of a tree by its form: whether it is an item, its name, and where it leads.
use Rattle.std.proofs.Common.{◌≡◌, ℕ, List, [], Bool, true, false, Option, None, Box, Vec, Global, refl, sym, ap, ◌∙◌}
use Rattle.entry_defs.specs.Entry.{Target, Entry}
use Rattle.row_findings.specs.declared.row.TagRow.{TagRow}
use Rattle.tree_types.specs.declared.tree.Label.{Label}
use Rattle.tree_types.specs.declared.tree.Atom.{Atom}
use Rattle.tree_types.specs.declared.tree.Atom.TheVariants as atoms
use Rattle.tree_types.specs.declared.tree.Wrap.{Wrap}
use Rattle.tree_types.specs.declared.tree.Wrap.TheVariants as wraps
use Rattle.tree_types.specs.declared.tree.FieldHead.{FieldHead}
use Rattle.tree_types.specs.declared.tree.VariantHead.{VariantHead}
use Rattle.tree_types.specs.declared.tree.Tree.{Tree}
use Rattle.tree_types.specs.declared.tree.Tree.TheVariants as trees
use Rattle.tree_types.specs.View.{label_view, atom_view, wrapped, tree_view}
use Rattle.tree_types.proofs.Seen.{atom_seen, one_seen, map_seen, tuple_seen, struct_seen, enum_seen}
use Rattle.space_trees.specs.Parts.{is_item_entry, is_newtype_wrap, wrap_name, name_in, reference_in}

-- ---- items

atom-bare : (a : Atom) → false ≡ is_item_entry (atom_view a)
atom-bare atoms.Bool = refl
atom-bare (atoms.Integer g) = refl
atom-bare atoms.Text = refl
atom-bare (atoms.Native f) = refl
atom-bare atoms.Any = refl
atom-bare atoms.Unit = refl
atom-bare (atoms.Reference q) = refl

wrap-item : (w : Wrap) (e : Entry) → is_newtype_wrap w ≡ is_item_entry (wrapped w e)
wrap-item wraps.Option e = refl
wrap-item wraps.Vec e = refl
wrap-item wraps.Set e = refl
wrap-item (wraps.Array n) e = refl
wrap-item (wraps.Newtype l rule) e = refl

pub atom_item : (a : Atom) → false ≡ is_item_entry (tree_view (trees.Atom a))
atom_item a = atom-bare a ∙ ap is_item_entry (sym (atom_seen a))

pub one_item : (w : Wrap) (b : Box Tree Global) (r : Bool) → r ≡ is_newtype_wrap w → r ≡ is_item_entry (tree_view (trees.One w b))
one_item w b r h = h ∙ wrap-item w (tree_view b.value) ∙ ap is_item_entry (sym (one_seen w b))

pub map_item : (k v : Box Tree Global) → false ≡ is_item_entry (tree_view (trees.Map k v))
map_item k v = ap is_item_entry (sym (map_seen k v))

pub tuple_item : (ps : Vec (FieldHead × Option Tree) Global) → false ≡ is_item_entry (tree_view (trees.Tuple ps))
tuple_item ps = ap is_item_entry (sym (tuple_seen ps))

pub struct_item : (l : Label) (c : Bool) (ps : Vec (FieldHead × Option Tree) Global) (r : Option (Label × Box Tree Global)) → true ≡ is_item_entry (tree_view (trees.Struct l c ps r))
struct_item l c ps r = ap is_item_entry (sym (struct_seen l c ps r))

pub enum_item : (l : Label) (c : Bool) (tag : TagRow) (ws : Vec (VariantHead × Vec (FieldHead × Option Tree) Global) Global) → true ≡ is_item_entry (tree_view (trees.Enum l c tag ws))
enum_item l c tag ws = ap is_item_entry (sym (enum_seen l c tag ws))

-- ---- names

atom-unnamed : (a : Atom) → [] ≡ name_in (atom_view a)
atom-unnamed atoms.Bool = refl
atom-unnamed (atoms.Integer g) = refl
atom-unnamed atoms.Text = refl
atom-unnamed (atoms.Native f) = refl
atom-unnamed atoms.Any = refl
atom-unnamed atoms.Unit = refl
atom-unnamed (atoms.Reference q) = refl

wrap-named : (w : Wrap) (e : Entry) → wrap_name w ≡ name_in (wrapped w e)
wrap-named wraps.Option e = refl
wrap-named wraps.Vec e = refl
wrap-named wraps.Set e = refl
wrap-named (wraps.Array n) e = refl
wrap-named (wraps.Newtype l rule) e = refl

pub atom_unnamed : (a : Atom) → [] ≡ name_in (tree_view (trees.Atom a))
atom_unnamed a = atom-unnamed a ∙ ap name_in (sym (atom_seen a))

pub one_named : (w : Wrap) (b : Box Tree Global) (n : List ℕ) → n ≡ wrap_name w → n ≡ name_in (tree_view (trees.One w b))
one_named w b n h = h ∙ wrap-named w (tree_view b.value) ∙ ap name_in (sym (one_seen w b))

pub map_unnamed : (k v : Box Tree Global) → [] ≡ name_in (tree_view (trees.Map k v))
map_unnamed k v = ap name_in (sym (map_seen k v))

pub tuple_unnamed : (ps : Vec (FieldHead × Option Tree) Global) → [] ≡ name_in (tree_view (trees.Tuple ps))
tuple_unnamed ps = ap name_in (sym (tuple_seen ps))

pub struct_named : (l : Label) (c : Bool) (ps : Vec (FieldHead × Option Tree) Global) (r : Option (Label × Box Tree Global)) (n : List ℕ) → n ≡ label_view l → n ≡ name_in (tree_view (trees.Struct l c ps r))
struct_named l c ps r n h = h ∙ ap name_in (sym (struct_seen l c ps r))

pub enum_named : (l : Label) (c : Bool) (tag : TagRow) (ws : Vec (VariantHead × Vec (FieldHead × Option Tree) Global) Global) (n : List ℕ) → n ≡ label_view l → n ≡ name_in (tree_view (trees.Enum l c tag ws))
enum_named l c tag ws n h = h ∙ ap name_in (sym (enum_seen l c tag ws))

-- ---- references

wrap-ends : (w : Wrap) (e : Entry) → None ≡ reference_in (wrapped w e)
wrap-ends wraps.Option e = refl
wrap-ends wraps.Vec e = refl
wrap-ends wraps.Set e = refl
wrap-ends (wraps.Array n) e = refl
wrap-ends (wraps.Newtype l rule) e = refl

pub atom_leads : (a : Atom) (o : Option Target) → o ≡ reference_in (atom_view a) → o ≡ reference_in (tree_view (trees.Atom a))
atom_leads a o h = h ∙ ap reference_in (sym (atom_seen a))

pub one_ends : (w : Wrap) (b : Box Tree Global) → None ≡ reference_in (tree_view (trees.One w b))
one_ends w b = wrap-ends w (tree_view b.value) ∙ ap reference_in (sym (one_seen w b))

pub map_ends : (k v : Box Tree Global) → None ≡ reference_in (tree_view (trees.Map k v))
map_ends k v = ap reference_in (sym (map_seen k v))

pub tuple_ends : (ps : Vec (FieldHead × Option Tree) Global) → None ≡ reference_in (tree_view (trees.Tuple ps))
tuple_ends ps = ap reference_in (sym (tuple_seen ps))

pub struct_ends : (l : Label) (c : Bool) (ps : Vec (FieldHead × Option Tree) Global) (r : Option (Label × Box Tree Global)) → None ≡ reference_in (tree_view (trees.Struct l c ps r))
struct_ends l c ps r = ap reference_in (sym (struct_seen l c ps r))

pub enum_ends : (l : Label) (c : Bool) (tag : TagRow) (ws : Vec (VariantHead × Vec (FieldHead × Option Tree) Global) Global) → None ≡ reference_in (tree_view (trees.Enum l c tag ws))
enum_ends l c tag ws = ap reference_in (sym (enum_seen l c tag ws))
