-- Trees as they are seen, once they are built.
use Rattle.std.proofs.Common.{◌≡◌, Bool, List, [], ◌∷◌, map, Option, Box, Vec, Global, rules, refl, ap, sym, ◌∙◌}
use Rattle.entry_defs.specs.Entry.{Entry, item, map_entry, tuple_entry, struct_shape, enum_shape}
use Rattle.row_findings.specs.View.{tag_view}
use Rattle.row_findings.specs.declared.row.TagRow.{TagRow}
use Rattle.tree_types.specs.View.{Parts, label_view, atom_view, wrapped, places_view, fields_view, rest_fields, variants_view, tree_step, tree_view, parts_of, cases_of}
use Rattle.tree_types.specs.declared.tree.Label.{Label}
use Rattle.tree_types.specs.declared.tree.Atom.{Atom}
use Rattle.tree_types.specs.declared.tree.Wrap.{Wrap}
use Rattle.tree_types.specs.declared.tree.FieldHead.{FieldHead}
use Rattle.tree_types.specs.declared.tree.VariantHead.{VariantHead}
use Rattle.tree_types.specs.declared.tree.Tree.{Tree, the_lemmas, fold-roll-Tree}
use Rattle.tree_types.specs.declared.tree.Tree.TheOpen.{Tree-F}
use Rattle.tree_types.specs.declared.tree.Tree.TheShapes.{former-Tree-Enum-3-at-6}
use Rattle.tree_types.specs.declared.tree.Tree.TheVariants as trees

pub atom_seen : (a : Atom) → tree_view (trees.Atom a) ≡ atom_view a
atom_seen a = search (rules, the_lemmas)

pub one_seen : (w : Wrap) (b : Box Tree Global) → tree_view (trees.One w b) ≡ wrapped w (tree_view b.value)
one_seen w b = search (rules, the_lemmas)

pub map_seen : (k v : Box Tree Global) → tree_view (trees.Map k v) ≡ map_entry (tree_view k.value) (tree_view v.value)
map_seen k v = search (rules, the_lemmas)

pub tuple_seen : (ps : Vec (FieldHead × Option Tree) Global) → tree_view (trees.Tuple ps) ≡ tuple_entry (places_view (parts_of ps.items))
tuple_seen ps = search (rules, the_lemmas)

pub struct_seen : (l : Label) (c : Bool) (ps : Vec (FieldHead × Option Tree) Global) (r : Option (Label × Box Tree Global))
    → tree_view (trees.Struct l c ps r) ≡ item (label_view l) (struct_shape c (fields_view (parts_of ps.items) (rest_fields r)))
struct_seen l c ps r = search (rules, the_lemmas)

-- the parts of a variant, once they are seen, and before
abbrev case_in : VariantHead × Vec (FieldHead × Option Entry) Global → VariantHead × Parts
case_in w = (w.0, w.1.items)

abbrev case_of : VariantHead × Vec (FieldHead × Option Tree) Global → VariantHead × Parts
case_of w = (w.0, parts_of w.1.items)

case_seen : (w : VariantHead × Vec (FieldHead × Option Tree) Global) → case_in (former-Tree-Enum-3-at-6.map Tree Entry tree_view w) ≡ case_of w
case_seen w = search (rules, the_lemmas)

cases_seen : (ws : List (VariantHead × Vec (FieldHead × Option Tree) Global)) → map case_in (map (former-Tree-Enum-3-at-6.map Tree Entry tree_view) ws) ≡ cases_of ws
cases_seen [] = refl
cases_seen (w ∷ ws) = λ i. case_seen w i ∷ cases_seen ws i

pub enum_seen : (l : Label) (c : Bool) (t : TagRow) (ws : Vec (VariantHead × Vec (FieldHead × Option Tree) Global) Global)
    → tree_view (trees.Enum l c t ws) ≡ item (label_view l) (enum_shape c (tag_view t) (variants_view (tag_view t) (cases_of ws.items)))
enum_seen l c t ws =
    ap tree_view (sym (trees.rolls-Enum l c t ws)) ∙ fold-roll-Tree Entry tree_step (Tree-F.Enum l c t ws)
    ∙ ap (λ vs. item (label_view l) (enum_shape c (tag_view t) (variants_view (tag_view t) vs))) (cases_seen ws.items)
