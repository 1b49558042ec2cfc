-- Parts that are entered one after another, where a part without a tree has the id of the next one.
use Rattle.std.specs.Prelude.{ℕ, zero, suc, List, [], ◌∷◌, Bool, true, false, Option, Some, None, map, option_map}
use Rattle.std.specs.declared.alloc.Global.{Global}
use Rattle.std.specs.declared.vec.Vec.{Vec}
use Rattle.naming_defs.specs.Names.{name_by}
use Rattle.entry_defs.specs.Entry.{Target, State, required, Entry, reference, item}
use Rattle.entry_defs.specs.Space.{Id, FieldAt, ContentsAt, ShapeAt, newtype_shape_at, VariantAt, option_at, vec_at, set_at, array_at, Space}
use Rattle.model_defs.specs.Model.{TagModel}
use Rattle.row_findings.specs.View.{state_view}
use Rattle.entry_space.specs.Entered.{filled}
use Rattle.tree_types.specs.declared.tree.FieldHead.{FieldHead}
use Rattle.tree_types.specs.declared.tree.Wrap.{Wrap}
use Rattle.tree_types.specs.declared.tree.Wrap.TheVariants as wraps
use Rattle.tree_types.specs.declared.tree.VariantHead.{VariantHead}
use Rattle.tree_types.specs.declared.tree.Tree.{Tree}
use Rattle.tree_types.specs.View.{label_view, rule_view, Parts, contents_view, tree_view, parts_of, item_in}
use Rattle.space_trees.specs.Placed.{put, opened_at, rest_or_first, placed, placed_contents}

abbrev pub variant_of : TagModel → VariantHead × Parts → ContentsAt → VariantAt
variant_of tag w c = record { identifier = label_view w.0.label; name = name_by tag (label_view w.0.label) w.0.label.wanted.now; contents = c }

-- ---- ids of parts

module _ (ids : Target → Id) where
  abbrev pub placed_part : Option Entry → Space → Space × Option Id
  placed_part None s = (s, None)
  placed_part (Some e) s = let a = placed ids None e s in (a.0, Some a.1)

  abbrev pub placed_parts : List (Option Entry) → Space → Space × List (Option Id)
  placed_parts [] s = (s, [])
  placed_parts (p ∷ ps) s = let a = placed_part p s in let b = placed_parts ps a.0 in (b.0, a.1 ∷ b.1)

  -- a variant of an enum of that tag
  abbrev pub placed_variant : TagModel → VariantHead × Parts → Space → Space × VariantAt
  placed_variant tag w s = let a = placed_contents ids (contents_view w.0.kind w.1) s in (a.0, variant_of tag w a.1)

abbrev pub part_seen : FieldHead × Option Tree → FieldHead × Option Entry
part_seen p = (p.0, option_map tree_view p.1)

abbrev pub tree_seen : FieldHead × Option Tree → Option Entry
tree_seen p = option_map tree_view p.1

abbrev pub case_seen : VariantHead × Vec (FieldHead × Option Tree) Global → VariantHead × Parts
case_seen w = (w.0, parts_of w.1.items)

abbrev pub trees_in : Parts → List (Option Entry)
trees_in ps = map (λ p. p.1) ps

-- the next id, or else that of the rest
abbrev pub following_or : List (Option Id) → Option Id → Id
following_or [] o = rest_or_first o
following_or (None ∷ is) o = following_or is o
following_or (Some i ∷ is) o = i

abbrev pub id_then : Option Id → Id → Id
id_then None j = j
id_then (Some i) j = i

abbrev pub resolved : List (Option Id) → Option Id → List Id
resolved [] o = []
resolved (i ∷ is) o = id_then i (following_or is o) ∷ resolved is o

abbrev pub times : ℕ → Id → List Id
times zero i = []
times (suc n) i = i ∷ times n i

-- ---- fields

abbrev pub part_state : FieldHead → Option Entry → State
part_state h None = required
part_state h (Some e) = state_view h.state

abbrev pub field_at : FieldHead × Option Entry → Id → FieldAt
field_at p j = record { identifier = label_view p.0.label; name = p.0.label.wanted.now; entry = j; state = part_state p.0 p.1 }

abbrev pub fields_at : Parts → List Id → List FieldAt
fields_at [] js = []
fields_at (p ∷ ps) [] = []
fields_at (p ∷ ps) (j ∷ js) = field_at p j ∷ fields_at ps js

abbrev pub struct_given : Parts → List (Option Id) → Option Id → List FieldAt
struct_given ps is o = fields_at ps (resolved is o)

abbrev pub struct_filled : ℕ → Space → ShapeAt → Space × Id
struct_filled i s h = (filled i h s, i)

-- ---- what is made of one part

abbrev pub wrap_opened : Option Id → Wrap → Space → Space × Option Id
wrap_opened o (wraps.Newtype l rule) s = let p = opened_at o (label_view l) s in (p.0, Some p.1)
wrap_opened o _ s = (s, None)

abbrev pub wrap_closed : Wrap → Option Id → Id → Space → Space × Id
wrap_closed wraps.Option o j s = put (option_at j) s
wrap_closed wraps.Vec o j s = put (vec_at j) s
wrap_closed wraps.Set o j s = put (set_at j) s
wrap_closed (wraps.Array n) o j s = put (array_at j n) s
wrap_closed (wraps.Newtype l rule) o j s = (filled (rest_or_first o) (newtype_shape_at j (option_map rule_view rule)) s, rest_or_first o)

-- ---- trees of targets

abbrev pub is_newtype_wrap : Wrap → Bool
is_newtype_wrap (wraps.Newtype l rule) = true
is_newtype_wrap _ = false

abbrev pub wrap_name : Wrap → List ℕ
wrap_name (wraps.Newtype l rule) = label_view l
wrap_name _ = []

abbrev pub is_item_entry : Entry → Bool
is_item_entry (item n h) = true
is_item_entry _ = false

abbrev pub name_in : Entry → List ℕ
name_in e = let i = item_in e in i.name

abbrev pub reference_in : Entry → Option Target
reference_in (reference q) = Some q
reference_in _ = None
