-- What the parts of trees stand for, and what is found among them.
use Rattle.std.specs.Prelude.{ℕ, List, [], ◌∷◌, map, Bool, false, Option, Some, None, bytes_eq, if◌then◌else◌}
use Rattle.std.specs.declared.alloc.Global.{Global}
use Rattle.std.specs.declared.boxed.Box.{Box}
use Rattle.std.specs.declared.vec.Vec.{Vec}
use Rattle.json_value.specs.Value.{Value, Members, member_at, text}
use Rattle.model_defs.specs.Model.{TagModel}
use Rattle.entry_defs.specs.Entry.{State, required, Entry, any_entry, Entries, Fields, no_fields, rest_field, Variants, Contents, FieldEntry, fields_of}
use Rattle.entry_defs.specs.Layer.{is_unit}
use Rattle.row_findings.specs.View.{state_view}
use Rattle.tree_types.specs.View.{cases_of, contents_view, fields_view, parts_of, places_view, tree_view, variants_view}
use Rattle.tree_types.specs.declared.tree.FieldHead.{FieldHead}
use Rattle.tree_types.specs.declared.tree.Label.{Label}
use Rattle.tree_types.specs.declared.tree.Tree.{Tree}
use Rattle.tree_types.specs.declared.tree.VariantHead.{VariantHead}
use Rattle.default_defs.specs.Found as defs
use Rattle.default_reading.specs.declared.found.Found.{Found}
use Rattle.default_reading.specs.declared.found.Found.TheVariants as found

abbrev pub found_view : Found → defs.Found
found_view found.Refused = defs.refused
found_view found.Ended = defs.ended
found_view found.Endless = defs.endless

-- a field or a place
abbrev pub Part : Type 0
Part = FieldHead × Option Tree

abbrev pub Variant : Type 0
Variant = VariantHead × Vec Part Global

-- without a tree any value is read
abbrev pub entry_of : Option Tree → Entry
entry_of None = any_entry
entry_of (Some x) = tree_view x

-- the tree of the first part that has one
abbrev pub first_tree : List Part → Option Tree
first_tree [] = None
first_tree ((h, None) ∷ ps) = first_tree ps
first_tree ((h, Some x) ∷ ps) = Some x

-- the tree of the first part
abbrev pub front_tree : List Part → Option Tree
front_tree [] = None
front_tree (p ∷ ps) = p.1

abbrev pub or_else : Option Tree → Option Tree → Option Tree
or_else None o = o
or_else (Some x) o = Some x

abbrev pub rest_tree : Option (Label × Box Tree Global) → Option Tree
rest_tree None = None
rest_tree (Some p) = Some p.1.value

-- what keeps the members that no field names; its identifier isn't asked
abbrev pub kept : Option Tree → Fields
kept None = no_fields
kept (Some x) = rest_field [] (tree_view x)

-- the fields of a struct of these parts
abbrev pub fields_in : List Part → Option Tree → Fields
fields_in ps o = fields_view (parts_of ps) (kept o)

abbrev pub listed : List Part → Option Tree → List FieldEntry
listed ps o = fields_of (fields_in ps o)

abbrev pub places_in : List Part → Entries
places_in ps = places_view (parts_of ps)

-- what is left out of a part without a tree of its own is refused
abbrev pub state_in : Part → State
state_in (h, None) = required
state_in (h, Some x) = state_view h.state

abbrev pub variants_in : TagModel → List Variant → Variants
variants_in tag ws = variants_view tag (cases_of ws)

abbrev pub content : Variant → Contents
content w = contents_view w.0.kind (parts_of w.1.items)

abbrev pub contents_in : List Variant → List Contents
contents_in ws = map content ws

-- the first variant of a name
abbrev pub case_named : List ℕ → List Variant → Option Variant
case_named n [] = None
case_named n (w ∷ ws) = if bytes_eq n w.0.label.wanted.now then Some w else case_named n ws

-- that of a text
abbrev pub case_of_text : List Variant → Option Value → Option Variant
case_of_text ws (Some (text s)) = case_named s ws
case_of_text ws _ = None

abbrev pub tagged_case : List ℕ → List Variant → Members → Option Variant
tagged_case tag ws ms = case_of_text ws (member_at tag ms)

abbrev pub is_unit_case : Option Variant → Bool
is_unit_case None = false
is_unit_case (Some w) = is_unit (content w)
