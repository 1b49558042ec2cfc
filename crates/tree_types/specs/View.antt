-- The entry that a tree of the program stands for.
use Rattle.std.specs.Prelude.{ℕ, List, [], ◌∷◌, map, Bool, Option, Some, None, option_map, string_bytes}
use Rattle.std.specs.declared.alloc.Global.{Global}
use Rattle.std.specs.declared.boxed.Box.{Box}
use Rattle.std.specs.declared.vec.Vec.{Vec}
use Rattle.schema_types.specs.View.{texts_view, properties_view}
use Rattle.model_defs.specs.Model.{TagModel, RuleD, text_rule, allow_rule, deny_rule}
use Rattle.entry_defs.specs.Entry as defs
use Rattle.entry_defs.specs.Entry.{Entry, boolean_entry, integer_entry, text_entry, native_entry, any_entry, unit_entry, option_entry, vec_entry, set_entry, map_entry, tuple_entry, array_entry, reference, item, Entries, no_entries, entry_then, entry_again, struct_shape, enum_shape, newtype_shape, Fields, no_fields, field_then, field_again, rest_field, Variants, no_variants, variant_then, Contents, unit_contents, newtype_contents, tuple_contents, struct_contents}
use Rattle.entry_defs.specs.Table.{ItemEntry, TargetEntry, Table}
use Rattle.naming_defs.specs.Names.{name_by}
use Rattle.convert_defs.specs.Standing.{words_or}
use Rattle.convert_defs.specs.Scalars.{rule_of_texts}
use Rattle.convert_defs.specs.Owners.{pattern_names}
use Rattle.entry_types.specs.View.{integer_view}
use Rattle.row_findings.specs.Given.{given_values_view}
use Rattle.row_findings.specs.View.{state_view, tag_view}
use Rattle.tree_types.specs.declared.tree.Label.{Label}
use Rattle.tree_types.specs.declared.tree.Target.{Target}
use Rattle.tree_types.specs.declared.tree.Target.TheVariants as targets
use Rattle.tree_types.specs.declared.tree.Atom.{Atom}
use Rattle.tree_types.specs.declared.tree.Atom.TheVariants as atoms
use Rattle.tree_types.specs.declared.tree.TreeRule.{TreeRule}
use Rattle.tree_types.specs.declared.tree.TreeRule.TheVariants as rules'
use Rattle.tree_types.specs.declared.tree.Wrap.{Wrap}
use Rattle.tree_types.specs.declared.tree.Wrap.TheVariants as wraps
use Rattle.tree_types.specs.declared.tree.FieldHead.{FieldHead}
use Rattle.tree_types.specs.declared.tree.ContentKind.{ContentKind}
use Rattle.tree_types.specs.declared.tree.ContentKind.TheVariants as kinds
use Rattle.tree_types.specs.declared.tree.VariantHead.{VariantHead}
use Rattle.tree_types.specs.declared.tree.Tree.{Tree, fold-Tree}
use Rattle.tree_types.specs.declared.tree.Tree.TheOpen.{Tree-F}
use Rattle.tree_types.specs.declared.tree.TreeTable.{TreeTable}

-- ---- names, targets and rules

-- the name that is given, or else the wanted one
abbrev pub label_view : Label → List ℕ
label_view l = words_or (option_map string_bytes l.given) l.wanted.now

abbrev pub target_view : Target → defs.Target
target_view targets.Root = defs.the_root
target_view (targets.Definition k) = defs.definition (string_bytes k)

abbrev pub atom_view : Atom → Entry
atom_view atoms.Bool = boolean_entry
atom_view (atoms.Integer g) = integer_entry (integer_view g)
atom_view atoms.Text = text_entry
atom_view (atoms.Native f) = native_entry f
atom_view atoms.Any = any_entry
atom_view atoms.Unit = unit_entry
atom_view (atoms.Reference q) = reference (target_view q)

abbrev pub rule_view : TreeRule → RuleD
rule_view (rules'.Texts t) = rule_of_texts (texts_view t.now)
rule_view (rules'.Keys ps) = text_rule (record { least = None; most = None; all = []; any = pattern_names (properties_view ps.now.entries) })
rule_view (rules'.Allow vs) = allow_rule (given_values_view vs)
rule_view (rules'.Deny vs) = deny_rule (given_values_view vs)

-- ---- what is made of parts

abbrev pub Parts : Type 0
Parts = List (FieldHead × Option Entry)

abbrev pub wrapped : Wrap → Entry → Entry
wrapped wraps.Option e = option_entry e
wrapped wraps.Vec e = vec_entry e
wrapped wraps.Set e = set_entry e
wrapped (wraps.Array n) e = array_entry e n
wrapped (wraps.Newtype l rule) e = item (label_view l) (newtype_shape e (option_map rule_view rule))

-- and then more places
abbrev pub places_then : Parts → Entries → Entries
places_then [] more = more
places_then ((h, None) ∷ ps) more = entry_again (places_then ps more)
places_then ((h, Some e) ∷ ps) more = entry_then e (places_then ps more)

abbrev pub places_view : Parts → Entries
places_view ps = places_then ps no_entries

-- and then more fields
abbrev pub fields_view : Parts → Fields → Fields
fields_view [] more = more
fields_view ((h, None) ∷ ps) more = field_again (label_view h.label) h.label.wanted.now (fields_view ps more)
fields_view ((h, Some e) ∷ ps) more = field_then (label_view h.label) h.label.wanted.now e (state_view h.state) (fields_view ps more)

abbrev pub rest_view : Option (Label × Box Entry Global) → Fields
rest_view None = no_fields
rest_view (Some p) = rest_field (label_view p.0) p.1.value

abbrev pub first_part : Parts → Entry
first_part ((h, Some e) ∷ ps) = e
first_part _ = any_entry

abbrev pub contents_view : ContentKind → Parts → Contents
contents_view kinds.Unit ps = unit_contents
contents_view kinds.Newtype ps = newtype_contents (first_part ps)
contents_view kinds.Tuple ps = tuple_contents (places_view ps)
contents_view kinds.Struct ps = struct_contents (fields_view ps no_fields)

-- and then more variants
abbrev pub variants_then : TagModel → List (VariantHead × Parts) → Variants → Variants
variants_then tag [] more = more
variants_then tag ((h, ps) ∷ ws) more = variant_then (label_view h.label) (name_by tag (label_view h.label) h.label.wanted.now) (contents_view h.kind ps) (variants_then tag ws more)

abbrev pub variants_view : TagModel → List (VariantHead × Parts) → Variants
variants_view tag ws = variants_then tag ws no_variants

-- ---- trees

abbrev pub tree_step : Tree-F Entry → Entry
tree_step (Tree-F.Atom a) = atom_view a
tree_step (Tree-F.One w e) = wrapped w e.value
tree_step (Tree-F.Map k e) = map_entry k.value e.value
tree_step (Tree-F.Tuple ps) = tuple_entry (places_view ps.items)
tree_step (Tree-F.Struct l closed fs rest) = item (label_view l) (struct_shape closed (fields_view fs.items (rest_view rest)))
tree_step (Tree-F.Enum l closed tag ws) = item (label_view l) (enum_shape closed (tag_view tag) (variants_view (tag_view tag) (map (λ w. (w.0, w.1.items)) ws.items)))

abbrev pub tree_view : Tree → Entry
tree_view = fold-Tree Entry tree_step

-- the parts of trees
abbrev pub parts_of : List (FieldHead × Option Tree) → Parts
parts_of ps = map (λ p. (p.0, option_map tree_view p.1)) ps

-- the parts of variants
abbrev pub cases_of : List (VariantHead × Vec (FieldHead × Option Tree) Global) → List (VariantHead × Parts)
cases_of ws = map (λ w. (w.0, parts_of w.1.items)) ws

-- what keeps the members that no field names
abbrev pub rest_fields : Option (Label × Box Tree Global) → Fields
rest_fields None = no_fields
rest_fields (Some p) = rest_field (label_view p.0) (tree_view p.1.value)

-- ---- tables

-- an item is its own; what is none is held by one without a name
abbrev pub item_in : Entry → ItemEntry
item_in (item n h) = record { name = n; shape = h }
item_in e = record { name = []; shape = newtype_shape e None }

abbrev pub item_entry : ItemEntry → Entry
item_entry i = item i.name i.shape

abbrev pub target_entry : Target × Tree → TargetEntry
target_entry p = record { target = target_view p.0; led_to = item_in (tree_view p.1) }

abbrev pub table_view : TreeTable → Table
table_view t = record { targets = map target_entry t.targets.items; trees = map tree_view t.trees.items }
