-- The entry of a schema, by recursion on the steps that walks may still take, and the conversion tree by the same recursion.
use Rattle.std.specs.Prelude.{ℕ, zero, suc, ◌&&◌, List, [], ◌∷◌, ◌++◌, map, Bool, true, false, Option, Some, None, if◌then◌else◌, codes}
use Rattle.std.specs.Ordering.{bool_cmp, is_eq}
use Rattle.std.specs.List.{list_any}
use Rattle.schema_defs.specs.Location.{Location}
use Rattle.schema_defs.specs.Texts.{Relations}
use Rattle.schema_defs.specs.Schema.{Schema, boolean, object, Definition, Document}
use Rattle.schema_defs.specs.Admits.{definition_location}
use Rattle.model_defs.specs.Model.{TagModel, untagged, text_rule}
use Rattle.entry_defs.specs.Entry.{the_root, definition, Entry, text_entry, any_entry, unit_entry, option_entry, vec_entry, set_entry, map_entry, tuple_entry, array_entry, reference, item, Entries, no_entries, entry_then, entry_again, struct_shape, enum_shape, newtype_shape, Rest, no_rest, rest, rest_of, Fields, no_fields, field_then, field_again, rest_field, required, Variants, no_variants, variant_then, Contents, unit_contents, newtype_contents, tuple_contents, struct_contents}
use Rattle.entry_defs.specs.Table.{ItemEntry, TargetEntry, Table}
use Rattle.convert_defs.specs.Row.{Part, child, of_branch, lone, made, FieldRow, OutsideRow, VariantBody, unit_body, part_body, fields_body, VariantRow, Closing, by_shape, by_contents, Row, leaf_row, as_it_is_row, option_row, ruled_row, vec_row, set_row, array_row, tuple_row, map_row, pattern_map_row, struct_row, enum_row, merged_row, refused_row, row_parts, Note}
use Rattle.convert_defs.specs.Order.{ordered}
use Rattle.convert_defs.specs.Standing.{wanted, words_or}
use Rattle.convert_defs.specs.RootReference.{refers_to_root}
use Rattle.convert_defs.specs.Table.{finding_of, row_of, notes_at}

-- ---- contents of variants

abbrev pub same_flag : Bool → Bool → Bool
same_flag a b = is_eq (bool_cmp a b)

abbrev pub unit_in : TagModel → Contents
unit_in untagged = unit_contents
unit_in _ = newtype_contents unit_entry

abbrev pub has_place : Entries → Bool
has_place no_entries = false
has_place _ = true

abbrev pub has_two_places : Entries → Bool
has_two_places no_entries = false
has_two_places (entry_then e es) = has_place es
has_two_places (entry_again es) = has_place es

abbrev pub is_without_rest : Rest → Bool
is_without_rest no_rest = true
is_without_rest (rest i e) = false

-- a tuple of two or more places, a unit, or an inline struct without a rest that is closed as the enum is
abbrev pub content_of : TagModel → Bool → Entry → Contents
content_of tag closed (tuple_entry es) = if has_two_places es then tuple_contents es else newtype_contents (tuple_entry es)
content_of tag closed unit_entry = unit_in tag
content_of tag closed (item l (struct_shape c fs)) = if same_flag c closed && is_without_rest (rest_of fs) then struct_contents fs else newtype_contents (item l (struct_shape c fs))
content_of tag closed e = newtype_contents e

abbrev pub is_closed_struct : Entry → Bool
is_closed_struct (item l (struct_shape c fs)) = c
is_closed_struct _ = false

-- texts that have one of the patterns
abbrev pub pattern_key : List (List ℕ) → Entry
pattern_key qs = item [] (newtype_shape text_entry (Some (text_rule (record { least = None; most = None; all = []; any = qs }))))

-- ---- the entry of a row, where it is known what its parts are converted to

-- the items of a row without parts get the name that is wanted
abbrev pub labeled : List ℕ → Entry → Entry
labeled n (item l h) = item n h
labeled n (option_entry e) = option_entry (labeled n e)
labeled n e = e

-- an option of it, unless it is one
abbrev pub optional_entry : Entry → Entry
optional_entry (option_entry e) = option_entry e
optional_entry e = option_entry e

abbrev pub nullable_entry : Bool → Entry → Entry
nullable_entry true e = optional_entry e
nullable_entry false e = e

-- required fields of one entry, and a rest of it
abbrev pub alike_fields : List (List ℕ) → Bool → Entry → Fields
alike_fields [] keeps_rest e = if keeps_rest then rest_field (codes "extra") e else no_fields
alike_fields (n ∷ []) false e = field_then n n e required no_fields
alike_fields (n ∷ ns) keeps_rest e = field_again n n (alike_fields ns keeps_rest e)

-- so many places of one entry
abbrev pub alike_entries : ℕ → Entry → Entries
alike_entries zero e = no_entries
alike_entries (suc zero) e = entry_then e no_entries
alike_entries (suc (suc n)) e = entry_again (alike_entries (suc n) e)

module _ (convert : Part → Entry) where
  abbrev pub field_entry : FieldRow → Entry
  field_entry f = nullable_entry f.nullable (convert f.part)

  -- and then more fields
  abbrev pub row_fields : List FieldRow → Fields → Fields
  row_fields [] more = more
  row_fields (f ∷ fs) more = field_then f.name f.name (field_entry f) f.state (row_fields fs more)

  -- and then more places
  abbrev pub row_entries : List Part → Entries → Entries
  row_entries [] more = more
  row_entries (p ∷ ps) more = entry_then (convert p) (row_entries ps more)

  -- the fields outside `properties`, and the rest: one entry, which stands at the last of them
  abbrev pub outside_fields : Option OutsideRow → Fields
  outside_fields None = no_fields
  outside_fields (Some o) = alike_fields o.names o.keeps_rest (convert o.part)

  abbrev pub is_closed_body : VariantBody → Bool
  is_closed_body (part_body p) = is_closed_struct (convert p)
  is_closed_body _ = false

  abbrev pub is_closed : Closing → List VariantRow → Bool
  is_closed (by_shape c) ws = c
  is_closed by_contents ws = list_any (λ w. is_closed_body w.body) ws

  abbrev pub body_content : TagModel → Bool → VariantBody → Contents
  body_content tag closed unit_body = unit_contents
  body_content tag closed (part_body p) = content_of tag closed (convert p)
  body_content tag closed (fields_body fs) = struct_contents (row_fields fs no_fields)

  abbrev pub row_variants : TagModel → Bool → List VariantRow → Variants
  row_variants tag closed [] = no_variants
  row_variants tag closed (w ∷ ws) = variant_then w.name w.name (body_content tag closed w.body) (row_variants tag closed ws)

  -- `name` is the wanted name of the item, where the row makes one
  abbrev pub entry_of : List ℕ → Row → Entry
  entry_of name (leaf_row e) = labeled name e
  entry_of name (as_it_is_row p) = convert p
  entry_of name (option_row p) = option_entry (convert p)
  entry_of name (ruled_row p rule) = item name (newtype_shape (convert p) (Some rule))
  entry_of name (vec_row p) = vec_entry (convert p)
  entry_of name (set_row p) = set_entry (convert p)
  entry_of name (array_row p n) = array_entry (convert p) n
  entry_of name (tuple_row ps n p) = tuple_entry (row_entries ps (alike_entries n (convert p)))
  entry_of name (map_row k p) = map_entry (convert k) (convert p)
  entry_of name (pattern_map_row qs p) =
      map_entry (pattern_key qs) (convert p)
  entry_of name (struct_row closed fs o) = item name (struct_shape closed (row_fields fs (outside_fields o)))
  entry_of name (enum_row tag closing ws) = item name (enum_shape (is_closed closing ws) tag (row_variants tag (is_closed closing ws) ws))
  entry_of name (merged_row ps) = any_entry
  entry_of name (refused_row c) = any_entry

-- ---- the recursion

-- the name that is handed down to a schema, in place of its title: that of a definition or of the root
abbrev pub Handed : Type 0
Handed = Option (List ℕ)

abbrev pub named_by : Handed → Schema → List ℕ
named_by None s = wanted s
named_by (Some n) s = n

abbrev pub Converts : Type 0
Converts = Handed → Schema → Entry

-- a made schema is made of one that has more of these: an enum, a constant, a list of types. So no chain of them is longer
abbrev pub most_made : ℕ
most_made = 5

-- a child is named by its own title
module _ (below inner made_here : Converts) where
  abbrev pub part_entry : Handed → Part → Entry
  part_entry h (child l s) = below None s
  part_entry h (of_branch l s) = inner None s
  part_entry h (lone l s) = below h s
  part_entry h (made s) = made_here h s

module _ (r : Relations) (d : Document) where
  abbrev pub layer : Converts → Converts → Converts → Converts
  layer below inner made_here h s = entry_of (part_entry below inner made_here h) (named_by h s) (row_of r d s)

  -- what is converted in the place of one written schema
  abbrev pub made_within : Converts → Converts → ℕ → Converts
  made_within below inner zero h s = any_entry
  made_within below inner (suc m) h s = layer below inner (made_within below inner m) h s

  -- n counts the locations that a walk may still have: the steps that are left, and the schema itself. A child of a branch is two steps away
  abbrev mutual
    pub raw_entry : ℕ → Converts
    raw_entry zero h s = any_entry
    raw_entry (suc n) h s = made_within (raw_entry n) (past_branch n) most_made h s

    pub past_branch : ℕ → Converts
    past_branch zero h s = any_entry
    past_branch (suc n) h s = raw_entry n h s

-- ---- the conversion tree: each schema that is converted, with its place and its entry

-- `is_deep` says that more steps would be taken than are left
pub record Node : Type 0 where
  pub place : Location
  pub schema : Schema
  pub entry : Entry
  pub is_deep : Bool

abbrev pub Tree : Type 0
Tree = Handed → Location → Schema → List Node

abbrev pub cut_node : Location → Schema → Node
cut_node l s = record { place = l; schema = s; entry = any_entry; is_deep = true }

abbrev pub cut : Tree
cut h l s = cut_node l s ∷ []

module _ (below inner made_here : Tree) where
  abbrev pub part_tree : Handed → Location → Part → List Node
  part_tree h l (child k s) = below None (l ++ k) s
  part_tree h l (of_branch k s) = inner None (l ++ k) s
  part_tree h l (lone k s) = below h (l ++ k) s
  part_tree h l (made s) = made_here h l s

  abbrev pub parts_tree : Handed → Location → List Part → List Node
  parts_tree h l [] = []
  parts_tree h l (p ∷ ps) = part_tree h l p ++ parts_tree h l ps

-- branches to which no step is left
abbrev pub cut_branches : ℕ → Location → List (Location × Schema) → List Node
cut_branches (suc n) l ms = []
cut_branches zero l [] = []
cut_branches zero l (m ∷ ms) = cut_node (l ++ m.0) m.1 ∷ cut_branches zero l ms

module _ (r : Relations) (d : Document) where
  -- by the recursion that makes the entries, with n steps left
  abbrev pub made_tree : ℕ → Tree → Tree → ℕ → Tree
  made_tree n below inner zero h l s = cut h l s
  made_tree n below inner (suc m) h l s =
      record { place = l; schema = s; entry = made_within r d (raw_entry r d n) (past_branch r d n) (suc m) h s; is_deep = false }
      ∷ (cut_branches n l (finding_of r d s).branches ++ parts_tree below inner (made_tree n below inner m) h l (row_parts (row_of r d s)))

  abbrev mutual
    pub tree : ℕ → Tree
    tree zero h l s = cut h l s
    tree (suc n) h l s = made_tree n (tree n) (inner_tree n) most_made h l s

    pub inner_tree : ℕ → Tree
    inner_tree zero h l s = cut h l s
    inner_tree (suc n) h l s = tree n h l s

-- ---- a document, where walks may have so many steps

-- a definition, and the root where some reference leads to it, always is an item
abbrev pub as_item : List ℕ → Entry → ItemEntry
as_item name (item l h) = record { name = name; shape = h }
as_item name e = record { name = name; shape = newtype_shape e None }

-- the wanted name of the root's item is its title, or `Root`
abbrev pub root_name : Schema → List ℕ
root_name (boolean b) = codes "Root"
root_name (object p ss ls ns) = words_or p.title (codes "Root")

module _ (r : Relations) (d : Document) (depth : ℕ) where
  abbrev pub definition_entry : Definition → Entry
  definition_entry e = raw_entry r d (suc depth) (Some e.name) e.body

  abbrev pub root_entry : Entry
  root_entry = raw_entry r d (suc depth) (Some (root_name d.root)) d.root

  abbrev pub definition_target : Definition → TargetEntry
  definition_target e = record { target = definition e.name; led_to = as_item e.name (definition_entry e) }

  abbrev pub root_targets : Bool → List TargetEntry
  root_targets true = record { target = the_root; led_to = as_item (root_name d.root) root_entry } ∷ []
  root_targets false = []

  abbrev pub root_use : Bool → Entry
  root_use true = reference the_root
  root_use false = root_entry

  -- the items that references lead to, and the root
  abbrev pub table_of : Table
  table_of = record { targets = map definition_target d.definitions ++ root_targets (refers_to_root d); trees = root_use (refers_to_root d) ∷ [] }

  abbrev pub definition_tree : Definition → List Node
  definition_tree e = tree r d (suc depth) (Some e.name) (definition_location e) e.body

  abbrev pub definition_trees : List Definition → List Node
  definition_trees [] = []
  definition_trees (e ∷ es) = definition_tree e ++ definition_trees es

  abbrev pub root_tree : List Node
  root_tree = tree r d (suc depth) (Some (root_name d.root)) [] d.root

  -- the definitions in the order of their names, then the root
  abbrev pub document_tree : List Node
  document_tree = definition_trees d.definitions ++ root_tree

-- ---- the notes of a document are those of the schemas in its tree

abbrev pub placed : Location → List Note → List Note
placed l [] = []
placed l (n ∷ ns) = record n { place = l ++ n.place } ∷ placed l ns

abbrev pub notes_in : Relations → Document → List Node → List Note
notes_in r d [] = []
notes_in r d (t ∷ ts) = placed t.place (notes_at r d t.schema) ++ notes_in r d ts

abbrev pub notes_of : Relations → Document → ℕ → List Note
notes_of r d n = ordered (notes_in r d (document_tree r d n))
