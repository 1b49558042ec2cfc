-- Trees as they are seen, part by part.
use Rattle.std.proofs.Common.{◌≡◌, List, [], ◌∷◌, map, slice_get, Bool, true, false, Option, Some, None, Box, Vec, Global, refl, ap, ◌∙◌}
use Rattle.model_defs.specs.Model.{TagModel}
use Rattle.entry_defs.specs.Entry.{entry_then, entry_again, tuple_entry, item, struct_shape, enum_shape, Fields, no_fields, field_then, field_again, variant_then, newtype_contents, tuple_contents, struct_contents}
use Rattle.naming_defs.specs.Names.{name_by, is_value}
use Rattle.row_findings.specs.View.{state_view, tag_view}
use Rattle.tree_types.specs.View.{label_view, places_view, fields_view, first_part, contents_view, variants_view, tree_view, parts_of, cases_of, rest_fields}
use Rattle.tree_names.specs.Seen.{part_view, places_of, fields_of, first_of, contents_of, variant_view, variants_of}
use Rattle.tree_types.specs.declared.tree.Label.{Label}
use Rattle.tree_types.specs.declared.tree.FieldHead.{FieldHead}
use Rattle.tree_types.specs.declared.tree.VariantHead.{VariantHead}
use Rattle.tree_types.specs.declared.tree.ContentKind.{ContentKind}
use Rattle.tree_types.specs.declared.tree.ContentKind.TheVariants as kinds
use Rattle.row_findings.specs.declared.row.TagRow.{TagRow}
use Rattle.tree_types.specs.declared.tree.Tree.{Tree}
use Rattle.tree_types.specs.declared.tree.Tree.TheVariants as trees
use Rattle.tree_types.proofs.Seen.{tuple_seen, struct_seen, enum_seen}

pub places_seen : (ps : List (FieldHead × Option Tree)) → places_view (parts_of ps) ≡ places_of (map part_view ps)
places_seen [] = refl
places_seen ((h, None) ∷ ps) = ap entry_again (places_seen ps)
places_seen ((h, Some e) ∷ ps) = ap (λ z. entry_then (tree_view e) z) (places_seen ps)

pub fields_seen : (ps : List (FieldHead × Option Tree)) (more : Fields) → fields_view (parts_of ps) more ≡ fields_of (map part_view ps) more
fields_seen [] more = refl
fields_seen ((h, None) ∷ ps) more = ap (λ z. field_again (label_view h.label) h.label.wanted.now z) (fields_seen ps more)
fields_seen ((h, Some e) ∷ ps) more = ap (λ z. field_then (label_view h.label) h.label.wanted.now (tree_view e) (state_view h.state) z) (fields_seen ps more)

first_seen : (ps : List (FieldHead × Option Tree)) → first_part (parts_of ps) ≡ first_of (map part_view ps)
first_seen [] = refl
first_seen ((h, None) ∷ ps) = refl
first_seen ((h, Some e) ∷ ps) = refl

pub contents_seen : (k : ContentKind) (ps : List (FieldHead × Option Tree)) → contents_view k (parts_of ps) ≡ contents_of k (map part_view ps)
contents_seen kinds.Unit ps = refl
contents_seen kinds.Newtype ps = ap newtype_contents (first_seen ps)
contents_seen kinds.Tuple ps = ap tuple_contents (places_seen ps)
contents_seen kinds.Struct ps = ap struct_contents (fields_seen ps no_fields)

pub variants_seen : (tag : TagModel) (ws : List (VariantHead × Vec (FieldHead × Option Tree) Global)) → variants_view tag (cases_of ws) ≡ variants_of tag (map variant_view ws)
variants_seen tag [] = refl
variants_seen tag ((h, ps) ∷ ws) =
    λ i. variant_then (label_view h.label) (name_by tag (label_view h.label) h.label.wanted.now) (contents_seen h.kind ps.items i) (variants_seen tag ws i)

pub tuple_in_parts : (ps : Vec (FieldHead × Option Tree) Global) → tree_view (trees.Tuple ps) ≡ tuple_entry (places_of (map part_view ps.items))
tuple_in_parts ps = tuple_seen ps ∙ ap tuple_entry (places_seen ps.items)

pub struct_in_parts : (l : Label) (c : Bool) (ps : Vec (FieldHead × Option Tree) Global) (r : Option (Label × Box Tree Global))
    → tree_view (trees.Struct l c ps r) ≡ item (label_view l) (struct_shape c (fields_of (map part_view ps.items) (rest_fields r)))
struct_in_parts l c ps r = struct_seen l c ps r ∙ ap (λ z. item (label_view l) (struct_shape c z)) (fields_seen ps.items (rest_fields r))

pub enum_in_parts : (l : Label) (c : Bool) (t : TagRow) (ws : Vec (VariantHead × Vec (FieldHead × Option Tree) Global) Global)
    → tree_view (trees.Enum l c t ws) ≡ item (label_view l) (enum_shape c (tag_view t) (variants_of (tag_view t) (map variant_view ws.items)))
enum_in_parts l c t ws = enum_seen l c t ws ∙ ap (λ z. item (label_view l) (enum_shape c (tag_view t) z)) (variants_seen (tag_view t) ws.items)

-- ---- structs without fields

pub without_rest : (o : Option (Label × Box Tree Global)) → o ≡ None → (closed : Bool) → true ≡ is_value (struct_shape closed (rest_fields o))
without_rest None e closed = refl
without_rest (Some r) e closed = absurd cc

pub with_rest : (o : Option (Label × Box Tree Global)) (r : Label × Box Tree Global) → o ≡ Some r → (closed : Bool) → false ≡ is_value (struct_shape closed (rest_fields o))
with_rest None r e closed = absurd cc
with_rest (Some q) r e closed = refl

pub with_field : (ps all : List (FieldHead × Option Tree)) (p : FieldHead × Option Tree) (o : Option (Label × Box Tree Global)) → ps ≡ all → slice_get ps 0 ≡ Some p
    → (closed : Bool) → false ≡ is_value (struct_shape closed (fields_of (map part_view all) (rest_fields o)))
with_field [] all p o same e closed = absurd cc
with_field (q ∷ ps) [] p o same e closed = absurd cc
with_field (q ∷ ps) ((h, None) ∷ all) p o same e closed = refl
with_field (q ∷ ps) ((h, Some x) ∷ all) p o same e closed = refl

pub without_field : (ps all : List (FieldHead × Option Tree)) (o : Option (Label × Box Tree Global)) (b : Bool) → ps ≡ all → slice_get ps 0 ≡ None
    → ((closed : Bool) → b ≡ is_value (struct_shape closed (rest_fields o))) → (closed : Bool) → b ≡ is_value (struct_shape closed (fields_of (map part_view all) (rest_fields o)))
without_field [] [] o b same e h closed = h closed
without_field [] (q ∷ all) o b same e h closed = absurd cc
without_field (q ∷ ps) all o b same e h closed = absurd cc
