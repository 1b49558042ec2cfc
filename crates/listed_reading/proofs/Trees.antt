-- What trees take, by what is known of their parts.
use Rattle.std.proofs.Common.{◌≡◌, ℕ, Bool, false, List, Option, None, Some, Box, Vec, Global, ap, ◌∙◌}
use Rattle.std.specs.Prelude.{unwrap_or}
use Rattle.std.specs.List.{list_any}
use Rattle.json_value.specs.Value.{Value}
use Rattle.schema_defs.specs.Texts.{Relations}
use Rattle.model_defs.specs.Model.{TagModel}
use Rattle.entry_defs.specs.Entry.{Entry, reference, Variants, item, enum_shape, variants_of}
use Rattle.entry_defs.specs.Layer.{contents_entry}
use Rattle.entry_defs.specs.Table.{Table}
use Rattle.row_findings.specs.declared.row.TagRow.{TagRow}
use Rattle.row_findings.specs.View.{tag_view}
use Rattle.tree_types.specs.View.{label_view, atom_view, wrapped, places_view, fields_view, rest_fields, variants_view, target_view, tree_view, parts_of, cases_of}
use Rattle.tree_types.specs.declared.tree.Label.{Label}
use Rattle.tree_types.specs.declared.tree.Target.{Target}
use Rattle.tree_types.specs.declared.tree.Atom.{Atom}
use Rattle.tree_types.specs.declared.tree.Wrap.{Wrap}
use Rattle.tree_types.specs.declared.tree.FieldHead.{FieldHead}
use Rattle.tree_types.specs.declared.tree.VariantHead.{VariantHead}
use Rattle.tree_types.specs.declared.tree.Tree.{Tree}
use Rattle.tree_types.specs.declared.tree.Tree.TheVariants as trees
use Rattle.tree_types.proofs.Seen.{atom_seen, one_seen, map_seen, tuple_seen, struct_seen, enum_seen}
use Rattle.listed_reading.specs.Followed.{Followed, following, takes_in}
use Rattle.listed_reading.specs.Owners.{is_list, is_object}
use Rattle.listed_reading.proofs.Forms as forms

module _ (t : Table) (left : ℕ) (r : Relations) (v : Value) where
  along : (x : Tree) (e : Entry) (b : Bool) → tree_view x ≡ e → ((m : ℕ) → takes_in (following t left m) r e v ≡ b) → (m : ℕ) → takes_in (following t left m) r (tree_view x) v ≡ b
  along x e b h k m = ap (λ z. takes_in (following t left m) r z v) h ∙ k m

  pub atom_tree : (a : Atom) (b : Bool) → ((m : ℕ) → takes_in (following t left m) r (atom_view a) v ≡ b) → (m : ℕ) → takes_in (following t left m) r (tree_view (trees.Atom a)) v ≡ b
  atom_tree a b k = along (trees.Atom a) (atom_view a) b (atom_seen a) k

  pub reference_tree : (a : Atom) (q : Target) (b : Bool) → atom_view a ≡ reference (target_view q) → ((m : ℕ) → takes_in (following t left m) r (reference (target_view q)) v ≡ b)
      → (m : ℕ) → takes_in (following t left m) r (tree_view (trees.Atom a)) v ≡ b
  reference_tree a q b e k = along (trees.Atom a) (reference (target_view q)) b (atom_seen a ∙ e) k

  -- it is known whatever the part says, or it is what the part says
  pub one_known : (w : Wrap) (x : Box Tree Global) (o : Option Bool) (b : Bool) → o ≡ Some b → ((f : Followed) (e : Entry) → takes_in f r (wrapped w e) v ≡ unwrap_or o (takes_in f r e v))
      → (m : ℕ) → takes_in (following t left m) r (tree_view (trees.One w x)) v ≡ b
  one_known w x o b h k = along (trees.One w x) (wrapped w (tree_view x.value)) b (one_seen w x) (λ m. k (following t left m) (tree_view x.value) ∙ ap (λ z. unwrap_or z (takes_in (following t left m) r (tree_view x.value) v)) h)

  pub one_passed : (w : Wrap) (x : Box Tree Global) (o : Option Bool) (b : Bool) → o ≡ None → ((f : Followed) (e : Entry) → takes_in f r (wrapped w e) v ≡ unwrap_or o (takes_in f r e v))
      → ((m : ℕ) → takes_in (following t left m) r (tree_view x.value) v ≡ b) → (m : ℕ) → takes_in (following t left m) r (tree_view (trees.One w x)) v ≡ b
  one_passed w x o b h k l =
      along (trees.One w x) (wrapped w (tree_view x.value)) b (one_seen w x) (λ m. k (following t left m) (tree_view x.value) ∙ ap (λ z. unwrap_or z (takes_in (following t left m) r (tree_view x.value) v)) h ∙ l m)

  pub map_refused : (k x : Box Tree Global) → is_object v ≡ false → (m : ℕ) → takes_in (following t left m) r (tree_view (trees.Map k x)) v ≡ false
  map_refused k x h = along (trees.Map k x) _ false (map_seen k x) (λ m. forms.map_refused r v h (tree_view k.value) (tree_view x.value) (following t left m))

  pub tuple_refused : (ps : Vec (FieldHead × Option Tree) Global) → is_list v ≡ false → (m : ℕ) → takes_in (following t left m) r (tree_view (trees.Tuple ps)) v ≡ false
  tuple_refused ps h = along (trees.Tuple ps) _ false (tuple_seen ps) (λ m. forms.tuple_refused r v h (places_view (parts_of ps.items)) (following t left m))

  pub struct_refused : (l : Label) (c : Bool) (ps : Vec (FieldHead × Option Tree) Global) (o : Option (Label × Box Tree Global)) → is_object v ≡ false → (m : ℕ) → takes_in (following t left m) r (tree_view (trees.Struct l c ps o)) v ≡ false
  struct_refused l c ps o h = along (trees.Struct l c ps o) _ false (struct_seen l c ps o) (λ m. forms.struct_refused r v h (label_view l) c (fields_view (parts_of ps.items) (rest_fields o)) (following t left m))

  -- it is known by the tag, or some variant takes the value or none
  abbrev variants_in : TagRow → Vec (VariantHead × Vec (FieldHead × Option Tree) Global) Global → Variants
  variants_in tag ws = variants_view (tag_view tag) (cases_of ws.items)

  abbrev some_variant : ℕ → Bool → Variants → Bool
  some_variant m closed us = list_any (λ w. takes_in (following t left m) r (contents_entry closed w.contents) v) (variants_of us)

  pub enum_known : (l : Label) (c : Bool) (tag : TagRow) (ws : Vec (VariantHead × Vec (FieldHead × Option Tree) Global) Global) (o : Option Bool) (b : Bool) → o ≡ Some b
      → ((f : Followed) (q : Relations) (n : List ℕ) (closed : Bool) → takes_in f q (item n (enum_shape closed (tag_view tag) (variants_in tag ws))) v ≡ unwrap_or o (list_any (λ w. takes_in f q (contents_entry closed w.contents) v) (variants_of (variants_in tag ws))))
      → (m : ℕ) → takes_in (following t left m) r (tree_view (trees.Enum l c tag ws)) v ≡ b
  enum_known l c tag ws o b h k =
      along (trees.Enum l c tag ws) _ b (enum_seen l c tag ws) (λ m. k (following t left m) r (label_view l) c ∙ ap (λ z. unwrap_or z (some_variant m c (variants_in tag ws))) h)

  pub enum_passed : (l : Label) (c : Bool) (tag : TagRow) (ws : Vec (VariantHead × Vec (FieldHead × Option Tree) Global) Global) (o : Option Bool) (b : Bool) → o ≡ None
      → ((f : Followed) (q : Relations) (n : List ℕ) (closed : Bool) → takes_in f q (item n (enum_shape closed (tag_view tag) (variants_in tag ws))) v ≡ unwrap_or o (list_any (λ w. takes_in f q (contents_entry closed w.contents) v) (variants_of (variants_in tag ws))))
      → ((m : ℕ) (g : TagModel) (closed : Bool) → list_any (λ w. takes_in (following t left m) r (contents_entry closed w.contents) v) (variants_of (variants_view g (cases_of ws.items))) ≡ b)
      → (m : ℕ) → takes_in (following t left m) r (tree_view (trees.Enum l c tag ws)) v ≡ b
  enum_passed l c tag ws o b h k u =
      along (trees.Enum l c tag ws) _ b (enum_seen l c tag ws) (λ m. k (following t left m) r (label_view l) c ∙ ap (λ z. unwrap_or z (some_variant m c (variants_in tag ws))) h ∙ u m (tag_view tag) c)
