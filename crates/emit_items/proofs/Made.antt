-- Items, where what they carry and their parts are written.
use Rattle.std.proofs.Common.{◌≡◌, ℕ, List, [], ◌∷◌, Bool, true, false, not, Option, Some, None, option_map, string_bytes, refl, sym, ap, ◌∙◌}
use Rattle.token_trees.specs.Token.{site}
use Rattle.token_trees.specs.Text.{text_of}
use Rattle.syntax_trees.specs.Syntax.{TyD}
use Rattle.syntax_trees.specs.Item.{FieldD, VariantD, ItemD, named_fields, unnamed_fields, struct_body, enum_body}
use Rattle.syntax_printing.specs.Print.{print_ty}
use Rattle.model_defs.specs.Model.{RuleD, external_tag}
use Rattle.tag_kinds.specs.declared.tag.TagType.{TagType}
use Rattle.tag_kinds.specs.declared.tag.TagType.TheVariants as tags
use Rattle.entry_defs.specs.Space.{Id, FieldAt, RestAt, VariantAt, Space, struct_shape_at, enum_shape_at, newtype_shape_at}
use Rattle.conversion_table.specs.declared.conversions.Rule.{Rule}
use Rattle.schema_tree.specs.Conversions.{rule_view}
use Rattle.entry_types.specs.declared.entry.TypeId.{TypeId}
use Rattle.entry_types.specs.declared.item.ItemEntry.{ItemEntry}
use Rattle.entry_types.specs.declared.item.ItemShape.TheVariants.{Newtype}
use Rattle.entry_types.specs.View.{id_view, tag_view, shape_view}
use Rattle.emit_defs.specs.Trees.{Carried, unnamed_field}
use Rattle.emit_trees.specs.Parts.{tag_model, item_parts, item_part}
use Rattle.space_defs.specs.Leads.{ends_in_phantom_at}
use Rattle.space_defs.specs.Types.{ty_at}
use Rattle.space_defs.specs.Trees.{struct_trees_at, variant_trees_at, item_tree_at}
use Rattle.emit_types.specs.Asked.{placed_item}

tag_same : (t : TagType) → tag_model t ≡ tag_view t
tag_same tags.External = refl
tag_same (tags.Internal t) = refl
tag_same (tags.Adjacent t c) = refl
tag_same tags.None = refl

module _ (space : Space) (boxed : Id → Id → Bool) (leads : Id → Bool) (n : ℕ) (owner : Id) (name : List ℕ) where
  pub struct_made : (closed : Bool) (gs : List FieldAt) (p : Option RestAt) (d : ItemD) (ms : List Carried) (ts : List FieldD) → ms ≡ item_parts external_tag false None closed
      → ts ≡ struct_trees_at space boxed leads owner n gs p → d ≡ item_part name ms (struct_body (named_fields ts) site)
      → d ≡ item_tree_at space boxed leads n (placed_item owner name (struct_shape_at closed gs p))
  struct_made closed gs p d ms ts a b made = made ∙ (λ z. item_part name (a z) (struct_body (named_fields (b z)) site))

  pub enum_made : (closed : Bool) (tag : TagType) (ws : List VariantAt) (d : ItemD) (ms : List Carried) (ts : List VariantD) → ms ≡ item_parts (tag_model tag) false None closed
      → ts ≡ variant_trees_at space boxed leads owner n ws → d ≡ item_part name ms (enum_body ts site)
      → d ≡ item_tree_at space boxed leads n (placed_item owner name (enum_shape_at closed (tag_view tag) ws))
  enum_made closed tag ws d ms ts a b made =
      let c = a ∙ ap (λ t. item_parts t false None closed) (tag_same tag) in made ∙ (λ z. item_part name (c z) (enum_body (b z) site))

  pub bare_made : (j : Id) (d : ItemD) (ms : List Carried) (t : TyD) → ms ≡ item_parts external_tag (not (ends_in_phantom_at space boxed owner j)) None false → t ≡ ty_at space (boxed owner) j
      → d ≡ item_part name ms (struct_body (unnamed_fields (unnamed_field t ∷ [])) site) → d ≡ item_tree_at space boxed leads n (placed_item owner name (newtype_shape_at j None))
  bare_made j d ms t a b made = made ∙ (λ z. item_part name (a z) (struct_body (unnamed_fields (unnamed_field (b z) ∷ [])) site))

  pub ruled_made : (j : Id) (rule : RuleD) (d : ItemD) (ms : List Carried) (text : List ℕ) (t : TyD) → ms ≡ item_parts external_tag false (Some text) false → text ≡ text_of (print_ty t)
      → t ≡ ty_at space (boxed owner) j → d ≡ item_part name ms (struct_body (unnamed_fields (unnamed_field t ∷ [])) site)
      → d ≡ item_tree_at space boxed leads n (placed_item owner name (newtype_shape_at j (Some rule)))
  ruled_made j rule d ms text t a e b made =
      let c = e ∙ ap (λ x. text_of (print_ty x)) b in
      let f = a ∙ ap (λ x. item_parts external_tag false (Some x) false) c in
      made ∙ (λ z. item_part name (f z) (struct_body (unnamed_fields (unnamed_field (b z) ∷ [])) site))

module _ (space : Space) (boxed : Id → Id → Bool) (leads : Id → Bool) (n : ℕ) (owner : Id) where
  pub newtype_placed : (i : ItemEntry) (inner : TypeId) (rule : Option Rule) (name : List ℕ) (d : ItemD) → i.shape ≡ Newtype inner rule → name ≡ string_bytes i.name
      → d ≡ item_tree_at space boxed leads n (placed_item owner name (newtype_shape_at (id_view inner) (option_map rule_view rule)))
      → d ≡ item_tree_at space boxed leads n (placed_item owner (string_bytes i.name) (shape_view i.shape))
  newtype_placed i inner rule name d is named made =
      made
      ∙ ap (λ m. item_tree_at space boxed leads n (placed_item owner m (newtype_shape_at (id_view inner) (option_map rule_view rule)))) named
      ∙ ap (λ s. item_tree_at space boxed leads n (placed_item owner (string_bytes i.name) (shape_view s))) (sym is)
