-- Fields and structs, where their parts are written.
use Rattle.std.proofs.Common.{◌≡◌, ℕ, List, [], ◌∷◌, ◌++◌, map, Bool, Option, Some, None, string_bytes, refl, sym, ap, ◌∙◌}
use Rattle.syntax_trees.specs.Syntax.{TyD}
use Rattle.syntax_trees.specs.Item.{FieldD}
use Rattle.entry_defs.specs.Space.{Id, FieldAt, RestAt, Space, entry_at}
use Rattle.entry_types.specs.declared.item.FieldEntry.{FieldEntry}
use Rattle.entry_types.specs.View.{id_view, state_view, field_view}
use Rattle.emit_defs.specs.Models.{Manner}
use Rattle.emit_trees.specs.Parts.{field_part}
use Rattle.space_defs.specs.Types.{ty_at}
use Rattle.space_defs.specs.Trees.{manner_at, field_tree_at, field_trees_at, rest_trees_at, struct_trees_at}
use Rattle.emit_items.specs.Rests.{rest_trees}

module _ (space : Space) (boxed : Id → Id → Bool) (leads : Id → Bool) (owner : Id) where
  pub field_written : (n : ℕ) (x : FieldEntry) (f : FieldD) (identifier name : List ℕ) (place : ℕ) (m : Manner) (t : TyD) → identifier ≡ string_bytes x.ident → name ≡ string_bytes x.name → place ≡ n
      → m ≡ manner_at (leads (id_view x.ty)) (state_view x.state) (entry_at space (id_view x.ty)) → t ≡ ty_at space (boxed owner) (id_view x.ty) → f ≡ field_part identifier name place m t
      → f ≡ field_tree_at space boxed leads owner n (field_view x)
  field_written n x f identifier name place m t a b c d e written = written ∙ (λ z. field_part (a z) (b z) (c z) (d z) (e z))

  rest_same : (p : Option RestAt) → rest_trees space p ≡ rest_trees_at space boxed leads owner p
  rest_same None = refl
  rest_same (Some p) = refl

  pub struct_written : (n : ℕ) (gs : List FieldAt) (p : Option RestAt) (fields new : List FieldD) → fields ≡ field_trees_at space boxed leads owner n gs → new ≡ fields ++ rest_trees space p
      → new ≡ struct_trees_at space boxed leads owner n gs p
  struct_written n gs p fields new a b = let c = rest_same p in b ∙ (λ z. a z ++ c z)
