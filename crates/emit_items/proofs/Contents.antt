-- What variants hold, as fields, where their types or their trees are written.
use Rattle.std.proofs.Common.{◌≡◌, ℕ, List, [], ◌∷◌, map, Bool, Vec, None, refl, sym, ap, ◌∙◌}
use Rattle.std.specs.declared.alloc.Global.{Global}
use Rattle.syntax_trees.specs.Syntax.{TyD, tys_of}
use Rattle.syntax_trees.specs.Item.{FieldD, FieldsD, named_fields, unnamed_fields}
use Rattle.entry_defs.specs.Space.{Id, Space}
use Rattle.entry_types.specs.declared.entry.TypeId.{TypeId}
use Rattle.entry_types.specs.declared.item.FieldEntry.{FieldEntry}
use Rattle.entry_types.specs.declared.item.Content.{Content}
use Rattle.entry_types.specs.declared.item.Content.TheVariants.{Tuple, Struct}
use Rattle.entry_types.specs.View.{id_view, field_view, content_view}
use Rattle.emit_defs.specs.Trees.{unnamed_field, unnamed_fields_of}
use Rattle.space_defs.specs.Types.{ty_at}
use Rattle.space_defs.specs.Trees.{struct_trees_at, unnamed_trees_at, contents_tree_at}

module _ (space : Space) (boxed : Id → Id → Bool) (leads : Id → Bool) (owner : Id) where
  of_ids : (js : List Id) → unnamed_fields_of (tys_of (map (ty_at space (boxed owner)) js)) ≡ unnamed_trees_at space boxed leads owner js
  of_ids [] = refl
  of_ids (j ∷ js) = ap (λ z. unnamed_field (ty_at space (boxed owner) j) ∷ z) (of_ids js)

  pub tuple_held : (n : ℕ) (c : Content) (ids : Vec TypeId Global) (lent : List TypeId) (ts : List TyD) (f : FieldsD) → c ≡ Tuple ids → lent ≡ ids.items → ts ≡ map (ty_at space (boxed owner)) (map id_view lent)
      → f ≡ unnamed_fields (unnamed_fields_of (tys_of ts)) → f ≡ contents_tree_at space boxed leads owner n (content_view c)
  tuple_held n c ids lent ts f is same seen written =
      written
      ∙ ap (λ z. unnamed_fields (unnamed_fields_of (tys_of z))) (seen ∙ ap (λ js. map (ty_at space (boxed owner)) (map id_view js)) same)
      ∙ ap unnamed_fields (of_ids (map id_view ids.items))
      ∙ ap (λ x. contents_tree_at space boxed leads owner n (content_view x)) (sym is)

  pub struct_held : (n : ℕ) (c : Content) (fields : Vec FieldEntry Global) (lent : List FieldEntry) (ts : List FieldD) → c ≡ Struct fields → lent ≡ fields.items
      → ts ≡ struct_trees_at space boxed leads owner n (map field_view lent) None → named_fields ts ≡ contents_tree_at space boxed leads owner n (content_view c)
  struct_held n c fields lent ts is same seen =
      ap named_fields (seen ∙ ap (λ fs. struct_trees_at space boxed leads owner n (map field_view fs) None) same) ∙ ap (λ x. contents_tree_at space boxed leads owner n (content_view x)) (sym is)
