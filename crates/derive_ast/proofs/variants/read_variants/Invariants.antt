use Rattle.std.proofs.Common.{◌≡◌, ◌++◌, map, drop}
use Rattle.token_trees.specs.View.{name_view}
use Rattle.syntax_trees.specs.Item.{variant_view as variant_tree}
use Rattle.attr_parts.specs.Diagnostics.{diagnostics}
use Rattle.attr_defs.specs.Texts.{lexed}
use Rattle.derive_attr.specs.ContainerView.{container_view as attrs_view}
use Rattle.container_defs.specs.Model.{variants_told}
use Rattle.container_defs.specs.Reading.{variant_of, name_variant}
use Rattle.derive_ast.specs.Views.{variant_view}
use Rattle.derive_ast.proofs.Loops.{IsTold}
use Rattle.derive_ast.proofs.variants.read_variants.Given as goal

abbrev pub invariant-loop-variant : goal.invariant-loop-variant
invariant-loop-variant g l = record {
  model : map variant_view l.read.items ++ map (name_variant g.R.Renamer.variant_name g.R.Renamer.field_name (attrs_view l.container)) (map (variant_of lexed (name_view l.private) (attrs_view l.container).default) (map variant_tree (drop l.variant-index l.variants))) ≡ map (name_variant g.R.Renamer.variant_name g.R.Renamer.field_name (attrs_view l.container)) (map (variant_of lexed (name_view l.private) (attrs_view l.container).default) (map variant_tree l.variants));
  told : IsTold (diagnostics l.initial.cx) (diagnostics l.cx) (variants_told lexed (map variant_tree l.variants)) (variants_told lexed (map variant_tree (drop l.variant-index l.variants)));
}
