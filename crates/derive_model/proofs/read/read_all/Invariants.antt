use Rattle.std.proofs.Common.{◌≡◌, ◌++◌, map, drop}
use Rattle.std.specs.List.{filter_map}
use Rattle.syntax_trees.specs.Item.{item_view}
use Rattle.attr_parts.specs.Diagnostics.{diagnostics}
use Rattle.attr_parts.specs.declared.derive.Derive.TheVariants.{Serialize, Deserialize}
use Rattle.derive_ast.specs.Views.{container_view}
use Rattle.derive_model.specs.Items.{container_of, all_told}
use Rattle.derive_model.proofs.read.read_all.Given as goal

abbrev pub invariant-loop-item : goal.invariant-loop-item
invariant-loop-item g l =
    let v = g.R.Renamer.variant_name in
    let f = g.R.Renamer.field_name in
    let left = map item_view (drop l.item-index l.items) in
    let all = map item_view l.items in
    record {
      written : map container_view l.written.items ++ filter_map (container_of v f Serialize) left ≡ filter_map (container_of v f Serialize) all;
      read : map container_view l.read.items ++ filter_map (container_of v f Deserialize) left ≡ filter_map (container_of v f Deserialize) all;
      told : diagnostics l.cx ++ all_told v f left ≡ diagnostics l.initial.cx ++ all_told v f all;
    }
