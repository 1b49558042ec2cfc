-- Whose attributes are read, and the lines of the tables of attributes.
use Rattle.syntax_trees.specs.Item.{item_view, variant_view, field_view}
use Rattle.attr_parts.specs.Names.{attr_name}
use Rattle.attr_defs.specs.Owners.{OwnerD, of_container, of_variant, of_field}
use Rattle.attr_defs.specs.Rows.{LineD}
use Rattle.attr_rows.specs.declared.line.Line.{Line}
use Rattle.attr_rows.specs.declared.owner.Owner.{Owner}
use Rattle.attr_rows.specs.declared.owner.Owner.TheVariants as owners

abbrev pub owner_view : Owner → OwnerD
owner_view (owners.Container i) = of_container (item_view i.now)
owner_view (owners.Variant v) = of_variant (variant_view v.now)
owner_view (owners.Field f n) = of_field (field_view f.now) (attr_name n.now)

abbrev pub line_view : Line → LineD
line_view l = record { name = l.name.0.now; row = l.row }
