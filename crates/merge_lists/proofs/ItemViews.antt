-- The views of one schema for each item, and of schemas by place.
use Rattle.std.proofs.Common.{◌≡◌, Box, Vec, Global, sym, ap, ◌∙◌}
use Rattle.schema_defs.specs.Schema.{Schema, Same, Lists, Named, Places, each_item, by_place, schemas}
use Rattle.schema_types.specs.declared.schema.Schema as tree
use Rattle.schema_types.specs.declared.schema.Items.{fold-roll-Items}
use Rattle.schema_types.specs.declared.schema.Items.TheOpen.{Items-F}
use Rattle.schema_types.specs.declared.schema.Items.TheVariants as variants
use Rattle.schema_types.specs.View.{items_step, schema_step, array_step, members_step, object_step, subschemas_step, items_view, schema_view, schemas_view}

pub one_view : (b : Box tree.Schema Global) → items_view (variants.One b) ≡ each_item (schema_view b.value)
one_view b = ap items_view (sym (variants.rolls-One b)) ∙ fold-roll-Items Places Schema Lists Named Schema Same items_step schema_step array_step members_step object_step subschemas_step (Items-F.One b)

pub many_view : (v : Vec tree.Schema Global) → items_view (variants.Many v) ≡ by_place (schemas (schemas_view v.items))
many_view v = ap items_view (sym (variants.rolls-Many v)) ∙ fold-roll-Items Places Schema Lists Named Schema Same items_step schema_step array_step members_step object_step subschemas_step (Items-F.Many v)
