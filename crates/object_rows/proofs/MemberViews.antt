-- The view of the keywords of members of the program, part by part.
use Rattle.std.proofs.Common.{◌≡◌, Option, Some, None, Box, Global, string_bytes, map, refl, ◌∙◌}
use Rattle.schema_defs.specs.Schema.{Schema, Same, Lists, Named, named, Places}
use Rattle.schema_types.specs.View.{maybe_of, items_step, schema_step, array_step, members_step, object_step, subschemas_step, schema_view, members_view, properties_view, maybe_view}
use Rattle.schema_types.specs.declared.schema.Schema as tree
use Rattle.schema_types.specs.declared.schema.Items.TheShapes.{former-ArrayValidation-additional_items}
use Rattle.schema_types.specs.declared.schema.ObjectValidation.{ObjectValidation, out-ObjectValidation, fold_out-ObjectValidation}

maybe_mapped : (o : Option (Box tree.Schema Global)) → maybe_of (former-ArrayValidation-additional_items.map tree.Schema Schema schema_view o) ≡ maybe_view o
maybe_mapped None = refl
maybe_mapped (Some b) = refl

pub members_seen : (o : ObjectValidation) → members_view o
    ≡ named (properties_view (out-ObjectValidation o).properties.entries) (properties_view (out-ObjectValidation o).pattern_properties.entries) (maybe_view (out-ObjectValidation o).additional_properties) (maybe_view (out-ObjectValidation o).property_names)
    (record { max_properties = (out-ObjectValidation o).max_properties; min_properties = (out-ObjectValidation o).min_properties; required = map string_bytes (out-ObjectValidation o).required.keys })
members_seen o =
    let x = out-ObjectValidation o in
    fold_out-ObjectValidation Places Schema Lists Named Schema Same items_step schema_step array_step members_step object_step subschemas_step o
    ∙ (λ i. named (properties_view x.properties.entries) (properties_view x.pattern_properties.entries) (maybe_mapped x.additional_properties i) (maybe_mapped x.property_names i)
    (record { max_properties = x.max_properties; min_properties = x.min_properties; required = map string_bytes x.required.keys }))
