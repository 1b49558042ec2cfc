-- The view of the keywords of lists of the program, part by part.
use Rattle.std.proofs.Common.{◌≡◌, Option, Some, None, option_map, Box, Global, refl, ◌∙◌}
use Rattle.schema_defs.specs.Schema.{Schema, Same, Lists, lists, Named, MaybeSchema, Places}
use Rattle.schema_types.specs.View.{maybe_of, places_of, items_step, schema_step, array_step, members_step, object_step, subschemas_step, schema_view, items_view, array_view, maybe_view}
use Rattle.schema_types.specs.declared.schema.Schema as tree
use Rattle.schema_types.specs.declared.schema.Items.TheShapes.{former-ArrayValidation-items, former-ArrayValidation-additional_items}
use Rattle.schema_types.specs.declared.schema.ArrayValidation.{ArrayValidation, out-ArrayValidation, fold_out-ArrayValidation}
use Rattle.schema_types.specs.declared.schema.Items.{Items}

maybe_mapped : (o : Option (Box tree.Schema Global)) → maybe_of (former-ArrayValidation-additional_items.map tree.Schema Schema schema_view o) ≡ maybe_view o
maybe_mapped None = refl
maybe_mapped (Some b) = refl

places_mapped : (o : Option Items) → places_of (former-ArrayValidation-items.map Items Places items_view o) ≡ places_of (option_map items_view o)
places_mapped None = refl
places_mapped (Some s) = refl

pub array_seen : (a : ArrayValidation) → array_view a
    ≡ lists (places_of (option_map items_view (out-ArrayValidation a).items)) (maybe_view (out-ArrayValidation a).additional_items) (maybe_view (out-ArrayValidation a).contains)
    (record { max_items = (out-ArrayValidation a).max_items; min_items = (out-ArrayValidation a).min_items; unique_items = (out-ArrayValidation a).unique_items })
array_seen a =
    let x = out-ArrayValidation a in
    fold_out-ArrayValidation Places Schema Lists Named Schema Same items_step schema_step array_step members_step object_step subschemas_step a
    ∙ (λ i. lists (places_mapped x.items i) (maybe_mapped x.additional_items i) (maybe_mapped x.contains i) (record { max_items = x.max_items; min_items = x.min_items; unique_items = x.unique_items }))
