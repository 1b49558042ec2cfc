-- Subschemas, part by part.
use Rattle.std.proofs.Common.{◌≡◌, ℕ, List, Option, Some, None, option_map, Box, Vec, Global, refl, ap, ◌∙◌}
use Rattle.schema_defs.specs.Schema.{Schema, Same, same_value, Lists, Named, Places}
use Rattle.schema_types.specs.View.{maybe_of, same_of, maybe_list, items_step, schema_step, array_step, members_step, object_step, subschemas_step, schema_view, subschemas_view, maybe_view, maybe_list_view}
use Rattle.schema_types.specs.declared.schema.Schema as tree
use Rattle.schema_types.specs.declared.schema.Items.TheShapes.{former-Subschemas-all_of, former-ArrayValidation-additional_items}
use Rattle.schema_types.specs.declared.schema.Subschemas.{Subschemas, out-Subschemas, fold_out-Subschemas}
use Rattle.enum_defs.specs.declared.KindSet.{KindSet}
use Rattle.enum_defs.specs.Kinds.{meet, kinds_of_same, kinds_of_all, kinds_of_some}

list_mapped : (o : Option (Vec tree.Schema Global)) → maybe_list (option_map (λ v. v.items) (former-Subschemas-all_of.map tree.Schema Schema schema_view o)) ≡ maybe_list_view (option_map (λ v. v.items) o)
list_mapped None = refl
list_mapped (Some v) = refl

maybe_mapped : (o : Option (Box tree.Schema Global)) → maybe_of (former-ArrayValidation-additional_items.map tree.Schema Schema schema_view o) ≡ maybe_view o
maybe_mapped None = refl
maybe_mapped (Some b) = refl

subschemas_view-out : (s : Subschemas) → subschemas_view s
    ≡ same_value (maybe_list_view (option_map (λ v. v.items) (out-Subschemas s).all_of)) (maybe_list_view (option_map (λ v. v.items) (out-Subschemas s).any_of)) (maybe_list_view (option_map (λ v. v.items) (out-Subschemas s).one_of)) (maybe_view (out-Subschemas s).not) (out-Subschemas s).conditional
subschemas_view-out s =
    let x = out-Subschemas s in
    fold_out-Subschemas Places Schema Lists Named Schema Same items_step schema_step array_step members_step object_step subschemas_step s
    ∙ (λ i. same_value (list_mapped x.all_of i) (list_mapped x.any_of i) (list_mapped x.one_of i) (maybe_mapped x.not i) x.conditional)

-- what subschemas leave open, list by list
pub same-out : (refer : List ℕ → KindSet) (o : Option Subschemas) (s : Subschemas) → o ≡ Some s → kinds_of_same refer (same_of (option_map subschemas_view o))
    ≡ meet (kinds_of_all refer (maybe_list_view (option_map (λ v. v.items) (out-Subschemas s).all_of))) (meet (kinds_of_some refer (maybe_list_view (option_map (λ v. v.items) (out-Subschemas s).any_of))) (kinds_of_some refer (maybe_list_view (option_map (λ v. v.items) (out-Subschemas s).one_of))))
same-out refer o s e = ap (λ p. kinds_of_same refer (same_of (option_map subschemas_view p))) e ∙ ap (kinds_of_same refer) (subschemas_view-out s)
