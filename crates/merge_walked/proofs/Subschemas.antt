-- Subschemas, part by part.
use Rattle.std.proofs.Common.{◌≡◌, List, Option, Some, None, option_map, Box, Vec, Global, refl, sym, ap, ◌∙◌}
use Rattle.schema_defs.specs.Schema.{Schema, Same, same_value, MaybeSchemas, Lists, Named, Places}
use Rattle.schema_types.specs.View.{maybe_of, maybe_list, items_step, schema_step, array_step, members_step, object_step, subschemas_step, schema_view, subschemas_view, maybe_view, maybe_list_view}
use Rattle.schema_types.specs.declared.schema.Schema as tree
use Rattle.schema_types.specs.declared.schema.Items.TheShapes.{former-Subschemas-all_of, former-ArrayValidation-additional_items}
use Rattle.schema_types.specs.declared.schema.Subschemas.{Subschemas, out-Subschemas, fold_out-Subschemas}
use Rattle.merge_walks.specs.Carried.{Walk}
use Rattle.merge_walks.specs.Made.{walks_of_list, walks_of_maybe, walks_of_same}
use Rattle.merge_walked.specs.Longest.{longest_so}
use Rattle.merge_walked.proofs.Folded.{joined}

list_mapped : (o : Option (Vec tree.Schema Global)) → maybe_list (option_map (λ v. v.items) (former-Subschemas-all_of.map tree.Schema Schema schema_view o)) ≡ maybe_list_view (option_map (λ v. v.items) o)
list_mapped None = refl
list_mapped (Some v) = refl

maybe_mapped : (o : Option (Box tree.Schema Global)) → maybe_of (former-ArrayValidation-additional_items.map tree.Schema Schema schema_view o) ≡ maybe_view o
maybe_mapped None = refl
maybe_mapped (Some b) = refl

module _ (s : Subschemas) where
  abbrev pub all_of : MaybeSchemas
  all_of = maybe_list_view (option_map (λ v. v.items) (out-Subschemas s).all_of)

  abbrev pub any_of : MaybeSchemas
  any_of = maybe_list_view (option_map (λ v. v.items) (out-Subschemas s).any_of)

  abbrev pub one_of : MaybeSchemas
  one_of = maybe_list_view (option_map (λ v. v.items) (out-Subschemas s).one_of)

  pub subschemas_seen : subschemas_view s ≡ same_value all_of any_of one_of (maybe_view (out-Subschemas s).not) (out-Subschemas s).conditional
  subschemas_seen =
      let x = out-Subschemas s in
      fold_out-Subschemas Places Schema Lists Named Schema Same items_step schema_step array_step members_step object_step subschemas_step s
      ∙ (λ i. same_value (list_mapped x.all_of i) (list_mapped x.any_of i) (list_mapped x.one_of i) (maybe_mapped x.not i) x.conditional)

  -- the longest of the walks of the parts, one after the other
  pub longest_among : (a b c d : Option Walk) → a ≡ longest_so None (walks_of_list all_of) → b ≡ longest_so a (walks_of_list any_of) → c ≡ longest_so b (walks_of_list one_of)
      → d ≡ longest_so c (walks_of_maybe (maybe_view (out-Subschemas s).not)) → d ≡ longest_so None (walks_of_same (subschemas_view s))
  longest_among a b c d ha hb hc hd =
      hd ∙ ap (λ p. longest_so p (walks_of_maybe (maybe_view (out-Subschemas s).not))) (hc ∙ ap (λ p. longest_so p (walks_of_list one_of)) (hb ∙ ap (λ p. longest_so p (walks_of_list any_of)) ha))
      ∙ joined None (walks_of_list all_of) (walks_of_list any_of) (walks_of_list one_of) (walks_of_maybe (maybe_view (out-Subschemas s).not))
      ∙ sym (ap (λ t. longest_so None (walks_of_same t)) subschemas_seen)
