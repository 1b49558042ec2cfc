-- The view of subschemas of the program, keyword by keyword, and which of them stands.
use Rattle.std.proofs.Common.{◌≡◌, ℕ, List, Bool, true, false, ◌&&◌, Option, Some, None, Box, Vec, Global, Bor, option_map, refl, sym, ap, ◌∙◌}
use Rattle.std.specs.Prelude.{option_copied, codes, if◌then◌else◌}
use Rattle.schema_defs.specs.Schema as defs
use Rattle.schema_defs.specs.Schema.{Same, same_value, Lists, Named, Places, MaybeSchema, MaybeSchemas, no_list, the_list, Schemas, Document}
use Rattle.schema_types.specs.View.{maybe_of, maybe_list, items_step, schema_step, array_step, members_step, object_step, subschemas_step, schema_view, subschemas_view, maybe_view, maybe_list_view}
use Rattle.schema_types.specs.declared.schema.Schema.{Schema}
use Rattle.schema_types.specs.declared.schema.Items.TheShapes.{former-Subschemas-all_of, former-ArrayValidation-additional_items}
use Rattle.schema_types.specs.declared.schema.Subschemas.{Subschemas, out-Subschemas, fold_out-Subschemas}
use Rattle.convert_defs.specs.Row.{Finding}
use Rattle.convert_defs.specs.Shapes.{members_from}
use Rattle.convert_defs.specs.Table.{all_of_finding, any_of_finding, one_of_finding}
use Rattle.row_findings.proofs.Seen.{seen}
use Rattle.subschema_rows.specs.Only.{by_all, by_any, by_one, by_not, is_missing, is_absent}

list_mapped : (o : Option (Vec Schema Global)) → maybe_list (option_map (λ v. v.items) (former-Subschemas-all_of.map Schema defs.Schema schema_view o)) ≡ maybe_list_view (option_map (λ v. v.items) o)
list_mapped None = refl
list_mapped (Some v) = refl

maybe_mapped : (o : Option (Box Schema Global)) → maybe_of (former-ArrayValidation-additional_items.map Schema defs.Schema schema_view o) ≡ maybe_view o
maybe_mapped None = refl
maybe_mapped (Some b) = refl

pub subschemas_seen : (s : Subschemas) → subschemas_view s
    ≡ same_value (maybe_list_view (option_map (λ v. v.items) (out-Subschemas s).all_of)) (maybe_list_view (option_map (λ v. v.items) (out-Subschemas s).any_of)) (maybe_list_view (option_map (λ v. v.items) (out-Subschemas s).one_of)) (maybe_view (out-Subschemas s).not) (out-Subschemas s).conditional
subschemas_seen s =
    let x = out-Subschemas s in
    fold_out-Subschemas Places defs.Schema Lists Named defs.Schema Same items_step schema_step array_step members_step object_step subschemas_step s
    ∙ (λ i. same_value (list_mapped x.all_of i) (list_mapped x.any_of i) (list_mapped x.one_of i) (maybe_mapped x.not i) x.conditional)

pub list_seen : (o : Option (Bor (Vec Schema Global))) (x : Option (Vec Schema Global)) → option_copied o ≡ x → maybe_list_view (option_map (λ v. v.now.items) o) ≡ maybe_list_view (option_map (λ v. v.items) x)
list_seen o x h = ap maybe_list_view (seen (λ (v : Vec Schema Global). v.items) o x h)

module _ (d : Document) (name : List ℕ) where
  pub all_there : (a b c : MaybeSchemas) (n : MaybeSchema) (ss : Schemas) (t : Bool) (f : Finding) → the_list ss ≡ a → t ≡ (is_missing b && is_missing c && is_absent n) → t ≡ true → f ≡ all_of_finding (members_from (codes "allOf") 0 ss) → Some f ≡ by_all d name a b c n
  all_there a b c n ss t f h e u g = ap Some g ∙ sym (λ i. if (sym e ∙ u) i then Some (all_of_finding (members_from (codes "allOf") 0 ss)) else None) ∙ ap (λ x. by_all d name x b c n) h

  pub all_crowded : (a b c : MaybeSchemas) (n : MaybeSchema) (ss : Schemas) (t : Bool) → the_list ss ≡ a → t ≡ (is_missing b && is_missing c && is_absent n) → t ≡ false → None ≡ by_all d name a b c n
  all_crowded a b c n ss t h e u = sym (λ i. if (sym e ∙ u) i then Some (all_of_finding (members_from (codes "allOf") 0 ss)) else None) ∙ ap (λ x. by_all d name x b c n) h

  pub any_there : (b c : MaybeSchemas) (n : MaybeSchema) (ss : Schemas) (t : Bool) (f : Finding) → the_list ss ≡ b → t ≡ (is_missing c && is_absent n) → t ≡ true → f ≡ any_of_finding d name (members_from (codes "anyOf") 0 ss) → Some f ≡ by_any d name b c n
  any_there b c n ss t f h e u g = ap Some g ∙ sym (λ i. if (sym e ∙ u) i then Some (any_of_finding d name (members_from (codes "anyOf") 0 ss)) else None) ∙ ap (λ x. by_any d name x c n) h

  pub any_crowded : (b c : MaybeSchemas) (n : MaybeSchema) (ss : Schemas) (t : Bool) → the_list ss ≡ b → t ≡ (is_missing c && is_absent n) → t ≡ false → None ≡ by_any d name b c n
  any_crowded b c n ss t h e u = sym (λ i. if (sym e ∙ u) i then Some (any_of_finding d name (members_from (codes "anyOf") 0 ss)) else None) ∙ ap (λ x. by_any d name x c n) h

  pub one_there : (c : MaybeSchemas) (n : MaybeSchema) (ss : Schemas) (t : Bool) (f : Finding) → the_list ss ≡ c → t ≡ is_absent n → t ≡ true → f ≡ one_of_finding d name (members_from (codes "oneOf") 0 ss) → Some f ≡ by_one d name c n
  one_there c n ss t f h e u g = ap Some g ∙ sym (λ i. if (sym e ∙ u) i then Some (one_of_finding d name (members_from (codes "oneOf") 0 ss)) else None) ∙ ap (λ x. by_one d name x n) h

  pub one_crowded : (c : MaybeSchemas) (n : MaybeSchema) (ss : Schemas) (t : Bool) → the_list ss ≡ c → t ≡ is_absent n → t ≡ false → None ≡ by_one d name c n
  one_crowded c n ss t h e u = sym (λ i. if (sym e ∙ u) i then Some (one_of_finding d name (members_from (codes "oneOf") 0 ss)) else None) ∙ ap (λ x. by_one d name x n) h
