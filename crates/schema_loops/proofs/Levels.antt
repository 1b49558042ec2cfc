-- The schemas inside a schema that judge the same value, list by list.
use Rattle.std.proofs.Common.{◌≡◌, List, [], ◌++◌, Bool, Option, Some, None, Vec, Global, option_map, ap, ◌∙◌}
use Rattle.std.specs.Prelude.{codes}
use Rattle.std.specs.declared.boxed.Box.{Box}
use Rattle.schema_types.specs.declared.schema.Schema.{Schema}
use Rattle.schema_types.specs.declared.schema.Subschemas.{Subschemas, fold_out-Subschemas}
use Rattle.schema_types.specs.View.{items_step, schema_step, array_step, members_step, object_step, subschemas_step, subschemas_view, maybe_view, maybe_list_view}
use Rattle.schema_defs.specs.Location.{Step}
use Rattle.schema_defs.specs.Schema as defs
use Rattle.schema_defs.specs.Schema.{schemas, Places, Lists, Named, Same}
use Rattle.schema_defs.specs.Children.{Child, children_of_same, children_of_list, children_of_maybe}

abbrev pub listed : Step → Option (Vec Schema Global) → List Child
listed k o = children_of_list k (maybe_list_view (option_map (λ v. v.items) o))

abbrev parts : Bool → Option (Vec Schema Global) → Option (Vec Schema Global) → Option (Vec Schema Global) → Option (Box Schema Global) → Subschemas
parts k a b o n = record { all_of = a; any_of = b; one_of = o; not = n; conditional = k }

by_parts : (k : Bool) (a b o : Option (Vec Schema Global)) (n : Option (Box Schema Global))
    → children_of_same (subschemas_view (parts k a b o n)) ≡ listed (codes "allOf") a ++ listed (codes "anyOf") b ++ listed (codes "oneOf") o ++ children_of_maybe (codes "not") (maybe_view n)
by_parts k None None None None =
    ap children_of_same (fold_out-Subschemas Places defs.Schema Lists Named defs.Schema Same items_step schema_step array_step members_step object_step subschemas_step (parts k None None None None))
by_parts k None None None (Some n) =
    ap children_of_same (fold_out-Subschemas Places defs.Schema Lists Named defs.Schema Same items_step schema_step array_step members_step object_step subschemas_step (parts k None None None (Some n)))
by_parts k None None (Some o) None =
    ap children_of_same (fold_out-Subschemas Places defs.Schema Lists Named defs.Schema Same items_step schema_step array_step members_step object_step subschemas_step (parts k None None (Some o) None))
by_parts k None None (Some o) (Some n) =
    ap children_of_same (fold_out-Subschemas Places defs.Schema Lists Named defs.Schema Same items_step schema_step array_step members_step object_step subschemas_step (parts k None None (Some o) (Some n)))
by_parts k None (Some b) None None =
    ap children_of_same (fold_out-Subschemas Places defs.Schema Lists Named defs.Schema Same items_step schema_step array_step members_step object_step subschemas_step (parts k None (Some b) None None))
by_parts k None (Some b) None (Some n) =
    ap children_of_same (fold_out-Subschemas Places defs.Schema Lists Named defs.Schema Same items_step schema_step array_step members_step object_step subschemas_step (parts k None (Some b) None (Some n)))
by_parts k None (Some b) (Some o) None =
    ap children_of_same (fold_out-Subschemas Places defs.Schema Lists Named defs.Schema Same items_step schema_step array_step members_step object_step subschemas_step (parts k None (Some b) (Some o) None))
by_parts k None (Some b) (Some o) (Some n) =
    ap children_of_same (fold_out-Subschemas Places defs.Schema Lists Named defs.Schema Same items_step schema_step array_step members_step object_step subschemas_step (parts k None (Some b) (Some o) (Some n)))
by_parts k (Some a) None None None =
    ap children_of_same (fold_out-Subschemas Places defs.Schema Lists Named defs.Schema Same items_step schema_step array_step members_step object_step subschemas_step (parts k (Some a) None None None))
by_parts k (Some a) None None (Some n) =
    ap children_of_same (fold_out-Subschemas Places defs.Schema Lists Named defs.Schema Same items_step schema_step array_step members_step object_step subschemas_step (parts k (Some a) None None (Some n)))
by_parts k (Some a) None (Some o) None =
    ap children_of_same (fold_out-Subschemas Places defs.Schema Lists Named defs.Schema Same items_step schema_step array_step members_step object_step subschemas_step (parts k (Some a) None (Some o) None))
by_parts k (Some a) None (Some o) (Some n) =
    ap children_of_same (fold_out-Subschemas Places defs.Schema Lists Named defs.Schema Same items_step schema_step array_step members_step object_step subschemas_step (parts k (Some a) None (Some o) (Some n)))
by_parts k (Some a) (Some b) None None =
    ap children_of_same (fold_out-Subschemas Places defs.Schema Lists Named defs.Schema Same items_step schema_step array_step members_step object_step subschemas_step (parts k (Some a) (Some b) None None))
by_parts k (Some a) (Some b) None (Some n) =
    ap children_of_same (fold_out-Subschemas Places defs.Schema Lists Named defs.Schema Same items_step schema_step array_step members_step object_step subschemas_step (parts k (Some a) (Some b) None (Some n)))
by_parts k (Some a) (Some b) (Some o) None =
    ap children_of_same (fold_out-Subschemas Places defs.Schema Lists Named defs.Schema Same items_step schema_step array_step members_step object_step subschemas_step (parts k (Some a) (Some b) (Some o) None))
by_parts k (Some a) (Some b) (Some o) (Some n) =
    ap children_of_same (fold_out-Subschemas Places defs.Schema Lists Named defs.Schema Same items_step schema_step array_step members_step object_step subschemas_step (parts k (Some a) (Some b) (Some o) (Some n)))

pub level : (s : Subschemas) → children_of_same (subschemas_view s) ≡ listed (codes "allOf") s.all_of ++ listed (codes "anyOf") s.any_of ++ listed (codes "oneOf") s.one_of ++ children_of_maybe (codes "not") (maybe_view s.not)
level s = by_parts s.conditional s.all_of s.any_of s.one_of s.not

pub joined : (b f s t n w x y z : List Child) → b ≡ [] → f ≡ b ++ w → s ≡ f ++ x → t ≡ s ++ y → n ≡ t ++ z → n ≡ w ++ x ++ y ++ z
joined b f s t n w x y z a e g h k =
    k ∙ ap (λ t. t ++ z) (h ∙ ap (λ s. s ++ y) (g ∙ ap (λ f. f ++ x) (e ∙ ap (λ b. b ++ w) a)))
