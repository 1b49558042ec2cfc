-- The references of the schemas that a schema holds, list by list.
use Rattle.std.proofs.Common.{◌≡◌, List, ℕ, ◌++◌, Bool, Option, Some, None, Vec, Global, Bor, map, option_map, append-nil, append_assoc, sym, ap, ◌∙◌}
use Rattle.std.specs.declared.boxed.Box.{Box}
use Rattle.schema_types.specs.declared.schema.Schema.{Schema}
use Rattle.schema_types.specs.declared.schema.Subschemas.{Subschemas, fold_out-Subschemas}
use Rattle.schema_types.specs.View.{items_step, schema_step, array_step, members_step, object_step, subschemas_step, subschemas_view, schemas_view, maybe_view, maybe_list_view}
use Rattle.schema_defs.specs.Schema as defs
use Rattle.schema_defs.specs.Schema.{schemas, Places, Lists, Named, Same}
use Rattle.schema_defs.specs.References.{references_of_same, references_of_list, references_of_maybe, references_of_all}

abbrev pub references_in : Option (Vec Schema Global) → List (List ℕ)
references_in o = references_of_list (maybe_list_view (option_map (λ v. v.items) o))

abbrev pub seen : Vec (Bor (List ℕ)) Global → List (List ℕ)
seen texts = map (λ t. t.now) texts.items

pub given : (old new : List (List ℕ)) (o : Option (Vec Schema Global)) (list : Vec Schema Global) → o ≡ Some list → new ≡ old ++ references_of_all (schemas (schemas_view list.items)) → new ≡ old ++ references_in o
given old new o list e h = h ∙ ap (λ o. old ++ references_in o) (sym e)

pub absent : (old new : List (List ℕ)) (o : Option (Vec Schema Global)) → o ≡ None → new ≡ old → new ≡ old ++ references_in o
absent old new o e h = h ∙ sym (append-nil old) ∙ ap (λ o. old ++ references_in o) (sym e)

abbrev parts : Bool → Option (Vec Schema Global) → Option (Vec Schema Global) → Option (Vec Schema Global) → Option (Box Schema Global) → Subschemas
parts k a b o n = record { all_of = a; any_of = b; one_of = o; not = n; conditional = k }

by_parts : (k : Bool) (a b o : Option (Vec Schema Global)) (n : Option (Box Schema Global))
    → references_of_same (subschemas_view (parts k a b o n)) ≡ references_in a ++ references_in b ++ references_in o ++ references_of_maybe (maybe_view n)
by_parts k None None None None =
    ap references_of_same (fold_out-Subschemas Places defs.Schema Lists Named defs.Schema Same items_step schema_step array_step members_step object_step subschemas_step (parts k None None None None))
by_parts k None None None (Some n) =
    ap references_of_same (fold_out-Subschemas Places defs.Schema Lists Named defs.Schema Same items_step schema_step array_step members_step object_step subschemas_step (parts k None None None (Some n)))
by_parts k None None (Some o) None =
    ap references_of_same (fold_out-Subschemas Places defs.Schema Lists Named defs.Schema Same items_step schema_step array_step members_step object_step subschemas_step (parts k None None (Some o) None))
by_parts k None None (Some o) (Some n) =
    ap references_of_same (fold_out-Subschemas Places defs.Schema Lists Named defs.Schema Same items_step schema_step array_step members_step object_step subschemas_step (parts k None None (Some o) (Some n)))
by_parts k None (Some b) None None =
    ap references_of_same (fold_out-Subschemas Places defs.Schema Lists Named defs.Schema Same items_step schema_step array_step members_step object_step subschemas_step (parts k None (Some b) None None))
by_parts k None (Some b) None (Some n) =
    ap references_of_same (fold_out-Subschemas Places defs.Schema Lists Named defs.Schema Same items_step schema_step array_step members_step object_step subschemas_step (parts k None (Some b) None (Some n)))
by_parts k None (Some b) (Some o) None =
    ap references_of_same (fold_out-Subschemas Places defs.Schema Lists Named defs.Schema Same items_step schema_step array_step members_step object_step subschemas_step (parts k None (Some b) (Some o) None))
by_parts k None (Some b) (Some o) (Some n) =
    ap references_of_same (fold_out-Subschemas Places defs.Schema Lists Named defs.Schema Same items_step schema_step array_step members_step object_step subschemas_step (parts k None (Some b) (Some o) (Some n)))
by_parts k (Some a) None None None =
    ap references_of_same (fold_out-Subschemas Places defs.Schema Lists Named defs.Schema Same items_step schema_step array_step members_step object_step subschemas_step (parts k (Some a) None None None))
by_parts k (Some a) None None (Some n) =
    ap references_of_same (fold_out-Subschemas Places defs.Schema Lists Named defs.Schema Same items_step schema_step array_step members_step object_step subschemas_step (parts k (Some a) None None (Some n)))
by_parts k (Some a) None (Some o) None =
    ap references_of_same (fold_out-Subschemas Places defs.Schema Lists Named defs.Schema Same items_step schema_step array_step members_step object_step subschemas_step (parts k (Some a) None (Some o) None))
by_parts k (Some a) None (Some o) (Some n) =
    ap references_of_same (fold_out-Subschemas Places defs.Schema Lists Named defs.Schema Same items_step schema_step array_step members_step object_step subschemas_step (parts k (Some a) None (Some o) (Some n)))
by_parts k (Some a) (Some b) None None =
    ap references_of_same (fold_out-Subschemas Places defs.Schema Lists Named defs.Schema Same items_step schema_step array_step members_step object_step subschemas_step (parts k (Some a) (Some b) None None))
by_parts k (Some a) (Some b) None (Some n) =
    ap references_of_same (fold_out-Subschemas Places defs.Schema Lists Named defs.Schema Same items_step schema_step array_step members_step object_step subschemas_step (parts k (Some a) (Some b) None (Some n)))
by_parts k (Some a) (Some b) (Some o) None =
    ap references_of_same (fold_out-Subschemas Places defs.Schema Lists Named defs.Schema Same items_step schema_step array_step members_step object_step subschemas_step (parts k (Some a) (Some b) (Some o) None))
by_parts k (Some a) (Some b) (Some o) (Some n) =
    ap references_of_same (fold_out-Subschemas Places defs.Schema Lists Named defs.Schema Same items_step schema_step array_step members_step object_step subschemas_step (parts k (Some a) (Some b) (Some o) (Some n)))

pub level : (s : Subschemas) → references_of_same (subschemas_view s) ≡ references_in s.all_of ++ references_in s.any_of ++ references_in s.one_of ++ references_of_maybe (maybe_view s.not)
level s = by_parts s.conditional s.all_of s.any_of s.one_of s.not

pub joined : (b f s t : List (List ℕ)) (w x y z : List (List ℕ)) {n : List (List ℕ)} → f ≡ b ++ w → s ≡ f ++ x → t ≡ s ++ y → n ≡ t ++ z → n ≡ b ++ (w ++ x ++ y ++ z)
joined b f s t w x y z e g h k =
    k ∙ ap (λ t. t ++ z) (h ∙ ap (λ s. s ++ y) (g ∙ ap (λ f. f ++ x) e)) ∙ ap (λ xs. xs ++ z) (ap (λ xs. xs ++ y) (append_assoc b w x) ∙ append_assoc b (w ++ x) y) ∙ append_assoc b (w ++ x ++ y) z
