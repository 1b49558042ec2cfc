-- Arguments in angle brackets, and the parts of tuples.
use Rattle.std.proofs.Common.{◌≡◌, ◌≤◌, List, [], ◌∷◌, map, length, false, Option, Some, None, refl, sym, ap, ◌∙◌, arith}
use Rattle.std.specs.Prelude.{if◌then◌else◌}
use Rattle.syntax_trees.specs.Syntax.{TyD, tys_of, GenericD, arg_lifetime, arg_ty, arg_const, arg_assoc_ty, arg_assoc_const, arg_constraint, Generics, end_generics, more_generics, generics_of, angle}
use Rattle.syntax_trees.specs.View.{ty, generic_view}
use Rattle.syntax_trees.specs.declared.tree.Ty.{Ty}
use Rattle.syntax_trees.specs.declared.tree.GenericArgument.{GenericArgument}
use Rattle.type_spellings.specs.Types.{type_of, tuple_of, Arguments, utc_given, others_given, is_utc_alone, given, and_then}
use Rattle.model_defs.specs.Types.{TypeModel, types, type_then}
use Rattle.value_types.specs.Levels as levels
use Rattle.value_types.specs.Levels.{generic_model, generic_models, arguments_model, tuple_models}
use Rattle.value_types.specs.ShapeView.{type_in, types_in, few, two_given}

-- the same clauses
pub same_type : (t : TyD) → levels.type_of t ≡ type_of t
same_type t = refl

several_are_not_utc : (g h : GenericD) (gs : Generics) → is_utc_alone (more_generics g (more_generics h gs)) ≡ false
several_are_not_utc (arg_lifetime l) h gs = refl
several_are_not_utc (arg_ty t) h gs = refl
several_are_not_utc (arg_const e) h gs = refl
several_are_not_utc (arg_assoc_ty n t) h gs = refl
several_are_not_utc (arg_assoc_const n e) h gs = refl
several_are_not_utc (arg_constraint n bs) h gs = refl

two_few : (o p : Option TypeModel) → few (given (and_then o (and_then p (Some [])))) ≡ two_given o p
two_few None None = refl
two_few None (Some u) = refl
two_few (Some t) None = refl
two_few (Some t) (Some u) = refl

three_few : (o p q : Option TypeModel) (r : Option (List TypeModel)) → few (given (and_then o (and_then p (and_then q r)))) ≡ others_given
three_few None p q r = refl
three_few (Some t) None q r = refl
three_few (Some t) (Some u) None r = refl
three_few (Some t) (Some u) (Some v) None = refl
three_few (Some t) (Some u) (Some v) (Some ts) = refl

abbrev pub bracketed : List GenericArgument → Arguments
bracketed gs = few (arguments_model (angle false (generics_of (map generic_view gs))))

pub two_in_brackets : (g h : GenericArgument) → two_given (generic_model (generic_view g)) (generic_model (generic_view h)) ≡ bracketed (g ∷ h ∷ [])
two_in_brackets g h =
    let o = generic_model (generic_view g) in
    let p = generic_model (generic_view h) in
    sym (two_few o p) ∙ ap (λ b. few (if b then utc_given else given (and_then o (and_then p (Some []))))) (sym (several_are_not_utc (generic_view g) (generic_view h) end_generics))

pub many_in_brackets : (gs : List GenericArgument) → 3 ≤ length gs → bracketed gs ≡ others_given
many_in_brackets [] h = absurd (omega arith)
many_in_brackets (g ∷ []) h = absurd (omega arith)
many_in_brackets (g ∷ k ∷ []) h = absurd (omega arith)
many_in_brackets (g ∷ k ∷ l ∷ gs) h =
    let o = generic_model (generic_view g) in
    let p = generic_model (generic_view k) in
    let q = generic_model (generic_view l) in
    let r = generic_models (generics_of (map generic_view gs)) in
    ap (λ b. few (if b then utc_given else given (and_then o (and_then p (and_then q r))))) (several_are_not_utc (generic_view g) (generic_view k) (generics_of (map generic_view (l ∷ gs))))
    ∙ three_few o p q r

parts_listed : (ts : List Ty) → tuple_models (tys_of (map ty ts)) ≡ types (types_in ts)
parts_listed [] = refl
parts_listed (t ∷ ts) = ap (type_then (type_in t)) (parts_listed ts)

pub tuple_parts : (ts : List Ty) → tuple_of (types (types_in ts)) ≡ tuple_of (tuple_models (tys_of (map ty ts)))
tuple_parts ts = ap tuple_of (sym (parts_listed ts))
