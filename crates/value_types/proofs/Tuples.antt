-- Tuples: as they are read, and as they are written.
use Rattle.std.proofs.Common.{◌≡◌, List, [], ◌∷◌, map, length, false, ◌==◌, Vec, Global, refl, sym, ap, ◌∙◌}
use Rattle.syntax_trees.specs.Syntax.{TyD, ty_tuple, tys_of, PathD, SegmentD, ArgumentsD, GenericD, QSelfD, ExprD, ExprPathD, BoundD}
use Rattle.syntax_trees.specs.View.{ty, bound_step, expr_step, generic_step, arguments_step, ty_step, expr_path_step, path_step, segment_step, qself_step}
use Rattle.syntax_trees.specs.declared.tree.Bound.TheOpen.{Ty-F}
use Rattle.syntax_trees.specs.declared.tree.Ty.{Ty, fold-roll-Ty}
use Rattle.syntax_trees.specs.declared.tree.Ty.TheVariants as tys
use Rattle.type_spellings.specs.Types.{tuple_of, type_of}
use Rattle.model_defs.specs.Types.{TypeModel, tuple_type, types}
use Rattle.value_types.specs.ShapeView.{types_in}
use Rattle.value_types.proofs.Arguments.{tuple_parts}
use Rattle.value_models.specs.TypeView.{type_view, types_view, type_step}
use Rattle.value_models.specs.declared.value_type.ValueType.{ValueType, fold-roll-ValueType}
use Rattle.value_models.specs.declared.value_type.ValueType.TheVariants as variants
use Rattle.value_models.specs.declared.value_type.ValueType.TheOpen.{ValueType-F}

tuple_view : (ts : Vec ValueType Global) → type_view (variants.Tuple ts) ≡ tuple_type (types (types_view ts.items))
tuple_view ts = ap type_view (sym (variants.rolls-Tuple ts)) ∙ fold-roll-ValueType TypeModel type_step (ValueType-F.Tuple ts)

some : (ts : List ValueType) → false ≡ (length ts == 0) → tuple_type (types (types_view ts)) ≡ tuple_of (types (types_view ts))
some [] h = cc
some (t ∷ ts) h = refl

pub several : (ts : Vec ValueType Global) → false ≡ (length ts.items == 0) → type_view (variants.Tuple ts) ≡ tuple_of (types (types_view ts.items))
several ts h = tuple_view ts ∙ some ts.items h

ty_tuple_view : (ts : Vec Ty Global) → ty (tys.Tuple ts) ≡ ty_tuple (tys_of (map ty ts.items))
ty_tuple_view ts = ap ty (sym (tys.rolls-Tuple ts)) ∙ fold-roll-Ty BoundD ExprD GenericD ArgumentsD TyD ExprPathD PathD SegmentD QSelfD bound_step expr_step generic_step arguments_step ty_step expr_path_step path_step segment_step qself_step (Ty-F.Tuple ts)

pub tuple_read : (t : Ty) (ts : Vec Ty Global) → t ≡ tys.Tuple ts → tuple_of (types (types_in ts.items)) ≡ type_of (ty t)
tuple_read t ts e = tuple_parts ts.items ∙ sym (ap (λ u. type_of (ty u)) e ∙ ap type_of (ty_tuple_view ts))
