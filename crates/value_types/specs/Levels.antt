-- The type that a syntax tree spells, each level by its name: the clauses of `type_of` in model_defs, which names only the whole.
use Rattle.std.specs.Prelude.{List, [], ◌∷◌, true, false, Option, Some, None, if◌then◌else◌}
use Rattle.syntax_trees.specs.Syntax.{TyD, ty_array, ty_tuple, ty_path, PathD, path, SegmentD, segment, ArgumentsD, no_arguments, angle, parens, GenericD, arg_ty, no_qself, Tys, end_tys, more_tys, Segments, end_segments, more_segments, Generics, end_generics, more_generics}
use Rattle.type_spellings.specs.Types.{Arguments, none_given, others_given, utc_given, given, is_utc_alone, Segment, path_type, tuple_of, array_of, literal_number, and_then}
use Rattle.model_defs.specs.Types.{TypeModel, outside_type, TypeModels, no_types, type_then}

-- the type that a syntax tree spells
abbrev mutual
  pub type_of : TyD → TypeModel
  type_of (ty_path no_qself p) = path_model p
  type_of (ty_tuple ts) = tuple_of (tuple_models ts)
  type_of (ty_array t e) = array_of (type_of t) (literal_number e)
  type_of _ = outside_type

  pub path_model : PathD → TypeModel
  path_model (path leading ss) = path_type leading (segment_models ss)

  pub segment_models : Segments → List Segment
  segment_models end_segments = []
  segment_models (more_segments s ss) = segment_model s ∷ segment_models ss

  pub segment_model : SegmentD → Segment
  segment_model (segment n a) = record { name = n.text; arguments = arguments_model a }

  pub arguments_model : ArgumentsD → Arguments
  arguments_model no_arguments = none_given
  arguments_model (angle true gs) = others_given
  arguments_model (angle false gs) = if is_utc_alone gs then utc_given else given (generic_models gs)
  arguments_model (parens ts o) = others_given

  pub generic_models : Generics → Option (List TypeModel)
  generic_models end_generics = Some []
  generic_models (more_generics g gs) = and_then (generic_model g) (generic_models gs)

  pub generic_model : GenericD → Option TypeModel
  generic_model (arg_ty t) = Some (type_of t)
  generic_model _ = None

  pub tuple_models : Tys → TypeModels
  tuple_models end_tys = no_types
  tuple_models (more_tys t ts) = type_then (type_of t) (tuple_models ts)
