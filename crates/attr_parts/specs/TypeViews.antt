-- What the program's answers about types stand for.
use Rattle.syntax_trees.specs.View.{ty, path_view}
use Rattle.attr_parts.specs.declared.types.Shape.{Shape}
use Rattle.attr_parts.specs.declared.types.Shape.TheVariants as shapes
use Rattle.attr_parts.specs.Types.{ShapeD, group_of, path_of, slice_of, reference_of, another}

abbrev pub shape_view : Shape → ShapeD
shape_view (shapes.Group t) = group_of (ty t.now)
shape_view (shapes.Path q p) = path_of q (path_view p.now)
shape_view (shapes.Slice t) = slice_of (ty t.now)
shape_view (shapes.Reference m t) = reference_of m (ty t.now)
shape_view shapes.Other = another
