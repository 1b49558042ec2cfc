-- What the value of a type is made of.
use Rattle.std.specs.Prelude.{ℕ, List}
use Rattle.model_defs.specs.Types.{TypeModel, boxed_type, tuple_type, array_type, item_type, types_of}
use Rattle.value_models.specs.TypeView.{type_view, types_view}
use Rattle.example_values.specs.declared.leaves.Shape.{Shape}
use Rattle.example_values.specs.declared.leaves.Shape.TheVariants as shapes

pub data ShapeD : Type 0 where
  -- no other value
  a_leaf : ShapeD
  -- that of another type
  same_as : TypeModel → ShapeD
  -- those of types one after another
  each_of : List TypeModel → ShapeD
  -- so many of one type
  copies_of : TypeModel → ℕ → ShapeD
  -- that of the item of that name
  of_item : List ℕ → ShapeD

abbrev pub shape_of : TypeModel → ShapeD
shape_of (boxed_type t) = same_as t
shape_of (tuple_type ts) = each_of (types_of ts)
shape_of (array_type t n) = copies_of t n
shape_of (item_type n) = of_item n
shape_of _ = a_leaf

abbrev pub shape_view : Shape → ShapeD
shape_view shapes.Leaf = a_leaf
shape_view (shapes.Same t) = same_as (type_view t.now)
shape_view (shapes.Each ts) = each_of (types_view ts.now)
shape_view (shapes.Copies t n) = copies_of (type_view t.now) n
shape_view (shapes.Item n) = of_item n.now
