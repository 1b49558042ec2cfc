use Rattle.std.proofs.Common.{sym, ap, ◌∙◌}
use Rattle.value_models.specs.TypeView.{type_view, types_view}
use Rattle.value_writing.proofs.Lists.{view-Tuple}
use Rattle.example_values.specs.Shapes.{each_of, shape_of}
use Rattle.example_values.proofs.ShapeViews.{each_back}
use Rattle.example_values.proofs.leaves.shape_of.Goals as goal

pub returns-in-Tuple : goal.returns-in-Tuple
returns-in-Tuple c =
    ap (λ us. each_of (types_view us)) c.deref-in-Tuple.ensures.value
    ∙ ap each_of (sym (each_back (types_view c.in-Tuple.parts.items)))
    ∙ ap shape_of (sym (ap type_view c.in-Tuple.is ∙ view-Tuple c.in-Tuple.parts))
