use Rattle.std.proofs.Common.{ap, ◌∙◌}
use Rattle.type_spellings.specs.Types.{tuple_of}
use Rattle.model_defs.specs.Types.{types}
use Rattle.value_types.specs.ShapeView.{types_in}
use Rattle.value_types.proofs.Tuples.{tuple_read}
use Rattle.value_types.proofs.shape.shape_of.Goals as goal

pub returns-in-Tuple : goal.returns-in-Tuple
returns-in-Tuple c =
    ap (λ ts. tuple_of (types (types_in ts))) c.deref-in-Tuple.ensures.value ∙ tuple_read c.args.ty.now c.in-Tuple.elems c.in-Tuple.is
