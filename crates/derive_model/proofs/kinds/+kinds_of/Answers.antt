use Rattle.model_defs.specs.Types.{types}
use Rattle.type_spellings.specs.Types.{array_of, number_of, tuple_of}
use Rattle.value_models.specs.ContainersView.{containers_in}
use Rattle.value_types.specs.RowView.{held, plain_view}
use Rattle.value_types.specs.ShapeView.{type_in, types_in}
use Rattle.derive_model.proofs.Asked.{read_as}
use Rattle.derive_model.proofs.kinds.+kinds_of.Goals as goal

pub returns-in-Plain : goal.returns-in-Plain
returns-in-Plain t c =
    let ms = containers_in c.args.table.now.containers in
    read_as ms (plain_view c.in-Plain.plain) (type_in c.args.ty.now) c.plain_kinds.result c.in-Plain.ensures (c.plain_kinds.ensures ms)

pub returns-in-Held : goal.returns-in-Held
returns-in-Held t c =
    let ms = containers_in c.args.table.now.containers in
    let inner = type_in c.in-Held.inner.now in
    read_as ms (held c.in-Held.holder inner) (type_in c.args.ty.now) c.held_kinds.result c.in-Held.ensures (c.held_kinds.ensures ms inner c.kinds_of.ensures)

pub returns-in-Tuple : goal.returns-in-Tuple
returns-in-Tuple t c =
    let ms = containers_in c.args.table.now.containers in
    read_as ms (tuple_of (types (types_in c.in-Tuple.parts.now))) (type_in c.args.ty.now) c.tuple_kinds.result c.in-Tuple.ensures (c.tuple_kinds.ensures ms)

pub returns-in-Array : goal.returns-in-Array
returns-in-Array t c =
    let ms = containers_in c.args.table.now.containers in
    let inner = type_in c.in-Array.field-0.now in
    read_as ms (array_of inner (number_of c.in-Array.digits.now)) (type_in c.args.ty.now) c.array_kinds.result c.in-Array.ensures (c.array_kinds.ensures ms inner)
