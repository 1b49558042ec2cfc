-- The child that a child of the program stands for.
use Rattle.schema_types.specs.View.{schema_view}
use Rattle.schema_defs.specs.Children as defs
use Rattle.schema_loops.specs.declared.children.Child.{Child}

abbrev pub child_view : Child → defs.Child
child_view c = (c.steps, schema_view c.schema.now)
