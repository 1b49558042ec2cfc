use Rattle.std.proofs.Common.{sym, ◌∙◌}
use Rattle.schema_tree.proofs.FirstPlaces.{none_is_first}
use Rattle.schema_tree.proofs.document.check_numbers.Goals as goal

pub returns-in-Ok-None-clause-fine : goal.returns-in-Ok-None-clause-fine
returns-in-Ok-None-clause-fine c = (c.requires, none_is_first _ (sym c.in-Ok-None.field-0-is ∙ c.in-Ok-None.ensures))
