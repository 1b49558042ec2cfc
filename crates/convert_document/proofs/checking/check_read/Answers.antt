use Rattle.std.proofs.Common.{ap, option_map}
use Rattle.convert_trees.specs.Keeping.{unread_view}
use Rattle.convert_document.proofs.checking.check_read.Goals as goal

pub returns-in-Some-clause-told : goal.returns-in-Some-clause-told
returns-in-Some-clause-told c = (unread_view c.in-Some.unread, ap (option_map unread_view) c.in-Some.is, c.invalid.ensures)
