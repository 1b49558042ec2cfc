use Rattle.syntax_trees.specs.Item.{field_view}
use Rattle.attr_defs.specs.Members.{field_diagnostics}
use Rattle.attr_defs.specs.Texts.{lexed}
use Rattle.derive_attr.specs.FieldView.{handed_view}
use Rattle.derive_attr.proofs.laws.fields_read_alike.Goals as goal

pub returns-clause-told : goal.returns-clause-told
returns-clause-told c = record { told = field_diagnostics lexed (field_view c.args.field.now) c.args.index (handed_view c.args.attrs); by_first = c.in_ok-one.ensures.told; by_second = c.in_ok-other.ensures.told }
