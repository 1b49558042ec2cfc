use Rattle.std.proofs.Common.{sym, ◌∙◌}
use Rattle.token_trees.specs.View.{name_view}
use Rattle.syntax_trees.specs.Item.{item_view}
use Rattle.attr_defs.specs.Texts.{lexed}
use Rattle.container_defs.specs.Model.{diagnostics_of}
use Rattle.derive_ast.proofs.laws.containers_read_alike.Goals as goal

pub returns-clause-told : goal.returns-clause-told
returns-clause-told g c = record {
  told = diagnostics_of lexed g.R.Renamer.variant_name g.R.Renamer.field_name (name_view c.args.private.now) (item_view c.args.item.now) c.args.derive;
  by_first = c.in_ok-one.ensures.told;
  by_second = c.in_ok-other.ensures.told;
}
