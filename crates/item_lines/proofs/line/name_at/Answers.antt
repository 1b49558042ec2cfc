use Rattle.std.proofs.Common.{Some, option_map, ap, ◌∙◌}
use Rattle.syntax_trees.specs.Item.{ItemD}
use Rattle.item_lines.proofs.line.name_at.Goals as goal

pub returns-in-Some : goal.returns-in-Some
returns-in-Some c = ap Some c.as_str.ensures.value ∙ ap (option_map (λ (d : ItemD). d.name.text)) c.in-Some.ensures
