use Rattle.std.proofs.Common.{arith, sym, ◌∙◌}
use Rattle.std.proofs.lemmas.Grind.{common_steps}
use Rattle.schema_tree.proofs.KeptNames.{spells_past}
use Rattle.schema_tree.proofs.name.is_identifier.Goals as goal

pub returns-then-begins_identifier : goal.returns-then-begins_identifier
returns-then-begins_identifier c =
    grind (arith, common_steps, spells_past c.args.name.now _ c.in-Some.first c.utf8.name (sym c.chars-rest.ensures.rest ∙ c.in-Some.ensures.steps.0))
