use Rattle.std.proofs.Common.{◌∙◌, Some, ap, sym, option_map}
use Rattle.schema_types.specs.DocumentView.{placed_view}
use Rattle.schema_types.specs.View.{schema_view}
use Rattle.schema_types.proofs.References.{located, not_located}
use Rattle.schema_types.proofs.document.Document.named_location.Goals as goal

pub returns-in_ok-definition_place-in-Some : goal.returns-in_ok-definition_place-in-Some
returns-in_ok-definition_place-in-Some c =
    ap Some c.in_ok-definition_place-in-Some.ensures
    ∙ located c.args.name.now _ c.in-Some.definition.now.under_defs (schema_view c.in-Some.definition.now.schema) (sym (ap (option_map (λ d. placed_view d.now)) c.in-Some.is) ∙ c.placed.ensures)

pub returns-in-None : goal.returns-in-None
returns-in-None c = not_located _ (sym (ap (option_map (λ d. placed_view d.now)) c.in-None.is) ∙ c.placed.ensures)
