use Rattle.std.proofs.Common.{◌∙◌, ap, option_map}
use Rattle.schema_types.specs.DocumentView.{placed_view}
use Rattle.schema_types.proofs.References.{placed_of_ref, placed-lookup}
use Rattle.schema_types.proofs.document.Document.placed.Goals as goal

pub returns : goal.returns
returns c =
    placed_of_ref c.get.result ∙ ap (option_map placed_view) c.get.ensures.value
    ∙ placed-lookup c.args.name.now c.args.self.now.definitions.entries
