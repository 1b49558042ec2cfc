use Rattle.std.proofs.Common.{◌∙◌, ap, option_map}
use Rattle.schema_types.proofs.Properties.{node_of, property-lookup}
use Rattle.schema_types.proofs.place.after_names.Goals as goal

pub returns-in-Some : goal.returns-in-Some
returns-in-Some c = ap (option_map node_of) c.in-Some.ensures.value ∙ property-lookup c.args.step.now c.args.names.now.entries

pub returns-in-None : goal.returns-in-None
returns-in-None c = ap (option_map node_of) c.in-None.ensures.value ∙ property-lookup c.args.step.now c.args.names.now.entries
