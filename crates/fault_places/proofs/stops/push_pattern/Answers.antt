use Rattle.std.proofs.Common.{◌++◌, string_bytes, ap, ◌∙◌}
use Rattle.fault_places.specs.Stops.{lines_by}
use Rattle.fault_places.proofs.stops.push_pattern.Goals as goal

pub returns : goal.returns
returns c = c.in_ok-push_found.ensures ∙ ap (λ o. string_bytes c.args.out.now ++ lines_by c.args.pattern.now o) c.in_ok-found.ensures
