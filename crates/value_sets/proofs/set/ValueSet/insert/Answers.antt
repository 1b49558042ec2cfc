use Rattle.std.proofs.Common.{◌∷◌, [], ◌++◌, map, ap, ◌∙◌}
use Rattle.std.proofs.lemmas.List.{map-append}
use Rattle.json_value.specs.View.{kept_view}
use Rattle.value_sets.proofs.Put.{put}
use Rattle.value_sets.proofs.set.ValueSet.insert.Goals as goal

pub returns : goal.returns
returns c =
    put c.args.self.now.by_key c.remove.new.self c.insert.new.self c.remove.result c.args.value c.push.new.self c.key_with-key.result c.key_with-key.ensures c.remove.ensures.updates.0 c.in_ok-insert.ensures.updates.0 c.remove.ensures.value
    (ap (map kept_view) c.in_ok-push.ensures.items ∙ map-append kept_view c.or_none-values.result.items (c.args.value ∷ []) ∙ ap (λ vs. vs ++ kept_view c.args.value ∷ []) c.or_none-values.ensures)
