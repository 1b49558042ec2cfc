use Rattle.std.proofs.Common.{[], ◌∷◌, ◌++◌, map, ap, sym, ◌∙◌}
use Rattle.std.proofs.lemmas.List.{map-append}
use Rattle.syntax_trees.specs.Item.{field_view}
use Rattle.syntax_trees.specs.View.{ty}
use Rattle.emit_trees.proofs.Unnamed.{unnamed_seen}
use Rattle.emit_trees.proofs.fields.unnamed_fields.Goals as goal

pub loop-inner-preserved : goal.loop-inner-preserved
loop-inner-preserved c =
    ap (map field_view) c.in_ok-push.ensures.items
    ∙ map-append field_view c.loop-inner.fields.items (c.unnamed_field.result ∷ [])
    ∙ (λ i. c.loop-inner.invariant i ++ (c.unnamed_field.ensures i ∷ []))
    ∙ sym (unnamed_seen ty c.loop-inner.yielded c.in-Some.inner)
