use Rattle.std.proofs.Common.{◌≡◌, [], ◌∷◌, ◌++◌, ap, sym, ◌∙◌, arith}
use Rattle.schema_defs.specs.Location.{place}
use Rattle.schema_defs.proofs.Places.{places_differ}
use Rattle.schema_loops.proofs.children.steps_to.Goals as goal

pub returns : goal.returns
returns c =
    let written : c.deref.result.now ≡ place c.args.i = c.deref.ensures ∙ c.in_ok-step.ensures.ok ∙ sym (places_differ.1 c.args.i (omega arith)) in
    c.in_ok-steps.ensures ∙ ap (λ k. c.in_ok-keyword.keyword ++ k ∷ []) written ∙ ap (λ l. l ++ place c.args.i ∷ []) (c.in_ok-keyword.ensures ∙ ap (λ l. l ++ c.args.keyword.now ∷ []) c.root.ensures)
