use Rattle.std.proofs.Common.{◌≡◌, ℕ, List, ◌∷◌, subst, sym, ◌∙◌, arith}
use Rattle.std.specs.Prelude.{IfOk}
use Rattle.schema_defs.specs.Location.{place}
use Rattle.schema_defs.proofs.Places.{places_differ}
use Rattle.schema_faults.proofs.found.Found.under_place.Goals as goal

pub returns : goal.returns
returns c =
    let written : c.deref.result.now ≡ place c.args.place = c.deref.ensures ∙ c.in_ok-step.ensures.ok ∙ sym (places_differ.1 c.args.place (omega arith)) in
    subst (λ (k : List ℕ). IfOk c.under.result (λ f. f ≡ (k ∷ c.args.self.0, c.args.self.1))) written c.under.ensures
