use Rattle.std.proofs.Common.{◌≡◌, ℕ, ◌<◌, map}
use Rattle.model_defs.specs.Model.{ConversionsD}
use Rattle.value_models.specs.ContainersView.{containers_in}
use Rattle.example_values.specs.Known.{gives}
use Rattle.example_values.proofs.Settled.{Stays}
use Rattle.example_values.proofs.counting.are_settled.Given as goal

abbrev pub invariant-loop-place : goal.invariant-loop-place
invariant-loop-place l =
    (cs : ConversionsD) → l.given ≡ map (gives (containers_in l.places.containers.now) cs) (containers_in l.places.containers.now)
    → (i : ℕ) → i < l.place → Stays (containers_in l.places.containers.now) l.rounds cs i
