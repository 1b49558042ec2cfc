-- Reading stops where the definition says, whatever numbers the stated defaults hold: they are written as what is read of them.
use Rattle.std.proofs.Common.{◌≡◌, ℕ, List, [], length, Bool, true}
use Rattle.schema_defs.specs.Location.{Location}
use Rattle.model_defs.specs.Types.{TypeModel}
use Rattle.model_defs.specs.Model.{stated_default}
use Rattle.model_defs.specs.Reads.{reads}
use Rattle.model_defs.specs.Refusals.{refused_at}
use Rattle.typed_defs.specs.Typed.{Typed}
use Rattle.reading_defs.specs.Reading.{Read, taken, stopped, unsound, default_inside, reading}
use Rattle.reading_defs.specs.Laws.{is_taken, is_sound}
use Rattle.reading_defs.proofs.Levels.{found_good}
use Rattle.reading_defs.proofs.Values.{value_agrees}
use Rattle.reading_defs.proofs.Agree.{Agrees}
use Rattle.stopping_laws.specs.Laws.{IsStop, ReadingStops}
use Rattle.stopping_laws.proofs.Goods.{put_default, field_good}

of_agrees : (P : Typed → Type 0) (b : Bool) (l : Location) (a : Read Typed) → Agrees ⊥ b l P a → IsStop b l a
of_agrees P b l (taken x) g = g.0
of_agrees P b l (stopped m) g = g
of_agrees P b l unsound g = g

pub reading_stops : ReadingStops
reading_stops models cs r p t v h =
    let q = default_inside models cs r (length cs.defaults) [] in
    let is : (n : ℕ) (s : TypeModel) → is_sound models cs r s (stated_default n) ≡ true → is_taken (q n s) ≡ true = λ n s e. e in
    let good = λ (n : List ℕ). found_good models cs r ⊥ (put_default models cs r q is) q (field_good models cs r q is) n models p.fit p.sound p.shapes p.rules in
    of_agrees _ (reads models cs r t v) (refused_at models cs r t v) (reading models cs r t v) ((value_agrees models cs r ⊥ (put_default models cs r q is) q good v h).as_type t)
