-- A settled value is read as the value that settles to it.
use Rattle.std.proofs.Common.{◌≡◌, refl, sym, ap, ◌∙◌, true≢false}
use Rattle.reading_defs.specs.Reading.{Read, taken, stopped, unsound, reading}
use Rattle.typed_defs.specs.Typed.{Typed}
use Rattle.typed_defs.specs.Written.{written}
use Rattle.model_defs.specs.Reads.{reads}
use Rattle.model_defs.specs.Refusals.{refused_at}
use Rattle.model_defs.specs.Settled.{settled}
use Rattle.reading_defs.specs.Laws.{IsReading}
use Rattle.reading_defs.proofs.Levels.{reading_agrees}
use Rattle.writing_laws.specs.Laws.{SettledIsReadAlike}
use Rattle.writing_laws.proofs.Again.{written_is_read_back}

pub settled_is_read_alike : SettledIsReadAlike
settled_is_read_alike models cs r proper back t v n o h = by (reading models cs r t v) refl (reading_agrees models cs r proper t v n)
  where
    by : (a : Read Typed) → reading models cs r t v ≡ a → IsReading (reads models cs r t v) (refused_at models cs r t v) (settled models cs r t v) (written models t) a
        → reading models cs r t (settled models cs r t v) ≡ reading models cs r t v
    by (taken x) e g = ap (reading models cs r t) (sym g.1) ∙ written_is_read_back models cs r back t v x n o e ∙ sym e
    by (stopped l) e g = absurd (true≢false (sym h ∙ g.0))
    by unsound e g = absurd g
