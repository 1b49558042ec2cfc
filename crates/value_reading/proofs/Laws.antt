-- What a reading says of its value, for callers: it is what the definitions of reading, of refusing and of settling say.
use Rattle.std.proofs.Common.{◌≡◌, List, Bool, true, false, sym, subst}
use Rattle.json_value.specs.Value.{Value}
use Rattle.schema_defs.specs.Location.{Location}
use Rattle.schema_defs.specs.Texts.{Relations}
use Rattle.model_defs.specs.Types.{TypeModel}
use Rattle.model_defs.specs.Model.{ContainerModel, ConversionsD}
use Rattle.model_defs.specs.Reads.{reads}
use Rattle.model_defs.specs.Refusals.{refused_at}
use Rattle.model_defs.specs.Settled.{settled}
use Rattle.typed_defs.specs.Typed.{Typed}
use Rattle.typed_defs.specs.Written.{written}
use Rattle.reading_defs.specs.Proper.{has_json_numbers}
use Rattle.reading_defs.specs.Reading.{Read, taken, stopped, unsound, reading}
use Rattle.reading_defs.specs.Laws.{IsProper, IsReading}
use Rattle.reading_defs.proofs.Levels.{reading_agrees}

module _ (ms : List ContainerModel) (cs : ConversionsD) (r : Relations) (proper : IsProper ms cs r) (t : TypeModel) (v : Value) (whole : has_json_numbers v ≡ true) where
  abbrev says : Read Typed → Type 0
  says o = IsReading (reads ms cs r t v) (refused_at ms cs r t v) (settled ms cs r t v) (written ms t) o

  law : (o : Read Typed) → o ≡ reading ms cs r t v → says o
  law o h = subst says (sym h) (reading_agrees ms cs r proper t v whole)

  -- what is taken is read, and written as it settles
  pub taken_law : (x : Typed) → taken x ≡ reading ms cs r t v → (reads ms cs r t v ≡ true) × (written ms t x ≡ settled ms cs r t v)
  taken_law x h = law (taken x) h

  -- what is refused isn't read, at the place where reading stops
  pub stopped_law : (l : Location) → stopped l ≡ reading ms cs r t v → (reads ms cs r t v ≡ false) × (refused_at ms cs r t v ≡ l)
  stopped_law l h = law (stopped l) h

  pub sound_law : unsound ≡ reading ms cs r t v → ⊥
  sound_law h = law unsound h
