-- What a value that was read becomes is read too, and becomes itself, where it is read as the value is.
use Rattle.std.proofs.Common.{◌≡◌, List, [], ◌∷◌, map, true, refl, sym, ◌∙◌, subst, true≢false}
use Rattle.serde_json.specs.declared.value.Value as json
use Rattle.serde_json.specs.View.{items_view}
use Rattle.json_value.specs.Value.{Value}
use Rattle.json_value.specs.View.{kept_view, items_of}
use Rattle.schema_defs.specs.Texts.{Relations}
use Rattle.model_defs.specs.Types.{TypeModel}
use Rattle.model_defs.specs.Model.{ContainerModel, ConversionsD}
use Rattle.model_defs.specs.Reads.{reads}
use Rattle.model_defs.specs.Refusals.{refused_at}
use Rattle.model_defs.specs.Settled.{settled}
use Rattle.typed_defs.specs.Typed.{Typed}
use Rattle.typed_defs.specs.Written.{written}
use Rattle.reading_defs.specs.Proper.{has_json_numbers}
use Rattle.reading_defs.specs.Reading.{Read, taken, stopped, unsound, reading}
use Rattle.reading_defs.specs.Laws.{IsProper, IsReading}
use Rattle.reading_defs.proofs.Levels.{reading_agrees}
use Rattle.writing_laws.specs.Tables.{ItemsOrdered, AllOrdered}
use Rattle.typify_run.specs.Examine.{IsSettledBy}

-- ---- values that the program holds

pub all_ordered : (vs : List json.Value) → ItemsOrdered (items_of (items_view vs)) → AllOrdered (map kept_view vs)
all_ordered [] h = tt
all_ordered (v ∷ vs) h = (h.0, all_ordered vs h.1)

-- ---- once

module _ (models : List ContainerModel) (cs : ConversionsD) (r : Relations) (proper : IsProper models cs r) (t : TypeModel) (v : Value) where
  abbrev Agrees : Value → Read Typed → Type 0
  Agrees w o = IsReading (reads models cs r t w) (refused_at models cs r t w) (settled models cs r t w) (written models t) o

  pub once : has_json_numbers v ≡ true → has_json_numbers (settled models cs r t v) ≡ true → reading models cs r t (settled models cs r t v) ≡ reading models cs r t v → reads models cs r t v ≡ true
      → IsSettledBy (reads models cs r t) (settled models cs r t) (settled models cs r t v)
  once n m same h = by (reading models cs r t v) refl (reading_agrees models cs r proper t v n) (reading_agrees models cs r proper t (settled models cs r t v) m)
    where
      by : (o : Read Typed) → reading models cs r t v ≡ o → Agrees v o → Agrees (settled models cs r t v) (reading models cs r t (settled models cs r t v)) → IsSettledBy (reads models cs r t) (settled models cs r t) (settled models cs r t v)
      by (taken x) e g k = let a = subst (Agrees (settled models cs r t v)) (same ∙ e) k in (a.0, sym a.1 ∙ g.1)
      by (stopped l) e g k = absurd (true≢false (sym h ∙ g.0))
      by unsound e g k = absurd g
