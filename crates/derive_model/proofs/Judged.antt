-- What is read, refused and written agrees with the definitions of containers.
use Rattle.std.proofs.Common.{◌≡◌, List, true, subst, sym, ◌∙◌}
use Rattle.serde_json.specs.Data.{Data}
use Rattle.json_value.specs.Value.{Value}
use Rattle.json_value.specs.View.{value_of}
use Rattle.schema_defs.specs.Location.{Location}
use Rattle.schema_defs.specs.Texts.{Relations}
use Rattle.model_defs.specs.Types.{TypeModel}
use Rattle.model_defs.specs.Model.{ContainerModel, ConversionsD}
use Rattle.model_defs.specs.Reads.{reads}
use Rattle.model_defs.specs.Refusals.{refused_at}
use Rattle.model_defs.specs.Settled.{settled}
use Rattle.typed_defs.specs.Typed.{Typed}
use Rattle.typed_defs.specs.Written.{written}
use Rattle.reading_defs.specs.Proper.{has_json_numbers}
use Rattle.reading_defs.specs.Reading.{Read, taken, stopped, reading}
use Rattle.reading_defs.specs.Laws.{IsReading}
use Rattle.reading_defs.proofs.Levels.{reading_agrees}
use Rattle.form_laws.specs.Laws.{AreFit}
use Rattle.derive_model.specs.Judging.{AreSound, IsRead, IsStopped, IsVerdict}
use Rattle.derive_model.specs.VerdictView as verdict

module _ (models : List ContainerModel) (conversions : ConversionsD) (relations : Relations) (t : TypeModel) (v : Value)
    (f : AreFit models) (s : AreSound models conversions relations) (n : has_json_numbers v ≡ true) where
  abbrev AgreesAt : Read Typed → Type 0
  AgreesAt o = IsReading (reads models conversions relations t v) (refused_at models conversions relations t v) (settled models conversions relations t v) (written models t) o

  agrees : (o : Read Typed) → o ≡ reading models conversions relations t v → AgreesAt o
  agrees o e =
      subst AgreesAt (sym e)
      (reading_agrees models conversions relations (record { fit = f.fit; shapes = f.shapes; rules = f.rules; numbers = s.numbers; sound = s.sound }) t v n)

  pub is_read : (x : Typed) → taken x ≡ reading models conversions relations t v → IsRead models conversions relations t v x
  is_read x e = let a = agrees (taken x) e in (sym e, a.0, a.1)

  pub is_stopped : (l : Location) → stopped l ≡ reading models conversions relations t v → IsStopped models conversions relations t v l
  is_stopped l e = let a = agrees (stopped l) e in (a.0, sym a.1)

-- what is written of a typed value that was read
module _ (models : List ContainerModel) (conversions : ConversionsD) (relations : Relations) (t : TypeModel) (v : Value) where
  pub is_taken : (x : Typed) (d : Data) → IsRead models conversions relations t v x → value_of d ≡ written models t x → IsVerdict models conversions relations t v (verdict.taken d)
  is_taken x d r w = (r.1, (x, r.0, w), w ∙ r.2)
