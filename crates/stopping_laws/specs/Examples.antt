-- Two items that reach themselves at one value: T is untagged, of U or of a set of bytes, and U is a newtype of T.
use Rattle.std.specs.Prelude.{◌≡◌, List, [], ◌∷◌, true, false, codes}
use Rattle.json_value.specs.Value.{Value, null}
use Rattle.model_defs.specs.Types.{set_type}
use Rattle.model_defs.specs.Model.{newtype_style, untagged, struct_model, enum_model, ContainerModel}
use Rattle.model_defs.specs.Reads.{reads}
use Rattle.model_defs.specs.Refusals.{refused_at}
use Rattle.model_defs.specs.Settled.{settled}
use Rattle.model_defs.specs.Examples.{whole, a, b, byte, free, texts, unnamed, item, called, variant, t, u, list_of}
use Rattle.typed_defs.specs.Typed.{Typed, newtype}
use Rattle.typed_defs.specs.Written.{written}
use Rattle.typed_defs.specs.Examples.{number, list, the_variant}
use Rattle.reading_defs.specs.Reading.{taken, stopped, reading}
use Rattle.stopping_laws.specs.Laws.{IsWithinForms}

abbrev pub round : List ContainerModel
round =
    item (enum_model untagged (variant a newtype_style (unnamed u ∷ []) ∷ variant b newtype_style (unnamed (set_type byte) ∷ []) ∷ []))
    ∷ called (codes "U") (item (struct_model newtype_style (unnamed t ∷ [])))
    ∷ []

abbrev pub ones : Value
ones = list_of (whole 1 ∷ whole 1 ∷ [])

-- what is read once round
abbrev pub once_round : Typed
once_round = the_variant 0 (newtype (the_variant 1 (list (number 1 ∷ []) ∷ [])) ∷ [])

-- what reads, where it stops and what it settles to agree with reading
pub record Rounds : Type 0 where
  pub within : IsWithinForms round free texts
  pub read : reads round free texts t ones ≡ true
  pub taken_once : reading round free texts t ones ≡ taken once_round
  pub written_once : written round t once_round ≡ list_of (whole 1 ∷ [])
  pub settled_once : settled round free texts t ones ≡ list_of (whole 1 ∷ [])
  pub refused : reads round free texts t null ≡ false
  pub refused_itself : refused_at round free texts t null ≡ []
  pub stopped_itself : reading round free texts t null ≡ stopped []
