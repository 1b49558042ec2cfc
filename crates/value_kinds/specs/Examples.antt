-- What is found of three items: a newtype of an optional struct, that struct, and an untagged enum that holds itself.
use Rattle.std.specs.Prelude.{◌≡◌, List, [], ◌∷◌, ◌||◌, map, codes}
use Rattle.model_defs.specs.Types.{text_type, option_type, boxed_type, item_type}
use Rattle.model_defs.specs.Model.{newtype_style, untagged, ContainerModel}
use Rattle.model_defs.specs.Examples.{a, b, field, unnamed, item, closed, alias, called, struct, enum, variant, u}
use Rattle.writing_laws.specs.Kinds.{nulls, texts, objects, same_kind}
use Rattle.value_kinds.specs.Claims.{own_kinds}
use Rattle.value_kinds.specs.Kinds.{kinds_where}
use Rattle.value_kinds.specs.Rounds.{asked_graph, kinds_after}

abbrev three : List ContainerModel
three =
    alias (option_type u)
    ∷ called (codes "U") (closed (struct (field a text_type ∷ [])))
    ∷ called (codes "V") (item (enum untagged (variant a newtype_style (unnamed (boxed_type (item_type (codes "V"))) ∷ []) ∷ variant b newtype_style (unnamed text_type ∷ []) ∷ [])))
    ∷ []

pub record ThreeItems : Type 0 where
  pub graph : asked_graph three ≡ (1 ∷ []) ∷ [] ∷ (2 ∷ []) ∷ []
  pub at_first : kinds_after (map own_kinds three) (asked_graph three) 0 ≡ []
  pub alone : kinds_after (map own_kinds three) (asked_graph three) 1 ≡ kinds_where (same_kind nulls) ∷ kinds_where (same_kind objects) ∷ kinds_where (same_kind texts) ∷ []
  pub last : kinds_after (map own_kinds three) (asked_graph three) 4 ≡ kinds_where (λ k. same_kind k nulls || same_kind k objects) ∷ kinds_where (same_kind objects) ∷ kinds_where (same_kind texts) ∷ []
