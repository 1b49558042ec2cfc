-- Items that reach themselves at one value, and one that does not.
use Rattle.std.specs.Prelude.{ℕ, List, [], ◌∷◌, codes}
use Rattle.model_defs.specs.Types.{option_type, boxed_type}
use Rattle.model_defs.specs.Model.{newtype_style, untagged, ContainerModel}
use Rattle.model_defs.specs.Reach.{Reaches, NoneReachesItself}
use Rattle.model_defs.specs.Examples.{a, field, skipped, unnamed, item, closed, alias, called, struct, enum, variant, t, u}

abbrev pub name : List ℕ
name = codes "T"

-- {"a":{"a":null}}: one value down at each step
abbrev pub chain : ContainerModel
chain = closed (struct (skipped (field a (option_type (boxed_type t))) ∷ []))

pub record Reaching : Type 0 where
  pub fields_do_not : NoneReachesItself (chain ∷ [])
  pub an_alias : Reaches (alias (option_type (boxed_type t)) ∷ []) name name
  pub a_variant : Reaches (item (enum untagged (variant a newtype_style (unnamed t ∷ []) ∷ [])) ∷ []) name name
  pub two_items : Reaches (alias u ∷ called (codes "U") (alias t) ∷ []) name name
