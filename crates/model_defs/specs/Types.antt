-- The types of fields, as a reader of JSON values takes them.
use Rattle.std.specs.Prelude.{ℕ, pos, neg_ℤ, List, [], ◌∷◌}
use Rattle.schema_defs.specs.declared.Format.{Format}
use Rattle.schema_defs.specs.Integers.{Range}

-- `outside_type` is any type that no reader knows
mutual
  pub data TypeModel : Type 0 where
    boolean_type : TypeModel
    integer_type : Range → TypeModel
    text_type : TypeModel
    native_type : Format → TypeModel
    any_type : TypeModel
    unit_type : TypeModel
    option_type : TypeModel → TypeModel
    boxed_type : TypeModel → TypeModel
    vec_type : TypeModel → TypeModel
    set_type : TypeModel → TypeModel
    map_type : TypeModel → TypeModel → TypeModel
    tuple_type : TypeModels → TypeModel
    array_type : TypeModel → ℕ → TypeModel
    item_type : List ℕ → TypeModel
    outside_type : TypeModel

  pub data TypeModels : Type 0 where
    no_types : TypeModels
    type_then : TypeModel → TypeModels → TypeModels

abbrev pub types_of : TypeModels → List TypeModel
types_of no_types = []
types_of (type_then t ts) = t ∷ types_of ts

abbrev pub types : List TypeModel → TypeModels
types [] = no_types
types (t ∷ ts) = type_then t (types ts)

-- ---- integers: whole numbers of so many bits, and those from 1 on

abbrev pub from_to : ℕ → ℕ → TypeModel
from_to least greatest = integer_type (record { least = pos least; greatest = pos greatest })

abbrev pub below_to : ℕ → ℕ → TypeModel
below_to below greatest = integer_type (record { least = neg_ℤ (pos below); greatest = pos greatest })
