-- When two pairs of spots are the same, and the keys by which a pair is looked up.
use Rattle.std.specs.Prelude.{ℕ, ◌&&◌, ◌++◌, List, [], Bool, false, bytes_eq, nat_eq, codes}
use Rattle.std.specs.Fmt.{decimal, signed_decimal}
use Rattle.schema_defs.specs.declared.Format.{Format}
use Rattle.schema_defs.specs.declared.Format.TheVariants.{Uuid, Date, DateTime, Ip, Ipv4, Ipv6}
use Rattle.schema_defs.specs.Integers.{Range}
use Rattle.model_defs.specs.Types.{TypeModel, boolean_type, integer_type, text_type, native_type, any_type, unit_type, option_type, boxed_type, vec_type, set_type, map_type, tuple_type, array_type, item_type, outside_type, TypeModels, no_types, type_then}
use Rattle.container_defs.specs.Forms.{same_type}
use Rattle.evolve_defs.specs.Spots.{Spot, Spots, of_type, of_variant}

abbrev pub same_spot : Spot → Spot → Bool
same_spot (of_type s) (of_type t) = same_type s t
same_spot (of_variant n i) (of_variant m j) = bytes_eq n m && nat_eq i j
same_spot _ _ = false

abbrev pub same_spots : Spots → Spots → Bool
same_spots p q = same_spot p.0 q.0 && same_spot p.1 q.1

-- ---- keys: pairs that are the same have one

abbrev pub format_key : Format → List ℕ
format_key Uuid = codes "U"
format_key Date = codes "D"
format_key DateTime = codes "T"
format_key Ip = codes "I"
format_key Ipv4 = codes "F"
format_key Ipv6 = codes "S"

abbrev pub range_key : Range → List ℕ
range_key g = codes "i" ++ (signed_decimal g.least ++ (codes "," ++ (signed_decimal g.greatest ++ codes ".")))

abbrev pub item_key : List ℕ → List ℕ
item_key n = codes "<" ++ (n ++ codes ">")

abbrev pub variant_key : List ℕ → ℕ → List ℕ
variant_key n i = codes "|" ++ (decimal i ++ (codes "<" ++ (n ++ codes ">")))

abbrev mutual
  pub type_key : TypeModel → List ℕ
  type_key boolean_type = codes "b"
  type_key (integer_type g) = range_key g
  type_key text_type = codes "s"
  type_key (native_type f) = format_key f
  type_key any_type = codes "a"
  type_key unit_type = codes "u"
  type_key (option_type t) = codes "?" ++ type_key t
  type_key (boxed_type t) = codes "*" ++ type_key t
  type_key (vec_type t) = codes "[" ++ type_key t
  type_key (set_type t) = codes "{" ++ type_key t
  type_key (map_type k t) = codes ":" ++ (type_key k ++ type_key t)
  type_key (tuple_type ts) = codes "(" ++ (types_key ts ++ codes ")")
  type_key (array_type t n) = (codes "#" ++ decimal n) ++ type_key t
  type_key (item_type n) = item_key n
  type_key outside_type = codes "-"

  pub types_key : TypeModels → List ℕ
  types_key no_types = []
  types_key (type_then t ts) = type_key t ++ types_key ts

abbrev pub spot_key : Spot → List ℕ
spot_key (of_type t) = type_key t
spot_key (of_variant n i) = variant_key n i

abbrev pub spots_key : Spots → List ℕ
spots_key p = spot_key p.0 ++ (codes "/" ++ spot_key p.1)
