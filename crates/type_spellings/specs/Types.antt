-- How the types of fields are spelled.
use Rattle.std.specs.Prelude.{ℕ, ◌+◌, ◌-◌, ◌*◌, ◌&&◌, nat_le, List, [], ◌∷◌, map, Bool, true, false, Option, Some, None, option_map, bytes_eq, codes, if◌then◌else◌}
use Rattle.token_trees.specs.Token.{digits}
use Rattle.syntax_trees.specs.Syntax.{TyD, ty_array, ty_tuple, ty_path, PathD, path, SegmentD, segment, ArgumentsD, no_arguments, angle, parens, GenericD, arg_ty, ExprD, ex_fixed, no_qself, Tys, end_tys, more_tys, Segments, end_segments, more_segments, Generics, end_generics, more_generics, has_no_arguments, segment_name}
use Rattle.schema_defs.specs.declared.Format.TheVariants.{Uuid, Date, DateTime, Ip, Ipv4, Ipv6}
use Rattle.model_defs.specs.Types.{TypeModel, TypeModels, boolean_type, text_type, native_type, any_type, unit_type, option_type, boxed_type, vec_type, set_type, map_type, tuple_type, array_type, item_type, outside_type, no_types, type_then, types, from_to, below_to}

-- ---- names

-- a word of Rust's own, or else the name of an item
unfoldable pub word_type : List ℕ → TypeModel
word_type n =
    if bytes_eq n (codes "bool") then boolean_type
    else if bytes_eq n (codes "i8") then below_to 128 127
    else if bytes_eq n (codes "u8") then from_to 0 255
    else if bytes_eq n (codes "i16") then below_to 32768 32767
    else if bytes_eq n (codes "u16") then from_to 0 65535
    else if bytes_eq n (codes "i32") then below_to 2147483648 2147483647
    else if bytes_eq n (codes "u32") then from_to 0 4294967295
    else if bytes_eq n (codes "i64") then below_to 9223372036854775808 9223372036854775807
    else if bytes_eq n (codes "u64") then from_to 0 18446744073709551615
    else item_type n

abbrev pub same_names : List (List ℕ) → List (List ℕ) → Bool
same_names [] [] = true
same_names (m ∷ ms) (n ∷ ns) = bytes_eq m n && same_names ms ns
same_names _ _ = false

-- `::a::b::c` as the list of its names
abbrev pub three : List ℕ → List ℕ → List ℕ → List (List ℕ)
three a b c = a ∷ b ∷ c ∷ []

abbrev pub in_std : List ℕ → List ℕ → List (List ℕ)
in_std b c = three (codes "std") b c

-- a path from the root, without arguments
unfoldable pub plain_path : List (List ℕ) → TypeModel
plain_path p =
    if same_names p (in_std (codes "num") (codes "NonZeroU8")) then from_to 1 255
    else if same_names p (in_std (codes "num") (codes "NonZeroU16")) then from_to 1 65535
    else if same_names p (in_std (codes "num") (codes "NonZeroU32")) then from_to 1 4294967295
    else if same_names p (in_std (codes "num") (codes "NonZeroU64")) then from_to 1 18446744073709551615
    else if same_names p (in_std (codes "string") (codes "String")) then text_type
    else if same_names p (codes "serde_json" ∷ codes "Value" ∷ []) then any_type
    else if same_names p (codes "uuid" ∷ codes "Uuid" ∷ []) then native_type Uuid
    else if same_names p (three (codes "chrono") (codes "naive") (codes "NaiveDate")) then native_type Date
    else if same_names p (in_std (codes "net") (codes "IpAddr")) then native_type Ip
    else if same_names p (in_std (codes "net") (codes "Ipv4Addr")) then native_type Ipv4
    else if same_names p (in_std (codes "net") (codes "Ipv6Addr")) then native_type Ipv6
    else outside_type

-- with one argument
unfoldable pub path_of_one : List (List ℕ) → TypeModel → TypeModel
path_of_one p t =
    if same_names p (in_std (codes "option") (codes "Option")) then option_type t
    else if same_names p (in_std (codes "boxed") (codes "Box")) then boxed_type t
    else if same_names p (in_std (codes "vec") (codes "Vec")) then vec_type t
    else if same_names p (in_std (codes "collections") (codes "HashSet")) then set_type t
    else outside_type

-- with two
unfoldable pub path_of_two : List (List ℕ) → TypeModel → TypeModel → TypeModel
path_of_two p k t = if same_names p (in_std (codes "collections") (codes "HashMap")) then map_type k t else outside_type

-- ---- spelling

-- what stands after a name: nothing, `<::chrono::offset::Utc>`, a list of types in angle brackets, or anything else
pub data Arguments : Type 0 where
  none_given : Arguments
  utc_given : Arguments
  types_given : List TypeModel → Arguments
  others_given : Arguments

pub record Segment : Type 0 where
  pub name : List ℕ
  pub arguments : Arguments

-- names without arguments
abbrev pub spells : Segments → List (List ℕ) → Bool
spells end_segments [] = true
spells (more_segments s ss) (n ∷ ns) = has_no_arguments s && bytes_eq (segment_name s) n && spells ss ns
spells _ _ = false

abbrev pub is_utc : TyD → Bool
is_utc (ty_path no_qself (path true ss)) = spells ss (three (codes "chrono") (codes "offset") (codes "Utc"))
is_utc _ = false

abbrev pub is_utc_alone : Generics → Bool
is_utc_alone (more_generics (arg_ty t) end_generics) = is_utc t
is_utc_alone _ = false

abbrev pub given : Option (List TypeModel) → Arguments
given None = others_given
given (Some ts) = types_given ts

-- the arguments of the last name, where none before it has any
abbrev pub last_arguments : List Segment → Arguments
last_arguments [] = others_given
last_arguments (s ∷ []) = s.arguments
last_arguments (s ∷ t ∷ ss) = elim s.arguments [ none_given ↦ last_arguments (t ∷ ss) | utc_given ↦ others_given | types_given ts ↦ others_given | others_given ↦ others_given ]

abbrev pub named_type : Bool → List (List ℕ) → Arguments → TypeModel
named_type false (n ∷ []) none_given = word_type n
named_type true p none_given = plain_path p
named_type true p utc_given = if same_names p (codes "chrono" ∷ codes "DateTime" ∷ []) then native_type DateTime else outside_type
named_type true p (types_given (t ∷ [])) = path_of_one p t
named_type true p (types_given (t ∷ u ∷ [])) = path_of_two p t u
named_type _ _ _ = outside_type

abbrev pub path_type : Bool → List Segment → TypeModel
path_type leading ss = named_type leading (map (λ s. s.name) ss) (last_arguments ss)

-- the number that decimal digits write
abbrev pub number_from : ℕ → List ℕ → Option ℕ
number_from n [] = Some n
number_from n (c ∷ cs) = if nat_le 48 c && nat_le c 57 then number_from (n * 10 + (c - 48)) cs else None

abbrev pub number_of : List ℕ → Option ℕ
number_of [] = None
number_of (c ∷ cs) = number_from 0 (c ∷ cs)

abbrev pub literal_number : ExprD → Option ℕ
literal_number (ex_fixed (digits s) at) = number_of s
literal_number _ = None

abbrev pub array_of : TypeModel → Option ℕ → TypeModel
array_of t None = outside_type
array_of t (Some n) = array_type t n

abbrev pub tuple_of : TypeModels → TypeModel
tuple_of no_types = unit_type
tuple_of (type_then t ts) = tuple_type (type_then t ts)

abbrev pub and_then : Option TypeModel → Option (List TypeModel) → Option (List TypeModel)
and_then None ts = None
and_then (Some t) ts = option_map (λ us. t ∷ us) ts

-- the type that a syntax tree spells
abbrev mutual
  pub type_of : TyD → TypeModel
  type_of (ty_path no_qself p) = path_model p
  type_of (ty_tuple ts) = tuple_of (tuple_models ts)
  type_of (ty_array t e) = array_of (type_of t) (literal_number e)
  type_of _ = outside_type

  path_model : PathD → TypeModel
  path_model (path leading ss) = path_type leading (segment_models ss)

  segment_models : Segments → List Segment
  segment_models end_segments = []
  segment_models (more_segments s ss) = segment_model s ∷ segment_models ss

  segment_model : SegmentD → Segment
  segment_model (segment n a) = record { name = n.text; arguments = arguments_model a }

  arguments_model : ArgumentsD → Arguments
  arguments_model no_arguments = none_given
  arguments_model (angle true gs) = others_given
  arguments_model (angle false gs) = if is_utc_alone gs then utc_given else given (generic_models gs)
  arguments_model (parens ts o) = others_given

  generic_models : Generics → Option (List TypeModel)
  generic_models end_generics = Some []
  generic_models (more_generics g gs) = and_then (generic_model g) (generic_models gs)

  generic_model : GenericD → Option TypeModel
  generic_model (arg_ty t) = Some (type_of t)
  generic_model _ = None

  tuple_models : Tys → TypeModels
  tuple_models end_tys = no_types
  tuple_models (more_tys t ts) = type_then (type_of t) (tuple_models ts)
