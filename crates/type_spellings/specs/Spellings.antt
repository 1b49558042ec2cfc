-- How types are spelled, on examples.
use Rattle.std.specs.Prelude.{◌≡◌, ℕ, List, [], ◌∷◌, true, false, None, codes}
use Rattle.token_trees.specs.Token.{Name, site, digits}
use Rattle.syntax_trees.specs.Syntax.{TyD, ty_array, ty_tuple, ty_path, ty_reference, path, SegmentD, segment, no_arguments, angle, GenericD, arg_ty, ex_fixed, no_qself, tys_of, segments_of, generics_of}
use Rattle.schema_defs.specs.declared.Format.TheVariants.{DateTime}
use Rattle.type_spellings.specs.Types.{type_of}
use Rattle.model_defs.specs.Types.{TypeModel, boolean_type, text_type, native_type, unit_type, option_type, map_type, tuple_type, array_type, item_type, outside_type, types, from_to}
use Rattle.model_defs.specs.Examples.{byte, t}

abbrev pub word : List ℕ → Name
word n = record { text = n; span = site }

abbrev pub bare_name : List ℕ → SegmentD
bare_name n = segment (word n) no_arguments

-- a path from the root, and one whose last name has arguments
abbrev pub rooted : List SegmentD → TyD
rooted ss = ty_path no_qself (path true (segments_of ss))

abbrev pub of_types : List ℕ → List GenericD → SegmentD
of_types n gs = segment (word n) (angle false (generics_of gs))

abbrev pub lone : List ℕ → TyD
lone n = ty_path no_qself (path false (segments_of (bare_name n ∷ [])))

abbrev pub option_of : TyD → TyD
option_of s = rooted (bare_name (codes "std") ∷ bare_name (codes "option") ∷ of_types (codes "Option") (arg_ty s ∷ []) ∷ [])

abbrev pub Spells : TyD → TypeModel → Type 0
Spells s m = type_of s ≡ m

-- types as they are spelled
pub record Spellings : Type 0 where
  pub a_word : Spells (lone (codes "u8")) byte
  pub a_boolean : Spells (lone (codes "bool")) boolean_type
  pub an_item : Spells (lone (codes "T")) t
  pub no_word_of_ours : Spells (lone (codes "String")) (item_type (codes "String"))
  pub a_text : Spells (rooted (bare_name (codes "std") ∷ bare_name (codes "string") ∷ bare_name (codes "String") ∷ [])) text_type
  pub from_one : Spells (rooted (bare_name (codes "std") ∷ bare_name (codes "num") ∷ bare_name (codes "NonZeroU8") ∷ [])) (from_to 1 255)
  pub a_time : Spells (rooted (bare_name (codes "chrono") ∷ of_types (codes "DateTime") (arg_ty (rooted (bare_name (codes "chrono") ∷ bare_name (codes "offset") ∷ bare_name (codes "Utc") ∷ [])) ∷ []) ∷ [])) (native_type DateTime)
  pub a_time_elsewhere : Spells (rooted (bare_name (codes "chrono") ∷ of_types (codes "DateTime") (arg_ty (lone (codes "T")) ∷ []) ∷ [])) outside_type
  pub an_option : Spells (option_of (lone (codes "u8"))) (option_type byte)
  pub an_option_of_an_option : Spells (option_of (option_of (lone (codes "T")))) (option_type (option_type t))
  pub a_map : Spells (rooted (bare_name (codes "std") ∷ bare_name (codes "collections") ∷ of_types (codes "HashMap") (arg_ty (lone (codes "T")) ∷ arg_ty (lone (codes "u8")) ∷ []) ∷ [])) (map_type t byte)
  pub a_map_of_one : Spells (rooted (bare_name (codes "std") ∷ bare_name (codes "collections") ∷ of_types (codes "HashMap") (arg_ty (lone (codes "T")) ∷ []) ∷ [])) outside_type
  pub a_unit : Spells (ty_tuple (tys_of [])) unit_type
  pub a_tuple : Spells (ty_tuple (tys_of (lone (codes "u8") ∷ []))) (tuple_type (types (byte ∷ [])))
  pub an_array : Spells (ty_array (lone (codes "u8")) (ex_fixed (digits (codes "12")) site)) (array_type byte 12)
  pub an_array_of_no_number : Spells (ty_array (lone (codes "u8")) (ex_fixed (digits (codes "1x")) site)) outside_type
  pub a_reference : Spells (ty_reference None false (lone (codes "u8"))) outside_type
  pub an_option_of_two_roots : Spells (rooted (of_types (codes "std") (arg_ty (lone (codes "u8")) ∷ []) ∷ bare_name (codes "option") ∷ of_types (codes "Option") (arg_ty (lone (codes "u8")) ∷ []) ∷ [])) outside_type
