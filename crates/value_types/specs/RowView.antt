-- What the program's tables of built-in types stand for.
use Rattle.std.specs.Prelude.{ℕ, List, [], ◌∷◌, Option, Some, None, codes, if◌then◌else◌}
use Rattle.schema_defs.specs.declared.Format.TheVariants.{Uuid, Date, Ip, Ipv4, Ipv6}
use Rattle.type_spellings.specs.Types.{same_names, in_std, three}
use Rattle.model_defs.specs.Types.{TypeModel, boolean_type, text_type, native_type, any_type, option_type, boxed_type, vec_type, set_type, outside_type, from_to, below_to}
use Rattle.value_types.specs.Paths.{symbols}
use Rattle.value_types.specs.declared.rows.Plain.{Plain}
use Rattle.value_types.specs.declared.rows.Plain.TheVariants.{Boolean, Whole, Signed, Text, Native, Any}
use Rattle.value_types.specs.declared.rows.Holder.{Holder}
use Rattle.value_types.specs.declared.rows.Holder.TheVariants as holders
use Rattle.value_types.specs.declared.rows.Meaning.{Meaning}
use Rattle.value_types.specs.declared.rows.Meaning.TheVariants as meanings
use Rattle.value_types.specs.declared.rows.Row.{Row}

abbrev pub plain_view : Plain → TypeModel
plain_view Boolean = boolean_type
plain_view (Whole l g) = from_to l g
plain_view (Signed b g) = below_to b g
plain_view Text = text_type
plain_view (Native f) = native_type f
plain_view Any = any_type

-- a type that holds one other
abbrev pub held : Holder → TypeModel → TypeModel
held holders.Optional t = option_type t
held holders.Boxed t = boxed_type t
held holders.List t = vec_type t
held holders.Set t = set_type t

pub record RowD : Type 0 where
  pub names : List (List ℕ)
  pub meaning : Meaning

abbrev pub row_view : Row → RowD
row_view r = record { names = symbols r.names.now; meaning = r.meaning }

-- the first of those names
abbrev pub meaning_of : List RowD → List (List ℕ) → Option Meaning
meaning_of [] p = None
meaning_of (r ∷ rs) p = if same_names p r.names then Some r.meaning else meaning_of rs p

-- what it is without arguments, and with one
abbrev pub plain_in : Option Meaning → Option Plain
plain_in None = None
plain_in (Some (meanings.Plain p)) = Some p
plain_in (Some (meanings.Holder h)) = None

abbrev pub holder_in : Option Meaning → Option Holder
holder_in None = None
holder_in (Some (meanings.Plain p)) = None
holder_in (Some (meanings.Holder h)) = Some h

abbrev pub plain_or_outside : Option Plain → TypeModel
plain_or_outside None = outside_type
plain_or_outside (Some p) = plain_view p

abbrev pub held_or_outside : Option Holder → TypeModel → TypeModel
held_or_outside None t = outside_type
held_or_outside (Some h) t = held h t

abbrev row : List (List ℕ) → Meaning → RowD
row names meaning = record { names = names; meaning = meaning }

-- ---- the tables

abbrev pub word_rows : List RowD
word_rows =
    row (codes "bool" ∷ []) (meanings.Plain Boolean)
    ∷ row (codes "i8" ∷ []) (meanings.Plain (Signed 128 127))
    ∷ row (codes "u8" ∷ []) (meanings.Plain (Whole 0 255))
    ∷ row (codes "i16" ∷ []) (meanings.Plain (Signed 32768 32767))
    ∷ row (codes "u16" ∷ []) (meanings.Plain (Whole 0 65535))
    ∷ row (codes "i32" ∷ []) (meanings.Plain (Signed 2147483648 2147483647))
    ∷ row (codes "u32" ∷ []) (meanings.Plain (Whole 0 4294967295))
    ∷ row (codes "i64" ∷ []) (meanings.Plain (Signed 9223372036854775808 9223372036854775807))
    ∷ row (codes "u64" ∷ []) (meanings.Plain (Whole 0 18446744073709551615))
    ∷ []

abbrev pub plain_rows : List RowD
plain_rows =
    row (in_std (codes "num") (codes "NonZeroU8")) (meanings.Plain (Whole 1 255))
    ∷ row (in_std (codes "num") (codes "NonZeroU16")) (meanings.Plain (Whole 1 65535))
    ∷ row (in_std (codes "num") (codes "NonZeroU32")) (meanings.Plain (Whole 1 4294967295))
    ∷ row (in_std (codes "num") (codes "NonZeroU64")) (meanings.Plain (Whole 1 18446744073709551615))
    ∷ row (in_std (codes "string") (codes "String")) (meanings.Plain Text)
    ∷ row (codes "serde_json" ∷ codes "Value" ∷ []) (meanings.Plain Any)
    ∷ row (codes "uuid" ∷ codes "Uuid" ∷ []) (meanings.Plain (Native Uuid))
    ∷ row (three (codes "chrono") (codes "naive") (codes "NaiveDate")) (meanings.Plain (Native Date))
    ∷ row (in_std (codes "net") (codes "IpAddr")) (meanings.Plain (Native Ip))
    ∷ row (in_std (codes "net") (codes "Ipv4Addr")) (meanings.Plain (Native Ipv4))
    ∷ row (in_std (codes "net") (codes "Ipv6Addr")) (meanings.Plain (Native Ipv6))
    ∷ []

abbrev pub holder_rows : List RowD
holder_rows =
    row (in_std (codes "option") (codes "Option")) (meanings.Holder holders.Optional)
    ∷ row (in_std (codes "boxed") (codes "Box")) (meanings.Holder holders.Boxed)
    ∷ row (in_std (codes "vec") (codes "Vec")) (meanings.Holder holders.List)
    ∷ row (in_std (codes "collections") (codes "HashSet")) (meanings.Holder holders.Set)
    ∷ []
