-- The ten integer formats, each with its range.
use Rattle.std.specs.Prelude.{ℕ, ℤ, ◌&&◌, pos, neg_ℤ, int_le, List, Bool, Option, Some, None, bytes_eq, codes, if◌then◌else◌}

pub record Range : Type 0 where
  pub least : ℤ
  pub greatest : ℤ

abbrev pub unsigned_range : ℕ → Option Range
unsigned_range greatest = Some (record { least = pos 0; greatest = pos greatest })

abbrev pub signed_range : ℕ → ℕ → Option Range
signed_range below greatest = Some (record { least = neg_ℤ (pos below); greatest = pos greatest })

abbrev pub range_of : List ℕ → Option Range
range_of f =
    if bytes_eq f (codes "int8") then signed_range 128 127
    else if bytes_eq f (codes "uint8") then unsigned_range 255
    else if bytes_eq f (codes "int16") then signed_range 32768 32767
    else if bytes_eq f (codes "uint16") then unsigned_range 65535
    else if bytes_eq f (codes "int") then signed_range 2147483648 2147483647
    else if bytes_eq f (codes "int32") then signed_range 2147483648 2147483647
    else if bytes_eq f (codes "uint") then unsigned_range 4294967295
    else if bytes_eq f (codes "uint32") then unsigned_range 4294967295
    else if bytes_eq f (codes "int64") then signed_range 9223372036854775808 9223372036854775807
    else if bytes_eq f (codes "uint64") then unsigned_range 18446744073709551615
    else None

abbrev pub in_range : ℤ → Range → Bool
in_range z r = int_le r.least z && int_le z r.greatest
