-- A text of each format.
use Rattle.std.specs.Prelude.{◌≡◌, ℕ, List, true, codes}
use Rattle.schema_defs.specs.declared.Format.{Format}
use Rattle.schema_defs.specs.declared.Format.TheVariants.{Uuid, Date, DateTime, Ip, Ipv4, Ipv6}
use Rattle.schema_defs.specs.Formats.{has_format}

abbrev pub fixed_text : Format → List ℕ
fixed_text Uuid = codes "00000000-0000-0000-0000-000000000000"
fixed_text Date = codes "2000-01-01"
fixed_text DateTime = codes "2000-01-01T00:00:00Z"
fixed_text Ip = codes "127.0.0.1"
fixed_text Ipv4 = codes "127.0.0.1"
fixed_text Ipv6 = codes "::1"

-- each has the format
abbrev pub FixedTextsHaveTheirFormats : Type 0
FixedTextsHaveTheirFormats = (f : Format) → has_format f (fixed_text f) ≡ true
