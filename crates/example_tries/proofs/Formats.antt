-- The fixed texts have their formats.
use Rattle.std.proofs.Common.{◌≡◌, true, refl}
use Rattle.schema_defs.specs.declared.Format.{Format}
use Rattle.schema_defs.specs.declared.Format.TheVariants.{Uuid, Date, DateTime, Ip, Ipv4, Ipv6}
use Rattle.schema_defs.specs.Formats.{has_format, is_uuid, is_date, is_date_time, is_ipv4, is_ipv6}
use Rattle.example_tries.specs.Fixed.{fixed_text}

pub fixed_has : (f : Format) → has_format f (fixed_text f) ≡ true
unfolding is_uuid is_date is_date_time is_ipv4 is_ipv6
fixed_has Uuid = refl
fixed_has Date = refl
fixed_has DateTime = refl
fixed_has Ip = refl
fixed_has Ipv4 = refl
fixed_has Ipv6 = refl
