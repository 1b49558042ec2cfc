-- Worked examples: texts that have each format, and texts that have it not.
use Rattle.std.specs.Prelude.{◌≡◌, true, false, codes, [], ◌∷◌}
use Rattle.std.specs.List.{list_all, list_any}
use Rattle.schema_defs.specs.declared.Format.TheVariants.{Uuid, Date, DateTime, Ip, Ipv4, Ipv6}
use Rattle.schema_defs.specs.Formats.{has_format}

-- upper case, braces, the URN
pub record IdentifierExamples : Type 0 where
  pub uuid_taken : list_all (has_format Uuid) (codes "67e55044-10b1-426f-9247-bb680e5fe0c8" ∷ codes "67E55044-10B1-426F-9247-BB680E5FE0C8" ∷ codes "67e5504410b1426f9247bb680e5fe0c8" ∷ codes "{67e55044-10b1-426f-9247-bb680e5fe0c8}" ∷ codes "urn:uuid:67e55044-10b1-426f-9247-bb680e5fe0c8" ∷ codes "URN:UUID:67e55044-10b1-426f-9247-bb680e5fe0c8" ∷ codes "00000000-0000-0000-0000-000000000000" ∷ codes "ABCDEFabcdef01234567890123456789" ∷ []) ≡ true
  pub uuid_refused : list_any (has_format Uuid) (codes "" ∷ codes "67e55044-10b1-426f-9247-bb680e5fe0c" ∷ codes "67e55044-10b1-426f-9247-bb680e5fe0cg" ∷ codes "67e5-504410b1-426f-9247-bb680e5fe0c8" ∷ codes "{67e55044-10b1-426f-9247-bb680e5fe0c8" ∷ codes "{67e5504410b1426f9247bb680e5fe0c8}" ∷ codes "urn:uuid:67e5504410b1426f9247bb680e5fe0c8" ∷ codes "urn:uuid:{67e55044-10b1-426f-9247-bb680e5fe0c8}" ∷ codes "67e55044-10b1-426f-9247-bb680e5fe0c8-" ∷ []) ≡ false

-- month ends, leap years, the last second of a day
pub record CalendarExamples : Type 0 where
  pub date_taken : list_all (has_format Date) (codes "2023-12-31" ∷ codes "2023-04-30" ∷ codes "2024-02-29" ∷ codes "2023-02-28" ∷ codes "2000-02-29" ∷ codes "0000-02-29" ∷ codes "1582-10-10" ∷ codes "9999-12-31" ∷ []) ≡ true
  pub date_refused : list_any (has_format Date) (codes "2023-02-29" ∷ codes "1900-02-29" ∷ codes "2023-04-31" ∷ codes "2023-12-00" ∷ codes "2023-00-10" ∷ codes "2023-13-01" ∷ codes "2023-1-01" ∷ codes "-2023-01-01" ∷ codes "2023-01-01-01" ∷ []) ≡ false
  pub date_time_taken : list_all (has_format DateTime) (codes "2023-01-01T00:00:00Z" ∷ codes "2023-01-01T23:59:59Z" ∷ codes "2023-12-31T12:30:45+00:00" ∷ codes "2023-12-31T12:30:45-23:59" ∷ codes "2024-02-29T00:00:00.1Z" ∷ codes "2024-02-29T00:00:00.123456789Z" ∷ codes "2024-02-29T00:00:00.000000000+05:30" ∷ codes "0000-01-01T00:00:00Z" ∷ []) ≡ true
  pub date_time_refused : list_any (has_format DateTime) (codes "2023-01-01T24:00:00Z" ∷ codes "2023-01-01T23:60:00Z" ∷ codes "2023-01-01T23:59:60Z" ∷ codes "2023-01-01T00:00:00" ∷ codes "2023-01-01t00:00:00Z" ∷ codes "2023-01-01T00:00:00.Z" ∷ codes "2023-01-01T00:00:00.1234567890Z" ∷ codes "2023-01-01T00:00:00+24:00" ∷ codes "2023-02-29T00:00:00Z" ∷ []) ≡ false

-- leading zeros, `::`, an ipv4 text in an ipv6 text
pub record AddressExamples : Type 0 where
  pub ipv4_taken : list_all (has_format Ipv4) (codes "0.0.0.0" ∷ codes "255.255.255.255" ∷ codes "192.168.0.1" ∷ codes "1.2.3.4" ∷ codes "10.0.0.99" ∷ codes "127.0.0.1" ∷ codes "100.200.250.249" ∷ codes "9.99.199.9" ∷ []) ≡ true
  pub ipv4_refused : list_any (has_format Ipv4) (codes "" ∷ codes "1.2.3" ∷ codes "1.2.3.4.5" ∷ codes "1.2.3.256" ∷ codes "01.2.3.4" ∷ codes "1.2.3.00" ∷ codes "1.2.3." ∷ codes "1..2.3" ∷ codes "1.2.3.a" ∷ []) ≡ false
  pub ipv6_taken : list_all (has_format Ipv6) (codes "::" ∷ codes "::1" ∷ codes "1::" ∷ codes "1:2:3:4:5:6:7:8" ∷ codes "ABCD:EF01:2345:6789:abcd:ef01:2345:6789" ∷ codes "1:2:3::5:6:7:8" ∷ codes "::2:3:4:5:6:7:8" ∷ codes "1:2:3:4:5:6:7::" ∷ codes "::ffff:1.2.3.4" ∷ codes "1:2:3:4:5:6:1.2.3.4" ∷ codes "1:2:3:4:5::1.2.3.4" ∷ []) ≡ true
  pub ipv6_refused : list_any (has_format Ipv6) (codes "" ∷ codes ":" ∷ codes ":::" ∷ codes "1::2::3" ∷ codes "1:2:3:4:5:6:7" ∷ codes "1:2:3:4:5:6:7:8:9" ∷ codes "1:2:3:4::5:6:7:8" ∷ codes "12345::" ∷ codes "::g" ∷ codes "1.2.3.4::" ∷ codes "1:2:3:4:5:6::1.2.3.4" ∷ codes "::01.2.3.4" ∷ []) ≡ false
  pub ip_taken : list_all (has_format Ip) (codes "1.2.3.4" ∷ codes "::1" ∷ codes "255.255.255.255" ∷ codes "::ffff:1.2.3.4" ∷ codes "2001:db8::8a2e:370:7334" ∷ codes "0.0.0.0" ∷ codes "::" ∷ codes "1:2:3:4:5:6:7:8" ∷ []) ≡ true
  pub ip_refused : list_any (has_format Ip) (codes "" ∷ codes "localhost" ∷ codes "1.2.3" ∷ codes "256.1.1.1" ∷ codes "1::2::3" ∷ codes "01.2.3.4" ∷ codes "1.2.3.4:80" ∷ codes "1:2:3:4:5:6:7" ∷ []) ≡ false
