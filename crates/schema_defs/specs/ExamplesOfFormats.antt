-- Worked examples: texts that have a format, and texts that have it not.
use Rattle.std.specs.Prelude.{◌≡◌, true, false, codes}
use Rattle.schema_defs.specs.declared.Format.TheVariants.{Uuid, Date, DateTime, Ip, Ipv4, Ipv6}
use Rattle.schema_defs.specs.Formats.{has_format}

pub record DateExamples : Type 0 where
  pub date : has_format Date (codes "2023-12-31") ≡ true
  pub leap_day : has_format Date (codes "2000-02-29") ≡ true
  pub no_leap_day : has_format Date (codes "1900-02-29") ≡ false
  pub year_zero : has_format Date (codes "0000-01-01") ≡ true
  pub short_month : has_format Date (codes "2023-04-31") ≡ false
  pub month_zero : has_format Date (codes "2023-00-01") ≡ false
  pub month_13 : has_format Date (codes "2023-13-01") ≡ false
  pub one_digit : has_format Date (codes "2023-1-01") ≡ false
  pub sign : has_format Date (codes "-2023-01-01") ≡ false
  pub after_it : has_format Date (codes "2023-01-01Z") ≡ false
  pub zulu : has_format DateTime (codes "2023-01-01T23:59:59Z") ≡ true
  pub offset : has_format DateTime (codes "2023-01-01T00:00:00.5+23:59") ≡ true
  pub nine_digits : has_format DateTime (codes "2023-01-01T00:00:00.123456789-01:30") ≡ true
  pub ten_digits : has_format DateTime (codes "2023-01-01T00:00:00.1234567890Z") ≡ false
  pub no_digits : has_format DateTime (codes "2023-01-01T00:00:00.Z") ≡ false
  pub no_zone : has_format DateTime (codes "2023-01-01T00:00:00") ≡ false
  pub leap_second : has_format DateTime (codes "2023-01-01T23:59:60Z") ≡ false
  pub hour_24 : has_format DateTime (codes "2023-01-01T24:00:00Z") ≡ false
  pub small_letter : has_format DateTime (codes "2023-01-01t00:00:00Z") ≡ false
  pub offset_of_24 : has_format DateTime (codes "2023-01-01T00:00:00+24:00") ≡ false
  pub no_colon : has_format DateTime (codes "2023-01-01T00:00:00+0100") ≡ false

pub record AddressExamples : Type 0 where
  pub four : has_format Ipv4 (codes "192.168.0.255") ≡ true
  pub three : has_format Ipv4 (codes "192.168.0") ≡ false
  pub leading_zero : has_format Ipv4 (codes "192.168.00.1") ≡ false
  pub above_255 : has_format Ipv4 (codes "192.168.0.256") ≡ false
  pub eight_groups : has_format Ipv6 (codes "1:2:3:4:5:6:7:8aF0") ≡ true
  pub nothing_but_zeros : has_format Ipv6 (codes "::") ≡ true
  pub at_the_end : has_format Ipv6 (codes "fe80::") ≡ true
  pub one_group_left_out : has_format Ipv6 (codes "1:2:3::5:6:7:8") ≡ true
  pub none_left_out : has_format Ipv6 (codes "1:2:3:4::5:6:7:8") ≡ false
  pub twice : has_format Ipv6 (codes "1::2::3") ≡ false
  pub three_colons : has_format Ipv6 (codes "1:::2") ≡ false
  pub seven_groups : has_format Ipv6 (codes "1:2:3:4:5:6:7") ≡ false
  pub five_digits : has_format Ipv6 (codes "::12345") ≡ false
  pub with_ipv4 : has_format Ipv6 (codes "::ffff:1.2.3.4") ≡ true
  pub six_groups_and_ipv4 : has_format Ipv6 (codes "1:2:3:4:5:6:1.2.3.4") ≡ true
  pub seven_groups_and_ipv4 : has_format Ipv6 (codes "1:2:3:4:5:6:7:1.2.3.4") ≡ false
  pub ipv4_before_the_end : has_format Ipv6 (codes "1.2.3.4::") ≡ false
  pub zone_name : has_format Ipv6 (codes "fe80::1%eth0") ≡ false
  pub ipv4_is_no_ipv6 : has_format Ipv6 (codes "1.2.3.4") ≡ false
  pub ipv6_is_no_ipv4 : has_format Ipv4 (codes "::") ≡ false
  pub ipv4_is_ip : has_format Ip (codes "1.2.3.4") ≡ true
  pub ipv6_is_ip : has_format Ip (codes "::1") ≡ true
  pub name_is_no_ip : has_format Ip (codes "localhost") ≡ false

pub record UuidExamples : Type 0 where
  pub hyphenated : has_format Uuid (codes "67e55044-10b1-426f-9247-BB680E5FE0C8") ≡ true
  pub simple : has_format Uuid (codes "67e5504410b1426f9247bb680e5fe0c8") ≡ true
  pub braced : has_format Uuid (codes "{67e55044-10b1-426f-9247-bb680e5fe0c8}") ≡ true
  pub urn : has_format Uuid (codes "urn:uuid:67e55044-10b1-426f-9247-bb680e5fe0c8") ≡ true
  pub one_brace : has_format Uuid (codes "{67e55044-10b1-426f-9247-bb680e5fe0c8") ≡ false
  pub other_hyphens : has_format Uuid (codes "67e5-504410b1-426f-9247-bb680e5fe0c8") ≡ false
  pub other_letter : has_format Uuid (codes "67e55044-10b1-426f-9247-bb680e5fe0cg") ≡ false
  pub empty : has_format Uuid (codes "") ≡ false
