use Rattle.std.proofs.Common.{refl}
use Rattle.schema_defs.specs.Formats.{is_ipv4, is_ipv6}
use Rattle.schema_defs.proofs.examples.address_examples.Goals as goal

pub returns : goal.returns
unfolding is_ipv4 is_ipv6
returns c = record {
  four = refl;
  three = refl;
  leading_zero = refl;
  above_255 = refl;
  eight_groups = refl;
  nothing_but_zeros = refl;
  at_the_end = refl;
  one_group_left_out = refl;
  none_left_out = refl;
  twice = refl;
  three_colons = refl;
  seven_groups = refl;
  five_digits = refl;
  with_ipv4 = refl;
  six_groups_and_ipv4 = refl;
  seven_groups_and_ipv4 = refl;
  ipv4_before_the_end = refl;
  zone_name = refl;
  ipv4_is_no_ipv6 = refl;
  ipv6_is_no_ipv4 = refl;
  ipv4_is_ip = refl;
  ipv6_is_ip = refl;
  name_is_no_ip = refl;
}
