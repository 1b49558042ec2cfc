use Rattle.std.proofs.Common.{refl}
use Rattle.schema_defs.specs.Formats.{is_ipv4, is_ipv6}
use Rattle.schema_texts.proofs.examples.address_examples.Goals as goal

pub returns : goal.returns
unfolding is_ipv4 is_ipv6
returns c = record {
  ipv4_taken = refl;
  ipv4_refused = refl;
  ipv6_taken = refl;
  ipv6_refused = refl;
  ip_taken = refl;
  ip_refused = refl;
}
