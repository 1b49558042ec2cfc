use Rattle.std.proofs.Common.{refl}
use Rattle.attr_defs.proofs.laws.members_are_read.Goals as goal

pub returns : goal.returns
returns c = record {
  many_told = refl;
  many_name = refl;
  many_written = refl;
  many_aliases = refl;
  field_many_told = refl;
  field_aliases = refl;
  skipped_twice = refl;
  skipped_default = refl;
  nothing_borrowed = refl;
  own_lifetimes = refl;
  unknown_told = refl;
  no_newtype = refl;
}
