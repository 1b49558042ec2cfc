use Rattle.std.proofs.Common.{refl}
use Rattle.attr_defs.proofs.laws.odd_attributes_are_told.Goals as goal

pub returns : goal.returns
unfolding lib.Utf8.encode
returns c = record {
  no_list = refl;
  no_value = refl;
  two_texts = refl;
  suffix = refl;
  suffix_tag = refl;
  no_comma = refl;
  no_comma_tag = refl;
  unknown = refl;
  missing_value = refl;
  hidden_text = refl;
  empty = refl;
  flag_twice = refl;
  no_path = refl;
  no_type = refl;
}
