use Rattle.std.proofs.Common.{refl}
use Rattle.std.specs.Str.{chars, is_utf8}
use Rattle.unicode_ident.proofs.Computing.{unicode_ident}
use Rattle.unicode_normalization.proofs.Computing.{unicode_normalization}
use Rattle.naming_defs.proofs.examples.good_names.Goals as goal

pub returns : goal.returns
unfolding chars is_utf8 unicode_ident unicode_normalization lib.Utf8.encode
returns c = record {
  a_letter = refl;
  beyond_ascii = refl;
  a_digit = refl;
  a_blank = refl;
  a_keyword = refl;
  a_primitive = refl;
  of_the_library = refl;
  nothing = refl;
  overlong = refl;
  cut_short = refl;
  to_be_composed = refl;
  another_letter = refl;
}
