use Rattle.std.proofs.Common.{refl}
use Rattle.schema_defs.specs.Formats.{is_date, is_date_time}
use Rattle.schema_defs.proofs.examples.date_examples.Goals as goal

pub returns : goal.returns
unfolding is_date is_date_time
returns c = record {
  date = refl;
  leap_day = refl;
  no_leap_day = refl;
  year_zero = refl;
  short_month = refl;
  month_zero = refl;
  month_13 = refl;
  one_digit = refl;
  sign = refl;
  after_it = refl;
  zulu = refl;
  offset = refl;
  nine_digits = refl;
  ten_digits = refl;
  no_digits = refl;
  no_zone = refl;
  leap_second = refl;
  hour_24 = refl;
  small_letter = refl;
  offset_of_24 = refl;
  no_colon = refl;
}
