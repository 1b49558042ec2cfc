use Rattle.std.proofs.Common.{refl}
use Rattle.schema_defs.specs.Formats.{is_date, is_date_time}
use Rattle.schema_texts.proofs.examples.calendar_examples.Goals as goal

pub returns : goal.returns
unfolding is_date is_date_time
returns c = record {
  date_taken = refl;
  date_refused = refl;
  date_time_taken = refl;
  date_time_refused = refl;
}
