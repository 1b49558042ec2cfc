use Rattle.std.proofs.Common.{refl}
use Rattle.std.specs.Str.{chars}
use Rattle.std.specs.Fmt.{digits}
use Rattle.schema_defs.specs.Location.{place}
use Rattle.emit_defs.proofs.examples.emitted.Goals as goal

pub returns : goal.returns
unfolding chars digits place lib.Utf8.encode
returns c = record {
  of_row_1 = refl;
  of_row_3 = refl;
  of_row_4 = refl;
  of_row_5 = refl;
  of_row_18 = refl;
  of_row_20 = refl;
  of_chain = refl;
  of_enums = refl;
  of_rules = refl;
  of_leading = refl;
  of_alike = refl;
  defaults_of_enums = refl;
  defaults_of_rules = refl;
  constraints_of_rules = refl;
}
