use Rattle.std.proofs.Common.{refl}
use Rattle.std.specs.Str.{chars}
use Rattle.unicode_ident.proofs.Computing.{unicode_ident}
use Rattle.tidy_laws.proofs.examples.tidied.Goals as goal

pub returns : goal.returns
unfolding chars lib.Utf8.encode unicode_ident
returns c = record {
  text = refl;
  reads = (1, refl, (1, refl, (1, refl, (1, refl, refl))));
  same = refl;
}
