use Rattle.std.proofs.Common.{refl}
use Rattle.std.specs.Str.{chars}
use Rattle.module_laws.proofs.examples.items.Goals as goal

pub returns : goal.returns
unfolding chars lib.Utf8.encode
returns c = record {
  struct_item = refl;
  enum_item = refl;
  places = refl;
  printed = refl;
  declared = refl;
}
