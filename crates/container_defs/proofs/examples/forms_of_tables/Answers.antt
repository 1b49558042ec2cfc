use Rattle.std.proofs.Common.{refl}
use Rattle.type_spellings.specs.Types.{word_type}
use Rattle.container_defs.proofs.examples.forms_of_tables.Goals as goal

pub returns : goal.returns
unfolding word_type
returns c = record {
  no_items = refl;
  both = refl;
  one_alone = refl;
  one_twice = refl;
}
