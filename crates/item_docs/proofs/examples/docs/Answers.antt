use Rattle.std.proofs.Common.{refl}
use Rattle.std.specs.Str.{chars, is_utf8}
use Rattle.unicode_ident.proofs.Computing.{unicode_ident}
use Rattle.unicode_normalization.proofs.Computing.{unicode_normalization}
use Rattle.schema_defs.specs.Location.{place}
use Rattle.type_spellings.specs.Types.{word_type, path_of_one}
use Rattle.item_docs.proofs.examples.docs.Goals as goal

pub returns : goal.returns
unfolding chars is_utf8 unicode_ident unicode_normalization lib.Utf8.encode place word_type path_of_one
returns c = record {
  both = refl;
  own_name = refl;
  title_alone = refl;
  root_last = refl;
  numbered = refl;
  property_below = refl;
  items_below = refl;
  reference_below = refl;
  no_item_below = refl;
  first_said = refl;
}
