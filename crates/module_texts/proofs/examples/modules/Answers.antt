use Rattle.std.proofs.Common.{refl}
use Rattle.std.specs.Str.{chars}
use Rattle.std.specs.Fmt.{digits}
use Rattle.type_spellings.specs.Types.{word_type, plain_path, path_of_one, path_of_two}
use Rattle.plain_patterns.specs.Plain.{members, piece}
use Rattle.plain_patterns.specs.Ends.{looks, read_from, rewritten}
use Rattle.module_texts.proofs.examples.modules.Goals as goal

pub returns : goal.returns
unfolding chars digits lib.Utf8.encode word_type plain_path path_of_one path_of_two looks members piece read_from rewritten
returns c = record {
  root = refl;
  struct_item = refl;
  enum_item = refl;
  set_item = refl;
  empty_item = refl;
  described = refl;
  bounds = refl;
  one_pattern = refl;
  denied = refl;
  one_where = refl;
  listed = refl;
  stated = refl;
  arguments_fit = refl;
  arguments_broken = refl;
  argument_fits = refl;
  argument_broken = refl;
  field_fits = refl;
  field_broken = refl;
  call_fits = refl;
  call_broken = refl;
  call_wide = refl;
  call_kept = refl;
}
