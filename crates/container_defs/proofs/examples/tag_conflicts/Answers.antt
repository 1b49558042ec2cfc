use Rattle.std.proofs.Common.{refl}
use Rattle.container_defs.proofs.examples.tag_conflicts.Goals as goal

pub returns : goal.returns
returns c = record {
  same = refl;
  once = refl;
  renamed = refl;
  by_alias = refl;
  renamed_away = refl;
  never_written = refl;
  skipped = refl;
  skipped_variant = refl;
  untagged_variant = refl;
  no_names = refl;
  other_tag = refl;
}
