use Rattle.std.proofs.Common.{◌≡◌}
use Rattle.schema_types.specs.View.{properties_view}
use Rattle.merge_apart.specs.Aside.{put_all}
use Rattle.merge_apart.proofs.Putting.{Rises}
use Rattle.merge_apart.proofs.properties.all_properties.Given as goal

abbrev pub invariant-loop-name : goal.invariant-loop-name
invariant-loop-name l = record {
  whole : put_all (properties_view l.name-iterator) (properties_view l.properties.entries) ≡ put_all (properties_view l.fn.aside.entries) (properties_view l.fn.properties.entries);
  left : Rises l.name-iterator;
  rises : Rises l.properties.entries;
}
