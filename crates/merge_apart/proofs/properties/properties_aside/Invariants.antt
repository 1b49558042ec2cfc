use Rattle.std.proofs.Common.{◌≡◌, true}
use Rattle.schema_types.specs.View.{properties_view}
use Rattle.merge_apart.specs.Aside.{put_all, are_settled}
use Rattle.merge_apart.proofs.Putting.{Rises, NoneOf}
use Rattle.merge_apart.proofs.properties.properties_aside.Given as goal

abbrev pub invariant-loop-name : goal.invariant-loop-name
invariant-loop-name l = record {
  whole : put_all (properties_view l.aside.entries) (put_all (properties_view l.name-iterator) (properties_view l.body.entries)) ≡ put_all (properties_view l.fn.aside.entries) (properties_view l.fn.properties.entries);
  left : Rises l.name-iterator;
  rises : Rises l.aside.entries;
  none : NoneOf (properties_view l.body.entries) l.name-iterator;
  settled : are_settled (properties_view l.fn.aside.entries) ≡ true → are_settled (properties_view l.aside.entries) ≡ true;
}
