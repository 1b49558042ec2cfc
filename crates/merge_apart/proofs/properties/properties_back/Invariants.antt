use Rattle.std.proofs.Common.{◌≡◌, true}
use Rattle.schema_types.specs.View.{properties_view}
use Rattle.merge_apart.specs.Aside.{put_all, are_settled}
use Rattle.merge_apart.proofs.Putting.{Rises}
use Rattle.merge_apart.proofs.properties.properties_back.Given as goal

abbrev pub invariant-loop-name : goal.invariant-loop-name
invariant-loop-name l = record {
  whole : put_all (properties_view l.aside.entries) (properties_view l.body.entries) ≡ put_all (properties_view l.fn.aside.entries) (properties_view l.fn.properties.entries);
  rises : Rises l.aside.entries;
  settled : are_settled (properties_view l.fn.aside.entries) ≡ true → are_settled (properties_view l.aside.entries) ≡ true;
}
