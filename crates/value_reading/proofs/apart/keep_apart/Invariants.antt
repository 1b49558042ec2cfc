use Rattle.std.proofs.Common.{◌≡◌, ◌++◌, []}
use Rattle.std.specs.Vec.Iter.{into_iter_items}
use Rattle.typed_defs.specs.Written.{written}
use Rattle.reading_defs.specs.Reading.{keep_apart}
use Rattle.value_models.specs.ContainersView.{containers_in}
use Rattle.value_models.specs.TypeView.{type_view}
use Rattle.value_models.specs.TypedView.{typeds_view}
use Rattle.value_sets.specs.Held.{holds}
use Rattle.value_reading.proofs.KeptApart.{kept_by}
use Rattle.value_reading.proofs.apart.keep_apart.Given as goal

abbrev pub invariant-loop-typed : goal.invariant-loop-typed
invariant-loop-typed l =
    let w = written (containers_in l.containers) (type_view l.ty) in
    typeds_view l.kept.items ++ kept_by w (holds l.seen) (typeds_view (into_iter_items l.typed-iterator)) ≡ keep_apart w [] (typeds_view l.fn.values.items)
