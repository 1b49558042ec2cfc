use Rattle.std.proofs.Common.{◌≡◌, ◌++◌, List, map, drop}
use Rattle.model_defs.specs.Settled.{put_all}
use Rattle.typed_defs.specs.Typed.{typeds}
use Rattle.typed_defs.specs.Written.{written, fields_of, fields_write, rests_write}
use Rattle.value_models.specs.TypeView.{type_view, types_view}
use Rattle.value_models.specs.TypedView.{typed_view, typeds_view, pairs_view}
use Rattle.value_models.specs.FieldView.{fields_view}
use Rattle.value_models.specs.ContainersView.{containers_in}
use Rattle.json_value.specs.View.{kept_view}
use Rattle.value_writing.specs.Seen.{kept_members}
use Rattle.value_writing.specs.Pieces.{pairs_written, placed_written, unnamed_written}
use Rattle.value_writing.proofs.writing.+write.Given as goal

abbrev pub invariant-write_items-loop-item : goal.invariant-write_items-loop-item
invariant-write_items-loop-item l =
    map kept_view l.values.items ++ map (λ x. written (containers_in l.containers) (type_view l.inner) x) (typeds_view (drop l.item-index l.items))
    ≡ map (λ x. written (containers_in l.containers) (type_view l.inner) x) (typeds_view l.items)

abbrev pub invariant-put_pairs-loop-name : goal.invariant-put_pairs-loop-name
invariant-put_pairs-loop-name l =
    put_all (pairs_written (containers_in l.containers) (type_view l.key) (type_view l.value) (pairs_view (drop l.name-index l.pairs))) (kept_members l.members.entries)
    ≡ put_all (pairs_written (containers_in l.containers) (type_view l.key) (type_view l.value) (pairs_view l.pairs)) (kept_members l.initial.members.entries)

abbrev pub invariant-write_in_places-loop-place : goal.invariant-write_in_places-loop-place
invariant-write_in_places-loop-place l =
    map kept_view l.values.items ++ placed_written (containers_in l.containers) (types_view (drop l.place l.types)) (typeds_view (drop l.place l.items))
    ≡ placed_written (containers_in l.containers) (types_view l.types) (typeds_view l.items)

abbrev pub invariant-write_unnamed-loop-place : goal.invariant-write_unnamed-loop-place
invariant-write_unnamed-loop-place l =
    map kept_view l.written.items ++ unnamed_written (containers_in l.containers) (fields_view (drop l.place l.fields)) (typeds_view (drop l.place l.values))
    ≡ unnamed_written (containers_in l.containers) (fields_view l.fields) (typeds_view l.values)

abbrev pub invariant-put_fields-loop-place : goal.invariant-put_fields-loop-place
invariant-put_fields-loop-place l =
    fields_write (fields_view (drop l.place l.fields)) (fields_of (containers_in l.containers) (typeds (typeds_view (drop l.place l.values)))) (kept_members l.members.entries)
    ≡ fields_write (fields_view l.fields) (fields_of (containers_in l.containers) (typeds (typeds_view l.values))) (kept_members l.initial.members.entries)

abbrev pub invariant-put_rests-loop-place : goal.invariant-put_rests-loop-place
invariant-put_rests-loop-place l =
    rests_write (fields_view (drop l.place l.fields)) (fields_of (containers_in l.containers) (typeds (typeds_view (drop l.place l.values)))) (kept_members l.members.entries)
    ≡ rests_write (fields_view l.fields) (fields_of (containers_in l.containers) (typeds (typeds_view l.values))) (kept_members l.initial.members.entries)
