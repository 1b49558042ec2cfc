use Rattle.std.proofs.Common.{◌≡◌, ◌-◌, ◌∙◌, ap, cond, bytes_eq, Some, None}
use Rattle.std.proofs.lemmas.Map.Text.{btree_map_updates_str}
use Rattle.schema_loops.specs.Named.{number_of_name}
use Rattle.schema_loops.proofs.Graphs.{one_numbered}
use Rattle.schema_loops.proofs.numbers.Numbers.new.Goals as goal

pub loop-place-preserved-in_ok-insert : goal.loop-place-preserved-in_ok-insert
loop-place-preserved-in_ok-insert c = λ n.
    let place = c.loop-place.place in
    let told : number_of_name c.insert.new.self n ≡ cond (bytes_eq c.as_bytes.result.now n) (Some (place - 1)) (number_of_name c.loop-place.by_name n) =
    btree_map_updates_str c.as_bytes.result.now c.loop-place.by_name c.insert.new.self _ c.in_ok-insert.ensures.updates n
    in
    one_numbered c.args.targets.now place n (number_of_name c.insert.new.self n) (Some c.in-Some.name) c.loop-place-test.true c.loop-place.auto.place c.in-Some.is
    (told ∙ ap (λ bs. cond (bytes_eq bs n) (Some (place - 1)) (number_of_name c.loop-place.by_name n)) c.as_bytes.ensures.value ∙ ap (cond (bytes_eq c.in-Some.name.now n) (Some (place - 1))) (c.loop-place.invariant n))

pub loop-place-preserved : goal.loop-place-preserved
loop-place-preserved c = λ n.
    one_numbered c.args.targets.now c.loop-place.place n (number_of_name c.loop-place.by_name n) None c.loop-place-test.true c.loop-place.auto.place c.in_default.is (c.loop-place.invariant n)
