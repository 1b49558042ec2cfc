use Rattle.std.proofs.Common.{◌+◌, map, drop, ap, sym, ◌∙◌}
use Rattle.derive_ast.specs.Counts.{count_of, counted}
use Rattle.derive_ast.specs.Views.{field_view}
use Rattle.derive_ast.proofs.Counted.{next_count}
use Rattle.derive_ast.proofs.checks.transparent.count_fields.Goals as goal

pub loop-index-preserved : goal.loop-index-preserved
loop-index-preserved c =
    let l = c.loop-index in
    let fields = c.args.fields.now in
    l.invariant
    ∙ next_count c.args.derive field_view fields l.count l.index c.index-fields-index.result c.loop-index-test.true c.index-fields-index.is
    ∙ ap (λ k. counted k (l.index + 1) (count_of c.args.derive (map field_view (drop (l.index + 1) fields)))) (sym c.count_on-count.ensures)
