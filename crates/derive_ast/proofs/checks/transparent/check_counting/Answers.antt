use Rattle.std.proofs.Common.{◌++◌, map, ap, ◌∙◌}
use Rattle.attr_parts.specs.Diagnostics.{diagnostics}
use Rattle.derive_ast.specs.Counts.{count_told}
use Rattle.derive_ast.specs.Views.{field_view}
use Rattle.derive_ast.proofs.Counted.{told_by_count}
use Rattle.derive_ast.proofs.checks.transparent.check_counting.Goals as goal

pub returns-clause-ok : goal.returns-clause-ok
returns-clause-ok c =
    let told = ap (λ k. count_told c.args.derive k c.args.at) c.count_fields-count.ensures ∙ told_by_count c.args.derive (map field_view c.args.fields.now) c.args.at in
    c.in_ok-tell_count.ensures.ok ∙ ap (λ ds. diagnostics c.args.cx.now ++ ds) told
