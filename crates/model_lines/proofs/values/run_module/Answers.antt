use Rattle.std.proofs.Common.{◌≡◌, List, refl, sym, ◌∙◌, ap, map, subst}
use Rattle.syntax_trees.specs.Item.{item_view}
use Rattle.line_reader.specs.State.{count_of, held}
use Rattle.typify_run.specs.Examine.{as_it_stands}
use Rattle.typify_run.specs.Headline.{read_of}
use Rattle.model_lines.specs.declared.ending.Ending.{Ending}
use Rattle.model_lines.proofs.Going.{spent}
use Rattle.model_lines.proofs.values.run_module.Goals as goal

pub run_values-requires-clause-made : goal.run_values-requires-clause-made
run_values-requires-clause-made g c = record {
  models = c.in-Ok.ensures.models ∙ ap (λ is. read_of as_it_stands (map item_view is)) c.deref.ensures.value;
  conversions = c.in-Ok.ensures.conversions;
}

pub returns-clause-ends : goal.returns-clause-ends
returns-clause-ends g c = λ k left before asked h.
    let written = g.K.Sink.written c.args.sink.now in
    spent k left (g.S.Source.left c.args.source.now) (held c.args.reader.now) (count_of c.args.reader.now) before written c.args.report.now 0 h
    (g.S.Source.left c.args.source.now) written c.bare.result.status c.bare.result.fault (ap (λ (e : Ending). e.status) c.bare.ensures) (ap (λ (e : Ending). e.fault) c.bare.ensures) refl
