use Rattle.std.proofs.Common.{refl, sym, ap, subst, ◌∙◌}
use Rattle.std.specs.Prelude.{IfSome}
use Rattle.schema_defs.proofs.Stand.{none_is_not}
use Rattle.schema_types.specs.DocumentView.{document_view}
use Rattle.reference_graph.specs.Graph as graph
use Rattle.reference_graph.specs.Graph.{graph_of}
use Rattle.schema_guards.specs.Targets.{reference_graph_of}
use Rattle.schema_loops.specs.Named.{named_graph}
use Rattle.schema_loops.proofs.Graphs.{guarded_of, graph_is}
use Rattle.schema_loops.proofs.Rounds.{told_numbered, begins_first}
use Rattle.schema_loops.proofs.loop_of.Goals as goal

pub returns-in-Some-clause-none : goal.returns-in-Some-clause-none
returns-in-Some-clause-none c =
    let rows = ap graph_of c.deref-2.ensures.value ∙ c.in_ok-rows.ensures in
    let decided = guarded_of (document_view c.args.document.now) (graph_of c.deref-2.result.now) c.in_ok-path.field-0 rows c.in_ok-path.ensures.none in
    (λ e. absurd (none_is_not c.in_ok-walk-in-Some.walk (sym e)), λ k. absurd (none_is_not c.in-Some.path (sym (decided.1 k) ∙ c.in-Some.is)))

pub returns-in-Some-clause-walk : goal.returns-in-Some-clause-walk
returns-in-Some-clause-walk c =
    let d = document_view c.args.document.now in
    let rows = ap graph_of c.deref-2.ensures.value ∙ c.in_ok-rows.ensures in
    let path = subst (λ o. IfSome o (λ path. graph.IsLoop (graph_of c.deref-2.result.now) path.items)) c.in-Some.is c.in_ok-path.ensures.path in
    let numbered =
    told_numbered d c.in_ok-numbers.numbers c.in_ok-targets.targets.items c.deref.result.now c.deref-in-Some.result.now c.in_ok-targets.ensures.names c.deref.ensures.value c.deref-in-Some.ensures.value c.in_ok-numbers.ensures.names
    c.in_ok-numbers.ensures.count c.in_ok-targets.ensures.rise
    in
    let same = rows ∙ sym (graph_is d c.in_ok-targets.ensures.rise) in
    c.in_ok-walk-in-Some.ensures.round numbered (subst (graph.IsLoop (named_graph d)) (sym c.deref-in-Some-2.ensures.value) (subst (λ g. graph.IsLoop g c.in-Some.path.items) same path))

pub returns-in-Some-clause-first : goal.returns-in-Some-clause-first
returns-in-Some-clause-first c =
    let d = document_view c.args.document.now in
    let rise = c.in_ok-targets.ensures.rise in
    let rows = ap graph_of c.deref-2.ensures.value ∙ c.in_ok-rows.ensures in
    let path = subst (λ o. IfSome o (λ path. graph.IsLoop (graph_of c.deref-2.result.now) path.items)) c.in-Some.is c.in_ok-path.ensures.path in
    let least = subst (λ o. IfSome o (λ path. graph.StartsLeast (graph_of c.deref-2.result.now) path.items)) c.in-Some.is c.in_ok-path.ensures.least in
    let numbered =
    told_numbered d c.in_ok-numbers.numbers c.in_ok-targets.targets.items c.deref.result.now c.deref-in-Some.result.now c.in_ok-targets.ensures.names c.deref.ensures.value c.deref-in-Some.ensures.value c.in_ok-numbers.ensures.names
    c.in_ok-numbers.ensures.count c.in_ok-targets.ensures.rise
    in
    let same = rows ∙ sym (graph_is d rise) in
    let round = subst (graph.IsLoop (named_graph d)) (sym c.deref-in-Some-2.ensures.value) (subst (λ g. graph.IsLoop g c.in-Some.path.items) same path) in
    begins_first d rise c.deref-in-Some-2.result.now c.in_ok-walk-in-Some.walk round
    (subst (graph.StartsLeast (reference_graph_of d)) (sym c.deref-in-Some-2.ensures.value) (subst (λ g. graph.StartsLeast g c.in-Some.path.items) rows least))
    (c.in_ok-walk-in-Some.ensures.start numbered round)

pub returns-clause-none : goal.returns-clause-none
returns-clause-none c =
    let rows = ap graph_of c.deref-2.ensures.value ∙ c.in_ok-rows.ensures in
    let decided = guarded_of (document_view c.args.document.now) (graph_of c.deref-2.result.now) c.in_ok-path.field-0 rows c.in_ok-path.ensures.none in
    (λ k. decided.0 c.in-None.is, λ k. refl)
