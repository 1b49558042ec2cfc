use Rattle.std.proofs.Common.{List, ℕ, ◌∷◌, subst, rules}
use Rattle.schema_defs.specs.Laws.{NamesRise}
use Rattle.schema_tree.specs.Document.{view as document_seen}
use Rattle.document_merges.specs.Merges.{merges_view}
use Rattle.document_merges.proofs.Documents.{Left, left_all, left_none, left_on}
use Rattle.document_merges.proofs.document.of_definitions.Goals as goal

pub loop-name-init : goal.loop-name-init
loop-name-init c = record {
  left = left_all _ _ _ _ _ c.names-names.ensures.names;
  rise = subst NamesRise c.names-names.ensures.names c.names-names.ensures.ordered;
}

pub loop-name-preserved : goal.loop-name-preserved
loop-name-preserved c =
    let d = document_seen c.args.document.now in
    let old = merges_view c.args.merges.now.items in
    let l : Left d c.args.depth c.args.levels (c.in-Some.name.now ∷ c.next.new.self) old (merges_view c.loop-name.merges.items) =
    subst (λ (ns : List (List ℕ)). Left d c.args.depth c.args.levels ns old (merges_view c.loop-name.merges.items)) c.in-Some.ensures c.loop-name.invariant.left in
    record {
      left = left_on d c.args.depth c.args.levels c.loop-name.invariant.rise c.in-Some.name.now c.next.new.self old _ _ l c.in_ok-of_definition.ensures.found;
      rise = c.loop-name.invariant.rise;
    }

pub returns-clause-found : goal.returns-clause-found
returns-clause-found c = λ r. left_none _ _ _ _ _ _ (search rules) c.loop-name.invariant.left r
