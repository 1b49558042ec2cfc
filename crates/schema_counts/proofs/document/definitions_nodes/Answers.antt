use Rattle.std.proofs.Common.{List, ℕ, ◌∷◌, subst, rules}
use Rattle.schema_defs.specs.Laws.{NamesRise}
use Rattle.schema_types.specs.DocumentView.{document_view}
use Rattle.schema_counts.proofs.Defined.{Left, left_all, left_on, none_left}
use Rattle.schema_counts.proofs.document.definitions_nodes.Goals as goal

pub loop-name-init : goal.loop-name-init
loop-name-init c = record {
  left = left_all _ _ c.names-names.ensures.names;
  rise = subst NamesRise c.names-names.ensures.names c.names-names.ensures.ordered;
}

pub loop-name-preserved : goal.loop-name-preserved
loop-name-preserved c =
    let ds = (document_view c.args.document.now).definitions in
    let l : Left ds (c.in-Some.name.now ∷ c.next.new.self) c.loop-name.count = subst (λ (ns : List (List ℕ)). Left ds ns c.loop-name.count) c.in-Some.ensures c.loop-name.invariant.left in
    record {
      left = left_on ds c.loop-name.invariant.rise c.in-Some.name.now c.next.new.self c.loop-name.count _ _ l c.in_ok-definition_nodes.ensures c.in_ok-count.ensures;
      rise = c.loop-name.invariant.rise;
    }

pub returns : goal.returns
returns c = none_left _ _ _ (search rules) c.loop-name.invariant.left
