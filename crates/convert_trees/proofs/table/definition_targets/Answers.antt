use Rattle.std.proofs.Common.{ℕ, List, map, refl, sym, ap, ◌∙◌, subst, arith, rules}
use Rattle.schema_defs.specs.Laws.{NamesRise}
use Rattle.schema_defs.specs.Texts.{Relations}
use Rattle.schema_types.specs.View.{schema_view}
use Rattle.schema_tree.specs.Document.{view as document_seen}
use Rattle.schema_tree.specs.Fault.{fault_view}
use Rattle.tree_types.specs.View.{target_entry, tree_view, item_in}
use Rattle.convert_defs.specs.Convert.{as_item}
use Rattle.convert_walks.specs.Tree.{entry_at, tree_at}
use Rattle.document_merges.specs.Definitions.{named_spot}
use Rattle.convert_trees.specs.Keeping.{kept_view}
use Rattle.document_merges.specs.Merges.{merges_in}
use Rattle.convert_trees.specs.Told.{Begins, IsTold, Refuses}
use Rattle.convert_trees.proofs.Ends.{if_err}
use Rattle.convert_trees.proofs.Documents.{Left, First, left_all, first_left, begins_here, body_of, goes_on, stops, all_done, all_told}
use Rattle.convert_trees.proofs.Telling.{refuses_from, want_refuses}
use Rattle.convert_trees.proofs.table.definition_targets.Goals as goal

pub definition_item-requires : goal.definition_item-requires
definition_item-requires g c =
    let r = g.T.Texts.relations c.args.texts.now in
    let d = document_seen c.args.document.now in
    let most = c.args.depth in
    let m = c.args.levels in
    let inv = c.loop-name.invariant in
    let n = c.in-Some.name.now in
    let names = c.next.new.self in
    let targets = map target_entry c.loop-name.targets.items in
    let s = schema_view c.in_ok-schema.schema.now in
    let f : First r d most m n names targets (kept_view c.args.kept.now) (kept_view c.loop-name.kept) =
    first_left r d most m n names targets _ _ (subst (λ (ns : List (List ℕ)). Left r d most m ns targets (kept_view c.args.kept.now) (kept_view c.loop-name.kept)) c.in-Some.ensures inv.left) in
    subst (λ (r : Relations). Begins (kept_view c.loop-name.kept).merges (merges_in (tree_at r d most m (named_spot d n) s))) (sym inv.keeps)
    (begins_here r d most m inv.rise n names targets _ _ f s (body_of r d most m inv.rise n names targets _ _ f s c.in_ok-schema.ensures.body) c.requires)

pub loop-name-init : goal.loop-name-init
loop-name-init g c = record {
  left = left_all _ _ _ _ _ _ _ c.names-names.ensures.names (search rules);
  rise = subst NamesRise c.names-names.ensures.names c.names-names.ensures.ordered;
  keeps = refl;
  counts = omega arith;
}

pub loop-name-preserved : goal.loop-name-preserved
loop-name-preserved g c =
    let r = g.T.Texts.relations c.args.texts.now in
    let d = document_seen c.args.document.now in
    let most = c.args.depth in
    let m = c.args.levels in
    let inv = c.loop-name.invariant in
    let n = c.in-Some.name.now in
    let names = c.next.new.self in
    let targets = map target_entry c.loop-name.targets.items in
    let s = schema_view c.in_ok-schema.schema.now in
    let f : First r d most m n names targets (kept_view c.args.kept.now) (kept_view c.loop-name.kept) =
    first_left r d most m n names targets _ _ (subst (λ (ns : List (List ℕ)). Left r d most m ns targets (kept_view c.args.kept.now) (kept_view c.loop-name.kept)) c.in-Some.ensures inv.left) in
    record {
      left = goes_on r d most m inv.rise n names targets (kept_view c.args.kept.now) (kept_view c.loop-name.kept) f s (item_in (tree_view c.in_ok-item.item)) (kept_view c.definition_item.new.kept)
          (map target_entry c.push_definition.new.targets.items)
          (body_of r d most m inv.rise n names targets _ _ f s c.in_ok-schema.ensures.body)
          (c.in_ok-item.ensures.item ∙ ap (λ r. as_item n (entry_at r d most m (named_spot d n) s)) inv.keeps)
          c.in_ok-push_definition.ensures.targets
          (subst (λ (r : Relations). IsTold r d most m (tree_at r d most m (named_spot d n) s) (kept_view c.loop-name.kept) (kept_view c.definition_item.new.kept)) inv.keeps c.in_ok-item.ensures.told);
      rise = inv.rise;
      keeps = c.in_ok-item.ensures.keeps ∙ inv.keeps;
      counts = omega (arith, inv.counts, c.in_ok-item.ensures.counts);
    }

pub returns-clause-targets : goal.returns-clause-targets
returns-clause-targets g c = all_done _ _ _ _ _ _ _ _ (search rules) c.loop-name.invariant.left

pub returns-clause-told : goal.returns-clause-told
returns-clause-told g c = all_told _ _ _ _ _ _ _ _ (search rules) c.loop-name.invariant.left

pub returns-in_err-schema-clause-refused : goal.returns-in_err-schema-clause-refused
returns-in_err-schema-clause-refused g c =
    if_err c.from_residual.result c.in_err-schema.field-0.0 _ c.from_residual.ensures.1 (want_refuses _ _ _ _ _ _ _ _ c.in_err-schema.ensures.memory)

pub returns-in_err-item-clause-refused : goal.returns-in_err-item-clause-refused
returns-in_err-item-clause-refused g c =
    let r = g.T.Texts.relations c.args.texts.now in
    let d = document_seen c.args.document.now in
    let most = c.args.depth in
    let m = c.args.levels in
    let inv = c.loop-name.invariant in
    let n = c.in-Some.name.now in
    let names = c.next.new.self in
    let targets = map target_entry c.loop-name.targets.items in
    let s = schema_view c.in_ok-schema.schema.now in
    let f : First r d most m n names targets (kept_view c.args.kept.now) (kept_view c.loop-name.kept) =
    first_left r d most m n names targets _ _ (subst (λ (ns : List (List ℕ)). Left r d most m ns targets (kept_view c.args.kept.now) (kept_view c.loop-name.kept)) c.in-Some.ensures inv.left) in
    if_err c.from_residual-in_err-item.result c.in_err-item.field-0.0 _ c.from_residual-in_err-item.ensures.1
    (stops r d most m inv.rise n names targets _ _ f s _ _ _ (body_of r d most m inv.rise n names targets _ _ f s c.in_ok-schema.ensures.body)
    (refuses_from r d most m _ _ _ _ _ inv.counts
    (subst (λ (r : Relations). Refuses r d most m (g.T.Texts.faults c.loop-name.texts) (g.T.Texts.faults c.definition_item.new.texts) (tree_at r d most m (named_spot d n) s) (fault_view c.in_err-item.field-0.0)) inv.keeps c.in_err-item.ensures.refused)))

pub returns-in_err-push_definition-clause-refused : goal.returns-in_err-push_definition-clause-refused
returns-in_err-push_definition-clause-refused g c =
    if_err c.from_residual-in_err-push_definition.result c.in_err-push_definition.field-0.0 _ c.from_residual-in_err-push_definition.ensures.1 (want_refuses _ _ _ _ _ _ _ _ c.in_err-push_definition.ensures.memory)
