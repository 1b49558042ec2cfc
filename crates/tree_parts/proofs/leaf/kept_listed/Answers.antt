use Rattle.std.proofs.Common.{rules, refl, ◌∙◌, map, option_map}
use Rattle.std.specs.BTreeSet.{contains_text}
use Rattle.json_value.specs.View.{kept_view}
use Rattle.schema_types.specs.View.{texts_view}
use Rattle.tree_parts.proofs.Leaves.{kept_init, none_seen, value_turn, values_drop}
use Rattle.tree_parts.proofs.leaf.kept_listed.Goals as goal

pub loop-value-init : goal.loop-value-init
loop-value-init g c = record {
  left = kept_init (g.T.Texts.relations c.args.texts.now) (option_map (λ x. texts_view x.now) c.args.rules) c.new-kept.result.items (contains_text c.new-seen.result)
      (map kept_view c.args.listed.now.items) c.new-kept.ensures.items (none_seen c.new-seen.result c.new-seen.ensures.empty);
  keeps = refl;
  counts = search rules;
}

pub loop-value-preserved : goal.loop-value-preserved
loop-value-preserved g c = record {
  left = value_turn (g.T.Texts.relations c.loop-value.texts) _ (option_map (λ x. texts_view x.now) c.args.rules) (contains_text c.loop-value.seen) (contains_text c.with_value.new.seen)
      c.loop-value.kept.items c.in_ok-kept.kept.items _ _ _ (kept_view c.value-item.result) c.loop-value.invariant.keeps
      (values_drop c.deref-value-items.result.now c.args.listed.now.items c.loop-value.value-index c.value-item.result c.deref-value-items.ensures.value c.loop-value-test.true c.value-item.is)
      c.in_ok-kept.ensures.answer c.loop-value.invariant.left;
  keeps = c.in_ok-kept.ensures.keeps ∙ c.loop-value.invariant.keeps;
  counts = search rules;
}
