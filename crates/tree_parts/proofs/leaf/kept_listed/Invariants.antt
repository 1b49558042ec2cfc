use Rattle.std.proofs.Common.{◌≡◌, ◌≤◌, drop, map, option_map}
use Rattle.std.specs.BTreeSet.{contains_text}
use Rattle.schema_defs.specs.Layer.{if_given, texts_agree}
use Rattle.json_value.specs.View.{kept_view}
use Rattle.schema_types.specs.View.{texts_view}
use Rattle.model_defs.specs.Model.{external_tag}
use Rattle.convert_defs.specs.Scalars.{kept_texts, texts_in, unit_variants}
use Rattle.tree_types.specs.View.{variants_then, cases_of}
use Rattle.tree_parts.specs.Lists.{kept_after}
use Rattle.tree_parts.proofs.leaf.kept_listed.Given as goal

abbrev pub invariant-loop-value : goal.invariant-loop-value
invariant-loop-value g l = record {
  left : variants_then external_tag (cases_of l.kept.items) (unit_variants (kept_after (λ s. if_given (texts_agree (g.T.Texts.relations l.initial.texts) s) (option_map (λ x. texts_view x.now) l.rules)) (contains_text l.seen) (texts_in (map kept_view (drop l.value-index l.listed.items)))))
      ≡ unit_variants (kept_texts (g.T.Texts.relations l.initial.texts) (option_map (λ x. texts_view x.now) l.rules) (map kept_view l.listed.items));
  keeps : g.T.Texts.relations l.texts ≡ g.T.Texts.relations l.initial.texts;
  counts : g.T.Texts.faults l.initial.texts ≤ g.T.Texts.faults l.texts;
}
