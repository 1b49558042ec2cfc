-- The table of each such history comes about by the judge of now.
use Rattle.std.proofs.Common.{◌≡◌, ℕ, Option, Some, None, refl, subst}
use Rattle.schema_defs.specs.Location.{Location}
use Rattle.schema_defs.specs.Texts.{Relations}
use Rattle.schema_defs.specs.Schema.{Schema, Document}
use Rattle.schema_defs.specs.Children.{schema_at}
use Rattle.entry_defs.specs.Entry.{Target}
use Rattle.convert_defs.specs.Convert.{Handed}
use Rattle.history_laws.specs.Placing.{with_tree}
use Rattle.history_laws.specs.Added.{target_at, wanted_at, begins_at}
use Rattle.history_laws.specs.Laws.{ComesAbout, by_targets, by_schema}
use Rattle.judge_laws.specs.Asked.{Answered}
use Rattle.judge_laws.proofs.Tables.{targets_stay}
use Rattle.judge_laws.proofs.Trees.{trees_stay}
use Rattle.typify_convert.specs.Space.{History}
use Rattle.typify_convert.specs.Added.{added_by, nodes_by}
use Rattle.history_judges.specs.Laws.{targets_first, then_schema, HistoriesMayChangeJudges}

module _ (r q : Relations) (d : Document) (depth n : ℕ) (at : Location) (name : Handed) (h : History) (c : ComesAbout q d depth n h.table) where
  next-comes : (o : Option Target) (p : Option Schema) → schema_at d at ≡ p → Answered r q d depth n (nodes_by r d depth n at name o p) → ComesAbout q d depth n (added_by r d depth n at name o p h).0.table
  next-comes (Some t) p e a = c
  next-comes None (Some s) e a =
      let o = begins_at at (wanted_at d at name) in
      subst (λ y. ComesAbout q d depth n (with_tree h.table y)) (trees_stay r q d depth n o s a).entry (by_schema h.table at (wanted_at d at name) s c e)
  next-comes None None e a = c

pub histories_may_change_judges : HistoriesMayChangeJudges
histories_may_change_judges q d depth n _ (targets_first r h a) = subst (ComesAbout q d depth n) (targets_stay r q d depth n a).table by_targets
histories_may_change_judges q d depth n _ (then_schema r at name h g a) =
    next-comes r q d depth n at name h (histories_may_change_judges q d depth n h g) (target_at d at) (schema_at d at) refl a
