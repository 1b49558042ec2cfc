-- The items that references lead to, and the tables of a space, by judges that answer alike.
use Rattle.std.proofs.Common.{◌≡◌, ℕ, List, [], ◌∷◌, ◌++◌, map, Bool, true, false, refl, sym, ap, subst, ◌∙◌}
use Rattle.schema_defs.specs.Schema.{Definition, Document}
use Rattle.schema_defs.specs.Texts.{Relations}
use Rattle.entry_defs.specs.Entry.{the_root, definition}
use Rattle.convert_defs.specs.Convert.{as_item, root_name}
use Rattle.convert_defs.specs.RootReference.{refers_to_root}
use Rattle.convert_walks.specs.Tree.{Node, tree_at, definition_spot, root_spot, definition_target, root_targets, definition_trees}
use Rattle.convert_walks.specs.Told.{notes_in, faults_in}
use Rattle.merging_laws.specs.Conversion.{AllNodes, Free}
use Rattle.conversion_laws.proofs.FineTrees.{nodes-left, nodes-right}
use Rattle.history_laws.specs.Placing.{with_tree}
use Rattle.history_laws.specs.Added.{used_root_tree, target_nodes, begins_at}
use Rattle.history_laws.specs.Laws.{ComesAbout, by_targets, by_schema, ComesSince, at_once, after_schema}
use Rattle.judge_laws.specs.Asked.{Answered}
use Rattle.judge_laws.specs.Laws.{SameTree, SameTargets, TargetsStay, CleanStays, targets_by, schema_by, JudgesMayChange, nothing_since, schema_since, JudgesMayChangeSince}
use Rattle.judge_laws.proofs.Trees.{IsFine, notes-stay, faults-stay, fine, fine-tree, trees_stay}

module _ (r q : Relations) (d : Document) (most n : ℕ) where
  abbrev Fine : Node → Type 0
  Fine t = IsFine r q d most t

  definition-stays : (e : Definition) → AllNodes Fine (tree_at r d most n (definition_spot r d most n e) e.body) → SameTree r q d most n (definition_spot r d most n e) e.body
  definition-stays e h = fine-tree r q d most n (definition_spot r d most n e) e.body h

  definitions-stay : (ds : List Definition) → AllNodes Fine (definition_trees r d most n ds)
      → (map (definition_target q d most n) ds ≡ map (definition_target r d most n) ds) × (definition_trees q d most n ds ≡ definition_trees r d most n ds)
  definitions-stay [] h = (refl, refl)
  definitions-stay (e ∷ ds) h =
      let here = tree_at r d most n (definition_spot r d most n e) e.body in
      let a = definition-stays e (nodes-left Fine here (definition_trees r d most n ds) h) in
      let rec = definitions-stay ds (nodes-right Fine here (definition_trees r d most n ds) h) in
      let entry = a.entry in
      let tree = a.tree in
      (λ i. record { target = definition e.name; led_to = as_item e.name (entry i) } ∷ rec.0 i, λ i. tree i ++ rec.1 i)

  root-stays : (b : Bool) → AllNodes Fine (used_root_tree r d most n b) → (root_targets q d most n b ≡ root_targets r d most n b) × (used_root_tree q d most n b ≡ used_root_tree r d most n b)
  root-stays true h =
      let a = fine-tree r q d most n (root_spot r d most n) d.root h in
      let entry = a.entry in
      (λ i. record { target = the_root; led_to = as_item (root_name d.root) (entry i) } ∷ [], a.tree)
  root-stays false h = (refl, refl)

  targets-stay : Answered r q d most n (target_nodes r d most n) → SameTargets r q d most n
  targets-stay h =
      let first = definition_trees r d most n d.definitions in
      let last = used_root_tree r d most n (refers_to_root d) in
      let all = fine r q d most n (first ++ last) h in
      let a = definitions-stay d.definitions (nodes-left Fine first last all) in
      let b = root-stays (refers_to_root d) (nodes-right Fine first last all) in
      let nodes : target_nodes q d most n ≡ target_nodes r d most n = λ i. a.1 i ++ b.1 i in
      record {
        table = λ i. record { targets = a.0 i ++ b.0 i; trees = [] };
        nodes = nodes;
        notes = ap (notes_in q d most n) nodes ∙ notes-stay r q d most n (first ++ last) all;
        faults = ap (faults_in q d most n) nodes ∙ faults-stay r q d most n (first ++ last) all;
      }

pub targets_stay : TargetsStay
targets_stay r q d most n h = targets-stay r q d most n h

pub clean_stays : CleanStays
clean_stays = record {
  tree = λ way r q d most n o s h c. let a = trees_stay r q d most n o s h in record { faultless = a.faults ∙ c.faultless; noteless = subst (Free way) (sym a.notes) c.noteless };
  targets = λ way r q d most n h c. let a = targets_stay r q d most n h in record { faultless = a.faults ∙ c.faultless; noteless = subst (Free way) (sym a.notes) c.noteless };
}

-- ---- tables

pub judges_may_change : JudgesMayChange
judges_may_change q d depth n _ (targets_by r h) = subst (ComesAbout q d depth n) (targets_stay r q d depth n h).table by_targets
judges_may_change q d depth n _ (schema_by r t at k s c e h) =
    subst (λ y. ComesAbout q d depth n (with_tree t y)) (trees_stay r q d depth n (begins_at at k) s h).entry (by_schema t at k s (judges_may_change q d depth n t c) e)

pub judges_may_change_since : JudgesMayChangeSince
judges_may_change_since q d depth n t _ nothing_since = at_once
judges_may_change_since q d depth n t _ (schema_since r u at k s c e h) =
    subst (λ y. ComesSince q d depth n t (with_tree u y)) (trees_stay r q d depth n (begins_at at k) s h).entry (after_schema u at k s (judges_may_change_since q d depth n t u c) e)
