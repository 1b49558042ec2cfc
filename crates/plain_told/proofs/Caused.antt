-- No fault of a schema and no stated value refuses a plain document.
use Rattle.std.proofs.Common.{◌≡◌, inl, inr, ℕ, List, [], ◌∷◌, ◌++◌, sym, ap, ◌∙◌, subst}
use Rattle.schema_defs.specs.Texts.{Relations}
use Rattle.schema_defs.specs.Schema.{Document}
use Rattle.schema_tree.specs.Fault.{FaultD, memory}
use Rattle.convert_defs.proofs.Bare.{none_in}
use Rattle.convert_walks.specs.Tree.{Node, document_tree}
use Rattle.convert_walks.specs.Told.{by_levels}
use Rattle.convert_trees.specs.Told.{Tells, TellsOf, of_reason, told_reason}
use Rattle.convert_trees.specs.Unread.{unread_in_document}
use Rattle.convert_document.specs.Refused.{IsCause}
use Rattle.plain_told.specs.Laws.{PlainIsUncaused}
use Rattle.plain_told.proofs.Read.{plain_is_read}
use Rattle.plain_laws.specs.Laws.{AllByLevels}
use Rattle.plain_laws.proofs.Tree.{Each, Quiet}
use Rattle.plain_laws.proofs.Documents.{document-quiet, no-faults, rows-of}

module _ (r : Relations) (d : Document) (most n : ℕ) where
  -- the node between
  at-node : (before : List Node) (t : Node) (after : List Node) → Each (Quiet r d most) (before ++ t ∷ after) → Quiet r d most t
  at-node [] t after q = q.0
  at-node (x ∷ before) t after q = at-node before t after q.1

  told-by-levels : (t : Node) (f : FaultD) → Quiet r d most t → TellsOf r d most n t f → f ≡ memory
  told-by-levels t f q (of_reason l why more e g) =
      let w : why ≡ by_levels = (subst AllByLevels e (no-faults r d most n t.spot t.schema t.state q)).0 in
      g ∙ ap (told_reason r d most n t.schema l) w

  pub told-as-memory : (ts : List Node) → Each (Quiet r d most) ts → (f : FaultD) → Tells r d most n ts f → f ≡ memory
  told-as-memory ts q f t = told-by-levels t.at f (at-node t.before t.at t.after (subst (Each (Quiet r d most)) t.split q)) t.told

  uncaused : Each (Quiet r d most) (document_tree r d most n) → unread_in_document r d most n ≡ [] → (f : FaultD) → IsCause r d most n f → f ≡ memory
  uncaused q u f (inl t) = told-as-memory (document_tree r d most n) q f t
  uncaused q u f (inr c) = none_in _ _ (sym c.1.2 ∙ u)

pub plain_is_uncaused : PlainIsUncaused
plain_is_uncaused r d depth most n h le = uncaused r d most n (document-quiet r d most n depth le (rows-of d depth h)) (plain_is_read r d depth most n h le)
