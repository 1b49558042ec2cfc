-- Plain schemas state no value, neither as a default nor in a list that a rule keeps.
use Rattle.std.proofs.Common.{◌≡◌, ℕ, List, [], ◌∷◌, ◌++◌, map, filter, not, Option, Some, None, refl, ◌∙◌}
use Rattle.schema_defs.specs.Texts.{Relations}
use Rattle.schema_defs.specs.Schema.{Document}
use Rattle.entry_defs.specs.Entry.{Entry}
use Rattle.entry_defs.specs.Table.{Table}
use Rattle.convert_defs.specs.Table.{row_of}
use Rattle.convert_defs.specs.Values.{inner_of}
use Rattle.convert_walks.specs.Tree.{Node, document_tree, table_of}
use Rattle.convert_trees.specs.Unread.{stated_default, unread_by, is_given, unread_in}
use Rattle.plain_told.specs.Laws.{PlainIsRead}
use Rattle.plain_laws.proofs.Tree.{Each, Quiet}
use Rattle.plain_laws.proofs.Documents.{document-quiet, rows-of}

module _ (r : Relations) where
  none-unread : (k : Option Table) (e : Entry) → unread_by r k e [] ≡ []
  none-unread None e = refl
  none-unread (Some t) e = refl

  module _ (d : Document) (most : ℕ) (k : Option Table) where
    pub all-read : (ts : List Node) → Each (Quiet r d most) ts → unread_in r k d ts ≡ []
    all-read [] q = refl
    all-read (x ∷ ts) q =
        (λ i. map (λ v. (x.spot.path, v)) (unread_by r k (inner_of x.entry) (q.0.1.finding.listed i) ++ filter (λ v. not (is_given r k x.schema (row_of r d x.schema) x.entry v)) (stated_default (q.0.1.unstated i))) ++ all-read ts q.1 i)
        ∙ (λ i. map (λ v. (x.spot.path, v)) (none-unread k (inner_of x.entry) i ++ []) ++ [])

pub plain_is_read : PlainIsRead
plain_is_read r d depth most n h le = all-read r d most (Some (table_of r d most n)) (document_tree r d most n) (document-quiet r d most n depth le (rows-of d depth h))
