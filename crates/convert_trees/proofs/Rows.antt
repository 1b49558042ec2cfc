-- What a schema states, beside what is told of its parts.
use Rattle.std.proofs.Common.{◌≡◌, ℕ, List, Bool, Option, Some, None, is_some, option_map, ◌∙◌}
use Rattle.schema_defs.specs.Location.{Location}
use Rattle.schema_defs.specs.Texts.{Relations}
use Rattle.schema_defs.specs.Schema.{Schema, Document}
use Rattle.entry_defs.specs.Entry.{Entry}
use Rattle.convert_walks.specs.Tree.{Node}
use Rattle.row_findings.specs.declared.row.Row.{Row as CodeRow}
use Rattle.row_findings.specs.View.{row_view}
use Rattle.convert_trees.specs.declared.keeping.Unread.{Unread}
use Rattle.convert_trees.specs.Unread.{unread_of, unread_in}
use Rattle.convert_trees.specs.Keeping.{KeptD, unread_view, with_before_if}
use Rattle.convert_trees.specs.Told.{IsTold, IsToldOf}
use Rattle.convert_trees.proofs.Telling.{first_of_row}

pub had_seen : (o : Option Unread) (had : Bool) → had ≡ is_some o → had ≡ is_some (option_map unread_view o)
had_seen None had e = e
had_seen (Some u) had e = e

pub told_of_row : (r : Relations) (d : Document) (most n : ℕ) (l : Location) (s : Schema) (row : CodeRow) (e : Entry) (ts : List Node) (j k o : KeptD) (r' : Relations) (had : Bool) → r' ≡ r → had ≡ is_some j.values.unread
    → IsTold r d most n ts j k → o.notes ≡ k.notes → o.merges ≡ k.merges → o.values ≡ with_before_if had (unread_of r' k.values.known l s (row_view r' row) e) k.values → IsToldOf r d most n l s (row_view r row) e ts j o
told_of_row r d most n l s row e ts j k o r' had same h t a m u = record {
  fine = t.fine;
  notes = a ∙ t.notes;
  values = u ∙ (λ i. with_before_if had (unread_of (same i) (t.values i).known l s (row_view (same i) row) e) (t.values i))
      ∙ (λ i. record { known = j.values.known; unread = first_of_row j.values.unread (unread_of r j.values.known l s (row_view r row) e) (unread_in r j.values.known d ts) had h i });
  merges = λ rest q. m ∙ t.merges rest q;
}
