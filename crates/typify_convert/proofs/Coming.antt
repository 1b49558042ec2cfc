-- The table of each history comes about.
use Rattle.std.proofs.Common.{◌≡◌, ℕ, Option, Some, None, refl}
use Rattle.schema_defs.specs.Location.{Location}
use Rattle.schema_defs.specs.Texts.{Relations}
use Rattle.schema_defs.specs.Schema.{Schema, Document}
use Rattle.schema_defs.specs.Children.{schema_at}
use Rattle.entry_defs.specs.Entry.{Target}
use Rattle.convert_defs.specs.Convert.{Handed}
use Rattle.history_laws.specs.Added.{target_at, wanted_at}
use Rattle.history_laws.specs.Laws.{ComesAbout, by_targets, by_schema}
use Rattle.typify_convert.specs.Space.{History}
use Rattle.typify_convert.specs.Added.{added_by}
use Rattle.typify_convert.specs.Laws.{HistoriesComeAbout}

module _ (r : Relations) (d : Document) (depth n : ℕ) (at : Location) (name : Handed) (h : History) (c : ComesAbout r d depth n h.table) where
  next-comes : (q : Option Target) (o : Option Schema) → schema_at d at ≡ o → ComesAbout r d depth n (added_by r d depth n at name q o h).0.table
  next-comes (Some q) o e = c
  next-comes None (Some s) e = by_schema h.table at (wanted_at d at name) s c e
  next-comes None None e = c

pub histories_come_about : HistoriesComeAbout
histories_come_about r d depth n = record {
  first = λ h. by_targets;
  next = λ at name h c. next-comes r d depth n at name h c (target_at d at) (schema_at d at) refl;
}
