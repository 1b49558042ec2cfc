-- What a page says that says `covered`.
use Rattle.std.proofs.Common.{sym, ap, ◌∙◌}
use Rattle.schema_tree.specs.Conversions.{conversions_view}
use Rattle.model_defs.specs.Reads.{reads}
use Rattle.model_defs.specs.Settled.{settled}
use Rattle.typify_run.specs.Headline.{report_settles, root_of}
use Rattle.covers_run.specs.Laws.{NewItemsReadOldValues, OldValuesAreStillAdmitted}

pub new_items_read_old_values : NewItemsReadOldValues
new_items_read_old_values texts old new text lawful from to h how how' v read =
    (λ i. reads (to.alike how' i) (conversions_view new.conversions) texts (root_of new) (settled (from.alike how i) (conversions_view old.conversions) texts (root_of old) v))
    ∙ h.answer.kept texts lawful from.sound v (sym (ap (λ ms. reads ms (conversions_view old.conversions) texts (root_of old) v) (from.alike how)) ∙ read)

pub old_values_are_still_admitted : OldValuesAreStillAdmitted
old_values_are_still_admitted setting texts old_schema new_schema old new text lawful from judges narrowed to judges' widened h = record {
  old_document = from.document;
  old_read = from.is_read;
  new_document = to.document;
  new_read = to.is_read;
  admitted = λ how v small settled_small admits.
      to.not_wider lawful widened how (report_settles texts old how v) settled_small
      (new_items_read_old_values texts old new text lawful judges judges' h how how v (from.not_narrower lawful narrowed how v small admits));
}
