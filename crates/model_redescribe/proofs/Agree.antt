-- Reports on one schema.
use Rattle.std.proofs.Common.{◌≡◌, map, sym, ap, ◌∙◌}
use Rattle.std.proofs.lemmas.Option.{same_Some}
use Rattle.schema_defs.specs.Schema.{Document}
use Rattle.convert_walks.specs.Told.{notes_of}
use Rattle.convert_document.specs.Levels.{most_levels}
use Rattle.convert_document.specs.Note.{note_of}
use Rattle.convert_document.specs.Emitted.{emission_of}
use Rattle.model_redescribe.specs.Laws.{ReportsAgree}

pub reports_agree : ReportsAgree
reports_agree setting r depth schema a b e f =
    let same : e.document ≡ f.document = same_Some e.document f.document (sym e.is_read.read ∙ f.is_read.read) in
    record {
      emission = e.emission ∙ ap (λ (d : Document). emission_of r d depth most_levels) same ∙ sym f.emission;
      notes = e.notes ∙ ap (λ (d : Document). map note_of (notes_of r d depth most_levels)) same ∙ sym f.notes;
    }
