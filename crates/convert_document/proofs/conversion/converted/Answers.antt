use Rattle.std.proofs.Common.{◌≡◌, ℕ, [], map, subst, true}
use Rattle.std.specs.Prelude.{IfErr, IfOk, OnOk}
use Rattle.schema_tree.specs.Document.{view as document_seen}
use Rattle.schema_tree.specs.Fault.{fault_view}
use Rattle.convert_walks.specs.Told.{faults_of, notes_of}
use Rattle.convert_trees.specs.Unread.{unread_in_document}
use Rattle.emit_defs.specs.Emission.{models_of}
use Rattle.reading_defs.specs.Laws.{defaults_are_sound}
use Rattle.formed_plans.specs.Laws.{plan_of}
use Rattle.convert_document.specs.Emitted.{emission_of, emitted_view}
use Rattle.convert_document.specs.Note.{note_of}
use Rattle.convert_document.specs.Refused.{IsRefusal}
use Rattle.convert_document.proofs.conversion.converted.Goals as goal

pub returns-clause-emission : goal.returns-clause-emission
returns-clause-emission g c =
    let r = g.T.Texts.relations c.args.texts.now in
    let d = document_seen c.args.document.now in
    subst (λ (n : ℕ). IfOk c.converted_within.result (λ e. emitted_view e ≡ emission_of r d c.args.depth n)) c.levels-most.ensures c.converted_within.ensures.emission

pub returns-clause-notes : goal.returns-clause-notes
returns-clause-notes g c =
    let r = g.T.Texts.relations c.args.texts.now in
    let d = document_seen c.args.document.now in
    subst (λ (n : ℕ). IfOk c.converted_within.result (λ e. e.notes.items ≡ map note_of (notes_of r d c.args.depth n))) c.levels-most.ensures c.converted_within.ensures.notes

pub returns-clause-faultless : goal.returns-clause-faultless
returns-clause-faultless g c =
    let r = g.T.Texts.relations c.args.texts.now in
    let d = document_seen c.args.document.now in
    subst (λ (n : ℕ). OnOk c.converted_within.result (faults_of r d c.args.depth n ≡ [])) c.levels-most.ensures c.converted_within.ensures.faultless

pub returns-clause-read : goal.returns-clause-read
returns-clause-read g c =
    let r = g.T.Texts.relations c.args.texts.now in
    let d = document_seen c.args.document.now in
    subst (λ (n : ℕ). OnOk c.converted_within.result (unread_in_document r d c.args.depth n ≡ [])) c.levels-most.ensures c.converted_within.ensures.read

pub returns-clause-sound : goal.returns-clause-sound
returns-clause-sound g c =
    let r = g.T.Texts.relations c.args.texts.now in
    let d = document_seen c.args.document.now in
    subst (λ (n : ℕ). OnOk c.converted_within.result (defaults_are_sound (models_of (plan_of r d c.args.depth n)) (emission_of r d c.args.depth n).conversions r ≡ true)) c.levels-most.ensures c.converted_within.ensures.sound

pub returns-clause-refused : goal.returns-clause-refused
returns-clause-refused g c =
    let r = g.T.Texts.relations c.args.texts.now in
    let d = document_seen c.args.document.now in
    subst (λ (n : ℕ). IfErr c.converted_within.result (λ f. IsRefusal r d c.args.depth n (g.T.Texts.faults c.args.texts.now) (g.T.Texts.faults c.converted_within.new.texts) (fault_view f))) c.levels-most.ensures c.converted_within.ensures.refused
