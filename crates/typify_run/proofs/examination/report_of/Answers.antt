use Rattle.std.proofs.Common.{◌≡◌, List, true, map, sym, subst}
use Rattle.syntax_trees.specs.Item.{item_view}
use Rattle.syntax_trees.specs.View.{ty}
use Rattle.syntax_trees.specs.declared.item.DeriveInput.{DeriveInput}
use Rattle.serde_json.specs.View.{view}
use Rattle.schema_defs.specs.Texts.{Relations}
use Rattle.type_spellings.specs.Types.{type_of}
use Rattle.schema_tree.specs.Conversions.{conversions_view}
use Rattle.schema_tree.specs.Document.{view as document_seen}
use Rattle.schema_tree.specs.Fault.{fault_view}
use Rattle.reading_defs.specs.Laws.{defaults_are_sound}
use Rattle.convert_document.specs.Emitted.{emitted_view}
use Rattle.derive_model.specs.Judging.{AreSound}
use Rattle.derive_model.specs.VerdictView.{verdict_view}
use Rattle.typify_run.specs.Values.{seen}
use Rattle.typify_run.specs.Headline.{read_of}
use Rattle.typify_run.specs.Examine.{as_it_stands, IsUnreported}
use Rattle.typify_run.specs.Verdicts.{AreVerdicts}
use Rattle.typify_run.proofs.Causes.{told_of_fault, unjudged_refused}
use Rattle.typify_run.proofs.Reported.{sound_read}
use Rattle.typify_run.proofs.examination.report_of.Goals as goal

pub judged-requires-clause-sound : goal.judged-requires-clause-sound
judged-requires-clause-sound g c =
    let e = c.in_ok-emitted.emitted in
    let is = c.in_ok-emitted.ensures in
    let r = g.T.Texts.relations c.args.texts.now in
    let cs = conversions_view e.table in
    subst (λ (k : Relations). defaults_are_sound (read_of as_it_stands (map item_view c.deref.result.now)) cs k ≡ true) (sym is.keeps)
    (subst (λ (is : List DeriveInput). defaults_are_sound (read_of as_it_stands (map item_view is)) cs r ≡ true) (sym c.deref.ensures.value)
    (sound_read r (document_seen c.args.document.now) c.args.depth c.requires.read as_it_stands (emitted_view e) is.emission is.sound))

pub returns-clause-report : goal.returns-clause-report
returns-clause-report g c =
    let e = c.in_ok-emitted.emitted in
    let is = c.in_ok-emitted.ensures in
    let r = g.T.Texts.relations c.args.texts.now in
    let cs = conversions_view e.table in
    let t = type_of (ty e.root) in
    let values = seen c.args.values in
    let verdicts = map verdict_view c.in_ok-verdicts.verdicts.items in
    let told = subst (λ (k : Relations). AreVerdicts (read_of as_it_stands (map item_view c.deref.result.now)) cs k t values verdicts) is.keeps c.in_ok-verdicts.ensures.verdicts in
    record {
      emission = is.emission;
      notes = is.notes;
      faultless = is.faultless;
      read = is.read;
      sound = subst (λ (is : List DeriveInput). AreSound (read_of as_it_stands (map item_view is)) cs r) c.deref.ensures.value
          (subst (λ (k : Relations). AreSound (read_of as_it_stands (map item_view c.deref.result.now)) cs k) is.keeps c.in_ok-verdicts.ensures.sound);
      ordered = c.see_names.ensures;
      verdicts = subst (λ (is : List DeriveInput). AreVerdicts (read_of as_it_stands (map item_view is)) cs r t values verdicts) c.deref.ensures.value told;
    }

pub returns-in_err-verdicts-clause-refused : goal.returns-in_err-verdicts-clause-refused
returns-in_err-verdicts-clause-refused g c =
    let r = g.T.Texts.relations c.args.texts.now in
    let d = document_seen c.args.document.now in
    let before = g.T.Texts.faults c.args.texts.now in
    let after = g.T.Texts.faults c.judged.new.texts in
    let fault = c.in_err-verdicts.field-0.0 in
    told_of_fault c.from_residual-in_err-verdicts.result fault (λ f. IsUnreported r d c.args.depth before after f) c.from_residual-in_err-verdicts.ensures.1
    (unjudged_refused r d c.args.depth before (g.T.Texts.faults c.converted.new.texts) after (fault_view fault) c.in_ok-emitted.ensures.counts c.in_err-verdicts.ensures.refused)
