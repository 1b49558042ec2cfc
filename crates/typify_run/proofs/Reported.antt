-- A report on a document that was read is a report of its schema: what its items mean, by the laws of conversion, emission and reading back.
use Rattle.std.proofs.Common.{◌≡◌, ℕ, List, [], ◌∷◌, map, Bool, true, false, refl, ap, sym, subst, ◌∙◌}
use Rattle.std.specs.List.{AllByRecursion, list_all}
use Rattle.syntax_trees.specs.Item.{ItemD}
use Rattle.serde_json.specs.Data.{Data}
use Rattle.json_value.specs.Value.{Value, IsSmall}
use Rattle.schema_defs.specs.declared.Setting.{Setting}
use Rattle.schema_defs.specs.Texts.{Relations, IsLawful}
use Rattle.schema_defs.specs.Schema.{Document}
use Rattle.attr_defs.specs.Texts.{lexed}
use Rattle.container_defs.specs.Forms.{is_known, names_of, are_inside}
use Rattle.container_defs.specs.Model.{diagnostics_of}
use Rattle.type_spellings.specs.Types.{type_of}
use Rattle.model_defs.specs.Types.{TypeModel}
use Rattle.model_defs.specs.Model.{ContainerModel, ConversionsD}
use Rattle.model_defs.specs.Reach.{NoneReachesItself}
use Rattle.model_defs.specs.Reads.{reads}
use Rattle.model_defs.specs.Settled.{settled}
use Rattle.reading_defs.specs.Proper.{has_json_numbers}
use Rattle.reading_defs.specs.Reading.{reading}
use Rattle.schema_tree.specs.Conversions.{conversions_view}
use Rattle.schema_tree.specs.Document.{IsReadAs}
use Rattle.schema_tree.specs.Numbers.{are_i64}
use Rattle.entry_defs.specs.Table.{Table, root_of}
use Rattle.emit_defs.specs.Emission.{Emission, models_of}
use Rattle.emit_defs.specs.Formed.{IsEmittable}
use Rattle.emit_defs.proofs.Acyclic.{acyclic}
use Rattle.emit_texts.proofs.Functions.{functions_are_read}
use Rattle.emit_texts.proofs.Types.{types_are_read_again}
use Rattle.emit_laws.proofs.Assembled.{items_are_inside, items_are_read, nothing_is_told, roots_are_read, trees_are_roots}
use Rattle.convert_defs.specs.Row.{Way, narrowed, widened}
use Rattle.convert_defs.specs.Laws.{Keeps, same_way}
use Rattle.convert_walks.specs.Told.{Note, notes_of}
use Rattle.merging_laws.specs.Conversion.{Free}
use Rattle.document_laws.specs.Laws.{WasRead}
use Rattle.convert_document.specs.Levels.{most_levels}
use Rattle.merged_documents.specs.Laws.{plan_of}
use Rattle.merged_documents.proofs.Shaped.{read_plans_are_emittable}
use Rattle.merged_documents.proofs.Composed.{documents_mean_items}
use Rattle.derive_model.specs.VerdictView.{verdict_view}
use Rattle.convert_document.specs.Note.{way_of, note_of}
use Rattle.convert_document.specs.Emitted.{emission_of}
use Rattle.reading_defs.specs.Laws.{defaults_are_sound}
use Rattle.writing_laws.specs.Kinds.{untagged_are_apart}
use Rattle.writing_laws.specs.Tables.{IsOrdered, AllOrdered}
use Rattle.emitted_back.proofs.Back.{emitted_is_proper, emitted_settled_is_read_alike}
use Rattle.apart_laws.proofs.Tables.{plans_are_written_apart}
use Rattle.typify_run.specs.Headline as headline
use Rattle.typify_run.specs.Headline.{Deriving, read_of, items_of, HasNone, IsNarrowed, IsWidened, report_reads, document_admits, IsReportOf}
use Rattle.typify_run.specs.Page.{ArePrintable}
use Rattle.typify_run.specs.Examine.{as_it_stands, is_none_of, IsSettledBy, CanJudge, IsMadeOf, SettlesOnce}
use Rattle.typify_run.specs.declared.report.Report.{Report}
use Rattle.typify_run.proofs.Judged.{judged_alike, printable}
use Rattle.typify_run.proofs.Once.{once}
use Rattle.typify_run.proofs.SettledNumbers.{settled_numbers}

-- ---- lists

-- what holds of each for each way of asking holds of each, for each way
pub for_all : {A B : Type 0} (P : B → A → Type 0) (xs : List A) → ((b : B) → AllByRecursion (P b) xs) → AllByRecursion (λ x. (b : B) → P b x) xs
for_all P [] h = tt
for_all P (x ∷ xs) h = (λ b. (h b).0, for_all P xs (λ b. (h b).1))

pub none_listed : {A : Type 0} (xs : List A) → is_none_of xs ≡ true → xs ≡ []
none_listed [] h = refl
none_listed (x ∷ xs) h = cc

none_of_none : {A B : Type 0} (f : A → B) (xs : List A) → map f xs ≡ [] → xs ≡ []
none_of_none f [] h = refl
none_of_none f (x ∷ xs) h = cc

-- ---- notes

not_narrow : (w : Way) → (IsNarrowed (way_of w) → ⊥) → same_way narrowed w ≡ false
not_narrow narrowed h = absurd (h refl)
not_narrow widened h = refl

not_wide : (w : Way) → (IsWidened (way_of w) → ⊥) → same_way widened w ≡ false
not_wide narrowed h = refl
not_wide widened h = absurd (h refl)

free_narrowed : (ns : List Note) → HasNone IsNarrowed (map note_of ns) → Free narrowed ns
free_narrowed [] h = tt
free_narrowed (n ∷ ns) h = (not_narrow n.way h.0, free_narrowed ns h.1)

free_widened : (ns : List Note) → HasNone IsWidened (map note_of ns) → Free widened ns
free_widened [] h = tt
free_widened (n ∷ ns) h = (not_wide n.way h.0, free_widened ns h.1)

free_of_none : (way : Way) (ns : List Note) → ns ≡ [] → Free way ns
free_of_none way ns e = subst (Free way) (sym e) tt

-- one way and the other
both_ways : (a b : Bool) → Keeps narrowed a b → Keeps widened a b → b ≡ a
both_ways true b h k = h refl
both_ways false true h k = sym (k refl)
both_ways false false h k = refl

-- ---- what is emitted, read back

module _ (r : Relations) (d : Document) (depth : ℕ) (w : WasRead d) where
  -- however the items are read, their containers are those that are meant
  pub emitted_models : (how : Deriving) → read_of how (emission_of r d depth most_levels).items ≡ models_of (plan_of r d depth most_levels)
  emitted_models how =
      let plan = plan_of r d depth most_levels in
      items_are_read functions_are_read types_are_read_again how.variant_name how.field_name how.private how.derive plan (read_plans_are_emittable r d depth most_levels w) (root_of plan)

  pub sound_read : (how : Deriving) (e : Emission) → e ≡ emission_of r d depth most_levels → defaults_are_sound (models_of (plan_of r d depth most_levels)) (emission_of r d depth most_levels).conversions r ≡ true
      → defaults_are_sound (read_of how e.items) e.conversions r ≡ true
  sound_read how e is h =
      ap (λ (k : Emission). defaults_are_sound (read_of how k.items) k.conversions r) is
      ∙ ap (λ (ms : List ContainerModel). defaults_are_sound ms (emission_of r d depth most_levels).conversions r) (emitted_models how) ∙ h

-- ---- a report

module _ (r : Relations) (d : Document) (depth : ℕ) (values : List Data) (report : Report) (w : WasRead d) (h : IsMadeOf r d depth values report) where
  abbrev plan : Table
  plan = plan_of r d depth most_levels

  abbrev emitted : Emission
  emitted = emission_of r d depth most_levels

  emittable : IsEmittable plan
  emittable = read_plans_are_emittable r d depth most_levels w

  -- however the items are read, their containers are those that are meant
  same_models : (how : Deriving) → headline.models_of how report ≡ models_of plan
  same_models how = ap (λ (k : Emission). read_of how k.items) h.emission ∙ emitted_models r d depth w how

  ends : NoneReachesItself (read_of as_it_stands (items_of report))
  ends = subst NoneReachesItself (sym (same_models as_it_stands)) (acyclic plan emittable.sound.acyclic)

  abbrev Told : Deriving → ItemD → Type 0
  Told how i = diagnostics_of lexed how.variant_name how.field_name how.private i how.derive ≡ []

  clean : AllByRecursion headline.IsClean (items_of report)
  clean =
      subst (AllByRecursion headline.IsClean) (sym (ap (λ (k : Emission). k.items) h.emission))
      (for_all Told emitted.items (λ how. nothing_is_told functions_are_read types_are_read_again how.variant_name how.field_name how.private how.derive plan emittable (root_of plan)))

  abbrev told_notes : List Note
  told_notes = notes_of r d depth most_levels

  keeps : IsLawful r → (way : Way) → Free way told_notes → (how : Deriving) (v : Value) → IsSmall v → Keeps way (document_admits r d v) (report_reads r report how v)
  keeps lawful way free how v s =
      subst (λ (k : Emission). Keeps way (document_admits r d v) (reads (read_of how k.items) k.conversions r (type_of k.root) v)) (sym h.emission)
      (documents_mean_items how.variant_name how.field_name how.private how.derive way r lawful d depth most_levels w (record { faultless = h.faultless; noteless = free }) v s)

  noteless : report.notes.items ≡ [] → told_notes ≡ []
  noteless e = none_of_none note_of told_notes (sym h.notes ∙ e)

  sound_as : (how : Deriving) → defaults_are_sound (headline.models_of how report) (conversions_view report.conversions) r ≡ true
  sound_as how = ap (λ (ms : List ContainerModel). defaults_are_sound ms (conversions_view report.conversions) r) (same_models how ∙ sym (same_models as_it_stands)) ∙ h.sound.sound

  -- what is said of containers and a table of conversions that are those of the plan
  abbrev IsOnce : List ContainerModel → ConversionsD → TypeModel → Type 0
  IsOnce ms cs t =
      untagged_are_apart ms ≡ true → list_all has_json_numbers cs.defaults ≡ true → AllOrdered cs.defaults → defaults_are_sound ms cs r ≡ true
      → (v : Value) → has_json_numbers v ≡ true → IsOrdered v → reads ms cs r t v ≡ true
      → IsSettledBy (reads ms cs r t) (settled ms cs r t) (settled ms cs r t v) × (reading ms cs r t (settled ms cs r t v) ≡ reading ms cs r t v)

  planned_once : (t : TypeModel) → IsOnce (models_of plan) emitted.conversions t
  planned_once t kinds numbers ordered sound v n o e =
      let apart = plans_are_written_apart r d depth most_levels w kinds numbers ordered in
      let same = emitted_settled_is_read_alike plan emittable apart r sound t v n o e in
      (once (models_of plan) emitted.conversions r (emitted_is_proper plan emittable apart r sound) t v n (settled_numbers (models_of plan) emitted.conversions r numbers t v n) same e, same)

  once_as : (how : Deriving) → IsOnce (headline.models_of how report) (conversions_view report.conversions) (headline.root_of report)
  once_as how =
      subst (λ (ms : List ContainerModel). IsOnce ms (conversions_view report.conversions) (headline.root_of report)) (sym (same_models how))
      (subst (λ (k : Emission). IsOnce (models_of plan) k.conversions (headline.root_of report)) (sym h.emission) (planned_once (headline.root_of report)))

  pub reported : (setting : Setting) (schema : Value) → IsReadAs setting schema d → IsReportOf setting r schema values report
  reported setting schema read = record {
    document = d;
    is_read = read.read;
    clean = clean;
    exact = λ lawful e how v s.
        both_ways (document_admits r d v) (report_reads r report how v)
        (keeps lawful narrowed (free_of_none narrowed told_notes (noteless e)) how v s) (keeps lawful widened (free_of_none widened told_notes (noteless e)) how v s);
    not_narrower = λ lawful n how v s. keeps lawful narrowed (free_narrowed told_notes (subst (HasNone IsNarrowed) h.notes n)) how v s;
    not_wider = λ lawful n how v s. keeps lawful widened (free_widened told_notes (subst (HasNone IsWidened) h.notes n)) how v s;
    sound = λ how. sound_as how;
    verdicts = λ how.
        judged_alike (read_of as_it_stands (items_of report)) (headline.models_of how report) (conversions_view report.conversions) r (headline.root_of report) (headline.root_of report) values (map verdict_view report.verdicts.items)
        (same_models how ∙ sym (same_models as_it_stands)) refl h.verdicts;
  }

  pub all_printable : are_i64 values ≡ true → ArePrintable (map verdict_view report.verdicts.items)
  all_printable i =
      printable (read_of as_it_stands (items_of report)) (conversions_view report.conversions) r (headline.root_of report) values (map verdict_view report.verdicts.items)
      h.sound.numbers i h.verdicts

  pub can_judge : CanJudge r report
  can_judge = record {
    sound = h.sound;
    ends = ends;
    alike = λ how. same_models how ∙ sym (same_models as_it_stands);
    inside = λ how.
        subst (λ (k : Emission). are_inside lexed how.variant_name how.field_name how.private how.derive k.conversions k.items ≡ true) (sym h.emission)
        (items_are_inside functions_are_read types_are_read_again how.variant_name how.field_name how.private how.derive plan emittable (root_of plan));
    known =
        subst (λ (k : Emission). is_known (names_of k.items) (type_of k.root) ≡ true) (sym h.emission)
        (roots_are_read functions_are_read types_are_read_again plan emittable (root_of plan) (trees_are_roots plan emittable).0).0;
  }

  pub settles_once : SettlesOnce r report
  settles_once how apart v n o e = once_as how apart h.sound.numbers h.ordered (sound_as how) v n o e
