-- From what conversion tells of plain documents to what is examined and run.
use Rattle.std.proofs.Common.{◌≡◌, ◌≢◌, inl, inr, ◌⊎◌, ℕ, zero, suc, ◌≤◌, List, [], ◌∷◌, map, Bool, true, false, Option, Some, None, refl, sym, ap, ◌∙◌, subst, arith}
use Rattle.std.specs.Prelude.{if◌then◌else◌}
use Rattle.std.proofs.lemmas.Option.{none-some, same_Some}
use Rattle.schema_defs.specs.Faults.{Rises}
use Rattle.serde_json.specs.Data.{Data, object, array, no_items, item, member, no_members}
use Rattle.json_value.specs.Value.{Value}
use Rattle.json_value.specs.View.{value_of}
use Rattle.schema_defs.specs.declared.Setting.{Setting}
use Rattle.schema_defs.specs.Texts.{Relations}
use Rattle.schema_defs.specs.Schema.{Document}
use Rattle.distinct_names.specs.Names.{NamesDiffer}
use Rattle.schema_tree.specs.Document.{HasFault, IsAccepted, IsReadAs, IsRefusal as IsUnread}
use Rattle.schema_tree.specs.Fault.{FaultD, memory, fault_view}
use Rattle.schema_tree.specs.declared.fault.Fault.{Fault}
use Rattle.schema_tree.specs.Numbers.{are_i64, HasWideNumber}
use Rattle.run_input.specs.Input.{Parts, IsInput, are_parts, parts_of}
use Rattle.whole_numbers.specs.Whole.{whole}
use Rattle.convert_defs.proofs.Bare.{impossible}
use Rattle.convert_walks.specs.Told.{faults_of}
use Rattle.convert_document.specs.Levels.{most_levels}
use Rattle.convert_document.specs.Note.{note_of}
use Rattle.convert_document.specs.Refused as convert
use Rattle.convert_document.proofs.Firsts.{first_is_one}
use Rattle.plain_defs.specs.Plain.{IsPlain, has_rows}
use Rattle.plain_laws.proofs.Documents.{plain_is_unnoted, rows-of}
use Rattle.plain_reading.specs.Nesting.{nesting}
use Rattle.plain_reading.proofs.Readable.{plain_is_accepted}
use Rattle.plain_reading.proofs.Differ.{text_names_differ}
use Rattle.plain_reading.proofs.Levels.{text_nesting, plain_by_nesting}
use Rattle.plain_told.proofs.Read.{plain_is_read}
use Rattle.plain_told.proofs.Caused.{plain_is_uncaused}
use Rattle.typify_run.specs.Examine.{IsCause, IsRefusal, IsTextsFault, IsEmission, IsUnreported}
use Rattle.typify_run.specs.Call.{Call, call_of, or_zero}
use Rattle.typify_run.specs.Words.{depth_said}
use Rattle.typify_run.specs.Outcome.{values_of, Answers, EndsReading, IsReported, IsCaused, IsCauseIn, IsCutShort}
use Rattle.typify_run.specs.PlainInputs.{IsPlainInput, IsRefusedPlainly, IsPlainCall, EndsPlainly, IsFaultless, IsPrintedOrSpent}
use Rattle.typify_run.specs.declared.report.Report.{Report}
use Rattle.typify_run.proofs.Causes.{no_fault, no_wide, wide_refused, unread_refused, unreported_refused}
use Rattle.typify_run.proofs.Statuses.{one_input}

-- ---- what is examined

module _ (setting : Setting) (depth : ℕ) (schema : Value) (values : List Data) (p : IsPlainInput setting depth schema values) where
  -- the document that it is read as is that one
  plain_too : (d : Document) → IsReadAs setting schema d → IsPlain d depth
  plain_too d read = subst (λ d. IsPlain d depth) (same_Some p.document d (sym p.read ∙ read.read)) p.plain

  pub unnoted : (r : Relations) (report : Report) → IsEmission setting r depth schema report → report.notes.items ≡ []
  unnoted r report e = e.notes ∙ ap (map note_of) (plain_is_unnoted r e.document depth depth most_levels (plain_too e.document e.is_read) (omega (arith)))

  -- a fault has no cause but that there are too few levels, where these are told as memory
  module _ (r : Relations) (differ : NamesDiffer schema) where
    caused : (f : FaultD) → IsCause setting r depth schema values f → f ≡ memory
    caused f (inl h) = absurd (no_wide values f p.small h)
    caused f (inr (h, inl k)) = absurd (no_fault schema f (plain_is_accepted setting schema p.document depth differ p.read p.plain) k)
    caused f (inr (h, inr (d, read, k))) = plain_is_uncaused r d depth depth most_levels (plain_too d read) (omega (arith)) f k

    pub refused_alone : (before after : ℕ) (f : FaultD) → IsRefusal setting r depth before after schema values f → (f ≡ memory) ⊎ IsTextsFault setting r depth before after schema values f
    refused_alone before after f (inl h) = inl h
    refused_alone before after f (inr (inl h)) = inr h
    refused_alone before after f (inr (inr h)) = inl (caused f h)

    -- where lists and objects stand no deeper than texts may, there are levels enough
    module _ (shallow : nesting schema ≤ 127) where
      enough : 256 ≤ most_levels
      unfolding most_levels
      enough = omega (arith)

      without_faults : (d : Document) → IsReadAs setting schema d → faults_of r d depth most_levels ≡ []
      without_faults d read = plain_by_nesting r setting schema d depth depth most_levels read.read (plain_too d read) (omega (arith)) (omega (arith, shallow, enough))

      unconverted : (d : Document) (f : FaultD) → IsReadAs setting schema d → convert.IsCause r d depth most_levels f → ⊥
      unconverted d f read (inl h) = first_is_one r d depth most_levels f h (without_faults d read)
      unconverted d f read (inr (h, u)) = none_listed u.0 u.1 (plain_is_read r d depth depth most_levels (plain_too d read) (omega (arith))) u.2
        where
          none_listed : {A : Type 0} {xs : List A} (a : A) (more : List A) → xs ≡ [] → xs ≡ a ∷ more → ⊥
          none_listed a more e g = absurd (cc)

      pub uncaused : (f : FaultD) → IsCause setting r depth schema values f → ⊥
      uncaused f (inl h) = no_wide values f p.small h
      uncaused f (inr (h, inl k)) = no_fault schema f (plain_is_accepted setting schema p.document depth differ p.read p.plain) k
      uncaused f (inr (h, inr (d, read, k))) = unconverted d f read k

-- ---- what refuses, by the step that does

module _ (setting : Setting) (r : Relations) (depth before after : ℕ) (schema : Value) (values : List Data) (differ : NamesDiffer schema) (f : FaultD) where
  plainly : IsRefusal setting r depth before after schema values f → IsRefusedPlainly setting r depth before after schema values f
  plainly h p = refused_alone setting depth schema values p r differ before after f h

  pub wide_plainly : (f ≡ memory) ⊎ HasWideNumber values f → IsRefusedPlainly setting r depth before after schema values f
  wide_plainly h = plainly (wide_refused setting r depth before after schema values f h)

  pub unread_plainly : are_i64 values ≡ true → IsUnread schema f → IsRefusedPlainly setting r depth before after schema values f
  unread_plainly e h = plainly (unread_refused setting r depth before after schema values f e h)

  pub unreported_plainly : (d : Document) → are_i64 values ≡ true → IsReadAs setting schema d → IsUnreported r d depth before after f → IsRefusedPlainly setting r depth before after schema values f
  unreported_plainly d e read h = plainly (unreported_refused setting r depth before after schema values f d e read h)

-- ---- the input of a run

schema_in : (d : Data) (parts : Parts) → parts_of d ≡ Some parts → NamesDiffer (value_of d) → nesting (value_of d) ≤ 127 → NamesDiffer (value_of parts.schema) × (nesting (value_of parts.schema) ≤ 127)
schema_in (object (member m schema (member n (array values) no_members))) parts e h k = by (are_parts m n) e
  where
    by : (b : Bool) → (if b then Some (record { schema = schema; values = values }) else None) ≡ Some parts → NamesDiffer (value_of parts.schema) × (nesting (value_of parts.schema) ≤ 127)
    by true g = subst (λ q. NamesDiffer (value_of q.schema) × (nesting (value_of q.schema) ≤ 127)) (same_Some (record { schema = schema; values = values }) parts g) (h.1, omega (arith, k))
    by false g = absurd (none-some parts g)
schema_in _ parts e h k = absurd (none-some parts e)

in_input : (bytes : List ℕ) (parts : Parts) → IsInput bytes parts → NamesDiffer (value_of parts.schema) × (nesting (value_of parts.schema) ≤ 127)
in_input bytes parts i = let d = i.read in schema_in d.0 parts d.2 (text_names_differ (whole bytes) d.0 d.1) (text_nesting (whole bytes) d.0 d.1)

pub plain_is_faultless : (c : Call) (bytes : List ℕ) (parts : Parts) → IsInput bytes parts → IsPlainCall c parts → IsFaultless c parts
plain_is_faultless c bytes parts i p f k =
    let h = in_input bytes parts i in
    uncaused c.setting c.depth (value_of parts.schema) (values_of c.command parts) p c.texts h.0 h.1 f k

-- ---- how a run ends

module _ (c : Call) (all : List ℕ) (before after : Option (List ℕ)) where
  answered : (parts : Parts) → IsInput all parts → IsPlainCall c parts → (status : ℕ) (report : Option Report) (fault : Option Fault) → Answers c parts before after status report fault → EndsPlainly c parts before after status report fault
  answered parts i p zero (Some r) None a = inl (refl, (r, refl, refl, unnoted c.setting c.depth (value_of parts.schema) (values_of c.command parts) p c.texts r a.0.3, a.1))
  answered parts i p zero None fault a = absurd a
  answered parts i p zero (Some r) (Some f) a = absurd a
  answered parts i p (suc zero) None (Some f) a = inr (inl (refl, (f, refl, refl, of_texts a.0.1)))
    where
      of_texts : IsTextsFault c.setting c.texts c.depth c.before c.after (value_of parts.schema) (values_of c.command parts) (fault_view f) ⊎ IsCauseIn c parts (fault_view f)
          → IsTextsFault c.setting c.texts c.depth c.before c.after (value_of parts.schema) (values_of c.command parts) (fault_view f)
      of_texts (inl t) = t
      of_texts (inr k) = absurd (plain_is_faultless c all parts i p (fault_view f) k)
  answered parts i p (suc zero) None None a = absurd a
  answered parts i p (suc zero) (Some r) fault a = absurd a
  answered parts i p (suc (suc zero)) report fault a = absurd a
  answered parts i p (suc (suc (suc zero))) report fault a = absurd a
  answered parts i p (suc (suc (suc (suc zero)))) report fault a = absurd a
  answered parts i p (suc (suc (suc (suc (suc zero))))) report fault a = inr (inr (inr (inl refl)))
  answered parts i p (suc (suc (suc (suc (suc (suc zero)))))) report fault a = inr (inr (inr (inr refl)))
  answered parts i p (suc (suc (suc (suc (suc (suc (suc n))))))) report fault a = absurd a

  pub ends_plainly : (status : ℕ) (report : Option Report) (fault : Option Fault) → EndsReading c all before after status report fault → (parts : Parts) → IsInput all parts → IsPlainCall c parts → EndsPlainly c parts before after status report fault
  ends_plainly status report fault (inl h) parts i p = inr (inr (inl h.0))
  ends_plainly status report fault (inr (inl h)) parts i p = absurd (h.1 parts i)
  ends_plainly status report fault (inr (inr (inl h))) parts i p = inr (inr (inr (inr h.0)))
  ends_plainly status report fault (inr (inr (inr h))) parts i p =
      answered parts i p status report fault (subst (λ q. Answers c q before after status report fault) (one_input all h.0 parts h.1 i) h.2)

  -- ---- where nothing disturbs it, whatever the document

  module _ (parts : Parts) (i : IsInput all parts) (none : IsFaultless c parts) (judge : Rises c.before c.after → ⊥) where
    undisturbed : (status : ℕ) (report : Option Report) (fault : Option Fault) → Answers c parts before after status report fault → (status ≡ 5 → ⊥) → IsPrintedOrSpent status
    undisturbed zero report fault a five = inl refl
    undisturbed (suc zero) None (Some f) a five = absurd (by a.0.1)
      where
        by : IsTextsFault c.setting c.texts c.depth c.before c.after (value_of parts.schema) (values_of c.command parts) (fault_view f) ⊎ IsCauseIn c parts (fault_view f) → ⊥
        by (inl t) = judge t.1.2.3
        by (inr k) = none (fault_view f) k
    undisturbed (suc zero) None None a five = absurd a
    undisturbed (suc zero) (Some r) fault a five = absurd a
    undisturbed (suc (suc zero)) report fault a five = absurd a
    undisturbed (suc (suc (suc zero))) report fault a five = absurd a
    undisturbed (suc (suc (suc (suc zero)))) report fault a five = absurd a
    undisturbed (suc (suc (suc (suc (suc zero))))) report fault a five = absurd (five refl)
    undisturbed (suc (suc (suc (suc (suc (suc zero)))))) report fault a five = inr refl
    undisturbed (suc (suc (suc (suc (suc (suc (suc n))))))) report fault a five = absurd a

    pub printed_or_spent : (status : ℕ) (report : Option Report) (fault : Option Fault) → EndsReading c all before after status report fault → (status ≡ 4 → ⊥) → (status ≡ 5 → ⊥) → IsPrintedOrSpent status
    printed_or_spent status report fault (inl h) four five = absurd (four h.0)
    printed_or_spent status report fault (inr (inl h)) four five = absurd (h.1 parts i)
    printed_or_spent status report fault (inr (inr (inl h))) four five = inr h.0
    printed_or_spent status report fault (inr (inr (inr h))) four five =
        undisturbed status report fault (subst (λ q. Answers c q before after status report fault) (one_input all h.0 parts h.1 i) h.2) five

-- ---- other words

no_depth : (setting : Setting) (schema : Value) (values : List Data) → IsPlainInput setting 0 schema values → ⊥
no_depth setting schema values p = impossible (rows-of p.document 0 p.plain)

-- where no depth is said nothing is plain
pub no_words : (words : List (List ℕ)) (texts : Relations) (before after : ℕ) (parts : Parts) → None ≡ depth_said words → IsPlainCall (call_of words texts before after) parts → ⊥
no_words words texts before after parts e p =
    let c = call_of words texts before after in
    no_depth c.setting (value_of parts.schema) (values_of c.command parts) (subst (λ n. IsPlainInput c.setting n (value_of parts.schema) (values_of c.command parts)) (sym (ap or_zero e)) p)
