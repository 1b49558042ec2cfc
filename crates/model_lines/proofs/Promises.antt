-- What a run's end says, by its status, of an input that is told.
use Rattle.std.proofs.Common.{◌≡◌, ◌≢◌, ◌≤◌, ◌<◌, ◌+◌, ◌⊎◌, inl, inr, ℕ, zero, suc, List, [], ◌∷◌, ◌++◌, Some, None, true, false, length, refl, ap, sym, ◌∙◌, subst, append_assoc, arith, length-append}
use Rattle.std.proofs.lemmas.List.{append-nil}
use Rattle.std.proofs.lemmas.Option.{same_Some}
use Rattle.std.specs.declared.option.Option.{Option}
use Rattle.serde_json.specs.Data.{Data}
use Rattle.json_value.specs.Value.{IsSmall}
use Rattle.json_value.specs.View.{value_of}
use Rattle.schema_defs.specs.Faults.{Rises}
use Rattle.schema_defs.specs.Texts.{Relations, IsLawful}
use Rattle.schema_tree.specs.Fault.{FaultD, fault_view}
use Rattle.schema_tree.specs.declared.fault.Fault.{Fault}
use Rattle.run_io.specs.Bytes.{Takes}
use Rattle.line_reader.specs.Lines.{bound, lines, most}
use Rattle.line_answers.specs.Answers.{AnswerD, long, not_json, wide, taken, refused}
use Rattle.typify_run.specs.Call.{Call}
use Rattle.typify_run.specs.Examine.{IsTextsFault, as_it_stands}
use Rattle.typify_run.specs.Headline.{IsReportOf}
use Rattle.typify_run.specs.Outcome.{IsCauseIn, IsCaused, values_of}
use Rattle.typify_run.specs.PlainInputs.{IsFaultless, IsPrintedOrSpent}
use Rattle.typify_run.specs.declared.report.Report.{Report}
use Rattle.model_lines.specs.Answers.{AreAdmitted, AreAnswers, IsAdmitted, IsAnswer, IsAnswered, IsJson, parts_of}
use Rattle.model_lines.specs.Outcome.{AreFirst, EndsLines, HasNoDocument, HasOverrun, IsAllAnswered, ended}
use Rattle.model_lines.specs.Promises.{BeginsWith, IsAdmittedPage, IsInterrupted}
use Rattle.typify_run.proofs.Parted.{none_examined}
use Rattle.model_lines.proofs.LinesRead.{first_of_all, first_read}

-- a line has one value
one_value : (l : List ℕ) (d e : Data) → IsJson l d → IsJson l e → d ≡ e
one_value l d e a b = same_Some d e (sym a.1 ∙ b.1)

-- a run that read more than it may
over_known : (all : List ℕ) (left' : Option (List ℕ)) (ls : List (List ℕ)) → HasOverrun (Some all) left' ls → AreFirst (Some all) ls
over_known all left' ls o =
    first_read (Some all) left' ls (o.rest ++ o.more) (subst (λ (l : List ℕ). Takes (Some all) left' l) (append_assoc (ended ls) o.rest o.more) o.taken) o.are_open

some_more : (l : List ℕ) → l ≢ [] → 0 < length l
some_more [] n = absurd (n refl)
some_more (x ∷ l) n = omega arith

over_long : (all : List ℕ) (left' : Option (List ℕ)) (ls : List (List ℕ)) → HasOverrun (Some all) left' ls → most < length all
over_long all None ls o = let e : Some all ≡ None = o.taken in cc
over_long all (Some rest) ls o =
    let e : Some all ≡ Some (((ended ls ++ o.rest) ++ o.more) ++ rest) = o.taken in
    let f : all ≡ ((ended ls ++ o.rest) ++ o.more) ++ rest = cc in
    omega (arith, ap length f, length-append ((ended ls ++ o.rest) ++ o.more) rest, length-append (ended ls ++ o.rest) o.more, o.full, some_more o.more o.some)

module _ (all : List ℕ) where
  -- a document was read of it, so that it has one
  has_one : (first : List ℕ) (ls : List (List ℕ)) (d : Data) → HasNoDocument all → AreFirst (Some all) (first ∷ ls) → length first ≤ bound → IsJson first d → ⊥
  has_one first ls d (inl e) known short json = let k : [] ≡ (first ∷ ls) ++ known.0 = sym e ∙ known.1 in cc
  has_one first ls d (inr (f, more, e, inl h)) known short json =
      let k : f ∷ more ≡ first ∷ (ls ++ known.0) = sym e ∙ known.1 in let m : f ≡ first = cc in absurd (omega (arith, h, short, ap length m))
  has_one first ls d (inr (f, more, e, inr h)) known short json =
      let k : f ∷ more ≡ first ∷ (ls ++ known.0) = sym e ∙ known.1 in let m : first ≡ f = cc in h d (subst (λ (l : List ℕ). IsJson l d) m json)

  module _ (c : Call) (left' before after : Option (List ℕ)) where
    pub no_document_ends : (status : ℕ) (report : Option Report) (fault : Option Fault) → HasNoDocument all → EndsLines c (Some all) left' before after status report fault → (status ≡ 3) ⊎ IsInterrupted status
    no_document_ends zero report fault none (r, first, ls, answers, told, a, carried, p) = absurd (has_one first ls a.value none (first_of_all (Some all) (first ∷ ls) told) a.short a.json)
    no_document_ends (suc zero) report fault none (inl (f, (first, d, known, short, json, cause, x, y), p)) = absurd (has_one first [] d none known short json)
    no_document_ends (suc zero) report fault none (inr (f, r, first, ls, answers, (line, known, a, told, rises, x, y), p)) = absurd (has_one first (ls ++ line ∷ []) a.value none known a.short a.json)
    no_document_ends (suc (suc zero)) report fault none h = absurd h
    no_document_ends (suc (suc (suc zero))) report fault none h = inl refl
    no_document_ends (suc (suc (suc (suc zero)))) report fault none h = inr (inl refl)
    no_document_ends (suc (suc (suc (suc (suc zero))))) report fault none (inl (r, first, ls, answers, known, a, carried, p)) = absurd (has_one first ls a.value none known a.short a.json)
    no_document_ends (suc (suc (suc (suc (suc zero))))) report fault none (inr (inl (f, (first, d, known, short, json, cause, x, y), p))) = absurd (has_one first [] d none known short json)
    no_document_ends (suc (suc (suc (suc (suc zero))))) report fault none (inr (inr (f, r, first, ls, answers, (line, known, a, told, rises, x, y), p))) = absurd (has_one first (ls ++ line ∷ []) a.value none known a.short a.json)
    no_document_ends (suc (suc (suc (suc (suc (suc zero)))))) report fault none h = inr (inr refl)
    no_document_ends (suc (suc (suc (suc (suc (suc (suc zero))))))) report fault none (r, first, ls, answers, over, a, carried, p) = absurd (has_one first ls a.value none (over_known all left' (first ∷ ls) over) a.short a.json)
    no_document_ends (suc (suc (suc (suc (suc (suc (suc (suc n)))))))) report fault none h = absurd h

    -- ---- where nothing disturbs a run

    module _ (d : Data) (b : BeginsWith all d) (none : IsFaultless c (parts_of d)) (judge : Rises c.before c.after → ⊥) (short : length all ≤ most) where
      same_first : (first : List ℕ) (ls : List (List ℕ)) → AreFirst (Some all) (first ∷ ls) → first ≡ b.first
      same_first first ls known = let k : first ∷ (ls ++ known.0) ≡ b.first ∷ b.more = sym known.1 ∙ b.is_first in cc

      not_refused : (first : List ℕ) (e : Data) (f : Fault) → AreFirst (Some all) (first ∷ []) → IsJson first e → IsCaused c (parts_of e) f → ⊥
      not_refused first e f known json cause =
          let same : e ≡ d = one_value b.first e d (subst (λ (l : List ℕ). IsJson l e) (same_first first [] known) json) b.json in
          by (subst (λ (x : Data). IsCaused c (parts_of x) f) same cause).1
        where
          by : IsTextsFault c.setting c.texts c.depth c.before c.after (value_of d) (values_of c.command (parts_of d)) (fault_view f) ⊎ IsCauseIn c (parts_of d) (fault_view f) → ⊥
          by (inl t) = judge t.1.2.3
          by (inr k) = none (fault_view f) k

      pub undisturbed : (status : ℕ) (report : Option Report) (fault : Option Fault) → EndsLines c (Some all) left' before after status report fault → status ≢ 4 → status ≢ 5 → IsPrintedOrSpent status
      undisturbed zero report fault h four five = inl refl
      undisturbed (suc zero) report fault (inl (f, (first, e, known, s, json, cause, x, y), p)) four five = absurd (not_refused first e f known json cause)
      undisturbed (suc zero) report fault (inr (f, r, first, ls, answers, (line, known, a, told, rises, x, y), p)) four five = absurd (judge rises)
      undisturbed (suc (suc zero)) report fault h four five = absurd h
      undisturbed (suc (suc (suc zero))) report fault h four five =
          absurd (has_one b.first b.more d h.0 ([], b.is_first ∙ sym (append-nil (b.first ∷ b.more))) b.short b.json)
      undisturbed (suc (suc (suc (suc zero)))) report fault h four five = absurd (four refl)
      undisturbed (suc (suc (suc (suc (suc zero))))) report fault h four five = absurd (five refl)
      undisturbed (suc (suc (suc (suc (suc (suc zero)))))) report fault h four five = inr refl
      undisturbed (suc (suc (suc (suc (suc (suc (suc zero))))))) report fault (r, first, ls, answers, over, a, carried, p) four five = absurd (omega (arith, over_long all left' (first ∷ ls) over, short))
      undisturbed (suc (suc (suc (suc (suc (suc (suc (suc n)))))))) report fault h four five = absurd h

-- ---- where no note stands

module _ (c : Call) (r : Report) (d : Data) (lawful : IsLawful c.texts) (h : IsReportOf c.setting c.texts (value_of d) [] r) (noteless : r.notes.items ≡ []) where
  admitted : (l : List ℕ) (a : AnswerD) → IsAnswer c.texts r l a → IsAdmitted c.texts h.document l a
  admitted l long k = tt
  admitted l not_json k = tt
  admitted l (wide p) k = tt
  admitted l (taken w) (s, (e, json, i, judged)) = (e, json, λ small. sym (h.exact lawful noteless as_it_stands (value_of e) small) ∙ (judged as_it_stands).0)
  admitted l (refused p) (s, (e, json, i, judged)) = (e, json, λ small. sym (h.exact lawful noteless as_it_stands (value_of e) small) ∙ (judged as_it_stands).0)

  pub all_admitted : (ls : List (List ℕ)) (answers : List AnswerD) → AreAnswers c.texts r ls answers → AreAdmitted c.texts h.document ls answers
  all_admitted [] [] k = tt
  all_admitted [] (a ∷ more) k = absurd k
  all_admitted (l ∷ ls) [] k = absurd k
  all_admitted (l ∷ ls) (a ∷ more) k = (admitted l a k.0, all_admitted ls more k.1)

pub admitted_page : (c : Call) (left before after : Option (List ℕ)) (report : Option Report) (fault : Option Fault) → IsLawful c.texts → IsAllAnswered c left before after report fault → IsAdmittedPage c left before after report
admitted_page c left before after report fault lawful (r, first, ls, answers, told, a, carried, p) =
    let h : IsReportOf c.setting c.texts (value_of a.value) [] r = subst (λ (ds : List Data). IsReportOf c.setting c.texts (value_of a.value) ds r) (none_examined c a.value) a.reported.0 in
    (r, first, ls, answers, a.value, h.document, told, a.json, h.is_read, a, carried.0, p, λ none. all_admitted c r a.value lawful h none ls answers a.answered)
