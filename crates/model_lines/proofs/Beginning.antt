-- How a run begins: by the first line, its document and the head of the page.
use Rattle.std.proofs.Common.{◌≡◌, ◌≢◌, ◌≤◌, ◌<◌, ◌+◌, ◌⊎◌, inl, inr, ℕ, List, [], ◌∷◌, ◌++◌, Bool, true, false, Some, None, length, refl, ap, sym, ◌∙◌, subst, append_assoc, arith, length-append}
use Rattle.std.proofs.lemmas.List.{append-nil}
use Rattle.std.specs.declared.option.Option.{Option}
use Rattle.std.specs.Prelude.{IfSome, IfNone, codes}
use Rattle.serde_json.specs.Data.{Data}
use Rattle.schema_tree.specs.declared.fault.Fault.{Fault}
use Rattle.run_io.specs.Bytes.{Appends, AppendsPrefix, Takes}
use Rattle.run_io.proofs.Known.{appends_more}
use Rattle.line_reader.specs.Lines.{feed, bound, kept, most, IsOpen}
use Rattle.line_reader.specs.Reading.{IsEnded, IsFound, IsOverrun, IsSpentBy, IsStopped, IsTooLong}
use Rattle.line_reader.specs.declared.found.Found.{Found}
use Rattle.line_reader.specs.declared.found.Found.TheVariants.{Line, Last, End}
use Rattle.typify_run.specs.Call.{Call}
use Rattle.typify_run.specs.Outcome.{IsCaused, line_of}
use Rattle.typify_run.specs.Page.{head}
use Rattle.typify_run.specs.declared.report.Report.{Report}
use Rattle.model_lines.specs.Answers.{IsAnswered, IsJson, IsNotJson, answers_text, parts_of, stream_page}
use Rattle.model_lines.specs.Going.{IsFirstFound, IsFirstRead, IsGoing, IsReady}
use Rattle.model_lines.specs.Outcome.{AreAll, AreFirst, EndsLines, HasNoDocument, HasRead, IsCutOff, IsNoDocument, IsReadingCut, IsRefusedDocument, ended}
use Rattle.model_lines.specs.Printing.{IsCut, IsEnd, IsFaultEnd}
use Rattle.model_lines.specs.declared.ending.Ending.{Ending}
use Rattle.model_lines.proofs.Appended.{appends_none, front_more, front_wider, whole_front}
use Rattle.model_lines.proofs.Going.{at, cut_off}
use Rattle.model_lines.proofs.LinesRead.{all_but_last, all_ended, first_of_all, first_read, long_first, no_document, nothing_read, too_long}

-- the first line with the line feed that ends it
first_ended : (first held : List ℕ) → first ++ feed ∷ held ≡ ended (first ∷ []) ++ held
first_ended first held = sym (append_assoc first (feed ∷ []) held) ∙ ap (λ l. l ++ held) (sym (append-nil (first ++ feed ∷ [])))

pub first_known : (more : Bool) (left now : Option (List ℕ)) (held : List ℕ) (count : ℕ) (first : List ℕ) → IsFirstRead more left now held count first → AreFirst left (first ∷ [])
first_known true left now held count first h =
    first_read left now (first ∷ []) held (subst (λ (l : List ℕ). Takes left now l) (first_ended first held) h.0) (h.2, tt)
first_known false left now held count first h = first_of_all left (first ∷ []) h

-- ---- the report

head_only : (r : Report) → answers_text r [] ≡ head r
head_only r = append-nil (head r)

module _ (c : Call) (more : Bool) (left now left' : Option (List ℕ)) (held : List ℕ) (count : ℕ) (r : Report) (h : IsReady c more left now held count r) (before : Option (List ℕ)) where
  cut_head : (after : Option (List ℕ)) (status : ℕ) (fault : Option Fault) → (status ≡ 5) ⊎ (status ≡ 6) → fault ≡ None → AppendsPrefix before after (stream_page r []) → EndsLines c left left' before after status (Some r) fault
  cut_head after status fault s f p =
      cut_off c left left' before after (Some r) status None fault s f (inl (r, h.0, [], [], first_known more left now held count h.0 h.1, h.2, (refl, refl), p))

  -- memory ran out before the head was printed
  pub no_head : (status : ℕ) (fault : Option Fault) → status ≡ 6 → fault ≡ None → EndsLines c left left' before before status (Some r) fault
  no_head status fault s f = cut_head before status fault (inr s) f (whole_front before before [] (stream_page r []) (appends_none before))

  -- the head is cut off
  pub head_cut : (after : Option (List ℕ)) (text : List ℕ) (e : Ending) → text ≡ head r → IsCut before after text e → EndsLines c left left' before after e.status (Some r) e.fault
  head_cut after text e is (s, f, p) =
      cut_head after e.status e.fault s f
      (front_wider before after (answers_text r []) (codes "end\n") (subst (λ (t : List ℕ). AppendsPrefix before after t) (is ∙ sym (head_only r)) p))

pub first_going : (c : Call) (left now : Option (List ℕ)) (held : List ℕ) (count : ℕ) (r : Report) (before written : Option (List ℕ)) (text : List ℕ) → IsReady c true left now held count r
    → text ≡ head r → Appends before written text → IsGoing c left now held count before written r 0
first_going c left now held count r before written text h is p = record {
  first = h.0;
  ls = [];
  answers = [];
  taken = subst (λ (l : List ℕ). Takes left now l) (first_ended h.0 held) h.1.0;
  counted = h.1.1 ∙ ap length (first_ended h.0 held);
  are_open = (h.1.2, tt);
  answered = h.2;
  numbered = refl;
  printed = subst (λ (t : List ℕ). Appends before written t) (is ∙ sym (head_only r)) p;
}

-- no further line
pub only_head : (c : Call) (left now left' : Option (List ℕ)) (held : List ℕ) (count : ℕ) (r : Report) (before written after : Option (List ℕ)) (text : List ℕ) (e : Ending) → IsReady c false left now held count r
    → text ≡ head r → Appends before written text → IsEnd written after e → EndsLines c left left' before after e.status (Some r) e.fault
only_head c left now left' held count r before written after text e h is p (inl (s, f, q)) =
    at c left left' before after (Some r) 0 e.status None e.fault s f
    (r, h.0, [], [], h.1, h.2, (refl, refl), subst (λ (t : List ℕ). Appends before after (t ++ codes "end\n")) (is ∙ sym (head_only r)) (appends_more before written after text (codes "end\n") p q))
only_head c left now left' held count r before written after text e h is p (inr (s, f, q)) =
    cut_off c left left' before after (Some r) e.status None e.fault s f
    (inl (r, h.0, [], [], first_of_all left (h.0 ∷ []) h.1, h.2, (refl, refl), subst (λ (t : List ℕ). AppendsPrefix before after (t ++ codes "end\n")) (is ∙ sym (head_only r)) (front_more before written after text (codes "end\n") p q)))

-- ---- the document

pub refused_document : (c : Call) (left left' before after : Option (List ℕ)) (first : List ℕ) (d : Data) (f : Fault) (e : Ending) → AreFirst left (first ∷ []) → length first ≤ bound → IsJson first d → IsCaused c (parts_of d) f
    → IsFaultEnd before after f e → EndsLines c left left' before after e.status None e.fault
refused_document c left left' before after first d f e known short json cause (inl (s, x, p)) =
    at c left left' before after None 1 e.status (Some f) e.fault s x (inl (f, (first, d, known, short, json, cause, refl, refl), p))
refused_document c left left' before after first d f e known short json cause (inr (inl (s, x, p))) =
    cut_off c left left' before after None e.status (Some f) e.fault s x (inr (inl (f, (first, d, known, short, json, cause, refl, refl), p)))
refused_document c left left' before after first d f e known short json cause (inr (inr (s, x, p))) =
    at c left left' before after None 6 e.status None e.fault s x (inl (p, refl, refl))

-- ---- the first line

pub not_a_document : (c : Call) (more : Bool) (left now : Option (List ℕ)) (held : List ℕ) (count : ℕ) (first : List ℕ) (before : Option (List ℕ)) → IsFirstRead more left now held count first
    → (bound < length first) ⊎ IsNotJson first → IsNoDocument left before before None None
not_a_document c more left now held count first before h why = (no_document left first (first_known more left now held count first h) why, (refl, refl, refl))

pub no_first : (left now : Option (List ℕ)) (held : List ℕ) (count : ℕ) (line before : Option (List ℕ)) → IsFound [] held left now 0 count line End → count ≤ most → IsNoDocument left before before None None
no_first left now held count line before h within =
    (nothing_read left (all_ended left now [] h.0.read h.0.is_read.taken h.1 tt h.0.spent (omega (arith, within, h.0.is_read.counted))), (refl, refl, refl))

pub long_document : (left now before : Option (List ℕ)) → IsTooLong [] left now → IsNoDocument left before before None None
long_document left now before h = (too_long left now h.read h.taken h.is_line h.long, (refl, refl, refl))

pub first_line_read : (left now : Option (List ℕ)) (held : List ℕ) (count : ℕ) (line : Option (List ℕ)) → (e : IsEnded [] held left now 0 count line) → IsFirstRead true left now held count e.text
first_line_read left now held count line e =
    (subst (λ (l : List ℕ). Takes left now l) e.parts e.is_read.taken, omega (arith, e.is_read.counted, ap length e.parts), e.is_line)

pub only_line_read : (left now : Option (List ℕ)) (held : List ℕ) (count : ℕ) (line : Option (List ℕ)) → (s : IsSpentBy [] held left now 0 count line) → s.read ≢ [] → count ≤ most → IsFirstRead false left now held count s.read
only_line_read left now held count line s some within =
    all_but_last left now [] s.read s.is_read.taken some s.is_line tt s.spent (omega (arith, within, s.is_read.counted))

-- ---- what is found at the beginning

pub first_found : (old : List ℕ) (was : ℕ) (left now : Option (List ℕ)) (held : List ℕ) (count : ℕ) (line : Option (List ℕ)) (o : Option Found) → old ≡ [] → was ≡ 0
    → IfSome o (λ f. IsFound old held left now was count line f) → IfNone o (IsTooLong old left now) → IsFirstFound left now held count line o
first_found old was left now held count line None e k h n = subst (λ (l : List ℕ). IsTooLong l left now) e n
first_found old was left now held count line (Some f) e k h n =
    subst (λ (l : List ℕ). IsFound l held left now 0 count line f) e (subst (λ (m : ℕ). IsFound old held left now m count line f) k h)

pub first_stopped : (c : Call) (old : List ℕ) (left now before : Option (List ℕ)) → old ≡ [] → IsStopped old left now → IsReadingCut c left now before before None None
first_stopped c old left now before e h =
    inl ((h.read, record { taken = h.taken; are_open = tt; is_open = subst (λ (l : List ℕ). IsOpen (l ++ h.read)) e h.is_line }), (refl, refl, refl))

overrun_told : (left now : Option (List ℕ)) (p more : List ℕ) → Takes left now (p ++ more) → IsOpen p → bound < length p → IfSome left HasNoDocument
overrun_told None now p more e o h = tt
overrun_told (Some all) None p more e o h = cc
overrun_told (Some all) (Some rest) p more e o h = let f : all ≡ (p ++ more) ++ rest = cc in long_first all p (more ++ rest) (f ∙ append_assoc p more rest) o h

pub first_overrun : (old : List ℕ) (was : ℕ) (left now before : Option (List ℕ)) → old ≡ [] → was ≡ 0 → IsOverrun old left now was → IsNoDocument left before before None None
first_overrun old was left now before e k h =
    (overrun_told left now h.read h.more h.taken (subst (λ (l : List ℕ). IsOpen (l ++ h.read)) e h.is_line) (omega (arith, h.counted, k)), (refl, refl, refl))
