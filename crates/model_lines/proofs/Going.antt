-- How a run goes on and ends, from where it has come to.
use Rattle.std.proofs.Common.{◌≡◌, ◌≢◌, ◌≤◌, ◌<◌, ◌+◌, ◌⊎◌, inl, inr, ℕ, List, [], ◌∷◌, ◌++◌, Some, None, length, refl, ap, sym, ◌∙◌, subst, append_assoc, arith, length-append}
use Rattle.std.specs.declared.option.Option.{Option}
use Rattle.std.specs.Prelude.{codes}
use Rattle.std.specs.List.{AllByRecursion}
use Rattle.schema_defs.specs.Faults.{Rises}
use Rattle.schema_tree.specs.Fault as faults
use Rattle.schema_tree.specs.Fault.{fault_view}
use Rattle.schema_tree.specs.declared.fault.Fault.{Fault}
use Rattle.run_io.specs.Bytes.{Appends, AppendsPrefix, IsSpent, Takes}
use Rattle.run_io.proofs.Known.{appends_more}
use Rattle.line_reader.specs.Lines.{feed, bound, kept, lines, most, IsOpen}
use Rattle.line_reader.specs.Reading.{IsEnded, IsOverrun, IsRead, IsSpentBy, IsStopped}
use Rattle.line_answers.specs.Answers.{AnswerD, answer_line}
use Rattle.typify_run.specs.Call.{Call}
use Rattle.typify_run.specs.Outcome.{line_of}
use Rattle.typify_run.specs.declared.report.Report.{Report}
use Rattle.model_lines.specs.Answers.{IsAnswer, IsAnswered, IsAnswerText, answers_text, stream_page}
use Rattle.model_lines.specs.Going.{IsGoing}
use Rattle.model_lines.specs.Outcome.{AreAll, AreFirst, EndsLines, HasOverrun, HasRead, IsCutOff, ended}
use Rattle.model_lines.specs.Printing.{IsAnswerCut, IsCut, IsEnd, IsFaultEnd, IsLastAnswered, IsLineAnswered}
use Rattle.model_lines.specs.declared.ending.Ending.{Ending}
use Rattle.model_lines.proofs.Answering.{answered_more, text_more}
use Rattle.model_lines.proofs.Appended.{front_more, front_still, front_wider, takes_more, whole_front}
use Rattle.model_lines.proofs.LinesRead.{all_but_last, all_ended, ended_more, first_of_all, first_read, open_more}

-- ---- by status

module _ (c : Call) (left left' before after : Option (List ℕ)) (report : Option Report) where
  pub at : (n status : ℕ) (f fault : Option Fault) → status ≡ n → fault ≡ f → EndsLines c left left' before after n report f → EndsLines c left left' before after status report fault
  at n status f fault e k h =
      subst (λ (s : ℕ). EndsLines c left left' before after s report fault) (sym e) (subst (λ (x : Option Fault). EndsLines c left left' before after n report x) (sym k) h)

  pub cut_off : (status : ℕ) (f fault : Option Fault) → (status ≡ 5) ⊎ (status ≡ 6) → fault ≡ f → IsCutOff c left before after report f → EndsLines c left left' before after status report fault
  cut_off status f fault (inl e) k h = at 5 status f fault e k h
  cut_off status f fault (inr e) k h = at 6 status f fault e k (inr h)

-- ---- the bytes read so far, and those that a call read

-- nothing is held and read beyond what was, line after line
along : (front held read all : List ℕ) → held ++ read ≡ all → (front ++ held) ++ read ≡ front ++ all
along front held read all e = append_assoc front held read ∙ ap (λ l. front ++ l) e

module _ (c : Call) (left now : Option (List ℕ)) (held : List ℕ) (count : ℕ) (before written : Option (List ℕ)) (r : Report) (n : ℕ) (g : IsGoing c left now held count before written r n) where
  abbrev read_lines : List (List ℕ)
  read_lines = g.first ∷ g.ls

  taken_by : (now' : Option (List ℕ)) (read all : List ℕ) → Takes now now' read → held ++ read ≡ all → Takes left now' (ended read_lines ++ all)
  taken_by now' read all t e =
      subst (λ (l : List ℕ). Takes left now' l) (along (ended read_lines) held read all e) (takes_more left now now' (ended read_lines ++ held) read g.taken t)

  counted_by : (now' : Option (List ℕ)) (count' : ℕ) (read all : List ℕ) → IsRead now now' count count' read → held ++ read ≡ all → count' ≡ length (ended read_lines ++ all)
  counted_by now' count' read all i e =
      let f : length ((ended read_lines ++ held) ++ read) ≡ length (ended read_lines ++ all) = ap length (along (ended read_lines) held read all e) in
      omega (arith, i.counted, g.counted, f, length-append (ended read_lines ++ held) read)

  -- a line more, and what is said of it
  module _ (l : List ℕ) (a : AnswerD) (k : IsAnswer c.texts r l a) where
    abbrev lines' : List (List ℕ)
    lines' = g.ls ++ l ∷ []

    abbrev answers' : List AnswerD
    answers' = g.answers ++ a ∷ []

    answered' : IsAnswered c r g.first lines' answers'
    answered' = answered_more c r g.first g.ls g.answers l a g.answered k

    text' : answers_text r answers' ≡ answers_text r g.answers ++ answer_line n a
    text' = text_more r g.answers n a g.numbered

  -- one line more is answered
  pub goes_on : (held' : List ℕ) (now' : Option (List ℕ)) (count' : ℕ) (line written' : Option (List ℕ)) → (e : IsEnded held held' now now' count count' line)
      → IsLineAnswered c.texts r n e.text written written' → IsGoing c left now' held' count' before written' r (n + 1)
  goes_on held' now' count' line written' e s =
      let a = s.1.0 in
      let l = e.text in
      let cut : e.text ++ feed ∷ held' ≡ (e.text ++ feed ∷ []) ++ held' = sym (append_assoc e.text (feed ∷ []) held') in
      let joined : ended read_lines ++ (e.text ++ feed ∷ held') ≡ ended (read_lines ++ l ∷ []) ++ held' =
      ap (λ t. ended read_lines ++ t) cut ∙ sym (append_assoc (ended read_lines) (e.text ++ feed ∷ []) held') ∙ ap (λ t. t ++ held') (sym (ended_more read_lines l)) in
      record {
        first = g.first;
        ls = g.ls ++ l ∷ [];
        answers = g.answers ++ a ∷ [];
        taken = subst (λ (t : List ℕ). Takes left now' t) joined (taken_by now' e.read (e.text ++ feed ∷ held') e.is_read.taken e.parts);
        counted = counted_by now' count' e.read (e.text ++ feed ∷ held') e.is_read e.parts ∙ ap length joined;
        are_open = open_more read_lines l g.are_open e.is_line;
        answered = answered' l a s.1.1;
        numbered = omega (arith, g.numbered, length-append g.answers (a ∷ []));
        printed =
            subst (λ (t : List ℕ). Appends before written' t) (sym (text' l a s.1.1))
            (appends_more before written written' (answers_text r g.answers) (answer_line n a) g.printed (subst (λ (t : List ℕ). Appends written written' t) s.1.2 s.2));
      }

  -- nothing more was printed, and the run is cut off
  pub still_cut : (left' after : Option (List ℕ)) (status : ℕ) (fault : Option Fault) → (status ≡ 5) ⊎ (status ≡ 6) → fault ≡ None → AreFirst left read_lines → AppendsPrefix before after (stream_page r g.answers)
      → EndsLines c left left' before after status (Some r) fault
  still_cut left' after status fault s f told p =
      cut_off c left left' before after (Some r) status None fault s f (inl (r, g.first, g.ls, g.answers, told, g.answered, (refl, refl), p))

  pub first_lines : AreFirst left read_lines
  first_lines = first_read left now read_lines held g.taken g.are_open

  -- memory ran out, and nothing more was printed
  pub spent : (left' after : Option (List ℕ)) (status : ℕ) (fault : Option Fault) → status ≡ 6 → fault ≡ None → after ≡ written → EndsLines c left left' before after status (Some r) fault
  spent left' after status fault s f e = still_cut left' after status fault (inr s) f first_lines (front_still before written after (answers_text r g.answers) (codes "end\n") g.printed e)

  -- `end` after all lines
  pub ends_with : (left' after : Option (List ℕ)) (e : Ending) → AreAll left read_lines → IsEnd written after e → EndsLines c left left' before after e.status (Some r) e.fault
  ends_with left' after e all (inl (s, f, p)) =
      at c left left' before after (Some r) 0 e.status None e.fault s f
      (r, g.first, g.ls, g.answers, all, g.answered, (refl, refl), appends_more before written after (answers_text r g.answers) (codes "end\n") g.printed p)
  ends_with left' after e all (inr (s, f, p)) =
      still_cut left' after e.status e.fault s f (first_of_all left read_lines all) (front_more before written after (answers_text r g.answers) (codes "end\n") g.printed p)

  -- a front of a line's answer
  answer_front : (l : List ℕ) (a : AnswerD) (k : IsAnswer c.texts r l a) (bytes : List ℕ) (after : Option (List ℕ)) → bytes ≡ answer_line n a → AppendsPrefix written after bytes
      → AppendsPrefix before after (stream_page r (answers' l a k))
  answer_front l a k bytes after e p =
      front_wider before after (answers_text r (answers' l a k)) (codes "end\n")
      (subst (λ (t : List ℕ). AppendsPrefix before after t) (sym (text' l a k))
      (front_more before written after (answers_text r g.answers) (answer_line n a) g.printed (subst (λ (t : List ℕ). AppendsPrefix written after t) e p)))

  -- the judge of texts failed
  judge_failed : (left' after : Option (List ℕ)) (l : List ℕ) (f : Fault) (e : Ending) → AreFirst left (g.first ∷ (g.ls ++ l ∷ [])) → fault_view f ≡ faults.texts [] → Rises c.before c.after
      → IsFaultEnd written after f e → EndsLines c left left' before after e.status (Some r) e.fault
  judge_failed left' after l f e known k rises (inl (s, x, p)) =
      at c left left' before after (Some r) 1 e.status (Some f) e.fault s x
      (inr (f, r, g.first, g.ls, g.answers, (l, known, g.answered, k, rises, refl, refl), appends_more before written after (answers_text r g.answers) (line_of f) g.printed p))
  judge_failed left' after l f e known k rises (inr (inl (s, x, p))) =
      cut_off c left left' before after (Some r) e.status (Some f) e.fault s x
      (inr (inr (f, r, g.first, g.ls, g.answers, (l, known, g.answered, k, rises, refl, refl), front_more before written after (answers_text r g.answers) (line_of f) g.printed p)))
  judge_failed left' after l f e known k rises (inr (inr (s, x, p))) = spent left' after e.status e.fault s x p

  -- a line's answer is cut off
  pub answer_cut : (left' after : Option (List ℕ)) (l : List ℕ) (old new : ℕ) (e : Ending) → AreFirst left (g.first ∷ (g.ls ++ l ∷ [])) → (Rises old new → Rises c.before c.after)
      → IsAnswerCut c.texts r n l old new written after e → EndsLines c left left' before after e.status (Some r) e.fault
  answer_cut left' after l old new e known rises (inl (bytes, t, (s, x, p))) =
      cut_off c left left' before after (Some r) e.status None e.fault s x
      (inl (r, g.first, g.ls ++ l ∷ [], g.answers ++ t.0 ∷ [], known, answered' l t.0 t.1, (refl, refl), answer_front l t.0 t.1 bytes after t.2 p))
  answer_cut left' after l old new e known rises (inr (inl (s, x, p))) = spent left' after e.status e.fault s x p
  answer_cut left' after l old new e known rises (inr (inr (f, k, h, p))) = judge_failed left' after l f e known k (rises h) p

  -- ---- by what the reader gave

  module _ (now' : Option (List ℕ)) where
    -- the next line is one of the first
    pub next_known : (held' : List ℕ) (count' : ℕ) (line : Option (List ℕ)) → (e : IsEnded held held' now now' count count' line) → AreFirst left (g.first ∷ (g.ls ++ e.text ∷ []))
    next_known held' count' line e =
        let cut : e.text ++ feed ∷ held' ≡ (e.text ++ feed ∷ []) ++ held' = sym (append_assoc e.text (feed ∷ []) held') in
        let joined : ended read_lines ++ (e.text ++ feed ∷ held') ≡ ended (read_lines ++ e.text ∷ []) ++ held' =
        ap (λ t. ended read_lines ++ t) cut ∙ sym (append_assoc (ended read_lines) (e.text ++ feed ∷ []) held') ∙ ap (λ t. t ++ held') (sym (ended_more read_lines e.text)) in
        first_read left now' (read_lines ++ e.text ∷ []) held' (subst (λ (t : List ℕ). Takes left now' t) joined (taken_by now' e.read (e.text ++ feed ∷ held') e.is_read.taken e.parts)) (open_more read_lines e.text g.are_open e.is_line)

    pub none_left : (held' : List ℕ) (count' : ℕ) (line : Option (List ℕ)) → (s : IsSpentBy held held' now now' count count' line) → held ++ s.read ≡ [] → count' ≤ most → AreAll left read_lines
    none_left held' count' line s e within =
        all_ended left now' read_lines (held ++ s.read) (taken_by now' s.read (held ++ s.read) s.is_read.taken refl) e g.are_open s.spent (omega (arith, within, counted_by now' count' s.read (held ++ s.read) s.is_read refl))

    pub last_known : (held' : List ℕ) (count' : ℕ) (line : Option (List ℕ)) → (s : IsSpentBy held held' now now' count count' line) → held ++ s.read ≢ [] → count' ≤ most → AreAll left (g.first ∷ (g.ls ++ (held ++ s.read) ∷ []))
    last_known held' count' line s e within =
        all_but_last left now' read_lines (held ++ s.read) (taken_by now' s.read (held ++ s.read) s.is_read.taken refl) e s.is_line g.are_open s.spent (omega (arith, within, counted_by now' count' s.read (held ++ s.read) s.is_read refl))

    -- reading failed
    pub stopped : (status : ℕ) (fault : Option Fault) → status ≡ 4 → fault ≡ None → IsStopped held now now' → EndsLines c left now' before written status (Some r) fault
    stopped status fault s f h =
        at c left now' before written (Some r) 4 status None fault s f
        (inr (r, g.first, g.ls, g.answers, (held ++ h.read, record { taken = taken_by now' h.read (held ++ h.read) h.taken refl; are_open = g.are_open; is_open = h.is_line }), g.answered, (refl, refl), g.printed))

    pub overrun : (status : ℕ) (fault : Option Fault) → status ≡ 7 → fault ≡ None → IsOverrun held now now' count → EndsLines c left now' before written status (Some r) fault
    overrun status fault s f h =
        at c left now' before written (Some r) 7 status None fault s f (
          r,
          g.first,
          g.ls,
          g.answers,
          record {
            rest = held ++ h.read;
            more = h.more;
            taken = subst (λ (t : List ℕ). Takes left now' t) (sym (append_assoc (ended read_lines ++ held) h.read h.more) ∙ ap (λ t. t ++ h.more) (append_assoc (ended read_lines) held h.read)) (takes_more left now now' (ended read_lines ++ held) (h.read ++ h.more) g.taken h.taken);
            are_open = g.are_open;
            is_open = h.is_line;
            full = omega (arith, h.counted, g.counted, length-append (ended read_lines ++ held) h.read, ap length (append_assoc (ended read_lines) held h.read));
            some = h.some;
          },
          g.answered,
          (refl, refl),
          g.printed,
        )

    printed_by : (l : List ℕ) (mid : Option (List ℕ)) → (s : IsLineAnswered c.texts r n l written mid) → Appends before mid (answers_text r (answers' l s.1.0 s.1.1))
    printed_by l mid s =
        subst (λ (t : List ℕ). Appends before mid t) (sym (text' l s.1.0 s.1.1))
        (appends_more before written mid (answers_text r g.answers) (answer_line n s.1.0) g.printed (subst (λ (t : List ℕ). Appends written mid t) s.1.2 s.2))

    ended_by : (after : Option (List ℕ)) (l : List ℕ) (mid : Option (List ℕ)) (e : Ending) → AreAll left (g.first ∷ (g.ls ++ l ∷ [])) → IsLineAnswered c.texts r n l written mid → IsEnd mid after e
        → EndsLines c left now' before after e.status (Some r) e.fault
    ended_by after l mid e all told (inl (s, f, p)) =
        at c left now' before after (Some r) 0 e.status None e.fault s f
        (r, g.first, g.ls ++ l ∷ [], g.answers ++ told.1.0 ∷ [], all, answered' l told.1.0 told.1.1, (refl, refl), appends_more before mid after (answers_text r (answers' l told.1.0 told.1.1)) (codes "end\n") (printed_by l mid told) p)
    ended_by after l mid e all told (inr (s, f, p)) =
        cut_off c left now' before after (Some r) e.status None e.fault s f
        (inl (r, g.first, g.ls ++ l ∷ [], g.answers ++ told.1.0 ∷ [], first_of_all left (g.first ∷ (g.ls ++ l ∷ [])) all, answered' l told.1.0 told.1.1, (refl, refl), front_more before mid after (answers_text r (answers' l told.1.0 told.1.1)) (codes "end\n") (printed_by l mid told) p))

    -- the last line, which no line feed ends
    pub last_answered : (after : Option (List ℕ)) (held' : List ℕ) (count' : ℕ) (line : Option (List ℕ)) (old new : ℕ) (e : Ending) → (s : IsSpentBy held held' now now' count count' line) → held ++ s.read ≢ [] → count' ≤ most
        → (Rises old new → Rises c.before c.after) → IsLastAnswered c.texts r n (held ++ s.read) old new written after e → EndsLines c left now' before after e.status (Some r) e.fault
    last_answered after held' count' line old new e s some within rises (inr cut) =
        answer_cut now' after (held ++ s.read) old new e (first_of_all left (g.first ∷ (g.ls ++ (held ++ s.read) ∷ [])) (last_known held' count' line s some within)) rises cut
    last_answered after held' count' line old new e s some within rises (inl (mid, told, done)) =
        ended_by after (held ++ s.read) mid e (last_known held' count' line s some within) told done
