-- One answer more.
use Rattle.std.proofs.Common.{◌≡◌, ◌+◌, ℕ, suc, List, [], ◌∷◌, ◌++◌, length, refl, ap, sym, ◌∙◌, subst, append_assoc, arith, length-append}
use Rattle.std.proofs.lemmas.List.{append-nil}
use Rattle.schema_defs.specs.Texts.{Relations}
use Rattle.line_answers.specs.Answers.{AnswerD, answer_line, answer_lines}
use Rattle.typify_run.specs.Call.{Call}
use Rattle.typify_run.specs.Page.{head}
use Rattle.typify_run.specs.declared.report.Report.{Report}
use Rattle.model_lines.specs.Answers.{AreAnswers, IsAnswer, IsAnswered, answers_text}

pub answers_more : (texts : Relations) (r : Report) (ls : List (List ℕ)) (answers : List AnswerD) (l : List ℕ) (a : AnswerD)
    → AreAnswers texts r ls answers → IsAnswer texts r l a → AreAnswers texts r (ls ++ l ∷ []) (answers ++ a ∷ [])
answers_more texts r [] [] l a h k = (k, tt)
answers_more texts r [] (b ∷ bs) l a h k = absurd h
answers_more texts r (m ∷ ms) [] l a h k = absurd h
answers_more texts r (m ∷ ms) (b ∷ bs) l a h k = (h.0, answers_more texts r ms bs l a h.1 k)

pub answered_more : (c : Call) (r : Report) (first : List ℕ) (ls : List (List ℕ)) (answers : List AnswerD) (l : List ℕ) (a : AnswerD)
    → IsAnswered c r first ls answers → IsAnswer c.texts r l a → IsAnswered c r first (ls ++ l ∷ []) (answers ++ a ∷ [])
answered_more c r first ls answers l a h k = record {
  value = h.value;
  short = h.short;
  json = h.json;
  reported = h.reported;
  answered = answers_more c.texts r ls answers l a h.answered k;
}

answer_lines-push : (i : ℕ) (answers : List AnswerD) (a : AnswerD) → answer_lines i (answers ++ a ∷ []) ≡ answer_lines i answers ++ answer_line (i + length answers) a
answer_lines-push i [] a = append-nil (answer_line i a) ∙ ap (λ n. answer_line n a) (let e : i ≡ i + 0 = omega arith in e)
answer_lines-push i (b ∷ bs) a =
    let e : suc i + length bs ≡ i + length (b ∷ bs) = omega arith in
    ap (λ ls. answer_line i b ++ ls) (answer_lines-push (suc i) bs a)
    ∙ sym (append_assoc (answer_line i b) (answer_lines (suc i) bs) (answer_line (suc i + length bs) a))
    ∙ ap (λ n. answer_lines i (b ∷ bs) ++ answer_line n a) e

pub text_more : (r : Report) (answers : List AnswerD) (n : ℕ) (a : AnswerD) → n ≡ length answers → answers_text r (answers ++ a ∷ []) ≡ answers_text r answers ++ answer_line n a
text_more r answers n a e =
    let f : 0 + length answers ≡ n = omega (arith, e) in
    ap (λ t. head r ++ t) (answer_lines-push 0 answers a ∙ ap (λ m. answer_lines 0 answers ++ answer_line m a) f)
    ∙ sym (append_assoc (head r) (answer_lines 0 answers) (answer_line n a))
