use Rattle.std.proofs.Common.{◌≡◌, ◌≢◌, ◌+◌, eqb, ℕ, List, [], true, drop, length, reverse, ap, sym, subst, ◌∙◌}
use Rattle.std.specs.Str.{skip_leading_whitespace}
use Rattle.std.proofs.lemmas.Bool.{eqb-false, eqb-true}
use Rattle.std.proofs.lemmas.List.{nil_from_length, drop-drop}
use Rattle.token_trees.specs.declared.token.Delimiter.{Delimiter}
use Rattle.rust_tokens.specs.Groups.{AreClosed}
use Rattle.rust_tokens.specs.Partners.{held}
use Rattle.rust_tokens.proofs.Exact.{none_closed}
use Rattle.rust_tokens.proofs.Places.{past_follows}
use Rattle.rust_tokens.proofs.Quotes.{barren_start, barren_follows}
use Rattle.rust_tokens.proofs.Readings.{past_past}
use Rattle.rust_tokens.proofs.Seeking.{held_none, none_held, step_closed, closed_step, closed_past, past_closed, closed_at_end}
use Rattle.rust_tokens.proofs.partners.are_closed.Goals as goal
use Rattle.rust_tokens.proofs.partners.are_closed.Goals.{then-loop-partners-test+else-not-is_empty, else-loop-partners-test}

abbrev past : List ℕ → List ℕ
past = skip_leading_whitespace

pub loop-partners-init : goal.loop-partners-init
loop-partners-init c =
    let cs = c.args.chars.now in
    let open_brackets = reverse c.args.open_brackets.items in
    let e : c.skip_white-rest.result.now ≡ past cs = c.skip_white-rest.ensures.value in
    let P : List ℕ → Type 0 = λ ds. AreClosed open_brackets ds in
    record {
      barren = barren_start c.skip_white-rest.result.now (length cs) c.skip_white-rest.ensures.within;
      past = ap past e ∙ past_past cs ∙ sym e;
      onward = λ k. subst P (sym e) (closed_past open_brackets cs k);
      back = λ k. past_closed open_brackets cs (subst P e k);
    }

pub loop-partners-preserved : goal.loop-partners-preserved
loop-partners-preserved c =
    let rest = c.loop-partners.rest.now in
    let n = c.in_ok-n.n in
    let old = held c.loop-partners.partners in
    let next = held c.step.new.self in
    let i = c.loop-partners.invariant in
    let e : c.after_token-rest.result.now ≡ past (drop n rest) = c.after_token-rest.ensures.value in
    let some_rest : rest ≢ [] = λ k. eqb-false (length rest) 0 (sym c.is_empty.ensures ∙ c.loop-partners-test.true) (ap length k) in
    let some_held : old ≢ [] =
    λ k. eqb-false c.loop-partners.partners.open_brackets.len 0 (sym c.is_empty-in-loop-partners.ensures ∙ c.if-not-is_empty.true)
    (held_none c.loop-partners.partners.open_brackets.items c.loop-partners.partners.open_brackets.len c.loop-partners.partners.open_brackets.ok.0 k) in
    let P : List ℕ → Type 0 = λ ds. AreClosed next ds in
    let s = c.in_ok-n.ensures in
    record {
      barren = barren_follows rest c.after_token-rest.result.now c.step.new.self.barren (let f = past_follows (drop n rest) in record { skipped = n + f.skipped; is = e ∙ f.is ∙ drop-drop f.skipped n rest }) s.barren;
      past = ap past e ∙ past_past (drop n rest) ∙ sym e;
      onward = λ k. subst P (sym e) (closed_past next (drop n rest) (closed_step old next rest (drop n rest) some_held i.past s.brackets s.passed (i.onward k)));
      back = λ k. i.back (step_closed old next rest (drop n rest) some_rest i.past s.brackets s.passed (past_closed next (drop n rest) (subst P e k)));
    }

pub returns : goal.returns
returns c =
    let rest = c.loop-partners.rest.now in
    let brackets = c.loop-partners.partners.open_brackets in
    let i = c.loop-partners.invariant in
    let P : List Delimiter → Type 0 = λ ds. AreClosed ds rest in
    let empty : brackets.len ≡ 0 → c.is_empty-2.result ≡ true = λ k. c.is_empty-2.ensures ∙ ap (λ n. eqb n 0) k in (
      λ t. i.back (subst P (sym (none_held brackets.items brackets.len brackets.ok.0 (eqb-true brackets.len 0 (sym c.is_empty-2.ensures ∙ t)))) (none_closed rest)),
      λ k. elim c.loop-partners-test.branch [
        | then-loop-partners-test+else-not-is_empty w ↦ c.is_empty-2.ensures ∙ sym w.is_empty-in-loop-partners.ensures ∙ w.if-not-is_empty.false
        | else-loop-partners-test w ↦
            let none : rest ≡ [] = nil_from_length rest (eqb-true (length rest) 0 (sym c.is_empty.ensures ∙ w.loop-partners-test.false)) in
            empty (held_none brackets.items brackets.len brackets.ok.0 (closed_at_end (held c.loop-partners.partners) rest none (i.onward k)))
      ],
    )
