use Rattle.std.proofs.Common.{◌≡◌, ◌∙◌, subst, IfOk, option_map}
use Rattle.plain_patterns.specs.Ends.{seen}
use Rattle.plain_patterns.proofs.Modes.{first_mode, second_mode}
use Rattle.plain_patterns.proofs.plain_pattern.Goals as goal

pub returns-in-Some : goal.returns-in-Some
returns-in-Some c = record {
  rewritten = first_mode _ _ _ (c.as_slice.ensures.value ∙ c.in_ok-characters.ensures) (rw c.in-Some.is at c.in_ok-written.ensures);
}

pub returns : goal.returns
returns c = record {
  rewritten = subst (λ t. IfOk c.written_in-in-None.result (λ o. option_map seen o ≡ t))
      (second_mode _ _ _ (c.as_slice.ensures.value ∙ c.in_ok-characters.ensures) (rw c.in-None.is at c.in_ok-written.ensures)
      (c.as_slice-in-None.ensures.value ∙ c.in_ok-characters.ensures)) c.written_in-in-None.ensures;
}
