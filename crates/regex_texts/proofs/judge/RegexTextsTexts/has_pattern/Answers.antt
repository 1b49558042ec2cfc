use Rattle.std.proofs.Common.{◌∙◌, ap, is_some, sym}
use Rattle.regex_texts.proofs.Kept.{not_plain, searched}
use Rattle.regex_texts.proofs.judge.RegexTextsTexts.has_pattern.Goals as goal

pub invariant_of-self : goal.invariant_of-self
invariant_of-self c =
    let m = c.prepare.new.self.compiled in
    let w = c.is_match.new.self in
    record { searching = searched c.args.pattern.now m (c.get_mut.follows.lender w) c.in-Some.search.now w (c.get_mut.follows.holds w).3 c.in-Some.ensures.value c.is_match.ensures.same c.prepare.new.self.searching }

pub returns-in-None-clause-answer : goal.returns-in-None-clause-answer
returns-in-None-clause-answer c =
    sym (not_plain c.args.pattern.now c.args.text.now (sym c.in_ok-prepare.ensures.plain ∙ c.in_ok-prepare.ensures.kept ∙ ap is_some (sym c.in-None.ensures.value)))
