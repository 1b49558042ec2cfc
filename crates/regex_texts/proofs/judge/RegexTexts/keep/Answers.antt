use Rattle.std.proofs.Common.{◌≡◌, sym, refl, subst, ℕ, List, true, is_some, string_bytes}
use Rattle.std.specs.BTreeMap.{get_by_text}
use Rattle.regex_texts.specs.Searchers.{Searches, search_seen}
use Rattle.regex_texts.proofs.Kept.{entered, kept_here}
use Rattle.regex_texts.proofs.judge.RegexTexts.keep.Goals as goal

pub invariant_of-self : goal.invariant_of-self
invariant_of-self c = record {
  searching = entered c.insert.result (string_bytes c.in-Ok.key) c.args.self.now.compiled c.insert.new.self c.args.search c.insert.ensures.updates c.insert.ensures.err
      c.args.self.now.searching (subst (λ (q : List ℕ). Searches q (search_seen c.args.search)) (sym c.in-Ok.ensures.ok) c.requires);
}

pub returns-in-Ok-insert-clause-kept : goal.returns-in-Ok-insert-clause-kept
returns-in-Ok-insert-clause-kept c = (
  refl,
  subst (λ (q : List ℕ). is_some (get_by_text c.insert.new.self q) ≡ true) c.in-Ok.ensures.ok
      (kept_here (string_bytes c.in-Ok.key) c.args.self.now.compiled c.insert.new.self c.args.search c.in-Ok-insert.ensures.updates),
)
