use Rattle.std.proofs.Common.{◌≡◌, ◌∙◌, sym, Some}
use Rattle.std.specs.BTreeMap.{get_by_text}
use Rattle.plain_patterns.specs.Ends.{rewritten, seen}
use Rattle.schema_texts.specs.declared.judge.TextFault.TheVariants.{Failed, Memory}
use Rattle.regex_texts.proofs.Kept.{kept_plain}
use Rattle.regex_texts.proofs.judge.RegexTexts.prepare.Goals as goal

pub returns-then-contains_key-clause-plain : goal.returns-then-contains_key-clause-plain
returns-then-contains_key-clause-plain c =
    sym (kept_plain c.args.pattern.now (get_by_text c.args.self.now.compiled c.args.pattern.now) (c.args.self.now.searching c.args.pattern.now)
    (sym c.contains_key.ensures ∙ c.if-contains_key.true))

pub keep-requires : goal.keep-requires
keep-requires c = c.in-Ok.ensures.searches c.args.pattern.now (sym (rw c.in-Ok-Some.field-0-is at c.in-Ok-Some.ensures.rewritten))

pub returns : goal.returns
returns c =
    let written : Some (seen c.in-Ok-Some.searches) ≡ rewritten c.args.pattern.now = rw c.in-Ok-Some.field-0-is at c.in-Ok-Some.ensures.rewritten in
    record {
      plain = tt;
      kept = tt;
      refused = λ e.
          let failed : c.fault.result ≡ Failed = cc in (
            seen c.in-Ok-Some.searches,
            c.in-Err-compile.error,
            sym written,
            c.fault.ensures.other_cause failed,
            c.in-Err-compile.ensures.no_internal,
            c.in-Err-compile.ensures.refused (c.fault.ensures.other_cause failed),
          );
      failed = λ e. let failed : c.fault.result ≡ Failed = cc in c.fault.ensures.failed failed;
      counts = c.fault.ensures.counts;
      quiet = tt;
      memory = λ e. let failed : c.fault.result ≡ Memory = cc in c.fault.ensures.memory failed;
    }
