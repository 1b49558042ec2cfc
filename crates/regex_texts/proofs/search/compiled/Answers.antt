use Rattle.std.proofs.Common.{◌∙◌, ap}
use Rattle.regex_texts.specs.Searchers.{finds}
use Rattle.regex_texts.proofs.Searching.{finds_source}
use Rattle.regex_texts.proofs.search.compiled.Goals as goal

pub returns-clause-searches : goal.returns-clause-searches
returns-clause-searches c = λ text small.
    ap (finds text) c.in_ok-matcher.ensures ∙ finds_source c.in_ok-regex.regex c.args.source.now c.in_ok-regex.ensures.source c.in_ok-regex.ensures.config c.in_ok-regex.ensures.read text small
