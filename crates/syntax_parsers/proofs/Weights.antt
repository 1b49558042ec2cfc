-- What an opened token weighs.
use Rattle.std.proofs.Common.{◌≡◌, ◌+◌, List, Some, None, refl, ap, sym, ◌∙◌}
use Rattle.token_trees.specs.declared.token.Span.{Span}
use Rattle.token_trees.specs.declared.token.Delimiter.{Delimiter}
use Rattle.token_trees.specs.Token.{Tok, word, mark, fixed, group, Toks, no_toks, tok, list_of}
use Rattle.syntax_parsers.specs.Fronts.{opened, tree_weight, toks_weight, weight}

listed_weight : (us : Toks) → toks_weight us ≡ weight (list_of us)
listed_weight no_toks = refl
listed_weight (tok t us) = ap (λ n. tree_weight t + n) (listed_weight us)

pub closed_weight : (t : Tok) → None ≡ opened t → tree_weight t ≡ 1
closed_weight (word x s) e = refl
closed_weight (mark c j s) e = refl
closed_weight (fixed l s) e = refl
closed_weight (group d us s) e = absurd (cc)

pub opened_weight : (t : Tok) (d : Delimiter) (us : List Tok) (s : Span) → Some (d, us, s) ≡ opened t → tree_weight t ≡ 1 + weight us
opened_weight (word x s) d us at e = absurd (cc)
opened_weight (mark c j s) d us at e = absurd (cc)
opened_weight (fixed l s) d us at e = absurd (cc)
opened_weight (group g ts s) d us at e =
    let all : (d, us, at) ≡ (g, list_of ts, s) = cc in
    let same : us ≡ list_of ts = ap (λ (q : Delimiter × List Tok × Span). q.1) all in
    ap (λ n. 1 + n) (listed_weight ts) ∙ ap (λ vs. 1 + weight vs) (sym same)
