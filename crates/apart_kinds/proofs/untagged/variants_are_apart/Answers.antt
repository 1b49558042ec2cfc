use Rattle.std.proofs.Common.{◌+◌, List, ◌∷◌, drop, ap, sym, ◌∙◌}
use Rattle.std.proofs.lemmas.List.{at_drop_more, at_drop_all}
use Rattle.value_models.specs.ContainersView.{containers_in}
use Rattle.value_models.specs.VariantView.{variant_view, variants_view}
use Rattle.value_models.specs.declared.variant.Variant.{Variant}
use Rattle.apart_kinds.proofs.Seen.{left, none_seen, one_seen, one_old}
use Rattle.apart_kinds.proofs.untagged.variants_are_apart.Goals as goal

pub loop-variant-init : goal.loop-variant-init
loop-variant-init c =
    λ closed. let ms = containers_in c.args.table.now.containers in
    ap (λ s. left ms closed s (variants_view c.args.variants.now)) c.none-seen.ensures ∙ none_seen ms closed (variants_view c.args.variants.now)

pub loop-variant-preserved : goal.loop-variant-preserved
loop-variant-preserved c =
    λ closed. let l = c.loop-variant in
    let ms = containers_in c.args.table.now.containers in
    let xs = c.args.variants.now in
    let x = c.variant-item.result in
    let here = at_drop_more (λ (ws : List Variant). left ms closed l.seen (variants_view ws)) xs l.variant-index x c.loop-variant-test.true in
    let mine = ap (λ w. left ms closed l.seen (variant_view w ∷ variants_view (drop (l.variant-index + 1) xs))) (sym c.variant-item.is) in
    sym (one_seen ms closed l.seen c.content_kinds-kinds.result c.either-seen.result (variant_view x) (variants_view (drop (l.variant-index + 1) xs)) (c.content_kinds-kinds.ensures closed) c.either-seen.ensures
    (sym c.is_apart.ensures ∙ c.if-not-is_apart.false))
    ∙ sym (here ∙ mine) ∙ l.invariant closed

pub returns-then-not-is_apart : goal.returns-then-not-is_apart
returns-then-not-is_apart c =
    λ closed. let l = c.loop-variant in
    let ms = containers_in c.args.table.now.containers in
    let xs = c.args.variants.now in
    let x = c.variant-item.result in
    let here = at_drop_more (λ (ws : List Variant). left ms closed l.seen (variants_view ws)) xs l.variant-index x c.loop-variant-test.true in
    let mine = ap (λ w. left ms closed l.seen (variant_view w ∷ variants_view (drop (l.variant-index + 1) xs))) (sym c.variant-item.is) in
    sym (one_old ms closed l.seen c.content_kinds-kinds.result (variant_view x) (variants_view (drop (l.variant-index + 1) xs)) (c.content_kinds-kinds.ensures closed) (sym c.is_apart.ensures ∙ c.if-not-is_apart.true))
    ∙ sym (here ∙ mine) ∙ l.invariant closed

pub returns : goal.returns
returns c =
    λ closed. let l = c.loop-variant in
    let ms = containers_in c.args.table.now.containers in
    sym (at_drop_all (λ (ws : List Variant). left ms closed l.seen (variants_view ws)) c.args.variants.now l.variant-index c.loop-variant-test.false) ∙ l.invariant closed
