use Rattle.std.proofs.Common.{sym, ◌∙◌}
use Rattle.value_types.proofs.Paths.{word_at}
use Rattle.value_types.proofs.shape.lone.Goals as goal

pub returns-then-is_bare : goal.returns-then-is_bare
returns-then-is_bare c =
    c.word_shape.ensures
    ∙ word_at c.args.segments.now c.segment-item.result c.name_of.result.now c.in-len1.len_at_least c.in-len1.len_below c.segment-item.is (sym c.is_bare.ensures ∙ c.if-is_bare.true) c.name_of.ensures
