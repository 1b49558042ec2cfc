use Rattle.std.proofs.Common.{rules}
use Rattle.tree_parts.proofs.Pushed.{variant_pushed}
use Rattle.tree_parts.proofs.lists.with_variant.Goals as goal

pub returns : goal.returns
returns c =
    variant_pushed c.args.variants.items c.push.new.self.items c.variant_head.result c.args.parts c.args.name.now c.args.kind (search rules)
    c.variant_head.ensures.name c.variant_head.ensures.wanted c.variant_head.ensures.kind
