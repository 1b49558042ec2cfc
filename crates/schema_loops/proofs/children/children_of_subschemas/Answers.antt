use Rattle.std.proofs.Common.{map, ap, sym, ◌∙◌}
use Rattle.std.specs.Prelude.{codes}
use Rattle.schema_types.specs.View.{maybe_view}
use Rattle.schema_defs.specs.Children.{children_of_maybe}
use Rattle.schema_loops.specs.Child.{child_view}
use Rattle.schema_loops.proofs.Levels.{listed, level, joined}
use Rattle.schema_loops.proofs.children.children_of_subschemas.Goals as goal

pub returns : goal.returns
returns c =
    let s = c.args.subschemas.now in
    joined (map child_view c.new-children.result.items) (map child_view c.push_list.new.children.items) (map child_view c.push_list-2.new.children.items) (map child_view c.push_list-3.new.children.items)
    (map child_view c.push_maybe.new.children.items) (listed (codes "allOf") s.all_of) (listed (codes "anyOf") s.any_of) (listed (codes "oneOf") s.one_of) (children_of_maybe (codes "not") (maybe_view s.not))
    (ap (map child_view) c.new-children.ensures.items) c.in_ok-push_list.ensures c.in_ok-push_list-2.ensures c.in_ok-push_list-3.ensures c.in_ok-push_maybe.ensures
    ∙ sym (level s)
