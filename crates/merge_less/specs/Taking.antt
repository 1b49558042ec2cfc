-- What is left to take away once both sides are met, for any merge and any subtraction of the parts.
use Rattle.std.specs.Prelude.{[], List, true, false, Option, Some, None}
use Rattle.schema_defs.specs.Schema.{Schema, object, Named, no_named, named, Properties, no_properties, property, schemas}
use Rattle.schema_types.specs.View.{object_view, schema_view, schemas_view}
use Rattle.schema_types.specs.declared.schema.Schema as tree
use Rattle.schema_sameness.specs.Parts.{plain_in, same_in, lists_in, named_in}
use Rattle.merge_defs.specs.Outcome.{Outcome, answer, and_then, mapped}
use Rattle.merge_defs.specs.Less.{less_each, less_merged, merge_from, turned_outcome}
use Rattle.merge_members.specs.Plans.{entries_then}
use Rattle.merge_less.specs.declared.taking.Listed.{Listed}
use Rattle.merge_less.specs.declared.taking.Taken.{Taken}
use Rattle.merge_less.specs.declared.taking.Taking.{Taking}
use Rattle.merge_less.specs.declared.taking.Taking.TheVariants.{Told, Objects}

-- members with other properties
abbrev pub with_new : Properties → Named → Named
with_new ps no_named = no_named
with_new ps (named qs pp x xn c) = named ps pp x xn c

-- members with these properties; where there are none, members stay as they are
abbrev pub putting : Properties → Named → Named
putting no_properties os = os
putting (property n s ps) os = with_new (property n s ps) os

-- an object with these members
abbrev pub with_named : Schema → Named → Schema
with_named s os = object (plain_in s) (same_in s) (lists_in s) os

-- an object with these properties
abbrev pub with_properties : Schema → Properties → Schema
with_properties s ps = with_named s (putting ps (named_in s))

module _ (join less : Schema → Schema → Outcome Schema) where
  -- the merge of allOf, with its notes turned
  abbrev pub less_listed_outcome : Listed → Schema → Outcome Schema
  less_listed_outcome l s = less_merged join less s (turned_outcome (merge_from join less (schema_view l.first) (schemas (schemas_view l.rest.items))))

  abbrev pub less_all_outcome : Option Listed → Schema → Outcome Schema
  less_all_outcome None s = answer [] s
  less_all_outcome (Some l) s = less_listed_outcome l s

  -- anyOf, then not, then allOf of what is taken away
  abbrev pub parts_outcome : List tree.Schema → List tree.Schema → Option Listed → Schema → Outcome Schema
  parts_outcome any none all s =
      and_then (less_each join less (schemas (schemas_view any)) s) (λ t. and_then (merge_from join less t (schemas (schemas_view none))) (less_all_outcome all))

  -- properties, of which one that is required and false makes never; then the subschemas
  abbrev pub taken_outcome : Taken → Outcome Schema
  taken_outcome t =
      and_then (mapped (with_properties (object_view t.object)) (entries_then less true false t.entries.items (answer [] no_properties)))
      (parts_outcome t.any.items t.none.items t.all)

  abbrev pub taking_outcome : Taking → Outcome Schema
  taking_outcome (Told s) = answer [] (schema_view s)
  taking_outcome (Objects t) = taken_outcome t
