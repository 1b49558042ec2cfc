-- The two looks of a merge: roughly, and with each keyword of lists.
use Rattle.std.specs.Prelude.{◌&&◌, Bool, true, false, if◌then◌else◌}
use Rattle.schema_defs.specs.Schema.{Same, Lists, lists}
use Rattle.merge_defs.specs.Alike.{Look, same_constraints, is_unconstrained, same_list_rules, alike_maybe, alike_list}
use Rattle.schema_sameness.specs.Parts.{all_in, any_in, one_in}
use Rattle.schema_sameness.specs.declared.look.Look as code
use Rattle.schema_sameness.specs.declared.look.Look.TheVariants.{Roughly, Wholly}

abbrev pub counts_all : code.Look → Bool
counts_all Roughly = false
counts_all Wholly = true

unfoldable pub look_of : code.Look → Look
look_of l = record { plain = same_constraints; as_true = is_unconstrained; whole_lists = counts_all l }

-- allOf, anyOf and oneOf
abbrev pub members_alike : Look → Same → Same → Bool
members_alike k s t = alike_list k (all_in s) (all_in t) && alike_list k (any_in s) (any_in t) && alike_list k (one_in s) (one_in t)

-- what stands beside `items`
abbrev pub rest_alike : Look → Lists → Lists → Bool
rest_alike k (lists p a c r) (lists p' a' c' r') = if k.whole_lists then (alike_maybe k a a' && alike_maybe k c c' && same_list_rules r r') else true
rest_alike k _ _ = false

-- the same of the rules of two lists, where both are there
abbrev pub same_sizes : Lists → Lists → Bool
same_sizes (lists p a c r) (lists p' a' c' r') = same_list_rules r r'
same_sizes _ _ = false
