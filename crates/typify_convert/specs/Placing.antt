-- What a plan keeps of a table whose trees come one after another.
use Rattle.std.specs.Prelude.{◌≡◌, zero, codes}
use Rattle.entry_defs.specs.Entry.{Target, Entry}
use Rattle.entry_defs.specs.Space.{Id}
use Rattle.entry_defs.specs.Table.{Table}
use Rattle.naming_defs.specs.Names.{keys}
use Rattle.naming_defs.specs.Good.{is_good_name}
use Rattle.good_names.specs.Given.{Stands}
use Rattle.tree_names.specs.Folded.{taken_after}
use Rattle.entry_space.specs.Seen.{seen}
use Rattle.space_trees.specs.Filled.{led_from}
use Rattle.space_trees.specs.Leading.{found_led}
use Rattle.history_laws.specs.Placing.{with_names, entries_of, with_tree, next_id}
use Rattle.typify_convert.specs.declared.plan.Plan.{Plan}

-- the entries of the table, and the names that are given
pub record Plans (p : Plan) (t : Table) : Type 0 where
  pub entries : seen p.space ≡ entries_of t
  pub names : Stands p.names (codes "Type") (taken_after t) (keys is_good_name t.targets)
  pub led : (q : Target) → found_led p.led q ≡ led_from zero (with_names t).targets q

-- with one more tree, which has that id
pub record PlansMore (p : Plan) (t : Table) (e : Entry) (i : Id) : Type 0 where
  pub plans : Plans p (with_tree t e)
  pub id : i ≡ next_id t e
