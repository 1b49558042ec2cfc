-- Tables that are entered into a space: the items that references lead to stand first, open, in the order of the targets; then they are filled in that order; then come the trees.
use Rattle.std.specs.Prelude.{ℕ, zero, suc, nat_eq, List, [], ◌∷◌, Bool, false, Option, Some, None, if◌then◌else◌}
use Rattle.entry_defs.specs.Entry.{Target, Entry, reference, item}
use Rattle.entry_defs.specs.Space.{Id, null_at, Space}
use Rattle.entry_defs.specs.Table.{TargetEntry, Table, same_target}
use Rattle.space_trees.specs.Placed.{put, opened, rest_or_first, placed}

-- ---- where references lead

abbrev pub led_from : ℕ → List TargetEntry → Target → Option Id
led_from i [] q = None
led_from i (t ∷ ts) q = if same_target q t.target then Some i else led_from (suc i) ts q

abbrev pub is_id : Id → Option Id → Bool
is_id j None = false
is_id j (Some i) = nat_eq i j

-- the items of targets have their places as ids
abbrev pub leads_in : Table → Target → Id → Bool
leads_in t q j = is_id j (led_from zero t.targets q)

abbrev pub ids_in : Table → Target → Id
ids_in t q = rest_or_first (led_from zero t.targets q)

-- ---- targets

abbrev pub opened_targets : List TargetEntry → Space → Space
opened_targets [] s = s
opened_targets (t ∷ ts) s = opened_targets ts (opened t.led_to.name s).0

module _ (ids : Target → Id) where
  -- from the place of the first of them
  abbrev pub filled_targets : ℕ → List TargetEntry → Space → Space
  filled_targets i [] s = s
  filled_targets i (t ∷ ts) s = filled_targets (suc i) ts (placed ids (Some i) (item t.led_to.name t.led_to.shape) s).0

  -- opened, and then filled
  abbrev pub placed_targets : List TargetEntry → Space
  placed_targets ts = filled_targets zero ts (opened_targets ts [])

  -- ---- trees

  -- for a reference nothing is entered: its id is that of what it leads to
  abbrev pub placed_tree : Entry → Space → Space × Id
  placed_tree (reference q) s = (s, ids q)
  placed_tree e s = placed ids None e s

  abbrev pub placed_rest : List Entry → Space → Space
  placed_rest [] s = s
  placed_rest (e ∷ es) s = placed_rest es (placed_tree e s).0

  -- each is entered, a reference too
  abbrev pub placed_each : List Entry → Space → Space
  placed_each [] s = s
  placed_each (e ∷ es) s = placed_each es (placed ids None e s).0

  -- with the id of the first, or that of null where there is none
  abbrev pub placed_trees : List Entry → Space → Space × Id
  placed_trees [] s = put null_at s
  placed_trees (e ∷ es) s = let a = placed_tree e s in (placed_rest es a.0, a.1)

abbrev pub placed_table : Table → Space × Id
placed_table t = placed_trees (ids_in t) t.trees (placed_targets (ids_in t) t.targets)

-- the space of targets and of trees that come one after another, where there may be none; each has an entry, a reference too
abbrev pub space_so_far : Table → Space
space_so_far t = placed_each (ids_in t) t.trees (placed_targets (ids_in t) t.targets)
