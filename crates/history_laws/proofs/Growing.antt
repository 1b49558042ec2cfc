-- A table that grows by one tree: its names, and its entries.
use Rattle.std.proofs.Common.{◌≡◌, List, [], ◌∷◌, ◌++◌, None, refl, ap, ◌∙◌}
use Rattle.entry_defs.specs.Entry.{Target, Entry}
use Rattle.entry_defs.specs.Space.{Id, Space}
use Rattle.entry_defs.specs.Table.{Table}
use Rattle.naming_defs.specs.Names.{Names, keys, named, named_trees}
use Rattle.naming_defs.specs.Good.{is_good_name}
use Rattle.tree_names.specs.Folded.{targets_first, taken_after}
use Rattle.space_trees.specs.Filled.{ids_in, placed_targets, placed_each, space_so_far}
use Rattle.space_trees.specs.Placed.{placed}
use Rattle.history_laws.specs.Placing.{with_names, entries_of, with_tree, next_named}

named-more : (b : Names) (es : List Entry) (e : Entry) (u : Names)
    → named_trees is_good_name b (es ++ e ∷ []) u
    ≡ ((named is_good_name b e (named_trees is_good_name b es u).0).0, (named_trees is_good_name b es u).1 ++ (named is_good_name b e (named_trees is_good_name b es u).0).1 ∷ [])
named-more b [] e u = refl
named-more b (x ∷ es) e u = let a = named is_good_name b x u in ap (λ (z : Names × List Entry). (z.0, a.1 ∷ z.1)) (named-more b es e a.0)

placed-more : (ids : Target → Id) (es : List Entry) (e : Entry) (s : Space) → placed_each ids (es ++ e ∷ []) s ≡ (placed ids None e (placed_each ids es s)).0
placed-more ids [] e s = refl
placed-more ids (x ∷ es) e s = placed-more ids es e (placed ids None x s).0

pub more : (t : Table) (e : Entry) → with_names (with_tree t e) ≡ with_tree (with_names t) (next_named t e)
more t e = λ i. record { targets = (with_names t).targets; trees = (named-more (keys is_good_name t.targets) t.trees e (targets_first t.targets).0 i).1 }

pub more-taken : (t : Table) (e : Entry) → taken_after (with_tree t e) ≡ (named is_good_name (keys is_good_name t.targets) e (taken_after t)).0
more-taken t e = ap (λ (z : Names × List Entry). z.0) (named-more (keys is_good_name t.targets) t.trees e (targets_first t.targets).0)

pub more-entries : (t : Table) (e : Entry) → entries_of (with_tree t e) ≡ (placed (ids_in (with_names t)) None (next_named t e) (entries_of t)).0
more-entries t e =
    ap space_so_far (more t e) ∙ placed-more (ids_in (with_names t)) (with_names t).trees (next_named t e) (placed_targets (ids_in (with_names t)) (with_names t).targets)
