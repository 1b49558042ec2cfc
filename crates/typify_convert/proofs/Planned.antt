-- A plan that grows tree by tree.
use Rattle.std.proofs.Common.{◌≡◌, ℕ, List, [], None, codes, sym, ap, subst, ◌∙◌}
use Rattle.entry_defs.specs.Entry.{Target, Entry}
use Rattle.entry_defs.specs.Space.{Id, Space}
use Rattle.entry_defs.specs.Table.{TargetEntry, Table}
use Rattle.naming_defs.specs.Names.{Names, keys}
use Rattle.naming_defs.specs.Good.{is_good_name}
use Rattle.good_names.specs.Given.{Stands, Does}
use Rattle.entry_space.specs.Seen.{seen}
use Rattle.tree_names.specs.Folded.{targets_first, taken_after}
use Rattle.tree_names.specs.Seen.{entry_named}
use Rattle.space_trees.specs.Filled.{led_from, ids_in, placed_targets}
use Rattle.space_trees.specs.Leading.{found_led, ids_of}
use Rattle.space_trees.specs.Placed.{rest_or_first, placed}
use Rattle.space_trees.specs.declared.led.Led.{Led}
use Rattle.history_laws.specs.Placing.{with_names, entries_of, next_named}
use Rattle.history_laws.proofs.Growing.{more, more-taken, more-entries}
use Rattle.typify_convert.specs.Placing.{Plans, PlansMore}
use Rattle.typify_convert.specs.declared.plan.Plan.{Plan}

abbrev T : List ℕ
T = codes "Type"

-- ---- one more tree

ids-are : (l : Led) (t : Table) → ((q : Target) → found_led l q ≡ led_from 0 t.targets q) → ids_of l ≡ ids_in t
ids-are l t same = λ x q. rest_or_first (same q x)

pub tree_plans : (p q : Plan) (t : Table) (y e : Entry) (i : Id) → Plans p t → Does T p.names q.names y (entry_named e) → placed (ids_of p.led) None y (seen p.space) ≡ (seen q.space, i) → q.led ≡ p.led → PlansMore q t e i
tree_plans p q t y e i h d w l =
    let k = keys is_good_name t.targets in
    let x = d.step k (taken_after t) h.names in
    let same : placed (ids_in (with_names t)) None (next_named t e) (entries_of t) ≡ (seen q.space, i)
    = (λ j. placed (sym (ids-are p.led (with_names t) h.led) j) None (sym x.0 j) (sym h.entries j)) ∙ w in
    record {
      plans = record {
        entries = sym (more-entries t e ∙ ap (λ (a : Space × Id). a.0) same);
        names = subst (λ (u : Names). Stands q.names T u k) (sym (more-taken t e)) x.1;
        led = λ z. ap (λ m. found_led m z) l ∙ h.led z ∙ sym (ap (λ (t : Table). led_from 0 t.targets z) (more t e));
      };
      id = sym (ap (λ (a : Space × Id). a.1) same);
    }

-- ---- targets

pub targets_plan : (p : Plan) (xs ts : List TargetEntry) → ts ≡ (targets_first xs).1 → Stands p.names T (targets_first xs).0 (keys is_good_name xs) → seen p.space ≡ placed_targets (ids_of p.led) ts
    → ((q : Target) → found_led p.led q ≡ led_from 0 ts q) → Plans p (record { targets = xs; trees = [] })
targets_plan p xs ts e st made led =
    let there : (q : Target) → found_led p.led q ≡ led_from 0 (targets_first xs).1 q = λ q. led q ∙ ap (λ z. led_from 0 z q) e in
    record {
      entries = made ∙ (λ i. placed_targets (ids-are p.led (record { targets = (targets_first xs).1; trees = [] }) there i) (e i));
      names = st;
      led = there;
    }

pub empty_plans : (p : Plan) → ((prefix : List ℕ) → Stands p.names prefix [] []) → ((q : Target) → found_led p.led q ≡ None) → seen p.space ≡ [] → Plans p (record { targets = []; trees = [] })
empty_plans p st led made = record { entries = made; names = st T; led = led }
