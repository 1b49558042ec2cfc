-- What a space keeps, with more behind it.
use Rattle.std.proofs.Common.{◌≡◌, ℕ, List, [], ◌∷◌, ◌++◌, Option, Some, None, option_map, refl, ap, subst, ◌∙◌}
use Rattle.schema_defs.specs.Texts.{Relations}
use Rattle.schema_defs.specs.Schema.{Document}
use Rattle.entry_defs.specs.Entry.{Target, Entry}
use Rattle.entry_defs.specs.Space.{Id}
use Rattle.entry_defs.specs.Table.{Table}
use Rattle.convert_walks.specs.Tree.{Node}
use Rattle.convert_walks.specs.Told.{Note, notes_in}
use Rattle.note_order.specs.Notes.{notes_view}
use Rattle.convert_document.specs.Unread.{At, first_kept, unread_in}
use Rattle.space_trees.specs.Leading.{found_led}
use Rattle.space_trees.specs.Placed.{rest_or_first}
use Rattle.history_laws.specs.Placing.{led_alone, next_id, target_id}
use Rattle.typify_convert.specs.Placing.{Plans, PlansMore}
use Rattle.typify_convert.specs.Kept.{FoundOf, listed_view, or_kept}
use Rattle.typify_convert.specs.Space.{History, nothing, Keeps}
use Rattle.history_laws.specs.Added.{target_nodes, targets_table}
use Rattle.typify_convert.specs.Added.{with_nodes, with_targets, KeepsMore}
use Rattle.typify_convert.specs.declared.keeping.Held.{Held}

kept-both : (us vs : List At) → or_kept (first_kept None us) (first_kept None vs) ≡ first_kept None (us ++ vs)
kept-both [] vs = refl
kept-both (u ∷ us) vs = refl

-- ---- notes and stated values behind others

module _ (r : Relations) (d : Document) (most n : ℕ) (ts : List Node) (t : Table) (ns : List Note) (u : Option At) (found : FoundOf r d most n (Some t) ts ns u) (k l : Held) (h : History) (keeps : Keeps k h)
    (notes : notes_view l.notes.items ≡ notes_view k.notes.items ++ ns) (unread : option_map listed_view l.unread ≡ or_kept (option_map listed_view k.unread) u) where
  more-notes : notes_view l.notes.items ≡ h.notes ++ notes_in r d most n ts
  more-notes = notes ∙ (λ i. keeps.notes i ++ found.noted i)

  more-unread : option_map listed_view l.unread ≡ first_kept None (h.unread ++ unread_in r (Some t) d ts)
  more-unread = unread ∙ (λ i. or_kept (keeps.unread i) (found.unread i)) ∙ kept-both h.unread (unread_in r (Some t) d ts)

module _ (r : Relations) (d : Document) (most n : ℕ) (k l : Held) (h : History) (ns : List Note) (u : Option At) where
  abbrev all : Table
  all = targets_table r d most n

  pub tree_held : (ts : List Node) → FoundOf r d most n (Some all) ts ns u → Keeps k h → notes_view l.notes.items ≡ notes_view k.notes.items ++ ns
      → option_map listed_view l.unread ≡ or_kept (option_map listed_view k.unread) u → (e : Entry) (i : Id) → ((t : Table) → Plans k.plan t → PlansMore l.plan t e i)
      → KeepsMore l i (with_nodes r d most n e ts h, next_id h.table e)
  tree_held ts found keeps notes unread e i place =
      let p = place h.table keeps.plans in
      record {
        keeps = record {
          plans = p.plans;
          notes = more-notes r d most n ts all ns u found k l h keeps notes unread;
          unread = more-unread r d most n ts all ns u found k l h keeps notes unread;
        };
        id = p.id;
      }

  pub targets_held : (t : Table) → t ≡ all → FoundOf r d most n (Some t) (target_nodes r d most n) ns u → Keeps k h → notes_view l.notes.items ≡ notes_view k.notes.items ++ ns
      → option_map listed_view l.unread ≡ or_kept (option_map listed_view k.unread) u → Plans l.plan (led_alone t) → Keeps l (with_targets r d most n h)
  targets_held t e found keeps notes unread p =
      let of_all = subst (λ (t : Table). FoundOf r d most n (Some t) (target_nodes r d most n) ns u) e found in
      record {
        plans = subst (λ (t : Table). Plans l.plan (led_alone t)) e p;
        notes = more-notes r d most n (target_nodes r d most n) all ns u of_all k l h keeps notes unread;
        unread = more-unread r d most n (target_nodes r d most n) all ns u of_all k l h keeps notes unread;
      }

module _ (r : Relations) (d : Document) (most n : ℕ) (l : Held) (h : History) where
  -- of a tree that is seen as another
  pub same_entry : (ts : List Node) (i : Id) (x y : Entry) → x ≡ y → KeepsMore l i (with_nodes r d most n x ts h, next_id h.table x) → KeepsMore l i (with_nodes r d most n y ts h, next_id h.table y)
  same_entry ts i x y e more = subst (λ (z : Entry). KeepsMore l i (with_nodes r d most n z ts h, next_id h.table z)) e more

pub nothing_held : (k : Held) → Plans k.plan (record { targets = []; trees = [] }) → k.notes.items ≡ [] → k.unread ≡ None → Keeps k nothing
nothing_held k p n u = record { plans = p; notes = ap notes_view n; unread = ap (option_map listed_view) u }

-- ---- the id of a target

pub led_so : (k : Held) (q : Target) (i : Id) → Some i ≡ found_led k.plan.led q → (h : History) → Keeps k h → i ≡ target_id h.table q
led_so k q i e h keeps = ap rest_or_first (e ∙ keeps.plans.led q)
