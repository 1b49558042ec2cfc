-- One more tree stands in the entries at the id that was told, and what stood there still does.
use Rattle.std.proofs.Common.{◌≡◌, List, [], ◌∷◌, ◌++◌, true, None, sym, ap, subst, ◌∙◌, append_assoc, append-nil, bytes_eq}
use Rattle.std.specs.List.{AllByRecursion, IsDistinct}
use Rattle.entry_defs.specs.Entry.{Entry}
use Rattle.entry_defs.specs.Space.{Id, Space, entry_at as at_id, Holds}
use Rattle.entry_defs.specs.Sound.{Any, Each, Leads, IsSound}
use Rattle.entry_defs.specs.Table.{Table, items_in, items_of}
use Rattle.space_trees.specs.Placed.{placed}
use Rattle.space_trees.specs.Formed.{is_formed, IsFormed}
use Rattle.space_trees.specs.Filled.{leads_in, ids_in}
use Rattle.space_trees.proofs.Places.{items-names}
use Rattle.space_trees.proofs.Enters.{names_of, keeps, stays-at}
use Rattle.space_trees.proofs.Standing.{Stood, stands}
use Rattle.history_laws.specs.Placing.{with_names, entries_of, with_tree, next_named, next_id}
use Rattle.history_laws.specs.Laws.{IsHeld, AddsOne}
use Rattle.history_laws.proofs.Growing.{more, more-entries}
use Rattle.history_laws.proofs.Standing.{inside, led_items, fresh-behind}
use Rattle.history_laws.proofs.Targeted.{leads-there}

all-last : (P : Entry → Type 0) (es : List Entry) (e : Entry) → AllByRecursion P (es ++ e ∷ []) → P e
all-last P [] e h = h.0
all-last P (x ∷ es) e h = all-last P es e h.1

inside-more : (es : List Entry) (e : Entry) → inside (es ++ e ∷ []) ≡ inside es ++ items_in e
inside-more [] e = append-nil (items_in e)
inside-more (x ∷ es) e = ap (λ z. items_in x ++ z) (inside-more es e) ∙ sym (append_assoc (items_in x) (inside es) (items_in e))

module _ (t : Table) (e : Entry) (sound : IsSound (with_names (with_tree t e))) (formed : IsFormed (with_names (with_tree t e))) (held : IsHeld t) where
  abbrev w : Table
  w = with_names t

  abbrev y : Entry
  y = next_named t e

  abbrev s : Space
  s = entries_of t

  abbrev a : Space × Id
  a = placed (ids_in w) None y s

  items-more : items_of (with_tree w y) ≡ items_of w ++ items_in y
  items-more = ap (λ z. led_items w ++ z) (inside-more w.trees y) ∙ sym (append_assoc (led_items w) (inside w.trees) (items_in y))

  stood : Stood (ids_in w) (leads_in w) (Leads w) (leads-there w) y s a
  stood =
      let now : IsSound (with_tree w y) = subst IsSound (more t e) sound in
      let form : IsFormed (with_tree w y) = subst IsFormed (more t e) formed in
      stands (ids_in w) (leads_in w) (Leads w) (leads-there w) y s (all-last (λ e. is_formed e ≡ true) w.trees y form.trees) (all-last (Each Any (Leads w)) w.trees y now.trees)
      (fresh-behind s (items_of w) (items_in y) (sym (items-names 0 s) ∙ held.named) (subst (λ z. IsDistinct bytes_eq (names_of z)) items-more now.distinct))

  pub adds-one : AddsOne t e
  adds-one =
      let q = more-entries t e in
      record {
        last = more t e;
        stands = subst (λ (z : Space). Holds (leads_in w) z y (next_id t e)) (sym q) stood.1;
        kept = λ x i h. subst (λ (z : Space). Holds (leads_in w) z x i) (sym q) (keeps (leads_in w) s a.0 (items_in y) stood.0 x i h);
        same = λ i x h. ap (λ (z : Space). at_id z i) q ∙ stays-at s a.0 (items_in y) i x stood.0 h;
      }
