use Rattle.std.proofs.Common.{◌≡◌, [], ◌∷◌, ◌++◌, map, sym, ap, ◌∙◌, subst, append_assoc}
use Rattle.std.specs.BTreeSet.{insert_key}
use Rattle.std.specs.List.Sorted.{IsStrictlySortedBy}
use Rattle.syntax_trees.specs.View.{lifetime_view}
use Rattle.attr_parts.specs.Lifetimes.{lifetimes, lifetime_cmp}
use Rattle.attr_parts.proofs.Added.{by_name}
use Rattle.attr_rows.proofs.LifetimeLoops.{goes_last}
use Rattle.attr_rows.proofs.borrow.copy_lifetimes.Goals as goal

pub loop-lifetime-preserved : goal.loop-lifetime-preserved
loop-lifetime-preserved c =
    let l = c.loop-lifetime in
    let done = l.invariant.0 in
    let e = c.in-Some.lifetime.now in
    let left = c.next.new.self in
    let all : c.args.from.now.keys ≡ done ++ e ∷ left = l.invariant.1 ∙ ap (λ es. done ++ es) c.in-Some.ensures.steps in
    let sorted = subst (IsStrictlySortedBy by_name) all c.iter-lifetime-items.ensures.ordered in (
      done ++ e ∷ [],
      all ∙ sym (append_assoc done (e ∷ []) left),
      c.in_ok-insert.ensures.set ∙ ap (insert_key lifetime_cmp (lifetimes l.copy)) c.in_ok-try_clone.ensures ∙ ap (λ ls. insert_key lifetime_cmp ls (lifetime_view e)) l.invariant.2 ∙ goes_last done e left sorted,
    )
