use Rattle.std.proofs.Common.{◌≡◌, ◌-◌, List, [], ◌∷◌, ◌++◌, Some, map, ap, sym, ◌∙◌, append-nil, append_assoc, arith}
use Rattle.std.proofs.lemmas.List.{map_push}
use Rattle.token_trees.specs.View.{trees}
use Rattle.syntax_trees.specs.Syntax.{LifetimeD}
use Rattle.syntax_trees.specs.View.{lifetime_view}
use Rattle.syntax_parsers.specs.Fronts.{lifetime_front}
use Rattle.syntax_parsers.specs.Where.{some_lifetimes}
use Rattle.syntax_parsers.proofs.WhereLoops.{lifetimes_none, lifetimes_over, lifetimes_end, lifetimes_on, rest_is, end_is}
use Rattle.syntax_parsers.proofs.predicates.read_some_lifetimes.Goals as goal

pub returns-in_default-clause-lifetimes : goal.returns-in_default-clause-lifetimes
returns-in_default-clause-lifetimes c =
    let xs = map lifetime_view c.list.found.items in
    sym (append-nil xs) ∙ rest_is (some_lifetimes c.list.depth (trees c.list.left.now)) (some_lifetimes c.args.room (trees c.args.tokens.now)) xs [] (trees c.list.left.now) c.list.invariant.0 (lifetimes_over c.list.depth (trees c.list.left.now) c.list-test.true c.in_default.ensures)

pub returns-in_default-clause-rest : goal.returns-in_default-clause-rest
returns-in_default-clause-rest c = end_is (some_lifetimes c.list.depth (trees c.list.left.now)) (some_lifetimes c.args.room (trees c.args.tokens.now)) [] (trees c.list.left.now) c.list.invariant.1 (lifetimes_over c.list.depth (trees c.list.left.now) c.list-test.true c.in_default.ensures)

pub returns-in_default-after_sign-clause-lifetimes : goal.returns-in_default-after_sign-clause-lifetimes
returns-in_default-after_sign-clause-lifetimes c =
    let xs = map lifetime_view c.list.found.items in
    let l = lifetime_view c.in_ok-copy_lifetime.field-0 in
    let rest = trees c.in-Some.rest.now in
    let front : Some (l, rest) ≡ lifetime_front (trees c.list.left.now) = ap (λ (m : LifetimeD). Some (m, rest)) c.in_ok-copy_lifetime.ensures ∙ c.in-Some.ensures in
    let pushed : map lifetime_view c.push.new.self.items ≡ xs ++ l ∷ [] = rw c.in_ok-push.ensures.items (map_push _ c.list.found.items c.in_ok-copy_lifetime.field-0) in
    pushed ∙ rest_is (some_lifetimes c.list.depth (trees c.list.left.now)) (some_lifetimes c.args.room (trees c.args.tokens.now)) xs (l ∷ []) rest c.list.invariant.0 (lifetimes_end c.list.depth (trees c.list.left.now) rest l c.list-test.true front c.in_default-after_sign.ensures)

pub returns-in_default-after_sign-clause-rest : goal.returns-in_default-after_sign-clause-rest
returns-in_default-after_sign-clause-rest c =
    let l = lifetime_view c.in_ok-copy_lifetime.field-0 in
    let rest = trees c.in-Some.rest.now in
    let front : Some (l, rest) ≡ lifetime_front (trees c.list.left.now) = ap (λ (m : LifetimeD). Some (m, rest)) c.in_ok-copy_lifetime.ensures ∙ c.in-Some.ensures in
    end_is (some_lifetimes c.list.depth (trees c.list.left.now)) (some_lifetimes c.args.room (trees c.args.tokens.now)) (l ∷ []) rest c.list.invariant.1 (lifetimes_end c.list.depth (trees c.list.left.now) rest l c.list-test.true front c.in_default-after_sign.ensures)

pub list-preserved : goal.list-preserved
list-preserved c =
    let xs = map lifetime_view c.list.found.items in
    let l = lifetime_view c.in_ok-copy_lifetime.field-0 in
    let rest = trees c.in-Some.rest.now in
    let behind = trees c.in-Some-after_sign.behind.now in
    let more = some_lifetimes (c.list.depth - 1) behind in
    let front : Some (l, rest) ≡ lifetime_front (trees c.list.left.now) = ap (λ (m : LifetimeD). Some (m, rest)) c.in_ok-copy_lifetime.ensures ∙ c.in-Some.ensures in
    let pushed : map lifetime_view c.push.new.self.items ≡ xs ++ l ∷ [] = rw c.in_ok-push.ensures.items (map_push _ c.list.found.items c.in_ok-copy_lifetime.field-0) in
    let read : some_lifetimes c.list.depth (trees c.list.left.now) ≡ (l ∷ more.0, more.1) = lifetimes_on c.list.depth (trees c.list.left.now) rest behind l c.list-test.true front c.in-Some-after_sign.ensures in (
      ap (λ (ys : List LifetimeD). ys ++ more.0) pushed ∙ append_assoc xs (l ∷ []) more.0 ∙ rest_is (some_lifetimes c.list.depth (trees c.list.left.now)) (some_lifetimes c.args.room (trees c.args.tokens.now)) xs (l ∷ more.0) more.1 c.list.invariant.0 read,
      end_is (some_lifetimes c.list.depth (trees c.list.left.now)) (some_lifetimes c.args.room (trees c.args.tokens.now)) (l ∷ more.0) more.1 c.list.invariant.1 read,
    )

pub returns-clause-lifetimes : goal.returns-clause-lifetimes
returns-clause-lifetimes c =
    let xs = map lifetime_view c.list.found.items in
    sym (append-nil xs) ∙ rest_is (some_lifetimes c.list.depth (trees c.list.left.now)) (some_lifetimes c.args.room (trees c.args.tokens.now)) xs [] (trees c.list.left.now) c.list.invariant.0 (lifetimes_none c.list.depth (trees c.list.left.now) (omega arith))

pub returns-clause-rest : goal.returns-clause-rest
returns-clause-rest c = end_is (some_lifetimes c.list.depth (trees c.list.left.now)) (some_lifetimes c.args.room (trees c.args.tokens.now)) [] (trees c.list.left.now) c.list.invariant.1 (lifetimes_none c.list.depth (trees c.list.left.now) (omega arith))
