use Rattle.std.proofs.Common.{◌≡◌, ◌-◌, true, false, List, [], ◌∷◌, ◌++◌, map, length, refl, ap, sym, ◌∙◌, arith, rules}
use Rattle.std.specs.Prelude.{Ok, nat_eq}
use Rattle.std.proofs.lemmas.List.{map_push}
use Rattle.token_trees.specs.View.{trees}
use Rattle.syntax_trees.specs.Item.{PredicateD, predicate_view}
use Rattle.syntax_parsers.specs.Answer.{with_front}
use Rattle.syntax_parsers.specs.Read.{levels}
use Rattle.syntax_parsers.specs.Where.{some_predicates}
use Rattle.syntax_parsers.proofs.Refused.{refused_is, front_refused, answers_err}
use Rattle.syntax_parsers.proofs.WhereLoops.{predicates_none, predicates_over, predicates_end, predicates_on, predicates_refused, predicates_unended}
use Rattle.syntax_parsers.proofs.predicates.read_all_predicates.Goals as goal

pub returns-then-is_empty : goal.returns-then-is_empty
returns-then-is_empty c =
    let none : nat_eq (length c.predicates.left.now) 0 ≡ true = search rules in
    c.predicates.invariant ∙ predicates_over c.predicates.depth c.args.room (levels c.args.room) c.args.at (map predicate_view c.predicates.found.items) c.predicates.left.now c.predicates-test.true none

pub returns-in_err-one : goal.returns-in_err-one
returns-in_err-one c =
    let some : nat_eq (length c.predicates.left.now) 0 ≡ false = search rules in
    answers_err _ c.from_residual.result c.in_err-one.field-0.0 _ c.from_residual.ensures.1
    (refused_is c.in_err-one.field-0.0 _ _ c.predicates.invariant (predicates_refused c.predicates.depth c.args.room (levels c.args.room) c.args.at (map predicate_view c.predicates.found.items) c.predicates.left.now c.in_err-one.field-0.0 c.predicates-test.true some c.in_err-one.ensures))

pub returns-then-is_empty-2 : goal.returns-then-is_empty-2
returns-then-is_empty-2 c =
    let some : nat_eq (length c.predicates.left.now) 0 ≡ false = search rules in
    let over : nat_eq (length c.in_ok-one.rest.now) 0 ≡ true = search rules in
    let pushed : map predicate_view c.push.new.self.items ≡ map predicate_view c.predicates.found.items ++ predicate_view c.in_ok-one.one ∷ [] = rw c.in_ok-push.ensures.items (map_push _ c.predicates.found.items c.in_ok-one.one) in
    c.predicates.invariant ∙ predicates_end c.predicates.depth c.args.room (levels c.args.room) c.args.at (map predicate_view c.predicates.found.items) c.predicates.left.now c.in_ok-one.rest.now (predicate_view c.in_ok-one.one) c.predicates-test.true some c.in_ok-one.ensures over
    ∙ ap (λ (ys : List PredicateD). Ok ys) (sym pushed)

pub returns-in_err-left : goal.returns-in_err-left
returns-in_err-left c =
    let some : nat_eq (length c.predicates.left.now) 0 ≡ false = search rules in
    let more : nat_eq (length c.in_ok-one.rest.now) 0 ≡ false = search rules in
    answers_err _ c.from_residual-in_err-left.result c.in_err-left.field-0.0 _ c.from_residual-in_err-left.ensures.1
    (refused_is c.in_err-left.field-0.0 _ _ c.predicates.invariant (predicates_unended c.predicates.depth c.args.room (levels c.args.room) c.args.at (map predicate_view c.predicates.found.items) c.predicates.left.now c.in_ok-one.rest.now (predicate_view c.in_ok-one.one) c.in_err-left.field-0.0 c.predicates-test.true some c.in_ok-one.ensures more c.in_err-left.ensures))

pub predicates-preserved : goal.predicates-preserved
predicates-preserved c =
    let some : nat_eq (length c.predicates.left.now) 0 ≡ false = search rules in
    let more : nat_eq (length c.in_ok-one.rest.now) 0 ≡ false = search rules in
    let pushed : map predicate_view c.push.new.self.items ≡ map predicate_view c.predicates.found.items ++ predicate_view c.in_ok-one.one ∷ [] = rw c.in_ok-push.ensures.items (map_push _ c.predicates.found.items c.in_ok-one.one) in
    c.predicates.invariant ∙ predicates_on c.predicates.depth c.args.room (levels c.args.room) c.args.at (map predicate_view c.predicates.found.items) c.predicates.left.now c.in_ok-one.rest.now c.in_ok-left.left.now (predicate_view c.in_ok-one.one) c.predicates-test.true some c.in_ok-one.ensures more c.in_ok-left.ensures
    ∙ ap (λ (ys : List PredicateD). with_front ys (some_predicates (c.predicates.depth - 1) c.args.room (levels c.args.room) c.args.at (trees c.in_ok-left.left.now))) (sym pushed)

pub returns : goal.returns
returns c =
    refused_is c.missing_at.result _ _ c.predicates.invariant (front_refused c.missing_at.result (map predicate_view c.predicates.found.items) _ (refused_is c.missing_at.result _ _ (predicates_none c.predicates.depth c.args.room (levels c.args.room) c.args.at (trees c.predicates.left.now) (omega arith)) (rw c.missing_at.ensures refl)))
