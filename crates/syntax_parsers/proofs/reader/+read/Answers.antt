-- The loops of the readers: what was read before, and one element more.
use Rattle.std.proofs.Common.{◌≡◌, ◌-◌, true, false, List, [], ◌∷◌, ◌++◌, map, length, refl, ap, sym, ◌∙◌, arith, rules}
use Rattle.std.specs.Prelude.{Ok, nat_eq, is_some}
use Rattle.std.proofs.lemmas.List.{map_push}
use Rattle.token_trees.specs.View.{trees}
use Rattle.syntax_trees.specs.Syntax.{TyD, SegmentD, BoundD, GenericD}
use Rattle.syntax_trees.specs.View.{ty, expr, segment_view, bound_view, generic_view}
use Rattle.syntax_trees.specs.Metas.{sign_next}
use Rattle.syntax_parsers.specs.Answer.{with_first}
use Rattle.syntax_parsers.specs.Fronts.{bound_next}
use Rattle.syntax_parsers.specs.Read.{levels}
use Rattle.syntax_parsers.proofs.Lengths.{length_nothing, length_something}
use Rattle.syntax_parsers.proofs.Refused.{refused_is, answers_is, answers_err}
use Rattle.syntax_parsers.proofs.Loops.{segments_on, segments_end, segments_refused, bounds_over, bounds_plus, sign_stands, bounds_on, bounds_end, bounds_refused, generics_over, generics_on, generics_end, generics_refused, generics_unended, tys_over, tys_on, tys_end, tys_comma_end, tys_refused, tys_unended}
use Rattle.syntax_parsers.proofs.reader.+read.Goals as goal

pub read_segments-returns-in_err-one : goal.read_segments-returns-in_err-one
read_segments-returns-in_err-one t c =
    answers_err _ c.from_residual.result c.in_err-one.field-0.0 _ c.from_residual.ensures.1
    (refused_is c.in_err-one.field-0.0 _ _ c.segments.invariant.1 (segments_refused c.segments.depth c.args.at (map segment_view c.segments.found.items) (trees c.segments.left.now) c.in_err-one.field-0.0 c.segments-test.true c.in_err-one.ensures))

pub read_segments-returns-in_default : goal.read_segments-returns-in_default
read_segments-returns-in_default t c =
    let pushed : map segment_view c.push.new.self.items ≡ map segment_view c.segments.found.items ++ segment_view c.in_ok-one.one ∷ [] = rw c.in_ok-push.ensures.items (map_push _ c.segments.found.items c.in_ok-one.one) in
    c.segments.invariant.1 ∙ segments_end c.segments.depth c.args.at (map segment_view c.segments.found.items) (trees c.segments.left.now) (trees c.in_ok-one.rest.now) (segment_view c.in_ok-one.one) c.segments-test.true c.in_ok-one.ensures c.in_default.ensures
    ∙ ap (λ (ys : List SegmentD). Ok (ys, trees c.in_ok-one.rest.now)) (sym pushed)

pub read_segments-segments-preserved : goal.read_segments-segments-preserved
read_segments-segments-preserved t c =
    let pushed : map segment_view c.push.new.self.items ≡ map segment_view c.segments.found.items ++ segment_view c.in_ok-one.one ∷ [] = rw c.in_ok-push.ensures.items (map_push _ c.segments.found.items c.in_ok-one.one) in (
      omega arith,
      c.segments.invariant.1 ∙ segments_on c.segments.depth c.args.at (map segment_view c.segments.found.items) (trees c.segments.left.now) (trees c.in_ok-one.rest.now) (trees c.in-Some.behind.now) (segment_view c.in_ok-one.one) c.segments-test.true c.in_ok-one.ensures c.in-Some.ensures
          ∙ ap (λ (ys : List SegmentD). with_first ys ((levels (c.segments.depth - 1)).segments c.args.at (trees c.in-Some.behind.now))) (sym pushed),
    )

pub read_bounds-returns-then-is_some : goal.read_bounds-returns-then-is_some
read_bounds-returns-then-is_some t c =
    let next : bound_next (trees c.bounds.left.now) ≡ false = search rules in
    let found : is_some c.after_sign.result ≡ true = search rules in
    let plus : sign_next 43 (trees c.bounds.left.now) ≡ true = sign_stands (λ x. trees x.now) 43 (trees c.bounds.left.now) c.after_sign.result c.after_sign.ensures ∙ found in
    refused_is c.missing_at.result _ _ (c.bounds.invariant.1 ∙ bounds_plus c.bounds.depth c.args.at (map bound_view c.bounds.found.items) (trees c.bounds.left.now) c.bounds-test.true next plus) (rw c.missing_at.ensures refl)

pub read_bounds-returns-then-not-is_at_bound : goal.read_bounds-returns-then-not-is_at_bound
read_bounds-returns-then-not-is_at_bound t c =
    let next : bound_next (trees c.bounds.left.now) ≡ false = search rules in
    let found : is_some c.after_sign.result ≡ false = search rules in
    let none : sign_next 43 (trees c.bounds.left.now) ≡ false = sign_stands (λ x. trees x.now) 43 (trees c.bounds.left.now) c.after_sign.result c.after_sign.ensures ∙ found in
    c.bounds.invariant.1 ∙ bounds_over c.bounds.depth c.args.at (map bound_view c.bounds.found.items) (trees c.bounds.left.now) c.bounds-test.true next none

pub read_bounds-returns-in_err-one : goal.read_bounds-returns-in_err-one
read_bounds-returns-in_err-one t c =
    let next : bound_next (trees c.bounds.left.now) ≡ true = search rules in
    answers_err _ c.from_residual.result c.in_err-one.field-0.0 _ c.from_residual.ensures.1
    (refused_is c.in_err-one.field-0.0 _ _ c.bounds.invariant.1 (bounds_refused c.bounds.depth c.args.at (map bound_view c.bounds.found.items) (trees c.bounds.left.now) c.in_err-one.field-0.0 c.bounds-test.true next c.in_err-one.ensures))

pub read_bounds-returns-in_default : goal.read_bounds-returns-in_default
read_bounds-returns-in_default t c =
    let next : bound_next (trees c.bounds.left.now) ≡ true = search rules in
    let pushed : map bound_view c.push.new.self.items ≡ map bound_view c.bounds.found.items ++ bound_view c.in_ok-one.one ∷ [] = rw c.in_ok-push.ensures.items (map_push _ c.bounds.found.items c.in_ok-one.one) in
    c.bounds.invariant.1 ∙ bounds_end c.bounds.depth c.args.at (map bound_view c.bounds.found.items) (trees c.bounds.left.now) (trees c.in_ok-one.rest.now) (bound_view c.in_ok-one.one) c.bounds-test.true next c.in_ok-one.ensures c.in_default.ensures
    ∙ ap (λ (ys : List BoundD). Ok (ys, trees c.in_ok-one.rest.now)) (sym pushed)

pub read_bounds-bounds-preserved : goal.read_bounds-bounds-preserved
read_bounds-bounds-preserved t c =
    let next : bound_next (trees c.bounds.left.now) ≡ true = search rules in
    let pushed : map bound_view c.push.new.self.items ≡ map bound_view c.bounds.found.items ++ bound_view c.in_ok-one.one ∷ [] = rw c.in_ok-push.ensures.items (map_push _ c.bounds.found.items c.in_ok-one.one) in (
      omega arith,
      c.bounds.invariant.1 ∙ bounds_on c.bounds.depth c.args.at (map bound_view c.bounds.found.items) (trees c.bounds.left.now) (trees c.in_ok-one.rest.now) (trees c.in-Some.behind.now) (bound_view c.in_ok-one.one) c.bounds-test.true next c.in_ok-one.ensures c.in-Some.ensures
          ∙ ap (λ (ys : List BoundD). with_first ys ((levels (c.bounds.depth - 1)).bounds c.args.at (trees c.in-Some.behind.now))) (sym pushed),
    )

pub read_generics-returns-in-Some : goal.read_generics-returns-in-Some
read_generics-returns-in-Some t c =
    c.generics.invariant.1 ∙ generics_over c.generics.depth c.args.at (map generic_view c.generics.found.items) (trees c.generics.left.now) (trees c.in-Some.end.now) c.generics-test.true c.in-Some.ensures

pub read_generics-returns-in_err-one : goal.read_generics-returns-in_err-one
read_generics-returns-in_err-one t c =
    answers_err _ c.from_residual.result c.in_err-one.field-0.0 _ c.from_residual.ensures.1
    (refused_is c.in_err-one.field-0.0 _ _ c.generics.invariant.1 (generics_refused c.generics.depth c.args.at (map generic_view c.generics.found.items) (trees c.generics.left.now) c.in_err-one.field-0.0 c.generics-test.true c.in_default.ensures c.in_err-one.ensures))

pub read_generics-returns-in-Some-after_sign : goal.read_generics-returns-in-Some-after_sign
read_generics-returns-in-Some-after_sign t c =
    let pushed : map generic_view c.push.new.self.items ≡ map generic_view c.generics.found.items ++ generic_view c.in_ok-one.one ∷ [] = rw c.in_ok-push.ensures.items (map_push _ c.generics.found.items c.in_ok-one.one) in
    c.generics.invariant.1 ∙ generics_end c.generics.depth c.args.at (map generic_view c.generics.found.items) (trees c.generics.left.now) (trees c.in_ok-one.rest.now) (trees c.in-Some-after_sign.end.now) (generic_view c.in_ok-one.one) c.generics-test.true c.in_default.ensures c.in_ok-one.ensures c.in-Some-after_sign.ensures
    ∙ ap (λ (ys : List GenericD). Ok (ys, trees c.in-Some-after_sign.end.now)) (sym pushed)

pub read_generics-returns-in_err-left : goal.read_generics-returns-in_err-left
read_generics-returns-in_err-left t c =
    answers_err _ c.from_residual-in_err-left.result c.in_err-left.field-0.0 _ c.from_residual-in_err-left.ensures.1
    (refused_is c.in_err-left.field-0.0 _ _ c.generics.invariant.1 (generics_unended c.generics.depth c.args.at (map generic_view c.generics.found.items) (trees c.generics.left.now) (trees c.in_ok-one.rest.now) (generic_view c.in_ok-one.one) c.in_err-left.field-0.0 c.generics-test.true c.in_default.ensures c.in_ok-one.ensures c.in_default-after_sign.ensures c.in_err-left.ensures))

pub read_generics-generics-preserved : goal.read_generics-generics-preserved
read_generics-generics-preserved t c =
    let pushed : map generic_view c.push.new.self.items ≡ map generic_view c.generics.found.items ++ generic_view c.in_ok-one.one ∷ [] = rw c.in_ok-push.ensures.items (map_push _ c.generics.found.items c.in_ok-one.one) in (
      omega arith,
      c.generics.invariant.1 ∙ generics_on c.generics.depth c.args.at (map generic_view c.generics.found.items) (trees c.generics.left.now) (trees c.in_ok-one.rest.now) (trees c.in_ok-left.left.now) (generic_view c.in_ok-one.one) c.generics-test.true c.in_default.ensures c.in_ok-one.ensures c.in_default-after_sign.ensures c.in_ok-left.ensures
          ∙ ap (λ (ys : List GenericD). with_first ys ((levels (c.generics.depth - 1)).generics c.args.at (trees c.in_ok-left.left.now))) (sym pushed),
    )

pub read_tys-returns-then-is_empty : goal.read_tys-returns-then-is_empty
read_tys-returns-then-is_empty t c =
    let none : nat_eq (length c.tys.left.now) 0 ≡ true = search rules in
    c.tys.invariant.1 ∙ tys_over c.tys.depth c.args.at (map ty c.tys.found.items) c.tys.left.now c.tys-test.true none

pub read_tys-returns-in_err-one : goal.read_tys-returns-in_err-one
read_tys-returns-in_err-one t c =
    let some : nat_eq (length c.tys.left.now) 0 ≡ false = search rules in
    answers_err _ c.from_residual.result c.in_err-one.field-0.0 _ c.from_residual.ensures.1
    (refused_is c.in_err-one.field-0.0 _ _ c.tys.invariant.1 (tys_refused c.tys.depth c.args.at (map ty c.tys.found.items) c.tys.left.now c.in_err-one.field-0.0 c.tys-test.true some c.in_err-one.ensures))

pub read_tys-returns-then-is_empty-2 : goal.read_tys-returns-then-is_empty-2
read_tys-returns-then-is_empty-2 t c =
    let some : nat_eq (length c.tys.left.now) 0 ≡ false = search rules in
    let none : nat_eq (length c.in_ok-one.rest.now) 0 ≡ true = search rules in
    let pushed : map ty c.push.new.self.items ≡ map ty c.tys.found.items ++ ty c.in_ok-one.one ∷ [] = rw c.in_ok-push.ensures.items (map_push _ c.tys.found.items c.in_ok-one.one) in
    c.tys.invariant.1 ∙ tys_end c.tys.depth c.args.at (map ty c.tys.found.items) c.tys.left.now c.in_ok-one.rest.now (ty c.in_ok-one.one) c.tys-test.true some c.in_ok-one.ensures none
    ∙ ap (λ (ys : List TyD). Ok (ys, false)) (sym pushed)

pub read_tys-returns-in_err-left : goal.read_tys-returns-in_err-left
read_tys-returns-in_err-left t c =
    let some : nat_eq (length c.tys.left.now) 0 ≡ false = search rules in
    let more : nat_eq (length c.in_ok-one.rest.now) 0 ≡ false = search rules in
    answers_err _ c.from_residual-in_err-left.result c.in_err-left.field-0.0 _ c.from_residual-in_err-left.ensures.1
    (refused_is c.in_err-left.field-0.0 _ _ c.tys.invariant.1 (tys_unended c.tys.depth c.args.at (map ty c.tys.found.items) c.tys.left.now c.in_ok-one.rest.now (ty c.in_ok-one.one) c.in_err-left.field-0.0 c.tys-test.true some c.in_ok-one.ensures more c.in_err-left.ensures))

pub read_tys-returns-then-is_empty-3 : goal.read_tys-returns-then-is_empty-3
read_tys-returns-then-is_empty-3 t c =
    let some : nat_eq (length c.tys.left.now) 0 ≡ false = search rules in
    let more : nat_eq (length c.in_ok-one.rest.now) 0 ≡ false = search rules in
    let none : nat_eq (length c.in_ok-left.left.now) 0 ≡ true = search rules in
    let pushed : map ty c.push.new.self.items ≡ map ty c.tys.found.items ++ ty c.in_ok-one.one ∷ [] = rw c.in_ok-push.ensures.items (map_push _ c.tys.found.items c.in_ok-one.one) in
    c.tys.invariant.1 ∙ tys_comma_end c.tys.depth c.args.at (map ty c.tys.found.items) c.tys.left.now c.in_ok-one.rest.now c.in_ok-left.left.now (ty c.in_ok-one.one) c.tys-test.true some c.in_ok-one.ensures more c.in_ok-left.ensures none
    ∙ ap (λ (ys : List TyD). Ok (ys, true)) (sym pushed)

pub read_tys-tys-preserved : goal.read_tys-tys-preserved
read_tys-tys-preserved t c =
    let some : nat_eq (length c.tys.left.now) 0 ≡ false = search rules in
    let more : nat_eq (length c.in_ok-one.rest.now) 0 ≡ false = search rules in
    let further : nat_eq (length c.in_ok-left.left.now) 0 ≡ false = search rules in
    let pushed : map ty c.push.new.self.items ≡ map ty c.tys.found.items ++ ty c.in_ok-one.one ∷ [] = rw c.in_ok-push.ensures.items (map_push _ c.tys.found.items c.in_ok-one.one) in (
      omega arith,
      c.tys.invariant.1 ∙ tys_on c.tys.depth c.args.at (map ty c.tys.found.items) c.tys.left.now c.in_ok-one.rest.now c.in_ok-left.left.now (ty c.in_ok-one.one) c.tys-test.true some c.in_ok-one.ensures more c.in_ok-left.ensures further
          ∙ ap (λ (ys : List TyD). with_first ys ((levels (c.tys.depth - 1)).tys c.args.at (trees c.in_ok-left.left.now))) (sym pushed),
    )

pub read_length-returns-in-empty : goal.read_length-returns-in-empty
read_length-returns-in-empty t c = refused_is c.missing_at.result _ _ (length_nothing (levels c.args.room) c.args.at c.args.tokens.now c.in-empty.len_below) (rw c.missing_at.ensures refl)

pub read_length-returns-in-len1-up : goal.read_length-returns-in-len1-up
read_length-returns-in-len1-up t c = answers_is expr c.read_some_length.result _ _ (length_something (levels c.args.room) c.args.at c.args.tokens.now c.in-len1-up.len_at_least) c.read_some_length.ensures
