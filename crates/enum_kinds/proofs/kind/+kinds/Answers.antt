use Rattle.std.proofs.Common.{◌≡◌, ◌∙◌, ◌<◌, ◌+◌, ◌∷◌, sym, ap, string_bytes, arith, rules}
use Rattle.std.specs.Prelude.{None, Some}
use Rattle.schema_defs.specs.Children.{reference_of}
use Rattle.schema_defs.specs.Admits.{target}
use Rattle.schema_types.specs.DocumentView.{document_view}
use Rattle.schema_defs.specs.Schema.{schema, schemas}
use Rattle.schema_types.specs.View.{schema_view, schemas_view}
use Rattle.enum_defs.specs.Kinds.{meet, kinds, kinds_beyond, followed}
use Rattle.enum_defs.proofs.Spare.{kinds_unfold}
use Rattle.enum_defs.proofs.Weights.{weight, far, all_weight, target-lighter}
use Rattle.enum_kinds.proofs.Sets.{no-reference, no-target, a-target, without_reference, with_reference, with_rest, one_more_of_all, one_more_of_some}
use Rattle.enum_kinds.proofs.Views.{same-out}
use Rattle.enum_kinds.proofs.kind.+kinds.Goals as goal

pub kinds_of-returns-in_default-clause-answer : goal.kinds_of-returns-in_default-clause-answer
kinds_of-returns-in_default-clause-answer t c =
    let s = schema_view c.args.schema.now in
    let none : reference_of s ≡ None = search rules in
    without_reference (document_view c.args.document.now) c.requires.guarded c.kinds_here-here.result s c.kinds_here-here.ensures.answer none

pub kinds_of-returns-clause-answer : goal.kinds_of-returns-clause-answer
kinds_of-returns-clause-answer t c = with_reference (document_view c.args.document.now) c.requires.guarded c.kinds_here-here.result c.kinds_behind.result c.meet.result (schema_view c.args.schema.now) (string_bytes c.in-Some.reference.now) c.kinds_here-here.ensures.answer c.kinds_behind.ensures.answer (sym c.in-Some.ensures) c.meet.ensures

pub kinds_behind-keep-requires : goal.kinds_behind-keep-requires
kinds_behind-keep-requires t c =
    let d = document_view c.args.document.now in
    let q = string_bytes c.args.reference.now in
    let there : target d q ≡ Some (schema_view c.in-Some-target.target.now) = ap (target d) (sym c.as_str.ensures.value) ∙ sym c.in-Some-target.ensures in
    ap (λ e. kinds_beyond (document_view e) q) c.kinds_along-kinds.ensures.asked ∙ ap (followed (kinds d)) there ∙ sym c.kinds_along-kinds.ensures.answer

pub kinds_behind-kinds_along-kinds-requires : goal.kinds_behind-kinds_along-kinds-requires
kinds_behind-kinds_along-kinds-requires t c =
    let d = document_view c.args.document.now in
    let there : target d (string_bytes c.args.reference.now) ≡ Some (schema_view c.in-Some-target.target.now) = ap (target d) (sym c.as_str.ensures.value) ∙ sym c.in-Some-target.ensures in
    let lighter : weight d (schema_view c.in-Some-target.target.now) < weight d (schema_view c.args.schema.now) =
    target-lighter d c.requires.guarded (schema_view c.args.schema.now) (string_bytes c.args.reference.now) (schema_view c.in-Some-target.target.now) c.requires.refers there in
    (omega (arith, lighter, c.decreases), (c.requires.guarded, c.requires.asked))

pub kinds_along-returns-in_default-clause-answer : goal.kinds_along-returns-in_default-clause-answer
kinds_along-returns-in_default-clause-answer t c =
    let s = schema_view c.references.at.now in
    let none : reference_of s ≡ None = search rules in
    no-reference (document_view c.args.document.now) c.requires.guarded c.references.kinds c.meet-so_far.result c.kinds_here-here.result s c.kinds_here-here.ensures.answer c.meet-so_far.ensures none ∙ c.references.invariant.same

pub kinds_along-returns-in-Some-get-clause-answer : goal.kinds_along-returns-in-Some-get-clause-answer
kinds_along-returns-in-Some-get-clause-answer t c =
    let d = document_view c.args.document.now in
    let q = string_bytes c.in-Some.reference.now in
    let rest : kinds_beyond d q ≡ c.in-Some-get.rest = ap (λ e. kinds_beyond (document_view e) q) (sym c.kinds_here-here.ensures.asked) ∙ c.get.ensures c.in-Some-get.rest c.in-Some-get.is in
    with_rest d c.requires.guarded c.references.kinds c.meet-so_far.result c.kinds_here-here.result c.in-Some-get.rest c.meet.result (schema_view c.references.at.now) q
    c.kinds_here-here.ensures.answer c.meet-so_far.ensures (sym c.in-Some.ensures) rest c.meet.ensures
    ∙ c.references.invariant.same

pub kinds_along-returns-in_default-target-clause-answer : goal.kinds_along-returns-in_default-target-clause-answer
kinds_along-returns-in_default-target-clause-answer t c =
    let d = document_view c.args.document.now in
    let s = schema_view c.references.at.now in
    let none : target d (string_bytes c.in-Some.reference.now) ≡ None = search rules in
    c.no_kind.ensures ∙ no-target d c.requires.guarded c.references.kinds s (string_bytes c.in-Some.reference.now) (sym c.in-Some.ensures) none ∙ c.references.invariant.same

pub kinds_along-references-smaller : goal.kinds_along-references-smaller
kinds_along-references-smaller t c =
    let d = document_view c.args.document.now in
    let there : target d (string_bytes c.in-Some.reference.now) ≡ Some (schema_view c.in-Some-target.target.now) = ap (target d) (sym c.as_str.ensures.value) ∙ sym c.in-Some-target.ensures in
    target-lighter d c.requires.guarded (schema_view c.references.at.now) (string_bytes c.in-Some.reference.now) (schema_view c.in-Some-target.target.now) (sym c.in-Some.ensures) there

pub kinds_along-references-preserved : goal.kinds_along-references-preserved
kinds_along-references-preserved t c =
    let d = document_view c.args.document.now in
    let s = schema_view c.references.at.now in
    let q = string_bytes c.in-Some.reference.now in
    let there : target d q ≡ Some (schema_view c.in-Some-target.target.now) = ap (target d) (sym c.as_str.ensures.value) ∙ sym c.in-Some-target.ensures in
    let lighter : weight d (schema_view c.in-Some-target.target.now) < weight d s = target-lighter d c.requires.guarded s q (schema_view c.in-Some-target.target.now) (sym c.in-Some.ensures) there in record {
      same =
          a-target d c.requires.guarded c.references.kinds c.meet-so_far.result c.kinds_here-here.result s (schema_view c.in-Some-target.target.now) q c.kinds_here-here.ensures.answer c.meet-so_far.ensures (sym c.in-Some.ensures) there
          ∙ c.references.invariant.same;
      lighter = omega (arith, lighter, c.references.invariant.lighter);
      asked = c.kinds_here-here.ensures.asked;
    }

pub meet_of-members-preserved : goal.meet_of-members-preserved
meet_of-members-preserved t c =
    let d = document_view c.args.document.now in
    let x = schema_view c.in-Some.schema.now in
    let split : c.members.left.now ≡ c.in-Some.schema.now ∷ c.in-Some.rest.now = search rules in
    let seen : schemas (schemas_view c.members.left.now) ≡ schema x (schemas (schemas_view c.in-Some.rest.now)) = ap (λ ss. schemas (schemas_view ss)) split in
    let weighs : all_weight (far d) (schemas (schemas_view c.members.left.now)) ≡ weight d x + all_weight (far d) (schemas (schemas_view c.in-Some.rest.now)) = ap (all_weight (far d)) seen in record {
      same = one_more_of_all (kinds_beyond d) c.members.kinds c.meet-kinds.result c.kinds_of.result x (schemas (schemas_view c.in-Some.rest.now)) (schemas (schemas_view c.members.left.now)) _ c.meet-kinds.ensures (c.kinds_of.ensures.answer ∙ kinds_unfold d c.requires.guarded x) seen c.members.invariant.same;
      lighter = omega (arith, weighs, c.members.invariant.lighter);
      asked = c.kinds_of.ensures.asked;
    }

pub union_of-members-preserved : goal.union_of-members-preserved
union_of-members-preserved t c =
    let d = document_view c.args.document.now in
    let x = schema_view c.in-Some.schema.now in
    let split : c.members.left.now ≡ c.in-Some.schema.now ∷ c.in-Some.rest.now = search rules in
    let seen : schemas (schemas_view c.members.left.now) ≡ schema x (schemas (schemas_view c.in-Some.rest.now)) = ap (λ ss. schemas (schemas_view ss)) split in
    let weighs : all_weight (far d) (schemas (schemas_view c.members.left.now)) ≡ weight d x + all_weight (far d) (schemas (schemas_view c.in-Some.rest.now)) = ap (all_weight (far d)) seen in record {
      same = one_more_of_some (kinds_beyond d) c.members.kinds c.join-kinds.result c.kinds_of.result x (schemas (schemas_view c.in-Some.rest.now)) (schemas (schemas_view c.members.left.now)) _ c.join-kinds.ensures (c.kinds_of.ensures.answer ∙ kinds_unfold d c.requires.guarded x) seen c.members.invariant.same;
      lighter = omega (arith, weighs, c.members.invariant.lighter);
      asked = c.kinds_of.ensures.asked;
    }

pub meet_of-kinds_of-requires : goal.meet_of-kinds_of-requires
meet_of-kinds_of-requires t c =
    let d = document_view c.args.document.now in
    let x = schema_view c.in-Some.schema.now in
    let split : c.members.left.now ≡ c.in-Some.schema.now ∷ c.in-Some.rest.now = search rules in
    let weighs : all_weight (far d) (schemas (schemas_view c.members.left.now)) ≡ weight d x + all_weight (far d) (schemas (schemas_view c.in-Some.rest.now)) = ap (λ ss. all_weight (far d) (schemas (schemas_view ss))) split in
    (omega (arith, weighs, c.members.invariant.lighter, c.decreases), (c.requires.guarded, c.members.invariant.asked))

pub union_of-kinds_of-requires : goal.union_of-kinds_of-requires
union_of-kinds_of-requires t c =
    let d = document_view c.args.document.now in
    let x = schema_view c.in-Some.schema.now in
    let split : c.members.left.now ≡ c.in-Some.schema.now ∷ c.in-Some.rest.now = search rules in
    let weighs : all_weight (far d) (schemas (schemas_view c.members.left.now)) ≡ weight d x + all_weight (far d) (schemas (schemas_view c.in-Some.rest.now)) = ap (λ ss. all_weight (far d) (schemas (schemas_view ss))) split in
    (omega (arith, weighs, c.members.invariant.lighter, c.decreases), (c.requires.guarded, c.members.invariant.asked))

pub kinds_of_subschemas-returns-in-Some-clause-answer : goal.kinds_of_subschemas-returns-in-Some-clause-answer
kinds_of_subschemas-returns-in-Some-clause-answer t c =
    c.meet-in-Some.ensures
    ∙ ap (λ k. meet c.kinds_of_all-all.result k) c.meet.ensures
    ∙ (λ i. meet (c.kinds_of_all-all.ensures.answer i) (meet (c.kinds_of_some-any.ensures.answer i) (c.kinds_of_some-one.ensures.answer i)))
    ∙ sym (same-out (kinds_beyond (document_view c.args.document.now)) c.args.subschemas.now c.in-Some.lists c.in-Some.is)
