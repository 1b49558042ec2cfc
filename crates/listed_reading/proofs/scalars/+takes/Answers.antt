use Rattle.std.proofs.Common.{◌≡◌, ◌+◌, ◌-◌, ap, ◌∙◌, arith, rules}
use Rattle.json_value.specs.View.{kept_view}
use Rattle.entry_defs.specs.Layer.{contents_entry}
use Rattle.tree_types.specs.View.{contents_view, parts_of, table_view, target_view, tree_view}
use Rattle.tree_types.proofs.Sizes.{tree_size, part_size, parts_size, cases_size, case_in_cases, front_in_parts, one_falls, tree_in_part, variants_fall}
use Rattle.listed_reading.specs.Followed.{following, takes_in}
use Rattle.listed_reading.proofs.Contents.{some_first, tuple_held, unit_held}
use Rattle.listed_reading.proofs.Fuel.{one_followed, none_followed}
use Rattle.listed_reading.proofs.Ranks.{falls, down, atom_falls}
use Rattle.listed_reading.proofs.TargetSteps.{among_sized}
use Rattle.listed_reading.proofs.Trees.{enum_known, enum_passed}
use Rattle.listed_reading.proofs.Variants.{taken_found, taken_none}
use Rattle.listed_reading.proofs.scalars.+takes.Goals as goal

-- ---- the measure falls

pub takes_scalar-follow-requires : goal.takes_scalar-follow-requires
takes_scalar-follow-requires g t c =
    let k = falls c.args.table.now c.args.left (tree_size c.args.tree.now) 0 t c.decreases (atom_falls c.args.tree.now c.in-Atom.atom c.in-Atom.is) in
    λ κs within. (k, within)

pub takes_scalar-takes_scalar-requires : goal.takes_scalar-takes_scalar-requires
takes_scalar-takes_scalar-requires g t c =
    let h = one_falls c.args.tree.now c.in-One.wrap c.in-One.held c.in-One.is in
    let s : tree_size c.deref.result.now ≡ tree_size c.in-One.held.value = ap tree_size c.deref.ensures in
    let k = falls c.args.table.now c.args.left (tree_size c.args.tree.now) (tree_size c.deref.result.now) t c.decreases (omega (arith, h, s)) in
    λ κs within. (k, within)

pub takes_scalar-some_takes-requires : goal.takes_scalar-some_takes-requires
takes_scalar-some_takes-requires g t c =
    let h = variants_fall c.args.tree.now c.in-Enum.name c.in-Enum.closed c.in-Enum.tag c.in-Enum.variants c.in-Enum.is in
    let k = falls c.args.table.now c.args.left (tree_size c.args.tree.now) (cases_size c.in-Enum.variants.items) t c.decreases h in
    λ κs within. (k, within)

pub some_takes-variant_takes-requires : goal.some_takes-variant_takes-requires
some_takes-variant_takes-requires g t c =
    let h = case_in_cases c.deref-variant-items.result.now c.args.variants.now.items c.loop-variant.variant-index c.variant-item.result c.deref-variant-items.ensures.value c.loop-variant-test.true c.variant-item.is in
    let k = falls c.args.table.now c.args.left (cases_size c.args.variants.now.items) (1 + parts_size c.variant-item.result.1.items) t c.decreases (omega (arith, h)) in
    λ κs within. (k, within)

pub variant_takes-front_takes-requires : goal.variant_takes-front_takes-requires
variant_takes-front_takes-requires g t c =
    let k = falls c.args.table.now c.args.left (1 + parts_size c.args.parts.now.items) (parts_size c.args.parts.now.items) t c.decreases (omega arith) in
    λ κs within. (k, within)

pub front_takes-part_takes-requires : goal.front_takes-part_takes-requires
front_takes-part_takes-requires g t c =
    let h = front_in_parts c.deref.result.now c.args.parts.now.items c.in-Some.part.now c.deref.ensures.value (search rules) in
    let k = falls c.args.table.now c.args.left (parts_size c.args.parts.now.items) (part_size c.in-Some.part.now) t c.decreases h in
    λ κs within. (k, within)

pub part_takes-takes_scalar-requires : goal.part_takes-takes_scalar-requires
part_takes-takes_scalar-requires g t c =
    let h = tree_in_part c.args.part.now c.in-Some.tree c.in-Some.is in
    let k = falls c.args.table.now c.args.left (part_size c.args.part.now) (tree_size c.in-Some.tree) t c.decreases h in
    λ κs within. (k, within)

pub follow-takes_scalar-requires : goal.follow-takes_scalar-requires
follow-takes_scalar-requires g t c =
    let h = among_sized c.in-Some.tree.now c.args.table.now.targets.items (search rules) in
    let k = down c.args.table.now c.args.left (tree_size c.in-Some.tree.now) t (λ e. absurd (omega (arith, e, c.if-left-eq0.false))) c.decreases h in
    λ κs within. (k, within)

-- ---- what is taken

pub follow-returns-in_ok-answer-in-Some-clause-taken : goal.follow-returns-in_ok-answer-in-Some-clause-taken
follow-returns-in_ok-answer-in-Some-clause-taken g t c =
    one_followed (table_view c.args.table.now) (g.T.Texts.relations c.args.texts.now) (kept_view c.args.value.now) (target_view c.args.target.now) c.in-Some.tree.now c.args.left c.in_ok-answer-in-Some.answer
    (λ e. absurd (omega (arith, e, c.if-left-eq0.false))) (search rules) c.in_ok-answer-in-Some.ensures.taken

pub follow-returns-in-None-clause-taken : goal.follow-returns-in-None-clause-taken
follow-returns-in-None-clause-taken g t c =
    none_followed (table_view c.args.table.now) (g.T.Texts.relations c.args.texts.now) (kept_view c.args.value.now) (target_view c.args.target.now) c.args.left
    (λ e. absurd (omega (arith, e, c.if-left-eq0.false))) (search rules)

pub some_takes-returns-then-branch-clause-taken : goal.some_takes-returns-then-branch-clause-taken
some_takes-returns-then-branch-clause-taken g t c =
    taken_found (table_view c.args.table.now) c.args.left (g.T.Texts.relations c.args.texts.now) (kept_view c.args.value.now) (g.T.Texts.relations c.loop-variant.texts) c.deref-variant-items.result.now c.args.variants.now.items c.loop-variant.variant-index c.variant-item.result
    c.in_ok-variant_takes.field-0 c.loop-variant.invariant.keeps c.deref-variant-items.ensures.value c.loop-variant-test.true c.variant-item.is c.if-branch.true c.loop-variant.invariant.rest c.in_ok-variant_takes.ensures.taken

pub some_takes-returns-clause-taken : goal.some_takes-returns-clause-taken
some_takes-returns-clause-taken g t c =
    taken_none (table_view c.args.table.now) c.args.left (g.T.Texts.relations c.args.texts.now) (kept_view c.args.value.now) c.deref-variant-items.result.now c.args.variants.now.items c.loop-variant.variant-index c.deref-variant-items.ensures.value (omega arith) c.loop-variant.invariant.rest

pub takes_scalar-returns-in-Some-3-clause-taken : goal.takes_scalar-returns-in-Some-3-clause-taken
takes_scalar-returns-in-Some-3-clause-taken g t c = λ m.
    ap (λ x. takes_in (following (table_view c.args.table.now) c.args.left m) (g.T.Texts.relations c.args.texts.now) (tree_view x) (kept_view c.args.value.now)) c.in-Enum.is
    ∙ enum_known (table_view c.args.table.now) c.args.left (g.T.Texts.relations c.args.texts.now) (kept_view c.args.value.now) c.in-Enum.name c.in-Enum.closed c.in-Enum.tag c.in-Enum.variants c.in_ok-answer-in-Enum.field-0 c.in-Some-3.answer c.in-Some-3.is
    c.in_ok-answer-in-Enum.ensures.taken m

pub takes_scalar-returns-in_ok-answer-in-Enum-2-clause-taken : goal.takes_scalar-returns-in_ok-answer-in-Enum-2-clause-taken
takes_scalar-returns-in_ok-answer-in-Enum-2-clause-taken g t c = λ m.
    ap (λ x. takes_in (following (table_view c.args.table.now) c.args.left m) (g.T.Texts.relations c.args.texts.now) (tree_view x) (kept_view c.args.value.now)) c.in-Enum.is
    ∙ enum_passed (table_view c.args.table.now) c.args.left (g.T.Texts.relations c.args.texts.now) (kept_view c.args.value.now) c.in-Enum.name c.in-Enum.closed c.in-Enum.tag c.in-Enum.variants c.in_ok-answer-in-Enum.field-0 c.in_ok-answer-in-Enum-2.answer (search rules)
    c.in_ok-answer-in-Enum.ensures.taken c.in_ok-answer-in-Enum-2.ensures.taken m

pub front_takes-returns-in_ok-answer-in-Some-clause-taken : goal.front_takes-returns-in_ok-answer-in-Some-clause-taken
front_takes-returns-in_ok-answer-in-Some-clause-taken g t c =
    some_first (table_view c.args.table.now) c.args.left (g.T.Texts.relations c.args.texts.now) (kept_view c.args.value.now) c.deref.result.now c.args.parts.now.items c.in-Some.part.now c.in_ok-answer-in-Some.answer
    c.deref.ensures.value (search rules) c.in_ok-answer-in-Some.ensures.taken

pub variant_takes-returns-in-Unit-clause-taken : goal.variant_takes-returns-in-Unit-clause-taken
variant_takes-returns-in-Unit-clause-taken g t c = λ m closed.
    ap (λ k. takes_in (following (table_view c.args.table.now) c.args.left m) (g.T.Texts.relations c.args.texts.now) (contents_entry closed (contents_view k (parts_of c.args.parts.now.items))) (kept_view c.args.value.now)) c.in-Unit.is
    ∙ unit_held (table_view c.args.table.now) c.args.left (g.T.Texts.relations c.args.texts.now) (kept_view c.args.value.now) (parts_of c.args.parts.now.items) c.is_null.result c.is_null.ensures m closed

pub variant_takes-returns-in_ok-no_list-in-Tuple-clause-taken : goal.variant_takes-returns-in_ok-no_list-in-Tuple-clause-taken
variant_takes-returns-in_ok-no_list-in-Tuple-clause-taken g t c = λ m closed.
    ap (λ k. takes_in (following (table_view c.args.table.now) c.args.left m) (g.T.Texts.relations c.args.texts.now) (contents_entry closed (contents_view k (parts_of c.args.parts.now.items))) (kept_view c.args.value.now)) c.in-Tuple.is
    ∙ tuple_held (table_view c.args.table.now) c.args.left (g.T.Texts.relations c.args.texts.now) (kept_view c.args.value.now) (parts_of c.args.parts.now.items) (search rules) m closed
