use Rattle.std.proofs.Common.{◌≡◌, ◌-◌, suc, true, false, None, [], ◌∷◌, refl, sym, ap, ◌∙◌, arith, rules, option_map}
use Rattle.std.specs.Vec.Iter.{into_iter_items}
use Rattle.schema_types.specs.View.{maybe_list_view, object_view, schema_view, subschemas_view}
use Rattle.merge_leaves.specs.Sizes.{list_sizes_view}
use Rattle.merge_parts.specs.Steps.{given}
use Rattle.merge_parts.specs.View.{notes_view}
use Rattle.merge_steps.proofs.Leading.{led, leads_by, leads_on}
use Rattle.merge_steps.proofs.Ending.{on}
use Rattle.merge_lists.specs.Plans.{does_go_on, each_outcome, ending_outcome, merged_view}
use Rattle.merge_apart.specs.View.{parted_view}
use Rattle.merge_branches.specs.Kept.{branches_outcome}
use Rattle.merge_sides.specs.Met.{referred_outcome, referred_view}
use Rattle.merge_cycle.specs.declared.how.How.TheVariants.{Join, Less}
use Rattle.merge_cycle.specs.Within.{asked_in, document_in, join_in, less_in, within}
use Rattle.merge_cycle.proofs.Bodies as bodies
use Rattle.merge_cycle.proofs.Levels.{asked_as, join_level, less_level, no_join_level, no_less_level}
use Rattle.merge_cycle.proofs.Named.{by_names, off_entries}
use Rattle.merge_cycle.proofs.Places.{each_noted, ending_any, ending_noted, places_begin, places_clash, places_step}
use Rattle.merge_cycle.proofs.Sames.{fates_off, members_off, members_on, off_all, off_any, off_none, to_one}
use Rattle.merge_cycle.proofs.Steps.{finds_by, found_as, found_on, goes_then, handed, handed_goes}
use Rattle.merge_cycle.proofs.Standing.{ends_apart, folded_on, stops_apart}
use Rattle.merge_cycle.proofs.Taken as taken
use Rattle.merge_cycle.proofs.cycle.+merge.Goals as goal

-- ---- two schemas

pub join-returns-then-left-eq0 : goal.join-returns-then-left-eq0
join-returns-then-left-eq0 t c =
    led (leads_by (no_join_level (document_in c.args.scope.now) c.args.scope.now.most c.args.left (schema_view c.args.first) (schema_view c.args.second) c.if-left-eq0.true)) (c.too_few.ensures _ _)

pub join-returns : goal.join-returns
join-returns t c =
    let k = c.args.left - 1 in
    let e : c.args.left ≡ suc k = omega (arith, c.if-left-eq0.false) in
    led (leads_by (join_level (document_in c.args.scope.now) c.args.scope.now.most c.args.left k (schema_view c.args.first) (schema_view c.args.second) e))
    (goes_then _ (c.in_ok-met.ensures (join_in c.args.scope.now k) (less_in c.args.scope.now k)) c.join_met.ensures)

pub join-returns-in_err-met : goal.join-returns-in_err-met
join-returns-in_err-met t c =
    let k = c.args.left - 1 in
    let e : c.args.left ≡ suc k = omega (arith, c.if-left-eq0.false) in
    led (leads_by (join_level (document_in c.args.scope.now) c.args.scope.now.most c.args.left k (schema_view c.args.first) (schema_view c.args.second) e))
    (handed_goes _ _ c.from_residual.ensures.1 (c.in_err-met.ensures (join_in c.args.scope.now k) (less_in c.args.scope.now k)))

pub join_target-returns : goal.join_target-returns
join_target-returns t c = on (referred_outcome (document_in c.args.scope.now) (referred_view c.args.asked.rest)) _ c.in_ok-merge.ensures c.stand_for.ensures

-- two objects
pub join_bodies-returns-in_err-array : goal.join_bodies-returns-in_err-array
join_bodies-returns-in_err-array t c =
    handed _ _ c.from_residual.ensures.1
    (bodies.off_lists (document_in c.args.scope.now) c.args.scope.now.most c.args.left c.args.bodies _ _ _ c.in_err-array.ensures)

pub join_bodies-returns-in_err-members : goal.join_bodies-returns-in_err-members
join_bodies-returns-in_err-members t c =
    handed _ _ c.from_residual-in_err-members.ensures.1
    (bodies.off_named (document_in c.args.scope.now) c.args.scope.now.most c.args.left c.args.bodies _ _ c.in_ok-array.array c.in_ok-array.ensures _ _ c.in_err-members.ensures)

pub join_bodies-returns-in_err-body : goal.join_bodies-returns-in_err-body
join_bodies-returns-in_err-body t c =
    handed _ _ c.from_residual-in_err-body.ensures.1
    (bodies.off_body (document_in c.args.scope.now) c.args.scope.now.most c.args.left c.args.bodies _ _ c.in_ok-array.array c.in_ok-array.ensures _ c.in_ok-members.members c.in_ok-members.ensures _ _ (c.in_err-body.ensures _))

pub join_bodies-returns-in_err-body-2 : goal.join_bodies-returns-in_err-body-2
join_bodies-returns-in_err-body-2 t c =
    handed _ _ c.from_residual-in_err-body-2.ensures.1
    (bodies.off_first (document_in c.args.scope.now) c.args.scope.now.most c.args.left c.args.bodies _ _ c.in_ok-array.array c.in_ok-array.ensures _ c.in_ok-members.members c.in_ok-members.ensures _ c.in_ok-body.body (c.in_ok-body.ensures _) _ _ c.in_err-body-2.ensures)

pub join_bodies-returns-in_err-body-3 : goal.join_bodies-returns-in_err-body-3
join_bodies-returns-in_err-body-3 t c =
    handed _ _ c.from_residual-in_err-body-3.ensures.1
    (bodies.off_second (document_in c.args.scope.now) c.args.scope.now.most c.args.left c.args.bodies _ _ c.in_ok-array.array c.in_ok-array.ensures _ c.in_ok-members.members c.in_ok-members.ensures _ c.in_ok-body.body (c.in_ok-body.ensures _) _ c.in_ok-body-2.body c.in_ok-body-2.ensures _ _ c.in_err-body-3.ensures)

pub join_bodies-returns : goal.join_bodies-returns
join_bodies-returns t c =
    bodies.to_end (document_in c.args.scope.now) c.args.scope.now.most c.args.left c.args.bodies _ _ c.in_ok-array.array c.in_ok-array.ensures _ c.in_ok-members.members c.in_ok-members.ensures _ c.in_ok-body.body (c.in_ok-body.ensures _)
    _ c.in_ok-body-2.body c.in_ok-body-2.ensures _ c.in_ok-body-3.body c.in_ok-schema.schema c.in_ok-body-3.ensures c.in_ok-schema.ensures

-- two parts
pub ask-returns-in-Join : goal.ask-returns-in-Join
ask-returns-in-Join t c =
    let d = document_in c.args.scope.now in
    let most = c.args.scope.now.most in
    led (leads_by (asked_as d most c.args.left c.args.walk.now c.args.how (schema_view c.args.first) (schema_view c.args.second) (schema_view c.in_ok-first.first) (schema_view c.in_ok-second.second) c.in_ok-first.ensures c.in_ok-second.ensures
    ∙ ap (λ h. within d most c.args.left h (schema_view c.in_ok-first.first) (schema_view c.in_ok-second.second)) c.in-Join.is)) c.join.ensures

pub ask-returns-in-Less : goal.ask-returns-in-Less
ask-returns-in-Less t c =
    let d = document_in c.args.scope.now in
    let most = c.args.scope.now.most in
    led (leads_by (asked_as d most c.args.left c.args.walk.now c.args.how (schema_view c.args.first) (schema_view c.args.second) (schema_view c.in_ok-first.first) (schema_view c.in_ok-second.second) c.in_ok-first.ensures c.in_ok-second.ensures
    ∙ ap (λ h. within d most c.args.left h (schema_view c.in_ok-first.first) (schema_view c.in_ok-second.second)) c.in-Less.is)) c.less.ensures

-- several, one after another
pub fold_one-returns-then-merges_beside-clause-ends : goal.fold_one-returns-then-merges_beside-clause-ends
fold_one-returns-then-merges_beside-clause-ends t c =
    let p = c.in_ok-parted.parted in
    ends_apart (document_in c.args.scope.now) c.args.scope.now.most c.args.left c.args.walk.now c.args.how p (parted_view c.args.parted) (schema_view c.args.schema) c.in_ok-parted.ensures.whole (c.in_ok-parted.ensures.settled c.requires.settled)
    (sym c.merges_beside.ensures ∙ c.if-merges_beside.true) c.in_ok-body.body c.in_ok-body.ensures

pub fold_one-returns-in_err-body-clause-ends : goal.fold_one-returns-in_err-body-clause-ends
fold_one-returns-in_err-body-clause-ends t c =
    let p = c.in_ok-parted.parted in
    stops_apart (document_in c.args.scope.now) c.args.scope.now.most c.args.left c.args.walk.now c.args.how p (parted_view c.args.parted) (schema_view c.args.schema) c.in_ok-parted.ensures.whole (c.in_ok-parted.ensures.settled c.requires.settled)
    (sym c.merges_beside.ensures ∙ c.if-merges_beside.true) _ _ c.from_residual-in_err-body.ensures.1 c.in_err-body.ensures

pub fold-loop-schema-preserved : goal.fold-loop-schema-preserved
fold-loop-schema-preserved t c =
    let l = c.loop-schema in
    let f = asked_in c.args.scope.now c.args.left c.args.walk.now c.args.how in
    let steps : into_iter_items l.schema-iterator ≡ c.in-Some.schema ∷ into_iter_items c.next.new.self = search rules in
    (leads_on l.invariant.0 (folded_on f _ _ c.in-Some.schema l.parted c.in_ok-parted.parted steps c.in_ok-parted.ensures.ends), c.in_ok-parted.ensures.stays)

-- ---- lists

pub join_each-returns : goal.join_each-returns
join_each-returns t c =
    let f = asked_in c.args.scope.now c.args.left c.args.walk.now Join in
    found_on (each_outcome f c.args.around) (each_noted f c.args.around) c.in_ok-found.found c.in_ok-found.ensures (c.each_front.ensures f)

pub join_places-returns-then-not-goes_on : goal.join_places-returns-then-not-goes_on
join_places-returns-then-not-goes_on t c =
    let f = asked_in c.args.scope.now c.args.left c.args.walk.now Join in
    let p = c.args.places in
    let m = merged_view c.in_ok-merged.merged in
    let o = f (schema_view p.after.first) (schema_view p.after.second) in
    let h : does_go_on m.end ≡ false = search rules in
    on (ending_outcome f p.around p.is_placed o) _ c.in_ok-merged.ensures (led (leads_by (ending_any f p.around p.is_placed m h o (given [] None))) (c.ended.ensures f))

pub join_places-returns : goal.join_places-returns
join_places-returns t c =
    let f = asked_in c.args.scope.now c.args.left c.args.walk.now Join in
    let p = c.args.places in
    let m = merged_view c.in_ok-merged.merged in
    let o = f (schema_view p.after.first) (schema_view p.after.second) in
    let h : does_go_on m.end ≡ true = search rules in
    on (ending_outcome f p.around p.is_placed o) _ c.in_ok-merged.ensures (found_on (λ x. ending_outcome f p.around p.is_placed x m) (ending_noted f p.around p.is_placed m h) c.in_ok-found.found c.in_ok-found.ensures (c.ended-2.ensures f))

-- place by place
pub join_pairs-loop-pair-init : goal.join_pairs-loop-pair-init
join_pairs-loop-pair-init t c =
    let same : into_iter_items c.into_iter-pair-iterator.result ≡ c.args.pairs.items = search rules in
    places_begin (asked_in c.args.scope.now c.args.left c.args.walk.now Join) c.args.around.now.is_array (list_sizes_view c.args.around.now.sizes) _ c.new-items.result.items c.args.pairs.items (into_iter_items c.into_iter-pair-iterator.result) c.new-items.ensures.items same

pub join_pairs-loop-pair-preserved : goal.join_pairs-loop-pair-preserved
join_pairs-loop-pair-preserved t c =
    let l = c.loop-pair in
    let steps : into_iter_items l.pair-iterator ≡ c.in-Some.pair ∷ into_iter_items c.next.new.self = search rules in
    leads_on l.invariant
    (places_step (asked_in c.args.scope.now c.args.left c.args.walk.now Join) c.args.around.now.is_array (list_sizes_view c.args.around.now.sizes) _ _ l.items.items c.push.new.self.items c.in-Some.pair c.in-Some.pair.first c.in-Some.pair.second c.in-Some-2.schema _ _
    (search rules) steps refl (found_as c.in_ok-schema.ensures c.in-Some-2.is) (search rules))

pub join_pairs-returns-in-None-2 : goal.join_pairs-returns-in-None-2
join_pairs-returns-in-None-2 t c =
    let l = c.loop-pair in
    let steps : into_iter_items l.pair-iterator ≡ c.in-Some.pair ∷ into_iter_items c.next.new.self = search rules in
    led l.invariant
    (places_clash (asked_in c.args.scope.now c.args.left c.args.walk.now Join) c.args.around.now.is_array (list_sizes_view c.args.around.now.sizes) _ _ _ l.items.items c.in-Some.pair c.in-Some.pair.first c.in-Some.pair.second _ _ c.clashed.result
    (search rules) steps refl (search rules) (c.clashed.ensures (asked_in c.args.scope.now c.args.left c.args.walk.now Join)))

-- ---- members

pub join_both-returns : goal.join_both-returns
join_both-returns t c =
    by_names (asked_in c.args.scope.now c.args.left c.args.walk.now Join) c.args.members _ _ c.in_ok-rest.rest c.in_ok-rest.ensures c.no_rest-is_closed.result c.no_rest-is_closed.ensures _ _ c.in_ok-gathered.gathered c.made_members.result
    (c.in_ok-gathered.ensures c.args.members.frame.is_object) c.made_members.ensures

pub join_both-returns-in_err-gathered : goal.join_both-returns-in_err-gathered
join_both-returns-in_err-gathered t c =
    handed _ _ c.from_residual-in_err-gathered.ensures.1
    (off_entries (asked_in c.args.scope.now c.args.left c.args.walk.now Join) c.args.members _ _ c.in_ok-rest.rest c.in_ok-rest.ensures c.no_rest-is_closed.result c.no_rest-is_closed.ensures _ _ (c.in_err-gathered.ensures c.args.members.frame.is_object))

-- ---- subschemas

pub with_parts-returns-in_err-body : goal.with_parts-returns-in_err-body
with_parts-returns-in_err-body t c =
    let d = document_in c.args.scope.now in
    let f = asked_in c.args.scope.now c.args.left c.args.walk.now Join in
    let g = asked_in c.args.scope.now c.args.left c.args.walk.now Less in
    let p = c.in_ok-parts.parts in
    let e = c.in_ok-parts.ensures in
    handed _ _ c.from_residual-in_err-body.ensures.1 (off_all d f g (subschemas_view c.args.same) p.all.items p.none.items (maybe_list_view (option_map (λ v. v.items) p.any)) (maybe_list_view (option_map (λ v. v.items) p.one)) e.all e.none e.any e.one (schema_view c.args.body) _ _ _ c.in_err-body.ensures)

pub with_parts-returns-in_err-body-2 : goal.with_parts-returns-in_err-body-2
with_parts-returns-in_err-body-2 t c =
    let d = document_in c.args.scope.now in
    let f = asked_in c.args.scope.now c.args.left c.args.walk.now Join in
    let g = asked_in c.args.scope.now c.args.left c.args.walk.now Less in
    let p = c.in_ok-parts.parts in
    let e = c.in_ok-parts.ensures in
    handed _ _ c.from_residual-in_err-body-2.ensures.1 (off_none d f g (subschemas_view c.args.same) p.all.items p.none.items (maybe_list_view (option_map (λ v. v.items) p.any)) (maybe_list_view (option_map (λ v. v.items) p.one)) e.all e.none e.any e.one (schema_view c.args.body) _ _ c.in_ok-body.body c.in_ok-body.ensures _ _ c.in_err-body-2.ensures)

pub with_parts-returns-in_err-body-3 : goal.with_parts-returns-in_err-body-3
with_parts-returns-in_err-body-3 t c =
    let d = document_in c.args.scope.now in
    let f = asked_in c.args.scope.now c.args.left c.args.walk.now Join in
    let g = asked_in c.args.scope.now c.args.left c.args.walk.now Less in
    let p = c.in_ok-parts.parts in
    let e = c.in_ok-parts.ensures in
    handed _ _ c.from_residual-in_err-body-3.ensures.1 (off_any d f g (subschemas_view c.args.same) p.all.items p.none.items (maybe_list_view (option_map (λ v. v.items) p.any)) (maybe_list_view (option_map (λ v. v.items) p.one)) e.all e.none e.any e.one (schema_view c.args.body) _ _ c.in_ok-body.body c.in_ok-body.ensures _ c.in_ok-body-2.body c.in_ok-body-2.ensures _ _ c.in_err-body-3.ensures)

pub with_parts-returns : goal.with_parts-returns
with_parts-returns t c =
    let d = document_in c.args.scope.now in
    let f = asked_in c.args.scope.now c.args.left c.args.walk.now Join in
    let g = asked_in c.args.scope.now c.args.left c.args.walk.now Less in
    let p = c.in_ok-parts.parts in
    let e = c.in_ok-parts.ensures in
    to_one d f g (subschemas_view c.args.same) p.all.items p.none.items (maybe_list_view (option_map (λ v. v.items) p.any)) (maybe_list_view (option_map (λ v. v.items) p.one)) e.all e.none e.any e.one (schema_view c.args.body) _ _ c.in_ok-body.body c.in_ok-body.ensures _ c.in_ok-body-2.body c.in_ok-body-2.ensures _ _ c.in_ok-body-3.body _ c.in_ok-body-3.ensures c.with_branches-2.ensures

pub with_branches-returns-in_ok-kept-in-Some : goal.with_branches-returns-in_ok-kept-in-Some
with_branches-returns-in_ok-kept-in-Some t c =
    let d = document_in c.args.scope.now in
    let f = asked_in c.args.scope.now c.args.left c.args.walk.now Join in
    led (leads_by (ap (λ o. branches_outcome d f c.args.branch (maybe_list_view (option_map (λ v. v.items) o)) (schema_view c.args.body)) c.in-Some.is))
    (members_on d f c.args.branch c.in-Some.members.items (schema_view c.args.body) _ _ _ c.in_ok-kept-in-Some.kept c.in_ok-kept-in-Some.ensures c.finish.ensures)

pub with_branches-returns-in_err-kept-in-Some : goal.with_branches-returns-in_err-kept-in-Some
with_branches-returns-in_err-kept-in-Some t c =
    let d = document_in c.args.scope.now in
    let f = asked_in c.args.scope.now c.args.left c.args.walk.now Join in
    led (leads_by (ap (λ o. branches_outcome d f c.args.branch (maybe_list_view (option_map (λ v. v.items) o)) (schema_view c.args.body)) c.in-Some.is))
    (handed _ _ c.from_residual.ensures.1 (members_off d f c.args.branch c.in-Some.members.items (schema_view c.args.body) _ _ _ c.in_err-kept-in-Some.ensures))

pub fates-returns-in_err-found : goal.fates-returns-in_err-found
fates-returns-in_err-found t c =
    let l = c.loop-place in
    led l.invariant (handed _ _ c.from_residual-in_err-found.ensures.1
    (fates_off (asked_in c.args.scope.now c.args.left c.args.walk.now Join) (schema_view c.args.body.now) c.args.members.now.items _ _ _ _ l.place _ c.index.result.now c.in_ok-first.first c.in_ok-second.second _ (search rules) (search rules)
    c.in_ok-first.ensures c.in_ok-second.ensures c.in_err-found.ensures))

-- ---- taking away

pub less-returns-then-left-eq0 : goal.less-returns-then-left-eq0
less-returns-then-left-eq0 t c =
    led (leads_by (no_less_level (document_in c.args.scope.now) c.args.scope.now.most c.args.left (schema_view c.args.first) (schema_view c.args.second) c.if-left-eq0.true)) (c.too_few.ensures _ _)

pub less-returns : goal.less-returns
less-returns t c =
    let k = c.args.left - 1 in
    let e : c.args.left ≡ suc k = omega (arith, c.if-left-eq0.false) in
    led (leads_by (less_level (document_in c.args.scope.now) c.args.scope.now.most c.args.left k (schema_view c.args.first) (schema_view c.args.second) e))
    (goes_then _ (c.in_ok-taking.ensures (join_in c.args.scope.now k) (less_in c.args.scope.now k)) c.less_met.ensures)

pub less-returns-in_err-taking : goal.less-returns-in_err-taking
less-returns-in_err-taking t c =
    let k = c.args.left - 1 in
    let e : c.args.left ≡ suc k = omega (arith, c.if-left-eq0.false) in
    led (leads_by (less_level (document_in c.args.scope.now) c.args.scope.now.most c.args.left k (schema_view c.args.first) (schema_view c.args.second) e))
    (handed_goes _ _ c.from_residual.ensures.1 (c.in_err-taking.ensures (join_in c.args.scope.now k) (less_in c.args.scope.now k)))

-- an object from an object
pub less_object-returns-in_err-gathered : goal.less_object-returns-in_err-gathered
less_object-returns-in_err-gathered t c =
    let x = c.args.taken in
    handed _ _ c.from_residual.ensures.1 (taken.off_names (document_in c.args.scope.now) c.args.scope.now.most c.args.left (object_view x.object) x.entries.items x.any.items x.none.items x.all _ _ _ (c.in_err-gathered.ensures true))

pub less_object-returns-in_err-schema : goal.less_object-returns-in_err-schema
less_object-returns-in_err-schema t c =
    let x = c.args.taken in
    handed _ _ c.from_residual-in_err-schema.ensures.1 (taken.off_object (document_in c.args.scope.now) c.args.scope.now.most c.args.left (object_view x.object) x.entries.items x.any.items x.none.items x.all _ _ c.in_ok-gathered.gathered (c.in_ok-gathered.ensures true) _ _ c.in_err-schema.ensures)

pub less_object-returns-in_err-schema-2 : goal.less_object-returns-in_err-schema-2
less_object-returns-in_err-schema-2 t c =
    let x = c.args.taken in
    handed _ _ c.from_residual-in_err-schema-2.ensures.1 (taken.off_any (document_in c.args.scope.now) c.args.scope.now.most c.args.left (object_view x.object) x.entries.items x.any.items x.none.items x.all _ _ c.in_ok-gathered.gathered (c.in_ok-gathered.ensures true) _ c.in_ok-schema.schema c.in_ok-schema.ensures _ _ c.in_err-schema-2.ensures)

pub less_object-returns-in_err-schema-3 : goal.less_object-returns-in_err-schema-3
less_object-returns-in_err-schema-3 t c =
    let x = c.args.taken in
    handed _ _ c.from_residual-in_err-schema-3.ensures.1 (taken.off_none (document_in c.args.scope.now) c.args.scope.now.most c.args.left (object_view x.object) x.entries.items x.any.items x.none.items x.all _ _ c.in_ok-gathered.gathered (c.in_ok-gathered.ensures true) _ c.in_ok-schema.schema c.in_ok-schema.ensures _ c.in_ok-schema-2.schema c.in_ok-schema-2.ensures _ _ c.in_err-schema-3.ensures)

pub less_object-returns : goal.less_object-returns
less_object-returns t c =
    let x = c.args.taken in
    taken.to_all (document_in c.args.scope.now) c.args.scope.now.most c.args.left (object_view x.object) x.entries.items x.any.items x.none.items x.all _ _ c.in_ok-gathered.gathered (c.in_ok-gathered.ensures true) _ c.in_ok-schema.schema c.in_ok-schema.ensures _ c.in_ok-schema-2.schema c.in_ok-schema-2.ensures _ _ c.in_ok-schema-3.schema _ c.in_ok-schema-3.ensures c.less_all.ensures

pub less_listed-returns-in_err-found : goal.less_listed-returns-in_err-found
less_listed-returns-in_err-found t c =
    handed _ _ c.from_residual.ensures.1
    (taken.listed_off (document_in c.args.scope.now) c.args.scope.now.most c.args.left c.args.listed (schema_view c.args.schema) _ _ _ _ _ (finds_by c.fold.result _ c.in_err-found.ensures c.fold.ensures))

pub less_listed-returns-in-None : goal.less_listed-returns-in-None
less_listed-returns-in-None t c =
    taken.listed_none (document_in c.args.scope.now) c.args.scope.now.most c.args.left c.args.listed (schema_view c.args.schema) _ _ _ _ c.in_ok-found.found _ (finds_by c.fold.result _ c.in_ok-found.ensures c.fold.ensures)
    (ap notes_view c.new-inner.ensures.items) c.in-None.is refl c.in_ok-add_turned.ensures

pub less_listed-returns : goal.less_listed-returns
less_listed-returns t c =
    taken.listed_some (document_in c.args.scope.now) c.args.scope.now.most c.args.left c.args.listed (schema_view c.args.schema) _ _ _ _ _ c.in_ok-found.found c.in-Some.merge _ (finds_by c.fold.result _ c.in_ok-found.ensures c.fold.ensures)
    (ap notes_view c.new-inner.ensures.items) c.in-Some.is c.in_ok-add_turned.ensures c.less.ensures
