use Rattle.std.proofs.Common.{◌≡◌, [], ◌∷◌, true, false, string_bytes, ap, rules}
use Rattle.schema_types.specs.View.{properties_view, schema_view}
use Rattle.merge_apart.specs.Aside.{put_all, is_settled}
use Rattle.merge_apart.proofs.Putting.{Entry, Rises, has_name, not_there, left_rises, begins_aside, none_at_start, none_left, none_more, turn_aside, turn_stays, settled_more, each_once}
use Rattle.merge_apart.proofs.properties.properties_aside.Goals as goal

pub loop-name-init : goal.loop-name-init
loop-name-init c =
    let empty : c.new-body.result.entries ≡ [] = search rules in
    let all : c.into_iter-name-iterator.result ≡ c.args.properties.entries = search rules in
    let rises : Rises c.into_iter-name-iterator.result = search rules in
    record {
      whole = ap (put_all (properties_view c.args.aside.entries)) (begins_aside c.args.properties.entries c.into_iter-name-iterator.result c.new-body.result.entries empty all rises);
      left = rises;
      rises = c.len-len.ensures.ordered;
      none = none_at_start c.into_iter-name-iterator.result c.new-body.result.entries empty;
      settled = λ h. h;
    }

pub loop-name-preserved-then-not-contains_key : goal.loop-name-preserved-then-not-contains_key
loop-name-preserved-then-not-contains_key c =
    let l = c.loop-name in
    let e : Entry = (c.in-Some.name, c.in-Some.schema) in
    let steps : l.name-iterator ≡ e ∷ c.next.new.self = search rules in
    let answer : c.contains_key.result ≡ false = search rules in
    let absent : has_name (string_bytes e.0) (properties_view l.aside.entries) ≡ false = not_there c.as_str.result.now e.0 l.aside.entries c.contains_key.result false c.as_str.ensures.value c.contains_key.ensures answer in
    let settled : is_settled (schema_view e.1) ≡ true = search rules in
    record {
      whole = turn_aside _ e.0 e.1 l.name-iterator c.next.new.self l.aside.entries c.insert.new.self.entries (properties_view l.body.entries) steps absent c.in_ok-insert.ensures.entries l.invariant.whole;
      left = left_rises e l.name-iterator c.next.new.self steps l.invariant.left;
      rises = c.in_ok-insert.ensures.ordered;
      none = none_left e.0 e.1 l.name-iterator c.next.new.self l.body.entries steps l.invariant.none;
      settled = λ h. settled_more e.0 e.1 l.aside.entries c.insert.new.self.entries absent c.in_ok-insert.ensures.entries settled (l.invariant.settled h);
    }

pub loop-name-preserved : goal.loop-name-preserved
loop-name-preserved c =
    let l = c.loop-name in
    let e : Entry = (c.in-Some.name, c.in-Some.schema) in
    let steps : l.name-iterator ≡ e ∷ c.next.new.self = search rules in
    let put = c.in_ok-insert-2.ensures.entries in
    record {
      whole = turn_stays _ (properties_view l.aside.entries) e.0 e.1 l.name-iterator c.next.new.self l.body.entries c.insert-else-is_settled.new.self.entries steps l.invariant.left l.invariant.none put l.invariant.whole;
      left = left_rises e l.name-iterator c.next.new.self steps l.invariant.left;
      rises = l.invariant.rises;
      none = none_more e.0 e.1 l.name-iterator c.next.new.self l.body.entries c.insert-else-is_settled.new.self.entries steps l.invariant.left l.invariant.none put;
      settled = l.invariant.settled;
    }

pub returns-clause-once : goal.returns-clause-once
returns-clause-once c = λ h. each_once c.loop-name.aside.entries c.loop-name.invariant.rises
