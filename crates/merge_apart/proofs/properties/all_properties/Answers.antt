use Rattle.std.proofs.Common.{◌≡◌, [], ◌∷◌, true, false, string_bytes, sym, ap, ◌∙◌, rules}
use Rattle.schema_types.specs.View.{properties_view}
use Rattle.merge_apart.specs.Aside.{put_all}
use Rattle.merge_apart.proofs.Putting.{Entry, has_name, not_there, left_rises, turn_put, turn_there}
use Rattle.merge_apart.proofs.properties.all_properties.Goals as goal

pub loop-name-init : goal.loop-name-init
loop-name-init c = search rules

pub loop-name-preserved-then-not-contains_key : goal.loop-name-preserved-then-not-contains_key
loop-name-preserved-then-not-contains_key c =
    let l = c.loop-name in
    let e : Entry = (c.in-Some.name, c.in-Some.schema) in
    let steps : l.name-iterator ≡ e ∷ c.next.new.self = search rules in
    let answer : c.contains_key.result ≡ false = search rules in
    let absent : has_name (string_bytes e.0) (properties_view l.properties.entries) ≡ false = not_there c.as_str.result.now e.0 l.properties.entries c.contains_key.result false c.as_str.ensures.value c.contains_key.ensures answer in
    record {
      whole = turn_put _ e.0 e.1 l.name-iterator c.next.new.self l.properties.entries c.insert.new.self.entries steps l.invariant.left absent c.in_ok-insert.ensures.entries l.invariant.whole;
      left = left_rises e l.name-iterator c.next.new.self steps l.invariant.left;
      rises = c.in_ok-insert.ensures.ordered;
    }

pub loop-name-preserved : goal.loop-name-preserved
loop-name-preserved c =
    let l = c.loop-name in
    let e : Entry = (c.in-Some.name, c.in-Some.schema) in
    let steps : l.name-iterator ≡ e ∷ c.next.new.self = search rules in
    let there : has_name (string_bytes e.0) (properties_view l.properties.entries) ≡ true = not_there c.as_str.result.now e.0 l.properties.entries c.contains_key.result true c.as_str.ensures.value c.contains_key.ensures c.if-not-contains_key.false in
    record {
      whole = turn_there _ e.0 e.1 l.name-iterator c.next.new.self l.properties.entries steps l.invariant.left l.invariant.rises there l.invariant.whole;
      left = left_rises e l.name-iterator c.next.new.self steps l.invariant.left;
      rises = l.invariant.rises;
    }

pub returns : goal.returns
returns c =
    let left : c.loop-name.name-iterator ≡ [] = search rules in
    sym (ap (λ es. put_all (properties_view es) (properties_view c.loop-name.properties.entries)) left) ∙ c.loop-name.invariant.whole
