use Rattle.std.proofs.Common.{◌≡◌, false, Equal, Some, nat_cmp, string_bytes, ap, ◌∙◌, rules}
use Rattle.std.specs.Cmp.Lexicographic.{slice_cmp}
use Rattle.std.specs.Map.{lookup, lookup_key, remove_entry}
use Rattle.schema_types.specs.View.{properties_view}
use Rattle.merge_apart.specs.Aside.{are_settled}
use Rattle.merge_apart.proofs.Putting.{test_of, turn_back, settled_removed, each_once}
use Rattle.merge_apart.proofs.properties.properties_back.Goals as goal

pub loop-name-preserved-in-Some-remove_entry : goal.loop-name-preserved-in-Some-remove_entry
loop-name-preserved-in-Some-remove_entry c =
    let l = c.loop-name in
    let q = c.as_str-in-loop-name.result.now in
    let p = c.as_str.result.now in
    let k = c.in-Some-remove_entry.key in
    let s = c.in-Some-remove_entry.schema in
    let key : lookup_key (test_of q) l.aside.entries ≡ Some k = search rules in
    let value : lookup (test_of q) l.aside.entries ≡ Some s = search rules in
    let same : slice_cmp nat_cmp q (string_bytes k) ≡ Equal = search rules in
    let left : c.remove_entry.new.self.entries ≡ remove_entry (test_of q) l.aside.entries = search rules in
    let names : p ≡ q = search rules in
    let answer : c.contains_key.result ≡ false = search rules in
    record {
      whole = turn_back _ q p k s l.aside.entries c.remove_entry.new.self.entries l.body.entries c.insert.new.self.entries c.contains_key.result l.invariant.rises key value same left names c.contains_key.ensures answer c.in_ok-insert.ensures.entries l.invariant.whole;
      rises = c.remove_entry.ensures.ordered;
      settled = λ h. ap (λ es. are_settled (properties_view es)) left ∙ settled_removed (test_of q) l.aside.entries (l.invariant.settled h);
    }

pub returns-clause-once : goal.returns-clause-once
returns-clause-once c = λ h. each_once c.loop-name.aside.entries c.loop-name.invariant.rises
