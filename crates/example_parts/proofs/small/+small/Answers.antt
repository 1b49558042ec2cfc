use Rattle.std.proofs.Common.{string_cmp, subst, sym}
use Rattle.std.specs.Map.{keys_of}
use Rattle.std.specs.List.Sorted.{IsStrictlySortedBy}
use Rattle.serde_json.specs.View.{members_view}
use Rattle.json_value.specs.View.{members_of}
use Rattle.example_defs.specs.Built.{members_are_small}
use Rattle.example_parts.proofs.SmallMembers.{next_small, rest_rises, text_small}
use Rattle.example_parts.proofs.small.+small.Goals as goal

pub is_small-returns-in-String : goal.is_small-returns-in-String
is_small-returns-in-String t c = text_small c.args.value.now c.in-String.field-0 c.in-String.is

pub members_are_small-loop-value-preserved : goal.members_are_small-loop-value-preserved
members_are_small-loop-value-preserved t c =
    let l = c.loop-value in
    let k = c.in-Some.field-0-0.now in
    let v = c.in-Some.value.now in
    let rest = c.next.new.self in
    let rises = subst (λ es. IsStrictlySortedBy string_cmp (keys_of es)) c.in-Some.ensures.steps l.invariant.rises in
    record {
      left = sym (next_small l.value-iterator rest k v c.is_small.result (members_are_small (members_of (members_view c.args.members.now.entries))) c.in-Some.ensures.steps rises c.is_small.ensures (sym l.invariant.left) c.if-not-is_small.false);
      rises = rest_rises k v rest rises;
    }
