use Rattle.std.proofs.Common.{◌≡◌, drop}
use Rattle.std.specs.List.{list_all}
use Rattle.serde_json.specs.View.{items_view}
use Rattle.json_value.specs.Value.{is_among, text}
use Rattle.json_value.specs.View.{items_of}
use Rattle.schema_faults.proofs.float.lists_each.Given as goal

abbrev pub invariant-loop-name : goal.invariant-loop-name
invariant-loop-name l =
    list_all (λ n. is_among (text n.now) (items_of (items_view l.items.items))) l.names ≡ list_all (λ n. is_among (text n.now) (items_of (items_view l.items.items))) (drop l.name-index l.names)
