use Rattle.std.proofs.Common.{◌≡◌, drop, map}
use Rattle.std.specs.List.{flat_map}
use Rattle.serde_json.specs.View.{items_view, members_view}
use Rattle.json_value.specs.View.{items_of, members_of}
use Rattle.schema_faults.specs.Schemas.{held_items, held_members, list_nodes, nodes_of, object_nodes}
use Rattle.schema_faults.specs.Search.{first_among}
use Rattle.schema_faults.specs.Table.{row_of}
use Rattle.schema_faults.proofs.search.+search.Given as goal

abbrev pub invariant-in_keywords-loop-keyword : goal.invariant-in_keywords-loop-keyword
invariant-in_keywords-loop-keyword l =
    first_among l.search (flat_map (nodes_of l.at_root (held_members (members_of (members_view l.members.entries)))) (map row_of l.rows))
    ≡ first_among l.search (flat_map (nodes_of l.at_root (held_members (members_of (members_view l.members.entries)))) (map row_of (drop l.keyword-index l.rows)))

abbrev pub invariant-in_items-loop-i : goal.invariant-in_items-loop-i
invariant-in_items-loop-i l =
    first_among l.search (list_nodes l.keyword 0 (held_items (items_of (items_view l.items.items))))
    ≡ first_among l.search (list_nodes l.keyword l.i (held_items (items_of (items_view (drop l.i l.items.items)))))

abbrev pub invariant-in_members-loop-name : goal.invariant-in_members-loop-name
invariant-in_members-loop-name l =
    first_among l.search (object_nodes l.keyword (held_members (members_of (members_view l.members.entries))))
    ≡ first_among l.search (object_nodes l.keyword (held_members (members_of (members_view l.name-iterator))))
