use Rattle.std.proofs.Common.{◌≡◌, ◌++◌, take, drop, string_bytes}
use Rattle.std.specs.List.{flat_map}
use Rattle.serde_json.specs.View.{items_view, members_view}
use Rattle.json_value.specs.View.{items_of, members_of}
use Rattle.schema_faults.specs.Schemas.{held_items, held_members, list_nodes, object_nodes}
use Rattle.passed_keywords.specs.Lines.{lines_of, row_lines}
use Rattle.passed_keywords.proofs.lines.+walk.Given as goal

abbrev pub invariant-in_keywords-loop-keyword : goal.invariant-in_keywords-loop-keyword
invariant-in_keywords-loop-keyword l = string_bytes l.out ≡ string_bytes l.initial.out ++ flat_map (row_lines l.place l.at_root (members_of (members_view l.members.entries))) (take l.keyword-index l.rows)

abbrev pub invariant-in_items-loop-index : goal.invariant-in_items-loop-index
invariant-in_items-loop-index l =
    string_bytes l.out ++ lines_of l.place (list_nodes l.keyword l.index (held_items (items_of (items_view (drop l.index l.items.items)))))
    ≡ string_bytes l.initial.out ++ lines_of l.place (list_nodes l.keyword 0 (held_items (items_of (items_view l.items.items))))

abbrev pub invariant-in_members-loop-name : goal.invariant-in_members-loop-name
invariant-in_members-loop-name l =
    string_bytes l.out ++ lines_of l.place (object_nodes l.keyword (held_members (members_of (members_view l.name-iterator))))
    ≡ string_bytes l.initial.out ++ lines_of l.place (object_nodes l.keyword (held_members (members_of (members_view l.members.entries))))
