use Rattle.std.proofs.Common.{◌≡◌, ◌+◌, drop}
use Rattle.schema_counts.proofs.Sums.{listed, named}
use Rattle.schema_counts.proofs.nodes.+nodes.Given as goal

abbrev pub invariant-list_nodes-loop-schema : goal.invariant-list_nodes-loop-schema
invariant-list_nodes-loop-schema l = l.count + listed (drop l.schema-index l.schema-items) ≡ listed l.schema-items

abbrev pub invariant-properties_nodes-loop-schema : goal.invariant-properties_nodes-loop-schema
invariant-properties_nodes-loop-schema l = l.count + named l.schema-iterator ≡ named l.properties.entries
