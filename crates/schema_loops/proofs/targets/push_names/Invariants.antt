use Rattle.std.proofs.Common.{◌≡◌, ◌++◌, map, length}
use Rattle.std.specs.Prelude.{filter, Some}
use Rattle.json_value.specs.Value.{same_bool}
use Rattle.schema_types.specs.DocumentView.{document_view}
use Rattle.schema_loops.specs.Named.{is_under_defs, names_under, seen}
use Rattle.schema_loops.proofs.targets.push_names.Given as goal

abbrev pub invariant-loop-name : goal.invariant-loop-name
invariant-loop-name l =
    seen l.targets.items ++ map Some (filter (λ n. same_bool (is_under_defs (document_view l.document) n) l.under_defs) l.names)
    ≡ seen l.initial.targets.items ++ map Some (names_under (document_view l.document) l.under_defs)

abbrev pub decreases-loop-name : goal.decreases-loop-name
decreases-loop-name l = length l.names
