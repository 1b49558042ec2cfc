use Rattle.std.proofs.Common.{◌≡◌, List, ◌++◌, take}
use Rattle.schema_types.specs.View.{schemas_view, properties_view}
use Rattle.schema_types.proofs.Entries.{Entry}
use Rattle.schema_types.proofs.copy.+copy.Given as goal

abbrev pub invariant-copy_list-loop-schema : goal.invariant-copy_list-loop-schema
invariant-copy_list-loop-schema l = schemas_view l.copies.items ≡ schemas_view (take l.schema-index l.schema-items)

abbrev pub invariant-copy_properties-loop-name : goal.invariant-copy_properties-loop-name
invariant-copy_properties-loop-name l =
    (done : List Entry) × (l.from.entries ≡ done ++ l.name-iterator) × (properties_view l.copies.entries ≡ properties_view done)
