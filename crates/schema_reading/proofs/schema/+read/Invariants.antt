use Rattle.std.proofs.Common.{◌≡◌, ◌++◌, drop}
use Rattle.serde_json.specs.View.{items_view}
use Rattle.json_value.specs.View.{items_of}
use Rattle.schema_defs.specs.Read.{item_readings, schemas_of, properties_of}
use Rattle.schema_types.specs.View.{schemas_view}
use Rattle.schema_reading.specs.Reading.{Entries, readings}
use Rattle.schema_reading.proofs.Schemas.{list_onto, named_onto, pairs, key_names}
use Rattle.schema_reading.proofs.schema.+read.Given as goal

abbrev pub invariant-schemas_in-loop-item : goal.invariant-schemas_in-loop-item
invariant-schemas_in-loop-item l =
    schemas_of (item_readings (items_of (items_view l.items.items))) ≡ list_onto (schemas_view l.schemas.items) (schemas_of (item_readings (items_of (items_view (drop l.item-index l.items.items)))))

abbrev pub invariant-named_schemas-loop-name : goal.invariant-named_schemas-loop-name
invariant-named_schemas-loop-name l =
    (done : Entries) × (l.members.entries ≡ done ++ l.name-iterator) × (key_names l.schemas.entries ≡ key_names done)
    × (properties_of (readings l.members.entries) ≡ named_onto (pairs l.schemas.entries) (properties_of (readings l.name-iterator)))
