use Rattle.std.proofs.Common.{◌≡◌, drop, map, string_bytes}
use Rattle.serde_json.specs.View.{items_view}
use Rattle.json_value.specs.View.{items_of}
use Rattle.schema_defs.specs.Read.{texts_in}
use Rattle.schema_reading.proofs.Lists.{onto}
use Rattle.schema_reading.proofs.list.texts.Given as goal

abbrev pub invariant-loop-item : goal.invariant-loop-item
invariant-loop-item l =
    texts_in (items_of (items_view l.items.items)) ≡ onto (map string_bytes l.texts.items) (texts_in (items_of (items_view (drop l.item-index l.items.items))))
