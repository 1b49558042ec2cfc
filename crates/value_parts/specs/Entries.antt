-- The parts of choices and slots, as they are seen.
use Rattle.std.specs.Prelude.{ℕ, List, [], ◌∷◌, map, Option, Some, None}
use Rattle.json_value.specs.Value.{Value}
use Rattle.model_defs.specs.Types.{TypeModel}
use Rattle.model_defs.specs.Model.{VariantModel, FieldModel}
use Rattle.json_value.specs.View.{kept_view}
use Rattle.value_models.specs.TypeView.{type_view, types_view}
use Rattle.value_models.specs.FieldView.{fields_view}
use Rattle.value_models.specs.VariantView.{variant_view, variants_view, fields_in}
use Rattle.value_parts.specs.declared.members.Member.{Member}
use Rattle.value_parts.specs.declared.variants.Found.{Found}
use Rattle.value_parts.specs.declared.slots.Slot.{Slot}
use Rattle.value_parts.specs.declared.slots.Slot.TheVariants as slots
use Rattle.value_parts.specs.declared.choice.Choice as choice'
use Rattle.value_parts.specs.declared.choice.Choice.TheVariants as choices
use Rattle.value_parts.specs.declared.demand.Demand as demand'
use Rattle.value_parts.specs.declared.demand.Demand.TheVariants as demands
use Rattle.value_parts.specs.At.{Entry, Demand, each, by_place}
use Rattle.value_parts.specs.Choice.{Choice, settled, inside, beside, in_turn}
use Rattle.value_parts.specs.Seen.{one_view}

abbrev pub entry_view : Member → Entry
entry_view m = (m.name.now, kept_view m.value.now)

abbrev pub entries_view : List Member → List Entry
entries_view ms = map entry_view ms

abbrev pub found_view : Found → ℕ × VariantModel
found_view f = (f.place, variant_view f.variant.now)

abbrev pub slot_view : Slot → List Entry
slot_view slots.Empty = []
slot_view (slots.One m) = entry_view m ∷ []
slot_view (slots.Two m n) = entry_view m ∷ entry_view n ∷ []

abbrev pub choice_view : choice'.Choice → Choice
choice_view (choices.Settled r) = settled (one_view r)
choice_view (choices.Inside f m) = inside f.place (variant_view f.variant.now) (entry_view m)
choice_view (choices.Beside i fs ms) = beside i (fields_in fs.now) (entries_view ms.items)
choice_view (choices.InTurn ws) = in_turn (variants_view ws.now)

abbrev pub demand_view : demand'.Demand → Demand
demand_view (demands.Each t) = each (type_view t.now)
demand_view (demands.Types ts) = by_place (types_view ts.now)
demand_view (demands.Fields fs) = by_place (map (λ f. f.field_type) (fields_view fs.now))
