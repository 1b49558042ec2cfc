-- The forms that those of the program stand for.
use Rattle.std.specs.Prelude.{ℕ, List, [], map, Bool, true, false, option_map}
use Rattle.conversion_table.specs.Conversions.{rule_view}
use Rattle.schema_defs.specs.Integers as integers
use Rattle.model_defs.specs.Types.{TypeModel}
use Rattle.value_models.specs.TypeView.{type_view, types_view}
use Rattle.value_models.specs.FieldView.{fields_view}
use Rattle.value_models.specs.ContainerView.{variants_in}
use Rattle.evolve_defs.specs.Forms as forms
use Rattle.evolve_defs.specs.Forms.{any_form, unit_form, boolean_form, integer_form, text_form, native_form, option_form, list_form, tuple_form, array_form, map_form, struct_form, ruled_form, external_form, internal_form, adjacent_form, untagged_form, no_form}
use Rattle.evolve_rows.specs.Asking as asked
use Rattle.evolve_rows.specs.Asking.{of_item, known}
use Rattle.evolve_rows.specs.declared.form.Places.{Places}
use Rattle.evolve_rows.specs.declared.form.Places.TheVariants.{Types, Fields}
use Rattle.evolve_rows.specs.declared.form.Range.{Range}
use Rattle.evolve_rows.specs.declared.form.Form.{Form}
use Rattle.evolve_rows.specs.declared.form.Form.TheVariants as seen
use Rattle.evolve_rows.specs.declared.asked.Asked.{Asked}
use Rattle.evolve_rows.specs.declared.asked.Asked.TheVariants as asks

abbrev pub places_view : Places → List TypeModel
places_view (Types ts) = types_view ts.now
places_view (Fields fs) = map (λ f. f.field_type) (fields_view fs.now)

abbrev pub range_view : Range → integers.Range
range_view r = record { least = r.least; greatest = r.greatest }

abbrev pub form_view : Form → forms.Form
form_view seen.Any = any_form
form_view seen.Unit = unit_form
form_view seen.Boolean = boolean_form
form_view (seen.Integer r) = integer_form (range_view r)
form_view seen.Text = text_form
form_view (seen.Native f) = native_form f
form_view (seen.Optional t) = option_form (type_view t.now)
form_view (seen.List t) = list_form false (type_view t.now)
form_view (seen.Set t) = list_form true (type_view t.now)
form_view (seen.Tuple ps) = tuple_form (places_view ps)
form_view (seen.Array t n) = array_form (type_view t.now) n
form_view (seen.Map k t) = map_form (type_view k.now) (type_view t.now)
form_view (seen.Struct closed fs) = struct_form closed (fields_view fs.now)
form_view (seen.Ruled r t) = ruled_form (option_map (λ r. rule_view r.now) r) (type_view t.now)
form_view (seen.External h closed ws) = external_form closed (variants_in ws.now)
form_view (seen.Internal h closed tag ws) = internal_form closed tag.now (variants_in ws.now)
form_view (seen.Adjacent h closed tag content ws) = adjacent_form closed tag.now content.now (variants_in ws.now)
form_view (seen.Untagged h closed ws) = untagged_form closed (variants_in ws.now)
form_view seen.Nothing = no_form

abbrev pub is_any_form : forms.Form → Bool
is_any_form any_form = true
is_any_form _ = false

-- the name of the enum that is seen
abbrev pub home_view : Form → List ℕ
home_view (seen.External h closed ws) = h.now
home_view (seen.Internal h closed tag ws) = h.now
home_view (seen.Adjacent h closed tag content ws) = h.now
home_view (seen.Untagged h closed ws) = h.now
home_view _ = []

abbrev pub form_asked_view : Asked → asked.Asked forms.Form
form_asked_view (asks.Item n) = of_item n.now
form_asked_view (asks.Known f) = known (form_view f)

-- the name of the enum that is known without an item: there is none
abbrev pub asked_home : Asked → List ℕ
asked_home (asks.Item n) = []
asked_home (asks.Known f) = home_view f
