-- What the program's forms of types stand for.
use Rattle.std.specs.Prelude.{map}
use Rattle.syntax_trees.specs.Item.{field_view}
use Rattle.value_types.specs.ShapeView.{type_in, types_in}
use Rattle.item_docs.specs.Forms as specs
use Rattle.item_docs.specs.Forms.{each_form, places_form, members_form, fields_form, other_form, field_types}
use Rattle.item_docs.specs.declared.forms.Form.{Form}
use Rattle.item_docs.specs.declared.forms.Form.TheVariants as forms

abbrev pub form_view : Form → specs.Form
form_view (forms.Each t) = each_form (type_in t.now)
form_view (forms.Places ts) = places_form (types_in ts.now)
form_view (forms.Members t) = members_form (type_in t.now)
form_view (forms.Fields fs) = fields_form (field_types (map field_view fs.now))
form_view forms.Other = other_form
