-- What a type is to the forms of fields.
use Rattle.std.specs.Prelude.{Bool, true, false}
use Rattle.syntax_trees.specs.Syntax.{ExprPathD}
use Rattle.model_defs.specs.Types.{TypeModel, option_type, vec_type, set_type, map_type, text_type}
use Rattle.container_defs.specs.Forms.{option_is_none, vec_is_empty, set_is_empty, map_is_empty}
use Rattle.item_forms.specs.declared.type_form.Form.{Form}
use Rattle.item_forms.specs.declared.type_form.Form.TheVariants.{Optional, List, Set, Map, Text, Other}

abbrev pub form : TypeModel → Form
form (option_type t) = Optional
form (vec_type t) = List
form (set_type t) = Set
form (map_type k t) = Map
form text_type = Text
form _ = Other

abbrev pub is_optional : Form → Bool
is_optional Optional = true
is_optional _ = false

abbrev pub is_textual : Form → Bool
is_textual Text = true
is_textual _ = false

-- the condition that a form has
abbrev pub empties_form : Form → ExprPathD → Bool
empties_form Optional p = option_is_none p
empties_form List p = vec_is_empty p
empties_form Set p = set_is_empty p
empties_form Map p = map_is_empty p
empties_form Text p = false
empties_form Other p = false
