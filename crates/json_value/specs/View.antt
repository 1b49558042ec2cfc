-- The JSON value that the data of serde_json stands for.
use Rattle.std.specs.Prelude.{pos}
use Rattle.serde_json.specs.declared.value.Value as json
use Rattle.serde_json.specs.View as read
use Rattle.serde_json.specs.Data as data'
use Rattle.serde_json.specs.Data.{Data, Num, unsigned, negative, float}
use Rattle.json_value.specs.Value.{Value, Items, Members, null, boolean, number, fraction, text, list, object, no_items, item, no_members, member}

abbrev pub number_value : Num → Value
number_value (unsigned n) = number (pos n)
number_value (negative z) = number z
number_value (float x) = fraction

abbrev mutual
  pub value_of : Data → Value
  value_of data'.null = null
  value_of (data'.boolean b) = boolean b
  value_of (data'.number n) = number_value n
  value_of (data'.string s) = text s
  value_of (data'.array ds) = list (items_of ds)
  value_of (data'.object ms) = object (members_of ms)

  pub items_of : data'.Items → Items
  items_of data'.no_items = no_items
  items_of (data'.item d ds) = item (value_of d) (items_of ds)

  pub members_of : data'.Members → Members
  members_of data'.no_members = no_members
  members_of (data'.member k d ms) = member k (value_of d) (members_of ms)

-- what a value that the program keeps stands for
abbrev pub kept_view : json.Value → Value
kept_view v = value_of (read.view v)
