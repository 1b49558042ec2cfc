-- Names, as contracts see them: values are their bytes.
use Rattle.std.specs.Prelude.{List, Bool, map, string_bytes}
use Rattle.std.specs.BTreeSet.{keys}
use Rattle.token_trees.specs.Token as tokens
use Rattle.attr_parts.specs.declared.name.Name.{Name}
use Rattle.attr_parts.specs.declared.name.MultiName.{MultiName}

abbrev pub attr_name : Name → tokens.Name
attr_name n = record { text = string_bytes n.value; span = n.span }

-- the name that is written, the name that is read, whether an attribute names each, and all that is read, in order
pub record MultiNameD : Type 0 where
  pub serialize : tokens.Name
  pub serialize_renamed : Bool
  pub deserialize : tokens.Name
  pub deserialize_renamed : Bool
  pub aliases : List tokens.Name

abbrev pub multi_name : MultiName → MultiNameD
multi_name m = record {
  serialize = attr_name m.serialize;
  serialize_renamed = m.serialize_renamed;
  deserialize = attr_name m.deserialize;
  deserialize_renamed = m.deserialize_renamed;
  aliases = map attr_name (keys m.deserialize_aliases);
}
