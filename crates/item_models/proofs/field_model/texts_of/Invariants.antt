use Rattle.std.proofs.Common.{◌≡◌, ◌++◌, map, string_bytes}
use Rattle.std.specs.BTreeSet.{keys}
use Rattle.attr_parts.specs.Names.{attr_name}
use Rattle.item_models.proofs.field_model.texts_of.Given as goal

abbrev pub invariant-loop-name : goal.invariant-loop-name
invariant-loop-name l = map string_bytes l.texts.items ++ map (λ n. (attr_name n).text) l.name-iterator ≡ map (λ n. n.text) (map attr_name (keys l.names))
