use Rattle.std.proofs.Common.{◌≡◌, map}
use Rattle.std.specs.Prelude.{bytes_eq}
use Rattle.std.specs.List.{list_any}
use Rattle.std.specs.BTreeSet.{keys}
use Rattle.attr_parts.specs.Names.{attr_name}
use Rattle.item_forms.proofs.beside.is_read_by.Given as goal

abbrev pub invariant-loop-other : goal.invariant-loop-other
invariant-loop-other l = list_any (bytes_eq l.name) (map (λ n. n.text) (map attr_name l.other-iterator)) ≡ list_any (bytes_eq l.name) (map (λ n. n.text) (map attr_name (keys l.names)))
