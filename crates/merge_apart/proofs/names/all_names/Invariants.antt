use Rattle.std.proofs.Common.{◌≡◌, map, string_bytes}
use Rattle.merge_defs.specs.Objects.{put_names}
use Rattle.merge_apart.proofs.names.all_names.Given as goal

abbrev pub invariant-loop-name : goal.invariant-loop-name
invariant-loop-name l = put_names (map string_bytes l.name-iterator) (map string_bytes l.names.keys) ≡ put_names (map string_bytes l.fn.aside.keys) (map string_bytes l.fn.names.keys)
