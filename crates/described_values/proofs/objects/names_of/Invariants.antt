use Rattle.std.proofs.Common.{◌≡◌, ◌++◌, map}
use Rattle.json_value.specs.View.{kept_view}
use Rattle.described_values.proofs.Members.{name_text}
use Rattle.described_values.proofs.objects.names_of.Given as goal

abbrev pub invariant-loop-name : goal.invariant-loop-name
invariant-loop-name l = map kept_view l.names.items ++ map name_text l.name-iterator ≡ map name_text l.entries.entries
