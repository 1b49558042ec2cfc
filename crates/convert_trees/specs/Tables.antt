-- Parts of a table.
use Rattle.std.specs.Prelude.{ℕ, List, [], ◌∷◌, Bool, true, false}
use Rattle.entry_defs.specs.Entry.{the_root, Entry, reference}
use Rattle.entry_defs.specs.Table.{TargetEntry}
use Rattle.convert_defs.specs.Convert.{as_item}

-- the root as a target, where references lead to it
abbrev pub root_targets_of : Bool → List ℕ → Entry → List TargetEntry
root_targets_of true name e = record { target = the_root; led_to = as_item name e } ∷ []
root_targets_of false name e = []

abbrev pub root_use_of : Bool → Entry → Entry
root_use_of true e = reference the_root
root_use_of false e = e
