-- Entries of some forms.
use Rattle.std.specs.Prelude.{Bool, true, false}
use Rattle.model_defs.specs.Model.{TagModel, untagged}
use Rattle.entry_defs.specs.Entry.{Entry, option_entry, unit_entry}

abbrev pub is_option_entry : Entry → Bool
is_option_entry (option_entry e) = true
is_option_entry _ = false

abbrev pub is_unit : Entry → Bool
is_unit unit_entry = true
is_unit _ = false

abbrev pub is_untagged : TagModel → Bool
is_untagged untagged = true
is_untagged _ = false
