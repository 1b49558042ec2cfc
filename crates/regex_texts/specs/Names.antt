-- Each name of a property that a plain pattern may have is read by the grammar of `regex`, as it is written there.
use Rattle.std.specs.Prelude.{◌≡◌, ℕ, Bool, true, List, ◌++◌, codes, is_some}
use Rattle.std.specs.List.{list_all}
use Rattle.regex_syntax.specs.Sets.{property}
use Rattle.plain_patterns.specs.Properties.{binary_names, categories, script_codes, script_names}

abbrev pub is_read : List ℕ → List ℕ → Bool
is_read sign name = is_some (property (sign ++ name))

pub record NamesAreRead : Type 0 where
  pub general_categories : list_all (is_read (codes "gc=")) categories ≡ true
  pub scripts_by_code : list_all (is_read (codes "sc=")) script_codes ≡ true
  pub scripts_by_name : list_all (is_read (codes "sc=")) script_names ≡ true
  pub extensions_by_code : list_all (is_read (codes "scx=")) script_codes ≡ true
  pub extensions_by_name : list_all (is_read (codes "scx=")) script_names ≡ true
  pub without_values : list_all (is_read (codes "")) binary_names ≡ true
