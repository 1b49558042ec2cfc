-- Small tables: where their stated defaults stand, and what so many levels of reading them come to.
use Rattle.std.specs.Prelude.{◌≡◌, ℕ, [], ◌∷◌, codes}
use Rattle.schema_defs.specs.Build.{num, sample}
use Rattle.model_defs.specs.Types.{integer_type, item_type}
use Rattle.reading_defs.specs.Reading.{value_reader}
use Rattle.entry_defs.specs.Entry.{i64}
use Rattle.entry_defs.specs.Layer.{integer_range}
use Rattle.entry_defs.specs.Table.{Table, items_of}
use Rattle.entry_defs.specs.Examples.{a, b}
use Rattle.emit_defs.specs.Models.{conversions_of_items}
use Rattle.emit_defs.specs.Emission.{models_of, type_outside}
use Rattle.default_defs.specs.Found.{Found, ended, endless}
use Rattle.default_defs.specs.Examples.{whole_entry, to, nothing_given, round, chained}
use Rattle.default_laws.specs.Laws.{as_found, read_by_levels}
use Rattle.default_laws.specs.Stated.{StatedAt}

-- an empty object as what `a` leads to, where so many defaults may be read inside one another
abbrev pub nothing_within : Table → ℕ → Found
nothing_within t k =
    as_found ((value_reader (models_of t) (conversions_of_items (items_of t)) sample (read_by_levels (models_of t) (conversions_of_items (items_of t)) sample k) nothing_given).as_type (type_outside t (to a)))

pub record WorkedPlaces : Type 0 where
  pub listed : (conversions_of_items (items_of chained)).defaults ≡ nothing_given ∷ num 1 ∷ []
  pub first : StatedAt chained 0 (to b) nothing_given (item_type (codes "B"))
  pub second : StatedAt chained 1 whole_entry (num 1) (integer_type (integer_range i64))
  pub one_level : nothing_within chained 1 ≡ endless
  pub two_levels : nothing_within chained 2 ≡ ended
  pub comes_round : nothing_within round 3 ≡ endless
