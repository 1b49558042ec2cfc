use Rattle.std.proofs.Common.{◌≡◌, ℕ, List, Bool, drop, map, string_bytes}
use Rattle.name_tables.specs.Names.{place_of}
use Rattle.value_models.specs.Names.{field_names}
use Rattle.value_models.specs.VariantView.{fields_in}
use Rattle.example_defs.specs.Built.{first_that}
use Rattle.example_parts.specs.Places.{is_at}
use Rattle.example_parts.proofs.names.field_at.Given as goal

abbrev pub invariant-loop-name : goal.invariant-loop-name
invariant-loop-name l =
    let test : List ℕ → Bool = λ n. is_at l.place (place_of n (field_names 0 (fields_in l.fields))) in
    first_that test (map string_bytes l.names) ≡ first_that test (map string_bytes (drop l.name-index l.names))
