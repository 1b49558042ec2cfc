use Rattle.std.proofs.Common.{ℕ, List, map, option_map, slice_get, string_bytes, Bor, ap, ◌∙◌}
use Rattle.name_tables.specs.Names.{place_of}
use Rattle.value_models.specs.VariantView.{fields_in}
use Rattle.value_models.specs.FieldView.{field_view}
use Rattle.value_models.specs.Names.{field_names}
use Rattle.example_defs.specs.Built.{first_that}
use Rattle.example_parts.specs.Places.{is_at}
use Rattle.example_parts.proofs.FoundNames.{field_there}
use Rattle.example_parts.proofs.names.found_field.Goals as goal

pub returns-in-Some : goal.returns-in-Some
returns-in-Some c =
    field_there (fields_in c.args.fields.now) c.args.place (field_view c.in-Some.field.now) (option_map (λ (n : Bor (List ℕ)). n.now) c.field_at.result)
    (c.in-Some.ensures ∙ ap (λ xs. slice_get xs c.args.place) c.fields.ensures)
    (c.field_at.ensures ∙ ap (λ ns. first_that (λ n. is_at c.args.place (place_of n (field_names 0 (fields_in c.args.fields.now)))) (map string_bytes ns)) c.deref.ensures.value)
