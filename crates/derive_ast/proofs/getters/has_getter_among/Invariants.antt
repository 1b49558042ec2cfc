use Rattle.std.proofs.Common.{◌≡◌, map, drop}
use Rattle.std.specs.List.{list_any}
use Rattle.std.specs.Prelude.{is_some}
use Rattle.derive_ast.specs.Views.{field_view}
use Rattle.derive_ast.proofs.getters.has_getter_among.Given as goal

abbrev pub invariant-loop-field : goal.invariant-loop-field
invariant-loop-field l = list_any (λ f. is_some f.attrs.getter) (map field_view l.fields) ≡ list_any (λ f. is_some f.attrs.getter) (map field_view (drop l.field-index l.fields))
