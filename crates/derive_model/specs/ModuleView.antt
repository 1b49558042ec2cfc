-- The models that a module holds, and why there is none.
use Rattle.std.specs.Prelude.{◌≡◌, ℕ, List, [], map, Option, Some}
use Rattle.syntax_trees.specs.Item.{ItemD, item_view}
use Rattle.attr_parts.specs.declared.derive.Derive.{Derive}
use Rattle.attr_parts.specs.declared.derive.Derive.TheVariants.{Serialize, Deserialize}
use Rattle.attr_parts.specs.Diagnostics.{DiagnosticD, diagnostic_view}
use Rattle.attr_defs.specs.Renames.{Meaning}
use Rattle.model_defs.specs.Model.{ContainerModel, ConversionsD}
use Rattle.conversion_table.specs.Conversions.{conversions_view}
use Rattle.container_defs.specs.Container.{ReadContainer}
use Rattle.derive_ast.specs.Views.{container_view}
use Rattle.value_models.specs.ContainersView.{containers_in}
use Rattle.derive_model.specs.Items.{all_told, first_outside}
use Rattle.derive_model.specs.declared.module.Module.{Module}
use Rattle.derive_model.specs.declared.errors.ModuleError.{ModuleError}
use Rattle.derive_model.specs.declared.errors.ModuleError.TheVariants.{Memory, Diagnostics, Form}

abbrev pub models_in : Module → List ContainerModel
models_in m = containers_in m.table.containers

-- the containers that were read for a derive
abbrev pub containers_read : Module → Derive → List ReadContainer
containers_read m Serialize = map container_view m.written.items
containers_read m Deserialize = map container_view m.read.items

-- the items that it was made of
abbrev pub items_in : Module → List ItemD
items_in m = map item_view m.names.items.now

-- the table of conversions that it was made with
abbrev pub conversions_in : Module → ConversionsD
conversions_in m = conversions_view m.conversions.now

-- want of memory, or some diagnostics, all of them
abbrev pub IsTold : List DiagnosticD → ModuleError → Type 0
IsTold told Memory = Unit {0}
IsTold told (Diagnostics ds) = (map diagnostic_view ds.items ≡ told) × (told ≡ [] → ⊥)
IsTold told (Form i) = ⊥

-- want of memory, or the first item outside the forms
abbrev pub IsForm : Option ℕ → ModuleError → Type 0
IsForm first Memory = Unit {0}
IsForm first (Diagnostics ds) = ⊥
IsForm first (Form i) = first ≡ Some i

-- want of memory; else some diagnostics, all of them; else the first item outside the forms
abbrev pub IsWhy : Meaning → Meaning → ConversionsD → List ItemD → ModuleError → Type 0
IsWhy v f k is Memory = Unit {0}
IsWhy v f k is (Diagnostics ds) = (map diagnostic_view ds.items ≡ all_told v f is) × (all_told v f is ≡ [] → ⊥)
IsWhy v f k is (Form i) = (all_told v f is ≡ []) × (first_outside v f k is ≡ Some i)
