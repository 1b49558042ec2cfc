-- The items that a space emits may be handed to whoever reads them.
use Rattle.std.specs.Prelude.{◌≡◌, [], true}
use Rattle.std.specs.List.{AllByRecursion}
use Rattle.token_trees.specs.Token.{Name}
use Rattle.attr_parts.specs.declared.derive.Derive.{Derive}
use Rattle.attr_defs.specs.Renames.{Meaning}
use Rattle.attr_defs.specs.Texts.{lexed}
use Rattle.container_defs.specs.Forms.{are_inside}
use Rattle.container_defs.specs.Model.{diagnostics_of}
use Rattle.container_defs.specs.Reader.{item_models}
use Rattle.model_defs.specs.Reach.{NoneReachesItself}
use Rattle.entry_defs.specs.Entry.{Entry}
use Rattle.entry_defs.specs.Space.{Id}
use Rattle.emit_defs.specs.Emission.{Emission}
use Rattle.space_defs.specs.Emission.{emission_at}
use Rattle.space_defs.specs.Held.{Stands}
use Rattle.space_trees.specs.Filled.{leads_in}
use Rattle.history_laws.specs.Placing.{with_names, entries_of}
use Rattle.history_laws.specs.Laws.{OfTables}

-- whatever serde's own module is called, whatever a renamer makes of names, and for either derive: nothing is told of them, they are within the forms, and none reaches
-- itself at one value
pub record AreReadable (x : Emission) : Type 0 where
  pub clean : (variant_name field_name : Meaning) (private : Name) (derive : Derive) → AllByRecursion (λ i. diagnostics_of lexed variant_name field_name private i derive ≡ []) x.items
  pub inside : (variant_name field_name : Meaning) (private : Name) (derive : Derive) → are_inside lexed variant_name field_name private derive x.conversions x.items ≡ true
  pub ends : (variant_name field_name : Meaning) (private : Name) (derive : Derive) → NoneReachesItself (item_models lexed variant_name field_name private derive x.items)

abbrev pub SpacesEmitModules : Type 0
SpacesEmitModules = OfTables (λ t. (e : Entry) (root : Id) → Stands (leads_in (with_names t)) (entries_of t) e root → AreReadable (emission_at (entries_of t) root))
