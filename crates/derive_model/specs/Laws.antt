-- Tables whose defaults are sound: those that need no look at them, and those that were looked at.
use Rattle.std.specs.Prelude.{◌≡◌, List, [], true, None}
use Rattle.syntax_trees.specs.Item.{ItemD}
use Rattle.attr_parts.specs.declared.derive.Derive.TheVariants.{Deserialize}
use Rattle.attr_defs.specs.Renames.{Meaning}
use Rattle.attr_defs.specs.Texts.{lexed}
use Rattle.schema_defs.specs.Texts.{Relations}
use Rattle.model_defs.specs.Model.{ContainerModel, ConversionsD}
use Rattle.container_defs.specs.Reader.{item_models}
use Rattle.derive_model.specs.Items.{private, first_outside}
use Rattle.derive_model.specs.Judging.{AreSound, are_sound}

-- where no default is stated and no item is outside the forms, stated defaults are sound
abbrev pub TablesWithoutDefaultsAreSound : Type 0
TablesWithoutDefaultsAreSound =
    (variant_name field_name : Meaning) (conversions : ConversionsD) (is : List ItemD) (relations : Relations)
    → first_outside variant_name field_name conversions is ≡ None → conversions.defaults ≡ []
    → AreSound (item_models lexed variant_name field_name private Deserialize is) conversions relations

-- where the test of stated defaults holds, they are sound
abbrev pub TestedDefaultsAreSound : Type 0
TestedDefaultsAreSound =
    (models : List ContainerModel) (conversions : ConversionsD) (relations : Relations)
    → are_sound models conversions relations ≡ true → AreSound models conversions relations
