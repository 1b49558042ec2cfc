-- Whose attributes are read, and the slots that they set.
use Rattle.std.specs.Prelude.{ℕ, List, [], ◌∷◌}
use Rattle.token_trees.specs.declared.token.Span.{Span}
use Rattle.token_trees.specs.Token.{Name}
use Rattle.syntax_trees.specs.Item.{ItemD, VariantD, FieldD}
use Rattle.attr_parts.specs.Diagnostics.{KindD}
use Rattle.attr_defs.specs.declared.row.Half.TheVariants.{Whole, Serialize, Deserialize}
use Rattle.attr_defs.specs.Acts.{SlotD, ActD, tells}

-- whose attributes are read; a field is known by its name or its number
pub data OwnerD : Type 0 where
  of_container : ItemD → OwnerD
  of_variant : VariantD → OwnerD
  of_field : FieldD → Name → OwnerD

abbrev pub whole : List ℕ → SlotD
whole name = record { name = name; half = Whole }

abbrev pub written : List ℕ → SlotD
written name = record { name = name; half = Serialize }

abbrev pub read : List ℕ → SlotD
read name = record { name = name; half = Deserialize }

abbrev pub told_at : KindD → Span → List ActD
told_at kind at = tells (record { kind = kind; span = at }) ∷ []
