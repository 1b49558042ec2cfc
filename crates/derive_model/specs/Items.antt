-- What is read of items for both derives, what is told of them, and which is the first outside the forms.
use Rattle.std.specs.Prelude.{ℕ, suc, ◌++◌, List, [], ◌∷◌, map, Bool, Option, Some, None, codes, if◌then◌else◌}
use Rattle.std.specs.List.{flat_map}
use Rattle.token_trees.specs.Token.{Name, site}
use Rattle.syntax_trees.specs.Item.{ItemD}
use Rattle.attr_parts.specs.declared.derive.Derive.{Derive}
use Rattle.attr_parts.specs.declared.derive.Derive.TheVariants.{Serialize, Deserialize}
use Rattle.attr_parts.specs.Diagnostics.{DiagnosticD}
use Rattle.attr_defs.specs.Renames.{Meaning}
use Rattle.attr_defs.specs.Texts.{lexed}
use Rattle.model_defs.specs.Model.{ConversionsD}
use Rattle.container_defs.specs.Container.{ReadContainer}
use Rattle.container_defs.specs.Model.{model_of, diagnostics_of}
use Rattle.container_defs.specs.Forms.{names_of, leaves_forms}

-- the name of serde's private module
abbrev pub private : Name
private = record { text = codes "__private"; span = site }

-- the place of the first that passes, counted from a number on
abbrev pub first_from : {A : Type 0} → (A → Bool) → ℕ → List A → Option ℕ
first_from test i [] = None
first_from test i (a ∷ xs) = if test a then Some i else first_from test (suc i) xs

module _ (variant_name field_name : Meaning) where
  abbrev pub container_of : Derive → ItemD → Option ReadContainer
  container_of derive i = model_of lexed variant_name field_name private i derive

  abbrev pub read_of : ItemD → Option ReadContainer
  read_of i = container_of Deserialize i

  -- Serialize before Deserialize
  abbrev pub told_of : ItemD → List DiagnosticD
  told_of i = diagnostics_of lexed variant_name field_name private i Serialize ++ diagnostics_of lexed variant_name field_name private i Deserialize

  -- item by item
  abbrev pub all_told : List ItemD → List DiagnosticD
  all_told is = flat_map told_of is

  abbrev pub first_outside : ConversionsD → List ItemD → Option ℕ
  first_outside conversions is = first_from (leaves_forms (names_of is) conversions) 0 (map read_of is)
