-- What holds of the models of items within the forms.
use Rattle.std.specs.Prelude.{◌≡◌, List, true}
use Rattle.token_trees.specs.Token.{Name}
use Rattle.syntax_trees.specs.Item.{ItemD}
use Rattle.attr_parts.specs.declared.derive.Derive.{Derive}
use Rattle.attr_defs.specs.Renames.{Meaning}
use Rattle.attr_defs.specs.Texts.{Lexing}
use Rattle.model_defs.specs.Model.{ContainerModel, ConversionsD}
use Rattle.typed_defs.specs.Fit.{are_models_fit}
use Rattle.reading_defs.specs.Proper.{are_rules_fit, have_shapes}
use Rattle.container_defs.specs.Reader.{item_models}
use Rattle.container_defs.specs.Forms.{are_inside}

-- what the law on reading asks of models, but for their defaults
pub record AreFit (models : List ContainerModel) : Type 0 where
  pub fit : are_models_fit models ≡ true
  pub shapes : have_shapes models ≡ true
  pub rules : are_rules_fit models ≡ true

abbrev pub ItemsInsideAreFit : Type 0
ItemsInsideAreFit =
    (lexing : Lexing) (variant_name field_name : Meaning) (private : Name) (derive : Derive) (conversions : ConversionsD) (is : List ItemD)
    → are_inside lexing variant_name field_name private derive conversions is ≡ true → AreFit (item_models lexing variant_name field_name private derive is)
