-- What `example` answers of a report.
use Rattle.std.specs.Prelude.{◌≡◌, ◌⊎◌, ℕ, List, codes, Option, Some, None}
use Rattle.serde_json.specs.Data.{Data}
use Rattle.json_value.specs.Value.{Value}
use Rattle.json_value.specs.View.{value_of}
use Rattle.schema_defs.specs.Texts.{Relations}
use Rattle.syntax_trees.specs.Item.{ItemD}
use Rattle.model_defs.specs.Model.{ContainerModel}
use Rattle.schema_tree.specs.Conversions.{conversions_view}
use Rattle.example_defs.specs.Enough.{no_texts, example_of}
use Rattle.example_laws.specs.Laws.{IsExample}
use Rattle.example_values.specs.Causes.{IsExampleError}
use Rattle.example_values.specs.declared.errors.ExampleError.{ExampleError}
use Rattle.example_values.specs.declared.errors.ExampleError.TheVariants.{Outside}
use Rattle.typify_run.specs.Headline.{items_of, read_of, root_of}
use Rattle.typify_run.specs.Examine.{as_it_stands}
use Rattle.typify_run.specs.declared.report.Report.{Report}
use Rattle.value_texts.specs.Texts.{IsTextOf}
use Rattle.item_lines.specs.Lines.{item_line}
use Rattle.schema_words.specs.Said.{Said, page, no}

-- the containers that the items are read back as
abbrev pub containers_of : Report → List ContainerModel
containers_of r = read_of as_it_stands (items_of r)

-- a small value that the root's type reads, whatever judges texts, or that no small value is read; and it is the one that is defined
pub record IsAnswered (r : Report) (o : Option Value) : Type 0 where
  pub example : (relations : Relations) → IsExample (containers_of r) (conversions_view r.conversions) relations (root_of r) o
  pub made : o ≡ example_of (containers_of r) (conversions_view r.conversions) no_texts (root_of r)

-- the text is that of such a value
pub record IsShown (r : Report) (text : List ℕ) : Type 0 where
  pub value : Data
  pub answered : IsAnswered r (Some (value_of value))
  pub written : IsTextOf text value

-- no small value is read
pub record IsNone (r : Report) (text : List ℕ) : Type 0 where
  pub answered : IsAnswered r None
  pub told : text ≡ codes "none\n"

-- the root's type is outside, or comes to an item that is
abbrev pub IsNoExample : Report → ExampleError → Type 0
IsNoExample r e = IsExampleError (containers_of r) (conversions_view r.conversions) (root_of r) e

-- `outside`, and the name of the item at a place, where there is one
abbrev pub outside_line : List ItemD → Option ℕ → List ℕ
outside_line is o = item_line (codes "outside") is o

pub record IsTold (r : Report) (text : List ℕ) : Type 0 where
  pub item : Option ℕ
  pub refused : IsNoExample r (Outside item)
  pub told : text ≡ outside_line (items_of r) item

abbrev pub Exemplifies : Report → Said → Type 0
Exemplifies r (page text) = IsShown r text
Exemplifies r (no text) = IsNone r text ⊎ IsTold r text
