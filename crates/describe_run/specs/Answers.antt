-- What `describe` answers of a report.
use Rattle.std.specs.Prelude.{◌≡◌, ℕ, List, codes, Option}
use Rattle.serde_json.specs.Data.{Data}
use Rattle.json_value.specs.View.{value_of}
use Rattle.syntax_trees.specs.Item.{ItemD}
use Rattle.schema_tree.specs.Conversions.{conversions_view}
use Rattle.model_describe.specs.Described.{IsPlainItems, IsDescription, IsRefused, models_in}
use Rattle.model_describe.specs.declared.errors.DescribeError.{DescribeError}
use Rattle.model_describe.specs.declared.errors.DescribeError.TheVariants.{NotPlain}
use Rattle.describe_defs.specs.Written.{description_value}
use Rattle.typify_run.specs.Headline.{items_of, root_of}
use Rattle.typify_run.specs.declared.report.Report.{Report}
use Rattle.value_texts.specs.Texts.{IsTextOf}
use Rattle.item_lines.specs.Lines.{item_line}
use Rattle.schema_words.specs.Said.{Said, page, no}

-- `not plain`, and the name of the item at a place, where there is one
abbrev pub no_line : List ItemD → Option ℕ → List ℕ
no_line is o = item_line (codes "not plain") is o

-- the items with the root's type are a plain table, and the value describes them
pub record IsDescribedBy (r : Report) (value : Data) : Type 0 where
  pub plain : IsPlainItems (conversions_view r.conversions) (items_of r) (root_of r)
  pub document : IsDescription (conversions_view r.conversions) (items_of r) (root_of r) (value_of value)
  pub exact : value_of value ≡ description_value (models_in (items_of r)) (conversions_view r.conversions) (root_of r)

-- the text is that of such a value
pub record IsDescribed (r : Report) (text : List ℕ) : Type 0 where
  pub value : Data
  pub described : IsDescribedBy r value
  pub written : IsTextOf text value

-- they aren't, and the first item at which they fail is told, or none where the root does
abbrev pub IsNotPlain : Report → DescribeError → Type 0
IsNotPlain r e = IsRefused (conversions_view r.conversions) (items_of r) (root_of r) e

pub record IsUndescribed (r : Report) (text : List ℕ) : Type 0 where
  pub item : Option ℕ
  pub refused : IsNotPlain r (NotPlain item)
  pub told : text ≡ no_line (items_of r) item

abbrev pub Describes : Report → Said → Type 0
Describes r (page text) = IsDescribed r text
Describes r (no text) = IsUndescribed r text
