-- What is answered of a report, by the value that describes its items or by why there is none.
use Rattle.std.proofs.Common.{◌≡◌, ℕ, List, map, Option, ap, subst, ◌∙◌}
use Rattle.serde_json.specs.Data.{Data}
use Rattle.json_value.specs.View.{value_of}
use Rattle.syntax_trees.specs.Item.{item_view}
use Rattle.syntax_trees.specs.declared.item.DeriveInput.{DeriveInput}
use Rattle.schema_tree.specs.Conversions.{conversions_view}
use Rattle.describe_defs.specs.Written.{description_value}
use Rattle.model_describe.specs.Described.{IsPlainItems, IsDescription, IsRefused, models_in}
use Rattle.model_describe.specs.declared.errors.DescribeError.{DescribeError}
use Rattle.model_describe.specs.declared.errors.DescribeError.TheVariants.{NotPlain}
use Rattle.typify_run.specs.Headline.{root_of}
use Rattle.typify_run.specs.declared.report.Report.{Report}
use Rattle.schema_words.specs.Said.{no}
use Rattle.describe_run.specs.Answers.{Describes, IsDescribedBy, IsNotPlain, no_line}

module _ (r : Report) (is : List DeriveInput) (same : is ≡ r.items.items) where
  -- of the report's items as they were handed on
  pub described_by : (d : Data) → IsPlainItems (conversions_view r.conversions) (map item_view is) (root_of r) → IsDescription (conversions_view r.conversions) (map item_view is) (root_of r) (value_of d)
      → value_of d ≡ description_value (models_in (map item_view is)) (conversions_view r.conversions) (root_of r) → IsDescribedBy r d
  described_by d p w v = record {
    plain = subst (λ (is : List DeriveInput). IsPlainItems (conversions_view r.conversions) (map item_view is) (root_of r)) same p;
    document = subst (λ (is : List DeriveInput). IsDescription (conversions_view r.conversions) (map item_view is) (root_of r) (value_of d)) same w;
    exact = v ∙ ap (λ (is : List DeriveInput). description_value (models_in (map item_view is)) (conversions_view r.conversions) (root_of r)) same;
  }

  pub not_plain : (e : DescribeError) → IsRefused (conversions_view r.conversions) (map item_view is) (root_of r) e → IsNotPlain r e
  not_plain e h = subst (λ (is : List DeriveInput). IsRefused (conversions_view r.conversions) (map item_view is) (root_of r) e) same h

pub undescribed : (r : Report) (is : List DeriveInput) (item : Option ℕ) (text : List ℕ) → is ≡ r.items.items → IsNotPlain r (NotPlain item) → text ≡ no_line (map item_view is) item → Describes r (no text)
undescribed r is item text same h w = record { item = item; refused = h; told = w ∙ ap (λ (is : List DeriveInput). no_line (map item_view is) item) same }
