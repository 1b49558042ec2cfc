-- What is answered of a report, by the example of its root's type or by why there is none.
use Rattle.std.proofs.Common.{◌≡◌, ℕ, List, map, inl, inr, None, Option, codes, ap, subst, ◌∙◌}
use Rattle.json_value.specs.Value.{Value}
use Rattle.schema_defs.specs.Texts.{Relations}
use Rattle.syntax_trees.specs.Item.{item_view}
use Rattle.syntax_trees.specs.declared.item.DeriveInput.{DeriveInput}
use Rattle.model_defs.specs.Model.{ContainerModel, ConversionsD}
use Rattle.schema_tree.specs.Conversions.{conversions_view}
use Rattle.example_defs.specs.Enough.{no_texts, example_of}
use Rattle.example_laws.specs.Laws.{IsExample}
use Rattle.example_values.specs.Causes.{IsExampleError}
use Rattle.example_values.specs.declared.errors.ExampleError.{ExampleError}
use Rattle.example_values.specs.declared.errors.ExampleError.TheVariants.{Outside}
use Rattle.typify_run.specs.Headline.{root_of}
use Rattle.typify_run.specs.declared.report.Report.{Report}
use Rattle.schema_words.specs.Said.{no}
use Rattle.example_run.specs.Answers.{Exemplifies, IsAnswered, IsNoExample, containers_of, outside_line}

module _ (r : Report) (ms : List ContainerModel) (cs : ConversionsD) (same : ms ≡ containers_of r) (alike : cs ≡ conversions_view r.conversions) where
  -- by the tables of the report's items
  pub answered : (o : Option Value) → ((relations : Relations) → IsExample ms cs relations (root_of r) o) → o ≡ example_of ms cs no_texts (root_of r) → IsAnswered r o
  answered o e m = record {
    example = λ relations.
        subst (λ (ks : ConversionsD). IsExample (containers_of r) ks relations (root_of r) o) alike (subst (λ (ns : List ContainerModel). IsExample ns cs relations (root_of r) o) same (e relations));
    made = m ∙ (λ i. example_of (same i) (alike i) no_texts (root_of r));
  }

  pub refused : (e : ExampleError) → IsExampleError ms cs (root_of r) e → IsNoExample r e
  refused e h =
      subst (λ (ks : ConversionsD). IsExampleError (containers_of r) ks (root_of r) e) alike (subst (λ (ns : List ContainerModel). IsExampleError ns cs (root_of r) e) same h)

pub none_told : (r : Report) (text : List ℕ) → IsAnswered r None → text ≡ codes "none\n" → Exemplifies r (no text)
none_told r text a e = inl (record { answered = a; told = e })

pub outside_told : (r : Report) (is : List DeriveInput) (item : Option ℕ) (text : List ℕ) → is ≡ r.items.items → IsNoExample r (Outside item) → text ≡ outside_line (map item_view is) item → Exemplifies r (no text)
outside_told r is item text same h w = inr (record { item = item; refused = h; told = w ∙ ap (λ (is : List DeriveInput). outside_line (map item_view is) item) same })
