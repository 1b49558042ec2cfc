-- The causes for which a container is outside the reader of values, one question each, in the order of container_defs.
use Rattle.std.specs.Prelude.{ℕ, List, [], ◌∷◌, length, Bool}
use Rattle.std.specs.List.{list_any}
use Rattle.model_defs.specs.Model.{ConversionsD}
use Rattle.container_defs.specs.Checks.{variants_in}
use Rattle.container_defs.specs.Container.{ReadContainer, all_fields}
use Rattle.container_defs.specs.Forms.{field_lists}
use Rattle.item_forms.specs.declared.container_test.ContainerTest.TheVariants as containers
use Rattle.item_forms.specs.declared.field_test.FieldTest.TheVariants as fields
use Rattle.item_forms.specs.declared.variant_test.VariantTest.TheVariants as variants
use Rattle.item_forms.specs.declared.beside.ListTest.TheVariants as lists
use Rattle.item_forms.specs.ContainerTests.{container_test}
use Rattle.item_forms.specs.FieldTests.{field_test}
use Rattle.item_forms.specs.VariantTests.{variant_test}
use Rattle.item_forms.specs.ListTests.{list_test}
use Rattle.item_causes.specs.Newtypes.{odd_try_from, text_rule_elsewhere, is_misplaced}
use Rattle.item_causes.specs.declared.cause.RuleTest.{RuleTest}
use Rattle.item_causes.specs.declared.cause.RuleTest.TheVariants.{UnknownDefault, OddTryFrom, TextRuleElsewhere}
use Rattle.item_causes.specs.declared.cause.Cause.{Cause}
use Rattle.item_causes.specs.declared.cause.Cause.TheVariants.{Container, Field, Variant, Fields, Rule}

abbrev pub rule_test : ConversionsD → RuleTest → ReadContainer → Bool
rule_test k UnknownDefault = λ c. list_any (is_misplaced (length k.defaults)) (all_fields c.body)
rule_test k OddTryFrom = λ c. odd_try_from k c
rule_test k TextRuleElsewhere = λ c. text_rule_elsewhere k c

abbrev pub cause_test : List (List ℕ) → ConversionsD → Cause → ReadContainer → Bool
cause_test items k (Container t) = λ c. container_test items t c
cause_test items k (Field t) = λ c. list_any (field_test items t) (all_fields c.body)
cause_test items k (Variant t) = λ c. list_any (variant_test t) (variants_in c.body)
cause_test items k (Fields t) = λ c. list_any (list_test t) (field_lists c.body)
cause_test items k (Rule t) = λ c. rule_test k t c

abbrev pub causes : List Cause
causes =
    Container containers.Generic
    ∷ Container containers.Remote
    ∷ Container containers.From
    ∷ Container containers.Into
    ∷ Field fields.Getter
    ∷ Container containers.Bound
    ∷ Variant variants.Bound
    ∷ Field fields.Bound
    ∷ Container containers.Default
    ∷ Container containers.TaggedStruct
    ∷ Container containers.Identifier
    ∷ Variant variants.Other
    ∷ Variant variants.Untagged
    ∷ Variant variants.Skip
    ∷ Field fields.Skip
    ∷ Variant variants.SerializeWith
    ∷ Field fields.SerializeWith
    ∷ Variant variants.DeserializeWith
    ∷ Field fields.OtherReader
    ∷ Field fields.OtherCondition
    ∷ Rule UnknownDefault
    ∷ Container containers.OddFlatten
    ∷ Field fields.OddRest
    ∷ Container containers.TransparentWithNames
    ∷ Rule OddTryFrom
    ∷ Field fields.NamelessExtras
    ∷ Field fields.UnknownType
    ∷ Container containers.NamedTwice
    ∷ Field fields.OddSome
    ∷ Field fields.OddWhole
    ∷ Rule TextRuleElsewhere
    ∷ Fields lists.RepeatsName
    ∷ Fields lists.Unread
    ∷ Field fields.OddEmptiness
    ∷ Container containers.NoRow
    ∷ []
