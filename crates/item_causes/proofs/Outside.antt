-- The causes as they are asked are those of container_defs.
use Rattle.std.proofs.Common.{◌≡◌, ℕ, ◌||◌, List, [], ◌∷◌, Bool, true, false, refl, sym, ap, ◌∙◌}
use Rattle.std.specs.List.{list_any}
use Rattle.model_defs.specs.Model.{ConversionsD}
use Rattle.container_defs.specs.Container.{ReadContainer}
use Rattle.container_defs.specs.Forms.{is_outside}
use Rattle.item_forms.specs.declared.container_test.ContainerTest.TheVariants as containers
use Rattle.item_forms.specs.declared.field_test.FieldTest.TheVariants as fields
use Rattle.item_forms.specs.declared.variant_test.VariantTest.TheVariants as variants
use Rattle.item_forms.specs.declared.beside.ListTest.TheVariants as lists
use Rattle.item_causes.specs.declared.cause.RuleTest.TheVariants.{UnknownDefault, OddTryFrom, TextRuleElsewhere}
use Rattle.item_causes.specs.declared.cause.Cause.{Cause}
use Rattle.item_causes.specs.declared.cause.Cause.TheVariants.{Container, Field, Variant, Fields, Rule}
use Rattle.item_causes.specs.Causes.{cause_test, causes}

or_assoc : (a b c : Bool) → (a || b || c) ≡ (a || (b || c))
or_assoc true b c = refl
or_assoc false b c = refl

two : (a b r : Bool) → (a || (b || r)) ≡ (a || b || r)
two a b r = sym (or_assoc a b r)

three : (a b c r : Bool) → (a || (b || (c || r))) ≡ (a || b || c || r)
three a b c r = sym (or_assoc a b (c || r)) ∙ sym (or_assoc (a || b) c r)

-- one of some, or else
abbrev or_then : (Cause → Bool) → List Cause → Bool → Bool
or_then test [] r = r
or_then test (q ∷ qs) r = test q || or_then test qs r

abbrev first_causes : List Cause
first_causes = Container containers.Generic ∷ Container containers.Remote ∷ Container containers.From ∷ Container containers.Into ∷ Field fields.Getter ∷ []

abbrev middle_causes : List Cause
middle_causes = Container containers.Default ∷ Container containers.TaggedStruct ∷ Container containers.Identifier ∷ Variant variants.Other ∷ Variant variants.Untagged ∷ []

abbrev last_causes : List Cause
last_causes =
    Field fields.OtherCondition
    ∷ Rule UnknownDefault
    ∷ Container containers.OddFlatten
    ∷ Field fields.OddRest
    ∷ Container containers.TransparentWithNames
    ∷ Rule OddTryFrom
    ∷ Field fields.NamelessExtras
    ∷ Field fields.UnknownType
    ∷ Container containers.NamedTwice
    ∷ Field fields.OddSome
    ∷ Field fields.OddWhole
    ∷ Rule TextRuleElsewhere
    ∷ Fields lists.RepeatsName
    ∷ Fields lists.Unread
    ∷ Field fields.OddEmptiness
    ∷ Container containers.NoRow
    ∷ []

module _ (test : Cause → Bool) where
  abbrev bounds : Bool
  bounds = test (Container containers.Bound) || test (Variant variants.Bound) || test (Field fields.Bound)

  abbrev skips : Bool
  skips = test (Variant variants.Skip) || test (Field fields.Skip)

  abbrev writers : Bool
  writers = test (Variant variants.SerializeWith) || test (Field fields.SerializeWith)

  abbrev readers : Bool
  readers = test (Variant variants.DeserializeWith) || test (Field fields.OtherReader)

  abbrev last : Bool
  last = list_any test last_causes

  abbrev behind_writers : Bool
  behind_writers = test (Variant variants.DeserializeWith) || (test (Field fields.OtherReader) || last)

  abbrev behind_skips : Bool
  behind_skips = test (Variant variants.SerializeWith) || (test (Field fields.SerializeWith) || behind_writers)

  abbrev behind_middle : Bool
  behind_middle = test (Variant variants.Skip) || (test (Field fields.Skip) || behind_skips)

  grouped : list_any test causes ≡ or_then test first_causes (bounds || or_then test middle_causes (skips || (writers || (readers || last))))
  grouped =
      ap (λ r. or_then test first_causes r) (three (test (Container containers.Bound)) (test (Variant variants.Bound)) (test (Field fields.Bound)) (or_then test middle_causes behind_middle))
      ∙ ap (λ r. or_then test first_causes (bounds || or_then test middle_causes r)) (two (test (Variant variants.Skip)) (test (Field fields.Skip)) behind_skips)
      ∙ ap (λ r. or_then test first_causes (bounds || or_then test middle_causes (skips || r))) (two (test (Variant variants.SerializeWith)) (test (Field fields.SerializeWith)) behind_writers)
      ∙ ap (λ r. or_then test first_causes (bounds || or_then test middle_causes (skips || (writers || r)))) (two (test (Variant variants.DeserializeWith)) (test (Field fields.OtherReader)) last)

pub same_causes : (items : List (List ℕ)) (k : ConversionsD) (c : ReadContainer) (b : Bool) → b ≡ list_any (λ q. cause_test items k q c) causes → b ≡ is_outside items k c
same_causes items k c b h = h ∙ grouped (λ q. cause_test items k q c)
