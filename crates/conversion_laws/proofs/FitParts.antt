-- The parts of a row are fit for merging where the schema is.
use Rattle.std.proofs.Common.{◌≡◌, [], ◌∷◌, false, Option, Some, None, refl, sym, subst, true≢false}
use Rattle.schema_defs.specs.declared.InstanceType.{InstanceType}
use Rattle.schema_defs.specs.declared.InstanceType.TheVariants.{Null, Boolean, Object, Array, Number, Text, Integer}
use Rattle.schema_defs.specs.Texts.{Relations}
use Rattle.schema_defs.specs.Schema.{Types, one_type, many_types, Schema, Document}
use Rattle.enum_defs.specs.Words.{same_type}
use Rattle.merge_laws.specs.Laws.{Given, AreProper, AreKeywordsProper, ProperTypes, IsProper}
use Rattle.convert_defs.specs.Row.{row_parts}
use Rattle.convert_defs.specs.Table.{type_beside_null, only_type, row_of}
use Rattle.convert_defs.proofs.Views.{schema_of, AllParts}
use Rattle.convert_defs.proofs.Bare.{none-some, some-same}
use Rattle.convert_defs.proofs.InsideParts.{IsMadeToo}
use Rattle.convert_defs.proofs.Inside.{parts-in}
use Rattle.each_schema.specs.Each.{of_any_size}

-- a type that isn't `number` alone
one-proper : (k : InstanceType) → same_type Number k ≡ false → AreProper (k ∷ [])
one-proper Null e = λ h. absurd (true≢false (sym h))
one-proper Boolean e = λ h. absurd (true≢false (sym h))
one-proper Object e = λ h. absurd (true≢false (sym h))
one-proper Array e = λ h. absurd (true≢false (sym h))
one-proper Number e = absurd (true≢false e)
one-proper Text e = λ h. absurd (true≢false (sym h))
one-proper Integer e = λ h. absurd (true≢false (sym h))

-- beside null stands no `number`, since not all names stand there
after-null : (k : InstanceType) → AreProper (Null ∷ k ∷ []) → AreProper (k ∷ [])
after-null Null h = one-proper Null refl
after-null Boolean h = one-proper Boolean refl
after-null Object h = one-proper Object refl
after-null Array h = one-proper Array refl
after-null Number h = absurd (true≢false (sym (h refl Boolean)))
after-null Text h = one-proper Text refl
after-null Integer h = one-proper Integer refl

beside-proper : (o : Option Types) (k : InstanceType) → type_beside_null o ≡ Some k → Given ProperTypes o → ProperTypes (one_type k)
beside-proper (Some (many_types (Null ∷ l ∷ []))) k e h = subst (λ x. ProperTypes (one_type x)) (some-same l k e) (after-null l h)
beside-proper (Some (many_types (Boolean ∷ Null ∷ []))) k e h = subst (λ x. ProperTypes (one_type x)) (some-same Boolean k e) (one-proper Boolean refl)
beside-proper (Some (many_types (Object ∷ Null ∷ []))) k e h = subst (λ x. ProperTypes (one_type x)) (some-same Object k e) (one-proper Object refl)
beside-proper (Some (many_types (Array ∷ Null ∷ []))) k e h = subst (λ x. ProperTypes (one_type x)) (some-same Array k e) (one-proper Array refl)
beside-proper (Some (many_types (Number ∷ Null ∷ []))) k e h = absurd (true≢false (sym (h refl Boolean)))
beside-proper (Some (many_types (Text ∷ Null ∷ []))) k e h = subst (λ x. ProperTypes (one_type x)) (some-same Text k e) (one-proper Text refl)
beside-proper (Some (many_types (Integer ∷ Null ∷ []))) k e h = subst (λ x. ProperTypes (one_type x)) (some-same Integer k e) (one-proper Integer refl)
beside-proper _ k e h = none-some k e

only-proper : (o : Option Types) (k : InstanceType) → only_type o ≡ Some k → Given ProperTypes o → ProperTypes (one_type k)
only-proper None k e h = none-some k e
only-proper (Some (one_type l)) k e h = none-some k e
only-proper (Some (many_types [])) k e h = none-some k e
only-proper (Some (many_types (l ∷ []))) k e h = subst (λ x. ProperTypes (one_type x)) (some-same l k e) h
only-proper (Some (many_types (l ∷ m ∷ ks))) k e h = none-some k e

made-too : IsMadeToo AreKeywordsProper
made-too = record {
  one = λ k e. (one-proper k e, tt);
  of_objects = λ p ns h. (one-proper Object refl, tt);
  of_integers = λ p ns h. (one-proper Integer refl, h.1);
  of_texts = λ p ns h. (one-proper Text refl, tt);
  no_null = λ p ns k e h. (beside-proper p.types k e h.0, h.1);
  no_nulls = λ vs p ns h. h;
  only = λ p ns k e h. (only-proper p.types k e h.0, h.1);
  no_types = λ p ns h. (tt, h.1);
  no_enum = λ p ns h. h;
  no_const = λ p ns h. h;
}

pub parts-fit : (r : Relations) (d : Document) (s : Schema) → IsProper s → AllParts (λ p. IsProper (schema_of p)) (row_parts (row_of r d s))
parts-fit r d s h = parts-in AreKeywordsProper of_any_size made-too d r s h
