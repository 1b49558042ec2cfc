-- The parts of a row are in order where the schema is.
use Rattle.std.proofs.Common.{◌≡◌, true, false, None, refl}
use Rattle.schema_defs.specs.Texts.{Relations}
use Rattle.schema_defs.specs.Schema.{Schema, no_named, ListRules, Document}
use Rattle.convert_defs.specs.Row.{row_parts}
use Rattle.convert_defs.specs.RootReference.{refers_to_root}
use Rattle.convert_defs.specs.Table.{row_of}
use Rattle.convert_defs.specs.Proper.{AreProper, AreKeywordsProper, IsProper}
use Rattle.convert_defs.proofs.Views.{schema_of, AllParts}
use Rattle.convert_defs.proofs.Bare.{impossible}
use Rattle.convert_defs.proofs.InsideParts.{IsMadeToo}
use Rattle.convert_defs.proofs.Inside.{parts-in}

never-known : (d : Document) → false ≡ true → refers_to_root d ≡ true
never-known d h = impossible h

blank : (d : Document) → AreProper d None no_named
blank d = record { apart = refl; led = refl; known = never-known d }

made-too : (d : Document) → IsMadeToo (AreKeywordsProper d)
made-too d = record {
  one = λ k e. blank d;
  of_objects = λ p ns h. record { apart = h.apart; led = refl; known = never-known d };
  of_integers = λ p ns h. blank d;
  of_texts = λ p ns h. blank d;
  no_null = λ p ns k e h. h;
  no_nulls = λ vs p ns h. record { apart = refl; led = h.led; known = h.known };
  only = λ p ns k e h. h;
  no_types = λ p ns h. h;
  no_enum = λ p ns h. h;
  no_const = λ p ns h. h;
}

pub parts-proper : (sized : ListRules → Type 0) (d : Document) (r : Relations) (s : Schema) → IsProper sized d s → AllParts (λ p. IsProper sized d (schema_of p)) (row_parts (row_of r d s))
parts-proper sized d r s h = parts-in (AreKeywordsProper d) sized (made-too d) d r s h
