-- The parts of a row are inside the schema: what holds of each schema inside holds of each inside a part, where the schemas that rows make have it too.
use Rattle.std.proofs.Common.{◌≡◌, ℕ, List, [], ◌∷◌, ◌++◌, map, filter, Bool, true, false, ◌||◌, Option, Some, None, is_some, refl, true≢false}
use Rattle.std.specs.Prelude.{if◌then◌else◌}
use Rattle.std.specs.List.{list_all, list_any}
use Rattle.json_value.specs.Value.{Value}
use Rattle.schema_defs.specs.declared.InstanceType.{InstanceType}
use Rattle.schema_defs.specs.declared.InstanceType.TheVariants.{Null, Boolean, Object, Array, Number, Text, Integer}
use Rattle.schema_defs.specs.declared.Format.{Format}
use Rattle.schema_defs.specs.Texts.{Relations}
use Rattle.schema_defs.specs.Schema.{Plain, Schema, boolean, object, Same, Lists, Named, Document, ListRules}
use Rattle.model_defs.specs.Model.{allow_rule}
use Rattle.model_defs.specs.Layer.{is_null, is_text, is_boolean}
use Rattle.entry_defs.specs.Entry.{Target, unit_entry}
use Rattle.convert_defs.specs.Row.{Part, made, VariantRow, Row, leaf_row, option_row, ruled_row, refused_row, noted, plainly, here, widened, null_note, string_note, bad_value, mixed_enum, nested_enum}
use Rattle.convert_defs.specs.Standing.{of_type, less_enum, alone, no_keyword}
use Rattle.enum_defs.specs.Words.{same_type}
use Rattle.convert_defs.specs.IntegerRow.{note_if}
use Rattle.convert_defs.specs.Scalars.{text_finding, given_format, wanted_of, enumerated, listed_entry, kept_texts, boolean_finding, listed_alone, is_owner, is_number, distinct, texts_in, texts_entry, never_entry, without_nulls}
use Rattle.convert_defs.specs.Shapes.{Member}
use Rattle.convert_defs.specs.Table.{Line, lines, first_line, nullable, type_beside_null, lists_only_nulls, beside_null, reference_row, row_of_target, target_of, allowed_row, listed, with_type, only_type, type_variant, type_among, of_kinds, variant_order, constant_of, constant_finding, constant_list, row_of}
use Rattle.each_schema.specs.Each.{EachSchema}
use Rattle.convert_defs.proofs.InsideParts.{IsMadeToo, In as PartIn, AllIn as RowIn, MembersIn as AllMembersIn, VariantsIn as AllVariantsIn, of-one-type}
use Rattle.convert_defs.proofs.InsideOwners.{object-in, array-in}
use Rattle.convert_defs.proofs.InsideMembers.{subschemas-in}

module _ (At : Plain → Named → Type 0) (sized : ListRules → Type 0) (made_here : IsMadeToo At) (d : Document) where
  abbrev In : Part → Type 0
  In = PartIn At sized

  abbrev AllIn : Row → Type 0
  AllIn = RowIn At sized

  abbrev MembersIn : List Member → Type 0
  MembersIn = AllMembersIn At sized

  abbrev VariantsIn : List VariantRow → Type 0
  VariantsIn = AllVariantsIn At sized

  -- ---- the lines of the table

  module _ (r : Relations) (p : Plain) (ss : Same) (ls : Lists) (ns : Named) (proper : EachSchema At sized (object p ss ls ns)) where
    text-in : (o : Option Format) → AllIn (text_finding p o).row
    text-in (Some f) = tt
    text-in None = tt

    enumerated-in : (vs : List Value) → AllIn (enumerated r p vs).row
    enumerated-in vs = by (list_all (λ v. is_text v || is_null v) vs)
      where
        by : (b : Bool) → AllIn (if b then noted (note_if (list_any is_null vs) (here widened null_note) ++ note_if (is_some (given_format p)) (here widened string_note)) (leaf_row (listed_entry (list_any is_null vs) (wanted_of p) (kept_texts r p.texts vs))) else plainly (refused_row bad_value)).row
        by true = tt
        by false = tt

    constant-in : (o : Option (List ℕ)) → AllIn (constant_finding r p o).row
    constant-in None = tt
    constant-in (Some t) = enumerated-in (constant_list t p.enum_values)

    boolean-in : (o : Option (List Value)) → AllIn (boolean_finding o).row
    boolean-in None = tt
    boolean-in (Some vs) = tt

    nullable-in : (o : Option InstanceType) → type_beside_null p.types ≡ o → AllIn (nullable p ss ls ns o)
    nullable-in None e = tt
    nullable-in (Some k) e = by (lists_only_nulls p.enum_values || same_type Null k)
      where
        by : (b : Bool) → AllIn (if b then leaf_row unit_entry else option_row (made (object (beside_null (of_type k p)) ss ls ns)))
        by true = tt
        by false = ((made_here.no_null p ns k e proper.0, proper.1, proper.2, proper.3), tt)

    reference-in : (o : Option (List ℕ)) → AllIn (reference_row o)
    reference-in None = tt
    reference-in (Some q) = by (target_of q)
      where
        by : (u : Option Target) → AllIn (row_of_target u)
        by None = tt
        by (Some t) = tt

    allowed-in : (vs : List Value) → AllIn (allowed_row (made (object (less_enum p) ss ls ns)) vs)
    allowed-in vs = by (list_any is_owner vs)
      where
        by : (b : Bool) → AllIn (if b then refused_row nested_enum else ruled_row (made (object (less_enum p) ss ls ns)) (allow_rule vs))
        by true = tt
        by false = ((made_here.no_enum p ns proper.0, proper.1, proper.2, proper.3), tt)

    listed-in : (vs : List Value) → AllIn (listed_alone p vs).row
    listed-in vs = by (list_any is_owner vs) (list_all is_null vs) (list_any is_null vs) (list_all is_text vs) (list_all is_boolean vs) (list_all is_number vs)
      where
        by : (a b c e f g : Bool) → AllIn (if a then plainly (refused_row nested_enum) else if b then plainly (leaf_row (if list_any is_null vs then unit_entry else never_entry (wanted_of p))) else if c then plainly (option_row (made (alone (without_nulls vs p)))) else if e then plainly (leaf_row (texts_entry (wanted_of p) (distinct (texts_in vs)))) else if f then boolean_finding (Some vs) else if g then plainly (ruled_row (made (alone (of_type Integer no_keyword))) (allow_rule vs)) else plainly (refused_row mixed_enum)).row
        by true b c e f g = tt
        by false true c e f g = tt
        by false false true e f g = ((made_here.no_nulls vs p ns proper.0, tt, tt, tt), tt)
        by false false false true f g = tt
        by false false false false true g = tt
        by false false false false false true = (of-one-type At sized made_here Integer refl, tt)
        by false false false false false false = tt

    typed-in : (o : Option InstanceType) → only_type p.types ≡ o → AllIn (with_type p ss ls ns o)
    typed-in None e = tt
    typed-in (Some k) e = ((made_here.only p ns k e proper.0, proper.1, proper.2, proper.3), tt)

    kind-in : (k : InstanceType) → same_type Number k ≡ false → EachSchema At sized (of_kinds p ls ns k)
    kind-in Null e = of-one-type At sized made_here Null refl
    kind-in Boolean e = of-one-type At sized made_here Boolean refl
    kind-in Object e = (made_here.of_objects p ns proper.0, tt, tt, proper.3)
    kind-in Array e = (made_here.one Array refl, tt, proper.2, tt)
    kind-in Number e = absurd (true≢false e)
    kind-in Text e = (made_here.of_texts p ns proper.0, tt, tt, tt)
    kind-in Integer e = (made_here.of_integers p ns proper.0, tt, tt, tt)

    abbrev NoNumber : List InstanceType → Type 0
    NoNumber [] = Unit {0}
    NoNumber (k ∷ ks) = (same_type Number k ≡ false) × NoNumber ks

    kinds-in : (f : InstanceType → Bool) (ks : List InstanceType) → NoNumber ks → VariantsIn (map (type_variant p ls ns) (filter f ks))
    kinds-in f [] h = tt
    kinds-in f (k ∷ ks) h = by (f k) (kinds-in f ks h.1)
      where
        by : (b : Bool) → VariantsIn (map (type_variant p ls ns) (filter f ks)) → VariantsIn (map (type_variant p ls ns) (if b then k ∷ filter f ks else filter f ks))
        by true g = (kind-in k h.0, g)
        by false g = g

    abbrev LinesIn : List Line → Type 0
    LinesIn [] = Unit {0}
    LinesIn (l ∷ xs) = AllIn l.finding.row × LinesIn xs

    first-in : (xs : List Line) → LinesIn xs → AllIn (first_line xs).row
    first-in [] h = tt
    first-in (l ∷ xs) h = by l.fits (first-in xs h.1)
      where
        by : (b : Bool) → AllIn (first_line xs).row → AllIn (if b then l.finding else first_line xs).row
        by true f = h.0
        by false f = f

    lines-in : LinesIn (lines r d p ss ls ns)
    lines-in = (
      tt,
      (
        nullable-in (type_beside_null p.types) refl,
        (
          text-in (given_format p),
          (
            text-in (given_format p),
            (
              enumerated-in (listed p.enum_values),
              (
                constant-in (constant_of p),
                (
                  tt,
                  (
                    boolean-in p.enum_values,
                    (
                      object-in At sized made_here d d.setting ns proper.3,
                      (
                        object-in At sized made_here d d.setting ns proper.3,
                        (
                          array-in At sized made_here d ls proper.2,
                          (
                            array-in At sized made_here d ls proper.2,
                            (
                              tt,
                              (
                                tt,
                                (
                                  reference-in p.reference,
                                  (
                                    reference-in p.reference,
                                    (
                                      tt,
                                      (
                                        allowed-in (listed p.enum_values),
                                        (
                                          listed-in (listed p.enum_values),
                                          (subschemas-in At sized made_here d (wanted_of p) ss proper.1, (tt, (((made_here.no_const p ns proper.0, proper.1, proper.2, proper.3), tt), (((made_here.no_types p ns proper.0, proper.1, proper.2, proper.3), tt), (typed-in (only_type p.types) refl, (kinds-in (λ k. type_among k p.types) variant_order (refl, (refl, (refl, (refl, (refl, (refl, tt)))))), tt)))))),
                                        ),
                                      ),
                                    ),
                                  ),
                                ),
                              ),
                            ),
                          ),
                        ),
                      ),
                    ),
                  ),
                ),
              ),
            ),
          ),
        ),
      ),
    )

  pub parts-in : (r : Relations) (s : Schema) → EachSchema At sized s → AllIn (row_of r d s)
  parts-in r (boolean true) h = tt
  parts-in r (boolean false) h = tt
  parts-in r (object p ss ls ns) h = first-in r p ss ls ns h (lines r d p ss ls ns) (lines-in r p ss ls ns h)
