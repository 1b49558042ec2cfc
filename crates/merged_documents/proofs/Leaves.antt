-- What rows without parts make: no field stands in it, and no variant with contents.
use Rattle.std.proofs.Common.{◌≡◌, ℕ, List, [], ◌∷◌, Bool, true, false, ◌&&◌, ◌||◌, not, codes, Option, Some, None, refl}
use Rattle.std.specs.Prelude.{if◌then◌else◌, is_none, is_some}
use Rattle.std.specs.List.{list_all, list_any}
use Rattle.json_value.specs.Value.{Value}
use Rattle.schema_defs.specs.declared.InstanceType.{InstanceType}
use Rattle.schema_defs.specs.declared.InstanceType.TheVariants.{Null}
use Rattle.schema_defs.specs.declared.Format.{Format}
use Rattle.schema_defs.specs.declared.Setting.{Setting}
use Rattle.schema_defs.specs.Texts.{Relations}
use Rattle.schema_defs.specs.Schema.{Texts, Plain, Schema, boolean, object, Same, no_same, same_value, Lists, no_lists, lists, Named, no_named, named, MaybeSchema, no_schema, the_schema, no_list, the_list, Places, no_items, each_item, by_place, Properties, no_properties, property, ListRules, Document}
use Rattle.schema_defs.specs.Layer.{is_given}
use Rattle.model_defs.specs.Layer.{is_null, is_text, is_boolean}
use Rattle.entry_defs.specs.Entry.{Target, Entry, boolean_entry, integer_entry, text_entry, native_entry, any_entry, unit_entry, option_entry, reference, item, Shape, struct_shape, enum_shape, newtype_shape, Variants, no_variants, variant_then, unit_contents}
use Rattle.enum_defs.specs.Words.{same_type, without_same}
use Rattle.enum_defs.specs.Exclusive.{exclusive}
use Rattle.convert_defs.specs.Row.{Part, VariantRow, Row, leaf_row, Finding}
use Rattle.convert_defs.specs.Scalars.{given_format, ruled_text, text_finding, unit_variants, never_entry, texts_entry, listed_entry, kept_texts, enumerated, boolean_finding, is_owner, is_number, distinct, texts_in, listed_alone, wanted_of}
use Rattle.convert_defs.specs.Owners.{is_true, fixed_row, is_by_place, sized_finding, fixed_size, array_finding, no_property, is_empty, is_false, is_shut, are_alike, names_texts, pattern_row, object_finding}
use Rattle.convert_defs.specs.Shapes.{Member, members_from, schemas_of, option_member, external_members, adjacent_members, internal_members, TaggedShape}
use Rattle.convert_defs.specs.Table.{Line, lines, first_line, nullable, lists_only_nulls, row_of_target, reference_row, target_of, allowed_row, listed, with_type, only_type, type_beside_null, constant_list, constant_finding, constant_of, only_member, one_of_only, one_of_internal, one_of_adjacent, one_of_external, one_of_option, any_of_others, any_of_finding, all_of_finding, deny, denied, type_of_listed, has_one_type, no_others, not_finding, subschema_finding, finding_or, row_of}
use Rattle.convert_defs.specs.Standing.{less_enum}

abbrev pub are_units : Variants → Bool
are_units no_variants = true
are_units (variant_then i n unit_contents ws) = are_units ws
are_units (variant_then i n _ ws) = false

abbrev mutual
  pub is_leaf : Entry → Bool
  is_leaf boolean_entry = true
  is_leaf (integer_entry g) = true
  is_leaf text_entry = true
  is_leaf (native_entry f) = true
  is_leaf any_entry = true
  is_leaf unit_entry = true
  is_leaf (reference q) = true
  is_leaf (option_entry e) = is_leaf e
  is_leaf (item n h) = is_leaf_shape h
  is_leaf _ = false

  pub is_leaf_shape : Shape → Bool
  is_leaf_shape (struct_shape closed fs) = false
  is_leaf_shape (enum_shape closed tag ws) = are_units ws
  is_leaf_shape (newtype_shape e rule) = is_leaf e

-- a row, where an entry that it makes without parts is a leaf
abbrev pub HasLeaf : Row → Type 0
HasLeaf (leaf_row e) = is_leaf e ≡ true
HasLeaf _ = Unit {0}

either : (b : Bool) (x y : Finding) → HasLeaf x.row → HasLeaf y.row → HasLeaf (if b then x else y).row
either true x y f g = f
either false x y f g = g

either-row : (b : Bool) (x y : Row) → HasLeaf x → HasLeaf y → HasLeaf (if b then x else y)
either-row true x y f g = f
either-row false x y f g = g

abbrev AllHave : List Line → Type 0
AllHave [] = Unit {0}
AllHave (l ∷ ls) = HasLeaf l.finding.row × AllHave ls

first-leaf : (ls : List Line) → AllHave ls → HasLeaf (first_line ls).row
first-leaf [] h = tt
first-leaf (l ∷ ls) h = either l.fits l.finding (first_line ls) h.0 (first-leaf ls h.1)

-- ---- texts

units-leaf : (ts : List (List ℕ)) → are_units (unit_variants ts) ≡ true
units-leaf [] = refl
units-leaf (t ∷ ts) = units-leaf ts

texts-leaf : (n : List ℕ) (ts : List (List ℕ)) → is_leaf (texts_entry n ts) ≡ true
texts-leaf n [] = refl
texts-leaf n (t ∷ ts) = units-leaf ts

listed-leaf : (b : Bool) (n : List ℕ) (ts : List (List ℕ)) → is_leaf (listed_entry b n ts) ≡ true
listed-leaf true n [] = refl
listed-leaf true n (t ∷ ts) = texts-leaf n (t ∷ ts)
listed-leaf false n ts = texts-leaf n ts

ruled-leaf : (n : List ℕ) (o : Option Texts) → is_leaf (ruled_text n o) ≡ true
ruled-leaf n None = refl
ruled-leaf n (Some t) = refl

text-leaf : (p : Plain) (o : Option Format) → HasLeaf (text_finding p o).row
text-leaf p (Some f) = refl
text-leaf p None = ruled-leaf (wanted_of p) p.texts

boolean-leaf : (o : Option (List Value)) → HasLeaf (boolean_finding o).row
boolean-leaf None = refl
boolean-leaf (Some vs) = refl

nulls-leaf : (b : Bool) (n : List ℕ) → is_leaf (if b then unit_entry else never_entry n) ≡ true
nulls-leaf true n = refl
nulls-leaf false n = refl

alone-leaf : (p : Plain) (vs : List Value) → HasLeaf (listed_alone p vs).row
alone-leaf p vs =
    either (list_any is_owner vs) _ _ tt (
    either (list_all is_null vs) _ _ (nulls-leaf (list_any is_null vs) (wanted_of p)) (
    either (list_any is_null vs) _ _ tt (
    either (list_all is_text vs) _ _ (texts-leaf (wanted_of p) (distinct (texts_in vs))) (
    either (list_all is_boolean vs) _ _ refl (
    either (list_all is_number vs) _ _ tt tt)))))

-- ---- owners

patterns-leaf : (qs : Properties) → HasLeaf (pattern_row qs)
patterns-leaf no_properties = tt
patterns-leaf (property k u us) = tt

object-leaf : (setting : Setting) (ms : Named) → HasLeaf (object_finding setting ms).row
object-leaf setting no_named = tt
object-leaf setting (named props patterns others names rules) =
    either (no_property props && is_empty rules.required && no_property patterns && not (is_false others)) _ _ (either-row (names_texts names) _ _ tt tt) (
    either (no_property props && is_empty rules.required && not (is_given names) && is_shut others && are_alike patterns) _ _ (patterns-leaf patterns) tt)

fixed-leaf : (n : ℕ) (places : Places) (others : MaybeSchema) → HasLeaf (fixed_row n places others)
fixed-leaf n no_items others = tt
fixed-leaf n (each_item u) others = tt
fixed-leaf n (by_place us) others = tt

sized-leaf : (places : Places) (others contains : MaybeSchema) (rules : ListRules) (o : Option ℕ) → HasLeaf (sized_finding places others contains rules o).row
sized-leaf places others contains rules (Some n) = fixed-leaf n places others
sized-leaf places others contains rules None = either (is_by_place places || is_given contains) _ _ tt (either-row (is_true rules.unique_items) _ _ tt tt)

array-leaf : (ms : Lists) → HasLeaf (array_finding ms).row
array-leaf no_lists = tt
array-leaf (lists places others contains rules) = sized-leaf places others contains rules (fixed_size rules contains)

-- ---- subschemas

deny-leaf : (q : Part) (vs : List Value) → HasLeaf (deny q vs).row
deny-leaf q vs = either (list_any is_owner vs) _ _ tt tt

module _ (d : Document) where
  only-leaf : (ms : List Member) (o : Option Member) → HasLeaf (one_of_only d ms o).row
  only-leaf ms (Some m) = tt
  only-leaf ms None = tt

  internal-leaf : (ms : List Member) (o : Option TaggedShape) → HasLeaf (one_of_internal d ms o).row
  internal-leaf ms (Some t) = tt
  internal-leaf ms None = only-leaf ms (only_member ms)

  adjacent-leaf : (ms : List Member) (o : Option TaggedShape) → HasLeaf (one_of_adjacent d ms o).row
  adjacent-leaf ms (Some t) = tt
  adjacent-leaf ms None = internal-leaf ms (internal_members d.setting ms)

  external-leaf : (ms : List Member) (o : Option (List VariantRow)) → HasLeaf (one_of_external d ms o).row
  external-leaf ms (Some ws) = tt
  external-leaf ms None = adjacent-leaf ms (adjacent_members ms)

  one-leaf : (ms : List Member) (o : Option Member) → HasLeaf (one_of_option d ms o).row
  one-leaf ms (Some m) = tt
  one-leaf ms None = external-leaf ms (external_members ms)

  others-leaf : (n : List ℕ) (ms : List Member) (o : Option Member) → HasLeaf (any_of_others d n ms o).row
  others-leaf n ms (Some m) = tt
  others-leaf n ms None = either (exclusive d (schemas_of ms)) _ _ (one-leaf ms (option_member ms)) tt

  any-leaf : (n : List ℕ) (ms : List Member) → HasLeaf (any_of_finding d n ms).row
  any-leaf n [] = refl
  any-leaf n (m ∷ ms) = others-leaf n (m ∷ ms) (option_member (m ∷ ms))

  all-leaf : (ms : List Member) → HasLeaf (all_of_finding ms).row
  all-leaf [] = tt
  all-leaf (m ∷ []) = tt
  all-leaf (m ∷ l ∷ ms) = tt

  denied-leaf : (o : Option InstanceType) (vs : List Value) → HasLeaf (denied o vs).row
  denied-leaf None vs = tt
  denied-leaf (Some k) vs = deny-leaf _ vs

  not-leaf : (n : List ℕ) (s : Schema) → HasLeaf (not_finding n s).row
  not-leaf n (boolean true) = refl
  not-leaf n (boolean false) = refl
  not-leaf n (object q sq lq nq) =
      either (is_none q.types && no_others q lq nq && without_same sq) _ _ refl (
      either (has_one_type q.types && is_some q.enum_values) _ _ (deny-leaf _ (listed q.enum_values)) (
      either (is_none q.types && is_some q.enum_values && no_others (less_enum q) lq nq && without_same sq) _ _ (denied-leaf (type_of_listed (listed q.enum_values)) (listed q.enum_values)) tt))

  same-leaf : (n : List ℕ) (x : Same) → HasLeaf (finding_or (subschema_finding d n x)).row
  same-leaf n no_same = tt
  same-leaf n (same_value (the_list us) no_list no_list no_schema false) = all-leaf (members_from (codes "allOf") 0 us)
  same-leaf n (same_value no_list (the_list us) no_list no_schema false) = any-leaf n (members_from (codes "anyOf") 0 us)
  same-leaf n (same_value no_list no_list (the_list us) no_schema false) = one-leaf (members_from (codes "oneOf") 0 us) (option_member (members_from (codes "oneOf") 0 us))
  same-leaf n (same_value no_list no_list no_list (the_schema u) false) = not-leaf n u
  same-leaf n _ = tt

-- ---- the table

module _ (r : Relations) (d : Document) (p : Plain) (ss : Same) (ls : Lists) (ns : Named) where
  enumerated-leaf : (vs : List Value) → HasLeaf (enumerated r p vs).row
  enumerated-leaf vs = either (list_all (λ v. is_text v || is_null v) vs) _ _ (listed-leaf (list_any is_null vs) (wanted_of p) (kept_texts r p.texts vs)) tt

  constant-leaf : (o : Option (List ℕ)) → HasLeaf (constant_finding r p o).row
  constant-leaf None = tt
  constant-leaf (Some t) = enumerated-leaf (constant_list t p.enum_values)

  nullable-leaf : (o : Option InstanceType) → HasLeaf (nullable p ss ls ns o)
  nullable-leaf None = tt
  nullable-leaf (Some k) = either-row (lists_only_nulls p.enum_values || same_type Null k) _ _ refl tt

  target-leaf : (o : Option Target) → HasLeaf (row_of_target o)
  target-leaf None = tt
  target-leaf (Some t) = refl

  reference-leaf : (o : Option (List ℕ)) → HasLeaf (reference_row o)
  reference-leaf None = tt
  reference-leaf (Some q) = target-leaf (target_of q)

  allowed-leaf : (q : Part) (vs : List Value) → HasLeaf (allowed_row q vs)
  allowed-leaf q vs = either-row (list_any is_owner vs) _ _ tt tt

  typed-leaf : (o : Option InstanceType) → HasLeaf (with_type p ss ls ns o)
  typed-leaf None = tt
  typed-leaf (Some k) = tt

  lines-leaf : HasLeaf (first_line (lines r d p ss ls ns)).row
  lines-leaf = first-leaf (lines r d p ss ls ns) (
    tt,
    (
      nullable-leaf (type_beside_null p.types),
      (
        text-leaf p (given_format p),
        (
          text-leaf p (given_format p),
          (
            enumerated-leaf (listed p.enum_values),
            (
              constant-leaf (constant_of p),
              (
                refl,
                (
                  boolean-leaf p.enum_values,
                  (
                    object-leaf d.setting ns,
                    (
                      object-leaf d.setting ns,
                      (
                        array-leaf ls,
                        (
                          array-leaf ls,
                          (
                            refl,
                            (
                              refl,
                              (
                                reference-leaf p.reference,
                                (
                                  reference-leaf p.reference,
                                  (
                                    tt,
                                    (
                                      allowed-leaf _ (listed p.enum_values),
                                      (
                                        alone-leaf p (listed p.enum_values),
                                        (
                                          same-leaf d (wanted_of p) ss,
                                          (
                                            tt,
                                            (
                                              tt,
                                              (tt, (typed-leaf (only_type p.types), (tt, tt))),
                                            ),
                                          ),
                                        ),
                                      ),
                                    ),
                                  ),
                                ),
                              ),
                            ),
                          ),
                        ),
                      ),
                    ),
                  ),
                ),
              ),
            ),
          ),
        ),
      ),
    ),
  )

pub row_has_leaf : (r : Relations) (d : Document) (s : Schema) → HasLeaf (row_of r d s)
row_has_leaf r d (boolean true) = refl
row_has_leaf r d (boolean false) = refl
row_has_leaf r d (object p ss ls ns) = lines-leaf r d p ss ls ns
