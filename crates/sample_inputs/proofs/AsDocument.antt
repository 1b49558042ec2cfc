-- The value of a sample is read as its document.
use Rattle.std.proofs.Common.{◌≡◌, ℕ, ◌+◌, ◌%◌, ◌<◌, ◌^◌, ◌==◌, List, [], ◌∷◌, map, Bool, true, false, if◌then◌else◌, refl, sym, ap, ◌∙◌, Some, None, arith}
use Rattle.std.specs.Prelude.{option_map, option_and_then}
use Rattle.std.specs.Ordering.{match_ordering}
use Rattle.json_value.specs.Value.{members}
use Rattle.schema_defs.specs.declared.Setting.TheVariants.{Strict}
use Rattle.schema_defs.specs.Build.{obj}
use Rattle.schema_defs.specs.Schema.{Schema, properties}
use Rattle.schema_defs.specs.Read.{◌⊛◌, reading, member_readings, properties_of, joined, flat, with_definition, with_definitions, make_document, definitions_of, document_of, schema_of, plain_of, numbers_of, texts_of, same_of, lists_of, named_of}
use Rattle.describe_defs.specs.Description.{object_of, never, in_order, definition_of}
use Rattle.describe_defs.proofs.InOrder.{made, order_made, IsBelow, Rise, order_rises}
use Rattle.describe_defs.proofs.WrittenObjects.{Twin, properties_read}
use Rattle.sample_inputs.specs.Sample.{numbers_from, sample_name, sample_entry, sample_schema, definition_value, closed_value, leads_to, with_kind, with_owner, with_pair}
use Rattle.sample_inputs.specs.Document.{reference_schema, entries_of, definition_schema, schema_entry, sample_document}
use Rattle.sample_inputs.proofs.Rings.{names_stand_once}

-- ---- definitions

abbrev chosen : {A : Type 0} → Bool → Bool → A → A → A → A
chosen b c x y z = if b then x else (if c then y else z)

by_rest : (b c : Bool) (next : ℕ) → (reading (closed_value (obj (chosen b c (with_kind (leads_to next)) (with_owner (leads_to next)) (with_pair (leads_to next)))))).as_schema
    ≡ Some (object_of (entries_of b c next) never)
unfolding schema_of plain_of numbers_of texts_of same_of lists_of named_of
by_rest true c next = refl
by_rest false true next = refl
by_rest false false next = refl

pub definition_read : (n i : ℕ) → (reading (definition_value n i)).as_schema ≡ Some (definition_schema n i)
definition_read n i = by_rest (i % 3 == 0) (i % 3 == 1) ((i + 1) % n)

-- ---- all of them

module _ (n : ℕ) where
  abbrev twin : ℕ → Twin
  twin i = record { name = sample_name i; left = definition_value n i; right = definition_schema n i; required = true; is_read = definition_read n i }

  abbrev twins : List ℕ → List (List ℕ × Twin)
  twins is = map (λ i. (sample_name i, twin i)) is

  lefts : (is : List ℕ) → made (λ t. t.left) (twins is) ≡ map (sample_entry n) is
  lefts [] = refl
  lefts (i ∷ is) = ap (λ z. sample_entry n i ∷ z) (lefts is)

  rights : (is : List ℕ) → made (λ t. t.right) (twins is) ≡ map (schema_entry n) is
  rights [] = refl
  rights (i ∷ is) = ap (λ z. schema_entry n i ∷ z) (rights is)

  left_in_order : (is : List ℕ) → in_order (map (sample_entry n) is) ≡ made (λ t. t.left) (in_order (twins is))
  left_in_order is = ap in_order (sym (lefts is)) ∙ order_made (λ t. t.left) (twins is)

  right_in_order : (is : List ℕ) → in_order (map (schema_entry n) is) ≡ made (λ t. t.right) (in_order (twins is))
  right_in_order is = ap in_order (sym (rights is)) ∙ order_made (λ t. t.right) (twins is)

  entries_read : (is : List ℕ) → properties_of (member_readings (members (in_order (map (sample_entry n) is)))) ≡ Some (properties (in_order (map (schema_entry n) is)))
  entries_read is = (λ t. properties_of (member_readings (members (left_in_order is t)))) ∙ properties_read (in_order (twins is)) ∙ (λ t. Some (properties (sym (right_in_order is) t)))

-- names that rise are definitions in order
risen_definitions : (es : List (List ℕ × Schema)) → Rise es → with_definitions false (properties es) (Some []) ≡ Some (map definition_of es)
risen_definitions [] h = refl
risen_definitions (e ∷ es) h = ap (λ o. option_and_then (with_definition (definition_of e)) o) (risen_definitions es h.1) ∙ below es h.0
  where
    below : (fs : List (List ℕ × Schema)) → IsBelow e.0 fs → with_definition (definition_of e) (map definition_of fs) ≡ Some (definition_of e ∷ map definition_of fs)
    below [] l = refl
    below (f ∷ fs) l = ap (λ o. match_ordering o (Some (definition_of e ∷ definition_of f ∷ map definition_of fs)) None (option_map (λ gs. definition_of f ∷ gs) (with_definition (definition_of e) (map definition_of fs)))) l

pub sample_read : (n : ℕ) → n < 2 ^ 32 → document_of Strict (sample_schema n) ≡ Some (sample_document n)
unfolding document_of definitions_of schema_of plain_of numbers_of texts_of same_of lists_of named_of
sample_read n h =
    let is = numbers_from 0 n in
    let es = in_order (map (schema_entry n) is) in
    let rises : Rise es = order_rises (map (schema_entry n) is) (names_stand_once (definition_schema n) 0 n (omega (arith, h))) in
    let k = entries_read n is in
    let d = risen_definitions es rises in
    (λ t. Some (make_document Strict) ⊛ Some (reference_schema 0) ⊛ flat (Some joined ⊛ option_map Some (k t) ⊛ Some None))
    ∙ (λ t. Some (make_document Strict) ⊛ Some (reference_schema 0) ⊛ d t)
