-- A document that was read is fit for merging.
use Rattle.std.proofs.Common.{ℕ, ℤ, ◌≡◌, ◌≤◌, List, [], ◌∷◌, Option, Some, None, option_map, Bool, true, false, ◌||◌, refl, sym, ap, subst, ◌∙◌}
use Rattle.std.specs.Prelude.{codes}
use Rattle.std.specs.List.{list_any}
use Rattle.json_value.specs.Value as value
use Rattle.json_value.specs.Value.{Value, Members, member_at}
use Rattle.schema_defs.specs.Schema.{Numbers}
use Rattle.schema_defs.specs.Read.{◌⊛◌, Lookup, lookup_of, reading, member_readings, optional, keyword, by_value, any_stands, text_of, integer_of, multiple_of, kept, kept_list, types_of, number_words, make_numbers, numbers_of, texts_of, make_plain, plain_of}
use Rattle.schema_defs.proofs.Unknown.{keywords_are_members}
use Rattle.schema_faults.specs.declared.keyword.Holds.TheVariants.{TypeNames}
use Rattle.schema_faults.specs.Keywords.{Row, keywords}
use Rattle.schema_faults.specs.Schemas.{schemas_of}
use Rattle.schema_faults.specs.Faults.{is_float, if_present, some_keyword, mark_if, float_marks}
use Rattle.schema_faults.proofs.Readings.{is_empty}
use Rattle.schema_faults.proofs.Roots.{empty-told}
use Rattle.schema_laws.proofs.Options.{IfThere, chosen, mapped, taken, passed, passed3}
use Rattle.merge_laws.specs.Laws.{ProperTypes, ProperNumbers, ProperPlain, ProperDocument}
use Rattle.merged_documents.specs.Laws.{ReadDocumentsMayMerge}
use Rattle.merged_documents.proofs.Types.{types-proper, multiple-proper}
use Rattle.merged_documents.proofs.TenKeywords.{fifth-and-eighth}
use Rattle.schema_laws.proofs.Reading.{document_has}

-- ---- keywords of an object

module _ {A : Type 0} (ms : Members) (k : List ℕ) (f : Value → Option A) (Q : A → Type 0) where
  -- what a keyword is read as, by its value
  at-member : (o : Option Value) → ((v : Value) → o ≡ Some v → IfThere Q (f (reading v).whole)) → IfThere (IfThere Q) (optional (by_value f) (option_map reading o))
  at-member None h = tt
  at-member (Some v) h = mapped Q (IfThere Q) Some (f (reading v).whole) (h v refl) (λ x y. y)

  at-keyword : ((v : Value) → member_at k ms ≡ Some v → IfThere Q (f (reading v).whole)) → IfThere (IfThere Q) (keyword k (by_value f) (lookup_of (member_readings ms)))
  at-keyword h = subst (λ o. IfThere (IfThere Q) (optional (by_value f) o)) (sym (keywords_are_members k ms)) (at-member (member_at k ms) h)

-- a reading has its value
whole-is : (v : Value) → (reading v).whole ≡ v
whole-is value.null = refl
whole-is (value.boolean b) = refl
whole-is (value.number z) = refl
whole-is value.fraction = refl
whole-is (value.text s) = refl
whole-is (value.list xs) = refl
whole-is (value.object ms) = refl

-- ---- plain keywords

module _ (f : Lookup) where
  numbers-proper : IfThere (IfThere (λ m. 1 ≤ m)) (keyword (codes "multipleOf") (by_value multiple_of) f) → IfThere (IfThere ProperNumbers) (numbers_of f)
  unfolding numbers_of
  numbers-proper h =
      chosen (IfThere (IfThere ProperNumbers)) (any_stands number_words f) _ _
      (passed (IfThere ProperNumbers)
      (Some make_numbers ⊛ keyword (codes "multipleOf") (by_value multiple_of) f ⊛ keyword (codes "maximum") (by_value integer_of) f ⊛ keyword (codes "exclusiveMaximum") (by_value integer_of) f ⊛ keyword (codes "minimum") (by_value integer_of) f)
      (keyword (codes "exclusiveMinimum") (by_value integer_of) f)
      (passed3 (λ (k : Option ℤ → Option Numbers). (a : Option ℤ) → IfThere ProperNumbers (k a)) (Some make_numbers ⊛ keyword (codes "multipleOf") (by_value multiple_of) f)
      (keyword (codes "maximum") (by_value integer_of) f) (keyword (codes "exclusiveMaximum") (by_value integer_of) f) (keyword (codes "minimum") (by_value integer_of) f)
      (taken (IfThere (λ m. 1 ≤ m)) (λ (k : Option ℤ → Option ℤ → Option ℤ → Option ℤ → Option Numbers). (a b c e : Option ℤ) → IfThere ProperNumbers (k a b c e)) (Some make_numbers) (keyword (codes "multipleOf") (by_value multiple_of) f) (λ m x a b c e. x) h)))
      tt

  plain-proper : IfThere (IfThere ProperTypes) (keyword (codes "type") (by_value types_of) f) → IfThere (IfThere ProperNumbers) (numbers_of f) → IfThere ProperPlain (plain_of f)
  unfolding plain_of
  plain-proper h g =
      fifth-and-eighth (IfThere ProperTypes) (IfThere ProperNumbers) ProperPlain
      (keyword (codes "title") (by_value text_of) f) (keyword (codes "description") (by_value text_of) f) (keyword (codes "default") (by_value kept) f)
      (keyword (codes "const") (by_value kept) f) (keyword (codes "type") (by_value types_of) f) (keyword (codes "format") (by_value text_of) f)
      (keyword (codes "enum") (by_value kept_list) f) (numbers_of f) (texts_of f) (keyword (codes "$ref") (by_value text_of) f)
      make_plain (λ t d v c u x w e m y s q. (x, y)) h g

-- ---- what isn't told

abbrev NoneOf : (Row → Bool) → List Row → Type 0
NoneOf g [] = Unit {0}
NoneOf g (r ∷ rs) = (g r ≡ false) × NoneOf g rs

none-any : (g : Row → Bool) (rs : List Row) → list_any g rs ≡ false → NoneOf g rs
none-any g [] h = tt
none-any g (r ∷ rs) h = by (g r) (list_any g rs) refl h (none-any g rs)
  where
    by : (a b : Bool) → g r ≡ a → (a || b) ≡ false → (b ≡ false → NoneOf g rs) → (g r ≡ false) × NoneOf g rs
    by true b e h f = absurd (true_false h)
      where
        true_false : true ≡ false → ⊥
        true_false e = cc
    by false b e h f = (e, f h)

unmarked : (b : Bool) → is_empty (mark_if b) ≡ true → b ≡ false
unmarked true h = sym h
unmarked false h = refl

own-keywords : (at_root : Bool) (k : List ℕ) (ms : Members) → is_empty (float_marks at_root k (value.object ms)) ≡ true → IfThere ProperPlain (plain_of (lookup_of (member_readings ms)))
own-keywords at_root k ms h =
    let none = none-any (λ r. if_present (is_float r.1) (member_at r.0 ms)) keywords (unmarked (some_keyword is_float (value.object ms)) h) in
    let types : if_present (is_float TypeNames) (member_at (codes "type") ms) ≡ false = none.1.1.1.1.1.1.1.1.1.1.1.1.1.1.1.1.1.1.1.1.1.1.1.1.1.1.1.1.1.1.1.1.1.0 in
    plain-proper (lookup_of (member_readings ms))
    (at-keyword ms (codes "type") types_of ProperTypes (λ v e. subst (λ w. IfThere ProperTypes (types_of w)) (sym (whole-is v)) (types-proper v (sym (ap (if_present (is_float TypeNames)) e) ∙ types))))
    (numbers-proper (lookup_of (member_readings ms)) (at-keyword ms (codes "multipleOf") multiple_of (λ m. 1 ≤ m) (λ v e. multiple-proper (reading v).whole)))

pub read_documents_may_merge : ReadDocumentsMayMerge
read_documents_may_merge d w =
    let v = w.value in
    let quiet = sym (empty-told float_marks (schemas_of v)) ∙ ap is_empty w.read.readable.1 in
    subst (IfThere ProperDocument) w.read.read (document_has ProperPlain float_marks own-keywords w.setting v quiet)
