-- No row is a null schema.
use Rattle.std.proofs.Common.{◌≡◌, ℕ, Bool, true, false, ◌&&◌, ◌||◌, Option, Some, None, is_none, is_some, option_and_then, refl, sym, ap, ◌∙◌, ◌⊎◌, inl, inr, length, nat_le}
use Rattle.std.specs.Prelude.{if◌then◌else◌}
use Rattle.json_value.specs.Value.{Value, text}
use Rattle.schema_defs.specs.declared.InstanceType.{InstanceType}
use Rattle.schema_defs.specs.declared.InstanceType.TheVariants.{Null, Boolean, Object, Array, Text, Integer}
use Rattle.schema_defs.specs.Schema.{one_type, Plain, Schema, boolean, object, Same, Lists, Named, Document}
use Rattle.enum_defs.specs.Words.{has_type, same_type, without_lists, without_named, as_text}
use Rattle.enum_defs.specs.Shapes.{null_by, is_null_schema}
use Rattle.convert_defs.proofs.Bare.{and_left, and_right, impossible, is-none, has_type-is}
use Rattle.plain_defs.specs.Words.{types_at_most, says_nothing, is_only, without_schemas, distinct_texts, enumeration, constant, named_text, the_one}
use Rattle.plain_defs.specs.Rows.{Inner, plain_any, plain_boolean, plain_integer, sized_text, formatted_text, plain_text, plain_list, plain_tuple, plain_map, plain_struct, plain_typed, plain_reference, one_of, plain_tagged, plain_cases, plain_kinds, plain_row}
use Rattle.plain_laws.proofs.Facts.{none-of, either, if-some, else-some, one-some, nothing, only, AtMost, at-most}

module _ (d : Document) (inner : Inner) where
  typed-not-null : (k : InstanceType) (p : Plain) (ss : Same) (ls : Lists) (ns : Named) → same_type Null k ≡ false → p.types ≡ Some (one_type k) → is_null_schema (object p ss ls ns) ≡ false
  typed-not-null k p ss ls ns h e = ap (λ o. null_by o p.const_value p.enum_values) e ∙ h

  -- a type beside which any keyword may stand
  of-type : (k : InstanceType) (p q : Plain) (ss : Same) (ls : Lists) (ns : Named) (b : Bool) → same_type Null k ≡ false → q.types ≡ p.types → (is_only k q && b) ≡ true → is_null_schema (object p ss ls ns) ≡ false
  of-type k p q ss ls ns b h e g = typed-not-null k p ss ls ns h (sym e ∙ (only q k (and_left (is_only k q) b g)).types)

  untyped-not-null : (p q : Plain) (ss : Same) (ls : Lists) (ns : Named) → q.types ≡ p.types → q.const_value ≡ p.const_value → q.enum_values ≡ p.enum_values → says_nothing q ≡ true → is_null_schema (object p ss ls ns) ≡ false
  untyped-not-null p q ss ls ns a b c h = let n = nothing q h in λ i. null_by ((sym a ∙ n.types) i) ((sym b ∙ n.most.const_value) i) ((sym c ∙ n.most.enum_values) i)

  pub constant-not-null : (s : Schema) → is_some (constant s) ≡ true → is_null_schema s ≡ false
  constant-not-null (boolean b) h = refl
  constant-not-null (object p ss ls ns) h =
      let q : Plain = record p { const_value = None } in
      let i = if-some ((is_none p.types || has_type Text p.types) && (types_at_most q && without_schemas ss ls ns)) (option_and_then as_text p.const_value) h in
      let a = and_right (is_none p.types || has_type Text p.types) _ i.0 in
      by (at-most q (and_left (types_at_most q) _ a)) p.const_value refl i.1 (either (is_none p.types) (has_type Text p.types) (and_left (is_none p.types || has_type Text p.types) _ i.0))
    where
      by : AtMost (record p { const_value = None }) → (o : Option Value) → p.const_value ≡ o → is_some (option_and_then as_text o) ≡ true → (is_none p.types ≡ true) ⊎ (has_type Text p.types ≡ true) → is_null_schema (object p ss ls ns) ≡ false
      by m o e h (inr k) = ap (λ t. null_by t p.const_value p.enum_values) (has_type-is Text p.types k)
      by m None e h (inl k) = impossible h
      by m (Some (text s)) e h (inl k) = λ i. null_by (is-none p.types k i) (e i) p.enum_values
      by m (Some _) e h (inl k) = impossible h

  pub enumeration-not-null : (s : Schema) → is_some (enumeration s) ≡ true → is_null_schema s ≡ false
  enumeration-not-null (boolean b) h = refl
  enumeration-not-null (object p ss ls ns) h =
      let q : Plain = record p { enum_values = None } in
      let i = if-some (is_only Text q && without_schemas ss ls ns) (distinct_texts p.enum_values) h in
      of-type Text p q ss ls ns _ refl refl i.0

  named-not-null : (s : Schema) → is_some (named_text s) ≡ true → is_null_schema s ≡ false
  named-not-null s h = by (else-some (constant s) (the_one (enumeration s)) h)
    where
      by : (is_some (constant s) ≡ true) ⊎ (is_some (the_one (enumeration s)) ≡ true) → is_null_schema s ≡ false
      by (inl k) = constant-not-null s k
      by (inr k) = enumeration-not-null s (one-some (enumeration s) k)

  null-any : (s : Schema) → plain_any d inner s ≡ true → is_null_schema s ≡ false
  null-any (boolean b) h = refl
  null-any (object p ss ls ns) h = untyped-not-null p p ss ls ns refl refl refl (and_left (says_nothing p) _ h)

  null-boolean : (s : Schema) → plain_boolean d inner s ≡ true → is_null_schema s ≡ false
  null-boolean (boolean b) h = refl
  null-boolean (object p ss ls ns) h = of-type Boolean p p ss ls ns _ refl refl h

  null-integer : (s : Schema) → plain_integer d inner s ≡ true → is_null_schema s ≡ false
  null-integer (boolean b) h = refl
  null-integer (object p ss ls ns) h = of-type Integer p (record p { format = None; numbers = None }) ss ls ns _ refl refl h

  sized-not-null : (s : Schema) → sized_text d inner s ≡ true → is_null_schema s ≡ false
  sized-not-null (boolean b) h = refl
  sized-not-null (object p ss ls ns) h = of-type Text p (record p { texts = None }) ss ls ns _ refl refl h

  formatted-not-null : (s : Schema) → formatted_text d inner s ≡ true → is_null_schema s ≡ false
  formatted-not-null (boolean b) h = refl
  formatted-not-null (object p ss ls ns) h = of-type Text p (record p { format = None }) ss ls ns _ refl refl h

  null-text : (s : Schema) → plain_text d inner s ≡ true → is_null_schema s ≡ false
  null-text s h = by (either (sized_text d inner s) _ h)
    where
      by-2 : (is_some (enumeration s) ≡ true) ⊎ (is_some (named_text s) ≡ true) → is_null_schema s ≡ false
      by-2 (inl k) = enumeration-not-null s k
      by-2 (inr k) = named-not-null s k

      by-1 : (formatted_text d inner s ≡ true) ⊎ ((is_some (enumeration s) || is_some (named_text s)) ≡ true) → is_null_schema s ≡ false
      by-1 (inl k) = formatted-not-null s k
      by-1 (inr k) = by-2 (either (is_some (enumeration s)) _ k)

      by : (sized_text d inner s ≡ true) ⊎ ((formatted_text d inner s || (is_some (enumeration s) || is_some (named_text s))) ≡ true) → is_null_schema s ≡ false
      by (inl k) = sized-not-null s k
      by (inr k) = by-1 (either (formatted_text d inner s) _ k)

  null-list : (s : Schema) → plain_list d inner s ≡ true → is_null_schema s ≡ false
  null-list (boolean b) h = refl
  null-list (object p ss ls ns) h = of-type Array p p ss ls ns _ refl refl h

  null-tuple : (s : Schema) → plain_tuple d inner s ≡ true → is_null_schema s ≡ false
  null-tuple (boolean b) h = refl
  null-tuple (object p ss ls ns) h = of-type Array p p ss ls ns _ refl refl h

  null-map : (s : Schema) → plain_map d inner s ≡ true → is_null_schema s ≡ false
  null-map (boolean b) h = refl
  null-map (object p ss ls ns) h = of-type Object p p ss ls ns _ refl refl h

  pub null-struct : (s : Schema) → plain_struct d inner s ≡ true → is_null_schema s ≡ false
  null-struct (boolean b) h = refl
  null-struct (object p ss ls ns) h = of-type Object p p ss ls ns _ refl refl h

  null-reference : (s : Schema) → plain_reference d inner s ≡ true → is_null_schema s ≡ false
  null-reference (boolean b) h = refl
  null-reference (object p ss ls ns) h = untyped-not-null p (record p { reference = None }) ss ls ns refl refl refl (and_left (says_nothing (record p { reference = None })) _ h)

  null-choice : (n : ℕ) (s : Schema) → nat_le n 0 ≡ false → nat_le n (length (one_of d inner s)) ≡ true → is_null_schema s ≡ false
  null-choice n (boolean b) e h = refl
  null-choice n (object p ss ls ns) e h = untyped-not-null p p ss ls ns refl refl refl (and_left (says_nothing p) _ (none-of (says_nothing p && (without_lists ls && without_named ns)) _ n e h))

  pub row-cases : (Q : Type 0) (s : Schema) → plain_row d inner s ≡ true → (plain_any d inner s ≡ true → Q) → (plain_typed d inner s ≡ true → Q) → (plain_reference d inner s ≡ true → Q) → (plain_tagged d inner s ≡ true → Q) → (plain_cases d inner s ≡ true → Q) → (plain_kinds d inner s ≡ true → Q) → Q
  row-cases Q s h a b c e f g = by-1 (either (plain_any d inner s) _ h)
    where
      by-5 : (plain_cases d inner s ≡ true) ⊎ (plain_kinds d inner s ≡ true) → Q
      by-5 (inl k) = f k
      by-5 (inr k) = g k

      by-4 : (plain_tagged d inner s ≡ true) ⊎ ((plain_cases d inner s || plain_kinds d inner s) ≡ true) → Q
      by-4 (inl k) = e k
      by-4 (inr k) = by-5 (either (plain_cases d inner s) _ k)

      by-3 : (plain_reference d inner s ≡ true) ⊎ ((plain_tagged d inner s || (plain_cases d inner s || plain_kinds d inner s)) ≡ true) → Q
      by-3 (inl k) = c k
      by-3 (inr k) = by-4 (either (plain_tagged d inner s) _ k)

      by-2 : (plain_typed d inner s ≡ true) ⊎ ((plain_reference d inner s || (plain_tagged d inner s || (plain_cases d inner s || plain_kinds d inner s))) ≡ true) → Q
      by-2 (inl k) = b k
      by-2 (inr k) = by-3 (either (plain_reference d inner s) _ k)

      by-1 : (plain_any d inner s ≡ true) ⊎ ((plain_typed d inner s || (plain_reference d inner s || (plain_tagged d inner s || (plain_cases d inner s || plain_kinds d inner s)))) ≡ true) → Q
      by-1 (inl k) = a k
      by-1 (inr k) = by-2 (either (plain_typed d inner s) _ k)

  pub typed-cases : (Q : Type 0) (s : Schema) → plain_typed d inner s ≡ true → (plain_boolean d inner s ≡ true → Q) → (plain_integer d inner s ≡ true → Q) → (plain_text d inner s ≡ true → Q) → (plain_list d inner s ≡ true → Q) → (plain_tuple d inner s ≡ true → Q) → (plain_map d inner s ≡ true → Q) → (plain_struct d inner s ≡ true → Q) → Q
  typed-cases Q s h a b c e f g k = by-1 (either (plain_boolean d inner s) _ h)
    where
      by-6 : (plain_map d inner s ≡ true) ⊎ (plain_struct d inner s ≡ true) → Q
      by-6 (inl x) = g x
      by-6 (inr x) = k x

      by-5 : (plain_tuple d inner s ≡ true) ⊎ ((plain_map d inner s || plain_struct d inner s) ≡ true) → Q
      by-5 (inl x) = f x
      by-5 (inr x) = by-6 (either (plain_map d inner s) _ x)

      by-4 : (plain_list d inner s ≡ true) ⊎ ((plain_tuple d inner s || (plain_map d inner s || plain_struct d inner s)) ≡ true) → Q
      by-4 (inl x) = e x
      by-4 (inr x) = by-5 (either (plain_tuple d inner s) _ x)

      by-3 : (plain_text d inner s ≡ true) ⊎ ((plain_list d inner s || (plain_tuple d inner s || (plain_map d inner s || plain_struct d inner s))) ≡ true) → Q
      by-3 (inl x) = c x
      by-3 (inr x) = by-4 (either (plain_list d inner s) _ x)

      by-2 : (plain_integer d inner s ≡ true) ⊎ ((plain_text d inner s || (plain_list d inner s || (plain_tuple d inner s || (plain_map d inner s || plain_struct d inner s)))) ≡ true) → Q
      by-2 (inl x) = b x
      by-2 (inr x) = by-3 (either (plain_text d inner s) _ x)

      by-1 : (plain_boolean d inner s ≡ true) ⊎ ((plain_integer d inner s || (plain_text d inner s || (plain_list d inner s || (plain_tuple d inner s || (plain_map d inner s || plain_struct d inner s))))) ≡ true) → Q
      by-1 (inl x) = a x
      by-1 (inr x) = by-2 (either (plain_integer d inner s) _ x)

  pub row-not-null : (s : Schema) → plain_row d inner s ≡ true → is_null_schema s ≡ false
  row-not-null s h = row-cases (is_null_schema s ≡ false) s h (null-any s) (λ k. typed-cases (is_null_schema s ≡ false) s k (null-boolean s) (null-integer s) (null-text s) (null-list s) (null-tuple s) (null-map s) (null-struct s)) (null-reference s)
      (λ k. null-choice 2 s refl (and_left (nat_le 2 (length (one_of d inner s))) _ k)) (λ k. null-choice 1 s refl (and_left (nat_le 1 (length (one_of d inner s))) _ k)) (λ k. null-choice 2 s refl (and_left (nat_le 2 (length (one_of d inner s))) _ k))
