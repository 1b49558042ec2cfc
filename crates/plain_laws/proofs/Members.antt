-- What the shapes of enums say of plain members of `oneOf`: texts, and objects.
use Rattle.std.proofs.Common.{◌≡◌, List, [], ◌∷◌, map, Bool, true, false, ◌&&◌, ◌||◌, Option, Some, None, is_none, option_map, option_and_then, refl, sym, ap, ◌∙◌, ◌⊎◌, inl, inr, bytes_eq}
use Rattle.std.specs.Prelude.{if◌then◌else◌}
use Rattle.std.specs.List.{list_all}
use Rattle.json_value.specs.Value as value
use Rattle.json_value.specs.Value.{Value, null, text}
use Rattle.schema_defs.specs.declared.InstanceType.TheVariants.{Object, Text}
use Rattle.schema_defs.specs.Schema.{Types, one_type, Plain, Schema, boolean, object, Same, no_same, Lists, no_lists, Named, no_named, named, MaybeSchema, no_schema, the_schema, Properties, no_properties, property, MemberRules, Document}
use Rattle.schema_defs.specs.Counts.{has_properties}
use Rattle.schema_defs.specs.Layer.{property_at, is_given}
use Rattle.enum_defs.specs.Words.{Name, has_type, without_same, without_lists, as_text, all_some, all_differ, is_name, names_of, props_of, required_of}
use Rattle.enum_defs.specs.Shapes.{text_case, ObjectShape, closed_by, closedness, members_of, object_shape, text_cases, external_cases, constant_text}
use Rattle.enum_defs.specs.Shapes as shapes
use Rattle.convert_defs.specs.Table.{has_text_keywords}
use Rattle.convert_defs.proofs.Bare.{and_left, and_right, impossible, is-none, has_type-is, no-lists, some-same, none-some}
use Rattle.plain_defs.specs.Words as plain
use Rattle.plain_defs.specs.Words.{types_at_most, is_only, without_schemas, distinct_texts, enumeration, constant, named_text, the_one, is_uncounted, is_empty, is_flag, is_false, is_shut, is_closed}
use Rattle.plain_defs.specs.Rows.{Inner, are_within, holds_fields, has_flag, is_shut_alone, plain_struct}
use Rattle.plain_laws.proofs.Facts.{either, no-same, only, AtMost, at-most, Schemaless, schemaless, written}
use Rattle.plain_laws.proofs.Tree.{IsUnwalked}

-- ---- texts

-- a member that lists these texts and says nothing else
pub record IsTexts (s : Schema) (ts : List Name) : Type 0 where
  pub cases : external_cases s ≡ Some (map text_case ts)
  pub shape : object_shape s ≡ None
  pub unruled : has_text_keywords s ≡ false
  pub unwalked : IsUnwalked s

distinct-is : (o : Option (List Value)) (ts : List Name) → distinct_texts o ≡ Some ts → (vs : List Value) × (o ≡ Some vs) × (all_some as_text vs ≡ Some ts)
distinct-is None ts h = none-some ts h
distinct-is (Some []) ts h = none-some ts h
distinct-is (Some (v ∷ vs)) ts h = (v ∷ vs, refl, by (all_some as_text (v ∷ vs)) h)
  where
    by : (o : Option (List Name)) → option_and_then (λ ts. if all_differ ts then Some ts else None) o ≡ Some ts → o ≡ Some ts
    by None h = none-some ts h
    by (Some us) h = by-2 (all_differ us) h
      where
        by-2 : (b : Bool) → (if b then Some us else None) ≡ Some ts → Some us ≡ Some ts
        by-2 true h = h
        by-2 false h = none-some ts h

if-is : {A : Type 0} (b : Bool) (o : Option A) (x : A) → (if b then o else None) ≡ Some x → (b ≡ true) × (o ≡ Some x)
if-is true o x h = (refl, h)
if-is false o x h = none-some x h

pub listed-texts : (s : Schema) (ts : List Name) → enumeration s ≡ Some ts → IsTexts s ts
listed-texts (boolean b) ts h = none-some ts h
listed-texts (object p ss ls ns) ts h =
    let q : Plain = record p { enum_values = None } in
    let i = if-is (is_only Text q && without_schemas ss ls ns) (distinct_texts p.enum_values) ts h in
    let n = only q Text (and_left (is_only Text q) _ i.0) in
    let m = n.most in
    let g = schemaless ss ls ns (and_right (is_only Text q) _ i.0) in
    let l = distinct-is p.enum_values ts i.1 in
    let same : object p ss ls ns ≡ object (written p.title p.description (Some (one_type Text)) None (Some l.0) None None None None) no_same no_lists no_named =
    λ i. object (record { title = p.title; description = p.description; default = m.default i; const_value = m.const_value i; types = n.types i; format = m.format i; enum_values = l.1 i; numbers = m.numbers i; texts = m.texts i; reference = m.reference i; walk = m.walk i }) (g.same i) (g.lists i) (g.named i) in
    record {
      cases = ap external_cases same ∙ ap (λ o. shapes.or_else (option_map (map text_case) o) None) l.2;
      shape = ap object_shape same;
      unruled = ap has_text_keywords same;
      unwalked = m.walk;
    }

text-is : (o : Option Value) (t : Name) → option_and_then as_text o ≡ Some t → o ≡ Some (text t)
text-is None t h = none-some t h
text-is (Some (text s)) t h = ap (λ n. Some (text n)) (some-same s t h)
text-is (Some null) t h = none-some t h
text-is (Some (value.boolean b)) t h = none-some t h
text-is (Some (value.number z)) t h = none-some t h
text-is (Some value.fraction) t h = none-some t h
text-is (Some (value.list xs)) t h = none-some t h
text-is (Some (value.object ms)) t h = none-some t h

pub constant-texts : (s : Schema) (t : Name) → constant s ≡ Some t → IsTexts s (t ∷ [])
constant-texts (boolean b) t h = none-some t h
constant-texts (object p ss ls ns) t h =
    let q : Plain = record p { const_value = None } in
    let i = if-is ((is_none p.types || has_type Text p.types) && (types_at_most q && without_schemas ss ls ns)) (option_and_then as_text p.const_value) t h in
    let a = and_right (is_none p.types || has_type Text p.types) _ i.0 in
    by (at-most q (and_left (types_at_most q) _ a)) (schemaless ss ls ns (and_right (types_at_most q) _ a)) (text-is p.const_value t i.1) (either (is_none p.types) (has_type Text p.types) (and_left (is_none p.types || has_type Text p.types) _ i.0))
  where
    by-types : AtMost (record p { const_value = None }) → Schemaless ss ls ns → p.const_value ≡ Some (text t) → (k : Option Types) → p.types ≡ k → object p ss ls ns ≡ object (written p.title p.description k None None None None None (Some (text t))) no_same no_lists no_named
    by-types m g c k e = λ i. object (record { title = p.title; description = p.description; default = m.default i; const_value = c i; types = e i; format = m.format i; enum_values = m.enum_values i; numbers = m.numbers i; texts = m.texts i; reference = m.reference i; walk = m.walk i }) (g.same i) (g.lists i) (g.named i)

    by : AtMost (record p { const_value = None }) → Schemaless ss ls ns → p.const_value ≡ Some (text t) → (is_none p.types ≡ true) ⊎ (has_type Text p.types ≡ true) → IsTexts (object p ss ls ns) (t ∷ [])
    by m g c (inl k) = let same = by-types m g c None (is-none p.types k) in record { cases = ap external_cases same; shape = ap object_shape same; unruled = ap has_text_keywords same; unwalked = m.walk }
    by m g c (inr k) = let same = by-types m g c (Some (one_type Text)) (has_type-is Text p.types k) in record { cases = ap external_cases same; shape = ap object_shape same; unruled = ap has_text_keywords same; unwalked = m.walk }

-- one text

abbrev differs : Option (List Name) → Bool
differs (Some []) = false
differs _ = true

abbrev has_one : Option (List Name) → Bool
has_one (Some (x ∷ [])) = true
has_one _ = false

abbrev text_or : Name → Option (List Name) → Value
text_or s (Some (x ∷ xs)) = text x
text_or s _ = text s

one-text : (vs : List Value) (t : Name) → all_some as_text vs ≡ Some (t ∷ []) → vs ≡ text t ∷ []
one-text [] t h = impossible (ap (λ o. differs o) h)
one-text (text s ∷ []) t h = ap (λ o. text_or s o ∷ []) h
one-text (text s ∷ v ∷ vs) t h = by (as_text v) (all_some as_text vs) h
  where
    by : (o : Option Name) (x : Option (List Name)) → option_map (λ ys. s ∷ ys) (option_and_then (λ y. option_map (λ ys. y ∷ ys) x) o) ≡ Some (t ∷ []) → text s ∷ v ∷ vs ≡ text t ∷ []
    by None x h = none-some (t ∷ []) h
    by (Some u) None h = none-some (t ∷ []) h
    by (Some u) (Some us) h = impossible (ap (λ o. has_one o) h)
one-text (null ∷ vs) t h = none-some (t ∷ []) h
one-text (value.boolean b ∷ vs) t h = none-some (t ∷ []) h
one-text (value.number z ∷ vs) t h = none-some (t ∷ []) h
one-text (value.fraction ∷ vs) t h = none-some (t ∷ []) h
one-text (value.list xs ∷ vs) t h = none-some (t ∷ []) h
one-text (value.object ms ∷ vs) t h = none-some (t ∷ []) h

listed-constant : (s : Schema) (t : Name) → enumeration s ≡ Some (t ∷ []) → constant_text s ≡ Some t
listed-constant (boolean b) t h = none-some (t ∷ []) h
listed-constant (object p ss ls ns) t h =
    let q : Plain = record p { enum_values = None } in
    let i = if-is (is_only Text q && without_schemas ss ls ns) (distinct_texts p.enum_values) (t ∷ []) h in
    let n = only q Text (and_left (is_only Text q) _ i.0) in
    let m = n.most in
    let g = schemaless ss ls ns (and_right (is_only Text q) _ i.0) in
    let l = distinct-is p.enum_values (t ∷ []) i.1 in
    λ i. constant_text (object (record { title = p.title; description = p.description; default = m.default i; const_value = m.const_value i; types = n.types i; format = m.format i; enum_values = (l.1 ∙ ap (λ vs. Some vs) (one-text l.0 t l.2)) i; numbers = m.numbers i; texts = m.texts i; reference = m.reference i; walk = m.walk i }) (g.same i) (g.lists i) (g.named i))

constant-constant : (s : Schema) (t : Name) → constant s ≡ Some t → constant_text s ≡ Some t
constant-constant (boolean b) t h = none-some t h
constant-constant (object p ss ls ns) t h =
    let q : Plain = record p { const_value = None } in
    let i = if-is ((is_none p.types || has_type Text p.types) && (types_at_most q && without_schemas ss ls ns)) (option_and_then as_text p.const_value) t h in
    let a = and_right (is_none p.types || has_type Text p.types) _ i.0 in
    by (at-most q (and_left (types_at_most q) _ a)) (schemaless ss ls ns (and_right (types_at_most q) _ a)) (text-is p.const_value t i.1) (either (is_none p.types) (has_type Text p.types) (and_left (is_none p.types || has_type Text p.types) _ i.0))
  where
    with-types : AtMost (record p { const_value = None }) → Schemaless ss ls ns → p.const_value ≡ Some (text t) → (k : Option Types) → p.types ≡ k → object p ss ls ns ≡ object (written p.title p.description k None None None None None (Some (text t))) no_same no_lists no_named
    with-types m g c k e = λ i. object (record { title = p.title; description = p.description; default = m.default i; const_value = c i; types = e i; format = m.format i; enum_values = m.enum_values i; numbers = m.numbers i; texts = m.texts i; reference = m.reference i; walk = m.walk i }) (g.same i) (g.lists i) (g.named i)

    by : AtMost (record p { const_value = None }) → Schemaless ss ls ns → p.const_value ≡ Some (text t) → (is_none p.types ≡ true) ⊎ (has_type Text p.types ≡ true) → constant_text (object p ss ls ns) ≡ Some t
    by m g c (inl k) = ap constant_text (with-types m g c None (is-none p.types k))
    by m g c (inr k) = ap constant_text (with-types m g c (Some (one_type Text)) (has_type-is Text p.types k))

-- a named text is a constant text
pub named-constant : (s : Schema) (t : Name) → named_text s ≡ Some t → constant_text s ≡ Some t
named-constant s t h = by (constant s) refl h
  where
    one : (o : Option (List Name)) → the_one o ≡ Some t → o ≡ Some (t ∷ [])
    one None h = none-some t h
    one (Some []) h = none-some t h
    one (Some (u ∷ [])) h = ap (λ x. Some (x ∷ [])) (some-same u t h)
    one (Some (u ∷ v ∷ us)) h = none-some t h

    by : (o : Option Name) → constant s ≡ o → plain.or_else o (the_one (enumeration s)) ≡ Some t → constant_text s ≡ Some t
    by None e h = listed-constant s t (one (enumeration s) h)
    by (Some u) e h = constant-constant s t (e ∙ h)

-- ---- objects

abbrev pub shape_in : Schema → ObjectShape
shape_in s = record { object = members_of s; closed = is_closed s }

pub record IsObject (s : Schema) : Type 0 where
  pub shape : object_shape s ≡ Some (shape_in s)
  pub texts : text_cases s ≡ None
  pub unruled : has_text_keywords s ≡ false
  pub unwalked : IsUnwalked s
  pub closing : closedness (members_of s) ≡ Some (is_closed s)
  pub within : list_all (λ n. is_name n (names_of (props_of (members_of s)))) (required_of (members_of s)) ≡ true

given-name : (n : Name) (ps : Properties) → is_given (property_at n ps) ≡ is_name n (names_of ps)
given-name n no_properties = refl
given-name n (property k s ps) = by (bytes_eq n k) (given-name n ps)
  where
    by : (b : Bool) → is_given (property_at n ps) ≡ is_name n (names_of ps) → is_given (if b then the_schema s else property_at n ps) ≡ (b || is_name n (names_of ps))
    by true h = refl
    by false h = h

module _ (d : Document) (inner : Inner) where
  all-within : (ns : List Name) (ps : Properties) → are_within d inner ns ps ≡ true → list_all (λ n. is_name n (names_of ps)) ns ≡ true
  all-within [] ps h = refl
  all-within (n ∷ ns) ps h = λ i. (sym (given-name n ps) ∙ and_left (is_given (property_at n ps)) _ h) i && all-within ns ps (and_right (is_given (property_at n ps)) _ h) i

  flag-closes : (rest : MaybeSchema) → is_flag rest ≡ true → closed_by rest ≡ Some (is_false rest)
  flag-closes no_schema h = refl
  flag-closes (the_schema (boolean true)) h = refl
  flag-closes (the_schema (boolean false)) h = refl
  flag-closes (the_schema (object p ss ls ns)) h = impossible h

  false-closes : (rest : MaybeSchema) → is_false rest ≡ true → closed_by rest ≡ Some (is_false rest)
  false-closes no_schema h = impossible h
  false-closes (the_schema (boolean true)) h = impossible h
  false-closes (the_schema (boolean false)) h = refl
  false-closes (the_schema (object p ss ls ns)) h = impossible h

  none-required : (props : Properties) (ns : List Name) → is_empty ns ≡ true → list_all (λ n. is_name n (names_of props)) ns ≡ true
  none-required props [] h = refl
  none-required props (n ∷ ns) h = impossible h

  closes : (props : Properties) (rest : MaybeSchema) (rules : MemberRules) → is_uncounted rules ≡ true → list_all (λ n. is_name n (names_of props)) rules.required ≡ true → closed_by rest ≡ Some (is_false rest)
      → closedness (named props no_properties rest no_schema rules) ≡ Some (is_false rest)
  closes props rest rules u w c = ap (λ b. if b then closed_by rest else None) (λ i. u i && w i) ∙ c

  pub closed-by : (ns : Named) → ((holds_fields d inner ns && has_flag d inner ns) || is_shut_alone d inner ns) ≡ true → closedness ns ≡ Some (is_shut ns)
  closed-by ns h = by ns (either (holds_fields d inner ns && has_flag d inner ns) _ h)
    where
      by-fields : (ns : Named) → holds_fields d inner ns ≡ true → has_flag d inner ns ≡ true → closedness ns ≡ Some (is_shut ns)
      by-fields no_named h g = impossible h
      by-fields (named no_properties no_properties rest no_schema rules) h g = impossible h
      by-fields (named (property k s ps) no_properties rest no_schema rules) h g =
          let a = and_right (is_uncounted rules) _ h in
          closes (property k s ps) rest rules (and_left (is_uncounted rules) _ h) (all-within rules.required (property k s ps) (and_left (are_within d inner rules.required (property k s ps)) _ a)) (flag-closes rest g)
      by-fields (named props no_properties rest (the_schema t) rules) h g = impossible h
      by-fields (named props (property k s ps) rest names rules) h g = impossible h

      by-shut : (ns : Named) → is_shut_alone d inner ns ≡ true → closedness ns ≡ Some (is_shut ns)
      by-shut no_named h = impossible h
      by-shut (named no_properties no_properties rest no_schema rules) h =
          let a = and_left (plain.is_unruled rules) _ h in
          closes no_properties rest rules (and_left (is_uncounted rules) _ a) (none-required no_properties rules.required (and_right (is_uncounted rules) _ a)) (false-closes rest (and_right (plain.is_unruled rules) _ h))
      by-shut (named no_properties no_properties rest (the_schema t) rules) h = impossible h
      by-shut (named no_properties (property k s ps) rest names rules) h = impossible h
      by-shut (named (property k s ps) patterns rest names rules) h = impossible h

      by : (ns : Named) → ((holds_fields d inner ns && has_flag d inner ns) ≡ true) ⊎ (is_shut_alone d inner ns ≡ true) → closedness ns ≡ Some (is_shut ns)
      by ns (inl g) = by-fields ns (and_left (holds_fields d inner ns) _ g) (and_right (holds_fields d inner ns) _ g)
      by ns (inr g) = by-shut ns g

  names-within : (ns : Named) → ((holds_fields d inner ns && has_flag d inner ns) || is_shut_alone d inner ns) ≡ true → list_all (λ n. is_name n (names_of (props_of ns))) (required_of ns) ≡ true
  names-within ns h = by ns (either (holds_fields d inner ns && has_flag d inner ns) _ h)
    where
      by-fields : (ns : Named) → holds_fields d inner ns ≡ true → list_all (λ n. is_name n (names_of (props_of ns))) (required_of ns) ≡ true
      by-fields no_named h = refl
      by-fields (named props no_properties rest no_schema rules) h = all-within rules.required props (and_left (are_within d inner rules.required props) _ (and_right (is_uncounted rules) _ (and_right (has_properties props) _ h)))
      by-fields (named props no_properties rest (the_schema t) rules) h = impossible h
      by-fields (named props (property k s ps) rest names rules) h = impossible h

      by-shut : (ns : Named) → is_shut_alone d inner ns ≡ true → list_all (λ n. is_name n (names_of (props_of ns))) (required_of ns) ≡ true
      by-shut no_named h = refl
      by-shut (named no_properties no_properties rest no_schema rules) h = none-required no_properties rules.required (and_right (is_uncounted rules) _ (and_left (plain.is_unruled rules) _ h))
      by-shut (named no_properties no_properties rest (the_schema t) rules) h = impossible h
      by-shut (named no_properties (property k s ps) rest names rules) h = impossible h
      by-shut (named (property k s ps) patterns rest names rules) h = impossible h

      by : (ns : Named) → ((holds_fields d inner ns && has_flag d inner ns) ≡ true) ⊎ (is_shut_alone d inner ns ≡ true) → list_all (λ n. is_name n (names_of (props_of ns))) (required_of ns) ≡ true
      by ns (inl g) = by-fields ns (and_left (holds_fields d inner ns) _ g)
      by ns (inr g) = by-shut ns g

  pub object-is : (p : Plain) (ss : Same) (ls : Lists) (ns : Named) (b : Bool) → (is_only Object p && (without_same ss && (without_lists ls && b))) ≡ true
      → object p ss ls ns ≡ object (written p.title p.description (Some (one_type Object)) None None None None None None) no_same no_lists ns
  object-is p ss ls ns t h =
      let n = only p Object (and_left (is_only Object p) _ h) in
      let m = n.most in
      let a = and_right (is_only Object p) _ h in
      let s = no-same ss (and_left (without_same ss) _ a) in
      let l = no-lists ls (and_left (without_lists ls) _ (and_right (without_same ss) _ a)) in
      λ i. object (record { title = p.title; description = p.description; default = m.default i; const_value = m.const_value i; types = n.types i; format = m.format i; enum_values = m.enum_values i; numbers = m.numbers i; texts = m.texts i; reference = m.reference i; walk = m.walk i }) (s i) (l i) ns

  pub is-object : (s : Schema) → plain_struct d inner s ≡ true → IsObject s
  is-object (boolean b) h = impossible h
  is-object (object p ss ls ns) h =
      let same = object-is p ss ls ns ((holds_fields d inner ns && has_flag d inner ns) || is_shut_alone d inner ns) h in
      let c = closed-by ns (and_right (without_lists ls) _ (and_right (without_same ss) _ (and_right (is_only Object p) _ h))) in
      record {
        shape = ap object_shape same ∙ ap (option_map (λ b. record { object = ns; closed = b })) c;
        texts = ap text_cases same;
        unruled = ap has_text_keywords same;
        unwalked = (at-most p (and_right (has_type Object p.types) _ (and_left (is_only Object p) _ h))).walk;
        closing = c;
        within = names-within ns (and_right (without_lists ls) _ (and_right (without_same ss) _ (and_right (is_only Object p) _ h)));
      }
