-- Optional properties that may be null.
use Rattle.std.proofs.Common.{◌≡◌, ℕ, zero, suc, List, [], ◌∷◌, ◌++◌, filter, drop, length, Bool, true, false, ◌&&◌, ◌||◌, not, Option, Some, None, is_none, is_some, option_map, option_and_then, refl, sym, ap, ◌∙◌, subst, ◌==◌, codes, ◌⊎◌, inl, inr}
use Rattle.std.specs.Prelude.{if◌then◌else◌, nat_eq}
use Prim.Native.String.{String}
use Rattle.std.specs.List.{list_all, list_any}
use Rattle.json_value.specs.Value.{Value}
use Rattle.schema_defs.specs.declared.InstanceType.{InstanceType}
use Rattle.schema_defs.specs.declared.InstanceType.TheVariants.{Null, Boolean, Object, Array, Text, Integer}
use Rattle.schema_defs.specs.Texts.{Relations}
use Rattle.schema_defs.specs.Location.{Location, place}
use Rattle.schema_defs.specs.Schema.{one_type, Plain, Schema, boolean, object, Same, no_same, same_value, Lists, no_lists, Named, no_named, no_schema, the_schema, no_list, the_list, no_more, schema, Document}
use Rattle.enum_defs.specs.Words.{has_type, same_type, without_same, without_lists, without_named, as_text}
use Rattle.enum_defs.specs.Shapes.{is_null_schema, the_only}
use Rattle.enum_defs.specs.Kinds.{null_free}
use Rattle.model_defs.specs.Layer.{is_null}
use Rattle.entry_defs.specs.Entry.{unit_entry}
use Rattle.convert_defs.specs.Row.{Part, made, noted, leaf_row, option_row, here, widened, null_note}
use Rattle.convert_defs.specs.IntegerRow.{note_if}
use Rattle.convert_defs.specs.Scalars.{less_null}
use Rattle.convert_defs.specs.Shapes.{Member, is_plain_null, option_member}
use Rattle.convert_defs.specs.Table.{first_line, lines, finding_of, type_beside_null, beside_null, lists_only_nulls, lists_no_null, nullable, nullable_notes, any_of_others, any_of_finding, one_of_option, one_of_finding, odd_nulls, member_part, one_null_member}
use Rattle.convert_defs.specs.Standing.{of_type, words_or}
use Rattle.convert_defs.proofs.Bare.{and_left, and_right, impossible, is-none, no-lists, no-named, none-some, same_type-eq}
use Rattle.plain_defs.specs.Words as plain
use Rattle.plain_defs.specs.Words.{says_nothing, is_only, without_schemas, distinct_texts, enumeration, constant, named_text, the_one, lists_null_once}
use Rattle.plain_defs.specs.Rows.{Inner, rows_within, plain_any, plain_boolean, plain_integer, sized_text, formatted_text, plain_text, plain_typed, plain_row, with_null, is_null_alone, is_row_and_null, has_row_and_null, plain_option}
use Rattle.plain_laws.proofs.Facts.{either, if-some, else-some, one-some, no-same, nothing, only, at-most, schemaless, written}
use Rattle.plain_laws.proofs.Tree.{IsForm, a_row, FindingFits, Fits}
use Rattle.plain_laws.proofs.Findings.{finding-fits, fits-as}
use Rattle.plain_laws.proofs.NotNull.{typed-cases, row-not-null}

pub or-first : (a b : Bool) → a ≡ true → (a || b) ≡ true
or-first true b h = refl
or-first false b h = impossible h

pub or-second : (a b : Bool) → b ≡ true → (a || b) ≡ true
or-second true b h = refl
or-second false b h = h

module _ (r : Relations) (d : Document) (most : ℕ) (j : ℕ) where
  abbrev inner : Inner
  inner = rows_within d j

  abbrev Good : Schema → Type 0
  Good s = Fits r d most true j s

  -- ---- a type list

  -- what is known of a schema that is a row with one type, and without null among its listed values
  pub record OfOne (k : InstanceType) (p : Plain) (ss : Same) : Type 0 where
    pub default : p.default ≡ None
    pub walk : p.walk ≡ None
    pub reference : p.reference ≡ None
    pub same : ss ≡ no_same
    pub other : same_type Null k ≡ false
    pub listed : lists_only_nulls p.enum_values ≡ false

  unlisted : (o : Option (List Value)) → option_map (filter (λ v. not (is_null v))) o ≡ None → lists_only_nulls o ≡ false
  unlisted None h = refl
  unlisted (Some vs) h = none-some _ (sym h)

  not-all-null : (vs : List Value) → is_some (distinct_texts (Some (filter (λ v. not (is_null v)) vs))) ≡ true → list_all is_null vs ≡ false
  not-all-null [] h = impossible h
  not-all-null (v ∷ vs) h = by (is_null v) refl h (not-all-null vs)
    where
      by : (b : Bool) → is_null v ≡ b → is_some (distinct_texts (Some (if not b then v ∷ filter (λ w. not (is_null w)) vs else filter (λ w. not (is_null w)) vs))) ≡ true
          → (is_some (distinct_texts (Some (filter (λ w. not (is_null w)) vs))) ≡ true → list_all is_null vs ≡ false) → (is_null v && list_all is_null vs) ≡ false
      by true e h f = ap (λ b. b && list_all is_null vs) e ∙ f h
      by false e h f = ap (λ b. b && list_all is_null vs) e

  listed-some : (o : Option (List Value)) → is_some (distinct_texts (option_map (filter (λ v. not (is_null v))) o)) ≡ true → lists_only_nulls o ≡ false
  listed-some None h = impossible h
  listed-some (Some vs) h = not-all-null vs h

  module _ (k : InstanceType) (p : Plain) (ss : Same) (ls : Lists) (ns : Named) (c : is_none p.const_value ≡ true) where
    abbrev one : Plain
    one = plain.less_null k p

    not-null : (l : InstanceType) → same_type Null l ≡ false → has_type l (Some (one_type k)) ≡ true → same_type Null k ≡ false
    not-null l e h = ap (same_type Null) (same_type-eq l k h) ∙ e

    -- a row of that type where nothing is listed
    by-type : (l : InstanceType) (q : Plain) (b : Bool) → same_type Null l ≡ false → (is_only l q && b) ≡ true → q.types ≡ one.types → q.default ≡ p.default → q.walk ≡ p.walk → q.reference ≡ p.reference → ss ≡ no_same → lists_only_nulls p.enum_values ≡ false → OfOne k p ss
    by-type l q b e h t f w u s v =
        let n = and_left (is_only l q) b h in
        let m = at-most q (and_right (has_type l q.types) _ n) in
        record { default = sym f ∙ m.default; walk = sym w ∙ m.walk; reference = sym u ∙ m.reference; same = s; other = not-null l e (ap (has_type l) (sym t) ∙ and_left (has_type l q.types) _ n); listed = v }

    full : (l : InstanceType) (b : Bool) → (is_only l one && b) ≡ true → lists_only_nulls p.enum_values ≡ false
    full l b h = unlisted p.enum_values (at-most one (and_right (has_type l one.types) _ (and_left (is_only l one) b h))).enum_values

    of-boolean : plain_boolean d inner (object one ss ls ns) ≡ true → OfOne k p ss
    of-boolean h = by-type Boolean one _ refl h refl refl refl refl (schemaless ss ls ns (and_right (is_only Boolean one) _ h)).same (full Boolean _ h)

    of-integer : plain_integer d inner (object one ss ls ns) ≡ true → OfOne k p ss
    of-integer h =
        let q : Plain = record one { format = None; numbers = None } in
        let a = and_right (is_only Integer q) _ h in
        by-type Integer q _ refl h refl refl refl refl (schemaless ss ls ns (and_right _ (without_schemas ss ls ns) (and_right _ _ a))).same (unlisted p.enum_values (at-most q (and_right (has_type Integer q.types) _ (and_left (is_only Integer q) _ h))).enum_values)

    of-sized : sized_text d inner (object one ss ls ns) ≡ true → OfOne k p ss
    of-sized h =
        let q : Plain = record one { texts = None } in
        by-type Text q _ refl h refl refl refl refl (schemaless ss ls ns (and_right _ (without_schemas ss ls ns) (and_right (is_only Text q) _ h))).same (unlisted p.enum_values (at-most q (and_right (has_type Text q.types) _ (and_left (is_only Text q) _ h))).enum_values)

    of-formatted : formatted_text d inner (object one ss ls ns) ≡ true → OfOne k p ss
    of-formatted h =
        let q : Plain = record one { format = None } in
        by-type Text q _ refl h refl refl refl refl (schemaless ss ls ns (and_right _ (without_schemas ss ls ns) (and_right (is_only Text q) _ h))).same (unlisted p.enum_values (at-most q (and_right (has_type Text q.types) _ (and_left (is_only Text q) _ h))).enum_values)

    of-listed : is_some (enumeration (object one ss ls ns)) ≡ true → OfOne k p ss
    of-listed h =
        let q : Plain = record one { enum_values = None } in
        let i = if-some (is_only Text q && without_schemas ss ls ns) (distinct_texts one.enum_values) h in
        by-type Text q _ refl i.0 refl refl refl refl (schemaless ss ls ns (and_right (is_only Text q) _ i.0)).same (listed-some p.enum_values i.1)

    no-constant : (o : Option Value) → is_none o ≡ true → is_some (option_and_then as_text o) ≡ true → OfOne k p ss
    no-constant None h g = impossible g
    no-constant (Some v) h g = impossible h

    of-named : is_some (named_text (object one ss ls ns)) ≡ true → OfOne k p ss
    of-named h = by (else-some (constant (object one ss ls ns)) (the_one (enumeration (object one ss ls ns))) h)
      where
        by : (is_some (constant (object one ss ls ns)) ≡ true) ⊎ (is_some (the_one (enumeration (object one ss ls ns))) ≡ true) → OfOne k p ss
        by (inl g) = no-constant p.const_value c (if-some _ (option_and_then as_text p.const_value) g).1
        by (inr g) = of-listed (one-some (enumeration (object one ss ls ns)) g)

    of-text : plain_text d inner (object one ss ls ns) ≡ true → OfOne k p ss
    of-text h = by (either (sized_text d inner s) _ h)
      where
        s : Schema
        s = object one ss ls ns

        by-2 : (is_some (enumeration s) ≡ true) ⊎ (is_some (named_text s) ≡ true) → OfOne k p ss
        by-2 (inl g) = of-listed g
        by-2 (inr g) = of-named g

        by-1 : (formatted_text d inner s ≡ true) ⊎ ((is_some (enumeration s) || is_some (named_text s)) ≡ true) → OfOne k p ss
        by-1 (inl g) = of-formatted g
        by-1 (inr g) = by-2 (either (is_some (enumeration s)) _ g)

        by : (sized_text d inner s ≡ true) ⊎ ((formatted_text d inner s || (is_some (enumeration s) || is_some (named_text s))) ≡ true) → OfOne k p ss
        by (inl g) = of-sized g
        by (inr g) = by-1 (either (formatted_text d inner s) _ g)

    of-owner : (l : InstanceType) (b : Bool) → same_type Null l ≡ false → (is_only l one && (without_same ss && b)) ≡ true → OfOne k p ss
    of-owner l b e h = by-type l one _ e h refl refl refl refl (no-same ss (and_left (without_same ss) b (and_right (is_only l one) _ h))) (full l _ h)

    pub of-one : plain_typed d inner (object one ss ls ns) ≡ true → OfOne k p ss
    of-one h = typed-cases d inner (OfOne k p ss) (object one ss ls ns) h of-boolean of-integer of-text (of-owner Array _ refl) (of-owner Array _ refl) (of-owner Object _ refl) (of-owner Object _ refl)

  -- null is listed where values are
  null-listed : (vs : List Value) → (length (filter is_null vs) == 1) ≡ true → list_any is_null vs ≡ true
  null-listed [] h = impossible h
  null-listed (v ∷ vs) h = by (is_null v) refl h (null-listed vs)
    where
      by : (b : Bool) → is_null v ≡ b → (length (if b then v ∷ filter is_null vs else filter is_null vs) == 1) ≡ true → ((length (filter is_null vs) == 1) ≡ true → list_any is_null vs ≡ true) → (is_null v || list_any is_null vs) ≡ true
      by true e h f = ap (λ b. b || list_any is_null vs) e
      by false e h f = ap (λ b. b || list_any is_null vs) e ∙ f h

  some-null : (o : Option (List Value)) → lists_null_once o ≡ true → lists_no_null o ≡ false
  some-null None h = refl
  some-null (Some vs) h = ap not (null-listed vs h)

  option-fits : (k : InstanceType) (p : Plain) (ls : Lists) (ns : Named) → is_none p.const_value ≡ true → lists_null_once p.enum_values ≡ true → OfOne k p no_same → plain_typed d inner (object (plain.less_null k p) no_same ls ns) ≡ true
      → FindingFits r d most true j (noted (nullable_notes p no_same) (nullable p no_same ls ns (Some k)))
  option-fits k p ls ns c l f h =
      subst (λ b. FindingFits r d most true j (noted (nullable_notes p no_same) (if b then leaf_row unit_entry else option_row part))) (sym (λ i. f.listed i || f.other i))
      (finding-fits r d most true j (noted (nullable_notes p no_same) (option_row part))
      (record { notes = λ i. note_if (is_some (is-none p.const_value c i) || is_some (f.reference i) || not true || some-null p.enum_values l i) (here widened null_note); patterns = refl; places = refl; faults = refl; listed = refl; unmerged = refl }) tt
      (ap (plain_row d inner) made-is ∙ or-second (plain_any d inner s) _ (or-first (plain_typed d inner s) _ h), tt))
    where
      s : Schema
      s = object (plain.less_null k p) no_same ls ns

      part : Part
      part = made (object (beside_null (of_type k p)) no_same ls ns)

      made-is : object (beside_null (of_type k p)) no_same ls ns ≡ s
      made-is = λ i. object (record (plain.less_null k p) { default = (ap less_null f.default ∙ sym f.default) i }) no_same ls ns

  listed-row : (p : Plain) (ss : Same) (ls : Lists) (ns : Named) (o : Option InstanceType) → type_beside_null p.types ≡ o → with_null d inner p ss ls ns o ≡ true → Good (object p ss ls ns)
  listed-row p ss ls ns None e h = impossible h
  listed-row p ss ls ns (Some k) e h =
      let c = and_left (is_none p.const_value) _ h in
      let a = and_right (is_none p.const_value) _ h in
      let l = and_left (lists_null_once p.enum_values) _ a in
      let g = and_right (lists_null_once p.enum_values) _ a in
      let f = of-one k p ss ls ns c g in
      record {
        unstated = f.default;
        unwalked = f.walk;
        finding = subst (λ us. FindingFits r d most true j (finding_of r d (object p us ls ns))) (sym f.same) (found f.same c l f g);
      }
    where
      found : ss ≡ no_same → is_none p.const_value ≡ true → lists_null_once p.enum_values ≡ true → OfOne k p ss → plain_typed d inner (object (plain.less_null k p) ss ls ns) ≡ true → FindingFits r d most true j (finding_of r d (object p no_same ls ns))
      found q c l f g =
          subst (λ t. FindingFits r d most true j (if is_some t then noted (nullable_notes p no_same) (nullable p no_same ls ns t) else first_line (drop 2 (lines r d p no_same ls ns)))) (sym e)
          (option-fits k p ls ns c l (subst (OfOne k p) q f) (subst (λ us. plain_typed d inner (object (plain.less_null k p) us ls ns) ≡ true) q g))

  -- ---- a row and null

  abbrev null_schema : Schema
  null_schema = object (written None None (Some (one_type Null)) None None None None None None) no_same no_lists no_named

  null-alone : (s : Schema) → is_null_alone d inner s ≡ true → s ≡ null_schema
  null-alone (boolean b) h = impossible h
  null-alone (object p ss ls ns) h =
      let n = only p Null (and_left (is_only Null p) _ h) in
      let m = n.most in
      let a = and_right (is_only Null p) _ h in
      let b = and_right (is_none p.title) _ a in
      let g = schemaless ss ls ns (and_right (is_none p.description) _ b) in
      λ i. object (record {
        title = is-none p.title (and_left (is_none p.title) _ a) i;
        description = is-none p.description (and_left (is_none p.description) _ b) i;
        default = m.default i;
        const_value = m.const_value i;
        types = n.types i;
        format = m.format i;
        enum_values = m.enum_values i;
        numbers = m.numbers i;
        texts = m.texts i;
        reference = m.reference i;
        walk = m.walk i;
      }) (g.same i) (g.lists i) (g.named i)

  module _ (k l : Location) (s : Schema) (row : inner.row s ≡ true) (free : null_free d s ≡ true) where
    abbrev a : Member
    a = (k, s)

    abbrev n : Member
    n = (l, null_schema)

    unlike-null : is_null_schema s ≡ false
    unlike-null = by j row
      where
        by : (j : ℕ) → (rows_within d j).row s ≡ true → is_null_schema s ≡ false
        by zero h = impossible h
        by (suc i) h = row-not-null d (rows_within d i) s h

    abbrev part-fits : IsForm d j s
    part-fits = a_row row

    any-fits : (ms : List Member) → odd_nulls ms ≡ [] → FindingFits r d most true j (noted (odd_nulls ms) (option_row (member_part a)))
    any-fits ms e = finding-fits r d most true j (noted (odd_nulls ms) (option_row (member_part a))) (record { notes = e; patterns = refl; places = refl; faults = refl; listed = refl; unmerged = refl }) tt (part-fits, tt)

    one-fits : (ms : List Member) → odd_nulls ms ≡ [] → one_null_member ms ≡ true → FindingFits r d most true j (noted (odd_nulls ms ++ note_if (not (null_free d s) || not (one_null_member ms)) (here widened null_note)) (option_row (member_part a)))
    one-fits ms e f = finding-fits r d most true j (noted (odd_nulls ms ++ note_if (not (null_free d s) || not (one_null_member ms)) (here widened null_note)) (option_row (member_part a)))
        (record { notes = λ i. e i ++ note_if (not (free i) || not (f i)) (here widened null_note); patterns = refl; places = refl; faults = refl; listed = refl; unmerged = refl }) tt (part-fits, tt)

    first-odd : odd_nulls (a ∷ n ∷ []) ≡ []
    first-odd = ap (λ b. note_if ((b && not (is_plain_null s)) || false) (here widened null_note)) unlike-null

    second-odd : odd_nulls (n ∷ a ∷ []) ≡ []
    second-odd = ap (λ b. note_if ((b && not (is_plain_null s)) || false) (here widened null_note)) unlike-null

    first-option : option_member (a ∷ n ∷ []) ≡ Some a
    first-option = ap (λ b. the_only (if not b then a ∷ [] else [])) unlike-null

    second-option : option_member (n ∷ a ∷ []) ≡ Some a
    second-option = ap (λ b. the_only (if not b then a ∷ [] else [])) unlike-null

    first-null : one_null_member (a ∷ n ∷ []) ≡ true
    first-null = ap (λ b. nat_eq (length (if b then a ∷ n ∷ [] else n ∷ [])) 1) unlike-null

    second-null : one_null_member (n ∷ a ∷ []) ≡ true
    second-null = ap (λ b. nat_eq (suc (length (if b then a ∷ [] else []))) 1) unlike-null

    pub any-first : (name : List ℕ) → FindingFits r d most true j (any_of_finding d name (a ∷ n ∷ []))
    any-first name = subst (λ o. FindingFits r d most true j (any_of_others d name (a ∷ n ∷ []) o)) (sym first-option) (any-fits (a ∷ n ∷ []) first-odd)

    pub any-second : (name : List ℕ) → FindingFits r d most true j (any_of_finding d name (n ∷ a ∷ []))
    any-second name = subst (λ o. FindingFits r d most true j (any_of_others d name (n ∷ a ∷ []) o)) (sym second-option) (any-fits (n ∷ a ∷ []) second-odd)

    pub one-first : (name : List ℕ) → FindingFits r d most true j (one_of_finding d name (a ∷ n ∷ []))
    one-first name = subst (λ o. FindingFits r d most true j (one_of_option d (a ∷ n ∷ []) o)) (sym first-option) (one-fits (a ∷ n ∷ []) first-odd first-null)

    pub one-second : (name : List ℕ) → FindingFits r d most true j (one_of_finding d name (n ∷ a ∷ []))
    one-second name = subst (λ o. FindingFits r d most true j (one_of_option d (n ∷ a ∷ []) o)) (sym second-option) (one-fits (n ∷ a ∷ []) second-odd second-null)

  abbrev member : String → ℕ → Schema → Member
  member k i s = (codes k ∷ place i ∷ [], s)

  pair-any : (name : List ℕ) (s t : Schema) → (is_row_and_null d inner s t || is_row_and_null d inner t s) ≡ true → FindingFits r d most true j (any_of_finding d name (member "anyOf" 0 s ∷ member "anyOf" 1 t ∷ []))
  pair-any name s t h = by (either (is_row_and_null d inner s t) _ h)
    where
      by : (is_row_and_null d inner s t ≡ true) ⊎ (is_row_and_null d inner t s ≡ true) → FindingFits r d most true j (any_of_finding d name (member "anyOf" 0 s ∷ member "anyOf" 1 t ∷ []))
      by (inl g) =
          let f = and_right (inner.row s) _ g in
          subst (λ u. FindingFits r d most true j (any_of_finding d name (member "anyOf" 0 s ∷ member "anyOf" 1 u ∷ []))) (sym (null-alone t (and_right (null_free d s) _ f)))
          (any-first (codes "anyOf" ∷ place 0 ∷ []) (codes "anyOf" ∷ place 1 ∷ []) s (and_left (inner.row s) _ g) (and_left (null_free d s) _ f) name)
      by (inr g) =
          let f = and_right (inner.row t) _ g in
          subst (λ u. FindingFits r d most true j (any_of_finding d name (member "anyOf" 0 u ∷ member "anyOf" 1 t ∷ []))) (sym (null-alone s (and_right (null_free d t) _ f)))
          (any-second (codes "anyOf" ∷ place 1 ∷ []) (codes "anyOf" ∷ place 0 ∷ []) t (and_left (inner.row t) _ g) (and_left (null_free d t) _ f) name)

  pair-one : (name : List ℕ) (s t : Schema) → (is_row_and_null d inner s t || is_row_and_null d inner t s) ≡ true → FindingFits r d most true j (one_of_finding d name (member "oneOf" 0 s ∷ member "oneOf" 1 t ∷ []))
  pair-one name s t h = by (either (is_row_and_null d inner s t) _ h)
    where
      by : (is_row_and_null d inner s t ≡ true) ⊎ (is_row_and_null d inner t s ≡ true) → FindingFits r d most true j (one_of_finding d name (member "oneOf" 0 s ∷ member "oneOf" 1 t ∷ []))
      by (inl g) =
          let f = and_right (inner.row s) _ g in
          subst (λ u. FindingFits r d most true j (one_of_finding d name (member "oneOf" 0 s ∷ member "oneOf" 1 u ∷ []))) (sym (null-alone t (and_right (null_free d s) _ f)))
          (one-first (codes "oneOf" ∷ place 0 ∷ []) (codes "oneOf" ∷ place 1 ∷ []) s (and_left (inner.row s) _ g) (and_left (null_free d s) _ f) name)
      by (inr g) =
          let f = and_right (inner.row t) _ g in
          subst (λ u. FindingFits r d most true j (one_of_finding d name (member "oneOf" 0 u ∷ member "oneOf" 1 t ∷ []))) (sym (null-alone s (and_right (null_free d t) _ f)))
          (one-second (codes "oneOf" ∷ place 1 ∷ []) (codes "oneOf" ∷ place 0 ∷ []) t (and_left (inner.row t) _ g) (and_left (null_free d t) _ f) name)

  -- by the one keyword that stands, of a schema that says nothing else
  abbrev choosing : Plain → Same → Schema
  choosing p ss = object (written p.title p.description None None None None None None None) ss no_lists no_named

  pair-fits : (p : Plain) (ss : Same) → has_row_and_null d inner ss ≡ true → FindingFits r d most true j (finding_of r d (choosing p ss))
  pair-fits p no_same h = impossible h
  pair-fits p (same_value no_list (the_list (schema s (schema t no_more))) no_list no_schema false) h = pair-any (words_or p.title []) s t h
  pair-fits p (same_value no_list no_list (the_list (schema s (schema t no_more))) no_schema false) h = pair-one (words_or p.title []) s t h
  pair-fits p (same_value no_list (the_list no_more) no_list no_schema false) h = impossible h
  pair-fits p (same_value no_list (the_list (schema s no_more)) no_list no_schema false) h = impossible h
  pair-fits p (same_value no_list (the_list (schema s (schema t (schema u us)))) no_list no_schema false) h = impossible h
  pair-fits p (same_value no_list no_list (the_list no_more) no_schema false) h = impossible h
  pair-fits p (same_value no_list no_list (the_list (schema s no_more)) no_schema false) h = impossible h
  pair-fits p (same_value no_list no_list (the_list (schema s (schema t (schema u us)))) no_schema false) h = impossible h
  pair-fits p (same_value no_list no_list no_list none c) h = impossible h
  pair-fits p (same_value no_list (the_list ss) (the_list ts) none c) h = impossible h
  pair-fits p (same_value no_list (the_list ss) no_list (the_schema s) c) h = impossible h
  pair-fits p (same_value no_list (the_list ss) no_list no_schema true) h = impossible h
  pair-fits p (same_value no_list no_list (the_list ss) (the_schema s) c) h = impossible h
  pair-fits p (same_value no_list no_list (the_list ss) no_schema true) h = impossible h
  pair-fits p (same_value (the_list ss) any either_ none c) h = impossible h

  pub row-option : (s : Schema) → plain_option d inner s ≡ true → Good s
  row-option (boolean b) h = impossible h
  row-option (object p ss ls ns) h = by (either (with_null d inner p ss ls ns (plain.beside_null p.types)) _ h)
    where
      by : (with_null d inner p ss ls ns (plain.beside_null p.types) ≡ true) ⊎ ((says_nothing p && (has_row_and_null d inner ss && (without_lists ls && without_named ns))) ≡ true) → Good (object p ss ls ns)
      by (inl g) = listed-row p ss ls ns (type_beside_null p.types) refl g
      by (inr g) =
          let n = nothing p (and_left (says_nothing p) _ g) in
          let m = n.most in
          let a = and_right (says_nothing p) _ g in
          let b = and_right (has_row_and_null d inner ss) _ a in
          fits-as r d most true j p ss ls ns p.title p.description None None None None None None None ss no_lists no_named
          refl refl m.default m.walk n.types m.format m.enum_values m.numbers m.texts m.reference m.const_value refl (no-lists ls (and_left (without_lists ls) _ b)) (no-named ns (and_right (without_lists ls) _ b))
          (pair-fits p ss (and_left (has_row_and_null d inner ss) _ a))
