-- A list of types: a variant for each.
use Rattle.schema_defs.specs.declared.Setting.{Setting}
use Rattle.std.proofs.Common.{◌≡◌, ℕ, ℤ, List, [], ◌∷◌, map, filter, Bool, true, false, ◌&&◌, ◌||◌, not, Option, Some, None, is_some, refl, sym, ap, ◌∙◌, true≢false}
use Rattle.std.specs.Prelude.{if◌then◌else◌}
use Rattle.std.specs.List.{list_any}
use Rattle.json_value.specs.Value as value
use Rattle.json_value.specs.Value.{Value, null, number, fraction, text, list}
use Rattle.schema_defs.specs.declared.InstanceType.{InstanceType}
use Rattle.schema_defs.specs.declared.InstanceType.TheVariants.{Null, Boolean, Object, Array, Number, Text, Integer}
use Rattle.schema_defs.specs.Texts.{Relations}
use Rattle.schema_defs.specs.Schema.{Types, one_type, many_types, Plain, Schema, object, Same, Lists, Named}
use Rattle.schema_defs.specs.Layer.{Parts, judge, if_given, types_agree, is_kind, of_kind_agrees, parts_agree, numbers_agree, number_format_agrees, texts_agree, text_format_agrees, lists_agree, named_agree}
use Rattle.model_defs.specs.Model.{untagged}
use Rattle.model_defs.specs.Layer as model
use Rattle.entry_defs.specs.Entry.{Target, Entry}
use Rattle.entry_defs.specs.Layer as entry
use Rattle.entry_defs.specs.Layer.{entry_takes, some_takes}
use Rattle.convert_defs.specs.Row.{Way, Part, made, enum_row, by_contents, plainly, variants_parts, VariantRow}
use Rattle.enum_defs.specs.Words.{same_type, is_bare}
use Rattle.convert_defs.specs.Table.{type_among, many_of, of_kinds, variant_order, type_variant, type_variants}
use Rattle.convert_defs.specs.Convert.{row_variants, is_closed}
use Rattle.convert_defs.specs.Laws.{Keeps}
use Rattle.convert_defs.proofs.Keeps.{keep-equal, keep-from, keep-to, keep-either}
use Rattle.schema_defs.proofs.Spare.{Refs}
use Rattle.convert_defs.proofs.Views.{View, of_null, of_boolean, of_number, of_text, of_list, of_object, AllParts}
use Rattle.convert_defs.proofs.Bare.{and_true, and_false, impossible, three, not_true, bare}
use Rattle.convert_defs.proofs.Rows.{IsSound, Holds}
use Rattle.convert_defs.proofs.Untagged.{content-takes}

any-same : (f g : InstanceType → Bool) → ((k : InstanceType) → f k ≡ g k) → (ks : List InstanceType) → list_any f ks ≡ list_any g ks
any-same f g h [] = refl
any-same f g h (k ∷ ks) = λ i. h k i || any-same f g h ks i

of-null : (k : InstanceType) → is_kind null k ≡ same_type Null k
of-null Null = refl
of-null Boolean = refl
of-null Object = refl
of-null Array = refl
of-null Number = refl
of-null Text = refl
of-null Integer = refl

of-boolean : (b : Bool) (k : InstanceType) → is_kind (value.boolean b) k ≡ same_type Boolean k
of-boolean b Null = refl
of-boolean b Boolean = refl
of-boolean b Object = refl
of-boolean b Array = refl
of-boolean b Number = refl
of-boolean b Text = refl
of-boolean b Integer = refl

of-text : (s : List ℕ) (k : InstanceType) → is_kind (text s) k ≡ same_type Text k
of-text s Null = refl
of-text s Boolean = refl
of-text s Object = refl
of-text s Array = refl
of-text s Number = refl
of-text s Text = refl
of-text s Integer = refl

of-list : (xs : value.Items) (k : InstanceType) → is_kind (list xs) k ≡ same_type Array k
of-list xs Null = refl
of-list xs Boolean = refl
of-list xs Object = refl
of-list xs Array = refl
of-list xs Number = refl
of-list xs Text = refl
of-list xs Integer = refl

of-object : (ms : value.Members) (k : InstanceType) → is_kind (value.object ms) k ≡ same_type Object k
of-object ms Null = refl
of-object ms Boolean = refl
of-object ms Object = refl
of-object ms Array = refl
of-object ms Number = refl
of-object ms Text = refl
of-object ms Integer = refl

-- whole numbers are integers, where `number` is not listed
of-number : (z : ℤ) (ks : List InstanceType) → list_any (same_type Number) ks ≡ false → list_any (is_kind (number z)) ks ≡ list_any (same_type Integer) ks
of-number z [] h = refl
of-number z (Null ∷ ks) h = of-number z ks h
of-number z (Boolean ∷ ks) h = of-number z ks h
of-number z (Object ∷ ks) h = of-number z ks h
of-number z (Array ∷ ks) h = of-number z ks h
of-number z (Number ∷ ks) h = absurd (true≢false h)
of-number z (Text ∷ ks) h = of-number z ks h
of-number z (Integer ∷ ks) h = refl

or_false : (b : Bool) → (b || false) ≡ b
or_false true = refl
or_false false = refl

true_after : (b : Bool) → (b && true && true && true) ≡ b
true_after true = refl
true_after false = refl

moved_true : (a x : Bool) → (a && x && true) ≡ (a && (x && true && true && true))
moved_true true true = refl
moved_true true false = refl
moved_true false x = refl

module _ (way : Way) (P : List ℕ → Type 0) (st : Setting) (R : Schema → Entry → Type 0) (conv : Part → Entry) (r : Relations) (fol : List ℕ → Bool) (tgt : Target → Bool) (p : Plain) (ss : Same) (ls : Lists) (ns : Named) where
  abbrev variant : InstanceType → VariantRow
  variant k = type_variant p ls ns k

  module _ (v : Value) (ps : Parts) (es : model.Parts entry.Judge) where
    abbrev one : InstanceType → Bool
    one k = judge r v ps fol (of_kinds p ls ns k)

    -- what one of the listed types says
    abbrev any_type : List InstanceType → Bool
    any_type ks = list_any (λ k. type_among k p.types && one k) ks

  module _ (ks : List InstanceType) (e : p.types ≡ Some (many_types ks)) (n : list_any (same_type Number) ks ≡ false) where
    among : (k : InstanceType) → type_among k p.types ≡ list_any (same_type k) ks
    among k = ap (type_among k) e

    -- by the kind of the value one variant says what the schema says
    said : (v : Value) (ps : Parts) (es : model.Parts entry.Judge) → View way st R r v ps es → (list_any (is_kind v) ks && of_kind_agrees r p v && parts_agree r v ps ls ns) ≡ any_type v ps es variant_order
    said _ _ _ (of_null ps) = ap (λ b. b && true && true) (any-same (is_kind null) (same_type Null) of-null ks ∙ sym (among Null)) ∙ and_true (type_among Null p.types && true) ∙ sym (or_false (type_among Null p.types && true))
        ∙ (λ i. type_among Null p.types && true || (sym (and_false (type_among Boolean p.types)) i || (sym (and_false (type_among Object p.types)) i || (sym (and_false (type_among Array p.types)) i || (sym (and_false (type_among Integer p.types)) i || (sym (and_false (type_among Text p.types)) i || false))))))
    said _ _ _ (of_boolean b ps) = ap (λ c. c && true && true) (any-same (is_kind (value.boolean b)) (same_type Boolean) (of-boolean b) ks ∙ sym (among Boolean)) ∙ and_true (type_among Boolean p.types && true) ∙ sym (or_false (type_among Boolean p.types && true))
        ∙ (λ i. sym (and_false (type_among Null p.types)) i || (type_among Boolean p.types && true || (sym (and_false (type_among Object p.types)) i || (sym (and_false (type_among Array p.types)) i || (sym (and_false (type_among Integer p.types)) i || (sym (and_false (type_among Text p.types)) i || false))))))
    said _ _ _ (of_object ms ps js h am) = let x = named_agree r ms ps ns in
        ap (λ c. c && true && x) (any-same (is_kind (value.object ms)) (same_type Object) (of-object ms) ks ∙ sym (among Object)) ∙ ap (λ c. c && x) (and_true (type_among Object p.types)) ∙ ap (λ y. type_among Object p.types && y) (sym (and_true x)) ∙ sym (or_false (type_among Object p.types && (x && true)))
        ∙ (λ i. sym (and_false (type_among Null p.types)) i || (sym (and_false (type_among Boolean p.types)) i || (type_among Object p.types && (x && true) || (sym (and_false (type_among Array p.types)) i || (sym (and_false (type_among Integer p.types)) i || (sym (and_false (type_among Text p.types)) i || false))))))
    said _ _ _ (of_list xs ps js h) = let x = lists_agree xs ps.items ls in
        ap (λ c. c && true && x) (any-same (is_kind (list xs)) (same_type Array) (of-list xs) ks ∙ sym (among Array)) ∙ ap (λ c. c && x) (and_true (type_among Array p.types)) ∙ ap (λ y. type_among Array p.types && y) (sym (and_true x)) ∙ sym (or_false (type_among Array p.types && (x && true)))
        ∙ (λ i. sym (and_false (type_among Null p.types)) i || (sym (and_false (type_among Boolean p.types)) i || (sym (and_false (type_among Object p.types)) i || (type_among Array p.types && (x && true) || (sym (and_false (type_among Integer p.types)) i || (sym (and_false (type_among Text p.types)) i || false))))))
    said _ _ _ (of_number z ps h) = let x = if_given (numbers_agree z) p.numbers && if_given (number_format_agrees z) p.format in
        ap (λ c. c && x && true) (of-number z ks n ∙ sym (among Integer)) ∙ moved_true (type_among Integer p.types) x ∙ sym (or_false (type_among Integer p.types && (x && true && true && true)))
        ∙ (λ i. sym (and_false (type_among Null p.types)) i || (sym (and_false (type_among Boolean p.types)) i || (sym (and_false (type_among Object p.types)) i || (sym (and_false (type_among Array p.types)) i || (type_among Integer p.types && (x && true && true && true) || (sym (and_false (type_among Text p.types)) i || false))))))
    said _ _ _ (of_text s ps) = let x = if_given (texts_agree r s) p.texts && if_given (text_format_agrees r s) p.format in
        ap (λ c. c && x && true) (any-same (is_kind (text s)) (same_type Text) (of-text s) ks ∙ sym (among Text)) ∙ moved_true (type_among Text p.types) x ∙ sym (or_false (type_among Text p.types && (x && true && true && true)))
        ∙ (λ i. sym (and_false (type_among Null p.types)) i || (sym (and_false (type_among Boolean p.types)) i || (sym (and_false (type_among Object p.types)) i || (sym (and_false (type_among Array p.types)) i || (sym (and_false (type_among Integer p.types)) i || (type_among Text p.types && (x && true && true && true) || false))))))

  module _ (v : Value) (ps : Parts) (es : model.Parts entry.Judge) (w : View way st R r v ps es) where
    lone-refs : (k : InstanceType) → Refs P (of_kinds p ls ns k)
    lone-refs Null = (tt, tt)
    lone-refs Boolean = (tt, tt)
    lone-refs Object = (tt, tt)
    lone-refs Array = (tt, tt)
    lone-refs Number = (tt, tt)
    lone-refs Text = (tt, tt)
    lone-refs Integer = (tt, tt)

    abbrev sound : List InstanceType → Type 0
    sound os = AllParts (IsSound way P st R conv r fol tgt v ps es w) (variants_parts (map variant (filter (λ k. type_among k p.types) os)))

    abbrev taken : Bool → List InstanceType → Bool
    taken closed os = some_takes r v es tgt closed (row_variants conv untagged closed (map variant (filter (λ k. type_among k p.types) os)))

    -- the variants that stand
    stands : (closed : Bool) (os : List InstanceType) → sound os → Keeps way (any_type v ps es os) (taken closed os)
    stands closed [] h = keep-equal way false false refl
    stands closed (k ∷ os) h = by (type_among k p.types) h (stands closed os)
      where
        by : (b : Bool) → AllParts (IsSound way P st R conv r fol tgt v ps es w) (variants_parts (map variant (if b then k ∷ filter (λ k. type_among k p.types) os else filter (λ k. type_among k p.types) os)))
            → (sound os → Keeps way (any_type v ps es os) (taken closed os))
            → Keeps way (b && one v ps es k || any_type v ps es os) (some_takes r v es tgt closed (row_variants conv untagged closed (map variant (if b then k ∷ filter (λ k. type_among k p.types) os else filter (λ k. type_among k p.types) os))))
        by true h f = keep-either way _ _ _ _ (keep-to way _ _ _ (h.0.1 (lone-refs k)) (sym (content-takes r v es tgt closed (conv (made (of_kinds p ls ns k)))))) (f h.1)
        by false h f = f h

    pub type-list-holds : is_some (many_of p.types) && is_bare p ss && not (type_among Number p.types) ≡ true → Holds way P st R conv r fol tgt v ps es w (object p ss ls ns) (plainly (enum_row untagged by_contents (type_variants p ls ns)))
    type-list-holds t = let f = three (is_some (many_of p.types)) (is_bare p ss) (not (type_among Number p.types)) t in λ g0 c q.
        keep-from way _ _ _ (bare r v ps fol p ss ls ns f.1 ∙ by p.types refl f.0 (not_true _ f.2)) (stands (is_closed conv by_contents (type_variants p ls ns)) variant_order q)
      where
        by : (o : Option Types) → p.types ≡ o → is_some (many_of o) ≡ true → type_among Number o ≡ false → (if_given (types_agree v) p.types && of_kind_agrees r p v && parts_agree r v ps ls ns) ≡ any_type v ps es variant_order
        by None e s n = impossible s
        by (Some (one_type k)) e s n = impossible s
        by (Some (many_types ks)) e s n = ap (λ o. if_given (types_agree v) o && of_kind_agrees r p v && parts_agree r v ps ls ns) e ∙ said ks e n v ps es w
