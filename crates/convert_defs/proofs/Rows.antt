-- Each row of the table: what the schema admits is what the row's entry takes, where that holds of the row's parts.
use Rattle.schema_defs.specs.declared.Setting.{Setting}
use Rattle.std.proofs.Common.{◌≡◌, ℕ, ℤ, pos, FitsSigned, w64, List, [], ◌∷◌, ◌++◌, Bool, true, false, ◌&&◌, ◌||◌, not, Option, Some, None, is_none, is_some, refl, sym, ap, ◌∙◌, subst, true≢false, codes}
use Rattle.std.specs.Prelude.{if◌then◌else◌, int_rem}
use Rattle.std.specs.List.{list_all, list_any}
use Rattle.json_value.specs.Value as value
use Rattle.json_value.specs.Value.{Value, same, null, number, fraction, text, list}
use Rattle.schema_defs.specs.declared.InstanceType.{InstanceType}
use Rattle.schema_defs.specs.declared.InstanceType.TheVariants.{Null, Boolean, Object, Array, Number, Text, Integer}
use Rattle.schema_defs.specs.declared.Format.{Format}
use Rattle.schema_defs.specs.Texts.{Relations}
use Rattle.schema_defs.specs.Schema.{Types, one_type, many_types, Plain, Texts, Numbers, Schema, object, Same, Lists, no_lists, lists, Named, no_named, named, Places, no_items, each_item, by_place, MaybeSchema, no_schema, the_schema, Properties, no_properties, property, Document}
use Rattle.schema_defs.specs.Layer.{Parts, judge, if_given, types_agree, is_listed, of_kind_agrees, parts_agree, is_given, named_agree, lists_agree, judge_same, is_kind, numbers_agree, number_format_agrees, texts_agree, text_format_agrees}
use Rattle.schema_defs.specs.Admits.{target}
use Rattle.model_defs.specs.Model.{allow_rule}
use Rattle.model_defs.specs.Layer as model
use Rattle.entry_defs.specs.Entry.{Target, Entry, any_entry, unit_entry, integer_entry}
use Rattle.entry_defs.specs.Layer as entry
use Rattle.entry_defs.specs.Layer.{entry_takes}
use Rattle.convert_defs.specs.Row.{Note, Part, child, made, Way, narrowed, widened, here, integer_note, names_note, const_note, names as names_cause, bad_array, nested_enum, Row, leaf_row, as_it_is_row, ruled_row, vec_row, set_row, map_row, merged_row, refused_row, row_parts, field_parts, outside_parts, Finding, noted, plainly, add_notes, asking}
use Rattle.convert_defs.specs.Standing.{is_untyped, wanted, less_reference, less_enum, less_const, less_types, of_type}
use Rattle.enum_defs.specs.Words.{has_type, is_bare, without_same, without_lists, without_named, same_type, names_of}
use Rattle.convert_defs.specs.Scalars.{string_finding, text_finding, given_format, ruled_text, wanted_of, boolean_finding, is_owner}
use Rattle.convert_defs.specs.Owners.{is_shut, are_alike, pattern_names, pattern_row, anything, any_text, part_at, other_part, name_part, names_texts, no_property, is_empty, is_false, counts_notes, names_notes, property_fields, outside_names, outside_row, map_of, struct_of, object_finding, array_finding, sized_finding, fixed_size, fixed_row, each_part, is_by_place, list_notes, open_list, is_true, listed_parts, unlisted}
use Rattle.convert_defs.specs.Table.{Line, first_line, reference_row, row_of_target, target_of, types_of_schema, target_types, same_types, same_lists, no_others, allowed_row, listed, type_among, every_type, with_type, only_type, untyped}
use Rattle.convert_defs.specs.Convert.{pattern_key, entry_of, row_entries, alike_entries}
use Rattle.convert_defs.specs.IntegerRow.{note_if, integer_of, range_of_plain, integer_notes, admitted_range, numbers_or_none, in_i64, lies_in, has_multiple}
use Rattle.convert_defs.proofs.Integers.{admitted, within, small-range, no-multiple}
use Rattle.schema_defs.specs.Integers.{Range, in_range}
use Rattle.std.specs.Ordering.{int_eq}
use Rattle.convert_defs.specs.Laws.{Keeps, same_way, Free}
use Rattle.convert_defs.proofs.Keeps.{keep-equal, keep-from, keep-then, keep-both, keep-wider, free-note, free-left, free-right}
use Rattle.schema_defs.proofs.Spare.{Refs, Given}
use Rattle.convert_defs.proofs.Views.{View, of_null, of_boolean, of_number, of_text, of_list, of_object, schema_of, IsConverted, AllParts}
use Rattle.convert_defs.proofs.Bare.{and_left, and_right, and_true, and_false, three, four, or_left, or_right, impossible, not_false, none-agrees, same-agrees, same_type-eq, same_bools, no-lists, no-named, bare, typed}
use Rattle.convert_defs.proofs.Scalars.{Agrees, null-row, any-row, text-row, native-row, ruled-row, boolean-row}
use Rattle.convert_defs.proofs.Arrays.{vec-row, array-row, tuple-row, open-agrees, any-agrees, array-agrees, tuple-taken}
use Rattle.convert_defs.specs.Apart.{differ, names_apart}
use Rattle.convert_defs.proofs.Objects.{map-row, patterns-agree, struct-row, map-agrees, any-members, struct-taken, struct_fields}

-- ---- keywords that say nothing of a value

pub kind-quiet : (r : Relations) (p : Plain) → is_none p.format ≡ true → is_none p.numbers ≡ true → is_none p.texts ≡ true → (v : Value) → of_kind_agrees r p v ≡ true
kind-quiet r p f n t null = refl
kind-quiet r p f n t (value.boolean b) = refl
kind-quiet r p f n t (number z) = λ i. none-agrees (numbers_agree z) p.numbers n i && none-agrees (number_format_agrees z) p.format f i
kind-quiet r p f n t fraction = refl
kind-quiet r p f n t (text s) = λ i. none-agrees (texts_agree r s) p.texts t i && none-agrees (text_format_agrees r s) p.format f i
kind-quiet r p f n t (list xs) = refl
kind-quiet r p f n t (value.object ms) = refl

no-parts-said : (r : Relations) (ps : Parts) (v : Value) → parts_agree r v ps no_lists no_named ≡ true
no-parts-said r ps null = refl
no-parts-said r ps (value.boolean b) = refl
no-parts-said r ps (number z) = refl
no-parts-said r ps fraction = refl
no-parts-said r ps (text s) = refl
no-parts-said r ps (list xs) = refl
no-parts-said r ps (value.object ms) = refl

pub parts-quiet : (r : Relations) (ps : Parts) (ls : Lists) (ns : Named) → without_lists ls ≡ true → without_named ns ≡ true → (v : Value) → parts_agree r v ps ls ns ≡ true
parts-quiet r ps ls ns l n v = (λ i. parts_agree r v ps (no-lists ls l i) (no-named ns n i)) ∙ no-parts-said r ps v

shortened : (t f : Bool) → (t && true && true && true && f && true && true) ≡ (t && f)
shortened true f = and_true (f && true) ∙ and_true f
shortened false f = refl

moved : (t e c k f p s : Bool) → (t && e && c && k && f && p && s) ≡ (t && true && c && k && f && p && s && e)
moved true true c k f p s = sym (and_true (c && k && f && p && s))
moved false true c k f p s = refl
moved true false c k f p s = sym (and_false (c && k && f && p && s))
moved false false c k f p s = refl

moved_third : (t e c k f p s : Bool) → (t && e && c && k && f && p && s) ≡ (t && e && true && k && f && p && s && c)
moved_third true true true k f p s = sym (and_true (k && f && p && s))
moved_third true true false k f p s = sym (and_false (k && f && p && s))
moved_third true false c k f p s = refl
moved_third false e c k f p s = refl

without_kind : (a b c : Bool) → (a && b && c) ≡ true → (b && c) ≡ true
without_kind true b c h = h
without_kind false b c h = impossible h

same_type-itself : (k : InstanceType) → same_type k k ≡ true
same_type-itself Null = refl
same_type-itself Boolean = refl
same_type-itself Object = refl
same_type-itself Array = refl
same_type-itself Number = refl
same_type-itself Text = refl
same_type-itself Integer = refl

lists-same : (ks ls : List InstanceType) → same_lists ks ls ≡ true → ks ≡ ls
lists-same [] [] h = refl
lists-same [] (l ∷ ls) h = impossible h
lists-same (k ∷ ks) [] h = impossible h
lists-same (k ∷ ks) (l ∷ ls) h = let a = same_type-eq l k in let b = lists-same ks ls (and_right (same_type k l) _ h) in λ i. turned (same_type-eq k l (and_left _ _ h)) i ∷ b i
  where
    turned : l ≡ k → k ≡ l
    turned e = sym e

absurd_types : {A : Type 0} (o : Option Types) → same_types o None ≡ true → A
absurd_types None h = impossible h
absurd_types (Some (one_type k)) h = impossible h
absurd_types (Some (many_types ks)) h = impossible h

or_false : (b : Bool) → (b || false) ≡ b
or_false true = refl
or_false false = refl

or_second : (a b : Bool) → b ≡ true → (a || b) ≡ true
or_second true b h = refl
or_second false b h = h

-- a type that is listed, and that the value has
among : (v : Value) (k : InstanceType) (ks : List InstanceType) → is_kind v k ≡ true → list_any (same_type k) ks ≡ true → list_any (is_kind v) ks ≡ true
among v k [] g h = impossible h
among v k (l ∷ ks) g h = by (same_type k l) refl (among v k ks g)
  where
    by : (b : Bool) → same_type k l ≡ b → (list_any (same_type k) ks ≡ true → list_any (is_kind v) ks ≡ true) → (is_kind v l || list_any (is_kind v) ks) ≡ true
    by true e f = ap (λ b. b || list_any (is_kind v) ks) (ap (is_kind v) (same_type-eq k l e) ∙ g)
    by false e f = or_second (is_kind v l) _ (f (ap (λ b. b || list_any (same_type k) ks) (sym e) ∙ h))

-- null, boolean, object, array, number and text, of all seven
some-kind : (v : Value) (ks : List InstanceType) → list_all (λ k. list_any (same_type k) ks) every_type ≡ true → list_any (is_kind v) ks ≡ true
some-kind null ks h = among null Null ks refl (and_left _ _ h)
some-kind (value.boolean b) ks h = among (value.boolean b) Boolean ks refl (and_left _ _ (and_right (list_any (same_type Null) ks) _ h))
some-kind (value.object ms) ks h = among (value.object ms) Object ks refl (and_left _ _ (and_right (list_any (same_type Boolean) ks) _ (and_right (list_any (same_type Null) ks) _ h)))
some-kind (list xs) ks h = among (list xs) Array ks refl (and_left _ _ (and_right (list_any (same_type Object) ks) _ (and_right (list_any (same_type Boolean) ks) _ (and_right (list_any (same_type Null) ks) _ h))))
some-kind (number z) ks h = among (number z) Number ks refl (and_left _ _ (and_right (list_any (same_type Array) ks) _ (and_right (list_any (same_type Object) ks) _ (and_right (list_any (same_type Boolean) ks) _ (and_right (list_any (same_type Null) ks) _ h)))))
some-kind fraction ks h = among fraction Number ks refl (and_left _ _ (and_right (list_any (same_type Array) ks) _ (and_right (list_any (same_type Object) ks) _ (and_right (list_any (same_type Boolean) ks) _ (and_right (list_any (same_type Null) ks) _ h)))))
some-kind (text s) ks h = among (text s) Text ks refl (and_left _ _ (and_right (list_any (same_type Number) ks) _ (and_right (list_any (same_type Array) ks) _ (and_right (list_any (same_type Object) ks) _ (and_right (list_any (same_type Boolean) ks) _ (and_right (list_any (same_type Null) ks) _ h))))))

-- a row's entry, where the items of a row without parts keep their names
abbrev pub unlabeled : (Part → Entry) → List ℕ → Row → Entry
unlabeled conv n (leaf_row e) = e
unlabeled conv n w = entry_of conv n w

-- a row that converts
abbrev pub IsMade : Row → Type 0
IsMade (merged_row ps) = ⊥
IsMade (refused_row c) = ⊥
IsMade _ = Unit {0}

-- a row that converts, without a note of that way
abbrev pub IsClean : Way → Finding → Type 0
IsClean way f = Free way f.notes × IsMade f.row

pub parts-weaker : (P Q : Part → Type 0) → ((p : Part) → P p → Q p) → (ps : List Part) → AllParts P ps → AllParts Q ps
parts-weaker P Q f [] h = tt
parts-weaker P Q f (p ∷ ps) h = (f p h.0, parts-weaker P Q f ps h.1)

pub parts-left : (P : Part → Type 0) (xs ys : List Part) → AllParts P (xs ++ ys) → AllParts P xs
parts-left P [] ys h = tt
parts-left P (x ∷ xs) ys h = (h.0, parts-left P xs ys h.1)

pub parts-right : (P : Part → Type 0) (xs ys : List Part) → AllParts P (xs ++ ys) → AllParts P ys
parts-right P [] ys h = h
parts-right P (x ∷ xs) ys h = parts-right P xs ys h.1

module _ (way : Way) (P : List ℕ → Type 0) (st : Setting) (R : Schema → Entry → Type 0) (conv : Part → Entry) (r : Relations) (fol : List ℕ → Bool) (tgt : Target → Bool) (v : Value) (ps : Parts) (es : model.Parts entry.Judge) (w : View way st R r v ps es) where
  -- a part that is converted, and that agrees with its entry on the value itself
  abbrev pub IsSound : Part → Type 0
  IsSound p = IsConverted way st R conv p × (Refs P (schema_of p) → Agrees way st R r fol tgt v ps es (schema_of p) (conv p))

  abbrev pub Holds : Schema → Finding → Type 0
  Holds s f = Refs P s → IsClean way f → AllParts IsSound (row_parts f.row) → Agrees way st R r fol tgt v ps es s (unlabeled conv (wanted s) f.row)

  converted : (qs : List Part) → AllParts IsSound qs → AllParts (IsConverted way st R conv) qs
  converted qs h = parts-weaker IsSound (IsConverted way st R conv) (λ p g. g.0) qs h

  -- ---- the first row that fits

  abbrev pub AllHold : Schema → List Line → Type 0
  AllHold s [] = Unit {0}
  AllHold s (l ∷ ls) = (l.fits ≡ true → Holds s l.finding) × AllHold s ls

  pub first-holds : (s : Schema) (ls : List Line) → AllHold s ls → Holds s (first_line ls)
  first-holds s [] h = λ g0 c q. absurd c.1
  first-holds s (l ∷ ls) h = by l.fits h.0 (first-holds s ls h.1)
    where
      by : (b : Bool) → (b ≡ true → Holds s l.finding) → Holds s (first_line ls) → Holds s (if b then l.finding else first_line ls)
      by true f g = f refl
      by false f g = g

  module _ (p : Plain) (ss : Same) (ls : Lists) (ns : Named) where
    abbrev s : Schema
    s = object p ss ls ns

    -- texts
    pub string-holds : has_type Text p.types && is_bare p ss ≡ true → Holds s (string_finding p)
    string-holds t = by (given_format p) refl
      where
        at : has_type Text p.types ≡ true
        at = and_left (has_type Text p.types) (is_bare p ss) t

        ruled : (o : Option Texts) → given_format p ≡ None → p.texts ≡ o → Agrees way st R r fol tgt v ps es s (ruled_text (wanted_of p) o)
        ruled None f x = keep-equal way _ _ (text-row way st R r fol tgt v ps es w p ss ls ns at (and_right (has_type Text p.types) (is_bare p ss) t) f x)
        ruled (Some c) f x = keep-equal way _ _ (ruled-row way st R r fol tgt v ps es w p ss ls ns (wanted_of p) c at (and_right (has_type Text p.types) (is_bare p ss) t) f x)

        no-texts : (o : Option Texts) → is_some o ≡ false → o ≡ None
        no-texts None h = refl
        no-texts (Some c) h = impossible (sym h)

        by : (o : Option Format) → given_format p ≡ o → Holds s (text_finding p o)
        by (Some g) f = λ g0 c q. native-row way st R r fol tgt v ps es w p ss ls ns g at (and_right (has_type Text p.types) (is_bare p ss) t) f (λ e. no-texts p.texts (free-note way (is_some p.texts) _ c.0 e))
        by None f = λ g0 c q. ruled p.texts f refl

    -- whole numbers
    pub integer-holds : has_type Integer p.types && is_bare p ss ≡ true → Holds s (noted (integer_notes p) (leaf_row (integer_entry (integer_of p))))
    integer-holds t = λ g0 c q. keep-from way _ _ _ (typed r v ps fol p ss ls ns Integer (and_left _ _ t) (and_right (has_type Integer p.types) _ t)) (by c.0 w)
      where
        g : Range
        g = range_of_plain p

        a : Range
        a = admitted_range p

        n : Numbers
        n = numbers_or_none p.numbers

        ranges : (m : Way) → Free m (integer_notes p) → (z : ℤ) → FitsSigned w64 z → Keeps m (if_given (λ m. int_eq (int_rem z (pos m)) (pos 0)) n.multiple_of && in_range z a) (in_range z g)
        ranges narrowed f z h = λ k. sym (small-range z h g) ∙ within a (in_i64 g) (not_false _ (free-note narrowed (not (lies_in a (in_i64 g))) _ (free-right narrowed (note_if (has_multiple n || not (lies_in (in_i64 g) a)) (here widened integer_note)) _ f) refl)) z (and_right (if_given (λ m. int_eq (int_rem z (pos m)) (pos 0)) n.multiple_of) _ k)
        ranges widened f z h = λ k.
            let e = free-note widened (has_multiple n || not (lies_in (in_i64 g) a)) _ (free-left widened _ (note_if (not (lies_in a (in_i64 g))) (here narrowed integer_note)) f) refl in
            (λ i. no-multiple z n.multiple_of (or_left (has_multiple n) _ e) i && within (in_i64 g) a (not_false _ (or_right (has_multiple n) _ e)) z (small-range z h g ∙ k) i)

        by : {v : Value} {ps : Parts} {es : model.Parts entry.Judge} → Free way (integer_notes p) → View way st R r v ps es → Keeps way (is_kind v Integer && of_kind_agrees r p v && parts_agree r v ps ls ns) (model.is_in_range g v)
        by f (of_null ps) = keep-equal way _ _ refl
        by f (of_boolean b ps) = keep-equal way _ _ refl
        by f (of_number z ps h) = keep-from way _ _ _ (and_true (if_given (numbers_agree z) p.numbers && if_given (number_format_agrees z) p.format) ∙ admitted z h p) (ranges way f z h)
        by f (of_text s ps) = keep-equal way _ _ refl
        by f (of_list xs ps ks h) = keep-equal way _ _ refl
        by f (of_object ms ps ks h am) = keep-equal way _ _ refl

    -- booleans and null
    pub boolean-holds : has_type Boolean p.types && is_none p.format && is_none p.const_value && is_none p.reference && without_same ss ≡ true → Holds s (boolean_finding p.enum_values)
    boolean-holds t = by p.enum_values refl
      where
        f : (has_type Boolean p.types && is_none p.format && is_none p.const_value ≡ true) × (is_none p.reference ≡ true) × (without_same ss ≡ true)
        f = three (has_type Boolean p.types && is_none p.format && is_none p.const_value) (is_none p.reference) (without_same ss) t

        g : (has_type Boolean p.types ≡ true) × (is_none p.format ≡ true) × (is_none p.const_value ≡ true)
        g = three (has_type Boolean p.types) (is_none p.format) (is_none p.const_value) f.0

        by : (o : Option (List Value)) → p.enum_values ≡ o → Holds s (boolean_finding o)
        by None e = λ g0 c q. boolean-row way st R r fol tgt v ps es w p ss ls ns g.0 g.2 f.1 f.2 (subst (λ o. Free way (boolean_finding o).notes) (sym e) c.0)
        by (Some vs) e = λ g0 c q. boolean-row way st R r fol tgt v ps es w p ss ls ns g.0 g.2 f.1 f.2 (subst (λ o. Free way (boolean_finding o).notes) (sym e) c.0)

    -- arrays
    pub array-holds : has_type Array p.types ≡ true → is_bare p ss ≡ true → (ms : Lists) → ls ≡ ms → Holds s (array_finding ms)
    array-holds t h no_lists e = λ g0 c q. vec-row way st R conv r fol tgt v ps es w p ss ls ns (conv anything) (λ xs js ks m. keep-from way _ _ _ (ap (λ l. lists_agree xs js l) e) (any-agrees way st R conv xs js ks m q.0.0)) t h
    array-holds t h (lists places rest contains rules) e = sized (fixed_size rules contains) refl
      where
        fixed : (n : ℕ) (places : Places) → ls ≡ lists places rest contains rules → fixed_size rules contains ≡ Some n → Holds s (plainly (fixed_row n places rest))
        fixed n no_items e f = λ g0 c q. array-row way st R conv r fol tgt v ps es w p ss ls ns (conv anything) n (λ xs js ks m. keep-from way _ _ _ (ap (λ l. lists_agree xs js l) e) (array-agrees way st R conv n no_items rest contains rules refl f q.0.0 xs js ks m)) t h
        fixed n (each_item u) e f = λ g0 c q. array-row way st R conv r fol tgt v ps es w p ss ls ns (conv (each_part (each_item u))) n (λ xs js ks m. keep-from way _ _ _ (ap (λ l. lists_agree xs js l) e) (array-agrees way st R conv n (each_item u) rest contains rules refl f q.0.0 xs js ks m)) t h
        fixed n (by_place us) e f = λ g0 c q. tuple-row way st R conv r fol tgt v ps es w p ss ls ns (row_entries conv (listed_parts 0 n us) (alike_entries (unlisted n us) (conv (part_at (codes "additionalItems") rest))))
            (λ xs js ks m. keep-from way _ _ _ (ap (λ l. lists_agree xs js l) e) (tuple-taken way st R conv n us rest contains rules f (converted _ q) xs js ks m)) t h

        open-or-set : (b : Bool) → is_true rules.unique_items ≡ b → is_by_place places ≡ false → is_given contains ≡ false → Holds s (noted (list_notes rules) (if b then set_row (each_part places) else vec_row (each_part places)))
        open-or-set true u x y = λ g0 c q. vec-row way st R conv r fol tgt v ps es w p ss ls ns (conv (each_part places)) (λ xs js ks m. keep-from way _ _ _ (ap (λ l. lists_agree xs js l) e) (open-agrees way st R conv places rest contains rules x y c.0 q.0.0 xs js ks m)) t h
        open-or-set false u x y = λ g0 c q. vec-row way st R conv r fol tgt v ps es w p ss ls ns (conv (each_part places)) (λ xs js ks m. keep-from way _ _ _ (ap (λ l. lists_agree xs js l) e) (open-agrees way st R conv places rest contains rules x y c.0 q.0.0 xs js ks m)) t h

        opened : (b : Bool) → (is_by_place places || is_given contains) ≡ b → Holds s (if b then plainly (refused_row bad_array) else noted (list_notes rules) (open_list rules (each_part places)))
        opened true x = λ g0 c q. absurd c.1
        opened false x = open-or-set (is_true rules.unique_items) refl (or_left (is_by_place places) _ x) (or_right (is_by_place places) _ x)

        sized : (o : Option ℕ) → fixed_size rules contains ≡ o → Holds s (sized_finding places rest contains rules o)
        sized (Some n) f = fixed n places e f
        sized None f = opened (is_by_place places || is_given contains) refl

    -- objects
    pub object-holds : has_type Object p.types ≡ true → is_bare p ss ≡ true → (ms : Named) → ns ≡ ms → names_apart ms ≡ true → Holds s (object_finding st ms)
    object-holds t h no_named e z = λ g0 c q. map-row way st R conv r fol tgt v ps es w p ss ls ns (conv any_text) (conv anything) (λ ms ps ks m am. keep-from way _ _ _ (ap (λ l. named_agree r ms ps l) e) (any-members way st R conv r q.0.0 q.1.0.0 ps.name ms ps.members ks m)) t h
    object-holds t h (named props patterns rest names rules) e z = by (no_property props && is_empty rules.required && no_property patterns && not (is_false rest)) refl
      where
        no-property : (ps : Properties) → no_property ps ≡ true → ps ≡ no_properties
        no-property no_properties g = refl
        no-property (property k u us) g = impossible g

        no-required : (ns : List (List ℕ)) → is_empty ns ≡ true → ns ≡ []
        no-required [] g = refl
        no-required (n ∷ ns) g = impossible g

        not-given : (m : MaybeSchema) → is_given m ≡ false → m ≡ no_schema
        not-given no_schema g = refl
        not-given (the_schema u) g = impossible (sym g)

        mapped : (b : Bool) → names_texts names ≡ b → no_property props ≡ true → is_empty rules.required ≡ true → no_property patterns ≡ true → Holds s (noted (counts_notes rules) (if b then map_row (name_part names) (other_part rest) else refused_row names_cause))
        mapped false x a g o = λ g0 c q. absurd c.1
        mapped true x a g o = λ g0 c q. map-row way st R conv r fol tgt v ps es w p ss ls ns (conv (name_part names)) (conv (other_part rest))
            (λ ms ps ks m am. keep-from way _ _ _ (ap (λ l. named_agree r ms ps l) e ∙ (λ i. named_agree r ms ps (named (no-property props a i) (no-property patterns o i) rest names rules)))
            (map-agrees way st R conv r rest names rules (no-required rules.required g) c.0 x q.0.0 q.1.0.0 ms ps ks m)) t h

        -- no pattern stands, whichever way
        no-patterns : (k : Way) → Free k (names_notes patterns names) → no_property patterns ≡ true
        no-patterns narrowed n = not_false _ (free-note narrowed (not (no_property patterns)) _ (free-right narrowed (note_if (is_given names || not (no_property patterns)) (here widened names_note)) _ n) refl)
        no-patterns widened n = not_false _ (or_right (is_given names) _ (free-note widened (is_given names || not (no_property patterns)) _ (free-left widened _ (note_if (not (no_property patterns)) (here narrowed names_note)) n) refl))

        structs : Holds s (noted (counts_notes rules ++ names_notes patterns names) (struct_of st props rest rules))
        structs = λ g0 c q.
            let n = free-right way (counts_notes rules) (names_notes patterns names) c.0 in
            let g : same_way way widened ≡ true → is_given names ≡ false = λ e. or_left (is_given names) (not (no_property patterns)) (free-note way (is_given names || not (no_property patterns)) (here widened names_note) (free-left way (note_if (is_given names || not (no_property patterns)) (here widened names_note)) (note_if (not (no_property patterns)) (here narrowed names_note)) n) e) in
            let fs = property_fields st rules.required props in
            let os = outside_row (outside_names props rules.required) rest in
            let k = converted (field_parts fs ++ outside_parts os) q in
            struct-row way st R conv r fol tgt v ps es w p ss ls ns (wanted s) (is_false rest) (struct_fields way st R conv r rules.required props rest)
            (λ ms ps ks m am. keep-from way _ _ _ (ap (λ l. named_agree r ms ps l) e ∙ (λ i. named_agree r ms ps (named props (no-property patterns (no-patterns way n) i) rest names rules)))
            (struct-taken way st R conv r props rest names rules (and_left (differ (names_of props)) (differ rules.required) z) (and_right (differ (names_of props)) (differ rules.required) z) (free-left way (counts_notes rules) (names_notes patterns names) c.0) g (parts-left (IsConverted way st R conv) (field_parts fs) (outside_parts os) k) (parts-right (IsConverted way st R conv) (field_parts fs) (outside_parts os) k) ms ps ks m am.0)) t h

        patterned : (qs : Properties) → patterns ≡ qs → no_property props ≡ true → is_empty rules.required ≡ true → not (is_given names) ≡ true → is_shut rest ≡ true → are_alike qs ≡ true → Holds s (noted (counts_notes rules ++ note_if (not (is_given rest)) (here narrowed names_note)) (pattern_row qs))
        patterned no_properties f a g o u l = λ g0 c q. impossible l
        patterned (property k w' qs) f a g o u l = λ g0 c q.
            map-row way st R conv r fol tgt v ps es w p ss ls ns (pattern_key (k ∷ pattern_names qs)) (conv (child (codes "patternProperties" ∷ k ∷ []) w'))
            (λ ms ps ks m am. keep-from way _ _ _ (ap (λ l. named_agree r ms ps l) e ∙ (λ i. named_agree r ms ps (named (no-property props a i) (f i) rest (not-given names (none names o) i) rules)))
            (patterns-agree way st R conv r k w' qs l rest u (λ z. given (is_given rest) (free-note way (not (is_given rest)) _ (free-right way (counts_notes rules) _ c.0) z)) (child (codes "patternProperties" ∷ k ∷ []) w') q.0.0 rules (no-required rules.required g) (free-left way (counts_notes rules) _ c.0) ms ps ks m am.1.1)) t h
          where
            none : (m : MaybeSchema) → not (is_given m) ≡ true → is_given m ≡ false
            none no_schema z = refl
            none (the_schema x) z = impossible z

            given : (b : Bool) → not b ≡ false → b ≡ true
            given true z = refl
            given false z = absurd (true≢false z)

        second : (b : Bool) → (no_property props && is_empty rules.required && not (is_given names) && is_shut rest && are_alike patterns) ≡ b
            → Holds s (if b then asking (pattern_names patterns) (noted (counts_notes rules ++ note_if (not (is_given rest)) (here narrowed names_note)) (pattern_row patterns)) else noted (counts_notes rules ++ names_notes patterns names) (struct_of st props rest rules))
        second true x =
            let f = three (no_property props && is_empty rules.required && not (is_given names)) (is_shut rest) (are_alike patterns) x in
            let g = three (no_property props) (is_empty rules.required) (not (is_given names)) f.0 in
            patterned patterns refl g.0 g.1 g.2 f.1 f.2
        second false x = structs

        by : (b : Bool) → (no_property props && is_empty rules.required && no_property patterns && not (is_false rest)) ≡ b
            → Holds s (if b then noted (counts_notes rules) (map_of rest names) else if no_property props && is_empty rules.required && not (is_given names) && is_shut rest && are_alike patterns then asking (pattern_names patterns) (noted (counts_notes rules ++ note_if (not (is_given rest)) (here narrowed names_note)) (pattern_row patterns)) else noted (counts_notes rules ++ names_notes patterns names) (struct_of st props rest rules))
        by true x = let f = four (no_property props) (is_empty rules.required) (no_property patterns) (not (is_false rest)) x in mapped (names_texts names) refl f.0 f.1 f.2
        by false x = second (no_property props && is_empty rules.required && not (is_given names) && is_shut rest && are_alike patterns) refl

    -- null, and any
    pub null-holds : has_type Null p.types && is_bare p ss ≡ true → Holds s (plainly (leaf_row unit_entry))
    null-holds t = λ g0 c q. keep-equal way _ _ (null-row way st R r fol tgt v ps es w p ss ls ns (and_left _ _ t) (and_right (has_type Null p.types) _ t))

    pub any-holds : is_untyped p && is_bare p ss && without_lists ls && without_named ns ≡ true → Holds s (plainly (leaf_row any_entry))
    any-holds t = let f = four (is_untyped p) (is_bare p ss) (without_lists ls) (without_named ns) t in λ g0 c q. keep-equal way _ _ (any-row way st R r fol tgt v ps es w p ss ls ns f.0 f.1 f.2 f.3)

    -- ---- references

    abbrev own : Bool
    own = if_given fol p.reference

    quiet : is_none p.enum_values && is_none p.const_value && is_none (less_reference p).reference && (is_none p.format && is_none p.numbers && is_none p.texts && without_lists ls && without_named ns) ≡ true → without_same ss ≡ true
        → judge r v ps fol s ≡ (if_given (types_agree v) p.types && own)
    quiet t x =
        let f = four (is_none p.enum_values) (is_none p.const_value) true (is_none p.format && is_none p.numbers && is_none p.texts && without_lists ls && without_named ns) t in
        let g = three (is_none p.format && is_none p.numbers && is_none p.texts) (without_lists ls) (without_named ns) f.3 in
        let k = three (is_none p.format) (is_none p.numbers) (is_none p.texts) g.0 in
        (λ i. if_given (types_agree v) p.types && none-agrees (is_listed v) p.enum_values f.0 i && none-agrees (same v) p.const_value f.1 i && kind-quiet r p k.0 k.1 k.2 v i && own && parts-quiet r ps ls ns g.1 g.2 v i && same-agrees r v ps fol ss x i)
        ∙ shortened (if_given (types_agree v) p.types) own

    module _ (refs : (q : List ℕ) (t : Target) → P q → target_of q ≡ Some t → Keeps way (fol q) (tgt t)) where
      referred : (o : Option (List ℕ)) → (Given P p.reference → Given P o) → judge r v ps fol s ≡ if_given fol o → Holds s (plainly (reference_row o))
      referred None k e = λ g0 c q. absurd c.1
      referred (Some q) k e = by (target_of q) refl
        where
          by : (u : Option Target) → target_of q ≡ u → Holds s (plainly (row_of_target u))
          by None f = λ g0 c x. absurd c.1
          by (Some t) f = λ g0 c x. keep-from way _ _ _ e (refs q t (k g0.0) f)

      pub reference-holds : is_some p.reference && is_none p.types && no_others (less_reference p) ls ns && without_same ss ≡ true → Holds s (plainly (reference_row p.reference))
      reference-holds t = let f = four (is_some p.reference) (is_none p.types) (no_others (less_reference p) ls ns) (without_same ss) t in
          referred p.reference (λ g. g) (quiet f.2 f.3 ∙ ap (λ b. b && own) (none-agrees (types_agree v) p.types f.1))

      pub typed-reference-holds : (d : Document) → ((q : List ℕ) (ts : Types) → types_of_schema (target d q) ≡ Some ts → fol q ≡ true → types_agree v ts ≡ true)
          → is_some p.reference && same_types p.types (target_types d p.reference) && no_others (less_reference p) ls ns && without_same ss ≡ true → Holds s (plainly (reference_row p.reference))
      typed-reference-holds d g t = let f = four (is_some p.reference) (same_types p.types (target_types d p.reference)) (no_others (less_reference p) ls ns) (without_same ss) t in
          referred p.reference (λ g. g) (quiet f.2 f.3 ∙ by p.reference f.1)
        where
          typed-target : (a b : Option Types) (q : List ℕ) → types_of_schema (target d q) ≡ b → same_types a b ≡ true → (if_given (types_agree v) a && fol q) ≡ fol q
          typed-target (Some (one_type k)) (Some (one_type l)) q e x = same_bools _ _ (λ h. and_right (types_agree v (one_type k)) _ h)
              (λ h. λ i. (ap (types_agree v) (ap one_type (sym (same_type-eq k l x))) ∙ g q (one_type l) e h) i && h i)
          typed-target (Some (one_type k)) None q e x = impossible x
          typed-target (Some (one_type k)) (Some (many_types ls)) q e x = impossible x
          typed-target (Some (many_types ks)) (Some (many_types ls)) q e x = same_bools _ _ (λ h. and_right (types_agree v (many_types ks)) _ h)
              (λ h. λ i. (ap (types_agree v) (ap many_types (lists-same ks ls x)) ∙ g q (many_types ls) e h) i && h i)
          typed-target (Some (many_types ks)) None q e x = impossible x
          typed-target (Some (many_types ks)) (Some (one_type l)) q e x = impossible x
          typed-target None b q e x = impossible x

          by : (o : Option (List ℕ)) → same_types p.types (target_types d o) ≡ true → (if_given (types_agree v) p.types && if_given fol o) ≡ if_given fol o
          by None x = absurd_types p.types x
          by (Some q) x = typed-target p.types (types_of_schema (target d q)) q refl x

    -- ---- schemas that are made of this one

    -- one type and listed values
    pub listed-holds : (vs : List Value) → p.enum_values ≡ Some vs → Holds s (plainly (ruled_row (made (object (less_enum p) ss ls ns)) (allow_rule vs)))
    listed-holds vs e = λ g0 c q. keep-from way _ _ _
        (ap (λ o. if_given (types_agree v) p.types && if_given (is_listed v) o && if_given (same v) p.const_value && of_kind_agrees r p v && own && parts_agree r v ps ls ns && judge_same r v ps fol ss) e
        ∙ moved (if_given (types_agree v) p.types) (is_listed v vs) (if_given (same v) p.const_value) (of_kind_agrees r p v) own (parts_agree r v ps ls ns) (judge_same r v ps fol ss))
        (keep-both way _ _ _ _ (q.0.1 g0) (keep-equal way _ _ refl))

    -- a constant, which the entry leaves out
    pub constant-holds : Holds s (noted (here widened const_note ∷ []) (as_it_is_row (made (object (less_const p) ss ls ns))))
    constant-holds = λ g0 c q. keep-then way _ _ _
        (keep-from way _ _ _ (moved_third (if_given (types_agree v) p.types) (if_given (is_listed v) p.enum_values) (if_given (same v) p.const_value) (of_kind_agrees r p v) own (parts_agree r v ps ls ns) (judge_same r v ps fol ss))
        (keep-wider way (judge r v ps fol (object (less_const p) ss ls ns)) (if_given (same v) p.const_value) (λ e. impossible (sym c.0.0 ∙ e))))
        (q.0.1 g0)

    -- a schema that is made of this one by a merge, with the notes of the merge
    pub merged-holds : (m : Schema) (notes : List Note) → (Free way notes → Keeps way (judge r v ps fol s) (judge r v ps fol m)) → (Refs P s → Refs P m) → Holds s (noted notes (as_it_is_row (made m)))
    merged-holds m notes f k = λ g0 c q. keep-then way _ _ _ (f c.0) (q.0.1 (k g0))

    -- a schema without a type, as one of the type that its keywords are of
    pub untyped-holds : (k : InstanceType) (f : Finding) → is_none p.types ≡ true → is_bare p ss ≡ true
        → Holds (object (of_type k p) ss ls ns) f → Holds s (add_notes untyped f)
    untyped-holds k f t b h = by way refl
      where
        admitted : judge r v ps fol (object (of_type k p) ss ls ns) ≡ true → judge r v ps fol s ≡ true
        admitted g = let a = typed r v ps fol (of_type k p) ss ls ns k (same_type-itself k) b in
            bare r v ps fol p ss ls ns b ∙ (λ i. none-agrees (types_agree v) p.types t i && of_kind_agrees r p v && parts_agree r v ps ls ns) ∙ without_kind (is_kind v k) (of_kind_agrees r p v) (parts_agree r v ps ls ns) (sym a ∙ g)

        by : (m : Way) → way ≡ m → Holds s (add_notes untyped f)
        by narrowed e = λ g0 c q. impossible (sym c.0.0 ∙ ap (λ n. same_way n narrowed) e)
        by widened e = λ g0 c q. keep-then way _ _ _ (subst (λ n. Keeps n (judge r v ps fol s) (judge r v ps fol (object (of_type k p) ss ls ns))) (sym e) admitted) (h g0 (c.0.1, c.1) q)

    -- the same schema with another type that says the same
    pub retyped-holds : (ts : Option Types) → if_given (types_agree v) p.types ≡ if_given (types_agree v) ts → Holds s (plainly (as_it_is_row (made (object (record p { types = ts }) ss ls ns))))
    retyped-holds ts e = λ g0 c q. keep-from way _ _ _ (ap (λ b. b && if_given (is_listed v) p.enum_values && if_given (same v) p.const_value && of_kind_agrees r p v && own && parts_agree r v ps ls ns && judge_same r v ps fol ss) e) (q.0.1 g0)

    pub allowed-holds : (o : Option (List Value)) → p.enum_values ≡ o → is_some o ≡ true → Holds s (plainly (allowed_row (made (object (less_enum p) ss ls ns)) (listed o)))
    allowed-holds None e h = impossible h
    allowed-holds (Some vs) e h = by (list_any is_owner vs)
      where
        by : (b : Bool) → Holds s (plainly (if b then refused_row nested_enum else ruled_row (made (object (less_enum p) ss ls ns)) (allow_rule vs)))
        by true = λ g0 c q. absurd c.1
        by false = listed-holds vs e

    -- a list that holds all types
    pub all-types-hold : list_all (λ k. type_among k p.types) every_type ≡ true → Holds s (plainly (as_it_is_row (made (object (less_types p) ss ls ns))))
    all-types-hold h = retyped-holds None (by p.types h)
      where
        by : (o : Option Types) → list_all (λ k. type_among k o) every_type ≡ true → if_given (types_agree v) o ≡ true
        by None h = impossible h
        by (Some (one_type k)) h = impossible h
        by (Some (many_types ks)) h = some-kind v ks h

    -- a list of one type
    pub one-type-holds : (o : Option Types) → p.types ≡ o → Holds s (plainly (with_type p ss ls ns (only_type o)))
    one-type-holds None e = λ g0 c q. absurd c.1
    one-type-holds (Some (one_type k)) e = λ g0 c q. absurd c.1
    one-type-holds (Some (many_types [])) e = λ g0 c q. absurd c.1
    one-type-holds (Some (many_types (k ∷ []))) e = retyped-holds (Some (one_type k)) (ap (if_given (types_agree v)) e ∙ or_false (is_kind v k))
    one-type-holds (Some (many_types (k ∷ l ∷ ks))) e = λ g0 c q. absurd c.1
