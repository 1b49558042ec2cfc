-- Texts that are listed, as variants.
use Rattle.schema_defs.specs.declared.Setting.{Setting}
use Rattle.std.proofs.Common.{◌≡◌, ℕ, List, [], ◌∷◌, ◌++◌, filter, Bool, true, false, ◌&&◌, ◌||◌, not, Option, Some, None, is_none, is_some, option_and_then, refl, sym, ap, ◌∙◌, bytes_eq}
use Rattle.std.specs.Prelude.{if◌then◌else◌}
use Rattle.std.proofs.lemmas.Slice.Eq.{bytes_eq-Decides}
use Rattle.std.specs.List.{list_all, list_any}
use Rattle.json_value.specs.Value as value
use Rattle.json_value.specs.Value.{Value, same, null, number, fraction, text, list}
use Rattle.schema_defs.specs.declared.InstanceType.TheVariants.{Text}
use Rattle.schema_defs.specs.declared.Format.{Format}
use Rattle.schema_defs.specs.Texts.{Relations}
use Rattle.schema_defs.specs.Schema.{Plain, Schema, object, Same, Lists, Named}
use Rattle.schema_defs.specs.Layer.{Parts, if_given, types_agree, is_listed, is_kind, of_kind_agrees, parts_agree, texts_agree, text_format_agrees, format_of}
use Rattle.model_defs.specs.Layer as model
use Rattle.entry_defs.specs.Entry.{Target, Entry, unit_contents, VariantEntry, variants_of}
use Rattle.entry_defs.specs.Layer as entry
use Rattle.entry_defs.specs.Layer.{entry_takes, variant_named, is_unit_named, contents_take}
use Rattle.convert_defs.specs.Row.{Way, widened, narrowed, here, null_note, string_note, Part, leaf_row, noted, plainly, refused_row, bad_value}
use Rattle.enum_defs.specs.Words.{has_type, without_same, is_name}
use Rattle.convert_defs.specs.IntegerRow.{note_if}
use Rattle.convert_defs.specs.Scalars.{texts_in, distinct, unit_variants, texts_entry, nullable_texts, listed_entry, kept_texts, enumerated, given_format, wanted_of}
use Rattle.convert_defs.specs.Table.{listed}
use Rattle.convert_defs.specs.Laws.{Keeps, same_way}
use Rattle.convert_defs.proofs.Keeps.{keep-equal, keep-from, keep-to, keep-wider, free-note, free-left, free-right}
use Rattle.convert_defs.proofs.Views.{View, of_null, of_boolean, of_number, of_text, of_list, of_object}
use Rattle.convert_defs.proofs.Bare.{and_left, and_right, and_true, and_false, impossible, none-agrees, same-agrees, has_type-is, three}
use Rattle.convert_defs.proofs.Rows.{Holds}

-- ---- names among names

same-text : (s t : List ℕ) → bytes_eq s t ≡ true → s ≡ t
same-text s t h = (bytes_eq-Decides s t).0 h

turned : (s t : List ℕ) → bytes_eq s t ≡ bytes_eq t s
turned s t = by (bytes_eq s t) refl (bytes_eq t s) refl
  where
    one : (x y : List ℕ) → bytes_eq x y ≡ true → bytes_eq y x ≡ true
    one x y h = (bytes_eq-Decides y x).1 (sym (same-text x y h))

    by : (a : Bool) → bytes_eq s t ≡ a → (b : Bool) → bytes_eq t s ≡ b → a ≡ b
    by true h true k = refl
    by true h false k = sym (one s t h) ∙ k
    by false h true k = sym h ∙ one t s k
    by false h false k = refl

pub listed-texts : (s : List ℕ) (vs : List Value) → is_listed (text s) vs ≡ is_name s (texts_in vs)
listed-texts s [] = refl
listed-texts s (text t ∷ vs) = ap (λ b. bytes_eq s t || b) (listed-texts s vs)
listed-texts s (null ∷ vs) = listed-texts s vs
listed-texts s (value.boolean b ∷ vs) = listed-texts s vs
listed-texts s (number z ∷ vs) = listed-texts s vs
listed-texts s (fraction ∷ vs) = listed-texts s vs
listed-texts s (list xs ∷ vs) = listed-texts s vs
listed-texts s (value.object ms ∷ vs) = listed-texts s vs

filtered : (s : List ℕ) (f : List ℕ → Bool) (ns : List (List ℕ)) → is_name s (filter f ns) ≡ (is_name s ns && f s)
filtered s f [] = refl
filtered s f (n ∷ ns) = by (f n) refl (bytes_eq s n) refl (filtered s f ns)
  where
    same-f : (b c : Bool) → f n ≡ b → bytes_eq s n ≡ c → c ≡ true → f s ≡ b
    same-f b c h e g = ap f (same-text s n (e ∙ g)) ∙ h

    by : (b : Bool) → f n ≡ b → (c : Bool) → bytes_eq s n ≡ c → is_name s (filter f ns) ≡ (is_name s ns && f s) → is_name s (if b then n ∷ filter f ns else filter f ns) ≡ ((bytes_eq s n || is_name s ns) && f s)
    by true h true e k = ap (λ b. b || is_name s (filter f ns)) e ∙ sym (same-f true true h e refl) ∙ ap (λ b. (b || is_name s ns) && f s) (sym e)
    by true h false e k = ap (λ b. b || is_name s (filter f ns)) e ∙ k ∙ ap (λ b. (b || is_name s ns) && f s) (sym e)
    by false h true e k = k ∙ ap (λ b. is_name s ns && b) (same-f false true h e refl) ∙ and_false (is_name s ns) ∙ sym (same-f false true h e refl) ∙ ap (λ b. (b || is_name s ns) && f s) (sym e)
    by false h false e k = k ∙ ap (λ b. (b || is_name s ns) && f s) (sym e)

pub once : (s : List ℕ) (ns : List (List ℕ)) → is_name s (distinct ns) ≡ is_name s ns
once s [] = refl
once s (n ∷ ns) = ap (λ b. bytes_eq s n || b) (filtered s (λ m. not (bytes_eq n m)) (distinct ns) ∙ (λ i. once s ns i && not (turned n s i))) ∙ by (bytes_eq s n) (is_name s ns)
  where
    by : (a b : Bool) → (a || (b && not a)) ≡ (a || b)
    by true b = refl
    by false b = and_true b

abbrev unit : List ℕ → VariantEntry
unit n = record { identifier = n; name = n; contents = unit_contents }

named : (s : List ℕ) (ns : List (List ℕ)) → is_unit_named (variant_named s (variants_of (unit_variants ns))) ≡ is_name s ns
named s [] = refl
named s (n ∷ ns) = by (bytes_eq s n) (named s ns)
  where
    by : (b : Bool) → is_unit_named (variant_named s (variants_of (unit_variants ns))) ≡ is_name s ns → is_unit_named (if b then Some (unit n) else variant_named s (variants_of (unit_variants ns))) ≡ (b || is_name s ns)
    by true h = refl
    by false h = h

no-contents : (j : entry.Judge) (n : List ℕ) (ns : List (List ℕ)) → contents_take false j (variant_named n (variants_of (unit_variants ns))) ≡ false
no-contents j n [] = refl
no-contents j n (m ∷ ns) = by (bytes_eq n m) (no-contents j n ns)
  where
    by : (b : Bool) → contents_take false j (variant_named n (variants_of (unit_variants ns))) ≡ false → contents_take false j (if b then Some (unit m) else variant_named n (variants_of (unit_variants ns))) ≡ false
    by true h = refl
    by false h = h

-- ---- the enum of texts

abbrev pub text_among : List (List ℕ) → Value → Bool
text_among ts (text s) = is_name s ts
text_among ts _ = false

module _ (way : Way) (st : Setting) (R : Schema → Entry → Type 0) (r : Relations) (tgt : Target → Bool) where
  pub texts-taken : (name : List ℕ) (ts : List (List ℕ)) (v : Value) (ps : Parts) (es : model.Parts entry.Judge) → View way st R r v ps es → entry_takes r v es tgt (texts_entry name ts) ≡ text_among ts v
  texts-taken name [] _ _ _ (of_null ps) = refl
  texts-taken name [] _ _ _ (of_boolean b ps) = refl
  texts-taken name [] _ _ _ (of_number z ps h) = refl
  texts-taken name [] _ _ _ (of_text s ps) = refl
  texts-taken name [] _ _ _ (of_list xs ps ks h) = refl
  texts-taken name [] _ _ _ (of_object ms ps [] h am) = refl
  texts-taken name [] _ _ _ (of_object ms ps (k ∷ []) h am) = refl
  texts-taken name [] _ _ _ (of_object ms ps (k ∷ l ∷ ks) h am) = refl
  texts-taken name (t ∷ ts) _ _ _ (of_null ps) = refl
  texts-taken name (t ∷ ts) _ _ _ (of_boolean b ps) = refl
  texts-taken name (t ∷ ts) _ _ _ (of_number z ps h) = refl
  texts-taken name (t ∷ ts) _ _ _ (of_text s ps) = named s (t ∷ ts)
  texts-taken name (t ∷ ts) _ _ _ (of_list xs ps ks h) = refl
  texts-taken name (t ∷ ts) _ _ _ (of_object ms ps [] h am) = refl
  texts-taken name (t ∷ ts) _ _ _ (of_object ms ps (k ∷ []) h am) = no-contents k.value k.name (t ∷ ts)
  texts-taken name (t ∷ ts) _ _ _ (of_object ms ps (k ∷ l ∷ ks) h am) = refl

  pub nullable-taken : (name : List ℕ) (ts : List (List ℕ)) (v : Value) (ps : Parts) (es : model.Parts entry.Judge) → View way st R r v ps es → entry_takes r v es tgt (nullable_texts name ts) ≡ (model.is_null v || text_among ts v)
  nullable-taken name [] v ps es w = none (model.is_null v) v
    where
      none : (b : Bool) (v : Value) → b ≡ (b || text_among [] v)
      none true v = refl
      none false null = refl
      none false (value.boolean b) = refl
      none false (number z) = refl
      none false fraction = refl
      none false (text s) = refl
      none false (list xs) = refl
      none false (value.object ms) = refl
  nullable-taken name (t ∷ ts) v ps es w = ap (λ b. model.is_null v || b) (texts-taken name (t ∷ ts) v ps es w)

-- ---- the row

module _ (way : Way) (P : List ℕ → Type 0) (st : Setting) (R : Schema → Entry → Type 0) (conv : Part → Entry) (r : Relations) (fol : List ℕ → Bool) (tgt : Target → Bool) (p : Plain) (ss : Same) (ls : Lists) (ns : Named) where
  module _ (vs : List Value) where
    abbrev kept : List (List ℕ)
    kept = kept_texts r p.texts vs

    kept-says : (s : List ℕ) → is_name s kept ≡ (is_listed (text s) vs && if_given (texts_agree r s) p.texts)
    kept-says s = once s _ ∙ filtered s (λ s. if_given (texts_agree r s) p.texts) (texts_in vs) ∙ ap (λ b. b && if_given (texts_agree r s) p.texts) (sym (listed-texts s vs))

    ordered : (l x f : Bool) → (true && l && true && (x && f) && true && true && true) ≡ (l && x && f)
    ordered true true true = refl
    ordered true true false = refl
    ordered true false f = refl
    ordered false x f = refl

    format-free : (o : Option (List ℕ)) (s : List ℕ) → is_some (option_and_then format_of o) ≡ false → if_given (text_format_agrees r s) o ≡ true
    format-free None s h = refl
    format-free (Some f) s h = by (format_of f) h
      where
        by : (g : Option Format) → is_some g ≡ false → if_given (λ k. r.has_format k s) g ≡ true
        by None h = refl
        by (Some g) h = impossible (sym h)

    abbrev it : Value → Parts → Bool
    it v ps = is_kind v Text && is_listed v vs && true && of_kind_agrees r p v && true && parts_agree r v ps ls ns && true

    entry-says : (b : Bool) (v : Value) (ps : Parts) (es : model.Parts entry.Judge) → View way st R r v ps es → entry_takes r v es tgt (listed_entry b (wanted_of p) kept) ≡ (b && model.is_null v || text_among kept v)
    entry-says true v ps es w = nullable-taken way st R r tgt (wanted_of p) kept v ps es w
    entry-says false v ps es w = texts-taken way st R r tgt (wanted_of p) kept v ps es w

    row-says : (b : Bool) → (same_way way widened ≡ true → b ≡ false) → (same_way way widened ≡ true → is_some (given_format p) ≡ false) → (v : Value) (ps : Parts) (es : model.Parts entry.Judge) → View way st R r v ps es → Keeps way (it v ps) (b && model.is_null v || text_among kept v)
    row-says b n g _ _ _ (of_null ps) = by way b n
      where
        by : (m : Way) (b : Bool) → (same_way m widened ≡ true → b ≡ false) → Keeps m false (b && true || false)
        by narrowed b n = λ t. impossible t
        by widened true n = λ t. sym (n refl)
        by widened false n = λ t. t
    row-says b n g _ _ _ (of_boolean c ps) = keep-equal way _ _ (sym (nothing b))
      where
        nothing : (b : Bool) → (b && false || false) ≡ false
        nothing true = refl
        nothing false = refl
    row-says b n g _ _ _ (of_number z ps h) = keep-equal way _ _ (sym (nothing b))
      where
        nothing : (b : Bool) → (b && false || false) ≡ false
        nothing true = refl
        nothing false = refl
    row-says b n g _ _ _ (of_list xs ps ks h) = keep-equal way _ _ (sym (nothing b))
      where
        nothing : (b : Bool) → (b && false || false) ≡ false
        nothing true = refl
        nothing false = refl
    row-says b n g _ _ _ (of_object ms ps ks h am) = keep-equal way _ _ (sym (nothing b))
      where
        nothing : (b : Bool) → (b && false || false) ≡ false
        nothing true = refl
        nothing false = refl
    row-says b n g _ _ _ (of_text s ps) = keep-from way _ _ _ (ordered (is_listed (text s) vs) (if_given (texts_agree r s) p.texts) (if_given (text_format_agrees r s) p.format))
        (keep-to way _ _ _ (keep-wider way (is_listed (text s) vs && if_given (texts_agree r s) p.texts) (if_given (text_format_agrees r s) p.format) (λ e. format-free p.format s (g e)))
        (sym (kept-says s) ∙ sym (ap (λ c. c || is_name s kept) (and_false b))))

  pub enumerated-holds : (v : Value) (ps : Parts) (es : model.Parts entry.Judge) (w : View way st R r v ps es) (o : Option (List Value)) → p.enum_values ≡ o
      → has_type Text p.types && is_some o && is_none p.const_value && is_none p.reference && without_same ss ≡ true → Holds way P st R conv r fol tgt v ps es w (object p ss ls ns) (enumerated r p (listed o))
  enumerated-holds v ps es w None e t = impossible (sym (and_false (has_type Text p.types)) ∙ (three (has_type Text p.types && false) (is_none p.const_value) (is_none p.reference) (and_left _ _ t)).0)
  enumerated-holds v ps es w (Some vs) e t = by (list_all (λ v. model.is_text v || model.is_null v) vs)
    where
      f : (has_type Text p.types && true ≡ true) × (is_none p.const_value ≡ true) × (is_none p.reference ≡ true)
      f = three (has_type Text p.types && true) (is_none p.const_value) (is_none p.reference) (and_left _ (without_same ss) t)

      by : (b : Bool) → Holds way P st R conv r fol tgt v ps es w (object p ss ls ns)
          (if b then noted (note_if (list_any model.is_null vs) (here widened null_note) ++ note_if (is_some (given_format p)) (here widened string_note)) (leaf_row (listed_entry (list_any model.is_null vs) (wanted_of p) (kept vs))) else plainly (refused_row bad_value))
      by false = λ g0 c q. absurd c.1
      by true = λ g0 c q.
          keep-from way _ _ _ (λ i. if_given (types_agree v) (has_type-is Text p.types (and_left _ _ f.0) i) && if_given (is_listed v) (e i) && none-agrees (same v) p.const_value f.1 i && of_kind_agrees r p v && none-agrees fol p.reference f.2 i && parts_agree r v ps ls ns && same-agrees r v ps fol ss (and_right _ (without_same ss) t) i)
          (keep-to way _ _ _ (row-says vs (list_any model.is_null vs)
          (free-note way (list_any model.is_null vs) _ (free-left way _ (note_if (is_some (given_format p)) (here widened string_note)) c.0))
          (free-note way (is_some (given_format p)) _ (free-right way (note_if (list_any model.is_null vs) (here widened null_note)) _ c.0)) v ps es w)
          (sym (entry-says vs (list_any model.is_null vs) v ps es w)))
