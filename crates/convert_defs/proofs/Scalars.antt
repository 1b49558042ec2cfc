-- Rows that convert nothing further: any, never, null, booleans, texts, and whole numbers.
use Rattle.schema_defs.specs.declared.Setting.{Setting}
use Rattle.std.proofs.Common.{◌≡◌, ℕ, List, [], ◌∷◌, Bool, true, false, ◌&&◌, not, Option, Some, None, is_none, option_and_then, refl, ap, ◌∙◌}
use Rattle.json_value.specs.Value as value
use Rattle.json_value.specs.Value.{Value, Items, Members, null, number, text, list, no_items, same}
use Rattle.schema_defs.specs.declared.InstanceType.TheVariants.{Null, Boolean, Text}
use Rattle.schema_defs.specs.declared.Format.{Format}
use Rattle.schema_defs.specs.Texts.{Relations}
use Rattle.schema_defs.specs.Schema.{Plain, Texts, Schema, object, Same, Lists, no_lists, Named, no_named}
use Rattle.schema_defs.specs.Layer.{Parts, judge, if_given, of_kind_agrees, parts_agree, numbers_agree, number_format_agrees, is_kind, types_agree, is_listed, format_of, texts_agree, text_format_agrees}
use Rattle.model_defs.specs.Layer as model
use Rattle.model_defs.specs.Layer.{MemberPart, no_parts, list_parts, object_parts}
use Rattle.entry_defs.specs.Entry.{Target, Entry, boolean_entry, text_entry, native_entry, any_entry, unit_entry}
use Rattle.entry_defs.specs.Layer as entry
use Rattle.entry_defs.specs.Layer.{entry_takes, external_takes}
use Rattle.convert_defs.specs.Standing.{is_untyped}
use Rattle.enum_defs.specs.Words.{has_type, without_same, without_lists, without_named, is_bare}
use Rattle.convert_defs.specs.Scalars.{never_entry, given_format, ruled_text, rule_of_texts, boolean_finding, lists_both}
use Rattle.convert_defs.specs.Row.{Way, widened}
use Rattle.convert_defs.specs.Laws.{Keeps, same_way, Free}
use Rattle.convert_defs.proofs.Keeps.{keep-equal, keep-from, keep-wider, free-note}
use Rattle.convert_defs.proofs.Views.{View, of_null, of_boolean, of_number, of_text, of_list, of_object}
use Rattle.convert_defs.proofs.Bare.{and_left, and_right, and_true, four, none-agrees, no-lists, no-named, bare, typed, same-agrees, has_type-is, not_false, swapped}

format-said : (r : Relations) (s : List ℕ) (o : Option (List ℕ)) → if_given (text_format_agrees r s) o ≡ if_given (λ k. r.has_format k s) (option_and_then format_of o)
format-said r s None = refl
format-said r s (Some f) = refl

module _ (way : Way) (st : Setting) (R : Schema → Entry → Type 0) (r : Relations) (fol : List ℕ → Bool) (tgt : Target → Bool) where
  -- the schema admits the value where the entry takes it, one way, and both ways
  abbrev pub Agrees : Value → Parts → model.Parts entry.Judge → Schema → Entry → Type 0
  Agrees v ps es s e = Keeps way (judge r v ps fol s) (entry_takes r v es tgt e)

  abbrev pub Equal : Value → Parts → model.Parts entry.Judge → Schema → Entry → Type 0
  Equal v ps es s e = judge r v ps fol s ≡ entry_takes r v es tgt e

  pub never-takes : (v : Value) (ps : Parts) (es : model.Parts entry.Judge) → View way st R r v ps es → (n : List ℕ) → entry_takes r v es tgt (never_entry n) ≡ false
  never-takes _ _ _ (of_null ps) n = refl
  never-takes _ _ _ (of_boolean b ps) n = refl
  never-takes _ _ _ (of_number z ps s) n = refl
  never-takes _ _ _ (of_text s ps) n = refl
  never-takes _ _ _ (of_list xs ps ks h) n = refl
  never-takes _ _ _ (of_object ms ps [] h am) n = refl
  never-takes _ _ _ (of_object ms ps (k ∷ []) h am) n = refl
  never-takes _ _ _ (of_object ms ps (k ∷ l ∷ ks) h am) n = refl

  module _ (v : Value) (ps : Parts) (es : model.Parts entry.Judge) (w : View way st R r v ps es) (p : Plain) (ss : Same) (ls : Lists) (ns : Named) where
    -- null
    pub null-row : has_type Null p.types ≡ true → is_bare p ss ≡ true → Equal v ps es (object p ss ls ns) unit_entry
    null-row t h = typed r v ps fol p ss ls ns Null t h ∙ by w
      where
        by : {v : Value} {ps : Parts} {es : model.Parts entry.Judge} → View way st R r v ps es → (is_kind v Null && of_kind_agrees r p v && parts_agree r v ps ls ns) ≡ model.is_null v
        by (of_null ps) = refl
        by (of_boolean b ps) = refl
        by (of_number z ps s) = refl
        by (of_text s ps) = refl
        by (of_list xs ps ks h) = refl
        by (of_object ms ps ks h am) = refl

    -- no keyword
    pub any-row : is_untyped p ≡ true → is_bare p ss ≡ true → without_lists ls ≡ true → without_named ns ≡ true → Equal v ps es (object p ss ls ns) any_entry
    any-row u h l n = let f = four (is_none p.types) (is_none p.format) (is_none p.numbers) (is_none p.texts) u in
        bare r v ps fol p ss ls ns h
        ∙ (λ i. none-agrees (types_agree v) p.types f.0 i && of_kind_agrees r p v && parts_agree r v ps (no-lists ls l i) (no-named ns n i))
        ∙ by f w
      where
        by : {v : Value} {ps : Parts} {es : model.Parts entry.Judge} → (is_none p.types ≡ true) × (is_none p.format ≡ true) × (is_none p.numbers ≡ true) × (is_none p.texts ≡ true) → View way st R r v ps es → (of_kind_agrees r p v && parts_agree r v ps no_lists no_named) ≡ true
        by f (of_null ps) = refl
        by f (of_boolean b ps) = refl
        by f (of_number z ps s) = λ i. none-agrees (numbers_agree z) p.numbers f.2 i && none-agrees (number_format_agrees z) p.format f.1 i && true
        by f (of_text s ps) = λ i. none-agrees (texts_agree r s) p.texts f.3 i && none-agrees (text_format_agrees r s) p.format f.1 i && true
        by f (of_list xs ps ks h) = refl
        by f (of_object ms ps ks h am) = refl

    -- texts alone
    pub text-row : has_type Text p.types ≡ true → is_bare p ss ≡ true → given_format p ≡ None → p.texts ≡ None → Equal v ps es (object p ss ls ns) text_entry
    text-row t h f x = typed r v ps fol p ss ls ns Text t h ∙ by w
      where
        by : {v : Value} {ps : Parts} {es : model.Parts entry.Judge} → View way st R r v ps es → (is_kind v Text && of_kind_agrees r p v && parts_agree r v ps ls ns) ≡ model.is_text v
        by (of_null ps) = refl
        by (of_boolean b ps) = refl
        by (of_number z ps s) = refl
        by (of_text s ps) = λ i. if_given (texts_agree r s) (x i) && (format-said r s p.format ∙ ap (if_given (λ k. r.has_format k s)) f) i && true
        by (of_list xs ps ks h) = refl
        by (of_object ms ps ks h am) = refl

    -- a native format
    pub native-row : (g : Format) → has_type Text p.types ≡ true → is_bare p ss ≡ true → given_format p ≡ Some g → (same_way way widened ≡ true → p.texts ≡ None) → Agrees v ps es (object p ss ls ns) (native_entry g)
    native-row g t h f x = keep-from way _ _ _ (typed r v ps fol p ss ls ns Text t h) (by w)
      where
        none-said : (s : List ℕ) → (same_way way widened ≡ true → p.texts ≡ None) → same_way way widened ≡ true → if_given (texts_agree r s) p.texts ≡ true
        none-said s y e = ap (if_given (texts_agree r s)) (y e)

        by : {v : Value} {ps : Parts} {es : model.Parts entry.Judge} → View way st R r v ps es → Keeps way (is_kind v Text && of_kind_agrees r p v && parts_agree r v ps ls ns) (model.has_the_format r g v)
        by (of_null ps) = keep-equal way _ _ refl
        by (of_boolean b ps) = keep-equal way _ _ refl
        by (of_number z ps s) = keep-equal way _ _ refl
        by (of_text s ps) = keep-from way _ _ _ (and_true (if_given (texts_agree r s) p.texts && if_given (text_format_agrees r s) p.format)
            ∙ (λ i. if_given (texts_agree r s) p.texts && (format-said r s p.format ∙ ap (if_given (λ k. r.has_format k s)) f) i) ∙ swapped (if_given (texts_agree r s) p.texts) (r.has_format g s))
            (keep-wider way (r.has_format g s) (if_given (texts_agree r s) p.texts) (none-said s x))
        by (of_list xs ps ks h) = keep-equal way _ _ refl
        by (of_object ms ps ks h am) = keep-equal way _ _ refl

    -- texts with lengths or patterns
    pub ruled-row : (n : List ℕ) (c : Texts) → has_type Text p.types ≡ true → is_bare p ss ≡ true → given_format p ≡ None → p.texts ≡ Some c → Equal v ps es (object p ss ls ns) (ruled_text n (Some c))
    ruled-row n c t h f x = typed r v ps fol p ss ls ns Text t h ∙ by w
      where
        by : {v : Value} {ps : Parts} {es : model.Parts entry.Judge} → View way st R r v ps es → (is_kind v Text && of_kind_agrees r p v && parts_agree r v ps ls ns) ≡ (model.is_text v && model.rule_agrees r v (rule_of_texts c))
        by (of_null ps) = refl
        by (of_boolean b ps) = refl
        by (of_number z ps s) = refl
        by (of_text s ps) = (λ i. if_given (texts_agree r s) (x i) && (format-said r s p.format ∙ ap (if_given (λ k. r.has_format k s)) f) i && true) ∙ and_true (texts_agree r s c && true)
        by (of_list xs ps ks h) = refl
        by (of_object ms ps ks h am) = refl

    -- booleans, all of them or both listed
    pub boolean-row : has_type Boolean p.types ≡ true → is_none p.const_value ≡ true → is_none p.reference ≡ true → without_same ss ≡ true → Free way (boolean_finding p.enum_values).notes → Agrees v ps es (object p ss ls ns) boolean_entry
    boolean-row t c q x n = keep-from way _ _ _
        (λ i. if_given (types_agree v) (has_type-is Boolean p.types t i) && if_given (is_listed v) p.enum_values && none-agrees (same v) p.const_value c i && of_kind_agrees r p v
        && none-agrees fol p.reference q i && parts_agree r v ps ls ns && same-agrees r v ps fol ss x i)
        (by p.enum_values n w)
      where
        all_true : (b : Bool) → (b && true && true && true && true && true) ≡ b
        all_true true = refl
        all_true false = refl

        listed : (o : Option (List Value)) (b : Bool) → Free way (boolean_finding o).notes → same_way way widened ≡ true → if_given (is_listed (value.boolean b)) o ≡ true
        listed None b n e = refl
        listed (Some vs) true n e = and_left _ _ (not_false (lists_both vs) (free-note way (not (lists_both vs)) _ n e))
        listed (Some vs) false n e = and_right _ _ (not_false (lists_both vs) (free-note way (not (lists_both vs)) _ n e))

        by : {v : Value} {ps : Parts} {es : model.Parts entry.Judge} (o : Option (List Value)) → Free way (boolean_finding o).notes → View way st R r v ps es
            → Keeps way (is_kind v Boolean && if_given (is_listed v) o && true && of_kind_agrees r p v && true && parts_agree r v ps ls ns && true) (model.is_boolean v)
        by o n (of_null ps) = keep-equal way _ _ refl
        by o n (of_boolean b ps) = keep-from way _ _ _ (all_true (if_given (is_listed (value.boolean b)) o)) (keep-wider way true (if_given (is_listed (value.boolean b)) o) (listed o b n))
        by o n (of_number z ps s) = keep-equal way _ _ refl
        by o n (of_text s ps) = keep-equal way _ _ refl
        by o n (of_list xs ps ks h) = keep-equal way _ _ refl
        by o n (of_object ms ps ks h am) = keep-equal way _ _ refl
