-- Values that are listed without a type.
use Rattle.schema_defs.specs.declared.Setting.{Setting}
use Rattle.std.proofs.Common.{◌≡◌, ℕ, List, [], ◌∷◌, Bool, true, false, ◌&&◌, ◌||◌, not, Option, Some, None, is_none, is_some, refl, sym, ap, ◌∙◌, true≢false}
use Rattle.std.specs.Prelude.{if◌then◌else◌}
use Rattle.std.specs.List.{list_all, list_any}
use Rattle.json_value.specs.Value as value
use Rattle.json_value.specs.Value.{Value, same, null, number, fraction, text, list}
use Rattle.schema_defs.specs.declared.InstanceType.TheVariants.{Integer}
use Rattle.schema_defs.specs.Texts.{Relations}
use Rattle.schema_defs.specs.Schema.{Plain, Schema, object, Same, Lists, Named, no_lists, no_named}
use Rattle.schema_defs.specs.Layer.{Parts, judge, if_given, types_agree, is_listed, of_kind_agrees}
use Rattle.model_defs.specs.Model.{allow_rule}
use Rattle.model_defs.specs.Layer as model
use Rattle.entry_defs.specs.Entry.{Target, Entry, unit_entry}
use Rattle.entry_defs.specs.Layer as entry
use Rattle.entry_defs.specs.Layer.{entry_takes}
use Rattle.convert_defs.specs.Row.{Way, widened, narrowed, Part, made, leaf_row, option_row, ruled_row, plainly, refused_row, nested_enum, mixed_enum}
use Rattle.convert_defs.specs.Standing.{less_enum, listing, of_type, alone, no_keyword}
use Rattle.enum_defs.specs.Words.{without_same, without_lists, without_named}
use Rattle.convert_defs.specs.Scalars.{listed_alone, is_owner, is_number, without_nulls, non_null, texts_in, distinct, texts_entry, never_entry, wanted_of, boolean_finding, lists_both}
use Rattle.convert_defs.specs.Table.{listed, no_others}
use Rattle.convert_defs.specs.Laws.{Keeps, same_way, Free}
use Rattle.convert_defs.proofs.Keeps.{keep-equal, keep-from, keep-to, keep-wider, free-note}
use Rattle.convert_defs.proofs.Views.{View, of_null, of_boolean, of_number, of_text, of_list, of_object}
use Rattle.convert_defs.proofs.Bare.{and_left, and_right, impossible, none-agrees, same-agrees, four, three, not_false}
use Rattle.convert_defs.proofs.Scalars.{never-takes}
use Rattle.convert_defs.proofs.Rows.{Holds, kind-quiet, parts-quiet}
use Rattle.convert_defs.proofs.Options.{listed-without, null-listed, only-nulls}
use Rattle.convert_defs.proofs.Listed.{listed-texts, once, text_among, texts-taken}

pub kind-text : (v w : Value) → same v w ≡ true → model.is_text w ≡ true → model.is_text v ≡ true
kind-text null (text t) h g = impossible h
kind-text null _ h g = impossible g
kind-text (value.boolean b) (text t) h g = impossible h
kind-text (value.boolean b) _ h g = impossible g
kind-text (number z) (text t) h g = impossible h
kind-text (number z) _ h g = impossible g
kind-text fraction (text t) h g = impossible h
kind-text fraction _ h g = impossible g
kind-text (text s) w h g = refl
kind-text (list xs) (text t) h g = impossible h
kind-text (list xs) _ h g = impossible g
kind-text (value.object ms) (text t) h g = impossible h
kind-text (value.object ms) _ h g = impossible g

kind-boolean : (v w : Value) → same v w ≡ true → model.is_boolean w ≡ true → model.is_boolean v ≡ true
kind-boolean null (value.boolean c) h g = impossible h
kind-boolean null _ h g = impossible g
kind-boolean (value.boolean b) w h g = refl
kind-boolean (number z) (value.boolean c) h g = impossible h
kind-boolean (number z) _ h g = impossible g
kind-boolean fraction (value.boolean c) h g = impossible h
kind-boolean fraction _ h g = impossible g
kind-boolean (text s) (value.boolean c) h g = impossible h
kind-boolean (text s) _ h g = impossible g
kind-boolean (list xs) (value.boolean c) h g = impossible h
kind-boolean (list xs) _ h g = impossible g
kind-boolean (value.object ms) (value.boolean c) h g = impossible h
kind-boolean (value.object ms) _ h g = impossible g

kind-number : (v w : Value) → same v w ≡ true → is_number w ≡ true → is_number v ≡ true
kind-number null (number y) h g = impossible h
kind-number null _ h g = impossible g
kind-number (value.boolean b) (number y) h g = impossible h
kind-number (value.boolean b) _ h g = impossible g
kind-number (number z) w h g = refl
kind-number fraction (number y) h g = impossible h
kind-number fraction _ h g = impossible g
kind-number (text s) (number y) h g = impossible h
kind-number (text s) _ h g = impossible g
kind-number (list xs) (number y) h g = impossible h
kind-number (list xs) _ h g = impossible g
kind-number (value.object ms) (number y) h g = impossible h
kind-number (value.object ms) _ h g = impossible g

-- a value that is listed is of the kind of all that are listed
of-kind : (f : Value → Bool) → ((v w : Value) → same v w ≡ true → f w ≡ true → f v ≡ true) → (v : Value) (vs : List Value) → list_all f vs ≡ true → is_listed v vs ≡ true → f v ≡ true
of-kind f g v [] h k = impossible k
of-kind f g v (w ∷ vs) h k = by (same v w) refl (λ q. of-kind f g v vs (and_right (f w) _ h) q)
  where
    by : (b : Bool) → same v w ≡ b → (is_listed v vs ≡ true → f v ≡ true) → f v ≡ true
    by true e q = g v w e (and_left _ _ h)
    by false e q = q (ap (λ b. b || is_listed v vs) (sym e) ∙ k)

pub unlisted : (f : Value → Bool) → ((v w : Value) → same v w ≡ true → f w ≡ true → f v ≡ true) → (v : Value) (vs : List Value) → list_all f vs ≡ true → f v ≡ false → is_listed v vs ≡ false
unlisted f g v vs h n = by (is_listed v vs) refl
  where
    by : (b : Bool) → is_listed v vs ≡ b → b ≡ false
    by true k = absurd (true≢false (sym (of-kind f g v vs h k) ∙ n))
    by false k = refl

module _ (way : Way) (P : List ℕ → Type 0) (st : Setting) (R : Schema → Entry → Type 0) (conv : Part → Entry) (r : Relations) (fol : List ℕ → Bool) (tgt : Target → Bool) (v : Value) (ps : Parts) (es : model.Parts entry.Judge) (w : View way st R r v ps es) (p : Plain) (ss : Same) (ls : Lists) (ns : Named) where
  abbrev it : Schema
  it = object p ss ls ns

  module _ (vs : List Value) (e : p.enum_values ≡ Some vs) (t : is_none p.types ≡ true) (o : no_others (less_enum p) ls ns ≡ true) (x : without_same ss ≡ true) where
    abbrev facts : (true ≡ true) × (is_none p.const_value ≡ true) × (is_none p.reference ≡ true) × ((is_none p.format && is_none p.numbers && is_none p.texts && without_lists ls && without_named ns) ≡ true)
    facts = four true (is_none p.const_value) (is_none p.reference) (is_none p.format && is_none p.numbers && is_none p.texts && without_lists ls && without_named ns) o

    abbrev owners : (is_none p.format && is_none p.numbers && is_none p.texts ≡ true) × (without_lists ls ≡ true) × (without_named ns ≡ true)
    owners = three (is_none p.format && is_none p.numbers && is_none p.texts) (without_lists ls) (without_named ns) facts.3

    kinds-quiet : of_kind_agrees r p v ≡ true
    kinds-quiet = let k = three (is_none p.format) (is_none p.numbers) (is_none p.texts) owners.0 in kind-quiet r p k.0 k.1 k.2 v

    cut : (b : Bool) → (true && b && true && true && true && true && true) ≡ b
    cut true = refl
    cut false = refl

    -- the schema says what is listed
    said : judge r v ps fol it ≡ is_listed v vs
    said = (λ i. none-agrees (types_agree v) p.types t i && if_given (is_listed v) (e i) && none-agrees (same v) p.const_value facts.1 i && kinds-quiet i && none-agrees fol p.reference facts.2 i && parts-quiet r ps ls ns owners.1 owners.2 v i && same-agrees r v ps fol ss x i) ∙ cut (is_listed v vs)

    said-of : (us : List Value) → judge r v ps fol (alone (listing us p)) ≡ is_listed v us
    said-of us = (λ i. none-agrees (types_agree v) p.types t i && is_listed v us && none-agrees (same v) p.const_value facts.1 i && kinds-quiet i && none-agrees fol p.reference facts.2 i && parts-quiet r ps no_lists no_named refl refl v i && true) ∙ cut (is_listed v us)

    nulls : list_all model.is_null vs ≡ true → list_any model.is_null vs ≡ true → is_listed v vs ≡ model.is_null v
    nulls a b = by (is_listed v vs) refl (model.is_null v) refl
      where
        by : (c : Bool) → is_listed v vs ≡ c → (n : Bool) → model.is_null v ≡ n → c ≡ n
        by true h n k = sym (only-nulls v vs a h) ∙ k
        by false h true k = sym h ∙ null-listed v vs k b
        by false h false k = refl

    none-listed : list_all model.is_null vs ≡ true → list_any model.is_null vs ≡ false → is_listed v vs ≡ false
    none-listed a b = by vs a b
      where
        by : (us : List Value) → list_all model.is_null us ≡ true → list_any model.is_null us ≡ false → is_listed v us ≡ false
        by [] a b = refl
        by (u ∷ us) a b = absurd (true≢false (sym (and_left _ _ a) ∙ either (model.is_null u) _ b))
          where
            either : (a b : Bool) → (a || b) ≡ false → a ≡ false
            either true b h = h
            either false b h = refl

    optional : list_any model.is_null vs ≡ true → (y : Bool) → Keeps way (judge r v ps fol (alone (without_nulls vs p))) y → (n : Bool) → model.is_null v ≡ n → Keeps way (judge r v ps fol it) (model.is_null v || y)
    optional b y k true n = keep-equal way _ _ (said ∙ null-listed v vs n b ∙ sym (ap (λ c. c || y) n))
    optional b y k false n = keep-from way _ _ _ (said ∙ sym (listed-without v vs n) ∙ sym (said-of (non_null vs))) (keep-to way _ _ _ k (sym (ap (λ c. c || y) n)))

    texts : list_all model.is_text vs ≡ true → is_listed v vs ≡ text_among (distinct (texts_in vs)) v
    texts a = by v w
      where
        by : (v : Value) {ps : Parts} {es : model.Parts entry.Judge} → View way st R r v ps es → is_listed v vs ≡ text_among (distinct (texts_in vs)) v
        by _ (of_null ps) = unlisted model.is_text kind-text null vs a refl
        by _ (of_boolean b ps) = unlisted model.is_text kind-text (value.boolean b) vs a refl
        by _ (of_number z ps h) = unlisted model.is_text kind-text (number z) vs a refl
        by _ (of_text s ps) = listed-texts s vs ∙ sym (once s (texts_in vs))
        by _ (of_list xs ps ks h) = unlisted model.is_text kind-text (list xs) vs a refl
        by _ (of_object ms ps ks h am) = unlisted model.is_text kind-text (value.object ms) vs a refl

    booleans : list_all model.is_boolean vs ≡ true → Free way (boolean_finding (Some vs)).notes → Keeps way (is_listed v vs) (model.is_boolean v)
    booleans a n = by v w
      where
        listed-both : (b : Bool) → same_way way widened ≡ true → is_listed (value.boolean b) vs ≡ true
        listed-both true e = and_left _ _ (not_false (lists_both vs) (free-note way (not (lists_both vs)) _ n e))
        listed-both false e = and_right _ _ (not_false (lists_both vs) (free-note way (not (lists_both vs)) _ n e))

        by : (v : Value) {ps : Parts} {es : model.Parts entry.Judge} → View way st R r v ps es → Keeps way (is_listed v vs) (model.is_boolean v)
        by _ (of_null ps) = keep-equal way _ _ (unlisted model.is_boolean kind-boolean null vs a refl)
        by _ (of_boolean b ps) = keep-wider way true (is_listed (value.boolean b) vs) (listed-both b)
        by _ (of_number z ps h) = keep-equal way _ _ (unlisted model.is_boolean kind-boolean (number z) vs a refl)
        by _ (of_text s ps) = keep-equal way _ _ (unlisted model.is_boolean kind-boolean (text s) vs a refl)
        by _ (of_list xs ps ks h) = keep-equal way _ _ (unlisted model.is_boolean kind-boolean (list xs) vs a refl)
        by _ (of_object ms ps ks h am) = keep-equal way _ _ (unlisted model.is_boolean kind-boolean (value.object ms) vs a refl)

    whole : (v : Value) → is_number v ≡ true → judge r v ps fol (alone (of_type Integer no_keyword)) ≡ true
    whole (number z) h = refl
    whole null h = impossible h
    whole (value.boolean b) h = impossible h
    whole fraction h = impossible h
    whole (text s) h = impossible h
    whole (list xs) h = impossible h
    whole (value.object ms) h = impossible h

    numbers : (m : Way) (y : Bool) → list_all is_number vs ≡ true → Keeps m (judge r v ps fol (alone (of_type Integer no_keyword))) y → Keeps m (is_listed v vs) (y && is_listed v vs)
    numbers narrowed y a k = λ h. λ i. k (whole v (of-kind is_number kind-number v vs a h)) i && h i
    numbers widened y a k = λ h. and_right y _ h

    pub alone-holds : Holds way P st R conv r fol tgt v ps es w it (listed_alone p vs)
    alone-holds = owner (list_any is_owner vs)
      where
        sixth : (b : Bool) → list_all is_number vs ≡ b → Holds way P st R conv r fol tgt v ps es w it (if b then plainly (ruled_row (made (alone (of_type Integer no_keyword))) (allow_rule vs)) else plainly (refused_row mixed_enum))
        sixth true a = λ g0 c q. keep-from way _ _ _ said (numbers way (entry_takes r v es tgt (conv (made (alone (of_type Integer no_keyword))))) a (q.0.1 (tt, tt)))
        sixth false a = λ g0 c q. absurd c.1

        fifth : (b : Bool) → list_all model.is_boolean vs ≡ b → Holds way P st R conv r fol tgt v ps es w it (if b then boolean_finding (Some vs) else if list_all is_number vs then plainly (ruled_row (made (alone (of_type Integer no_keyword))) (allow_rule vs)) else plainly (refused_row mixed_enum))
        fifth true a = λ g0 c q. keep-from way _ _ _ said (booleans a c.0)
        fifth false a = sixth (list_all is_number vs) refl

        fourth : (b : Bool) → list_all model.is_text vs ≡ b
            → Holds way P st R conv r fol tgt v ps es w it (if b then plainly (leaf_row (texts_entry (wanted_of p) (distinct (texts_in vs)))) else if list_all model.is_boolean vs then boolean_finding (Some vs) else if list_all is_number vs then plainly (ruled_row (made (alone (of_type Integer no_keyword))) (allow_rule vs)) else plainly (refused_row mixed_enum))
        fourth true a = λ g0 c q. keep-equal way _ _ (said ∙ texts a ∙ sym (texts-taken way st R r tgt (wanted_of p) (distinct (texts_in vs)) v ps es w))
        fourth false a = fifth (list_all model.is_boolean vs) refl

        third : (b : Bool) → list_any model.is_null vs ≡ b
            → Holds way P st R conv r fol tgt v ps es w it (if b then plainly (option_row (made (alone (without_nulls vs p)))) else if list_all model.is_text vs then plainly (leaf_row (texts_entry (wanted_of p) (distinct (texts_in vs)))) else if list_all model.is_boolean vs then boolean_finding (Some vs) else if list_all is_number vs then plainly (ruled_row (made (alone (of_type Integer no_keyword))) (allow_rule vs)) else plainly (refused_row mixed_enum))
        third true b = λ g0 c q. optional b (entry_takes r v es tgt (conv (made (alone (without_nulls vs p))))) (q.0.1 (g0.0, tt)) (model.is_null v) refl
        third false b = fourth (list_all model.is_text vs) refl

        unit : list_all model.is_null vs ≡ true → (b : Bool) → list_any model.is_null vs ≡ b → Keeps way (judge r v ps fol it) (entry_takes r v es tgt (if b then unit_entry else never_entry (wanted_of p)))
        unit a true b = keep-equal way _ _ (said ∙ nulls a b)
        unit a false b = keep-equal way _ _ (said ∙ none-listed a b ∙ sym (never-takes way st R r fol tgt v ps es w (wanted_of p)))

        second : (b : Bool) → list_all model.is_null vs ≡ b
            → Holds way P st R conv r fol tgt v ps es w it (if b then plainly (leaf_row (if list_any model.is_null vs then unit_entry else never_entry (wanted_of p))) else if list_any model.is_null vs then plainly (option_row (made (alone (without_nulls vs p)))) else if list_all model.is_text vs then plainly (leaf_row (texts_entry (wanted_of p) (distinct (texts_in vs)))) else if list_all model.is_boolean vs then boolean_finding (Some vs) else if list_all is_number vs then plainly (ruled_row (made (alone (of_type Integer no_keyword))) (allow_rule vs)) else plainly (refused_row mixed_enum))
        second true a = λ g0 c q. unit a (list_any model.is_null vs) refl
        second false a = third (list_any model.is_null vs) refl

        owner : (b : Bool)
            → Holds way P st R conv r fol tgt v ps es w it (if b then plainly (refused_row nested_enum) else if list_all model.is_null vs then plainly (leaf_row (if list_any model.is_null vs then unit_entry else never_entry (wanted_of p))) else if list_any model.is_null vs then plainly (option_row (made (alone (without_nulls vs p)))) else if list_all model.is_text vs then plainly (leaf_row (texts_entry (wanted_of p) (distinct (texts_in vs)))) else if list_all model.is_boolean vs then boolean_finding (Some vs) else if list_all is_number vs then plainly (ruled_row (made (alone (of_type Integer no_keyword))) (allow_rule vs)) else plainly (refused_row mixed_enum))
        owner true = λ g0 c q. absurd c.1
        owner false = second (list_all model.is_null vs) refl

  pub listed-alone-holds : (o : Option (List Value)) → p.enum_values ≡ o → is_some o && is_none p.types && no_others (less_enum p) ls ns && without_same ss ≡ true → Holds way P st R conv r fol tgt v ps es w it (listed_alone p (listed o))
  listed-alone-holds None e t = impossible t
  listed-alone-holds (Some vs) e t = let f = four true (is_none p.types) (no_others (less_enum p) ls ns) (without_same ss) t in alone-holds vs e f.1 f.2 f.3
