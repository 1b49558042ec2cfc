-- A text that is constant, as a list of one.
use Rattle.schema_defs.specs.declared.Setting.{Setting}
use Rattle.std.proofs.Common.{◌≡◌, ℕ, List, [], ◌∷◌, Bool, true, false, ◌&&◌, ◌||◌, Option, Some, None, is_none, is_some, option_and_then, refl, sym, ap, ◌∙◌, bytes_eq, cond}
use Rattle.std.proofs.lemmas.Slice.Eq.{bytes_eq-Decides}
use Rattle.json_value.specs.Value as value
use Rattle.json_value.specs.Value.{Value, same, null, number, fraction, text, list}
use Rattle.schema_defs.specs.declared.InstanceType.TheVariants.{Text}
use Rattle.schema_defs.specs.Texts.{Relations}
use Rattle.schema_defs.specs.Schema.{Types, one_type, many_types, Plain, Schema, object, Same, Lists, Named}
use Rattle.schema_defs.specs.Layer.{Parts, judge, judge_same, if_given, types_agree, is_listed, is_kind, of_kind_agrees, parts_agree}
use Rattle.model_defs.specs.Layer as model
use Rattle.entry_defs.specs.Entry.{Target, Entry}
use Rattle.entry_defs.specs.Layer as entry
use Rattle.convert_defs.specs.Row.{Way, Part}
use Rattle.enum_defs.specs.Words.{as_text, has_type, without_same}
use Rattle.convert_defs.specs.Table.{constant_of, constant_list, constant_finding}
use Rattle.convert_defs.proofs.Keeps.{keep-from}
use Rattle.convert_defs.proofs.Views.{View}
use Rattle.convert_defs.proofs.Bare.{and_true, and_false, impossible, none-some, some-same, four, same_type-eq}
use Rattle.convert_defs.proofs.Rows.{Holds}
use Rattle.convert_defs.proofs.Listed.{enumerated-holds}

constant-is : (o : Option Value) (s : List ℕ) → option_and_then as_text o ≡ Some s → o ≡ Some (text s)
constant-is None s h = none-some s h
constant-is (Some null) s h = none-some s h
constant-is (Some (value.boolean b)) s h = none-some s h
constant-is (Some (number z)) s h = none-some s h
constant-is (Some fraction) s h = none-some s h
constant-is (Some (text t)) s h = ap (λ u. Some (text u)) (some-same t s h)
constant-is (Some (list xs)) s h = none-some s h
constant-is (Some (value.object ms)) s h = none-some s h

abbrev listing : List Value → Plain → Plain
listing vs p = record p { types = Some (one_type Text); enum_values = Some vs; const_value = None }

-- types, listed values and the constant, of one text
text-types : (o : Option Types) (t : List ℕ) → (is_none o || has_type Text o) ≡ true → if_given (types_agree (text t)) o ≡ true
text-types None t h = refl
text-types (Some (one_type k)) t h = ap (is_kind (text t)) (same_type-eq Text k h)
text-types (Some (many_types ks)) t h = impossible h

dropped : (a c : Bool) → (a && (false && c)) ≡ false
dropped a c = and_false a

not-listed : (a b : Bool) (x : Bool) → (a && b && false && x) ≡ false
not-listed a b x = ap (λ z. z && x) (and_false (a && b))

listed-one : (t s : List ℕ) (o : Option (List Value)) → (if_given (is_listed (text t)) o && bytes_eq t s) ≡ is_listed (text t) (constant_list s o)
listed-one t s None = sym (or-false (bytes_eq t s))
  where
    or-false : (b : Bool) → (b || false) ≡ b
    or-false true = refl
    or-false false = refl
listed-one t s (Some vs) = by (bytes_eq t s) refl (is_listed (text s) vs) refl
  where
    by : (b : Bool) → bytes_eq t s ≡ b → (c : Bool) → is_listed (text s) vs ≡ c → (is_listed (text t) vs && b) ≡ is_listed (text t) (cond c (text s ∷ []) [])
    by true e true f = and_true (is_listed (text t) vs) ∙ ap (λ u. is_listed (text u) vs) ((bytes_eq-Decides t s).0 e) ∙ f ∙ sym (ap (λ b. b || false) e)
    by true e false f = and_true (is_listed (text t) vs) ∙ ap (λ u. is_listed (text u) vs) ((bytes_eq-Decides t s).0 e) ∙ f
    by false e true f = and_false (is_listed (text t) vs) ∙ sym (ap (λ b. b || false) e)
    by false e false f = and_false (is_listed (text t) vs)

-- what is no text is neither constant nor listed
none-listed : (v : Value) (s : List ℕ) (c : Bool) → same v (text s) ≡ false → is_listed v (cond c (text s ∷ []) []) ≡ false
none-listed v s true h = ap (λ b. b || false) h
none-listed v s false h = refl

none-constant : (v : Value) (s : List ℕ) (o : Option (List Value)) → same v (text s) ≡ false → is_listed v (constant_list s o) ≡ false
none-constant v s None h = ap (λ b. b || false) h
none-constant v s (Some vs) h = none-listed v s (is_listed (text s) vs) h

-- a schema of one text admits that text alone
one-text : (v : Value) (s : List ℕ) (t c : Bool) → (same v (text s) ≡ true → t ≡ true) → (t && same v (text s)) ≡ same v (text s)
one-text v s t c f = by (same v (text s)) f
  where
    by : (b : Bool) → (b ≡ true → t ≡ true) → (t && b) ≡ b
    by true f = ap (λ x. x && true) (f refl)
    by false f = and_false t

pub text-only : (v : Value) (s : List ℕ) → same v (text s) ≡ true → v ≡ text s
text-only null s h = impossible h
text-only (value.boolean b) s h = impossible h
text-only (number z) s h = impossible h
text-only fraction s h = impossible h
text-only (text t) s h = ap text ((bytes_eq-Decides t s).0 h)
text-only (list xs) s h = impossible h
text-only (value.object ms) s h = impossible h

text-typed : (o : Option Types) (v : Value) (s : List ℕ) → (is_none o || has_type Text o) ≡ true → same v (text s) ≡ true → if_given (types_agree v) o ≡ true
text-typed o v s h e = ap (λ u. if_given (types_agree u) o) (text-only v s e) ∙ text-types o s h

module _ (way : Way) (P : List ℕ → Type 0) (st : Setting) (R : Schema → Entry → Type 0) (conv : Part → Entry) (r : Relations) (fol : List ℕ → Bool) (tgt : Target → Bool) (p : Plain) (ss : Same) (ls : Lists) (ns : Named) (v : Value) (ps : Parts) (es : model.Parts entry.Judge) (w : View way st R r v ps es) where
  module _ (s : List ℕ) (e : p.const_value ≡ Some (text s)) (h : (is_none p.types || has_type Text p.types) ≡ true) where
    abbrev vs : List Value
    vs = constant_list s p.enum_values

    abbrev after : Value → Bool
    after v = of_kind_agrees r p v && true

    core : (u : Value) → (if_given (types_agree u) p.types && if_given (is_listed u) p.enum_values && same u (text s)) ≡ (is_kind u Text && is_listed u vs && true)
    core (text t) =
        (λ i. text-types p.types t h i && if_given (is_listed (text t)) p.enum_values && bytes_eq t s)
        ∙ listed-one t s p.enum_values ∙ sym (and_true (is_listed (text t) vs))
    core null = and_false (if_given (types_agree null) p.types && if_given (is_listed null) p.enum_values)
    core (value.boolean b) = and_false (if_given (types_agree (value.boolean b)) p.types && if_given (is_listed (value.boolean b)) p.enum_values)
    core (number z) = and_false (if_given (types_agree (number z)) p.types && if_given (is_listed (number z)) p.enum_values)
    core fraction = and_false (if_given (types_agree fraction) p.types && if_given (is_listed fraction) p.enum_values)
    core (list xs) = and_false (if_given (types_agree (list xs)) p.types && if_given (is_listed (list xs)) p.enum_values)
    core (value.object ms) = and_false (if_given (types_agree (value.object ms)) p.types && if_given (is_listed (value.object ms)) p.enum_values)

    says-same : judge r v ps fol (object p ss ls ns) ≡ judge r v ps fol (object (listing vs p) ss ls ns)
    says-same =
        ap (λ o. if_given (types_agree v) p.types && if_given (is_listed v) p.enum_values && if_given (same v) o && of_kind_agrees r p v && if_given fol p.reference && parts_agree r v ps ls ns && judge_same r v ps fol ss) e
        ∙ ap (λ b. b && of_kind_agrees r p v && if_given fol p.reference && parts_agree r v ps ls ns && judge_same r v ps fol ss) (core v)

  pub constant-text-holds : (o : Option (List ℕ)) → constant_of p ≡ o → is_some o && (is_none p.types || has_type Text p.types) && is_none p.reference && without_same ss ≡ true → Holds way P st R conv r fol tgt v ps es w (object p ss ls ns) (constant_finding r p o)
  constant-text-holds None e t = impossible t
  constant-text-holds (Some s) e t = λ g0 c q.
      let f = four true (is_none p.types || has_type Text p.types) (is_none p.reference) (without_same ss) t in
      let k = constant-is p.const_value s e in
      keep-from way _ _ _ (says-same s k f.1)
      (enumerated-holds way P st R conv r fol tgt (listing (vs s k f.1) p) ss ls ns v ps es w (Some (vs s k f.1)) refl (λ i. f.2 i && f.3 i) g0 c q)
