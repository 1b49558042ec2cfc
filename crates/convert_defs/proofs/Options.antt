-- Two types, with null: the option of the other.
use Rattle.schema_defs.specs.declared.Setting.{Setting}
use Rattle.std.proofs.Common.{◌≡◌, ℕ, List, [], ◌∷◌, option_map, Bool, true, false, ◌&&◌, ◌||◌, not, Option, Some, None, is_none, is_some, refl, sym, ap, ◌∙◌, true≢false}
use Rattle.std.specs.Prelude.{if◌then◌else◌}
use Rattle.std.specs.List.{list_all, list_any}
use Rattle.json_value.specs.Value as value
use Rattle.json_value.specs.Value.{Value, same, null, number, fraction, text, list}
use Rattle.schema_defs.specs.declared.InstanceType.{InstanceType}
use Rattle.schema_defs.specs.declared.InstanceType.TheVariants.{Null, Boolean, Object, Array, Number, Text, Integer}
use Rattle.schema_defs.specs.Texts.{Relations}
use Rattle.schema_defs.specs.Schema.{Types, many_types, Plain, Schema, object, Same, Lists, Named}
use Rattle.schema_defs.specs.Layer.{Parts, judge, judge_same, if_given, types_agree, is_listed, is_kind, of_kind_agrees, parts_agree}
use Rattle.model_defs.specs.Layer as model
use Rattle.entry_defs.specs.Entry.{Target, Entry, unit_entry}
use Rattle.entry_defs.specs.Layer as entry
use Rattle.entry_defs.specs.Layer.{entry_takes}
use Rattle.convert_defs.specs.Row.{Way, widened, narrowed, Part, made, leaf_row, option_row, noted}
use Rattle.convert_defs.specs.Standing.{of_type}
use Rattle.enum_defs.specs.Words.{same_type, without_same}
use Rattle.convert_defs.specs.Scalars.{non_null}
use Rattle.convert_defs.specs.Table.{type_beside_null, beside_null, lists_only_nulls, lists_no_null, nullable, nullable_notes}
use Rattle.convert_defs.specs.Laws.{Keeps, Free}
use Rattle.convert_defs.proofs.Keeps.{free-note}
use Rattle.convert_defs.proofs.Views.{View}
use Rattle.convert_defs.proofs.Bare.{and_left, and_right, impossible, or_left, or_right, not_false, none-some, some-same, none-agrees, same-agrees, same_type-eq}
use Rattle.convert_defs.proofs.Rows.{Holds}
use Rattle.enum_defs.proofs.Says.{says, said}

-- ---- null

pub kind-null : (v : Value) → is_kind v Null ≡ model.is_null v
kind-null null = refl
kind-null (value.boolean b) = refl
kind-null (number z) = refl
kind-null fraction = refl
kind-null (text s) = refl
kind-null (list xs) = refl
kind-null (value.object ms) = refl

pub same-null : (v w : Value) → same v w ≡ true → model.is_null w ≡ model.is_null v
same-null null null h = refl
same-null null (value.boolean b) h = impossible h
same-null null (number z) h = impossible h
same-null null fraction h = impossible h
same-null null (text s) h = impossible h
same-null null (list xs) h = impossible h
same-null null (value.object ms) h = impossible h
same-null (value.boolean b) null h = impossible h
same-null (value.boolean b) _ h = refl
same-null (number z) null h = impossible h
same-null (number z) _ h = refl
same-null fraction null h = impossible h
same-null fraction _ h = refl
same-null (text s) null h = impossible h
same-null (text s) _ h = refl
same-null (list xs) null h = impossible h
same-null (list xs) _ h = refl
same-null (value.object ms) null h = impossible h
same-null (value.object ms) _ h = refl

pub null-same : (v w : Value) → model.is_null v ≡ true → model.is_null w ≡ true → same v w ≡ true
null-same null null h k = refl
null-same null (value.boolean b) h k = impossible k
null-same null (number z) h k = impossible k
null-same null fraction h k = impossible k
null-same null (text s) h k = impossible k
null-same null (list xs) h k = impossible k
null-same null (value.object ms) h k = impossible k
null-same (value.boolean b) w h k = impossible h
null-same (number z) w h k = impossible h
null-same fraction w h k = impossible h
null-same (text s) w h k = impossible h
null-same (list xs) w h k = impossible h
null-same (value.object ms) w h k = impossible h

or_false : (b : Bool) → (b || false) ≡ b
or_false true = refl
or_false false = refl

turned : (a b : Bool) → (a || (b || false)) ≡ (b || a)
turned true true = refl
turned true false = refl
turned false true = refl
turned false false = refl

two-kinds : (v : Value) (j l : InstanceType) → Some j ≡ Some l → (is_kind v j || (is_kind v Null || false)) ≡ (is_kind v Null || is_kind v l)
two-kinds v j l h = turned (is_kind v j) (is_kind v Null) ∙ ap (λ k. is_kind v Null || is_kind v k) (some-same j l h)

beside : (o : Option Types) (k : InstanceType) → type_beside_null o ≡ Some k → (v : Value) → if_given (types_agree v) o ≡ (is_kind v Null || is_kind v k)
beside (Some (many_types (Null ∷ j ∷ []))) k h v = ap (λ b. is_kind v Null || b) (or_false (is_kind v j)) ∙ ap (λ l. is_kind v Null || is_kind v l) (some-same j k h)
beside (Some (many_types (Boolean ∷ Null ∷ []))) k h v = two-kinds v Boolean k h
beside (Some (many_types (Object ∷ Null ∷ []))) k h v = two-kinds v Object k h
beside (Some (many_types (Array ∷ Null ∷ []))) k h v = two-kinds v Array k h
beside (Some (many_types (Number ∷ Null ∷ []))) k h v = two-kinds v Number k h
beside (Some (many_types (Text ∷ Null ∷ []))) k h v = two-kinds v Text k h
beside (Some (many_types (Integer ∷ Null ∷ []))) k h v = two-kinds v Integer k h
beside _ k h v = none-some k h

-- ---- listed values, with and without null

pub listed-without : (v : Value) (vs : List Value) → model.is_null v ≡ false → is_listed v (non_null vs) ≡ is_listed v vs
listed-without v [] n = refl
listed-without v (w ∷ vs) n = by (model.is_null w) refl (listed-without v vs n)
  where
    other : same v w ≡ true → model.is_null w ≡ true → ⊥
    other h k = true≢false (sym k ∙ same-null v w h ∙ n)

    unlike : (b : Bool) → same v w ≡ b → model.is_null w ≡ true → b ≡ false
    unlike true h k = absurd (other h k)
    unlike false h k = refl

    by : (b : Bool) → model.is_null w ≡ b → is_listed v (non_null vs) ≡ is_listed v vs → is_listed v (if not b then w ∷ non_null vs else non_null vs) ≡ (same v w || is_listed v vs)
    by true k h = h ∙ ap (λ b. b || is_listed v vs) (sym (unlike (same v w) refl k))
    by false k h = ap (λ b. same v w || b) h

pub null-listed : (v : Value) (vs : List Value) → model.is_null v ≡ true → list_any model.is_null vs ≡ true → is_listed v vs ≡ true
null-listed v [] n h = impossible h
null-listed v (w ∷ vs) n h = by (model.is_null w) refl (null-listed v vs n)
  where
    second : (a b : Bool) → b ≡ true → (a || b) ≡ true
    second true b h = refl
    second false b h = h

    by : (b : Bool) → model.is_null w ≡ b → (list_any model.is_null vs ≡ true → is_listed v vs ≡ true) → (same v w || is_listed v vs) ≡ true
    by true k f = ap (λ b. b || is_listed v vs) (null-same v w n k)
    by false k f = second (same v w) _ (f (ap (λ b. b || list_any model.is_null vs) (sym k) ∙ h))

pub only-nulls : (v : Value) (vs : List Value) → list_all model.is_null vs ≡ true → is_listed v vs ≡ true → model.is_null v ≡ true
only-nulls v [] h k = impossible k
only-nulls v (w ∷ vs) h k = by (same v w) refl (λ q. only-nulls v vs (and_right (model.is_null w) _ h) q)
  where
    by : (b : Bool) → same v w ≡ b → (is_listed v vs ≡ true → model.is_null v ≡ true) → model.is_null v ≡ true
    by true e f = sym (same-null v w e) ∙ and_left _ _ h
    by false e f = f (ap (λ b. b || is_listed v vs) (sym e) ∙ k)

null-quiet : (r : Relations) (p : Plain) (v : Value) → model.is_null v ≡ true → of_kind_agrees r p v ≡ true
null-quiet r p null h = refl
null-quiet r p (value.boolean b) h = refl
null-quiet r p (number z) h = impossible h
null-quiet r p fraction h = refl
null-quiet r p (text s) h = impossible h
null-quiet r p (list xs) h = refl
null-quiet r p (value.object ms) h = refl

null-parts : (r : Relations) (ps : Parts) (ls : Lists) (ns : Named) (v : Value) → model.is_null v ≡ true → parts_agree r v ps ls ns ≡ true
null-parts r ps ls ns null h = refl
null-parts r ps ls ns (value.boolean b) h = refl
null-parts r ps ls ns (number z) h = refl
null-parts r ps ls ns fraction h = refl
null-parts r ps ls ns (text s) h = refl
null-parts r ps ls ns (list xs) h = impossible h
null-parts r ps ls ns (value.object ms) h = impossible h

-- ---- the row

module _ (way : Way) (P : List ℕ → Type 0) (st : Setting) (R : Schema → Entry → Type 0) (conv : Part → Entry) (r : Relations) (fol : List ℕ → Bool) (tgt : Target → Bool) (v : Value) (ps : Parts) (es : model.Parts entry.Judge) (w : View way st R r v ps es) (p : Plain) (ss : Same) (ls : Lists) (ns : Named) where
  abbrev it : Bool
  it = judge r v ps fol (object p ss ls ns)

  abbrev other : InstanceType → Schema
  other k = object (beside_null (of_type k p)) ss ls ns

  module _ (k : InstanceType) (h : type_beside_null p.types ≡ Some k) where
    -- null, where nothing is told
    null-admitted : Free widened (nullable_notes p ss) → model.is_null v ≡ true → it ≡ true
    null-admitted f n =
        let x = free-note widened (is_some p.const_value || is_some p.reference || not (without_same ss) || lists_no_null p.enum_values) _ f refl in
        let y = or_left (is_some p.const_value || is_some p.reference || not (without_same ss)) _ x in
        let z = or_left (is_some p.const_value || is_some p.reference) _ y in
        said r v ps fol p ss ls ns (record {
          types = beside p.types k h v ∙ ap (λ b. b || is_kind v k) (kind-null v ∙ n);
          listed = by p.enum_values (or_right (is_some p.const_value || is_some p.reference || not (without_same ss)) _ x);
          constant = none-agrees (same v) p.const_value (absent p.const_value (or_left (is_some p.const_value) _ z));
          kind = null-quiet r p v n;
          reference = none-agrees fol p.reference (absent p.reference (or_right (is_some p.const_value) _ z));
          parts = null-parts r ps ls ns v n;
          subschemas = same-agrees r v ps fol ss (not_false _ (or_right (is_some p.const_value || is_some p.reference) _ y));
        })
      where
        absent : {A : Type 0} (o : Option A) → is_some o ≡ false → is_none o ≡ true
        absent None e = refl
        absent (Some a) e = impossible (sym e)

        by : (o : Option (List Value)) → lists_no_null o ≡ false → if_given (is_listed v) o ≡ true
        by None e = refl
        by (Some vs) e = null-listed v vs n (not_false _ e)

    -- another value is judged as by the made schema
    non-null-same : model.is_null v ≡ false → it ≡ judge r v ps fol (other k)
    non-null-same n = λ i. (beside p.types k h v ∙ ap (λ b. b || is_kind v k) (kind-null v ∙ n)) i && by p.enum_values i && if_given (same v) p.const_value && of_kind_agrees r p v && if_given fol p.reference && parts_agree r v ps ls ns && judge_same r v ps fol ss
      where
        by : (o : Option (List Value)) → if_given (is_listed v) o ≡ if_given (is_listed v) (option_map non_null o)
        by None = refl
        by (Some vs) = sym (listed-without v vs n)

    null-alone : (lists_only_nulls p.enum_values || same_type Null k) ≡ true → it ≡ true → model.is_null v ≡ true
    null-alone b t = let f = says r v ps fol p ss ls ns t in by p.enum_values f.listed (same_type Null k) refl b (sym (beside p.types k h v) ∙ f.types)
      where
        null-kind : same_type Null k ≡ true → (is_kind v Null || is_kind v k) ≡ true → model.is_null v ≡ true
        null-kind e t = sym (kind-null v) ∙ twice (is_kind v Null) (ap (λ l. is_kind v Null || is_kind v l) (sym (same_type-eq Null k e)) ∙ t)
          where
            twice : (b : Bool) → (b || b) ≡ true → b ≡ true
            twice true h = refl
            twice false h = h

        by : (o : Option (List Value)) → if_given (is_listed v) o ≡ true → (c : Bool) → same_type Null k ≡ c → (lists_only_nulls o || c) ≡ true → (is_kind v Null || is_kind v k) ≡ true → model.is_null v ≡ true
        by None l c e b t = null-kind (e ∙ b) t
        by (Some vs) l true e b t = null-kind e t
        by (Some vs) l false e b t = only-nulls v vs (sym (or_false (list_all model.is_null vs)) ∙ b) l

    unit-row : (m : Way) → Free m (nullable_notes p ss) → (lists_only_nulls p.enum_values || same_type Null k) ≡ true → Keeps m it (model.is_null v)
    unit-row narrowed f b = null-alone b
    unit-row widened f b = null-admitted f

    option-row : (m : Way) → Free m (nullable_notes p ss) → (x : Bool) → Keeps m (judge r v ps fol (other k)) x → (b : Bool) → model.is_null v ≡ b → Keeps m it (model.is_null v || x)
    option-row narrowed f x g true n = λ t. ap (λ b. b || x) n
    option-row widened f x g true n = λ t. null-admitted f n
    option-row narrowed f x g false n = λ t. ap (λ b. b || x) n ∙ g (sym (non-null-same n) ∙ t)
    option-row widened f x g false n = λ t. non-null-same n ∙ g (sym (ap (λ b. b || x) n) ∙ t)

  pub nullable-holds : (o : Option InstanceType) → type_beside_null p.types ≡ o → Holds way P st R conv r fol tgt v ps es w (object p ss ls ns) (noted (nullable_notes p ss) (nullable p ss ls ns o))
  nullable-holds None h = λ g0 c q. absurd c.1
  nullable-holds (Some k) h = by (lists_only_nulls p.enum_values || same_type Null k) refl
    where
      by : (b : Bool) → (lists_only_nulls p.enum_values || same_type Null k) ≡ b → Holds way P st R conv r fol tgt v ps es w (object p ss ls ns) (noted (nullable_notes p ss) (if b then leaf_row unit_entry else option_row (made (other k))))
      by true e = λ g0 c q. unit-row k h way c.0 e
      by false e = λ g0 c q. option-row k h way c.0 (entry_takes r v es tgt (conv (made (other k)))) (q.0.1 g0) (model.is_null v) refl
