-- Judges of schemas and judges of entries that agree on what is converted, for each part of a value.
use Rattle.schema_defs.specs.declared.Setting.{Setting}
use Rattle.schema_defs.specs.Layer.{MemberPart as SchemaMember, is_passed_over}
use Rattle.std.proofs.Common.{◌≡◌, ℕ, ℤ, List, [], ◌∷◌, Bool, true, false, ◌&&◌, ◌||◌, not, Some, refl, sym, ap, ◌∙◌, FitsSigned, w64}
use Rattle.std.specs.List.{list_all}
use Rattle.json_value.specs.Value as value
use Rattle.json_value.specs.Value.{Value, Items, Members, null, number, text, list, object, no_items, member, no_members, item_count, same}
use Rattle.schema_defs.specs.Schema.{Schema, boolean}
use Rattle.schema_defs.specs.Layer.{Judge, Parts}
use Rattle.model_defs.specs.Layer as model
use Rattle.model_defs.specs.Layer.{MemberPart, no_parts, list_parts, object_parts, has_one_of}
use Rattle.entry_defs.specs.Entry.{Entry, boolean_entry, integer_entry, text_entry, native_entry, any_entry, unit_entry, option_entry, vec_entry, set_entry, map_entry, tuple_entry, array_entry, reference, Shape, item}
use Rattle.entry_defs.specs.Layer as entry
use Rattle.entry_defs.specs.Members.{AreMembers}
use Rattle.convert_defs.specs.Row.{Way, Part, child, of_branch, lone, made}
use Rattle.schema_types.specs.Same.{same_schemas}
use Rattle.schema_defs.specs.Texts.{Relations}
use Rattle.convert_defs.specs.Convert.{pattern_key, optional_entry, nullable_entry}
use Rattle.convert_defs.specs.Owners.{any_text, may_be_null}
use Rattle.enum_defs.specs.Words.{is_name}
use Rattle.enum_defs.specs.Shapes.{constant_text}
use Rattle.convert_defs.specs.Laws.{Keeps}
use Rattle.convert_defs.proofs.Keeps.{keep-equal, keep-from, keep-to, keep-both, keep-either}

abbrev pub schema_of : Part → Schema
schema_of (child l s) = s
schema_of (of_branch l s) = s
schema_of (lone l s) = s
schema_of (made s) = s

abbrev pub AllParts : (Part → Type 0) → List Part → Type 0
AllParts P [] = Unit {0}
AllParts P (p ∷ ps) = P p × AllParts P ps

-- `R s e` says that s is converted to e
module _ (way : Way) (st : Setting) (R : Schema → Entry → Type 0) where
  abbrev pub IsConverted : (Part → Entry) → Part → Type 0
  IsConverted conv p = R (schema_of p) (conv p)

  pub record JudgesMatch (j : Judge) (k : entry.Judge) : Type 0 where
    pub agree : (s : Schema) (e : Entry) → R s e → Keeps way (j s) (k e)
    pub booleans : (b : Bool) → j (boolean b) ≡ b
    pub labels : (l m : List ℕ) (h : Shape) → k (item l h) ≡ k (item m h)
    pub alike : (a b : Schema) → same_schemas a b ≡ true → j a ≡ j b
    pub options : (e : Entry) → k (option_entry e) ≡ (k unit_entry || k e)

  abbrev pub ItemsMatch : Items → List Judge → List entry.Judge → Type 0
  ItemsMatch no_items [] [] = Unit {0}
  ItemsMatch (value.item v vs) (j ∷ js) (k ∷ ks) = JudgesMatch j k × ItemsMatch vs js ks
  ItemsMatch _ _ _ = ⊥

  pub record MemberMatch (name : List ℕ → Judge) (n : List ℕ) (j : SchemaMember) (k : MemberPart entry.Judge) : Type 0 where
    pub same_name : j.name ≡ n
    pub name_is : k.name ≡ n
    pub as_absent : j.as_absent ≡ (may_be_null st && k.value unit_entry)
    pub value : JudgesMatch j.says k.value
    pub key : JudgesMatch (name n) k.key
    pub is_text : name n (schema_of any_text) ≡ true

  abbrev pub MembersMatch : (List ℕ → Judge) → Members → List SchemaMember → List (MemberPart entry.Judge) → Type 0
  MembersMatch name no_members [] [] = Unit {0}
  MembersMatch name (member n v ms) (j ∷ js) (k ∷ ks) = MemberMatch name n j k × MembersMatch name ms js ks
  MembersMatch name _ _ _ = ⊥

  -- what a schema of one text says of each member
  abbrev pub Constants : Members → List SchemaMember → Type 0
  Constants (member n x ms) (j ∷ js) = ((u : Schema) (s : List ℕ) → constant_text u ≡ Some s → j.says u ≡ same x (text s)) × Constants ms js
  Constants _ _ = Unit {0}

  -- ---- members of properties

  -- what the schema of a property is converted to, where those names are required
  abbrev pub Made : List (List ℕ) → List ℕ → Schema → Entry → Type 0
  Made req n s e = (u : Entry) × R s u × (e ≡ nullable_entry (may_be_null st && not (is_name n req)) u)

  optional-says : (k : entry.Judge) → ((e : Entry) → k (option_entry e) ≡ (k unit_entry || k e)) → (e : Entry) → k (optional_entry e) ≡ (k unit_entry || k e)
  optional-says k f (option_entry e) = f e ∙ twice (k unit_entry) (k e) ∙ ap (λ b. k unit_entry || b) (sym (f e))
    where
      twice : (a b : Bool) → (a || b) ≡ (a || (a || b))
      twice true b = refl
      twice false b = refl
  optional-says k f boolean_entry = f boolean_entry
  optional-says k f (integer_entry g) = f (integer_entry g)
  optional-says k f text_entry = f text_entry
  optional-says k f (native_entry g) = f (native_entry g)
  optional-says k f any_entry = f any_entry
  optional-says k f unit_entry = f unit_entry
  optional-says k f (vec_entry e) = f (vec_entry e)
  optional-says k f (set_entry e) = f (set_entry e)
  optional-says k f (map_entry l e) = f (map_entry l e)
  optional-says k f (tuple_entry es) = f (tuple_entry es)
  optional-says k f (array_entry e n) = f (array_entry e n)
  optional-says k f (reference t) = f (reference t)
  optional-says k f (item l h) = f (item l h)

  pub made-keeps : (req : List (List ℕ)) (n : List ℕ) (j : SchemaMember) (k : MemberPart entry.Judge) → JudgesMatch j.says k.value → j.name ≡ n → j.as_absent ≡ (may_be_null st && k.value unit_entry) → (s : Schema) (e : Entry) → Made req n s e
      → Keeps way (is_passed_over req j || j.says s) (k.value e)
  made-keeps req n j k h a b s e (u, c, q) = keep-from way _ _ _ (λ i. b i && not (is_name (a i) req) || j.says s) (keep-to way _ _ _ (by (may_be_null st) (is_name n req)) (ap k.value (sym q)))
    where
      none : (x : Bool) → (x && false) ≡ false
      none true = refl
      none false = refl

      all : (x : Bool) → (x && true) ≡ x
      all true = refl
      all false = refl

      by : (x y : Bool) → Keeps way ((x && k.value unit_entry) && not y || j.says s) (k.value (nullable_entry (x && not y) u))
      by false y = h.agree s u c
      by true true = keep-from way _ _ _ (ap (λ x. x || j.says s) (none (k.value unit_entry))) (h.agree s u c)
      by true false = keep-from way _ _ _ (ap (λ x. x || j.says s) (all (k.value unit_entry)))
          (keep-to way _ _ _ (keep-either way (k.value unit_entry) (k.value unit_entry) (j.says s) (k.value u) (keep-equal way _ _ refl) (h.agree s u c)) (sym (optional-says k.value h.options u)))

  -- ---- items

  pub each-agrees : (xs : Items) (js : List Judge) (ks : List entry.Judge) → ItemsMatch xs js ks → (s : Schema) (e : Entry) → R s e → Keeps way (list_all (λ j. j s) js) (list_all (λ k. k e) ks)
  each-agrees no_items [] [] h s e c = keep-equal way true true refl
  each-agrees (value.item v vs) (j ∷ js) (k ∷ ks) h s e c = keep-both way (j s) (k e) _ _ (h.0.agree s e c) (each-agrees vs js ks h.1 s e c)
  each-agrees no_items [] (k ∷ ks) h s e c = absurd h
  each-agrees no_items (j ∷ js) ks h s e c = absurd h
  each-agrees (value.item v vs) [] ks h s e c = absurd h
  each-agrees (value.item v vs) (j ∷ js) [] h s e c = absurd h

  pub each-true : (xs : Items) (js : List Judge) (ks : List entry.Judge) → ItemsMatch xs js ks → list_all (λ j. j (boolean true)) js ≡ true
  each-true no_items [] [] h = refl
  each-true (value.item v vs) (j ∷ js) (k ∷ ks) h = λ i. h.0.booleans true i && each-true vs js ks h.1 i
  each-true no_items [] (k ∷ ks) h = absurd h
  each-true no_items (j ∷ js) ks h = absurd h
  each-true (value.item v vs) [] ks h = absurd h
  each-true (value.item v vs) (j ∷ js) [] h = absurd h

  -- what is admitted by all, or by none
  pub says-true : (j : Judge) (k : entry.Judge) → JudgesMatch j k → (s : Schema) (e : Entry) → R s e → j s ≡ true → Keeps way true (k e)
  says-true j k h s e c t = keep-from way true (j s) (k e) (sym t) (h.agree s e c)

  pub says-any : (j : Judge) (k : entry.Judge) → JudgesMatch j k → (e : Entry) → R (boolean true) e → Keeps way true (k e)
  says-any j k h e c = says-true j k h (boolean true) e c (h.booleans true)

module _ (way : Way) (st : Setting) (R : Schema → Entry → Type 0) (r : Relations) where
  -- keys that have one of the patterns
  abbrev pub PatternKeys : List (MemberPart entry.Judge) → Type 0
  PatternKeys [] = Unit {0}
  PatternKeys (k ∷ ks) = ((qs : List (List ℕ)) → k.key (pattern_key qs) ≡ has_one_of (λ q. r.matches q k.name) qs) × PatternKeys ks

  abbrev pub MembersKnown : Members → List SchemaMember → List (MemberPart entry.Judge) → Type 0
  MembersKnown ms js ks = AreMembers ks × (Constants way st R ms js × PatternKeys ks)

  -- the parts of a value, in step
  pub data View : Value → Parts → model.Parts entry.Judge → Type 0 where
    of_null : (ps : Parts) → View null ps no_parts
    of_boolean : (b : Bool) (ps : Parts) → View (value.boolean b) ps no_parts
    of_number : (z : ℤ) (ps : Parts) → FitsSigned w64 z → View (number z) ps no_parts
    of_text : (s : List ℕ) (ps : Parts) → View (text s) ps no_parts
    of_list : (xs : Items) (ps : Parts) (ks : List entry.Judge) → ItemsMatch way st R xs ps.items ks → View (list xs) ps (list_parts ks)
    of_object : (ms : Members) (ps : Parts) (ks : List (MemberPart entry.Judge)) → MembersMatch way st R ps.name ms ps.members ks → MembersKnown ms ps.members ks → View (object ms) ps (object_parts ks)
