-- What structs come to.
use Rattle.std.proofs.Common.{◌≡◌, ℕ, List, [], ◌∷◌, Option, Some, None, Bool, true, false, ◌&&◌, ◌||◌, not, cond, bytes_eq, refl, sym, ap, ◌∙◌, true≢false}
use Rattle.json_value.specs.Value as value
use Rattle.json_value.specs.Value.{Value, null, number, fraction, text, list, object, Items, Members, no_members, member, has_name, member_at}
use Rattle.schema_defs.specs.Texts.{Relations}
use Rattle.model_defs.specs.Layer.{MemberPart, named, without, is_none}
use Rattle.entry_defs.specs.Entry as entry
use Rattle.entry_defs.specs.Entry.{FieldEntry, Rest, no_rest, rest, Fields, struct_shape, fields_of, rest_of}
use Rattle.entry_defs.specs.Layer.{is_field, others}
use Rattle.default_defs.specs.Found.{Found, refused, ended, if_so, both}
use Rattle.default_defs.specs.Layer.{Reader, field_read, fields_read, members_of_struct, rest_read}
use Rattle.default_defs.specs.Supplied.{member_readers, name_read, value_read}
use Rattle.default_reading.specs.Steps.{Setting, missed, comes, comes_in, as_object, Differ, given_at, is_other, has_others, field_comes, fields_come, rest_comes, others_come, struct_comes}
use Rattle.default_reading.proofs.Joined.{closed_same}
use Rattle.default_reading.proofs.Names.{same_name, turned, neither-first, neither-second}

abbrev Parts : Type 0
Parts = List (MemberPart Reader)

module _ (s : Setting) (r : Relations) where
  abbrev pub readers : Members → Parts
  readers ms = member_readers s.table r (missed s r) ms

  -- of those that aren't passed over
  abbrev pub given_readers : Option (List ℕ) → Members → Parts
  given_readers None ms = readers ms
  given_readers (Some t) ms = without t (readers ms)

  abbrev pub part : List ℕ → Value → MemberPart Reader
  part k v = record { name = k; key = name_read s.table r (missed s r) k; value = value_read s.table r (missed s r) v }

  -- ---- one name

  none_named : (n : List ℕ) (ms : Members) → has_name n ms ≡ false → named n (readers ms) ≡ []
  none_named n no_members h = refl
  none_named n (member k v ms) h =
      ap (λ b. cond b (part k v ∷ named n (readers ms)) (named n (readers ms))) (neither-first (bytes_eq n k) (has_name n ms) h) ∙ none_named n ms (neither-second (bytes_eq n k) (has_name n ms) h)

  -- the members of a name, seen as what stands there
  abbrev by_name : FieldEntry → Parts → Found
  by_name f ps = field_read (missed s r) f ps

  only_named : (f : FieldEntry) (k : List ℕ) (v : Value) → by_name f (part k v ∷ []) ≡ comes s r f.entry v
  unfolding comes
  only_named f k v = refl

  one_field : (f : FieldEntry) (k : List ℕ) (v : Value) (ms : Members) (b : Bool) → bytes_eq f.name k ≡ b → has_name k ms ≡ false → by_name f (named f.name (readers ms)) ≡ field_comes s r f.state f.entry (member_at f.name ms)
      → by_name f (cond b (part k v ∷ named f.name (readers ms)) (named f.name (readers ms))) ≡ field_comes s r f.state f.entry (cond b (Some v) (member_at f.name ms))
  one_field f k v ms true e d h =
      let absent : has_name f.name ms ≡ false = ap (λ n. has_name n ms) (same_name f.name k e) ∙ d in
      ap (λ ps. by_name f (part k v ∷ ps)) (none_named f.name ms absent) ∙ only_named f k v
  one_field f k v ms false e d h = h

  field_named : (f : FieldEntry) (ms : Members) → Differ ms → by_name f (named f.name (readers ms)) ≡ field_comes s r f.state f.entry (member_at f.name ms)
  field_named f no_members d = refl
  field_named f (member k v ms) d = one_field f k v ms (bytes_eq f.name k) refl d.0 (field_named f ms d.1)

  -- ---- a name that is passed over

  one_passed : (t k : List ℕ) (v : Value) (ps : Parts) (b : Bool) → bytes_eq t k ≡ b → named t (without t ps) ≡ [] → named t (cond (not b) (part k v ∷ without t ps) (without t ps)) ≡ []
  one_passed t k v ps true e h = h
  one_passed t k v ps false e h = ap (λ c. cond c (part k v ∷ named t (without t ps)) (named t (without t ps))) e ∙ h

  passed_named : (t : List ℕ) (ms : Members) → named t (without t (readers ms)) ≡ []
  passed_named t no_members = refl
  passed_named t (member k v ms) = one_passed t k v (readers ms) (bytes_eq t k) refl (passed_named t ms)

  same_kept : (m : MemberPart Reader) (ps qs : Parts) (c : Bool) → ps ≡ qs → cond c (m ∷ ps) ps ≡ cond c (m ∷ qs) qs
  same_kept m ps qs true h = ap (λ us. m ∷ us) h
  same_kept m ps qs false h = h

  one_other_named : (t n k : List ℕ) (v : Value) (ps : Parts) → bytes_eq t n ≡ false → (b : Bool) → bytes_eq t k ≡ b → (c : Bool) → bytes_eq n k ≡ c → named n (without t ps) ≡ named n ps
      → named n (cond (not b) (part k v ∷ without t ps) (without t ps)) ≡ cond (bytes_eq n k) (part k v ∷ named n ps) (named n ps)
  one_other_named t n k v ps h true e true g i = absurd (true≢false (sym (turned n t (ap (λ z. bytes_eq n z) (same_name t k e) ∙ g)) ∙ h))
  one_other_named t n k v ps h true e false g i = i ∙ sym (ap (λ c. cond c (part k v ∷ named n ps) (named n ps)) g)
  one_other_named t n k v ps h false e c g i = same_kept (part k v) (named n (without t ps)) (named n ps) (bytes_eq n k) i

  other_named : (t n : List ℕ) → bytes_eq t n ≡ false → (ms : Members) → named n (without t (readers ms)) ≡ named n (readers ms)
  other_named t n h no_members = refl
  other_named t n h (member k v ms) = one_other_named t n k v (readers ms) h (bytes_eq t k) refl (bytes_eq n k) refl (other_named t n h ms)

  passed_or_not : (t : List ℕ) (f : FieldEntry) (ms : Members) → Differ ms → (b : Bool) → bytes_eq t f.name ≡ b → by_name f (named f.name (without t (readers ms))) ≡ field_comes s r f.state f.entry (cond b None (member_at f.name ms))
  passed_or_not t f ms d true e = ap (λ n. by_name f (named f.name (without n (readers ms)))) (same_name t f.name e) ∙ ap (by_name f) (passed_named f.name ms)
  passed_or_not t f ms d false e = ap (by_name f) (other_named t f.name e ms) ∙ field_named f ms d

  given_field : (p : Option (List ℕ)) (f : FieldEntry) (ms : Members) → Differ ms → by_name f (named f.name (given_readers p ms)) ≡ field_comes s r f.state f.entry (given_at p f.name ms)
  given_field None f ms d = field_named f ms d
  given_field (Some t) f ms d = passed_or_not t f ms d (bytes_eq t f.name) refl

  fields_given : (p : Option (List ℕ)) (fs : List FieldEntry) (ms : Members) → Differ ms → fields_read (missed s r) fs (given_readers p ms) ≡ fields_come s r p fs ms
  fields_given p [] ms d = refl
  fields_given p (f ∷ fs) ms d = λ i. both (given_field p f ms d i) (fields_given p fs ms d i)

  -- ---- the others

  one_other : (o : Rest) (k : List ℕ) (v : Value) (ps : Parts) → rest_read o (part k v ∷ ps) ≡ both (rest_comes s r o v) (rest_read o ps)
  unfolding comes
  one_other no_rest k v ps = refl
  one_other (rest i e) k v ps = refl

  other_or_not : (o : Rest) (k : List ℕ) (v : Value) (ps : Parts) (b : Bool) → rest_read o (cond b (part k v ∷ ps) ps) ≡ both (cond b (rest_comes s r o v) ended) (rest_read o ps)
  other_or_not o k v ps true = one_other o k v ps
  other_or_not o k v ps false = refl

  kept : (p : Option (List ℕ)) (fs : List FieldEntry) (k : List ℕ) (v : Value) (ms : Members) → others fs (given_readers p (member k v ms)) ≡ cond (is_other p fs k) (part k v ∷ others fs (given_readers p ms)) (others fs (given_readers p ms))
  kept None fs k v ms = refl
  kept (Some t) fs k v ms = split (bytes_eq t k)
    where
      split : (b : Bool) → others fs (cond (not b) (part k v ∷ without t (readers ms)) (without t (readers ms))) ≡ cond (not b && not (is_field fs k)) (part k v ∷ others fs (without t (readers ms))) (others fs (without t (readers ms)))
      split true = refl
      split false = refl

  no_others : (p : Option (List ℕ)) (fs : List FieldEntry) → others fs (given_readers p no_members) ≡ []
  no_others None fs = refl
  no_others (Some t) fs = refl

  rest_alone : (o : Rest) → rest_read o [] ≡ ended
  rest_alone no_rest = refl
  rest_alone (rest i e) = refl

  rest_given : (p : Option (List ℕ)) (fs : List FieldEntry) (o : Rest) (ms : Members) → rest_read o (others fs (given_readers p ms)) ≡ others_come s r p fs o ms
  rest_given p fs o no_members = ap (rest_read o) (no_others p fs) ∙ rest_alone o
  rest_given p fs o (member k v ms) =
      ap (rest_read o) (kept p fs k v ms) ∙ other_or_not o k v (others fs (given_readers p ms)) (is_other p fs k)
      ∙ ap (both (cond (is_other p fs k) (rest_comes s r o v) ended)) (rest_given p fs o ms)

  one_none : (m : MemberPart Reader) (ps : Parts) (b c : Bool) → is_none ps ≡ not c → is_none (cond b (m ∷ ps) ps) ≡ not (b || c)
  one_none m ps true c h = refl
  one_none m ps false c h = h

  none_other : (p : Option (List ℕ)) (fs : List FieldEntry) (ms : Members) → is_none (others fs (given_readers p ms)) ≡ not (has_others p fs ms)
  none_other p fs no_members = ap is_none (no_others p fs)
  none_other p fs (member k v ms) = ap is_none (kept p fs k v ms) ∙ one_none (part k v) (others fs (given_readers p ms)) (is_other p fs k) (has_others p fs ms) (none_other p fs ms)

  -- ---- structs

  pub struct_same : (p : Option (List ℕ)) (closed : Bool) (fs : Fields) (ms : Members) → Differ ms
      → members_of_struct (missed s r) closed (fields_of fs) (rest_of fs) (given_readers p ms) ≡ struct_comes s r p closed fs ms
  struct_same p closed fs ms d =
      λ i. if_so (closed_same closed (is_none (others (fields_of fs) (given_readers p ms))) (has_others p (fields_of fs) ms) (none_other p (fields_of fs) ms) i)
      (both (fields_given p (fields_of fs) ms d i) (rest_given p (fields_of fs) (rest_of fs) ms i))

  pub struct_come : (v : Value) (ms : Members) (closed : Bool) (fs : Fields) (b : Found) → Some ms ≡ as_object v → Differ ms → struct_comes s r None closed fs ms ≡ b → (m : ℕ) (n : List ℕ) → comes_in s r m (entry.item n (struct_shape closed fs)) v ≡ b
  unfolding comes_in
  struct_come null ms closed fs b h d k m n = absurd (cc)
  struct_come (value.boolean c) ms closed fs b h d k m n = absurd (cc)
  struct_come (number z) ms closed fs b h d k m n = absurd (cc)
  struct_come fraction ms closed fs b h d k m n = absurd (cc)
  struct_come (text t) ms closed fs b h d k m n = absurd (cc)
  struct_come (list ys) ms closed fs b h d k m n = absurd (cc)
  struct_come (object ns) ms closed fs b h d k m n =
      let same : ns ≡ ms = cc in
      ap (λ us. members_of_struct (missed s r) closed (fields_of fs) (rest_of fs) (readers us)) same ∙ struct_same None closed fs ms d ∙ k

  pub struct_refused : (v : Value) (closed : Bool) (fs : Fields) → None ≡ as_object v → (m : ℕ) (n : List ℕ) → comes_in s r m (entry.item n (struct_shape closed fs)) v ≡ refused
  unfolding comes_in
  struct_refused null closed fs h m n = refl
  struct_refused (value.boolean c) closed fs h m n = refl
  struct_refused (number z) closed fs h m n = refl
  struct_refused fraction closed fs h m n = refl
  struct_refused (text t) closed fs h m n = refl
  struct_refused (list ys) closed fs h m n = refl
  struct_refused (object ms) closed fs h m n = absurd (cc)
