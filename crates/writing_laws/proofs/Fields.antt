-- Fields, read again: of what a field is written as, by the names that lead back.
use Rattle.std.proofs.Common.{◌≡◌, ℕ, List, [], ◌∷◌, filter, Bool, true, false, ◌&&◌, not, cond, refl, sym, ap, ◌∙◌, subst, true≢false, Option, Some, None}
use Rattle.std.specs.List.{list_all}
use Rattle.json_value.specs.Value as value
use Rattle.json_value.specs.Value.{Value, Members, null, text, member, no_members, members}
use Rattle.schema_defs.specs.Texts.{Relations}
use Rattle.model_defs.specs.Types.{TypeModel, option_type, vec_type, set_type, map_type}
use Rattle.model_defs.specs.Model.{DefaultModel, no_default, own_default, stated_default, HelperModel, no_helper, some_helper, whole_helper, FieldModel, ContainerModel, ConversionsD}
use Rattle.model_defs.specs.Layer.{MemberPart, Parts, no_parts, list_parts, object_parts, is_null, own_members, other_members, unnamed_members, present_type}
use Rattle.model_defs.specs.Reads.{allowed}
use Rattle.typed_defs.specs.Typed as typed
use Rattle.typed_defs.specs.Typed.{Typed, typeds, pairs}
use Rattle.typed_defs.specs.Written.{written, field_writes, counts_as_empty}
use Rattle.typed_defs.specs.Fit.{may_be_empty, is_default_fit, is_helper_fit, is_field_fit}
use Rattle.reading_defs.specs.Reading.{Read, taken, Reader, read_map, under, helped, given, absent, empty_value, default_given, field_read, object_read, list_read, pairs_read, keep_apart, type_within, reader_within, readers_of, value_reader, member_readers}
use Rattle.reading_defs.proofs.Rows.{field_part, empty_is_empty}
use Rattle.writing_laws.specs.Tables.{reads_name, is_apart_from, container_leads_back}
use Rattle.writing_laws.proofs.Taken.{one_taken, never_stopped, map_taken, under_taken, sound_taken, and_left, and_right}
use Rattle.writing_laws.proofs.Members.{those, those_those, those_all, all_pass}
use Rattle.writing_laws.proofs.Back.{ReadsAgain, ValueBack, MembersBack}
use Rattle.writing_laws.proofs.Absent.{absent_again}

-- a name that no field has, the rest aside
abbrev pub unnamed_by : List FieldModel → List ℕ → Bool
unnamed_by [] n = true
unnamed_by (f ∷ fs) n = cond f.is_rest (unnamed_by fs n) (unnamed_by fs n && not (reads_name f n))

-- ---- readers of the members whose names pass

module _ (models : List ContainerModel) (cs : ConversionsD) (r : Relations) (q : ℕ → TypeModel → Read Typed) where
  pub filter_readers : (p : List ℕ → Bool) (ms : Members) → filter (λ (m : MemberPart Reader). p m.name) (member_readers models cs r q ms) ≡ member_readers models cs r q (those p ms)
  filter_readers p no_members = refl
  filter_readers p (member k v ms) = by (p k) (filter_readers p ms)
    where
      by : (b : Bool) → filter (λ (m : MemberPart Reader). p m.name) (member_readers models cs r q ms) ≡ member_readers models cs r q (those p ms)
          → cond b (record { name = k; key = value_reader models cs r q (text k); value = value_reader models cs r q v } ∷ filter (λ (m : MemberPart Reader). p m.name) (member_readers models cs r q ms)) (filter (λ (m : MemberPart Reader). p m.name) (member_readers models cs r q ms))
          ≡ member_readers models cs r q (cond b (member k v (those p ms)) (those p ms))
      by true h = ap (λ js. record { name = k; key = value_reader models cs r q (text k); value = value_reader models cs r q v } ∷ js) h
      by false h = h

  pub own_is : (f : FieldModel) (ms : Members) → own_members f (member_readers models cs r q ms) ≡ member_readers models cs r q (those (reads_name f) ms)
  own_is f ms = filter_readers (reads_name f) ms

  pub others_is : (f : FieldModel) (ms : Members) → other_members f (member_readers models cs r q ms) ≡ member_readers models cs r q (those (λ n. not (reads_name f n)) ms)
  others_is f ms = filter_readers (λ n. not (reads_name f n)) ms

  pub unnamed_is : (fs : List FieldModel) (ms : Members) → unnamed_members fs (member_readers models cs r q ms) ≡ member_readers models cs r q (those (unnamed_by fs) ms)
  unnamed_is [] ms = sym (ap (member_readers models cs r q) (those_all (λ n. true) ms (all_pass ms)))
  unnamed_is (f ∷ fs) ms =
      by f.is_rest (unnamed_is fs ms)
      (ap (unnamed_members fs) (others_is f ms) ∙ unnamed_is fs (those (λ n. not (reads_name f n)) ms) ∙ ap (member_readers models cs r q) (those_those (unnamed_by fs) (λ n. not (reads_name f n)) ms))
    where
      by : (b : Bool) → unnamed_members fs (member_readers models cs r q ms) ≡ member_readers models cs r q (those (unnamed_by fs) ms)
          → unnamed_members fs (other_members f (member_readers models cs r q ms)) ≡ member_readers models cs r q (those (λ n. unnamed_by fs n && not (reads_name f n)) ms)
          → cond b (unnamed_members fs (member_readers models cs r q ms)) (unnamed_members fs (other_members f (member_readers models cs r q ms)))
          ≡ member_readers models cs r q (those (λ n. cond b (unnamed_by fs n) (unnamed_by fs n && not (reads_name f n))) ms)
      by true g h = g
      by false g h = h

  -- ---- a value's reader, by its parts

  pub reader_is : (v : Value) → value_reader models cs r q v ≡ reader_within models cs r q v (readers_of models cs r q v) (allowed models)
  reader_is null = refl
  reader_is (value.boolean b) = refl
  reader_is (value.number z) = refl
  reader_is value.fraction = refl
  reader_is (text s) = refl
  reader_is (value.list xs) = refl
  reader_is (value.object ms) = refl

  empty_list : (f : List Typed → List Typed) → ((y : Typed) (ys : List Typed) → counts_as_empty (typed.list (typeds (f (y ∷ ys)))) ≡ false) → f [] ≡ [] → (xs : List Typed) → counts_as_empty (typed.list (typeds (f xs))) ≡ true
      → typed.list (typeds (f xs)) ≡ typed.list (typeds [])
  empty_list f g n [] e = ap (λ ys. typed.list (typeds ys)) n
  empty_list f g n (y ∷ ys) e = absurd (true≢false (sym e ∙ g y ys))

  empty_map : (es : List (Typed × Typed)) → counts_as_empty (typed.map_of (pairs es)) ≡ true → typed.map_of (pairs es) ≡ typed.map_of (pairs [])
  empty_map [] e = refl
  empty_map (x ∷ es) e = absurd (true≢false (sym e))

  emptied : (v : Value) (ps : Parts Reader) (k : ℕ) (t : TypeModel) (x : Typed) → may_be_empty t ≡ true → type_within models cs r q v ps k t ≡ taken x → counts_as_empty x ≡ true → x ≡ empty_value t
  emptied v ps k (option_type t) x m e c = by (is_null v) e
    where
      by : (b : Bool) → cond b (taken typed.none) (read_map typed.some (type_within models cs r q v ps k t)) ≡ taken x → x ≡ typed.none
      by true h = sym (one_taken typed.none x h)
      by false h = let g = map_taken typed.some (type_within models cs r q v ps k t) x h in absurd (true≢false (sym (ap counts_as_empty g.2 ∙ c)))
  emptied v ps k (vec_type t) x m e c =
      let g = map_taken (λ xs. typed.list (typeds xs)) (list_read t ps) x e in
      sym g.2 ∙ empty_list (λ ys. ys) (λ y ys. refl) refl g.0 (ap counts_as_empty g.2 ∙ c)
  emptied v ps k (set_type t) x m e c =
      let g = map_taken (λ xs. typed.list (typeds (keep_apart (written models t) [] xs))) (list_read t ps) x e in
      sym g.2 ∙ empty_list (keep_apart (written models t) []) (λ y ys. refl) refl g.0 (ap counts_as_empty g.2 ∙ c)
  emptied v ps k (map_type n t) x m e c = by ps e
    where
      by : (js : Parts Reader) → object_read n t js ≡ taken x → x ≡ typed.map_of (pairs [])
      by (object_parts js) h = let g = map_taken (λ es. typed.map_of (pairs es)) (pairs_read n t js) x h in sym g.2 ∙ empty_map g.0 (ap counts_as_empty g.2 ∙ c)
      by no_parts h = absurd (never_stopped x [] h)
      by (list_parts js) h = absurd (never_stopped x [] h)
  emptied v ps k _ x m e c = absurd (true≢false (sym m))

  pub empties : (v : Value) (t : TypeModel) (x : Typed) → may_be_empty t ≡ true → (value_reader models cs r q v).as_type t ≡ taken x → counts_as_empty x ≡ true → x ≡ empty_value t
  empties v t x m e c = emptied v (readers_of models cs r q v) (allowed models) t x m (sym (ap (λ z. z.as_type t) (reader_is v)) ∙ e) c

-- ---- a field

abbrev field_with : FieldModel → DefaultModel → HelperModel → Bool → FieldModel
field_with f e h s = record {
  has_name = f.has_name;
  serialize_name = f.serialize_name;
  deserialize_names = f.deserialize_names;
  field_type = f.field_type;
  default = e;
  helper = h;
  skip = s;
  is_rest = f.is_rest;
}

abbrev typed_with : FieldModel → DefaultModel → TypeModel → Bool → FieldModel
typed_with f e t s = record {
  has_name = f.has_name;
  serialize_name = f.serialize_name;
  deserialize_names = f.deserialize_names;
  field_type = t;
  default = e;
  helper = some_helper;
  skip = s;
  is_rest = f.is_rest;
}

pub given_taken : (o : Option Typed) (x : Typed) → given o ≡ taken x → o ≡ Some x
given_taken None x e = absurd (never_stopped x [] e)
given_taken (Some y) x e = ap Some (one_taken y x e)

module _ (models : List ContainerModel) (cs : ConversionsD) (r : Relations) (q q' : ℕ → TypeModel → Read Typed) (leads : list_all container_leads_back models ≡ true)
    (sound : (n : ℕ) (t : TypeModel) (x : Typed) → q n t ≡ taken x → ReadsAgain models cs r q q' t x) where
  -- what the field is written as is read again
  abbrev pub FieldBack : FieldModel → Typed → Type 0
  FieldBack f x = field_read q' (absent models) f (member_readers models cs r q' (members (field_writes f (field_part models x)))) ≡ taken x

  abbrev lone : FieldModel → Typed → List (List ℕ × Value)
  lone f x = (f.serialize_name, written models f.field_type x) ∷ []

  -- let out, it is its type's own default
  let_out : (f : FieldModel) (h : HelperModel) (x : Typed) → x ≡ empty_value f.field_type → counts_as_empty x ≡ true → FieldBack (field_with f own_default h true) x
  let_out f h x e c =
      ap (λ b. field_read q' (absent models) (field_with f own_default h true) (member_readers models cs r q' (members (cond b [] (lone f x))))) c ∙ ap taken (sym e)

  missing_back : (f : FieldModel) (e : DefaultModel) (h : HelperModel) (s : Bool) → is_default_fit e (field_with f e h s) ≡ true → is_helper_fit h (field_with f e h s) ≡ true → is_apart_from h e ≡ true
      → (x : Typed) → default_given q (absent models) (field_with f e h s) e ≡ taken x → FieldBack (field_with f e h s) x
  missing_back f no_default h true k g a x d = absurd (true≢false (sym k))
  missing_back f no_default no_helper false k g a x d = ap (under f.serialize_name) (absent_again models cs r q' leads f.field_type x (given_taken (absent models f.field_type) x d))
  missing_back f no_default some_helper false k g a x d = absurd (never_stopped x [] d)
  missing_back f no_default whole_helper false k g a x d = absurd (never_stopped x [] d)
  missing_back f own_default h false k g a x d = absurd (true≢false (sym k))
  missing_back f own_default h true k g a x d =
      let is = one_taken (empty_value f.field_type) x d in
      let_out f h x (sym is) (ap counts_as_empty (sym is) ∙ empty_is_empty f.field_type k)
  missing_back f (stated_default n) h true k g a x d = absurd (true≢false (sym k))
  missing_back f (stated_default n) no_helper false k g a x d = ap (under f.serialize_name) (sound n f.field_type x (sound_taken (q n f.field_type) x d))
  missing_back f (stated_default n) some_helper false k g a x d = absurd (true≢false (sym a))
  missing_back f (stated_default n) whole_helper false k g a x d = absurd (true≢false (sym g))

  abbrev Of : Value → TypeModel → Read Typed
  Of v t = (value_reader models cs r q v).as_type t

  option_back : (f : FieldModel) (e : DefaultModel) (t : TypeModel) (s : Bool) (v : Value) → ValueBack models cs r q q' v → (x : Typed) → read_map typed.some (Of v t) ≡ taken x → FieldBack (typed_with f e (option_type t) s) x
  option_back f e t s v b x h =
      let g = map_taken typed.some (Of v t) x h in
      subst (FieldBack (typed_with f e (option_type t) s)) g.2 (by s g.0 (ap (λ z. under f.serialize_name (read_map typed.some z)) ((b.as_type t g.0 g.1).again)))
    where
      by : (z : Bool) (y : Typed) → under f.serialize_name (read_map typed.some ((value_reader models cs r q' (written models t y)).as_type t)) ≡ taken (typed.some y) → FieldBack (typed_with f e (option_type t) z) (typed.some y)
      by true y k = k
      by false y k = k

  some_back : (f : FieldModel) (e : DefaultModel) (t : TypeModel) (s : Bool) → is_helper_fit some_helper (typed_with f e t s) ≡ true → (v : Value) → ValueBack models cs r q q' v
      → (x : Typed) → helped some_helper (Of v (present_type (typed_with f e t s))) ≡ taken x → FieldBack (typed_with f e t s) x
  some_back f e (option_type t) s k v b x h = option_back f e t s v b x h
  some_back f e _ s k v b x h = absurd (true≢false (sym k))

  unless_empty : (f : FieldModel) (v : Value) → may_be_empty f.field_type ≡ true → ValueBack models cs r q q' v → (x : Typed) → Of v f.field_type ≡ taken x → FieldBack (field_with f own_default no_helper true) x
  unless_empty f v m b x h = by (counts_as_empty x) refl
    where
      by : (c : Bool) → counts_as_empty x ≡ c → FieldBack (field_with f own_default no_helper true) x
      by true c = let_out f no_helper x (empties models cs r q v f.field_type x m h c) c
      by false c =
          ap (λ z. field_read q' (absent models) (field_with f own_default no_helper true) (member_readers models cs r q' (members (cond z [] (lone f x))))) c
          ∙ ap (under f.serialize_name) ((b.as_type f.field_type x h).again)

  present_back : (f : FieldModel) (e : DefaultModel) (h : HelperModel) (s : Bool) → is_default_fit e (field_with f e h s) ≡ true → is_helper_fit h (field_with f e h s) ≡ true
      → (v : Value) → ValueBack models cs r q q' v → (x : Typed) → helped h (Of v (present_type (field_with f e h s))) ≡ taken x → FieldBack (field_with f e h s) x
  present_back f e some_helper s k g v b x d = some_back f e f.field_type s g v b x d
  present_back f e no_helper false k g v b x d = ap (under f.serialize_name) ((b.as_type f.field_type x d).again)
  present_back f own_default no_helper true k g v b x d = unless_empty f v k b x d
  present_back f no_default no_helper true k g v b x d = absurd (true≢false (sym k))
  present_back f (stated_default n) no_helper true k g v b x d = absurd (true≢false (sym k))
  present_back f no_default whole_helper false k g v b x d = ap (under f.serialize_name) ((b.as_type f.field_type x d).again)
  present_back f no_default whole_helper true k g v b x d = absurd (true≢false (sym k))
  present_back f own_default whole_helper s k g v b x d = absurd (true≢false (sym g))
  present_back f (stated_default n) whole_helper s k g v b x d = absurd (true≢false (sym g))

  default_fits : (f : FieldModel) → is_field_fit f ≡ true → is_default_fit f.default f ≡ true
  default_fits f h = and_left (is_default_fit f.default f) (is_helper_fit f.helper f) (and_left (is_default_fit f.default f && is_helper_fit f.helper f) _ h)

  helper_fits : (f : FieldModel) → is_field_fit f ≡ true → is_helper_fit f.helper f ≡ true
  helper_fits f h = and_right (is_default_fit f.default f) (is_helper_fit f.helper f) (and_left (is_default_fit f.default f && is_helper_fit f.helper f) _ h)

  pub field_back : (f : FieldModel) → is_field_fit f ≡ true → is_apart_from f.helper f.default ≡ true → (ms : Members) → MembersBack models cs r q q' ms
      → (x : Typed) → field_read q (absent models) f (member_readers models cs r q ms) ≡ taken x → FieldBack f x
  field_back f h a no_members b x e = missing_back f f.default f.helper f.skip (default_fits f h) (helper_fits f h) a x e
  field_back f h a (member k v no_members) b x e =
      present_back f f.default f.helper f.skip (default_fits f h) (helper_fits f h) v b.1 x (under_taken k (helped f.helper (Of v (present_type f))) x e)
  field_back f h a (member k v (member l w ms)) b x e = absurd (never_stopped x (l ∷ []) e)
