-- Fields and structs: what reading gives of them agrees with what the definitions say.
use Rattle.std.proofs.Common.{◌≡◌, ℕ, List, [], ◌∷◌, map, filter, Bool, true, false, ◌&&◌, ◌||◌, not, cond, refl, sym, ap, ◌∙◌, subst, true≢false, bytes_eq, Option, Some, None}
use Rattle.std.specs.List.{list_any}
use Rattle.json_value.specs.Value.{Value, Members, null, no_members}
use Rattle.model_defs.specs.Types.{TypeModel, option_type, map_type}
use Rattle.model_defs.specs.Model.{DefaultModel, no_default, own_default, stated_default, HelperModel, no_helper, some_helper, whole_helper, FieldModel, ContainerModel}
use Rattle.model_defs.specs.Layer.{one_type, MemberPart, belongs, own_members, other_members, unnamed_members, present_type, may_be_missing, field_takes, fields_take, rests_take, map_takes, members_take, is_none}
use Rattle.model_defs.specs.Reads.{leads_to_option}
use Rattle.model_defs.specs.Refusals.{judged, in_map, in_field, in_fields, in_struct, after_unnamed}
use Rattle.model_defs.specs.Settled.{put_all, entries_written, missing_written, field_written, map_written, fields_written, rests_written, struct_written}
use Rattle.typed_defs.specs.Typed as typed
use Rattle.typed_defs.specs.Typed.{Typed, typeds, pairs}
use Rattle.typed_defs.specs.Written.{written, field_writes, fields_write, rests_write, members_written, fields_of, rest_of, pairs_in, pairs_write}
use Rattle.typed_defs.specs.Fit.{is_option, may_be_empty, is_default_fit, is_helper_fit, is_field_fit}
use Rattle.reading_defs.specs.Reading as reading
use Rattle.reading_defs.specs.Reading.{Read, taken, stopped, unsound, Reader, read_map, under, if_sound, followed, rest_read, pairs_read, helped, default_given, field_read, fields_read, members_read, given, absent, empty_value}
use Rattle.reading_defs.proofs.Agree.{Agrees, agrees_map, agrees_as, agrees_under, agrees_along, agrees_followed, filter_map, and_left, and_right, turned_and, same_and}
use Rattle.reading_defs.proofs.Parts.{Part', Entry, takes_of, seen_of, part_of, reader_of, takes_at, seen_at, part_at, reader_at, judged_map, pairs_agree}
use Rattle.reading_defs.proofs.Good.{SoundAt, FieldIsGood, FieldsAreGood}
use Rattle.reading_defs.proofs.Rows.{field_part, IsAbsent, absent-is, empty_is_empty}

-- the same field, with another default, helper and skip condition, or as a rest
abbrev field_with : FieldModel → DefaultModel → HelperModel → Bool → FieldModel
field_with f e h s = record {
  has_name = f.has_name;
  serialize_name = f.serialize_name;
  deserialize_names = f.deserialize_names;
  field_type = f.field_type;
  default = e;
  helper = h;
  skip = s;
  is_rest = f.is_rest;
}

abbrev option_field : FieldModel → DefaultModel → TypeModel → Bool → FieldModel
option_field f dm t s = record {
  has_name = f.has_name;
  serialize_name = f.serialize_name;
  deserialize_names = f.deserialize_names;
  field_type = t;
  default = dm;
  helper = some_helper;
  skip = s;
  is_rest = f.is_rest;
}

abbrev field_as : FieldModel → Bool → FieldModel
field_as f b = record {
  has_name = f.has_name;
  serialize_name = f.serialize_name;
  deserialize_names = f.deserialize_names;
  field_type = f.field_type;
  default = f.default;
  helper = f.helper;
  skip = f.skip;
  is_rest = b;
}

abbrev lone : List ℕ → Value → List (List ℕ × Value)
lone n v = (n, v) ∷ []

module _ (models : List ContainerModel) (E : Type 0) (d : ℕ → TypeModel → Value) (q : ℕ → TypeModel → Read Typed) where
  abbrev pub leads : TypeModel → Bool
  leads t = leads_to_option models t

  -- ---- a missing field

  given_agrees : (f : FieldModel) (b : Bool) (o : Option Typed) → IsAbsent models b f.field_type o
      → Agrees E b [] (λ x. lone f.serialize_name (written models f.field_type x) ≡ cond b (lone f.serialize_name null) []) (given o)
  given_agrees f b None h = (h, refl)
  given_agrees f b (Some x) h = (h.0, ap (lone f.serialize_name) h.1 ∙ sym (ap (λ c. cond c (lone f.serialize_name null) []) h.0))

  sound_agrees : (f : FieldModel) (n : ℕ) (r : Read Typed) → SoundAt models E d q n f.field_type r
      → Agrees E true [] (λ x. lone f.serialize_name (written models f.field_type x) ≡ lone f.serialize_name (d n f.field_type)) (if_sound r)
  sound_agrees f n (taken x) h = (refl, ap (lone f.serialize_name) h)
  sound_agrees f n (stopped l) h = h
  sound_agrees f n unsound h = h

  missing_case : (f : FieldModel) (e : DefaultModel) (h : HelperModel) (s : Bool) → is_default_fit e (field_with f e h s) ≡ true
      → ((n : ℕ) → e ≡ stated_default n → SoundAt models E d q n f.field_type (q n f.field_type))
      → Agrees E (may_be_missing leads (field_with f e h s)) [] (λ x. field_writes (field_with f e h s) (field_part models x) ≡ missing_written leads d (field_with f e h s) e)
      (default_given q (absent models) (field_with f e h s) e)
  missing_case f no_default h true k g = absurd (true≢false (sym k))
  missing_case f no_default no_helper false k g = given_agrees f (leads f.field_type) (absent models f.field_type) (absent-is models f.field_type)
  missing_case f no_default some_helper false k g = (refl, refl)
  missing_case f no_default whole_helper false k g = (refl, refl)
  missing_case f own_default h false k g = absurd (true≢false (sym k))
  missing_case f own_default h true k g =
      (refl, ap (λ b. cond b [] ((f.serialize_name, written models f.field_type (empty_value f.field_type)) ∷ [])) (empty_is_empty f.field_type k))
  missing_case f (stated_default n) h true k g = absurd (true≢false (sym k))
  missing_case f (stated_default n) h false k g = sound_agrees f n (q n f.field_type) (g n refl)

  -- ---- a present one

  abbrev Present : FieldModel → Entry models E d q → Typed → Type 0
  Present f e x = field_writes f (field_part models x) ≡ field_written leads d f (part_at models E d q e ∷ [])

  unless_empty : (f : FieldModel) (h : HelperModel) (e : Entry models E d q) (r : Read Typed)
      → (may_be_empty f.field_type ≡ true) → e.value.reader.as_type f.field_type ≡ r
      → Agrees E (e.value.seen.takes (one_type f.field_type)) (e.value.seen.stops (one_type f.field_type)) (λ x. written models f.field_type x ≡ e.value.part.writes (one_type f.field_type)) r
      → Agrees E (e.value.seen.takes (one_type f.field_type)) (e.value.seen.stops (one_type f.field_type)) (Present (field_with f own_default no_helper true) e) r
  unless_empty f h e (taken x) m is g = (
    g.0,
    λ i. cond (e.value.empties f.field_type x m is i) [] ((f.serialize_name, g.1 i) ∷ []),
  )
  unless_empty f h e (stopped l) m is g = g
  unless_empty f h e unsound m is g = g

  of_option : (f : FieldModel) (dm : DefaultModel) (s : Bool) (e : Entry models E d q) (t : TypeModel) → is_option t ≡ true
      → Agrees E (e.value.seen.takes (one_type (present_type (option_field f dm t s)))) (e.value.seen.stops (one_type (present_type (option_field f dm t s)))) (Present (option_field f dm t s) e) (helped some_helper (e.value.reader.as_type (present_type (option_field f dm t s))))
  of_option f dm true e (option_type t) k =
      agrees_map E (λ x. written models t x ≡ e.value.part.writes (one_type t)) (λ x. Present (option_field f dm (option_type t) true) e x) typed.some (e.value.seen.takes (one_type t)) (e.value.seen.stops (one_type t)) (λ x g. λ i. (f.serialize_name, g i) ∷ []) (e.value.reader.as_type t) (e.value.as_type t)
  of_option f dm false e (option_type t) k =
      agrees_map E (λ x. written models t x ≡ e.value.part.writes (one_type t)) (λ x. Present (option_field f dm (option_type t) false) e x) typed.some (e.value.seen.takes (one_type t)) (e.value.seen.stops (one_type t)) (λ x g. λ i. (f.serialize_name, g i) ∷ []) (e.value.reader.as_type t) (e.value.as_type t)
  of_option f dm s e _ k = absurd (true≢false (sym k))

  always_written : (f : FieldModel) (dm : DefaultModel) (h : HelperModel) (e : Entry models E d q) (t : TypeModel) → (x : Typed)
      → written models f.field_type x ≡ e.value.part.writes (one_type (present_type (field_with f dm h false))) → Present (field_with f dm h false) e x
  always_written f dm h e t x g = λ i. (f.serialize_name, g i) ∷ []

  present_case : (f : FieldModel) (dm : DefaultModel) (h : HelperModel) (s : Bool) → is_default_fit dm (field_with f dm h s) ≡ true → is_helper_fit h (field_with f dm h s) ≡ true → (e : Entry models E d q)
      → Agrees E (e.value.seen.takes (one_type (present_type (field_with f dm h s)))) (e.value.seen.stops (one_type (present_type (field_with f dm h s)))) (Present (field_with f dm h s) e)
      (helped h (e.value.reader.as_type (present_type (field_with f dm h s))))
  present_case f dm some_helper s k g e = of_option f dm s e f.field_type g
  present_case f dm no_helper false k g e =
      agrees_as E (λ x. written models f.field_type x ≡ e.value.part.writes (one_type f.field_type)) (Present (field_with f dm no_helper false) e)
      (e.value.seen.takes (one_type f.field_type)) (e.value.seen.stops (one_type f.field_type)) (always_written f dm no_helper e f.field_type) (e.value.reader.as_type f.field_type) (e.value.as_type f.field_type)
  present_case f own_default no_helper true k g e = unless_empty f no_helper e (e.value.reader.as_type f.field_type) k refl (e.value.as_type f.field_type)
  present_case f no_default no_helper true k g e = absurd (true≢false (sym k))
  present_case f (stated_default n) no_helper true k g e = absurd (true≢false (sym k))
  present_case f no_default whole_helper false k g e =
      agrees_as E (λ x. written models f.field_type x ≡ e.value.part.writes (one_type f.field_type)) (Present (field_with f no_default whole_helper false) e)
      (e.value.seen.takes (one_type f.field_type)) (e.value.seen.stops (one_type f.field_type)) (always_written f no_default whole_helper e f.field_type) (e.value.reader.as_type f.field_type) (e.value.as_type f.field_type)
  present_case f no_default whole_helper true k g e = absurd (true≢false (sym k))
  present_case f own_default whole_helper s k g e = absurd (true≢false (sym g))
  present_case f (stated_default n) whole_helper s k g e = absurd (true≢false (sym g))

  -- ---- a field, by the members that are its own

  default_fits : (f : FieldModel) → is_field_fit f ≡ true → is_default_fit f.default f ≡ true
  default_fits f h = and_left (is_default_fit f.default f) (is_helper_fit f.helper f) (and_left (is_default_fit f.default f && is_helper_fit f.helper f) _ h)

  helper_fits : (f : FieldModel) → is_field_fit f ≡ true → is_helper_fit f.helper f ≡ true
  helper_fits f h = and_right (is_default_fit f.default f) (is_helper_fit f.helper f) (and_left (is_default_fit f.default f && is_helper_fit f.helper f) _ h)

  abbrev FieldSays : FieldModel → List (Entry models E d q) → Typed → Type 0
  FieldSays f own x = field_writes f (field_part models x) ≡ field_written leads d f (map (part_at models E d q) own)

  field_agrees : (f : FieldModel) → FieldIsGood models E d q f → (own : List (Entry models E d q))
      → Agrees E (field_takes leads f (map (takes_at models E d q) own)) (in_field leads f (map (seen_at models E d q) own)) (FieldSays f own) (field_read q (absent models) f (map (reader_at models E d q) own))
  field_agrees f g [] = missing_case f f.default f.helper f.skip (default_fits f g.fit) g.sound
  field_agrees f g (e ∷ []) =
      agrees_under E (Present f e) e.name (e.value.seen.takes (one_type (present_type f))) (e.value.seen.stops (one_type (present_type f))) (helped f.helper (e.value.reader.as_type (present_type f)))
      (present_case f f.default f.helper f.skip (default_fits f g.fit) (helper_fits f g.fit) e)
  field_agrees f g (e ∷ c ∷ es) = (refl, refl)

  -- ---- a rest

  abbrev RestSays : TypeModel → List (Entry models E d q) → Typed → Type 0
  RestSays t us x = (done : Members) → put_all (rest_of models x t) done ≡ map_written leads d t (map (part_at models E d q) us) done

  rest_agrees : (t : TypeModel) (us : List (Entry models E d q))
      → Agrees E (map_takes t (map (takes_at models E d q) us)) (in_map t (map (seen_at models E d q) us)) (RestSays t us) (rest_read t (map (reader_at models E d q) us))
  rest_agrees (map_type k t) us =
      agrees_map E (λ es. pairs_write k t (pairs_in models (pairs es)) ≡ entries_written k t (map (part_at models E d q) us)) (RestSays (map_type k t) us) (λ es. typed.map_of (pairs es)) _ _
      (λ es h done. ap (λ ds. put_all ds done) h) (pairs_read k t (map (reader_at models E d q) us)) (pairs_agree models E d q k t us)
  rest_agrees _ us = (refl, refl)

  -- ---- the fields in order, a rest among them

  abbrev pub own_entries : FieldModel → List (Entry models E d q) → List (Entry models E d q)
  own_entries f es = filter (λ e. list_any (λ n. bytes_eq n e.name) f.deserialize_names) es

  abbrev pub other_entries : FieldModel → List (Entry models E d q) → List (Entry models E d q)
  other_entries f es = filter (λ e. not (list_any (λ n. bytes_eq n e.name) f.deserialize_names)) es

  abbrev pub FieldsSay : List FieldModel → List (Entry models E d q) → List (Entry models E d q) → List Typed → Type 0
  FieldsSay fs us ms xs =
      ((done : Members) → fields_write fs (fields_of models (typeds xs)) done ≡ fields_written leads d fs (map (part_at models E d q) ms) done)
      × ((done : Members) → rests_write fs (fields_of models (typeds xs)) done ≡ rests_written leads d fs (map (part_at models E d q) us) done)

  abbrev FieldsAgree : List FieldModel → List (Entry models E d q) → List (Entry models E d q) → Type 0
  FieldsAgree fs us ms =
      Agrees E (fields_take leads fs (map (takes_at models E d q) ms) && rests_take leads fs (map (takes_at models E d q) us)) (in_fields leads fs (map (seen_at models E d q) us) (map (seen_at models E d q) ms))
      (FieldsSay fs us ms) (fields_read q (absent models) fs (map (reader_at models E d q) us) (map (reader_at models E d q) ms))

  field_turn : (f : FieldModel) (b : Bool) (fs : List FieldModel) (us ms : List (Entry models E d q)) → FieldIsGood models E d q (field_as f b)
      → ((ns : List (Entry models E d q)) → FieldsAgree fs us ns) → FieldsAgree (field_as f b ∷ fs) us ms
  field_turn f true fs us ms g rec =
      let mt = map_takes f.field_type (map (takes_at models E d q) us) in
      let ft = fields_take leads fs (map (takes_at models E d q) ms) in
      let rt = rests_take leads fs (map (takes_at models E d q) us) in
      let stops = in_fields leads fs (map (seen_at models E d q) us) (map (seen_at models E d q) ms) in
      let rest = in_map f.field_type (map (seen_at models E d q) us) in
      agrees_along E (FieldsSay (field_as f true ∷ fs) us ms) (mt && (ft && rt)) (ft && (mt && rt)) (cond mt stops rest) (cond (map_takes f.field_type (map judged (map (seen_at models E d q) us))) stops rest)
      (followed (rest_read f.field_type (map (reader_at models E d q) us)) (fields_read q (absent models) fs (map (reader_at models E d q) us) (map (reader_at models E d q) ms)))
      (turned_and ft mt rt) (ap (λ js. cond (map_takes f.field_type js) stops rest) (judged_map models E d q us))
      (agrees_followed E (RestSays f.field_type us) (FieldsSay fs us ms) (FieldsSay (field_as f true ∷ fs) us ms) mt (ft && rt) rest stops
      (λ x xs h k. (k.0, λ done. k.1 (put_all (rest_of models x f.field_type) done) ∙ ap (rests_written leads d fs (map (part_at models E d q) us)) (h done)))
      (rest_read f.field_type (map (reader_at models E d q) us)) (fields_read q (absent models) fs (map (reader_at models E d q) us) (map (reader_at models E d q) ms))
      (rest_agrees f.field_type us) (rec ms))
  field_turn f false fs us ms g rec =
      let own = own_entries f ms in
      let others = other_entries f ms in
      let ft = field_takes leads (field_as f false) (map (takes_at models E d q) own) in
      let fts = fields_take leads fs (map (takes_at models E d q) others) in
      let rt = rests_take leads fs (map (takes_at models E d q) us) in
      let first = in_field leads (field_as f false) (map (seen_at models E d q) own) in
      let next = in_fields leads fs (map (seen_at models E d q) us) (map (seen_at models E d q) others) in
      let both = agrees_followed E (FieldSays (field_as f false) own) (FieldsSay fs us others) (FieldsSay (field_as f false ∷ fs) us ms) ft (fts && rt) first next
      (λ x xs h k. (
        λ done. k.0 (put_all (field_writes (field_as f false) (field_part models x)) done)
            ∙ (λ i. fields_written leads d fs (sym (filter_map (λ m. not (belongs f m)) (part_at models E d q) ms) i) (put_all ((h ∙ ap (field_written leads d (field_as f false)) (sym (filter_map (belongs f) (part_at models E d q) ms))) i) done)),
        k.1,
      ))
      (field_read q (absent models) (field_as f false) (map (reader_at models E d q) own)) (fields_read q (absent models) fs (map (reader_at models E d q) us) (map (reader_at models E d q) others))
      (field_agrees (field_as f false) g own) (rec others) in
      subst (λ r. Agrees E ((field_takes leads (field_as f false) (own_members f (map (takes_at models E d q) ms)) && fields_take leads fs (other_members f (map (takes_at models E d q) ms))) && rt)
      (cond (field_takes leads (field_as f false) (map judged (own_members f (map (seen_at models E d q) ms)))) (in_fields leads fs (map (seen_at models E d q) us) (other_members f (map (seen_at models E d q) ms))) (in_field leads (field_as f false) (own_members f (map (seen_at models E d q) ms))))
      (FieldsSay (field_as f false ∷ fs) us ms) r)
      (λ i. followed (field_read q (absent models) (field_as f false) (sym (filter_map (belongs f) (reader_at models E d q) ms) i)) (fields_read q (absent models) fs (map (reader_at models E d q) us) (sym (filter_map (λ m. not (belongs f m)) (reader_at models E d q) ms) i)))
      (agrees_along E (FieldsSay (field_as f false ∷ fs) us ms) (ft && (fts && rt)) _ (cond ft next first) _
      (followed (field_read q (absent models) (field_as f false) (map (reader_at models E d q) own)) (fields_read q (absent models) fs (map (reader_at models E d q) us) (map (reader_at models E d q) others)))
      ((λ i. (field_takes leads (field_as f false) (filter_map (belongs f) (takes_at models E d q) ms i) && fields_take leads fs (filter_map (λ m. not (belongs f m)) (takes_at models E d q) ms i)) && rt) ∙ same_and ft fts rt)
      ((λ i. cond (field_takes leads (field_as f false) (map judged (filter_map (belongs f) (seen_at models E d q) ms i))) (in_fields leads fs (map (seen_at models E d q) us) (filter_map (λ m. not (belongs f m)) (seen_at models E d q) ms i)) (in_field leads (field_as f false) (filter_map (belongs f) (seen_at models E d q) ms i)))
      ∙ ap (λ js. cond (field_takes leads (field_as f false) js) next first) (judged_map models E d q own))
      both)

  pub fields_agree : (fs : List FieldModel) → FieldsAreGood models E d q fs → (us ms : List (Entry models E d q)) → FieldsAgree fs us ms
  fields_agree [] g us ms = (refl, (λ done. refl, λ done. refl))
  fields_agree (f ∷ fs) g us ms = field_turn f f.is_rest fs us ms g.0 (fields_agree fs g.1 us)

  -- ---- members that no field names

  abbrev pub unnamed_entries : List FieldModel → List (Entry models E d q) → List (Entry models E d q)
  unnamed_entries [] es = es
  unnamed_entries (f ∷ fs) es = cond f.is_rest (unnamed_entries fs es) (unnamed_entries fs (other_entries f es))

  module _ {J : Type 0} (k v : Part' models E d q → J) where
    abbrev at : Entry models E d q → MemberPart J
    at e = record { name = e.name; key = k e.key; value = v e.value }

    pub unnamed_map : (fs : List FieldModel) (es : List (Entry models E d q)) → unnamed_members fs (map at es) ≡ map at (unnamed_entries fs es)
    unnamed_map [] es = refl
    unnamed_map (f ∷ fs) es = by f.is_rest (unnamed_map fs es) (unnamed_map fs (other_entries f es))
      where
        by : (b : Bool) → unnamed_members fs (map at es) ≡ map at (unnamed_entries fs es) → unnamed_members fs (map at (other_entries f es)) ≡ map at (unnamed_entries fs (other_entries f es)) → cond b (unnamed_members fs (map at es)) (unnamed_members fs (other_members f (map at es))) ≡ map at (cond b (unnamed_entries fs es) (unnamed_entries fs (other_entries f es)))
        by true g h = g
        by false g h = ap (unnamed_members fs) (filter_map (λ m. not (belongs f m)) at es) ∙ h

  -- ---- structs

  abbrev pub StructSays : List FieldModel → List (Entry models E d q) → List Typed → Type 0
  StructSays fs ms xs = members_written fs (fields_of models (typeds xs)) ≡ struct_written leads d fs (map (part_at models E d q) ms)

  struct_says : (fs : List FieldModel) (ms : List (Entry models E d q)) (xs : List Typed) → FieldsSay fs (unnamed_entries fs ms) ms xs → StructSays fs ms xs
  struct_says fs ms xs h =
      h.0 (rests_write fs (fields_of models (typeds xs)) no_members) ∙ ap (fields_written leads d fs (map (part_at models E d q) ms)) (h.1 no_members)
      ∙ ap (λ us. fields_written leads d fs (map (part_at models E d q) ms) (rests_written leads d fs us no_members)) (sym (unnamed_map (part_of models E d q) (part_of models E d q) fs ms))

  by_unnamed : (closed : Bool) (fs : List FieldModel) → FieldsAreGood models E d q fs → (us ms : List (Entry models E d q))
      → Agrees E ((not closed || is_none (map (takes_at models E d q) us)) && fields_take leads fs (map (takes_at models E d q) ms) && rests_take leads fs (map (takes_at models E d q) us))
      (after_unnamed leads closed fs (map (seen_at models E d q) us) (map (seen_at models E d q) ms)) (FieldsSay fs us ms) (reading.after_unnamed q (absent models) closed fs (map (reader_at models E d q) us) (map (reader_at models E d q) ms))
  by_unnamed false fs g us ms = fields_agree fs g us ms
  by_unnamed true fs g [] ms = fields_agree fs g [] ms
  by_unnamed true fs g (u ∷ us) ms = (refl, refl)

  pub members_agree : (closed : Bool) (fs : List FieldModel) → FieldsAreGood models E d q fs → (ms : List (Entry models E d q))
      → Agrees E (members_take leads closed fs (map (takes_at models E d q) ms)) (in_struct leads closed fs (map (seen_at models E d q) ms)) (StructSays fs ms) (members_read q (absent models) closed fs (map (reader_at models E d q) ms))
  members_agree closed fs g ms =
      let us = unnamed_entries fs ms in
      let ju = unnamed_map (takes_of models E d q) (takes_of models E d q) fs ms in
      let su = unnamed_map (λ p. record { takes = p.seen.takes; stops = λ c. [] }) (seen_of models E d q) fs ms in
      let ru = unnamed_map (reader_of models E d q) (reader_of models E d q) fs ms in
      subst (λ vs. Agrees E (members_take leads closed fs (map (takes_at models E d q) ms)) (in_struct leads closed fs (map (seen_at models E d q) ms)) (StructSays fs ms) (reading.after_unnamed q (absent models) closed fs vs (map (reader_at models E d q) ms))) (sym ru)
      (agrees_along E (StructSays fs ms) ((not closed || is_none (map (takes_at models E d q) us)) && fields_take leads fs (map (takes_at models E d q) ms) && rests_take leads fs (map (takes_at models E d q) us)) _
      (after_unnamed leads closed fs (map (seen_at models E d q) us) (map (seen_at models E d q) ms)) _ (reading.after_unnamed q (absent models) closed fs (map (reader_at models E d q) us) (map (reader_at models E d q) ms))
      (λ i. (not closed || is_none (ju i)) && fields_take leads fs (map (takes_at models E d q) ms) && rests_take leads fs (ju i))
      (λ i. after_unnamed leads closed fs (su i) (map (seen_at models E d q) ms))
      (agrees_as E (FieldsSay fs us ms) (StructSays fs ms) _ _ (struct_says fs ms) (reading.after_unnamed q (absent models) closed fs (map (reader_at models E d q) us) (map (reader_at models E d q) ms)) (by_unnamed closed fs g us ms)))
