-- Fields that are read are typed values of their types: also missing ones.
use Rattle.std.proofs.Common.{◌≡◌, ℕ, zero, suc, List, [], ◌∷◌, Bool, true, false, ◌&&◌, ◌||◌, not, cond, refl, sym, ap, ◌∙◌, subst, true≢false, Option, Some, None}
use Rattle.std.specs.List.{list_all}
use Rattle.json_value.specs.Value.{Value, Members, member, no_members}
use Rattle.schema_defs.specs.Texts.{Relations}
use Rattle.model_defs.specs.Types.{TypeModel, option_type, boxed_type, vec_type, set_type, map_type, item_type, outside_type}
use Rattle.model_defs.specs.Model.{DefaultModel, no_default, own_default, stated_default, HelperModel, no_helper, some_helper, whole_helper, newtype_style, FieldModel, BodyModel, struct_model, ContainerModel, ConversionsD, container_named, rule_of}
use Rattle.model_defs.specs.Layer.{MemberPart, has_no_helper, given_rule_agrees, own_members, other_members, present_type}
use Rattle.model_defs.specs.Reads.{allowed}
use Rattle.model_defs.specs.Flat.{MembersRise}
use Rattle.typed_defs.specs.Typed as typed
use Rattle.typed_defs.specs.Typed.{Typed, typeds, pairs}
use Rattle.typed_defs.specs.Written.{writes, field_types}
use Rattle.typed_defs.specs.Fit.{may_be_empty, is_default_fit, is_helper_fit, is_field_fit, are_fields_fit}
use Rattle.typed_defs.specs.IsTyped.{Held, Insides, inner, in_places, is_typed, body_is_of, item_is_of}
use Rattle.reading_defs.specs.Reading.{Read, taken, stopped, Reader, read_map, followed, helped, given, absent, absent_within, type_absent, body_absent, container_absent, empty_value, default_given, field_read, fields_read, rest_read, pairs_read, after_unnamed, members_read, value_reader, member_readers}
use Rattle.writing_laws.specs.Tables.{reads_name, container_leads_back, body_leads_back}
use Rattle.writing_laws.proofs.Taken.{one_taken, never_stopped, map_taken, under_taken, sound_taken, followed_taken, and_left, and_right, not_false}
use Rattle.writing_laws.proofs.Members.{those, those_rise}
use Rattle.writing_laws.proofs.Back.{ReadsAgain, MembersBack}
use Rattle.writing_laws.proofs.Pairs.{pairs_each}
use Rattle.writing_laws.proofs.Absent.{GivenLeads, named_leads, none_is, some_is, mapped_some, if_some}
use Rattle.writing_laws.proofs.Fields.{own_is, others_is, unnamed_is, unnamed_by, reader_is, given_taken}
use Rattle.writing_laws.proofs.Structs.{back_those}
use Rattle.typed_laws.proofs.Parts.{Is, held, ValueTyped, MembersTyped, pairs_are, pairs_rise}

-- a box has no mark of its own
pub boxed_is : (models : List ContainerModel) (cs : ConversionsD) (r : Relations) (t : TypeModel) (x : Typed) → is_typed models cs r x (boxed_type t) ≡ is_typed models cs r x t
boxed_is models cs r t typed.unit = refl
boxed_is models cs r t (typed.boolean b) = refl
boxed_is models cs r t (typed.integer z) = refl
boxed_is models cs r t (typed.text s) = refl
boxed_is models cs r t (typed.any v) = refl
boxed_is models cs r t typed.none = refl
boxed_is models cs r t (typed.some x) = refl
boxed_is models cs r t (typed.list xs) = refl
boxed_is models cs r t (typed.map_of xs) = refl
boxed_is models cs r t (typed.struct xs) = refl
boxed_is models cs r t (typed.variant i xs) = refl
boxed_is models cs r t (typed.newtype x) = refl

-- an item by its body
pub of_body : (models : List ContainerModel) (cs : ConversionsD) (r : Relations) (n : List ℕ) (m : ContainerModel) (b : BodyModel) → container_named n models ≡ Some m → m.body ≡ b → (i : Insides)
    → body_is_of r cs m b i ≡ true → item_is_of r cs (container_named n models) i ≡ true
of_body models cs r n m b e f i h = ap (λ o. item_is_of r cs o i) e ∙ ap (λ z. body_is_of r cs m z i) f ∙ h

module _ (models : List ContainerModel) (cs : ConversionsD) (r : Relations) (q : ℕ → TypeModel → Read Typed) (leads : list_all container_leads_back models ≡ true)
    (sound : (n : ℕ) (t : TypeModel) (x : Typed) → q n t ≡ taken x → ReadsAgain models cs r q q t x) (typed_so : (n : ℕ) (t : TypeModel) (x : Typed) → q n t ≡ taken x → Is models cs r q t x) where
  -- ---- no value

  module _ (k : ℕ) (items : (n : List ℕ) (x : Typed) → absent_within models k n ≡ Some x → Is models cs r q (item_type n) x) where
    absent_type : (t : TypeModel) (x : Typed) → type_absent (absent_within models k) t ≡ Some x → Is models cs r q t x
    absent_type (option_type t) x e = subst (Is models cs r q (option_type t)) (some_is typed.none x e) refl
    absent_type (boxed_type t) x e = boxed_is models cs r t x ∙ absent_type t x e
    absent_type (item_type n) x e = items n x e
    absent_type _ x e = absurd (none_is x e)

    unruled : (m : ContainerModel) → container_leads_back m ≡ true → m.transparent ≡ true → m.try_from ≡ false
    unruled m h e = sym (ap (λ b. b && m.try_from) e) ∙ not_false (m.transparent && m.try_from) (and_right (body_leads_back m.body) (not (m.transparent && m.try_from)) h)

    absent_body : (n : List ℕ) (m : ContainerModel) → container_named n models ≡ Some m → m.try_from ≡ false → (b : BodyModel) → m.body ≡ b → (x : Typed) → body_absent (absent_within models k) b ≡ Some x → Is models cs r q (item_type n) x
    absent_body n m e u (struct_model newtype_style (f ∷ [])) w x h =
        let g = mapped_some typed.newtype (type_absent (absent_within models k) f.field_type) x h in
        let h' : Held = record { is_of = is_typed models cs r g.0; writes = writes models g.0 } in
        subst (Is models cs r q (item_type n)) g.2
        (of_body models cs r n m (struct_model newtype_style (f ∷ [])) e w (inner h')
        (λ i. absent_type f.field_type g.0 g.1 i && (not (u i) || given_rule_agrees r (writes models g.0 f.field_type) (rule_of m.name cs.constraints))))
    absent_body n m e u _ w x h = absurd (none_is x h)

    absent_container : (n : List ℕ) (o : Option ContainerModel) → container_named n models ≡ o → GivenLeads o → (x : Typed) → container_absent (absent_within models k) o ≡ Some x → Is models cs r q (item_type n) x
    absent_container n None e l x h = absurd (none_is x h)
    absent_container n (Some m) e l x h =
        let g = if_some m.transparent (body_absent (absent_within models k) m.body) x h in
        absent_body n m e (unruled m l g.0) m.body refl x g.1

  absent_item : (k : ℕ) (n : List ℕ) (x : Typed) → absent_within models k n ≡ Some x → Is models cs r q (item_type n) x
  absent_item zero n x e = absurd (none_is x e)
  absent_item (suc k) n x e = absent_container k (absent_item k) n (container_named n models) refl (named_leads n models leads) x e

  absent_is : (t : TypeModel) (x : Typed) → absent models t ≡ Some x → Is models cs r q t x
  absent_is t x e = absent_type (allowed models) (absent_item (allowed models)) t x e

  empty_is : (t : TypeModel) → may_be_empty t ≡ true → Is models cs r q t (empty_value t)
  empty_is (option_type t) h = refl
  empty_is (vec_type t) h = refl
  empty_is (set_type t) h = refl
  empty_is (map_type k t) h = refl
  empty_is _ h = absurd (true≢false (sym h))

  -- ---- a field

  missing_is : (f : FieldModel) (e : DefaultModel) → is_default_fit e f ≡ true → (x : Typed) → default_given q (absent models) f e ≡ taken x → Is models cs r q f.field_type x
  missing_is f (stated_default n) k x d = typed_so n f.field_type x (sound_taken (q n f.field_type) x d)
  missing_is f own_default k x d = subst (Is models cs r q f.field_type) (one_taken (empty_value f.field_type) x d) (empty_is f.field_type (and_right f.skip (may_be_empty f.field_type) k))
  missing_is f no_default k x d = by f.helper d
    where
      by : (h : HelperModel) → cond (has_no_helper h) (given (absent models f.field_type)) (stopped []) ≡ taken x → Is models cs r q f.field_type x
      by no_helper e = absent_is f.field_type x (given_taken (absent models f.field_type) x e)
      by some_helper e = absurd (never_stopped x [] e)
      by whole_helper e = absurd (never_stopped x [] e)

  abbrev Of : Value → TypeModel → Read Typed
  Of v t = (value_reader models cs r q v).as_type t

  abbrev as_helped : HelperModel → TypeModel → TypeModel
  as_helped h t = present_type (record { has_name = false; serialize_name = []; deserialize_names = []; field_type = t; default = no_default; helper = h; skip = false; is_rest = false })

  outside_stops : (v : Value) (x : Typed) → read_map typed.some (Of v outside_type) ≡ taken x → ⊥
  outside_stops v x e = never_stopped x [] (sym (ap (λ z. read_map typed.some (z.as_type outside_type)) (reader_is models cs r q v)) ∙ e)

  present_is : (h : HelperModel) (t : TypeModel) (v : Value) → ValueTyped models cs r q v → (x : Typed) → helped h (Of v (as_helped h t)) ≡ taken x → Is models cs r q t x
  present_is no_helper t v b x e = b.as_type t x e
  present_is whole_helper t v b x e = b.as_type t x e
  present_is some_helper (option_type t) v b x e =
      let g = map_taken typed.some (Of v t) x e in
      subst (Is models cs r q (option_type t)) g.2 (b.as_type t g.0 g.1)
  present_is some_helper _ v b x e = absurd (outside_stops v x e)

  -- ---- the fields of a struct

  pub typed_those : (p : List ℕ → Bool) (ms : Members) → MembersTyped models cs r q ms → MembersTyped models cs r q (those p ms)
  typed_those p no_members b = tt
  typed_those p (member k v ms) b = by (p k) (typed_those p ms b.2)
    where
      by : (z : Bool) → MembersTyped models cs r q (those p ms) → MembersTyped models cs r q (cond z (member k v (those p ms)) (those p ms))
      by true h = (b.0, b.1, h)
      by false h = h

  rest_is : (t : TypeModel) (us : Members) → MembersTyped models cs r q us → MembersBack models cs r q q us → MembersRise us → (x : Typed) → rest_read t (member_readers models cs r q us) ≡ taken x → Is models cs r q t x
  rest_is (map_type k t) us b back rise x e =
      let g = map_taken (λ es. typed.map_of (pairs es)) (pairs_read k t (member_readers models cs r q us)) x e in
      let all = pairs_are models cs r q k t us g.0 b g.1 in
      let names = pairs_rise models cs r q k t g.0 us (pairs_each models cs r q q k t us g.0 back g.1) rise in
      subst (Is models cs r q (map_type k t)) g.2 (λ i. all i && names i)
  rest_is _ us b back rise x e = absurd (never_stopped x [] e)

  field_is : (f : FieldModel) → is_field_fit f ≡ true → (ms : Members) → MembersTyped models cs r q ms → (x : Typed) → field_read q (absent models) f (member_readers models cs r q ms) ≡ taken x → Is models cs r q f.field_type x
  field_is f h no_members b x e =
      missing_is f f.default (and_left (is_default_fit f.default f) (is_helper_fit f.helper f) (and_left (is_default_fit f.default f && is_helper_fit f.helper f) _ h)) x e
  field_is f h (member k v no_members) b x e = present_is f.helper f.field_type v b.1 x (under_taken k (helped f.helper (Of v (present_type f))) x e)
  field_is f h (member k v (member l w ms)) b x e = absurd (never_stopped x (l ∷ []) e)

  pub fields_are : (fs : List FieldModel) (us ms : Members) (xs : List Typed) → are_fields_fit fs ≡ true → MembersTyped models cs r q us → MembersBack models cs r q q us → MembersRise us → MembersTyped models cs r q ms
      → fields_read q (absent models) fs (member_readers models cs r q us) (member_readers models cs r q ms) ≡ taken xs → in_places (field_types fs) (held models cs r q xs) ≡ true
  fields_are [] us ms xs g u back rise b e = subst (λ z. in_places [] (held models cs r q z) ≡ true) (one_taken [] xs e) refl
  fields_are (f ∷ fs) us ms xs g u back rise b e =
      let fit = and_right (is_field_fit f) (are_fields_fit fs) g in
      by f.is_rest (λ ys. fields_are fs us ms ys fit u back rise b) (λ ys. fields_are fs us (those (λ n. not (reads_name f n)) ms) ys fit u back rise (typed_those (λ n. not (reads_name f n)) ms b)) e
    where
      by : (z : Bool) → ((ys : List Typed) → fields_read q (absent models) fs (member_readers models cs r q us) (member_readers models cs r q ms) ≡ taken ys → in_places (field_types fs) (held models cs r q ys) ≡ true)
          → ((ys : List Typed) → fields_read q (absent models) fs (member_readers models cs r q us) (member_readers models cs r q (those (λ n. not (reads_name f n)) ms)) ≡ taken ys → in_places (field_types fs) (held models cs r q ys) ≡ true)
          → cond z (followed (rest_read f.field_type (member_readers models cs r q us)) (fields_read q (absent models) fs (member_readers models cs r q us) (member_readers models cs r q ms)))
          (followed (field_read q (absent models) f (own_members f (member_readers models cs r q ms))) (fields_read q (absent models) fs (member_readers models cs r q us) (other_members f (member_readers models cs r q ms))))
          ≡ taken xs → in_places (field_types (f ∷ fs)) (held models cs r q xs) ≡ true
      by true rest each h =
          let k = followed_taken (rest_read f.field_type (member_readers models cs r q us)) (fields_read q (absent models) fs (member_readers models cs r q us) (member_readers models cs r q ms)) xs h in
          let first = rest_is f.field_type us u back rise k.0 k.2 in
          let others = rest k.1 k.3 in
          subst (λ ys. in_places (field_types (f ∷ fs)) (held models cs r q ys) ≡ true) k.4 (λ i. first i && others i)
      by false rest each h =
          let k = followed_taken (field_read q (absent models) f (own_members f (member_readers models cs r q ms)))
          (fields_read q (absent models) fs (member_readers models cs r q us) (other_members f (member_readers models cs r q ms))) xs h in
          let first = field_is f (and_left (is_field_fit f) (are_fields_fit fs) g) (those (reads_name f) ms) (typed_those (reads_name f) ms b) k.0 (sym (ap (field_read q (absent models) f) (own_is models cs r q f ms)) ∙ k.2) in
          let others = each k.1 (sym (ap (fields_read q (absent models) fs (member_readers models cs r q us)) (others_is models cs r q f ms)) ∙ k.3) in
          subst (λ ys. in_places (field_types (f ∷ fs)) (held models cs r q ys) ≡ true) k.4 (λ i. first i && others i)

  pub struct_is : (closed : Bool) (fs : List FieldModel) (ms : Members) (xs : List Typed) → are_fields_fit fs ≡ true → MembersTyped models cs r q ms → MembersBack models cs r q q ms → MembersRise ms
      → members_read q (absent models) closed fs (member_readers models cs r q ms) ≡ taken xs → in_places (field_types fs) (held models cs r q xs) ≡ true
  struct_is closed fs ms xs g b back rise e =
      let us = those (unnamed_by fs) ms in
      let read = after_read closed us (member_readers models cs r q ms) (sym (ap (λ ns. after_unnamed q (absent models) closed fs ns (member_readers models cs r q ms)) (unnamed_is models cs r q fs ms)) ∙ e) in
      fields_are fs us ms xs g (typed_those (unnamed_by fs) ms b) (back_those models cs r q q leads sound (unnamed_by fs) ms back) (those_rise (unnamed_by fs) ms rise) b read
    where
      after_read : (z : Bool) (us : Members) (ns : List (MemberPart Reader)) → after_unnamed q (absent models) z fs (member_readers models cs r q us) ns ≡ taken xs → fields_read q (absent models) fs (member_readers models cs r q us) ns ≡ taken xs
      after_read true no_members ns h = h
      after_read true (member k v us) ns h = absurd (never_stopped xs (k ∷ []) h)
      after_read false us ns h = h
