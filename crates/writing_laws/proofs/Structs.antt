-- Structs, read again: each field under its own name, and one rest.
use Rattle.std.proofs.Common.{◌≡◌, ℕ, List, [], ◌∷◌, Bool, true, false, ◌&&◌, ◌||◌, not, cond, refl, sym, ap, ◌∙◌, subst, true≢false}
use Rattle.std.specs.List.{list_all}
use Rattle.json_value.specs.Value.{Value, Members, member, no_members, members}
use Rattle.schema_defs.specs.Texts.{Relations}
use Rattle.model_defs.specs.Types.{TypeModel, map_type}
use Rattle.model_defs.specs.Model.{FieldModel, ContainerModel, ConversionsD}
use Rattle.model_defs.specs.Layer.{MemberPart, own_members, other_members}
use Rattle.model_defs.specs.Settled.{put_all}
use Rattle.model_defs.specs.Flat.{MembersRise}
use Rattle.typed_defs.specs.Typed as typed
use Rattle.typed_defs.specs.Typed.{Typed, typeds, pairs}
use Rattle.typed_defs.specs.Written.{written, field_writes, fields_write, rests_write, members_written, fields_of, rest_of}
use Rattle.typed_defs.specs.Fit.{is_field_fit, are_fields_fit}
use Rattle.reading_defs.specs.Reading.{Read, taken, Reader, read_map, followed, absent, field_read, fields_read, rest_read, pairs_read, after_unnamed, members_read, member_readers}
use Rattle.reading_defs.proofs.Agree.{turned_and}
use Rattle.reading_defs.proofs.Rows.{field_part}
use Rattle.writing_laws.specs.Tables.{reads_name, takes_none_of, names_lead_back, has_no_rest, has_one_rest, is_apart_from, container_leads_back}
use Rattle.writing_laws.proofs.Taken.{one_taken, never_stopped, map_taken, followed_taken, and_left, and_right, not_false, or_right, never_both}
use Rattle.writing_laws.proofs.Members.{those, those_those, those_same, those_all, those_pass, those_rise, pass_those, pass_both, AllPass, put_out, put_in}
use Rattle.writing_laws.proofs.Back.{ReadsAgain, MembersBack, FieldsLead}
use Rattle.writing_laws.proofs.Pairs.{Pairs, pairs_each, pairs_again, pairs_pass, pairs_none, pairs_put_is}
use Rattle.writing_laws.proofs.Fields.{FieldBack, field_back, own_is, others_is, unnamed_is, unnamed_by}

-- ---- tests on the names that fields are written under

-- each field's name passes, the rest aside
abbrev pub Passing : (List ℕ → Bool) → List FieldModel → Type 0
Passing p [] = Unit {0}
Passing p (f ∷ fs) = (f.is_rest ≡ false → p f.serialize_name ≡ true) × Passing p fs

-- none passes
abbrev Avoids : (List ℕ → Bool) → List FieldModel → Type 0
Avoids a [] = Unit {0}
Avoids a (f ∷ fs) = (f.is_rest ≡ false → a f.serialize_name ≡ false) × Avoids a fs

avoids_more : (a b : List ℕ → Bool) → ((n : List ℕ) → a n ≡ false → b n ≡ false) → (fs : List FieldModel) → Avoids a fs → Avoids b fs
avoids_more a b h [] g = tt
avoids_more a b h (f ∷ fs) g = ((λ e. h f.serialize_name (g.0 e)), avoids_more a b h fs g.1)

never_mine : (f g : FieldModel) → (g.is_rest || not (reads_name f g.serialize_name)) ≡ true → g.is_rest ≡ false → reads_name f g.serialize_name ≡ false
never_mine f g h e = not_false (reads_name f g.serialize_name) (or_right g.is_rest (not (reads_name f g.serialize_name)) h e)

none_mine : (f : FieldModel) (gs : List FieldModel) → takes_none_of f gs ≡ true → Avoids (reads_name f) gs
none_mine f [] h = tt
none_mine f (g ∷ gs) h = (
  never_mine f g (and_left (g.is_rest || not (reads_name f g.serialize_name)) (takes_none_of f gs) h),
  none_mine f gs (and_right (g.is_rest || not (reads_name f g.serialize_name)) (takes_none_of f gs) h),
)

pass_others : (f : FieldModel) (p : List ℕ → Bool) (gs : List FieldModel) → Avoids (reads_name f) gs → Passing p gs → Passing (λ n. not (reads_name f n) && p n) gs
pass_others f p [] h g = tt
pass_others f p (k ∷ gs) h g = ((λ e i. not (h.0 e i) && g.0 e i), pass_others f p gs h.1 g.1)

own_name : (f : FieldModel) (fs : List FieldModel) → names_lead_back (f ∷ fs) ≡ true → f.is_rest ≡ false → reads_name f f.serialize_name ≡ true
own_name f fs h e =
    and_left (reads_name f f.serialize_name) (takes_none_of f fs)
    (or_right f.is_rest (reads_name f f.serialize_name && takes_none_of f fs) (and_left (f.is_rest || (reads_name f f.serialize_name && takes_none_of f fs)) (names_lead_back fs) h) e)

no_others : (f : FieldModel) (fs : List FieldModel) → names_lead_back (f ∷ fs) ≡ true → f.is_rest ≡ false → Avoids (reads_name f) fs
no_others f fs h e =
    none_mine f fs (and_right (reads_name f f.serialize_name) (takes_none_of f fs)
    (or_right f.is_rest (reads_name f f.serialize_name && takes_none_of f fs) (and_left (f.is_rest || (reads_name f f.serialize_name && takes_none_of f fs)) (names_lead_back fs) h) e))

later_names : (f : FieldModel) (fs : List FieldModel) → names_lead_back (f ∷ fs) ≡ true → names_lead_back fs ≡ true
later_names f fs h = and_right (f.is_rest || (reads_name f f.serialize_name && takes_none_of f fs)) (names_lead_back fs) h

-- no field's name is unnamed
named_avoids : (fs : List FieldModel) → names_lead_back fs ≡ true → Avoids (unnamed_by fs) fs
named_avoids [] h = tt
named_avoids (f ∷ fs) h = (
  (λ e. ap (λ b. cond b (unnamed_by fs f.serialize_name) (unnamed_by fs f.serialize_name && not (reads_name f f.serialize_name))) e ∙ last (unnamed_by fs f.serialize_name) (own_name f fs h e)),
  avoids_more (unnamed_by fs) (unnamed_by (f ∷ fs)) (λ n e. by f.is_rest (unnamed_by fs n) (not (reads_name f n)) e) fs (named_avoids fs (later_names f fs h)),
)
  where
    last : (a : Bool) → reads_name f f.serialize_name ≡ true → (a && not (reads_name f f.serialize_name)) ≡ false
    last true e = ap not e
    last false e = refl

    by : (b a c : Bool) → a ≡ false → cond b a (a && c) ≡ false
    by true a c e = e
    by false a c e = ap (λ z. z && c) e

those_none : (a b : List ℕ → Bool) (ms : Members) → AllPass a ms → ((n : List ℕ) → a n ≡ true → b n ≡ false) → those b ms ≡ no_members
those_none a b no_members h g = refl
those_none a b (member k v ms) h g = ap (λ z. cond z (member k v (those b ms)) (those b ms)) (g k h.0) ∙ those_none a b ms h.1 g

fewer : (a b c : List ℕ → Bool) → ((n : List ℕ) → a n ≡ (c n && b n)) → (ms : Members) → those b ms ≡ no_members → those a ms ≡ no_members
fewer a b c h ms e = those_same a (λ n. c n && b n) ms h ∙ sym (those_those c b ms) ∙ ap (those c) e

module _ (models : List ContainerModel) (cs : ConversionsD) (r : Relations) (q q' : ℕ → TypeModel → Read Typed) (leads : list_all container_leads_back models ≡ true)
    (sound : (n : ℕ) (t : TypeModel) (x : Typed) → q n t ≡ taken x → ReadsAgain models cs r q q' t x) where
  -- ---- what was read of each field and of a rest

  abbrev Halves : List FieldModel → List Typed → Members → Type 0
  Halves [] [] us = Unit {0}
  Halves (f ∷ fs) (x ∷ xs) us =
      (f.is_rest ≡ false → FieldBack models cs r q q' leads sound f x) × (f.is_rest ≡ true → rest_read f.field_type (member_readers models cs r q us) ≡ taken x) × Halves fs xs us
  Halves _ _ us = ⊥

  abbrev Wholes : List FieldModel → List Typed → Members → Type 0
  Wholes [] [] us = Unit {0}
  Wholes (f ∷ fs) (x ∷ xs) us =
      (f.is_rest ≡ false → FieldBack models cs r q q' leads sound f x) × (f.is_rest ≡ true → rest_read f.field_type (member_readers models cs r q' us) ≡ taken x) × Wholes fs xs us
  Wholes _ _ us = ⊥

  pub back_those : (p : List ℕ → Bool) (ms : Members) → MembersBack models cs r q q' ms → MembersBack models cs r q q' (those p ms)
  back_those p no_members b = tt
  back_those p (member k v ms) b = by (p k) (back_those p ms b.2)
    where
      by : (z : Bool) → MembersBack models cs r q q' (those p ms) → MembersBack models cs r q q' (cond z (member k v (those p ms)) (those p ms))
      by true h = (b.0, b.1, h)
      by false h = h

  fields_taken : (fs : List FieldModel) (us ms : Members) (xs : List Typed) → are_fields_fit fs ≡ true → list_all (λ f. is_apart_from f.helper f.default) fs ≡ true → MembersBack models cs r q q' ms
      → fields_read q (absent models) fs (member_readers models cs r q us) (member_readers models cs r q ms) ≡ taken xs → Halves fs xs us
  fields_taken [] us ms xs g a b e = subst (λ z. Halves [] z us) (one_taken [] xs e) tt
  fields_taken (f ∷ fs) us ms xs g a b e =
      let fit = and_right (is_field_fit f) (are_fields_fit fs) g in
      let apart = and_right (is_apart_from f.helper f.default) (list_all (λ h. is_apart_from h.helper h.default) fs) a in
      by f.is_rest refl (λ ys. fields_taken fs us ms ys fit apart b) (λ ys. fields_taken fs us (those (λ n. not (reads_name f n)) ms) ys fit apart (back_those (λ n. not (reads_name f n)) ms b)) e
    where
      by : (z : Bool) → f.is_rest ≡ z → ((ys : List Typed) → fields_read q (absent models) fs (member_readers models cs r q us) (member_readers models cs r q ms) ≡ taken ys → Halves fs ys us)
          → ((ys : List Typed) → fields_read q (absent models) fs (member_readers models cs r q us) (member_readers models cs r q (those (λ n. not (reads_name f n)) ms)) ≡ taken ys → Halves fs ys us)
          → cond z (followed (rest_read f.field_type (member_readers models cs r q us)) (fields_read q (absent models) fs (member_readers models cs r q us) (member_readers models cs r q ms)))
          (followed (field_read q (absent models) f (own_members f (member_readers models cs r q ms))) (fields_read q (absent models) fs (member_readers models cs r q us) (other_members f (member_readers models cs r q ms))))
          ≡ taken xs → Halves (f ∷ fs) xs us
      by true z rest one h =
          let k = followed_taken (rest_read f.field_type (member_readers models cs r q us)) (fields_read q (absent models) fs (member_readers models cs r q us) (member_readers models cs r q ms)) xs h in
          subst (λ ys. Halves (f ∷ fs) ys us) k.4 ((λ y. never_both f.is_rest (FieldBack models cs r q q' leads sound f k.0) z y), (λ y. k.2), rest k.1 k.3)
      by false z rest one h =
          let k = followed_taken (field_read q (absent models) f (own_members f (member_readers models cs r q ms)))
          (fields_read q (absent models) fs (member_readers models cs r q us) (other_members f (member_readers models cs r q ms))) xs h in
          let own = field_back models cs r q q' leads sound f (and_left (is_field_fit f) (are_fields_fit fs) g) (and_left (is_apart_from f.helper f.default) (list_all (λ l. is_apart_from l.helper l.default) fs) a)
          (those (reads_name f) ms) (back_those (reads_name f) ms b) k.0 (sym (ap (field_read q (absent models) f) (own_is models cs r q f ms)) ∙ k.2) in
          subst (λ ys. Halves (f ∷ fs) ys us) k.4 (
            (λ y. own),
            (λ y. never_both f.is_rest (rest_read f.field_type (member_readers models cs r q us) ≡ taken k.0) y z),
            one k.1 (sym (ap (fields_read q (absent models) fs (member_readers models cs r q us)) (others_is models cs r q f ms)) ∙ k.3),
          )

  -- ---- what the fields are written as

  field_out : (a : List ℕ → Bool) (f : FieldModel) (x : Typed) (done : Members) → a f.serialize_name ≡ false → those a (put_all (field_writes f (field_part models x)) done) ≡ those a done
  field_out a f x done e = by (f.skip && (field_part models x).is_empty)
    where
      by : (b : Bool) → those a (put_all (cond b [] ((f.serialize_name, written models f.field_type x) ∷ [])) done) ≡ those a done
      by true = refl
      by false = put_out a f.serialize_name (written models f.field_type x) done e

  field_in : (a : List ℕ → Bool) (f : FieldModel) (x : Typed) (done : Members) → a f.serialize_name ≡ true → those a done ≡ no_members
      → those a (put_all (field_writes f (field_part models x)) done) ≡ members (field_writes f (field_part models x))
  field_in a f x done e h = by (f.skip && (field_part models x).is_empty)
    where
      by : (b : Bool) → those a (put_all (cond b [] ((f.serialize_name, written models f.field_type x) ∷ [])) done) ≡ members (cond b [] ((f.serialize_name, written models f.field_type x) ∷ []))
      by true = h
      by false = put_in a f.serialize_name (written models f.field_type x) done e h

  fields_out : (a : List ℕ → Bool) (fs : List FieldModel) (xs : List Typed) (done : Members) → Avoids a fs → those a (fields_write fs (fields_of models (typeds xs)) done) ≡ those a done
  fields_out a [] xs done h = refl
  fields_out a (f ∷ fs) [] done h = refl
  fields_out a (f ∷ fs) (x ∷ xs) done h =
      by f.is_rest refl (fields_out a fs xs done h.1) (fields_out a fs xs (put_all (field_writes f (field_part models x)) done) h.1)
    where
      by : (b : Bool) → f.is_rest ≡ b → those a (fields_write fs (fields_of models (typeds xs)) done) ≡ those a done
          → those a (fields_write fs (fields_of models (typeds xs)) (put_all (field_writes f (field_part models x)) done)) ≡ those a (put_all (field_writes f (field_part models x)) done)
          → those a (fields_write fs (fields_of models (typeds xs)) (cond b done (put_all (field_writes f (field_part models x)) done))) ≡ those a done
      by true e g k = g
      by false e g k = k ∙ field_out a f x done (h.0 e)

  -- none of what was written before is the field's
  abbrev Fresh : (List ℕ → Bool) → List FieldModel → Members → Type 0
  Fresh p [] done = Unit {0}
  Fresh p (f ∷ fs) done = (f.is_rest ≡ false → those (λ n. reads_name f n && p n) done ≡ no_members) × Fresh p fs done

  fresh_others : (f : FieldModel) (x : Typed) (p : List ℕ → Bool) (fs : List FieldModel) (done : Members) → reads_name f f.serialize_name ≡ true → Fresh p fs done
      → Fresh (λ n. not (reads_name f n) && p n) fs (put_all (field_writes f (field_part models x)) done)
  fresh_others f x p [] done e h = tt
  fresh_others f x p (g ∷ fs) done e h = (
    (λ z. field_out (λ n. reads_name g n && (not (reads_name f n) && p n)) f x done (by (reads_name g f.serialize_name))
        ∙ fewer (λ n. reads_name g n && (not (reads_name f n) && p n)) (λ n. reads_name g n && p n) (λ n. not (reads_name f n)) (λ n. turned_and (reads_name g n) (not (reads_name f n)) (p n)) done (h.0 z)),
    fresh_others f x p fs done e h.1,
  )
    where
      by : (b : Bool) → (b && (not (reads_name f f.serialize_name) && p f.serialize_name)) ≡ false
      by true = ap (λ z. not z && p f.serialize_name) e
      by false = refl

  fields_again : (fs : List FieldModel) (xs : List Typed) (us done : Members) (p : List ℕ → Bool) → Wholes fs xs us → names_lead_back fs ≡ true → Passing p fs → Fresh p fs done
      → fields_read q' (absent models) fs (member_readers models cs r q' us) (member_readers models cs r q' (those p (fields_write fs (fields_of models (typeds xs)) done))) ≡ taken xs
  fields_again [] [] us done p w n g h = refl
  fields_again [] (x ∷ xs) us done p w n g h = absurd w
  fields_again (f ∷ fs) [] us done p w n g h = absurd w
  fields_again (f ∷ fs) (x ∷ xs) us done p w n g h =
      by f.is_rest refl (fields_again fs xs us done p w.2 (later_names f fs n) g.1 h.1)
      (λ e. fields_again fs xs us (put_all (field_writes f (field_part models x)) done) (λ m. not (reads_name f m) && p m) w.2 (later_names f fs n) (pass_others f p fs (no_others f fs n e) g.1) (fresh_others f x p fs done (own_name f fs n e) h.1))
    where
      by : (b : Bool) → f.is_rest ≡ b
          → fields_read q' (absent models) fs (member_readers models cs r q' us) (member_readers models cs r q' (those p (fields_write fs (fields_of models (typeds xs)) done))) ≡ taken xs
          → (f.is_rest ≡ false
          → fields_read q' (absent models) fs (member_readers models cs r q' us)
          (member_readers models cs r q' (those (λ m. not (reads_name f m) && p m) (fields_write fs (fields_of models (typeds xs)) (put_all (field_writes f (field_part models x)) done)))) ≡ taken xs)
          → cond b (followed (rest_read f.field_type (member_readers models cs r q' us))
          (fields_read q' (absent models) fs (member_readers models cs r q' us) (member_readers models cs r q' (those p (fields_write fs (fields_of models (typeds xs)) (cond b done (put_all (field_writes f (field_part models x)) done)))))))
          (followed (field_read q' (absent models) f (own_members f (member_readers models cs r q' (those p (fields_write fs (fields_of models (typeds xs)) (cond b done (put_all (field_writes f (field_part models x)) done)))))))
          (fields_read q' (absent models) fs (member_readers models cs r q' us)
          (other_members f (member_readers models cs r q' (those p (fields_write fs (fields_of models (typeds xs)) (cond b done (put_all (field_writes f (field_part models x)) done))))))))
          ≡ taken (x ∷ xs)
      by true e k l = let rest = w.1 e in λ j. followed (rest j) (k j)
      by false e k l =
          let D = put_all (field_writes f (field_part models x)) done in
          let W = fields_write fs (fields_of models (typeds xs)) D in
          let a : List ℕ → Bool = λ m. reads_name f m && p m in
          let mine : those (reads_name f) (those p W) ≡ members (field_writes f (field_part models x)) =
          those_those (reads_name f) p W
          ∙ fields_out a fs xs D (avoids_more (reads_name f) a (λ m z. ap (λ y. y && p m) z) fs (no_others f fs n e))
          ∙ field_in a f x done (λ i. own_name f fs n e i && g.0 e i) (h.0 e) in
          let one : field_read q' (absent models) f (own_members f (member_readers models cs r q' (those p W))) ≡ taken x =
          ap (field_read q' (absent models) f) (own_is models cs r q' f (those p W) ∙ ap (member_readers models cs r q') mine) ∙ w.0 e in
          let others : fields_read q' (absent models) fs (member_readers models cs r q' us) (other_members f (member_readers models cs r q' (those p W))) ≡ taken xs =
          ap (fields_read q' (absent models) fs (member_readers models cs r q' us)) (others_is models cs r q' f (those p W) ∙ ap (member_readers models cs r q') (those_those (λ m. not (reads_name f m)) p W)) ∙ l e in
          λ j. followed (one j) (others j)

  -- ---- what no field names is fresh

  fresh_rests : (fs : List FieldModel) (p a : List ℕ → Bool) (rs : Members) → AllPass a rs → ((n : List ℕ) → a n ≡ true → unnamed_by fs n ≡ true) → Fresh p fs rs
  fresh_rests [] p a rs h g = tt
  fresh_rests (f ∷ fs) p a rs h g = (
    (λ e. those_none a (λ n. reads_name f n && p n) rs h (λ n z. ap (λ y. y && p n) (not_read (unnamed_by fs n) (reads_name f n) e (g n z)))),
    fresh_rests fs p a rs h (λ n z. still f.is_rest (unnamed_by fs n) (not (reads_name f n)) (g n z)),
  )
    where
      not_read : (u b : Bool) → f.is_rest ≡ false → cond f.is_rest u (u && not b) ≡ true → b ≡ false
      not_read u b e z = not_false b (and_right u (not b) (sym (ap (λ y. cond y u (u && not b)) e) ∙ z))

      still : (y u b : Bool) → cond y u (u && b) ≡ true → u ≡ true
      still true u b z = z
      still false u b z = and_left u b z

  -- ---- a rest

  pub record RestsAre (fs : List FieldModel) (xs : List Typed) (us : Members) (a : List ℕ → Bool) (rs : Members) : Type 0 where
    pub passes : AllPass a rs
    pub wholes : Wholes fs xs rs
    pub none : us ≡ no_members → rs ≡ no_members

  no_rests : (fs : List FieldModel) (xs : List Typed) (done : Members) → has_no_rest fs ≡ true → rests_write fs (fields_of models (typeds xs)) done ≡ done
  no_rests [] xs done h = refl
  no_rests (f ∷ fs) [] done h = refl
  no_rests (f ∷ fs) (x ∷ xs) done h =
      ap (λ b. rests_write fs (fields_of models (typeds xs)) (cond b (put_all (rest_of models x f.field_type) done) done)) (not_false f.is_rest (and_left (not f.is_rest) (has_no_rest fs) h))
      ∙ no_rests fs xs done (and_right (not f.is_rest) (has_no_rest fs) h)

  no_rest_wholes : (fs : List FieldModel) (xs : List Typed) (us rs : Members) → has_no_rest fs ≡ true → Halves fs xs us → Wholes fs xs rs
  no_rest_wholes [] [] us rs h w = tt
  no_rest_wholes [] (x ∷ xs) us rs h w = absurd w
  no_rest_wholes (f ∷ fs) [] us rs h w = absurd w
  no_rest_wholes (f ∷ fs) (x ∷ xs) us rs h w = (
    w.0,
    (λ e. never_both f.is_rest (rest_read f.field_type (member_readers models cs r q' rs) ≡ taken x) e (not_false f.is_rest (and_left (not f.is_rest) (has_no_rest fs) h))),
    no_rest_wholes fs xs us rs (and_right (not f.is_rest) (has_no_rest fs) h) w.2,
  )

  -- the members of a rest
  pub record RestIs (t : TypeModel) (x : Typed) (us : Members) (a : List ℕ → Bool) (rs : Members) : Type 0 where
    pub passes : AllPass a rs
    pub again : rest_read t (member_readers models cs r q' rs) ≡ taken x
    pub none : us ≡ no_members → rs ≡ no_members

  rest_is : (t : TypeModel) (x : Typed) (us : Members) (a : List ℕ → Bool) → MembersBack models cs r q q' us → MembersRise us → AllPass a us → rest_read t (member_readers models cs r q us) ≡ taken x
      → RestIs t x us a (put_all (rest_of models x t) no_members)
  rest_is (map_type k t) x us a b rise pass e =
      let g = map_taken (λ es. typed.map_of (pairs es)) (pairs_read k t (member_readers models cs r q us)) x e in
      let each = pairs_each models cs r q q' k t us g.0 b g.1 in
      subst (λ y. RestIs (map_type k t) y us a (put_all (rest_of models y (map_type k t)) no_members)) g.2
      (subst (RestIs (map_type k t) (typed.map_of (pairs g.0)) us a) (sym (pairs_put_is models cs r q q' k t g.0 us each rise)) (record {
        passes = pairs_pass models cs r q q' a k t g.0 us each pass;
        again = ap (read_map (λ es. typed.map_of (pairs es))) (pairs_again models cs r q q' k t g.0 us each);
        none = λ z. pairs_none models cs r q q' k t g.0 (subst (Pairs models cs r q q' k t g.0) z each);
      }))
  rest_is _ x us a b rise pass e = absurd (never_stopped x [] e)

  rests_are : (fs : List FieldModel) (xs : List Typed) (us : Members) (a : List ℕ → Bool) → Halves fs xs us → has_one_rest fs ≡ true → MembersBack models cs r q q' us → MembersRise us → AllPass a us
      → RestsAre fs xs us a (rests_write fs (fields_of models (typeds xs)) no_members)
  rests_are [] [] us a w o b rise pass = record { passes = tt; wholes = tt; none = λ z. refl }
  rests_are [] (x ∷ xs) us a w o b rise pass = absurd w
  rests_are (f ∷ fs) [] us a w o b rise pass = absurd w
  rests_are (f ∷ fs) (x ∷ xs) us a w o b rise pass =
      by f.is_rest refl (rests_are fs xs us a w.2 (and_right (not f.is_rest || has_no_rest fs) (has_one_rest fs) o) b rise pass)
    where
      alone : f.is_rest ≡ true → has_no_rest fs ≡ true
      alone e = or_right (not f.is_rest) (has_no_rest fs) (and_left (not f.is_rest || has_no_rest fs) (has_one_rest fs) o) (ap not e)

      by : (z : Bool) → f.is_rest ≡ z → RestsAre fs xs us a (rests_write fs (fields_of models (typeds xs)) no_members)
          → RestsAre (f ∷ fs) (x ∷ xs) us a (rests_write fs (fields_of models (typeds xs)) (cond z (put_all (rest_of models x f.field_type) no_members) no_members))
      by false e h = record {
        passes = h.passes;
        wholes = (w.0, (λ y. never_both f.is_rest (rest_read f.field_type (member_readers models cs r q' (rests_write fs (fields_of models (typeds xs)) no_members)) ≡ taken x) y e), h.wholes);
        none = h.none;
      }
      by true e h =
          let rest = rest_is f.field_type x us a b rise pass (w.1 e) in
          subst (RestsAre (f ∷ fs) (x ∷ xs) us a) (sym (no_rests fs xs (put_all (rest_of models x f.field_type) no_members) (alone e))) (record {
            passes = rest.passes;
            wholes = (
              (λ y. never_both f.is_rest (FieldBack models cs r q q' leads sound f x) e y),
              (λ y. rest.again),
              no_rest_wholes fs xs us (put_all (rest_of models x f.field_type) no_members) (alone e) w.2,
            );
            none = rest.none;
          })

  -- ---- all members

  after_taken : (closed : Bool) (fs : List FieldModel) (us : Members) (ms : List (MemberPart Reader)) (xs : List Typed) → after_unnamed q (absent models) closed fs (member_readers models cs r q us) ms ≡ taken xs
      → (fields_read q (absent models) fs (member_readers models cs r q us) ms ≡ taken xs) × (closed ≡ true → us ≡ no_members)
  after_taken true fs no_members ms xs e = (e, λ z. refl)
  after_taken true fs (member k v us) ms xs e = absurd (never_stopped xs (k ∷ []) e)
  after_taken false fs us ms xs e = (e, λ z. absurd (true≢false (sym z)))

  some_member : (k : List ℕ) (v : Value) (us : Members) → member k v us ≡ no_members → ⊥
  some_member k v us e = cc

  after_again : (closed : Bool) (fs : List FieldModel) (us : Members) (ms : List (MemberPart Reader)) (xs : List Typed) → (closed ≡ true → us ≡ no_members)
      → fields_read q' (absent models) fs (member_readers models cs r q' us) ms ≡ taken xs → after_unnamed q' (absent models) closed fs (member_readers models cs r q' us) ms ≡ taken xs
  after_again true fs no_members ms xs h e = e
  after_again true fs (member k v us) ms xs h e = absurd (some_member k v us (h refl))
  after_again false fs us ms xs h e = e

  pub struct_back : (closed : Bool) (fs : List FieldModel) (ms : Members) (xs : List Typed) (p : List ℕ → Bool) → FieldsLead fs → MembersBack models cs r q q' ms → MembersRise ms → AllPass p ms → Passing p fs
      → members_read q (absent models) closed fs (member_readers models cs r q ms) ≡ taken xs
      → members_read q' (absent models) closed fs (member_readers models cs r q' (those p (members_written fs (fields_of models (typeds xs))))) ≡ taken xs
  struct_back closed fs ms xs p l b rise pass passing e =
      let u : List ℕ → Bool = λ n. unnamed_by fs n in
      let a : List ℕ → Bool = λ n. unnamed_by fs n && p n in
      let us = those u ms in
      let ones = has_one_rest fs && list_all (λ f. is_apart_from f.helper f.default) fs in
      let names = and_left (names_lead_back fs) ones l.1 in
      let further = and_right (names_lead_back fs) ones l.1 in
      let read = after_taken closed fs us (member_readers models cs r q ms) xs (sym (ap (λ ns. after_unnamed q (absent models) closed fs ns (member_readers models cs r q ms)) (unnamed_is models cs r q fs ms)) ∙ e) in
      let halves = fields_taken fs us ms xs l.0 (and_right (has_one_rest fs) (list_all (λ f. is_apart_from f.helper f.default) fs) further) b read.0 in
      let rests = rests_are fs xs us a halves (and_left (has_one_rest fs) (list_all (λ f. is_apart_from f.helper f.default) fs) further) (back_those u ms b) (those_rise u ms rise)
      (pass_both u p us (those_pass u ms) (pass_those p u ms pass)) in
      let R = rests_write fs (fields_of models (typeds xs)) no_members in
      let W = fields_write fs (fields_of models (typeds xs)) R in
      let again = fields_again fs xs R R p rests.wholes names passing (fresh_rests fs p a R rests.passes (λ n z. and_left (unnamed_by fs n) (p n) z)) in
      let unnamed = unnamed_is models cs r q' fs (those p W)
      ∙ ap (member_readers models cs r q') (those_those u p W ∙ fields_out a fs xs R (avoids_more u a (λ n z. ap (λ y. y && p n) z) fs (named_avoids fs names)) ∙ those_all a R rests.passes) in
      ap (λ ns. after_unnamed q' (absent models) closed fs ns (member_readers models cs r q' (those p W))) unnamed
      ∙ after_again closed fs R (member_readers models cs r q' (those p W)) xs (λ z. rests.none (read.1 z)) again
