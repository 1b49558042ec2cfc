-- Reading with stated defaults, which miss others in turn: by how many places of the table may still be entered.
use Rattle.std.proofs.Common.{◌≡◌, ℕ, zero, suc, List, [], ◌∷◌, length, slice_get, Bool, true, false, ◌||◌, not, cond, refl, sym, ap, ◌∙◌, true≢false, bytes_eq, nat_eq, Some}
use Rattle.std.specs.List.{list_all, list_any}
use Rattle.json_value.specs.Value.{Value}
use Rattle.schema_defs.specs.Location.{Location}
use Rattle.schema_defs.specs.Texts.{Relations}
use Rattle.model_defs.specs.Types.{TypeModel}
use Rattle.model_defs.specs.Model.{stated_default, FieldModel, VariantModel, BodyModel, struct_model, enum_model, ContainerModel, ConversionsD, container_named}
use Rattle.model_defs.specs.Layer.{one_type}
use Rattle.model_defs.specs.Reads.{reads}
use Rattle.model_defs.specs.Refusals.{refused_at}
use Rattle.model_defs.specs.Settled.{value_writes, default_at, or_null, settled, settled_inside}
use Rattle.typed_defs.specs.Typed.{Typed}
use Rattle.typed_defs.specs.Written.{written}
use Rattle.typed_defs.specs.Fit.{is_field_fit, is_variant_fit, is_body_fit}
use Rattle.reading_defs.specs.Proper.{has_json_numbers, has_shape, body_has_shape, is_newtype}
use Rattle.reading_defs.specs.Reading.{Read, taken, stopped, unsound, value_reader, default_inside, reading}
use Rattle.reading_defs.specs.Laws.{is_taken, is_sound, body_is_sound, fields_are_sound, IsProper, IsReading, ReadingAgrees}
use Rattle.reading_defs.proofs.Agree.{Agrees, and_left, and_right}
use Rattle.reading_defs.proofs.Good.{SoundAt, FieldIsGood, FieldsAreGood}
use Rattle.reading_defs.proofs.Items.{VariantsAreGood, BodyIsGood, ContainerIsGood, GivenIsGood}
use Rattle.reading_defs.proofs.Values.{value_agrees}

numbers_at : (ds : List Value) (n : ℕ) → list_all has_json_numbers ds ≡ true → has_json_numbers (or_null (slice_get ds n)) ≡ true
numbers_at [] n h = refl
numbers_at (v ∷ ds) zero h = and_left (has_json_numbers v) (list_all has_json_numbers ds) h
numbers_at (v ∷ ds) (suc n) h = numbers_at ds n (and_right (has_json_numbers v) (list_all has_json_numbers ds) h)

module _ (models : List ContainerModel) (cs : ConversionsD) (r : Relations) where
  -- ---- each field of the table is good, where each that is fit and sound is

  module _ (E : Type 0) (d : ℕ → TypeModel → Value) (q : ℕ → TypeModel → Read Typed)
      (make : (f : FieldModel) → is_field_fit f ≡ true → is_sound models cs r f.field_type f.default ≡ true → FieldIsGood models E d q f) where
    fields_good : (fs : List FieldModel) → list_all is_field_fit fs ≡ true → fields_are_sound models cs r fs ≡ true → FieldsAreGood models E d q fs
    fields_good [] a b = tt
    fields_good (f ∷ fs) a b = (
      make f (and_left (is_field_fit f) (list_all is_field_fit fs) a) (and_left (is_sound models cs r f.field_type f.default) (fields_are_sound models cs r fs) b),
      fields_good fs (and_right (is_field_fit f) (list_all is_field_fit fs) a) (and_right (is_sound models cs r f.field_type f.default) (fields_are_sound models cs r fs) b),
    )

    variants_good : (ws : List VariantModel) → list_all is_variant_fit ws ≡ true → list_all (λ w. fields_are_sound models cs r w.fields) ws ≡ true → list_all (λ w. has_shape w.style w.fields) ws ≡ true
        → VariantsAreGood models E d q ws
    variants_good [] a b c = tt
    variants_good (w ∷ ws) a b c = (
      record {
        fields = fields_good w.fields (and_left (is_variant_fit w) (list_all is_variant_fit ws) a) (and_left (fields_are_sound models cs r w.fields) (list_all (λ u. fields_are_sound models cs r u.fields) ws) b);
        shape = and_left (has_shape w.style w.fields) (list_all (λ u. has_shape u.style u.fields) ws) c;
      },
      variants_good ws (and_right (is_variant_fit w) (list_all is_variant_fit ws) a) (and_right (fields_are_sound models cs r w.fields) (list_all (λ u. fields_are_sound models cs r u.fields) ws) b)
          (and_right (has_shape w.style w.fields) (list_all (λ u. has_shape u.style u.fields) ws) c),
    )

    body_good : (b : BodyModel) → is_body_fit b ≡ true → body_is_sound models cs r b ≡ true → body_has_shape b ≡ true → BodyIsGood models E d q b
    body_good (struct_model s fs) a b c = fields_good fs a b
    body_good (enum_model tag ws) a b c = variants_good ws a b c

    pub found_good : (n : List ℕ) (us : List ContainerModel) → list_all (λ m. is_body_fit m.body) us ≡ true → list_all (λ m. body_is_sound models cs r m.body) us ≡ true → list_all (λ m. body_has_shape m.body) us ≡ true
        → list_all (λ m. not m.try_from || is_newtype m.body) us ≡ true → GivenIsGood models E d q (container_named n us)
    found_good n [] a b c e = tt
    found_good n (m ∷ us) a b c e =
        by (bytes_eq n m.name) (record {
          body = body_good m.body (and_left (is_body_fit m.body) (list_all (λ u. is_body_fit u.body) us) a) (and_left (body_is_sound models cs r m.body) (list_all (λ u. body_is_sound models cs r u.body) us) b)
              (and_left (body_has_shape m.body) (list_all (λ u. body_has_shape u.body) us) c);
          rule = and_left (not m.try_from || is_newtype m.body) (list_all (λ u. not u.try_from || is_newtype u.body) us) e;
        }) (found_good n us (and_right (is_body_fit m.body) (list_all (λ u. is_body_fit u.body) us) a) (and_right (body_is_sound models cs r m.body) (list_all (λ u. body_is_sound models cs r u.body) us) b)
        (and_right (body_has_shape m.body) (list_all (λ u. body_has_shape u.body) us) c) (and_right (not m.try_from || is_newtype m.body) (list_all (λ u. not u.try_from || is_newtype u.body) us) e))
      where
        by : (z : Bool) → ContainerIsGood models E d q m → GivenIsGood models E d q (container_named n us) → GivenIsGood models E d q (cond z (Some m) (container_named n us))
        by true g h = g
        by false g h = h

  -- ---- what stated defaults are written as, with so many places that may still be entered

  abbrev written_at : ℕ → List ℕ → ℕ → TypeModel → Value
  written_at zero entered n t = default_at models cs r n
  written_at (suc k) entered n t = cond (list_any (nat_eq n) entered) (default_at models cs r n) (settled_inside models cs r k (n ∷ entered) (one_type t) (default_at models cs r n))

  settled_at : (k : ℕ) (entered : List ℕ) (t : TypeModel) (v : Value) → settled_inside models cs r k entered (one_type t) v ≡ value_writes models cs r (written_at k entered) v (one_type t)
  settled_at zero entered t v = refl
  settled_at (suc k) entered t v = refl

  abbrev read_at : ℕ → List ℕ → ℕ → TypeModel → Read Typed
  read_at k entered = default_inside models cs r k entered

  module _ (p : IsProper models cs r) where
    goods : (E : Type 0) (d : ℕ → TypeModel → Value) (q : ℕ → TypeModel → Read Typed) → ((f : FieldModel) → is_field_fit f ≡ true → is_sound models cs r f.field_type f.default ≡ true → FieldIsGood models E d q f)
        → (n : List ℕ) → GivenIsGood models E d q (container_named n models)
    goods E d q make n = found_good E d q make n models p.fit p.sound p.shapes p.rules

    turn : (dd : ℕ → TypeModel → Value) (qq : ℕ → TypeModel → Read Typed) (n : ℕ) (t : TypeModel) (b a : Bool) (s : Location) (z w : Value) (rr : Read Typed) → dd n t ≡ cond b z w
        → Agrees (Unit {0}) a s (λ x. written models t x ≡ w) rr → SoundAt models (Unit {0}) dd qq n t (cond b unsound rr)
    turn dd qq n t true a s z w rr e h = tt
    turn dd qq n t false a s z w (taken x) e h = h.1 ∙ sym e
    turn dd qq n t false a s z w (stopped l) e h = tt
    turn dd qq n t false a s z w unsound e h = tt

    abbrev AllSound : ℕ → List ℕ → Type 0
    AllSound k entered = (n : ℕ) (t : TypeModel) → SoundAt models (Unit {0}) (written_at k entered) (read_at k entered) n t (read_at k entered n t)

    lax : (k : ℕ) (entered : List ℕ) → AllSound k entered → (n : List ℕ) → GivenIsGood models (Unit {0}) (written_at k entered) (read_at k entered) (container_named n models)
    lax k entered all = goods (Unit {0}) (written_at k entered) (read_at k entered) (λ f a b. record { fit = a; sound = λ n e. all n f.field_type })

    all_sound : (k : ℕ) (entered : List ℕ) → AllSound k entered
    all_sound zero entered n t = tt
    all_sound (suc k) entered n t =
        let v = default_at models cs r n in
        let at = value_agrees models cs r (Unit {0}) (written_at k (n ∷ entered)) (read_at k (n ∷ entered)) (lax k (n ∷ entered) (all_sound k (n ∷ entered))) v (numbers_at cs.defaults n p.numbers) in
        turn (written_at (suc k) entered) (read_at (suc k) entered) n t (list_any (nat_eq n) entered) _ _ v (value_writes models cs r (written_at k (n ∷ entered)) v (one_type t))
        ((value_reader models cs r (read_at k (n ∷ entered)) v).as_type t)
        (ap (cond (list_any (nat_eq n) entered) v) (settled_at k (n ∷ entered) t v)) (at.as_type t)

    -- where the defaults are sound, none is missed that isn't
    strict : (dd : ℕ → TypeModel → Value) (qq : ℕ → TypeModel → Read Typed) (n : ℕ) (t : TypeModel) (rr : Read Typed) → is_taken rr ≡ true → SoundAt models (Unit {0}) dd qq n t rr → SoundAt models ⊥ dd qq n t rr
    strict dd qq n t (taken x) e h = h
    strict dd qq n t (stopped l) e h = absurd (true≢false (sym e))
    strict dd qq n t unsound e h = absurd (true≢false (sym e))

    abbrev most : ℕ
    most = length cs.defaults

    sound_stated : (f : FieldModel) → is_sound models cs r f.field_type f.default ≡ true → (n : ℕ) → f.default ≡ stated_default n → SoundAt models ⊥ (written_at most []) (read_at most []) n f.field_type (read_at most [] n f.field_type)
    sound_stated f h n e =
        strict (written_at most []) (read_at most []) n f.field_type (read_at most [] n f.field_type) (sym (ap (is_sound models cs r f.field_type) e) ∙ h) (all_sound most [] n f.field_type)

    agrees : (t : TypeModel) (v : Value) → has_json_numbers v ≡ true
        → IsReading (reads models cs r t v) (refused_at models cs r t v) (settled models cs r t v) (written models t) (reading models cs r t v)
    agrees t v h =
        let at = value_agrees models cs r ⊥ (written_at most []) (read_at most [])
        (goods ⊥ (written_at most []) (read_at most []) (λ f a b. record { fit = a; sound = sound_stated f b })) v h in
        by (reading models cs r t v) (at.as_type t)
      where
        by : (rr : Read Typed) → Agrees ⊥ (reads models cs r t v) (refused_at models cs r t v) (λ x. written models t x ≡ value_writes models cs r (written_at most []) v (one_type t)) rr
            → IsReading (reads models cs r t v) (refused_at models cs r t v) (settled models cs r t v) (written models t) rr
        by (taken x) g = (g.0, g.1 ∙ sym (settled_at most [] t v))
        by (stopped l) g = g
        by unsound g = g

pub reading_agrees : ReadingAgrees
reading_agrees models cs r p t v h = agrees models cs r p t v h
