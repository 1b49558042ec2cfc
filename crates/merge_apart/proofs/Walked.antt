-- The properties of two sides, where one of them stands on one side alone.
use Rattle.std.proofs.Common.{◌≡◌, ℕ, List, [], ◌∷◌, Bool, true, false, ◌||◌, ◌&&◌, refl, sym, ap, ◌∙◌}
use Rattle.std.specs.Prelude.{bytes_eq, if◌then◌else◌}
use Rattle.std.specs.List.{list_any}
use Rattle.schema_defs.specs.Schema.{Schema, MaybeSchema, no_schema, the_schema, Properties, property}
use Rattle.schema_defs.specs.Layer.{property_at}
use Rattle.enum_defs.specs.Words.{is_name, names_of}
use Rattle.merge_defs.specs.Outcome.{Note, Outcome, fault, never, answer, noted, and_then, mapped, never_unless, of_clash}
use Rattle.merge_defs.specs.Objects.{is_below, put_before, put_names, is_false, put_property, schema_of_both, properties_of}
use Rattle.merge_steps.proofs.Leading.{noted_nothing, noted_mapped, mapped_after}
use Rattle.merge_apart.specs.Aside.{put_at}
use Rattle.merge_apart.proofs.PutNames.{name_puts}
use Rattle.merge_apart.proofs.Placing.{AreAbove, Rise, or_none, apart_turned, at_its_name, at_other, placed_first, placed_later, still_above}

-- ---- one name more, and what is done with all

module _ (object_type needed closed : Bool) (unsaid : List Note) (m : List ℕ) where
  -- two functions that are the same of what comes after, and of a property more
  step_alike : (f g : Properties → Properties) (after : Outcome Properties) (t : Schema) → mapped f after ≡ mapped g after → ((rs : Properties) → f (property m t rs) ≡ g (property m t rs))
      → mapped f (put_property object_type needed closed unsaid m t after) ≡ mapped g (put_property object_type needed closed unsaid m t after)
  step_alike f g after t e h = go (is_false t && needed) (is_false t && closed)
    where
      clashed : (o : Outcome Properties) → mapped f (and_then o (λ ps. never_unless object_type of_clash)) ≡ mapped g (and_then o (λ ps. never_unless object_type of_clash))
      clashed (fault d) = refl
      clashed (never ns) = refl
      clashed (answer ns a) = refl

      put_on : (o : Outcome Properties) → mapped f (mapped (property m t) o) ≡ mapped g (mapped (property m t) o)
      put_on (fault d) = refl
      put_on (never ns) = refl
      put_on (answer ns a) = ap (answer ns) (h a)

      go : (b c : Bool) → mapped f (if b then and_then after (λ ps. never_unless object_type of_clash) else if c then noted unsaid after else mapped (property m t) after)
          ≡ mapped g (if b then and_then after (λ ps. never_unless object_type of_clash) else if c then noted unsaid after else mapped (property m t) after)
      go true c = clashed after
      go false true = noted_mapped unsaid after f ∙ ap (noted unsaid) e ∙ sym (noted_mapped unsaid after g)
      go false false = put_on after

  -- a function that passes a property
  step_passed : (f : Properties → Properties) (after : Outcome Properties) (t : Schema) → ((rs : Properties) → f (property m t rs) ≡ property m t (f rs))
      → mapped f (put_property object_type needed closed unsaid m t after) ≡ put_property object_type needed closed unsaid m t (mapped f after)
  step_passed f after t h = go (is_false t && needed) (is_false t && closed)
    where
      clashed : (o : Outcome Properties) → mapped f (and_then o (λ ps. never_unless object_type of_clash)) ≡ and_then (mapped f o) (λ ps. never_unless object_type of_clash)
      clashed (fault d) = refl
      clashed (never ns) = refl
      clashed (answer ns a) = refl

      put_on : (o : Outcome Properties) → mapped f (mapped (property m t) o) ≡ mapped (property m t) (mapped f o)
      put_on (fault d) = refl
      put_on (never ns) = refl
      put_on (answer ns a) = ap (answer ns) (h a)

      go : (b c : Bool) → mapped f (if b then and_then after (λ ps. never_unless object_type of_clash) else if c then noted unsaid after else mapped (property m t) after)
          ≡ (if b then and_then (mapped f after) (λ ps. never_unless object_type of_clash) else if c then noted unsaid (mapped f after) else mapped (property m t) (mapped f after))
      go true c = clashed after
      go false true = noted_mapped unsaid after f
      go false false = put_on after

-- the same after any schema
then_same : {A B : Type 0} (o : Outcome A) (k h : A → Outcome B) → ((a : A) → k a ≡ h a) → and_then o k ≡ and_then o h
then_same (fault d) k h e = refl
then_same (never ns) k h e = refl
then_same (answer ns a) k h e = ap (noted ns) (e a)

-- ---- a name that stands on one side alone

module _ (join : Schema → Schema → Outcome Schema) (x : MaybeSchema) (qs : Properties) (object_type closed : Bool) (needed : List (List ℕ)) where
  abbrev pub walked : Properties → List (List ℕ) → Outcome Properties
  walked ps ns = properties_of join ps x qs no_schema false object_type closed needed ns

  module _ (n : List ℕ) (s : Schema) where
    -- it is not looked for at other names
    others_walked : (ps : Properties) (ns : List (List ℕ)) → is_name n ns ≡ false → walked (put_at n s ps) ns ≡ walked ps ns
    others_walked ps [] h = refl
    others_walked ps (m ∷ ms) h =
        let both = or_none (bytes_eq n m) (is_name n ms) h in
        (λ i. and_then (schema_of_both join (at_other m n s ps (apart_turned n m both.0) i) x (property_at m qs) no_schema)
        (λ t. put_property object_type (is_name m needed) closed [] m t (others_walked ps ms both.1 i)))

    -- it goes before names that are all above it
    first_walked : (ps : Properties) (ns : List (List ℕ)) → AreAbove n ns → mapped (put_at n s) (walked ps ns) ≡ mapped (property n s) (walked ps ns)
    first_walked ps [] h = refl
    first_walked ps (m ∷ ms) h =
        let o = schema_of_both join (property_at m ps) x (property_at m qs) no_schema in
        mapped_after (put_at n s) o (λ t. put_property object_type (is_name m needed) closed [] m t (walked ps ms))
        ∙ then_same o (λ t. mapped (put_at n s) (put_property object_type (is_name m needed) closed [] m t (walked ps ms))) (λ t. mapped (property n s) (put_property object_type (is_name m needed) closed [] m t (walked ps ms)))
        (λ t. step_alike object_type (is_name m needed) closed [] m (put_at n s) (property n s) (walked ps ms) t (first_walked ps ms h.1) (λ rs. placed_first n s m t rs h.0))
        ∙ sym (mapped_after (property n s) o (λ t. put_property object_type (is_name m needed) closed [] m t (walked ps ms)))

    -- at its name it is what stands there
    here_walked : (ps : Properties) → property_at n ps ≡ the_schema s → property_at n qs ≡ no_schema → is_false s ≡ false → (ns : List (List ℕ)) → walked ps (n ∷ ns) ≡ mapped (property n s) (walked ps ns)
    here_walked ps e k h ns =
        (λ i. and_then (schema_of_both join (e i) x (k i) no_schema) (λ t. put_property object_type (is_name n needed) closed [] n t (walked ps ns)))
        ∙ noted_nothing (put_property object_type (is_name n needed) closed [] n s (walked ps ns))
        ∙ (λ i. if h i && is_name n needed then and_then (walked ps ns) (λ ps. never_unless object_type of_clash) else if h i && closed then noted [] (walked ps ns) else mapped (property n s) (walked ps ns))

    pub placed_walked : (ps : Properties) → is_false s ≡ false → is_name n (names_of ps) ≡ false → property_at n qs ≡ no_schema → (ns : List (List ℕ)) → is_name n ns ≡ false → Rise ns
        → walked (put_at n s ps) (put_before n ns) ≡ mapped (put_at n s) (walked ps ns)
    placed_walked ps f h k [] g r = here_walked (put_at n s ps) (at_its_name n s ps h) k f []
    placed_walked ps f h k (m ∷ ms) g r = go (is_below n m) refl (or_none (bytes_eq n m) (is_name n ms) g) (λ l. placed_walked ps f h k ms l r.1)
      where
        go : (b : Bool) → is_below n m ≡ b → (bytes_eq n m ≡ false) × (is_name n ms ≡ false) → (is_name n ms ≡ false → walked (put_at n s ps) (put_before n ms) ≡ mapped (put_at n s) (walked ps ms))
            → walked (put_at n s ps) (if b then n ∷ m ∷ ms else m ∷ put_before n ms) ≡ mapped (put_at n s) (walked ps (m ∷ ms))
        go true e both ih =
            here_walked (put_at n s ps) (at_its_name n s ps h) k f (m ∷ ms)
            ∙ ap (mapped (property n s)) (others_walked ps (m ∷ ms) g)
            ∙ sym (first_walked ps (m ∷ ms) (e, still_above n m ms e r.0))
        go false e both ih =
            let o = schema_of_both join (property_at m ps) x (property_at m qs) no_schema in
            (λ i. and_then (schema_of_both join (at_other m n s ps (apart_turned n m both.0) i) x (property_at m qs) no_schema)
            (λ t. put_property object_type (is_name m needed) closed [] m t (ih both.1 i)))
            ∙ sym (then_same o (λ t. mapped (put_at n s) (put_property object_type (is_name m needed) closed [] m t (walked ps ms))) (λ t. put_property object_type (is_name m needed) closed [] m t (mapped (put_at n s) (walked ps ms)))
            (λ t. step_passed object_type (is_name m needed) closed [] m (put_at n s) (walked ps ms) t (λ rs. placed_later n s m t rs e both.0)))
            ∙ sym (mapped_after (put_at n s) o (λ t. put_property object_type (is_name m needed) closed [] m t (walked ps ms)))

  -- required names that are none of those walked
  pub needed_walked : (rs : List (List ℕ)) (ps : Properties) (ns : List (List ℕ)) → list_any (λ m. is_name m rs) ns ≡ false
      → properties_of join ps x qs no_schema false object_type closed (put_names rs needed) ns ≡ walked ps ns
  needed_walked rs ps [] h = refl
  needed_walked rs ps (m ∷ ms) h =
      let both = or_none (is_name m rs) (list_any (λ m. is_name m rs) ms) h in
      (λ i. and_then (schema_of_both join (property_at m ps) x (property_at m qs) no_schema)
      (λ t. put_property object_type ((name_puts m rs needed ∙ ap (λ b. b || is_name m needed) both.0) i) closed [] m t (needed_walked rs ps ms both.1 i)))
