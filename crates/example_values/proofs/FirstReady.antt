-- The first variant that is ready.
use Rattle.std.proofs.Common.{◌≡◌, ℕ, zero, suc, ◌+◌, ◌≤◌, ◌<◌, List, [], ◌∷◌, ◌++◌, drop, drop-cons, length, get_or, cond, Bool, true, false, ◌||◌, Option, Some, None, is_some, option_map, refl, sym, ap, ◌∙◌, true≢false, arith}
use Rattle.std.proofs.lemmas.List.{drop_all}
use Rattle.model_defs.specs.Types.{TypeModel}
use Rattle.model_defs.specs.Model.{VariantModel, TagModel, external_tag, internal_tag, adjacent_tag, untagged, enum_model, ContainerModel, ConversionsD}
use Rattle.model_defs.specs.Layer.{Content, one_type, is_unit}
use Rattle.model_defs.specs.Reads.{leads_to_option}
use Rattle.example_defs.specs.Built.{found_name, is_ready, or_else, first_found, first_ready, first_variant, built}
use Rattle.example_defs.specs.Enough.{no_texts}
use Rattle.example_parts.specs.Names.{names_of_variants, names_before, name_found}
use Rattle.value_models.specs.declared.variant.Variant.{Variant}
use Rattle.value_models.specs.VariantView.{variant_view, variants_view}
use Rattle.example_values.specs.declared.choosing.Chosen.{Chosen}
use Rattle.example_values.specs.Fewest.{Rounds, later, type_fewest, content_fewest, variants_fewest, are_within}
use Rattle.example_values.specs.Known.{rounds_of, AreCounted}
use Rattle.example_values.specs.Ready.{built_within, ready_within, ready_or_none, if_named, found_or_none, first_found_within, first_ready_within}
use Rattle.example_values.specs.Chosen.{chosen_view, first_within, first_after, IsChosen}
use Rattle.example_values.proofs.Numbers.{later_within, later_first, exactly}
use Rattle.example_values.proofs.Backwards.{next_before, found_here}
use Rattle.example_values.proofs.KnownRounds.{alike, body_known}

abbrev Found : Type 0
Found = Option (List ℕ × VariantModel)

still_some : {A B : Type 0} (f : A → B) (o : Option A) → is_some (option_map f o) ≡ is_some o
still_some f None = refl
still_some f (Some a) = refl

-- what stands at a place and behind it
here : {X : Type 0} (xs : List X) (i : ℕ) (x : X) → i < length xs → x ≡ get_or xs i x → drop i xs ≡ x ∷ drop (i + 1) xs
here xs i x h e = drop-cons xs i x h ∙ (λ t. sym e t ∷ drop ((let k : suc i ≡ i + 1 = omega arith in k) t) xs)

module _ (leads : TypeModel → Bool) (item : List ℕ → Rounds) (n : ℕ) where
  abbrev BW : Content → Bool
  BW c = built_within leads item n c

  abbrev one : Option (List ℕ) → Bool → VariantModel → Found
  one None b w = None
  one (Some m) b w = cond b (Some (m, w)) None

  one_is : (o : Option (List ℕ)) (w : VariantModel) → if_named leads item n o w ≡ one o (ready_within leads item n w) w
  one_is None w = refl
  one_is (Some m) w = refl

  taken : (o : Option (List ℕ)) (b : Bool) (w : VariantModel) (rest : Found) → is_some (one o b w) ≡ true → or_else leads BW o b w rest ≡ one o b w
  taken None b w rest h = absurd (true≢false (sym h))
  taken (Some m) true w rest h = refl
  taken (Some m) false w rest h = absurd (true≢false (sym h))

  passed : (o : Option (List ℕ)) (b : Bool) (w : VariantModel) (rest : Found) → is_some (one o b w) ≡ false → or_else leads BW o b w rest ≡ rest
  passed None b w rest h = refl
  passed (Some m) true w rest h = absurd (true≢false h)
  passed (Some m) false w rest h = refl

  -- ---- by the names that find them

  abbrev left : List VariantModel → ℕ → List Variant → Found
  left ws i xs = first_found_within leads item n (names_before [] (names_of_variants ws) i) (variants_view xs)

  module _ (xs : List Variant) (ws : List VariantModel) (w : variants_view xs ≡ ws) (i : ℕ) where
    module _ (x : Variant) (h : i < length xs) (e : x ≡ get_or xs i x) where
      abbrev found : Option (List ℕ)
      found = name_found (names_of_variants ws) i

      abbrev ready : Bool
      ready = ready_within leads item n (variant_view x)

      split : left ws i (drop i xs) ≡ or_else leads BW found ready (variant_view x) (left ws (i + 1) (drop (i + 1) xs))
      split =
          let names = λ (w : VariantModel). w.deserialize_names in
          ap (left ws i) (here xs i x h e)
          ∙ (λ z. or_else leads BW (sym (found_here variant_view names xs ws w (i + 1) i x refl h e) z) ready (variant_view x)
          (first_found_within leads item n (sym (next_before variant_view names xs ws w (i + 1) i x refl h e) z) (variants_view (drop (i + 1) xs))))

      pub found_turn : (r : Option Chosen) (b : Bool) (whole : Found) → option_map chosen_view r ≡ found_or_none leads item n ws i (variant_view x) → b ≡ is_some r → b ≡ false
          → left ws i (drop i xs) ≡ whole → left ws (i + 1) (drop (i + 1) xs) ≡ whole
      found_turn r b whole k s f was =
          let v : option_map chosen_view r ≡ one found ready (variant_view x) = k ∙ one_is found (variant_view x) in
          sym (passed found ready (variant_view x) (left ws (i + 1) (drop (i + 1) xs)) (ap is_some (sym v) ∙ still_some chosen_view r ∙ sym s ∙ f))
          ∙ sym split ∙ was

      pub found_stop : (r : Option Chosen) (b : Bool) (whole : Found) → option_map chosen_view r ≡ found_or_none leads item n ws i (variant_view x) → b ≡ is_some r → b ≡ true
          → left ws i (drop i xs) ≡ whole → option_map chosen_view r ≡ whole
      found_stop r b whole k s f was =
          let v : option_map chosen_view r ≡ one found ready (variant_view x) = k ∙ one_is found (variant_view x) in
          v
          ∙ sym (taken found ready (variant_view x) (left ws (i + 1) (drop (i + 1) xs)) (ap is_some (sym v) ∙ still_some chosen_view r ∙ sym s ∙ f))
          ∙ sym split ∙ was

    pub found_end : (whole : Found) → length xs ≤ i → left ws i (drop i xs) ≡ whole → None ≡ whole
    found_end whole h was = sym (ap (left ws i) (drop_all i xs h)) ∙ was

  pub found_begins : (xs : List Variant) (ws : List VariantModel) → variants_view xs ≡ ws → left ws 0 (drop 0 xs) ≡ first_found_within leads item n [] ws
  found_begins xs ws w = ap (first_found_within leads item n []) w

  -- ---- where no name is asked

  abbrev rest : List Variant → Found
  rest xs = first_ready_within leads item n (variants_view xs)

  module _ (xs : List Variant) (i : ℕ) where
    module _ (x : Variant) (h : i < length xs) (e : x ≡ get_or xs i x) where
      pub ready_turn : (r : Option Chosen) (b : Bool) (whole : Found) → option_map chosen_view r ≡ ready_or_none leads item n (variant_view x).serialize_name (variant_view x) → b ≡ is_some r → b ≡ false
          → rest (drop i xs) ≡ whole → rest (drop (i + 1) xs) ≡ whole
      ready_turn r b whole k s f was =
          by (ready_within leads item n (variant_view x)) (ap is_some (sym k) ∙ still_some chosen_view r ∙ sym s ∙ f) ∙ sym (ap rest (here xs i x h e)) ∙ was
        where
          by : (t : Bool) → is_some {T = List ℕ × VariantModel} (cond t (Some ((variant_view x).serialize_name, variant_view x)) None) ≡ false
              → rest (drop (i + 1) xs) ≡ cond t (Some ((variant_view x).serialize_name, variant_view x)) (rest (drop (i + 1) xs))
          by true q = absurd (true≢false q)
          by false q = refl

      pub ready_stop : (r : Option Chosen) (b : Bool) (whole : Found) → option_map chosen_view r ≡ ready_or_none leads item n (variant_view x).serialize_name (variant_view x) → b ≡ is_some r → b ≡ true
          → rest (drop i xs) ≡ whole → option_map chosen_view r ≡ whole
      ready_stop r b whole k s f was =
          k ∙ by (ready_within leads item n (variant_view x)) (ap is_some (sym k) ∙ still_some chosen_view r ∙ sym s ∙ f) ∙ sym (ap rest (here xs i x h e)) ∙ was
        where
          by : (t : Bool) → is_some {T = List ℕ × VariantModel} (cond t (Some ((variant_view x).serialize_name, variant_view x)) None) ≡ true
              → cond t (Some ((variant_view x).serialize_name, variant_view x)) None ≡ cond t (Some ((variant_view x).serialize_name, variant_view x)) (rest (drop (i + 1) xs))
          by true q = refl
          by false q = absurd (true≢false (sym q))

    pub ready_end : (whole : Found) → length xs ≤ i → rest (drop i xs) ≡ whole → None ≡ whole
    ready_end whole h was = sym (ap rest (drop_all i xs h)) ∙ was

-- ---- after as many rounds as the first takes

module _ (ms : List ContainerModel) (cs : ConversionsD) (rounds : List Rounds) (counted : AreCounted ms cs rounds) where
  abbrev lead : TypeModel → Bool
  lead t = leads_to_option ms t

  abbrev items : List ℕ → Rounds
  items n = rounds_of ms rounds n

  module _ (f : Content → Bool) (closed : Bool) (same : (w : VariantModel) → is_ready lead f closed w ≡ is_ready lead f false w) where
    found_alike : (earlier : List (List ℕ)) (ws : List VariantModel) → first_found lead f closed earlier ws ≡ first_found lead f false earlier ws
    found_alike earlier [] = refl
    found_alike earlier (w ∷ ws) =
        λ i. or_else lead f (found_name earlier w.deserialize_names) (same w i) w (found_alike (w.deserialize_names ++ earlier) ws i)

    ready_alike : (ws : List VariantModel) → first_ready lead f closed ws ≡ first_ready lead f false ws
    ready_alike [] = refl
    ready_alike (w ∷ ws) = λ i. cond (same w i) (Some (w.serialize_name, w)) (ready_alike ws i)

    first_alike : (tag : TagModel) (ws : List VariantModel) → first_variant lead f closed tag ws ≡ first_variant lead f false tag ws
    first_alike untagged ws = ready_alike ws
    first_alike external_tag ws = found_alike [] ws
    first_alike (internal_tag t) ws = found_alike [] ws
    first_alike (adjacent_tag t k) ws = found_alike [] ws

  after_is : (closed : Bool) (k : ℕ) (tag : TagModel) (ws : List VariantModel) → first_within lead items k tag ws ≡ first_after ms cs tag ws closed k
  after_is closed k tag ws =
      sym ((λ i. first_variant lead (λ c. counted k c i) closed tag ws)
      ∙ first_alike (λ c. are_within (content_fewest lead items c) k) closed (λ w. ap (λ r. is_unit w || are_within r k) (alike ms cs items closed w.style w.fields)) tag ws)

  module _ (tag : TagModel) (ws : List VariantModel) where
    abbrev fewest : Rounds
    fewest = variants_fewest lead items tag ws

    known : (closed : Bool) (k : ℕ) → is_some (first_after ms cs tag ws closed k) ≡ are_within fewest k
    known closed k = body_known ms cs items k (λ c. counted k c) closed (enum_model tag ws)

    before : (closed : Bool) (k : ℕ) → ((j : ℕ) → suc j ≡ k → is_some (first_after ms cs tag ws closed j) ≡ false) → are_within (later fewest) k ≡ false
    before closed zero h = later_first fewest
    before closed (suc j) h = later_within fewest j ∙ sym (known closed j) ∙ h j refl

    pub none_chosen : (r : Rounds) → r ≡ fewest → r ≡ None → IsChosen ms cs tag ws None
    none_chosen r e z closed k h b = absurd (true≢false (sym h ∙ known closed k ∙ ap (λ s. are_within s k) (sym e ∙ z)))

    pub one_chosen : (r : Rounds) (n : ℕ) (o : Option (List ℕ × VariantModel)) → r ≡ fewest → r ≡ Some n → o ≡ first_within lead items n tag ws → IsChosen ms cs tag ws o
    one_chosen r n o e s f closed k h b =
        let q : fewest ≡ Some k = exactly fewest k (sym (known closed k) ∙ h) (before closed k b) in
        let same : n ≡ k = some_is n k (sym s ∙ e ∙ q) in
        f ∙ ap (λ m. first_within lead items m tag ws) same ∙ after_is closed k tag ws
      where
        some_is : (a b : ℕ) → Some a ≡ Some b → a ≡ b
        some_is a b e = cc

-- ---- of a type

pub of_type : (ms : List ContainerModel) (cs : ConversionsD) (rounds : List Rounds) (t : TypeModel) (r : Rounds) → AreCounted ms cs rounds → r ≡ type_fewest (rounds_of ms rounds) t → (n : ℕ) → built ms cs no_texts t n ≡ are_within r n
of_type ms cs rounds t r counted e n = counted n (one_type t) ∙ ap (λ z. are_within z n) (sym e)
