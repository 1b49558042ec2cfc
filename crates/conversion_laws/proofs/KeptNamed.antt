-- The keywords of members of a merge hold schemas that the merges of parts make, or that stood on one side; their names differ.
use Rattle.std.proofs.Common.{ℕ, ◌≡◌, List, [], ◌∷◌, ◌&&◌, ◌||◌, Bool, true, false, refl, ap, ◌∙◌, bytes_eq}
use Rattle.std.specs.Prelude.{if◌then◌else◌}
use Rattle.schema_defs.specs.Schema.{ListRules, MemberRules, Schema, boolean, object, Named, no_named, named, MaybeSchema, no_schema, the_schema, Properties, no_properties, property, Document}
use Rattle.schema_defs.specs.Layer.{property_at}
use Rattle.enum_defs.specs.Words.{is_name, names_of}
use Rattle.merge_defs.specs.Outcome.{Outcome, fault, never, answer, Note, note_if, both_ways, of_names, of_clash, never_unless, noted, and_then, mapped}
use Rattle.merge_defs.specs.Leaves.{sizes_cross}
use Rattle.merge_defs.specs.Objects.{all_names, beside, is_false, no_rest, put_property, unsaid_at, absent_notes, or_false, two_rests, schema_of_both, properties_of, joined_members, two_member_rules, has_patterns, no_member_rules, kept_named, kept_if, two_named}
use Rattle.merge_defs.specs.Less.{less_property, less_name, less_properties, unless_needed, less_named}
use Rattle.conversion_laws.specs.Keeping.{Always}
use Rattle.convert_defs.specs.Apart.{differ, names_apart}
use Rattle.convert_defs.specs.Proper.{IsProper, ProperNamed, ProperMaybe, ProperProperties}
use Rattle.conversion_laws.proofs.Always.{always-noted, always-then, always-mapped, always-or_else, always-if}
use Rattle.conversion_laws.proofs.Names.{right, all-names-differ, Some_of, none-of, one-left-out, one-more}

module _ (sized : ListRules → Type 0) (d : Document) where
  abbrev Is : Schema → Type 0
  Is = IsProper sized d

  abbrev OfMaybe : MaybeSchema → Type 0
  OfMaybe = ProperMaybe sized d

  abbrev OfProperties : Properties → Type 0
  OfProperties = ProperProperties sized d

  abbrev pub OfNamed : Named → Type 0
  OfNamed ns = (names_apart ns ≡ true) × ProperNamed sized d ns

  -- properties with some of the names
  abbrev Among : List (List ℕ) → Properties → Type 0
  Among ns ps = OfProperties ps × Some_of ns (names_of ps)

  at-holds : (n : List ℕ) (ps : Properties) → OfProperties ps → OfMaybe (property_at n ps)
  at-holds n no_properties h = tt
  at-holds n (property k s ps) h = by (bytes_eq n k) (at-holds n ps h.1)
    where
      by : (b : Bool) → OfMaybe (property_at n ps) → OfMaybe (if b then the_schema s else property_at n ps)
      by true g = h.0
      by false g = g

  beside-holds : (s : Schema) (m : MaybeSchema) → Is s → OfMaybe m → Is (beside s m)
  beside-holds s no_schema h g = h
  beside-holds s (the_schema (boolean true)) h g = h
  beside-holds s (the_schema (boolean false)) h g = tt
  beside-holds s (the_schema (object p ss ls ns)) h g = (record { apart = refl; led = refl; known = λ e. absurd (no e) }, ((g, (h, tt)), tt, tt, tt), tt, tt)
    where
      no : false ≡ true → ⊥
      no e = cc

  kept-named : (os : Named) → OfNamed os → OfNamed (kept_named os)
  kept-named no_named h = h
  kept-named (named (property k s ps) q x m c) h = h
  kept-named (named no_properties (property k s q) x m c) h = h
  kept-named (named no_properties no_properties (the_schema x) m c) h = h
  kept-named (named no_properties no_properties no_schema (the_schema m) c) h = h
  kept-named (named no_properties no_properties no_schema no_schema c) h = by (no_member_rules c)
    where
      by : (b : Bool) → OfNamed (if b then no_named else named no_properties no_properties no_schema no_schema c)
      by true = (refl, tt)
      by false = h

  kept-if : (b : Bool) (os : Named) → OfNamed os → OfNamed (kept_if b os)
  kept-if true os h = kept-named os h
  kept-if false os h = h

  module _ (join' : Schema → Schema → Outcome Schema) (joins : (a b : Schema) → Is a → Is b → Always Is (join' a b)) where
    or-false : (s t : Schema) → Is s → Is t → Always Is (or_false join' s t)
    or-false s t x y = always-or_else Is (boolean false) (join' s t) tt (joins s t x y)

    two-rests : (x y : MaybeSchema) → OfMaybe x → OfMaybe y → Always OfMaybe (two_rests join' x y)
    two-rests no_schema y f g = g
    two-rests (the_schema s) no_schema f g = f
    two-rests (the_schema s) (the_schema t) f g = always-mapped Is OfMaybe the_schema (or_false join' s t) (or-false s t f g) (λ u z. z)

    schema-of-both : (p x q y : MaybeSchema) → OfMaybe p → OfMaybe x → OfMaybe q → OfMaybe y → Always Is (schema_of_both join' p x q y)
    schema-of-both no_schema x no_schema y f g h k = tt
    schema-of-both (the_schema s) x no_schema y f g h k = beside-holds s y f k
    schema-of-both no_schema x (the_schema t) y f g h k = beside-holds t x h g
    schema-of-both (the_schema s) x (the_schema t) y f g h k = or-false s t f h

    put-holds : (object_type needed closed : Bool) (unsaid : List Note) (n : List ℕ) (ns : List (List ℕ)) (s : Schema) (after : Outcome Properties) → Is s → Always (Among ns) after
        → Always (Among (n ∷ ns)) (put_property object_type needed closed unsaid n s after)
    put-holds object_type needed closed unsaid n ns s after h g =
        always-if (Among (n ∷ ns)) (is_false s && needed) (and_then after (λ ps. never_unless object_type of_clash)) (if is_false s && closed then noted unsaid after else mapped (property n s) after)
        (always-then (Among ns) (Among (n ∷ ns)) after (λ ps. never_unless object_type of_clash) g (λ ps x. tt))
        (always-if (Among (n ∷ ns)) (is_false s && closed) (noted unsaid after) (mapped (property n s) after) (always-noted (Among (n ∷ ns)) unsaid after (longer after g))
        (always-mapped (Among ns) (Among (n ∷ ns)) (property n s) after g (λ ps x. ((h, x.0), one-more n ns (names_of ps) x.1))))
      where
        longer : (o : Outcome Properties) → Always (Among ns) o → Always (Among (n ∷ ns)) o
        longer (fault f) x = tt
        longer (never ms) x = tt
        longer (answer ms ps) x = (x.0, one-left-out n ns (names_of ps) x.1)

    properties-hold : (ps : Properties) (x : MaybeSchema) (qs : Properties) (y : MaybeSchema) (nulls object_type closed : Bool) (needed ns : List (List ℕ)) → OfProperties ps → OfMaybe x → OfProperties qs → OfMaybe y
        → Always (Among ns) (properties_of join' ps x qs y nulls object_type closed needed ns)
    properties-hold ps x qs y nulls object_type closed needed [] f g h k = (tt, none-of)
    properties-hold ps x qs y nulls object_type closed needed (n ∷ ns) f g h k =
        always-then Is (Among (n ∷ ns)) (schema_of_both join' (property_at n ps) x (property_at n qs) y)
        (λ s. put_property object_type (is_name n needed) closed (unsaid_at nulls ps x qs y n) n s (properties_of join' ps x qs y nulls object_type closed needed ns))
        (schema-of-both (property_at n ps) x (property_at n qs) y (at-holds n ps f) g (at-holds n qs h) k)
        (λ s z. put-holds object_type (is_name n needed) closed (unsaid_at nulls ps x qs y n) n ns s (properties_of join' ps x qs y nulls object_type closed needed ns) z (properties-hold ps x qs y nulls object_type closed needed ns f g h k))

    rules-hold : (object_type : Bool) (c e : MemberRules) → Always (λ m. differ m.required ≡ true) (two_member_rules object_type c e)
    rules-hold object_type c e = always-if (λ m. differ m.required ≡ true) (sizes_cross (joined_members c e).min_properties (joined_members c e).max_properties) (never_unless object_type of_clash) (answer [] (joined_members c e)) tt (all-names-differ c.required e.required)

    pub two-named : (nulls object_type : Bool) (ns os : Named) → OfNamed ns → OfNamed os → Always OfNamed (two_named join' nulls object_type ns os)
    two-named nulls object_type no_named os f g = g
    two-named nulls object_type (named ps pp x xn c) no_named f g = f
    two-named nulls object_type (named ps pp x xn c) (named qs qq y yn e) f g =
        always-noted OfNamed (note_if nulls (absent_notes ps x c qs y e)) (noted (note_if (has_patterns pp xn || has_patterns qq yn) (both_ways of_names)) (mapped (kept_if (has_patterns pp xn || has_patterns qq yn)) made))
        (always-noted OfNamed (note_if (has_patterns pp xn || has_patterns qq yn) (both_ways of_names)) (mapped (kept_if (has_patterns pp xn || has_patterns qq yn)) made)
        (always-mapped OfNamed OfNamed (kept_if (has_patterns pp xn || has_patterns qq yn)) made
        (always-then OfMaybe OfNamed (two_rests join' x y) later (two-rests x y f.1.2 g.1.2)
        (λ rest z. always-then (Among (all_names (names_of ps) (names_of qs))) OfNamed (props rest) (rules rest)
        (properties-hold ps x qs y nulls object_type (no_rest rest) (joined_members c e).required (all_names (names_of ps) (names_of qs)) f.1.0 f.1.2 g.1.0 g.1.2)
        (λ us u. always-mapped (λ m. differ m.required ≡ true) OfNamed (λ m. named us no_properties rest no_schema m) (two_member_rules object_type c e) (rules-hold object_type c e)
        (λ m v. ((λ i. u.1.differ_too (all-names-differ (names_of ps) (names_of qs)) i && v i), (u.0, tt, z, tt))))))
        (kept-if (has_patterns pp xn || has_patterns qq yn))))
      where
        props : MaybeSchema → Outcome Properties
        props rest = properties_of join' ps x qs y nulls object_type (no_rest rest) (joined_members c e).required (all_names (names_of ps) (names_of qs))

        rules : MaybeSchema → Properties → Outcome Named
        rules rest us = mapped (λ m. named us no_properties rest no_schema m) (two_member_rules object_type c e)

        later : MaybeSchema → Outcome Named
        later rest = and_then (props rest) (rules rest)

        made : Outcome Named
        made = and_then (two_rests join' x y) later

  -- ---- properties taken away

  module _ (less' : Schema → Schema → Outcome Schema) (leaves : (a b : Schema) → Is a → Is b → Always Is (less' a b)) where
    less-property : (p q : MaybeSchema) → OfMaybe p → OfMaybe q → Always Is (less_property less' p q)
    less-property (the_schema s) (the_schema t) f g = always-or_else Is (boolean false) (less' s t) tt (leaves s t f g)
    less-property (the_schema s) no_schema f g = f
    less-property no_schema q f g = tt

    less-name : (b : Bool) (p q : MaybeSchema) → OfMaybe p → OfMaybe q → Always Is (less_name less' b p q)
    less-name true p no_schema f g = tt
    less-name true p (the_schema t) f g = less-property p (the_schema t) f g
    less-name false p q f g = less-property p q f g

    less-properties : (ps qs : Properties) (needed ns : List (List ℕ)) → OfProperties ps → OfProperties qs → Always (Among ns) (less_properties less' ps qs needed ns)
    less-properties ps qs needed [] f g = (tt, none-of)
    less-properties ps qs needed (n ∷ ns) f g =
        always-then Is (Among (n ∷ ns)) (less_name less' (is_name n needed) (property_at n ps) (property_at n qs)) (λ s. mapped (property n s) (less_properties less' ps qs needed ns))
        (less-name (is_name n needed) (property_at n ps) (property_at n qs) (at-holds n ps f) (at-holds n qs g))
        (λ s z. always-mapped (Among ns) (Among (n ∷ ns)) (property n s) (less_properties less' ps qs needed ns) (less-properties ps qs needed ns f g) (λ us u. ((z, u.0), one-more n ns (names_of us) u.1)))

    unless-needed : (needed : List (List ℕ)) (ps : Properties) → OfProperties ps → Always (λ us. OfProperties us × (names_of us ≡ names_of ps)) (unless_needed less' needed ps)
    unless-needed needed no_properties h = (tt, refl)
    unless-needed needed (property n s ps) h =
        always-if (λ us. OfProperties us × (names_of us ≡ n ∷ names_of ps)) (is_false s && is_name n needed) (never []) (mapped (property n s) (unless_needed less' needed ps)) tt
        (always-mapped (λ us. OfProperties us × (names_of us ≡ names_of ps)) (λ us. OfProperties us × (names_of us ≡ n ∷ names_of ps)) (property n s) (unless_needed less' needed ps) (unless-needed needed ps h.1) (λ us u. ((h.0, u.0), λ i. n ∷ u.1 i)))

    pub less-named : (ns os : Named) → OfNamed ns → OfNamed os → Always OfNamed (less_named less' ns os)
    less-named no_named os f g = f
    less-named (named ps pp x xn c) no_named f g = f
    less-named (named ps pp x xn c) (named qs qq y yn e) f g =
        let ns : List (List ℕ) = all_names (names_of ps) (all_names (names_of qs) e.required) in
        always-mapped (λ us. OfProperties us × (differ (names_of us) ≡ true)) OfNamed (λ us. named us pp x xn c) (and_then (less_properties less' ps qs e.required ns) (unless_needed less' c.required))
        (always-then (Among ns) (λ us. OfProperties us × (differ (names_of us) ≡ true)) (less_properties less' ps qs e.required ns) (unless_needed less' c.required) (less-properties ps qs e.required ns f.1.0 g.1.0)
        (λ us u. with_names us (u.1.differ_too (all-names-differ (names_of ps) (all_names (names_of qs) e.required))) (unless_needed less' c.required us) (unless-needed c.required us u.0)))
        (λ us u. ((λ i. u.1 i && right (differ (names_of ps)) (differ c.required) f.0 i), (u.0, f.1.1, f.1.2, f.1.3)))
      where
        with_names : (us : Properties) → differ (names_of us) ≡ true → (o : Outcome Properties) → Always (λ vs. OfProperties vs × (names_of vs ≡ names_of us)) o → Always (λ vs. OfProperties vs × (differ (names_of vs) ≡ true)) o
        with_names us h (fault z) u = tt
        with_names us h (never ms) u = tt
        with_names us h (answer ms vs) u = (u.0, ap differ u.1 ∙ h)
