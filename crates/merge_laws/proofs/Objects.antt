-- Merging the keywords of members meets what both sides say of the members of a value.
use Rattle.std.proofs.Common.{◌≡◌, ℕ, List, [], ◌∷◌, Bool, true, false, ◌&&◌, ◌||◌, not, refl, ap, sym, ◌∙◌, subst, bytes_eq}
use Rattle.std.specs.Prelude.{if◌then◌else◌}
use Rattle.std.specs.List.{list_any, list_all}
use Rattle.std.proofs.lemmas.Slice.Eq.{bytes_eq-Decides}
use Rattle.schema_defs.specs.Texts.{Relations}
use Rattle.schema_defs.specs.Schema.{MemberRules, Schema, boolean, object, Named, no_named, named, MaybeSchema, no_schema, the_schema, Properties, no_properties, property}
use Rattle.schema_defs.specs.Layer.{Judge, MemberPart, maybe, property_at, is_given, member_agrees}
use Rattle.enum_defs.specs.Words.{is_name, names_of}
use Rattle.merge_defs.specs.Outcome.{Outcome, fault, never, answer, Note, of_clash, noted, and_then, mapped, or_else, never_unless}
use Rattle.merge_defs.specs.Alike.{same_schemas}
use Rattle.merge_defs.specs.Leaves.{sizes_cross}
use Rattle.merge_defs.specs.Objects.{is_below, put_before, put_name, put_names, all_names, all_of_two, beside, is_false, no_rest, put_property, unsaid_at, or_false, two_rests, schema_of_both, properties_of, joined_members, two_member_rules}
use Rattle.merge_laws.specs.Laws.{Meets, IsProper, ProperMaybe, ProperProperties, ProperNamed}
use Rattle.merge_laws.proofs.Steps.{no_no, yes_no, and-1, and-2, or-1, or-2, Always, IsSettled, Each, meets-exactly, meets-never, meets-said, meets-wanted, meets-noted, meets-all, meets-nothing, meets-or_else, settled-or_else, meets-in, meets-step, meets-then, meets-mapped}
use Rattle.merge_laws.proofs.Leaves.{same_bools, or-false}
use Rattle.merge_laws.proofs.Sizes.{and-pairs}

-- what is answered is false
abbrev pub IsFalse : Outcome Schema → Type 0
IsFalse (answer ns a) = is_false a ≡ true
IsFalse _ = Unit {0}

-- a judge of schemas at one value, of which merges are known; a merge with false is false
pub record IsJudge (join : Schema → Schema → Outcome Schema) (j : Judge) : Type 0 where
  pub merges : (a b : Schema) → IsProper a → IsProper b → Meets IsProper (j a && j b) j (join a b)
  pub closes : (a b : Schema) → (is_false a || is_false b) ≡ true → IsFalse (or_false join a b)
  pub at_boolean : (b : Bool) → j (boolean b) ≡ b
  pub of_two : (s t : Schema) → j (all_of_two s t) ≡ (j s && j t)
  pub of_same : (s t : Schema) → same_schemas s t ≡ true → j s ≡ j t

-- ---- names

pub named_itself : (n : List ℕ) → bytes_eq n n ≡ true
named_itself n = (bytes_eq-Decides n n).1 refl

named_before : (k n : List ℕ) (ms : List (List ℕ)) → is_name k (put_before n ms) ≡ (bytes_eq k n || is_name k ms)
named_before k n [] = refl
named_before k n (m ∷ ms) = cases (is_below n m) (named_before k n ms)
  where
    swap : (a b c : Bool) → (a || (b || c)) ≡ (b || (a || c))
    swap true true c = refl
    swap true false c = refl
    swap false b c = refl

    cases : (b : Bool) → is_name k (put_before n ms) ≡ (bytes_eq k n || is_name k ms) → is_name k (if b then n ∷ m ∷ ms else m ∷ put_before n ms) ≡ (bytes_eq k n || (bytes_eq k m || is_name k ms))
    cases true h = refl
    cases false h = ap (λ b. bytes_eq k m || b) h ∙ swap (bytes_eq k m) (bytes_eq k n) (is_name k ms)

named_put : (k n : List ℕ) (ms : List (List ℕ)) → is_name k (put_name n ms) ≡ (bytes_eq k n || is_name k ms)
named_put k n ms = cases (is_name n ms) refl
  where
    absorbed : (a b : Bool) → (a ≡ true → b ≡ true) → b ≡ (a || b)
    absorbed true b h = h refl
    absorbed false b h = refl

    cases : (b : Bool) → is_name n ms ≡ b → is_name k (if b then ms else put_before n ms) ≡ (bytes_eq k n || is_name k ms)
    cases true e = absorbed _ _ (λ h. subst (λ x. is_name x ms ≡ true) (sym ((bytes_eq-Decides k n).0 h)) e)
    cases false e = named_before k n ms

named_puts : (k : List ℕ) (ns ms : List (List ℕ)) → is_name k (put_names ns ms) ≡ (is_name k ns || is_name k ms)
named_puts k [] ms = refl
named_puts k (n ∷ ns) ms = named_put k n (put_names ns ms) ∙ ap (λ b. bytes_eq k n || b) (named_puts k ns ms) ∙ assoc (bytes_eq k n) _ _
  where
    assoc : (a b c : Bool) → (a || (b || c)) ≡ ((a || b) || c)
    assoc true b c = refl
    assoc false b c = refl

pub named_all : (k : List ℕ) (ns ms : List (List ℕ)) → is_name k (all_names ns ms) ≡ (is_name k ns || is_name k ms)
named_all k ns ms = named_puts k ns (put_names ms []) ∙ ap (λ b. is_name k ns || b) (named_puts k ms [] ∙ or-false _)

abbrev pub AreDistinct : List (List ℕ) → Type 0
AreDistinct [] = Unit {0}
AreDistinct (n ∷ ns) = (is_name n ns ≡ false) × AreDistinct ns

bytes_sym : (a b : List ℕ) → bytes_eq a b ≡ bytes_eq b a
bytes_sym a b = same_bools _ _ (λ h. (bytes_eq-Decides b a).1 (sym ((bytes_eq-Decides a b).0 h))) (λ h. (bytes_eq-Decides a b).1 (sym ((bytes_eq-Decides b a).0 h)))

distinct_before : (n : List ℕ) (ms : List (List ℕ)) → AreDistinct ms → is_name n ms ≡ false → AreDistinct (put_before n ms)
distinct_before n [] d h = (refl, tt)
distinct_before n (m ∷ ms) d h = cases (is_below n m) (distinct_before n ms d.1 (or-2 (bytes_eq n m) _ h))
  where
    or-out : (a b : Bool) → a ≡ false → b ≡ false → (a || b) ≡ false
    or-out true b e f = e
    or-out false b e f = f

    cases : (b : Bool) → AreDistinct (put_before n ms) → AreDistinct (if b then n ∷ m ∷ ms else m ∷ put_before n ms)
    cases true e = (h, d)
    cases false e = (named_before m n ms ∙ or-out _ _ (bytes_sym m n ∙ or-1 (bytes_eq n m) _ h) d.0, e)

distinct_put : (n : List ℕ) (ms : List (List ℕ)) → AreDistinct ms → AreDistinct (put_name n ms)
distinct_put n ms d = cases (is_name n ms) refl
  where
    cases : (b : Bool) → is_name n ms ≡ b → AreDistinct (if b then ms else put_before n ms)
    cases true e = d
    cases false e = distinct_before n ms d e

distinct_puts : (ns ms : List (List ℕ)) → AreDistinct ms → AreDistinct (put_names ns ms)
distinct_puts [] ms d = d
distinct_puts (n ∷ ns) ms d = distinct_put n (put_names ns ms) (distinct_puts ns ms d)

pub distinct_all : (ns ms : List (List ℕ)) → AreDistinct (all_names ns ms)
distinct_all ns ms = distinct_puts ns (put_names ms []) (distinct_puts ms [] tt)

pub names_given : (k : List ℕ) (ps : Properties) → is_name k (names_of ps) ≡ is_given (property_at k ps)
names_given k no_properties = refl
names_given k (property n s ps) = cases (bytes_eq k n) (names_given k ps)
  where
    cases : (b : Bool) → is_name k (names_of ps) ≡ is_given (property_at k ps) → (b || is_name k (names_of ps)) ≡ is_given (if b then the_schema s else property_at k ps)
    cases true h = refl
    cases false h = h

pub proper_at : (k : List ℕ) (ps : Properties) → ProperProperties ps → ProperMaybe (property_at k ps)
proper_at k no_properties h = tt
proper_at k (property n s ps) h = cases (bytes_eq k n) (proper_at k ps h.1)
  where
    cases : (b : Bool) → ProperMaybe (property_at k ps) → ProperMaybe (if b then the_schema s else property_at k ps)
    cases true e = h.0
    cases false e = e

pub not_given : (m : MaybeSchema) → is_given m ≡ false → m ≡ no_schema
not_given no_schema h = refl
not_given (the_schema s) h = absurd (no_no (sym h))

-- ---- booleans

pub and-true : (b : Bool) → (b && true) ≡ b
and-true true = refl
and-true false = refl

pub all-and : {M : Type 0} (f g : M → Bool) (ms : List M) → list_all (λ m. f m && g m) ms ≡ (list_all f ms && list_all g ms)
all-and f g [] = refl
all-and f g (m ∷ ms) = ap (λ b. (f m && g m) && b) (all-and f g ms) ∙ and-pairs (f m) (g m) (list_all f ms) (list_all g ms)

pub all-same : {M : Type 0} (Q : M → Type 0) (f g : M → Bool) → ((m : M) → Q m → f m ≡ g m) → (ms : List M) → Each Q ms → list_all f ms ≡ list_all g ms
all-same Q f g h [] q = refl
all-same Q f g h (m ∷ ms) q = λ i. h m q.0 i && all-same Q f g h ms q.1 i

-- ---- one judge at one name

module _ (join : Schema → Schema → Outcome Schema) (j : Judge) (is : IsJudge join j) where
  proper_beside : (s : Schema) (x : MaybeSchema) → IsProper s → ProperMaybe x → IsProper (beside s x)
  proper_beside s no_schema p q = p
  proper_beside s (the_schema (boolean true)) p q = p
  proper_beside s (the_schema (boolean false)) p q = tt
  proper_beside s (the_schema (object a b c e)) p q = ((tt, tt), ((q, (p, tt)), tt, tt, tt), tt, tt)

  beside_says : (s : Schema) (x : MaybeSchema) → j (beside s x) ≡ (j s && maybe j x)
  beside_says s no_schema = sym (and-true (j s))
  beside_says s (the_schema (boolean true)) = sym (ap (λ b. j s && b) (is.at_boolean true) ∙ and-true (j s))
  beside_says s (the_schema (boolean false)) = is.at_boolean false ∙ sym (ap (λ b. j s && b) (is.at_boolean false) ∙ and-false (j s))
    where
      and-false : (b : Bool) → (b && false) ≡ false
      and-false true = refl
      and-false false = refl
  beside_says s (the_schema (object a b c e)) = is.of_two (object a b c e) s ∙ swap (j (object a b c e)) (j s)
    where
      swap : (a b : Bool) → (a && b) ≡ (b && a)
      swap true true = refl
      swap true false = refl
      swap false true = refl
      swap false false = refl

  or_false_meets : (s t : Schema) → IsProper s → IsProper t → Meets IsProper (j s && j t) j (or_false join s t)
  or_false_meets s t p q = meets-or_else IsProper (j s && j t) j (boolean false) (join s t) tt (is.at_boolean false) (is.merges s t p q)

  -- what a side says of a member
  abbrev pub binds : MaybeSchema → MaybeSchema → Bool
  binds p x = maybe j p && (is_given p || maybe j x)

  schema_of_both_meets : (p x q y : MaybeSchema) → ProperMaybe p → ProperMaybe x → ProperMaybe q → ProperMaybe y → (is_given p || is_given q) ≡ true → Meets IsProper (binds p x && binds q y) j (schema_of_both join p x q y)
  schema_of_both_meets no_schema x no_schema y a b c e g = no_no g
  schema_of_both_meets (the_schema s) x no_schema y a b c e g = meets-exactly IsProper _ j [] (beside s y) (proper_beside s y a e) (beside_says s y ∙ ap (λ b. b && maybe j y) (sym (and-true (j s))))
  schema_of_both_meets no_schema x (the_schema t) y a b c e g = meets-exactly IsProper _ j [] (beside t x) (proper_beside t x c b) (beside_says t x ∙ turn (j t) (maybe j x))
    where
      turn : (a b : Bool) → (a && b) ≡ (b && (a && true))
      turn true true = refl
      turn true false = refl
      turn false true = refl
      turn false false = refl
  schema_of_both_meets (the_schema s) x (the_schema t) y a b c e g = meets-said IsProper IsProper (j s && j t) _ j j (or_false join s t) (or_false_meets s t a c) (λ a p. p) (λ i. sym (and-true (j s)) i && sym (and-true (j t)) i) (λ a p. refl)

  two_rests_meet : (x y : MaybeSchema) → ProperMaybe x → ProperMaybe y → Meets ProperMaybe (maybe j x && maybe j y) (maybe j) (two_rests join x y)
  two_rests_meet no_schema y p q = meets-exactly ProperMaybe _ (maybe j) [] y q refl
  two_rests_meet (the_schema s) no_schema p q = meets-exactly ProperMaybe _ (maybe j) [] (the_schema s) p (sym (and-true (j s)))
  two_rests_meet (the_schema s) (the_schema t) p q = meets-mapped IsProper ProperMaybe (j s && j t) j (maybe j) the_schema (or_false join s t) (or_false_meets s t p q) (λ a p. p) (λ a p. refl)

-- ---- all members

abbrev pub Member : Type 0
Member = MemberPart

-- what a side says of a member
abbrev pub binds_member : Properties → MaybeSchema → Member → Bool
binds_member ps x m = maybe m.says (property_at m.name ps) && (is_given (property_at m.name ps) || maybe m.says x)

-- what the keywords of members say, by the members' judges and what is said of sizes and required names
abbrev pub named_say : List Member → Relations → (List ℕ → Judge) → (MemberRules → Bool) → Named → Bool
named_say js r name rules_say no_named = true
named_say js r name rules_say (named qs pp z xn d) = list_all (member_agrees r name qs pp z xn d.required) js && rules_say d

-- the same without patterns, where no member stands for its absence
abbrev pub strictly_say : List Member → (MemberRules → Bool) → Named → Bool
strictly_say js rules_say no_named = true
strictly_say js rules_say (named qs pp z xn d) = list_all (binds_member qs z) js && rules_say d

module _ (join : Schema → Schema → Outcome Schema) (always : (a b : Schema) → IsProper a → IsProper b → Always IsProper (join a b)) where
  abbrev pub IsJudged : Member → Type 0
  IsJudged m = IsJudge join m.says

  always_or_false : (s t : Schema) → IsProper s → IsProper t → Always IsProper (or_false join s t)
  always_or_false s t p q = go (join s t) (always s t p q)
    where
      go : (o : Outcome Schema) → Always IsProper o → Always IsProper (or_else (boolean false) o)
      go (fault f) h = tt
      go (never ns) h = tt
      go (answer ns a) h = h

  proper_beside' : (s : Schema) (x : MaybeSchema) → IsProper s → ProperMaybe x → IsProper (beside s x)
  proper_beside' s no_schema p q = p
  proper_beside' s (the_schema (boolean true)) p q = p
  proper_beside' s (the_schema (boolean false)) p q = tt
  proper_beside' s (the_schema (object a b c e)) p q = ((tt, tt), ((q, (p, tt)), tt, tt, tt), tt, tt)

  always_schema : (p x q y : MaybeSchema) → ProperMaybe p → ProperMaybe x → ProperMaybe q → ProperMaybe y → Always IsProper (schema_of_both join p x q y)
  always_schema no_schema x no_schema y a b c e = tt
  always_schema (the_schema s) x no_schema y a b c e = proper_beside' s y a e
  always_schema no_schema x (the_schema t) y a b c e = proper_beside' t x c b
  always_schema (the_schema s) x (the_schema t) y a b c e = always_or_false s t a c

  settled_schema : (p x q y : MaybeSchema) → IsSettled (schema_of_both join p x q y)
  settled_schema no_schema x no_schema y = tt
  settled_schema (the_schema s) x no_schema y = tt
  settled_schema no_schema x (the_schema t) y = tt
  settled_schema (the_schema s) x (the_schema t) y = settled-or_else (boolean false) (join s t)

  always_rests : (x y : MaybeSchema) → ProperMaybe x → ProperMaybe y → Always ProperMaybe (two_rests join x y)
  always_rests no_schema y p q = q
  always_rests (the_schema s) no_schema p q = p
  always_rests (the_schema s) (the_schema t) p q = go (or_false join s t) (always_or_false s t p q)
    where
      go : (o : Outcome Schema) → Always IsProper o → Always ProperMaybe (mapped the_schema o)
      go (fault f) h = tt
      go (never ns) h = tt
      go (answer ns a) h = h

  settled_rests : (x y : MaybeSchema) → IsSettled (two_rests join x y)
  settled_rests no_schema y = tt
  settled_rests (the_schema s) no_schema = tt
  settled_rests (the_schema s) (the_schema t) = go (or_false join s t) (settled-or_else (boolean false) (join s t))
    where
      go : (o : Outcome Schema) → IsSettled o → IsSettled (mapped the_schema o)
      go (fault f) h = tt
      go (never ns) h = h
      go (answer ns a) h = tt

  module _ (ps : Properties) (x : MaybeSchema) (qs : Properties) (y : MaybeSchema) (pp : ProperProperties ps) (px : ProperMaybe x) (pq : ProperProperties qs) (py : ProperMaybe y)
      (js : List Member) (each : Each IsJudged js) (nulls : Bool) where
    abbrev Wanted : Member → Bool
    Wanted m = binds_member ps x m && binds_member qs y m

    -- at a name alone
    abbrev AtName : List ℕ → (Member → Bool) → Bool
    AtName n f = list_all (λ m. not (bytes_eq m.name n) || f m) js

    abbrev Inside : List (List ℕ) → (Member → Bool) → Bool
    Inside ns f = list_all (λ m. not (is_name m.name ns) || f m) js

    abbrev Outside : List (List ℕ) → (Member → Bool) → Bool
    Outside ns f = list_all (λ m. is_name m.name ns || f m) js

    abbrev IsGivenName : List ℕ → Type 0
    IsGivenName n = (is_given (property_at n ps) || is_given (property_at n qs)) ≡ true

    name_meets : (n : List ℕ) → IsGivenName n → Meets IsProper (AtName n Wanted) (λ s. AtName n (λ m. m.says s)) (schema_of_both join (property_at n ps) x (property_at n qs) y)
    name_meets n g = meets-all IsProper IsJudged (λ m. not (bytes_eq m.name n) || Wanted m) (λ m s. not (bytes_eq m.name n) || m.says s)
        (schema_of_both join (property_at n ps) x (property_at n qs) y)
        (settled_schema (property_at n ps) x (property_at n qs) y)
        (always_schema (property_at n ps) x (property_at n qs) y (proper_at n ps pp) px (proper_at n qs pq) py)
        (λ m is. one m is (bytes_eq m.name n) refl) js each
      where
        one : (m : Member) → IsJudged m → (b : Bool) → bytes_eq m.name n ≡ b → Meets IsProper (not b || Wanted m) (λ s. not b || m.says s) (schema_of_both join (property_at n ps) x (property_at n qs) y)
        one m is false e = meets-nothing IsProper true (schema_of_both join (property_at n ps) x (property_at n qs) y)
            (settled_schema (property_at n ps) x (property_at n qs) y)
            (always_schema (property_at n ps) x (property_at n qs) y (proper_at n ps pp) px (proper_at n qs pq) py)
        one m is true e = subst
            (λ k. Meets IsProper ((maybe m.says (property_at k ps) && (is_given (property_at k ps) || maybe m.says x)) && (maybe m.says (property_at k qs) && (is_given (property_at k qs) || maybe m.says y))) (λ s. m.says s) (schema_of_both join (property_at n ps) x (property_at n qs) y))
            (sym ((bytes_eq-Decides m.name n).0 e))
            (schema_of_both_meets join m.says is (property_at n ps) x (property_at n qs) y (proper_at n ps pp) px (proper_at n qs pq) py g)

    inside-cons : (n : List ℕ) (ns : List (List ℕ)) (f : Member → Bool) → Inside (n ∷ ns) f ≡ (AtName n f && Inside ns f)
    inside-cons n ns f = all-same (λ m. Unit {0}) _ (λ m. (not (bytes_eq m.name n) || f m) && (not (is_name m.name ns) || f m)) (λ m q. split (bytes_eq m.name n) (is_name m.name ns) (f m)) js (each-unit js) ∙ all-and _ _ js
      where
        each-unit : (ms : List Member) → Each (λ m. Unit {0}) ms
        each-unit [] = tt
        each-unit (m ∷ ms) = (tt, each-unit ms)

        split : (a b c : Bool) → (not (a || b) || c) ≡ ((not a || c) && (not b || c))
        split true true true = refl
        split true true false = refl
        split true false true = refl
        split true false false = refl
        split false b c = refl

    -- the properties of the names so far, beside what binds the rest
    module _ (c object_type : Bool) (needed : List (List ℕ)) (z : MaybeSchema)
        (there : (n : List ℕ) → c ≡ true → object_type ≡ true → is_name n needed ≡ true → list_any (λ m. bytes_eq m.name n) js ≡ true)
      where
        abbrev Makes : List (List ℕ) → Properties → Type 0
        Makes ns props = ProperProperties props × ((k : List ℕ) → is_name k ns ≡ false → property_at k props ≡ no_schema)

        abbrev Said : List (List ℕ) → Properties → Bool
        Said ns props = Inside ns (binds_member props z)

        -- one judge says no
        none_there : (n : List ℕ) (ms : List Member) → Each IsJudged ms → list_any (λ m. bytes_eq m.name n) ms ≡ true → list_all (λ m. not (bytes_eq m.name n) || m.says (boolean false)) ms ≡ true → ⊥
        none_there n [] q h k = no_no h
        none_there n (m ∷ ms) q h k = cases (bytes_eq m.name n) h k (none_there n ms q.1)
          where
            cases : (b : Bool) → (b || list_any (λ m. bytes_eq m.name n) ms) ≡ true → ((not b || m.says (boolean false)) && list_all (λ m. not (bytes_eq m.name n) || m.says (boolean false)) ms) ≡ true
                → (list_any (λ m. bytes_eq m.name n) ms ≡ true → list_all (λ m. not (bytes_eq m.name n) || m.says (boolean false)) ms ≡ true → ⊥) → ⊥
            cases true h k after = yes_no (m.says (boolean false)) (q.0.at_boolean false) (and-1 (m.says (boolean false)) _ k)
            cases false h k after = after h k

        is_false_sound : (s : Schema) → is_false s ≡ true → s ≡ boolean false
        is_false_sound (boolean true) h = no_no h
        is_false_sound (boolean false) h = refl
        is_false_sound (object a b d e) h = no_no h

        no_rest_sound : (m : MaybeSchema) → no_rest m ≡ true → m ≡ the_schema (boolean false)
        no_rest_sound no_schema h = no_no h
        no_rest_sound (the_schema s) h = ap the_schema (is_false_sound s h)

        module _ (n : List ℕ) (ns : List (List ℕ)) (new : is_name n ns ≡ false) (s : Schema) (proper : IsProper s) where
          -- a property that is put
          put_says : (props : Properties) → Said (n ∷ ns) (property n s props) ≡ (AtName n (λ m. m.says s) && Said ns props)
          put_says props = all-same IsJudged _ (λ m. (not (bytes_eq m.name n) || m.says s) && (not (is_name m.name ns) || binds_member props z m)) (λ m q. one m (bytes_eq m.name n) refl) js each ∙ all-and _ _ js
            where
              kept : (b g : Bool) → (b && (true || g)) ≡ (b && true)
              kept true g = refl
              kept false g = refl

              one : (m : Member) (a : Bool) → bytes_eq m.name n ≡ a
                  → (not (a || is_name m.name ns) || (maybe m.says (if a then the_schema s else property_at m.name props) && (is_given (if a then the_schema s else property_at m.name props) || maybe m.says z)))
                  ≡ ((not a || m.says s) && (not (is_name m.name ns) || binds_member props z m))
              one m false e = refl
              one m true e = ap (λ b. m.says s && (not b || binds_member props z m)) (sym (ap (λ k. is_name k ns) ((bytes_eq-Decides m.name n).0 e) ∙ new))

          -- one that is left out, where nothing else may stand
          left_out_says : s ≡ boolean false → z ≡ the_schema (boolean false) → (props : Properties) → Makes ns props → Said (n ∷ ns) props ≡ (AtName n (λ m. m.says s) && Said ns props)
          left_out_says es ez props made = all-same IsJudged _ (λ m. (not (bytes_eq m.name n) || m.says s) && (not (is_name m.name ns) || binds_member props z m)) (λ m q. one m q (bytes_eq m.name n) refl) js each ∙ all-and _ _ js
            where
              none : (m : Member) → IsJudged m → bytes_eq m.name n ≡ true → binds_member props z m ≡ m.says s
              none m q e =
                  let g = made.1 m.name (ap (λ k. is_name k ns) ((bytes_eq-Decides m.name n).0 e) ∙ new) in
                  ap (λ p. maybe m.says p && (is_given p || maybe m.says z)) g ∙ ap (λ y. maybe m.says y) ez ∙ sym (ap m.says es)

              one : (m : Member) → IsJudged m → (a : Bool) → bytes_eq m.name n ≡ a
                  → (not (a || is_name m.name ns) || binds_member props z m) ≡ ((not a || m.says s) && (not (is_name m.name ns) || binds_member props z m))
              one m q false e = refl
              one m q true e = none m q e ∙ sym (and-true (m.says s)) ∙ ap (λ b. m.says s && (not b || binds_member props z m)) (sym (ap (λ k. is_name k ns) ((bytes_eq-Decides m.name n).0 e) ∙ new))

          made_put : (props : Properties) → Makes ns props → Makes (n ∷ ns) (property n s props)
          made_put props m = ((proper, m.0), λ k h. cases k (bytes_eq k n) (or-1 (bytes_eq k n) _ h) (m.1 k (or-2 (bytes_eq k n) _ h)))
            where
              cases : (k : List ℕ) (b : Bool) → b ≡ false → property_at k props ≡ no_schema → (if b then the_schema s else property_at k props) ≡ no_schema
              cases k true e h = absurd (no_no (sym e))
              cases k false e h = h

          made_more : (props : Properties) → Makes ns props → Makes (n ∷ ns) props
          made_more props m = (m.0, λ k h. m.1 k (or-2 (bytes_eq k n) _ h))

          abbrev Here : Bool
          Here = AtName n (λ m. m.says s)

          put_meets : (unsaid : List Note) (after : Outcome Properties) → Meets (Makes ns) (c && Inside ns Wanted) (λ props. c && Said ns props) after
              → Meets (Makes (n ∷ ns)) ((c && Here) && Inside ns Wanted) (λ props. c && Said (n ∷ ns) props) (put_property object_type (is_name n needed) (no_rest z) unsaid n s after)
          put_meets unsaid after m = cases (is_false s) refl (is_name n needed) refl
            where
              turn : (a b d : Bool) → (b && (a && d)) ≡ ((a && b) && d)
              turn true true d = refl
              turn true false d = refl
              turn false true d = refl
              turn false false d = refl

              -- with what is said at this name
              with_name : Meets (Makes ns) ((c && Here) && Inside ns Wanted) (λ props. (c && Here) && Said ns props) after
              with_name = meets-said (Makes ns) (Makes ns) (Here && (c && Inside ns Wanted)) ((c && Here) && Inside ns Wanted) (λ props. Here && (c && Said ns props)) (λ props. (c && Here) && Said ns props) after
                  (meets-in (Makes ns) Here (c && Inside ns Wanted) (λ props. c && Said ns props) after m) (λ a p. p) (turn c Here (Inside ns Wanted)) (λ props p. turn c Here (Said ns props))

              assoc : (a b d : Bool) → ((a && b) && d) ≡ (a && (b && d))
              assoc true b d = refl
              assoc false b d = refl

              cases : (a : Bool) → is_false s ≡ a → (b : Bool) → is_name n needed ≡ b
                  → Meets (Makes (n ∷ ns)) ((c && Here) && Inside ns Wanted) (λ props. c && Said (n ∷ ns) props)
                  (if a && b then and_then after (λ ps. never_unless object_type of_clash) else if a && no_rest z then noted unsaid after else mapped (property n s) after)
              cases true e true f = meets-then (Makes ns) (Makes (n ∷ ns)) ((c && Here) && Inside ns Wanted) (λ props. (c && Here) && Said ns props) (λ props. c && Said (n ∷ ns) props) after (λ ps. never_unless object_type of_clash) with_name
                  (λ props p. meets-never (Makes (n ∷ ns)) ((c && Here) && Said ns props) (λ props. c && Said (n ∷ ns) props) object_type of_clash
                  (λ k t. none_there n js each (there n (and-1 c _ (and-1 (c && Here) _ t)) k f) (subst (λ u. AtName n (λ m. m.says u) ≡ true) (is_false_sound s e) (and-2 c _ (and-1 (c && Here) _ t)))))
              cases true e false f = left (no_rest z) refl
                where
                  left : (b : Bool) → no_rest z ≡ b → Meets (Makes (n ∷ ns)) ((c && Here) && Inside ns Wanted) (λ props. c && Said (n ∷ ns) props) (if b then noted unsaid after else mapped (property n s) after)
                  left true g = meets-noted (Makes (n ∷ ns)) ((c && Here) && Inside ns Wanted) (λ props. c && Said (n ∷ ns) props) unsaid after
                      (meets-said (Makes ns) (Makes (n ∷ ns)) ((c && Here) && Inside ns Wanted) ((c && Here) && Inside ns Wanted) (λ props. (c && Here) && Said ns props) (λ props. c && Said (n ∷ ns) props) after with_name made_more refl
                      (λ props p. assoc c Here (Said ns props) ∙ ap (λ b. c && b) (sym (left_out_says (is_false_sound s e) (no_rest_sound z g) props p))))
                  left false g = meets-mapped (Makes ns) (Makes (n ∷ ns)) ((c && Here) && Inside ns Wanted) (λ props. (c && Here) && Said ns props) (λ props. c && Said (n ∷ ns) props) (property n s) after with_name made_put
                      (λ props p. ap (λ b. c && b) (put_says props) ∙ sym (assoc c Here (Said ns props)))
              cases false e b f = meets-mapped (Makes ns) (Makes (n ∷ ns)) ((c && Here) && Inside ns Wanted) (λ props. (c && Here) && Said ns props) (λ props. c && Said (n ∷ ns) props) (property n s) after with_name made_put
                  (λ props p. ap (λ b. c && b) (put_says props) ∙ sym (assoc c Here (Said ns props)))

        properties_meet : (ns : List (List ℕ)) → AreDistinct ns → ((k : List ℕ) → is_name k ns ≡ true → IsGivenName k)
            → Meets (Makes ns) (c && Inside ns Wanted) (λ props. c && Said ns props) (properties_of join ps x qs y nulls object_type (no_rest z) needed ns)
        properties_meet [] d g = meets-exactly (Makes []) _ (λ props. c && Said [] props) [] no_properties (tt, λ k h. refl) refl
        properties_meet (n ∷ ns) d g =
            meets-wanted (Makes (n ∷ ns)) (c && (AtName n Wanted && Inside ns Wanted)) (c && Inside (n ∷ ns) Wanted) (λ props. c && Said (n ∷ ns) props) (properties_of join ps x qs y nulls object_type (no_rest z) needed (n ∷ ns))
            (ap (λ b. c && b) (sym (inside-cons n ns Wanted)))
            (meets-step IsProper (Makes (n ∷ ns)) c (AtName n Wanted) (Inside ns Wanted) (λ s. AtName n (λ m. m.says s)) (λ props. c && Said (n ∷ ns) props)
            (schema_of_both join (property_at n ps) x (property_at n qs) y)
            (λ s. put_property object_type (is_name n needed) (no_rest z) (unsaid_at nulls ps x qs y n) n s (properties_of join ps x qs y nulls object_type (no_rest z) needed ns))
            (meets-in IsProper c (AtName n Wanted) (λ s. AtName n (λ m. m.says s)) (schema_of_both join (property_at n ps) x (property_at n qs) y) (name_meets n (g n (ap (λ b. b || is_name n ns) (named_itself n)))))
            (λ s proper. put_meets n ns d.0 s proper (unsaid_at nulls ps x qs y n) (properties_of join ps x qs y nulls object_type (no_rest z) needed ns) (properties_meet ns d.1 (λ k h. g k (later k n h)))))
          where
            later : (k n : List ℕ) → is_name k ns ≡ true → is_name k (n ∷ ns) ≡ true
            later k n h = or-right (bytes_eq k n) h
              where
                or-right : (a : Bool) → is_name k ns ≡ true → (a || is_name k ns) ≡ true
                or-right true h = refl
                or-right false h = h

    -- ---- the names of both, and what binds the rest

    abbrev Names : List (List ℕ)
    Names = all_names (names_of ps) (names_of qs)

    given_names : (k : List ℕ) → is_name k Names ≡ (is_given (property_at k ps) || is_given (property_at k qs))
    given_names k = named_all k (names_of ps) (names_of qs) ∙ (λ i. names_given k ps i || names_given k qs i)

    rests_meet : Meets ProperMaybe (Outside Names Wanted) (λ z. Outside Names (λ m. maybe m.says z)) (two_rests join x y)
    rests_meet = meets-all ProperMaybe IsJudged (λ m. is_name m.name Names || Wanted m) (λ m z. is_name m.name Names || maybe m.says z) (two_rests join x y) (settled_rests x y) (always_rests x y px py)
        (λ m is. one m is (is_name m.name Names) refl) js each
      where
        one : (m : Member) → IsJudged m → (b : Bool) → is_name m.name Names ≡ b → Meets ProperMaybe (b || Wanted m) (λ z. b || maybe m.says z) (two_rests join x y)
        one m is true e = meets-nothing ProperMaybe true (two_rests join x y) (settled_rests x y) (always_rests x y px py)
        one m is false e =
            let h = sym (given_names m.name) ∙ e in
            meets-wanted ProperMaybe (maybe m.says x && maybe m.says y) (Wanted m) (λ z. maybe m.says z) (two_rests join x y)
            (λ i. sym (ap (λ p. maybe m.says p && (is_given p || maybe m.says x)) (not_given (property_at m.name ps) (or-1 (is_given (property_at m.name ps)) _ h))) i
            && sym (ap (λ p. maybe m.says p && (is_given p || maybe m.says y)) (not_given (property_at m.name qs) (or-2 (is_given (property_at m.name ps)) _ h))) i)
            (two_rests_meet join m.says is x y px py)

    split_names : (f : Member → Bool) → list_all f js ≡ (Outside Names f && Inside Names f)
    split_names f = all-same (λ m. Unit {0}) f (λ m. (is_name m.name Names || f m) && (not (is_name m.name Names) || f m)) (λ m q. split (is_name m.name Names) (f m)) js (each-unit js) ∙ all-and _ _ js
      where
        each-unit : (ms : List Member) → Each (λ m. Unit {0}) ms
        each-unit [] = tt
        each-unit (m ∷ ms) = (tt, each-unit ms)

        split : (a b : Bool) → b ≡ ((a || b) && (not a || b))
        split true b = refl
        split false true = refl
        split false false = refl

    -- ---- both sides whole, where no member stands for its absence

    module _ (c object_type : Bool) (rules_say : MemberRules → Bool)
        (joined_say : (a b : MemberRules) → rules_say (joined_members a b) ≡ (rules_say a && rules_say b))
        (crossed_say : (a : MemberRules) → c ≡ true → object_type ≡ true → sizes_cross a.min_properties a.max_properties ≡ true → rules_say a ≡ true → ⊥)
        (a b : MemberRules)
        (there : (n : List ℕ) → c ≡ true → object_type ≡ true → rules_say (joined_members a b) ≡ true → is_name n (joined_members a b).required ≡ true → list_any (λ m. bytes_eq m.name n) js ≡ true)
      where
        abbrev Says : Named → Bool
        Says = strictly_say js rules_say

        abbrev Joined : MemberRules
        Joined = joined_members a b

        -- the rest, the properties, and the sizes
        abbrev Inner : Outcome Named
        Inner = and_then (two_rests join x y) (λ z. and_then (properties_of join ps x qs y nulls object_type (no_rest z) Joined.required Names) (λ props.
            mapped (λ rules. named props no_properties z no_schema rules) (two_member_rules object_type a b)))

        outside_same : (z : MaybeSchema) (props : Properties) → ((k : List ℕ) → is_name k Names ≡ false → property_at k props ≡ no_schema) → Outside Names (binds_member props z) ≡ Outside Names (λ m. maybe m.says z)
        outside_same z props h = all-same IsJudged _ (λ m. is_name m.name Names || maybe m.says z) (λ m q. one m (is_name m.name Names) refl) js each
          where
            one : (m : Member) (t : Bool) → is_name m.name Names ≡ t → (t || binds_member props z m) ≡ (t || maybe m.says z)
            one m true e = refl
            one m false e = ap (λ p. maybe m.says p && (is_given p || maybe m.says z)) (h m.name e)

        proper_result : (z : MaybeSchema) (d : MemberRules) → ProperMaybe z → (props : Properties) → ProperProperties props → ProperNamed (named props no_properties z no_schema d)
        proper_result z d p props q = (q, tt, p, tt)

        result_says : (d : MemberRules) (z : MaybeSchema) (props : Properties) → ((k : List ℕ) → is_name k Names ≡ false → property_at k props ≡ no_schema)
            → (c && Says (named props no_properties z no_schema d)) ≡ (((c && rules_say d) && Outside Names (λ m. maybe m.says z)) && Inside Names (binds_member props z))
        result_says d z props h =
            ap (λ t. c && (t && rules_say d)) (split_names (binds_member props z) ∙ ap (λ t. t && Inside Names (binds_member props z)) (outside_same z props h))
            ∙ turn c (Outside Names (λ m. maybe m.says z)) (Inside Names (binds_member props z)) (rules_say d)
          where
            turn : (c o i d : Bool) → (c && ((o && i) && d)) ≡ (((c && d) && o) && i)
            turn false o i d = refl
            turn true true true true = refl
            turn true true true false = refl
            turn true true false true = refl
            turn true true false false = refl
            turn true false i true = refl
            turn true false i false = refl

        abbrev Known : Bool
        Known = c && rules_say Joined

        -- the sizes, where the rest and the properties are merged
        sizes_meet : (z : MaybeSchema) → ProperMaybe z → (props : Properties) → ProperProperties props → ((k : List ℕ) → is_name k Names ≡ false → property_at k props ≡ no_schema)
            → Meets ProperNamed ((Known && Outside Names (λ m. maybe m.says z)) && Inside Names (binds_member props z)) (λ o. c && Says o) (mapped (λ rules. named props no_properties z no_schema rules) (two_member_rules object_type a b))
        sizes_meet z pz props pp' none = cases (sizes_cross Joined.min_properties Joined.max_properties) refl
          where
            W : Bool
            W = (Known && Outside Names (λ m. maybe m.says z)) && Inside Names (binds_member props z)

            cases : (t : Bool) → sizes_cross Joined.min_properties Joined.max_properties ≡ t
                → Meets ProperNamed W (λ o. c && Says o) (mapped (λ rules. named props no_properties z no_schema rules) (if t then never_unless object_type of_clash else answer [] Joined))
            cases true e = meets-never ProperNamed W (λ o. c && Says o) object_type of_clash
                (λ k t. let u = and-1 Known _ (and-1 (Known && Outside Names (λ m. maybe m.says z)) _ t) in crossed_say Joined (and-1 c _ u) k e (and-2 c _ u))
            cases false e = meets-exactly ProperNamed W (λ o. c && Says o) [] (named props no_properties z no_schema Joined) (proper_result z Joined pz props pp') (result_says Joined z props none)

        whole_meets : Meets ProperNamed (Known && list_all Wanted js) (λ o. c && Says o) Inner
        whole_meets = meets-wanted ProperNamed (Known && (Outside Names Wanted && Inside Names Wanted)) (Known && list_all Wanted js) (λ o. c && Says o) Inner (ap (λ t. Known && t) (sym (split_names Wanted)))
            (meets-step ProperMaybe ProperNamed Known (Outside Names Wanted) (Inside Names Wanted) (λ z. Outside Names (λ m. maybe m.says z)) (λ o. c && Says o) (two_rests join x y)
            (λ z. and_then (properties_of join ps x qs y nulls object_type (no_rest z) Joined.required Names) (λ props. mapped (λ rules. named props no_properties z no_schema rules) (two_member_rules object_type a b)))
            (meets-in ProperMaybe Known (Outside Names Wanted) (λ z. Outside Names (λ m. maybe m.says z)) (two_rests join x y) rests_meet)
            (λ z pz. meets-then (Makes (Known && Outside Names (λ m. maybe m.says z)) object_type Joined.required z (existing z) Names) ProperNamed
            ((Known && Outside Names (λ m. maybe m.says z)) && Inside Names Wanted)
            (λ props. (Known && Outside Names (λ m. maybe m.says z)) && Inside Names (binds_member props z))
            (λ o. c && Says o)
            (properties_of join ps x qs y nulls object_type (no_rest z) Joined.required Names)
            (λ props. mapped (λ rules. named props no_properties z no_schema rules) (two_member_rules object_type a b))
            (properties_meet (Known && Outside Names (λ m. maybe m.says z)) object_type Joined.required z (existing z) Names (distinct_all (names_of ps) (names_of qs)) (λ k h. sym (given_names k) ∙ h))
            (λ props m. sizes_meet z pz props m.0 m.1)))
          where
            existing : (z : MaybeSchema) (n : List ℕ) → (Known && Outside Names (λ m. maybe m.says z)) ≡ true → object_type ≡ true → is_name n Joined.required ≡ true → list_any (λ m. bytes_eq m.name n) js ≡ true
            existing z n t k h = let u = and-1 Known _ t in there n (and-1 c _ u) k (and-2 c _ u) h

        pub strictly_meets : Meets ProperNamed (c && (Says (named ps no_properties x no_schema a) && Says (named qs no_properties y no_schema b))) (λ o. c && Says o) Inner
        strictly_meets = meets-wanted ProperNamed (Known && list_all Wanted js) _ (λ o. c && Says o) Inner
            (assoc c (rules_say Joined) (list_all Wanted js)
            ∙ ap (λ t. c && t) (ap (λ t. t && list_all Wanted js) (joined_say a b) ∙ ap (λ t. (rules_say a && rules_say b) && t) (all-and (binds_member ps x) (binds_member qs y) js)
            ∙ turn (rules_say a) (rules_say b) (list_all (binds_member ps x) js) (list_all (binds_member qs y) js)))
            whole_meets
          where
            assoc : (a b d : Bool) → ((a && b) && d) ≡ (a && (b && d))
            assoc true b d = refl
            assoc false b d = refl

            turn : (r s p q : Bool) → ((r && s) && (p && q)) ≡ ((p && r) && (q && s))
            turn false s true q = refl
            turn false s false q = refl
            turn true s false q = and-false s
              where
                and-false : (b : Bool) → (b && false) ≡ false
                and-false true = refl
                and-false false = refl
            turn true true true q = sym (and-true q)
            turn true false true true = refl
            turn true false true false = refl
