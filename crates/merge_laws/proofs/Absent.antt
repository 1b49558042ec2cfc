-- Merging the keywords of members where null may stand for an absent one: what holds strictly, and what is said of members that are passed over.
use Rattle.std.proofs.Common.{◌≡◌, ℕ, List, [], ◌∷◌, ◌++◌, Bool, true, false, cond, ◌&&◌, ◌||◌, not, refl, ap, sym, ◌∙◌, subst, bytes_eq}
use Rattle.std.specs.Prelude.{filter, if◌then◌else◌}
use Rattle.std.specs.List.{list_any, list_all}
use Rattle.std.proofs.lemmas.Slice.Eq.{bytes_eq-Decides}
use Rattle.schema_defs.specs.Texts.{Relations}
use Rattle.schema_defs.specs.Schema.{MemberRules, Schema, boolean, object, Named, no_named, named, MaybeSchema, no_schema, the_schema, Properties, no_properties, property}
use Rattle.schema_defs.specs.Layer.{Judge, maybe, property_at, is_given, is_passed_over, member_agrees}
use Rattle.enum_defs.specs.Words.{is_name, names_of}
use Rattle.merge_defs.specs.Outcome.{Outcome, fault, never, answer, Note, narrowed, widened, less_than, more_than, of_absent, has_way, note_if, of_clash, of_names, noted, both_ways, and_then, mapped, never_unless}
use Rattle.merge_defs.specs.Leaves.{sizes_cross}
use Rattle.merge_defs.specs.Objects.{all_names, beside, is_false, no_rest, put_property, shuts_out, unsaid_at, needs_more, is_object_schema, forgets_rest, absent_notes, or_false, two_rests, schema_of_both, properties_of, joined_members, two_member_rules, kept_named, kept_if, no_member_rules, two_named}
use Rattle.merge_laws.specs.Laws.{Meets, IsProper, ProperMaybe, ProperProperties, ProperNamed}
use Rattle.merge_laws.proofs.Steps.{no_no, yes_no, and-1, and-2, and-in, or-1, or-2, no_way-1, no_way-2, Always, Each, meets-exactly, meets-noted, always-meets, meets-both_ways}
use Rattle.merge_laws.proofs.Leaves.{or-false}
use Rattle.merge_laws.proofs.Objects.{IsFalse, IsJudge, Member, binds_member, named_say, strictly_say, named_all, names_given, distinct_all, AreDistinct, and-true, all-same, strictly_meets}

-- ---- booleans and lists

or-right : {b : Bool} (a : Bool) → b ≡ true → (a || b) ≡ true
or-right true h = refl
or-right false h = h

-- the second, where the first is not
guard : {b : Bool} (a : Bool) → (a ≡ false → b ≡ true) → (a || b) ≡ true
guard true h = refl
guard false h = h refl

unguard : {b : Bool} (a : Bool) → (a || b) ≡ true → a ≡ false → b ≡ true
unguard true h e = no_no (sym e)
unguard false h e = h

not-true : (b : Bool) → not b ≡ true → b ≡ false
not-true true h = no_no h
not-true false h = refl

-- two tests lead to a third
all-2 : {M : Type 0} (Q : M → Type 0) (f g h : M → Bool) → ((m : M) → Q m → f m ≡ true → g m ≡ true → h m ≡ true) → (ms : List M) → Each Q ms → list_all f ms ≡ true → list_all g ms ≡ true → list_all h ms ≡ true
all-2 Q f g h k [] q a b = refl
all-2 Q f g h k (m ∷ ms) q a b = and-in (h m) _ (k m q.0 (and-1 (f m) _ a) (and-1 (g m) _ b)) (all-2 Q f g h k ms q.1 (and-2 (f m) _ a) (and-2 (g m) _ b))

each-filter : {M : Type 0} (P Q : M → Type 0) (g : M → Bool) → ((m : M) → P m → Q m) → (ms : List M) → Each P ms → Each Q (filter g ms)
each-filter P Q g k [] q = tt
each-filter P Q g k (m ∷ ms) q = cases (g m) (each-filter P Q g k ms q.1)
  where
    cases : (b : Bool) → Each Q (filter g ms) → Each Q (cond b (m ∷ filter g ms) (filter g ms))
    cases true e = (k m q.0, e)
    cases false e = e

all-filter : {M : Type 0} (f g : M → Bool) (ms : List M) → list_all f (filter (λ m. not (g m)) ms) ≡ list_all (λ m. g m || f m) ms
all-filter f g [] = refl
all-filter f g (m ∷ ms) = cases (g m) (all-filter f g ms)
  where
    cases : (b : Bool) → list_all f (filter (λ m. not (g m)) ms) ≡ list_all (λ m. g m || f m) ms
        → list_all f (cond (not b) (m ∷ filter (λ m. not (g m)) ms) (filter (λ m. not (g m)) ms)) ≡ ((b || f m) && list_all (λ m. g m || f m) ms)
    cases true e = e
    cases false e = ap (λ b. f m && b) e

any-filter : {M : Type 0} (f g : M → Bool) → ((m : M) → f m ≡ true → g m ≡ true) → (ms : List M) → list_any f ms ≡ true → list_any f (filter g ms) ≡ true
any-filter f g k [] h = h
any-filter f g k (m ∷ ms) h = cases (f m) refl (g m) refl h (any-filter f g k ms)
  where
    cases : (a : Bool) → f m ≡ a → (b : Bool) → g m ≡ b → (a || list_any f ms) ≡ true → (list_any f ms ≡ true → list_any f (filter g ms) ≡ true) → list_any f (cond b (m ∷ filter g ms) (filter g ms)) ≡ true
    cases true e true u h i = ap (λ b. b || list_any f (filter g ms)) e
    cases true e false u h i = absurd (yes_no (g m) u (k m e))
    cases false e true u h i = or-right (f m) (i h)
    cases false e false u h i = i h

any_at : (f : List ℕ → Bool) (k : List ℕ) (ns : List (List ℕ)) → f k ≡ true → is_name k ns ≡ true → list_any f ns ≡ true
any_at f k [] h e = e
any_at f k (n ∷ ns) h e = cases (bytes_eq k n) refl e (any_at f k ns h)
  where
    cases : (b : Bool) → bytes_eq k n ≡ b → (b || is_name k ns) ≡ true → (is_name k ns ≡ true → list_any f ns ≡ true) → (f n || list_any f ns) ≡ true
    cases true u e i = ap (λ b. b || list_any f ns) (subst (λ x. f x ≡ true) ((bytes_eq-Decides k n).0 u) h)
    cases false u e i = or-right (f n) (i e)

-- ---- what an answer and its notes have

abbrev Answers : {A : Type 0} → (List Note → A → Type 0) → Outcome A → Type 0
Answers Q (fault f) = Unit {0}
Answers Q (never ns) = Unit {0}
Answers Q (answer ns a) = Q ns a

answers-noted : {A : Type 0} (P Q : List Note → A → Type 0) (ns : List Note) (o : Outcome A) → ((ms : List Note) (a : A) → P ms a → Q (ns ++ ms) a) → Answers P o → Answers Q (noted ns o)
answers-noted P Q ns (fault f) k p = tt
answers-noted P Q ns (never ms) k p = tt
answers-noted P Q ns (answer ms a) k p = k ms a p

answers-then : {A B : Type 0} (P : List Note → A → Type 0) (R : List Note → A → List Note → B → Type 0) (Q : List Note → B → Type 0) (o : Outcome A) (f : A → Outcome B)
    → ((ns : List Note) (a : A) → P ns a → Answers (R ns a) (f a)) → ((ns : List Note) (a : A) → P ns a → (ms : List Note) (b : B) → R ns a ms b → Q (ns ++ ms) b) → Answers P o → Answers Q (and_then o f)
answers-then P R Q (fault e) f k l p = tt
answers-then P R Q (never ns) f k l p = tt
answers-then P R Q (answer ns a) f k l p = answers-noted (R ns a) Q ns (f a) (l ns a p) (k ns a p)

answers-mapped : {A B : Type 0} (P : List Note → A → Type 0) (Q : List Note → B → Type 0) (f : A → B) (o : Outcome A) → ((ns : List Note) (a : A) → P ns a → Q ns (f a)) → Answers P o → Answers Q (mapped f o)
answers-mapped P Q f (fault e) k p = tt
answers-mapped P Q f (never ns) k p = tt
answers-mapped P Q f (answer ns a) k p = k ns a p

answers-all : {A : Type 0} (Q : List Note → A → Type 0) (o : Outcome A) → ((ns : List Note) (a : A) → Q ns a) → Answers Q o
answers-all Q (fault e) k = tt
answers-all Q (never ns) k = tt
answers-all Q (answer ns a) k = k ns a

-- a member's judge; where null does not stand for an absent member, this one does not
abbrev pub IsMember : (Schema → Schema → Outcome Schema) → Bool → Member → Type 0
IsMember join nulls m = IsJudge join m.says × (nulls ≡ false → m.as_absent ≡ false)

-- ---- which names the merged properties have

module _ (join : Schema → Schema → Outcome Schema) (ps : Properties) (x : MaybeSchema) (qs : Properties) (y : MaybeSchema) (nulls object_type : Bool) (a b : MemberRules) where
  abbrev needed : List (List ℕ)
  needed = (joined_members a b).required

  abbrev Shut : List ℕ → Bool
  Shut k = shuts_out k ps x || shuts_out k qs y

  -- a name that is not required: left out where nothing else stands, with a note unless a side shuts it out, and never kept where one does
  record IsPut (closed : Bool) (k : List ℕ) (ns : List Note) (props : Properties) : Type 0 where
    missing : is_given (property_at k props) ≡ false → (closed ≡ true) × (has_way narrowed ns ≡ false → nulls ≡ true → Shut k ≡ true)
    kept : is_given (property_at k props) ≡ true → Shut k ≡ true → closed ≡ true → ⊥

  record ArePut (closed : Bool) (names : List (List ℕ)) (ns : List Note) (props : Properties) : Type 0 where
    others : (k : List ℕ) → is_name k names ≡ false → is_given (property_at k props) ≡ false
    each : (k : List ℕ) → is_name k names ≡ true → is_name k needed ≡ false → IsPut closed k ns props

  put_noted : (closed : Bool) (k : List ℕ) (ns ms : List Note) (props : Properties) → (has_way narrowed ms ≡ false → has_way narrowed ns ≡ false) → IsPut closed k ns props → IsPut closed k ms props
  put_noted closed k ns ms props h p = record { missing = λ g. ((p.missing g).0, λ e. (p.missing g).1 (h e)); kept = p.kept }

  all_put_noted : (closed : Bool) (names : List (List ℕ)) (ns ms : List Note) (props : Properties) → (has_way narrowed ms ≡ false → has_way narrowed ns ≡ false) → ArePut closed names ns props → ArePut closed names ms props
  all_put_noted closed names ns ms props h p = record { others = p.others; each = λ k a b. put_noted closed k ns ms props h (p.each k a b) }

  beside_shut : (s : Schema) (m : MaybeSchema) → no_rest m ≡ true → is_false (beside s m) ≡ true
  beside_shut s no_schema h = no_no h
  beside_shut s (the_schema (boolean true)) h = no_no h
  beside_shut s (the_schema (boolean false)) h = refl
  beside_shut s (the_schema (object a b d e)) h = no_no h

  schema_shut : (p z q w : MaybeSchema) → (is_given p || is_given q) ≡ true
      → Answers (λ ns s. ((not (is_given p) && no_rest z) || (not (is_given q) && no_rest w)) ≡ true → is_false s ≡ true) (schema_of_both join p z q w)
  schema_shut no_schema z no_schema w g = no_no g
  schema_shut (the_schema s) z no_schema w g = λ h. beside_shut s w h
  schema_shut no_schema z (the_schema t) w g = λ h. beside_shut t z (sym (or-false (no_rest z)) ∙ h)
  schema_shut (the_schema s) z (the_schema t) w g = answers-all (λ ns u. false ≡ true → is_false u ≡ true) (or_false join s t) (λ ns u h. no_no h)

  unsaid_shut : (n : List ℕ) → has_way narrowed (unsaid_at nulls ps x qs y n) ≡ false → nulls ≡ true → Shut n ≡ true
  unsaid_shut n h u = go (Shut n) refl
    where
      go : (b : Bool) → Shut n ≡ b → b ≡ true
      go true e = refl
      go false e = no_no (sym h ∙ (λ i. has_way narrowed (note_if (u i && not (e i)) (less_than of_absent ∷ []))))

  module _ (closed : Bool) (n : List ℕ) (ns : List (List ℕ)) (new : is_name n ns ≡ false) (s : Schema) (shut : Shut n ≡ true → is_false s ≡ true) where
    kept_put : (is_false s ≡ true → closed ≡ true → ⊥) → (ms : List Note) (props : Properties) → ArePut closed ns ms props → ArePut closed (n ∷ ns) ms (property n s props)
    kept_put unshut ms props p = record {
      others = λ k h. other k (bytes_eq k n) (or-1 (bytes_eq k n) _ h) (p.others k (or-2 (bytes_eq k n) _ h));
      each = λ k h u. one k (bytes_eq k n) refl h u;
    }
      where
        other : (k : List ℕ) (b : Bool) → b ≡ false → is_given (property_at k props) ≡ false → is_given (if b then the_schema s else property_at k props) ≡ false
        other k true e h = no_no (sym e)
        other k false e h = h

        one : (k : List ℕ) (b : Bool) → bytes_eq k n ≡ b → (b || is_name k ns) ≡ true → is_name k needed ≡ false → IsPut closed k ms (property n s props)
        one k true e h u = record {
          missing = λ g. no_no (sym (sym (ap (λ b. is_given (if b then the_schema s else property_at k props)) e) ∙ g));
          kept = λ g h c. unshut (shut (subst (λ z. Shut z ≡ true) ((bytes_eq-Decides k n).0 e) h)) c;
        }
        one k false e h u = let q = p.each k h u in record {
          missing = λ g. q.missing (sym (ap (λ b. is_given (if b then the_schema s else property_at k props)) e) ∙ g);
          kept = λ g. q.kept (sym (ap (λ b. is_given (if b then the_schema s else property_at k props)) e) ∙ g);
        }

    left_out : closed ≡ true → (ms : List Note) (props : Properties) → ArePut closed ns ms props → ArePut closed (n ∷ ns) (unsaid_at nulls ps x qs y n ++ ms) props
    left_out c ms props p = record {
      others = λ k h. p.others k (or-2 (bytes_eq k n) _ h);
      each = λ k h u. one k (bytes_eq k n) refl h u;
    }
      where
        one : (k : List ℕ) (b : Bool) → bytes_eq k n ≡ b → (b || is_name k ns) ≡ true → is_name k needed ≡ false → IsPut closed k (unsaid_at nulls ps x qs y n ++ ms) props
        one k true e h u =
            let is = (bytes_eq-Decides k n).0 e in
            record {
              missing = λ g. (c, λ w v. subst (λ z. Shut z ≡ true) (sym is) (unsaid_shut n (no_way-1 narrowed (unsaid_at nulls ps x qs y n) ms w) v));
              kept = λ g. no_no (sym (p.others k (ap (λ z. is_name z ns) is ∙ new)) ∙ g);
            }
        one k false e h u = put_noted closed k ms (unsaid_at nulls ps x qs y n ++ ms) props (no_way-2 narrowed (unsaid_at nulls ps x qs y n) ms) (p.each k h u)

    put : (after : Outcome Properties) → Answers (ArePut closed ns) after → Answers (ArePut closed (n ∷ ns)) (put_property object_type (is_name n needed) closed (unsaid_at nulls ps x qs y n) n s after)
    put after p = cases (is_false s) refl (is_name n needed)
      where
        kept_after : (is_false s ≡ true → closed ≡ true → ⊥) → Answers (ArePut closed (n ∷ ns)) (mapped (property n s) after)
        kept_after unshut = answers-mapped (ArePut closed ns) (ArePut closed (n ∷ ns)) (property n s) after (kept_put unshut) p

        last : (t : Bool) → closed ≡ t → Answers (ArePut closed (n ∷ ns)) (if t then noted (unsaid_at nulls ps x qs y n) after else mapped (property n s) after)
        last true e = answers-noted (ArePut closed ns) (ArePut closed (n ∷ ns)) (unsaid_at nulls ps x qs y n) after (left_out e) p
        last false e = kept_after (λ a b. yes_no closed e b)

        cases : (a : Bool) → is_false s ≡ a → (b : Bool)
            → Answers (ArePut closed (n ∷ ns)) (if a && b then and_then after (λ ps. never_unless object_type of_clash) else if a && closed then noted (unsaid_at nulls ps x qs y n) after else mapped (property n s) after)
        cases true e true = answers-then (ArePut closed ns) (λ ns a ms b. ⊥) (ArePut closed (n ∷ ns)) after (λ ps. never_unless object_type of_clash) (λ ns a q. tt) (λ ns a q ms b r. absurd r) p
        cases true e false = last closed refl
        cases false e b = kept_after (λ a c. yes_no (is_false s) e a)

  properties_put : (closed : Bool) (ns : List (List ℕ)) → AreDistinct ns → ((k : List ℕ) → is_name k ns ≡ true → (is_given (property_at k ps) || is_given (property_at k qs)) ≡ true)
      → Answers (ArePut closed ns) (properties_of join ps x qs y nulls object_type closed needed ns)
  properties_put closed [] d g = record { others = λ k h. refl; each = λ k h. no_no h }
  properties_put closed (n ∷ ns) d g =
      answers-then (λ ms s. Shut n ≡ true → is_false s ≡ true) (λ ms s. ArePut closed (n ∷ ns)) (ArePut closed (n ∷ ns))
      (schema_of_both join (property_at n ps) x (property_at n qs) y)
      (λ s. put_property object_type (is_name n needed) closed (unsaid_at nulls ps x qs y n) n s (properties_of join ps x qs y nulls object_type closed needed ns))
      (λ ms s shut. put closed n ns d.0 s shut (properties_of join ps x qs y nulls object_type closed needed ns) (properties_put closed ns d.1 (λ k h. g k (or-right (bytes_eq k n) h))))
      (λ ms s shut ms' props p. all_put_noted closed (n ∷ ns) ms' (ms ++ ms') props (no_way-2 narrowed ms ms') p)
      (schema_shut (property_at n ps) x (property_at n qs) y (g n (ap (λ b. b || is_name n ns) ((bytes_eq-Decides n n).1 refl))))

  abbrev Closes : Type 0
  Closes = (a b : Schema) → (is_false a || is_false b) ≡ true → IsFalse (or_false join a b)

  rests_closed : (x y : MaybeSchema) → Answers (λ ns z. Closes → (no_rest x || no_rest y) ≡ true → no_rest z ≡ true) (two_rests join x y)
  rests_closed no_schema y = λ k h. h
  rests_closed (the_schema s) no_schema = λ k h. sym (or-false (is_false s)) ∙ h
  rests_closed (the_schema s) (the_schema t) = go (or_false join s t) (λ k. k s t)
    where
      go : (o : Outcome Schema) → (Closes → (is_false s || is_false t) ≡ true → IsFalse o) → Answers (λ ns z. Closes → (is_false s || is_false t) ≡ true → no_rest z ≡ true) (mapped the_schema o)
      go (fault f) h = tt
      go (never ns) h = tt
      go (answer ns a) h = h

  -- ---- the whole answer

  abbrev Names : List (List ℕ)
  Names = all_names (names_of ps) (names_of qs)

  given_names : (k : List ℕ) → is_name k Names ≡ (is_given (property_at k ps) || is_given (property_at k qs))
  given_names k = named_all k (names_of ps) (names_of qs) ∙ (λ i. names_given k ps i || names_given k qs i)

  record IsMade (ns : List Note) (o : Named) : Type 0 where
    rest : MaybeSchema
    props : Properties
    is : o ≡ named props no_properties rest no_schema (joined_members a b)
    closes : Closes → (no_rest x || no_rest y) ≡ true → no_rest rest ≡ true
    puts : ArePut (no_rest rest) Names ns props

  abbrev Inner : Outcome Named
  Inner = and_then (two_rests join x y) (λ z. and_then (properties_of join ps x qs y nulls object_type (no_rest z) needed Names) (λ props.
      mapped (λ rules. named props no_properties z no_schema rules) (two_member_rules object_type a b)))

  made : Answers IsMade Inner
  made = answers-then (λ ns z. Closes → (no_rest x || no_rest y) ≡ true → no_rest z ≡ true) (λ ns z. IsMade) IsMade (two_rests join x y)
      (λ z. and_then (properties_of join ps x qs y nulls object_type (no_rest z) needed Names) (λ props. mapped (λ rules. named props no_properties z no_schema rules) (two_member_rules object_type a b)))
      (λ ns z c. answers-then (ArePut (no_rest z) Names) (λ ms props ls. IsMade (ms ++ ls)) IsMade (properties_of join ps x qs y nulls object_type (no_rest z) needed Names)
      (λ props. mapped (λ rules. named props no_properties z no_schema rules) (two_member_rules object_type a b))
      (λ ms props p. sizes z c ms props p (sizes_cross (joined_members a b).min_properties (joined_members a b).max_properties))
      (λ ms props p ls o q. q)
      (properties_put (no_rest z) Names (distinct_all (names_of ps) (names_of qs)) (λ k h. sym (given_names k) ∙ h)))
      (λ ns z c ms o q. more ms (ns ++ ms) o (no_way-2 narrowed ns ms) q)
      (rests_closed x y)
    where
      more : (ms ns : List Note) (o : Named) → (has_way narrowed ns ≡ false → has_way narrowed ms ≡ false) → IsMade ms o → IsMade ns o
      more ms ns o h m = record { rest = m.rest; props = m.props; is = m.is; closes = m.closes; puts = all_put_noted (no_rest m.rest) Names ms ns m.props h m.puts }

      sizes : (z : MaybeSchema) → (Closes → (no_rest x || no_rest y) ≡ true → no_rest z ≡ true) → (ms : List Note) (props : Properties) → ArePut (no_rest z) Names ms props → (t : Bool)
          → Answers (λ ls. IsMade (ms ++ ls)) (mapped (λ rules. named props no_properties z no_schema rules) (if t then never_unless object_type of_clash else answer [] (joined_members a b)))
      sizes z c ms props p true = tt
      sizes z c ms props p false = record { rest = z; props = props; is = refl; closes = c; puts = all_put_noted (no_rest z) Names ms (ms ++ []) props (no_way-1 narrowed ms []) p }

  -- ---- one member

  module _ (m : Member) where
    abbrev binds : List (List ℕ) → Properties → MaybeSchema → Bool
    binds asked props z = (is_passed_over asked m || maybe m.says (property_at m.name props)) && (is_given (property_at m.name props) || maybe m.says z)

    says_binds : (r : Relations) (name : List ℕ → Judge) (asked : List (List ℕ)) (props : Properties) (z : MaybeSchema) → member_agrees r name props no_properties z no_schema asked m ≡ binds asked props z
    says_binds r name asked props z = go (is_passed_over asked m || maybe m.says (property_at m.name props)) (is_given (property_at m.name props)) (maybe m.says z)
      where
        go : (d e f : Bool) → (((d && true) && ((e || false) || f)) && true) ≡ (d && (e || f))
        go false e f = refl
        go true true f = refl
        go true false true = refl
        go true false false = refl

    -- what is said strictly is said
    loosely : (asked : List (List ℕ)) (props : Properties) (z : MaybeSchema) → binds_member props z m ≡ true → binds asked props z ≡ true
    loosely asked props z h = and-in _ _ (or-right (is_passed_over asked m) (and-1 (maybe m.says (property_at m.name props)) _ h)) (and-2 (maybe m.says (property_at m.name props)) _ h)

    strictly : (asked : List (List ℕ)) (props : Properties) (z : MaybeSchema) → (is_passed_over asked m ≡ true → is_given (property_at m.name props) ≡ true → ⊥) → binds asked props z ≡ true → binds_member props z m ≡ true
    strictly asked props z k h = and-in _ _
        (first (is_passed_over asked m) refl (property_at m.name props) refl (and-1 (is_passed_over asked m || maybe m.says (property_at m.name props)) _ h))
        (and-2 (is_passed_over asked m || maybe m.says (property_at m.name props)) _ h)
      where
        first : (b : Bool) → is_passed_over asked m ≡ b → (p : MaybeSchema) → property_at m.name props ≡ p → (b || maybe m.says p) ≡ true → maybe m.says p ≡ true
        first false e p f h = h
        first true e no_schema f h = refl
        first true e (the_schema s) f h = absurd (k e (ap is_given f))

    passed : (asked : List (List ℕ)) (props : Properties) (z : MaybeSchema) → is_passed_over asked m ≡ true → (is_given (property_at m.name props) || maybe m.says z) ≡ true → binds asked props z ≡ true
    passed asked props z e g = and-in _ _ (ap (λ b. b || maybe m.says (property_at m.name props)) e) g

    -- passed over by the merge, and named by a side
    abbrev hidden : Bool
    hidden = is_passed_over needed m && is_name m.name Names

    passed_also : (asked : List (List ℕ)) → (is_name m.name needed ≡ false → is_name m.name asked ≡ false) → is_passed_over needed m ≡ true → is_passed_over asked m ≡ true
    passed_also asked k h = and-in _ _ (and-1 m.as_absent _ h) (ap not (k (not-true (is_name m.name needed) (and-2 m.as_absent _ h))))

    not_needed : is_name m.name needed ≡ (is_name m.name a.required || is_name m.name b.required)
    not_needed = named_all m.name a.required b.required

    passed_left : is_passed_over needed m ≡ true → is_passed_over a.required m ≡ true
    passed_left = passed_also a.required (λ e. or-1 (is_name m.name a.required) _ (sym not_needed ∙ e))

    passed_right : is_passed_over needed m ≡ true → is_passed_over b.required m ≡ true
    passed_right = passed_also b.required (λ e. or-2 (is_name m.name a.required) _ (sym not_needed ∙ e))

    -- no side passes over what the merge does not, unless it requires what the other names
    not_passed : (asked others : List (List ℕ)) (props : Properties) → (is_name m.name asked ≡ false → is_name m.name others ≡ false → is_name m.name needed ≡ false) → (is_given (property_at m.name props) ≡ true → is_name m.name Names ≡ true)
        → hidden ≡ false → (m.as_absent ≡ true → needs_more others props asked ≡ false) → is_passed_over asked m ≡ true → is_given (property_at m.name props) ≡ true → ⊥
    not_passed asked others props k l h n e g = cases (is_name m.name others) refl
      where
        unasked : is_name m.name asked ≡ false
        unasked = not-true (is_name m.name asked) (and-2 m.as_absent _ e)

        cases : (b : Bool) → is_name m.name others ≡ b → ⊥
        cases true f = yes_no (needs_more others props asked) (n (and-1 m.as_absent _ e))
            (any_at (λ j. is_given (property_at j props) && not (is_name j asked)) m.name others (and-in _ _ g (ap not unasked)) f)
        cases false f = yes_no hidden h (and-in _ _ (and-in _ _ (and-1 m.as_absent _ e) (ap not (k unasked f))) (l g))

    module _ (judged : IsJudge join m.says) where
      shut_says : (p z : MaybeSchema) → (not (is_given p) && no_rest z) ≡ true → (is_given p || maybe m.says z) ≡ true → ⊥
      shut_says (the_schema s) z h t = no_no h
      shut_says no_schema no_schema h t = no_no h
      shut_says no_schema (the_schema (boolean true)) h t = no_no h
      shut_says no_schema (the_schema (boolean false)) h t = yes_no (m.says (boolean false)) (judged.at_boolean false) t
      shut_says no_schema (the_schema (object d e f g)) h t = no_no h

      open_says : (p z : MaybeSchema) → ((not (is_given p) && no_rest z) ≡ true → ⊥) → (is_given p ≡ false → is_object_schema z ≡ false) → (is_given p || maybe m.says z) ≡ true
      open_says (the_schema s) z h k = refl
      open_says no_schema no_schema h k = refl
      open_says no_schema (the_schema (boolean true)) h k = judged.at_boolean true
      open_says no_schema (the_schema (boolean false)) h k = absurd (h refl)
      open_says no_schema (the_schema (object d e f g)) h k = no_no (sym (k refl))

      module _ (h : hidden ≡ true) (ns : List Note) (o : Named) (is : IsMade ns o) where
        unneeded : is_name m.name needed ≡ false
        unneeded = not-true (is_name m.name needed) (and-2 m.as_absent _ (and-1 (is_passed_over needed m) _ h))

        named_there : is_name m.name Names ≡ true
        named_there = and-2 (is_passed_over needed m) _ h

        put_there : IsPut (no_rest is.rest) m.name ns is.props
        put_there = is.puts.each m.name named_there unneeded

        hidden_holds : (nulls ≡ false → m.as_absent ≡ false) → has_way narrowed ns ≡ false → (is_given (property_at m.name ps) || maybe m.says x) ≡ true → (is_given (property_at m.name qs) || maybe m.says y) ≡ true
            → (is_given (property_at m.name is.props) || maybe m.says is.rest) ≡ true
        hidden_holds k w s t = guard (is_given (property_at m.name is.props)) (λ g. absurd (none ((put_there.missing g).1 w (nulls_hold nulls refl))))
          where
            nulls_hold : (b : Bool) → nulls ≡ b → b ≡ true
            nulls_hold true e = refl
            nulls_hold false e = absurd (yes_no m.as_absent (k e) (and-1 m.as_absent _ (and-1 (is_passed_over needed m) _ h)))

            none : Shut m.name ≡ true → ⊥
            none u = cases (shuts_out m.name ps x) refl u
              where
                cases : (b : Bool) → shuts_out m.name ps x ≡ b → (b || shuts_out m.name qs y) ≡ true → ⊥
                cases true e u = shut_says (property_at m.name ps) x e s
                cases false e u = shut_says (property_at m.name qs) y u t

        kept_there : (is_given (property_at m.name is.props) || maybe m.says is.rest) ≡ true → is_given (property_at m.name is.props) ≡ true
        kept_there t = cases (is_given (property_at m.name is.props)) refl
          where
            cases : (b : Bool) → is_given (property_at m.name is.props) ≡ b → b ≡ true
            cases true e = refl
            cases false e = absurd (shut_says (property_at m.name is.props) is.rest (and-in _ _ (ap not e) (put_there.missing e).0) t)

        and-no : (a b : Bool) → (a && b) ≡ false → b ≡ true → a ≡ false
        and-no true b f g = sym g ∙ f
        and-no false b f g = refl

        hidden_left : forgets_rest needed qs ps x ≡ false → (is_given (property_at m.name is.props) || maybe m.says is.rest) ≡ true → (is_given (property_at m.name ps) || maybe m.says x) ≡ true
        hidden_left f t = open_says (property_at m.name ps) x
            (λ e. put_there.kept (kept_there t) (ap (λ b. b || shuts_out m.name qs y) e) (is.closes judged.closes (ap (λ b. b || no_rest y) (and-2 (not (is_given (property_at m.name ps))) _ e))))
            (λ e. and-no (is_object_schema x) _ f (any_at (λ j. not (is_given (property_at j ps)) && not (is_name j needed)) m.name (names_of qs) (and-in _ _ (ap not e) (ap not unneeded))
            (names_given m.name qs ∙ unguard (is_given (property_at m.name ps)) (sym (given_names m.name) ∙ named_there) e)))

        hidden_right : forgets_rest needed ps qs y ≡ false → (is_given (property_at m.name is.props) || maybe m.says is.rest) ≡ true → (is_given (property_at m.name qs) || maybe m.says y) ≡ true
        hidden_right f t = open_says (property_at m.name qs) y
            (λ e. put_there.kept (kept_there t) (or-right (shuts_out m.name ps x) e) (is.closes judged.closes (or-right (no_rest x) (and-2 (not (is_given (property_at m.name qs))) _ e))))
            (λ e. and-no (is_object_schema y) _ f (any_at (λ j. not (is_given (property_at j qs)) && not (is_name j needed)) m.name (names_of ps) (and-in _ _ (ap not e) (ap not unneeded))
            (names_given m.name ps ∙ first (is_given (property_at m.name ps)) (is_given (property_at m.name qs)) (sym (given_names m.name) ∙ named_there) e)))
          where
            first : (a b : Bool) → (a || b) ≡ true → b ≡ false → a ≡ true
            first true b h e = refl
            first false b h e = no_no (sym e ∙ h)

  -- ---- all members

  abbrev absent : List Note
  absent = note_if nulls (absent_notes ps x a qs y b)

  narrow_flag : (u v : Bool) → has_way narrowed (note_if u (less_than of_absent ∷ []) ++ note_if v (more_than of_absent ∷ [])) ≡ false → u ≡ false
  narrow_flag true v h = h
  narrow_flag false v h = refl

  wide_flag : (u v : Bool) → has_way widened (note_if u (less_than of_absent ∷ []) ++ note_if v (more_than of_absent ∷ [])) ≡ false → v ≡ false
  wide_flag true true h = h
  wide_flag false true h = h
  wide_flag true false h = refl
  wide_flag false false h = refl

  narrow_says : nulls ≡ true → has_way narrowed absent ≡ false → (needs_more a.required qs b.required || needs_more b.required ps a.required) ≡ false
  narrow_says e h = narrow_flag (needs_more a.required qs b.required || needs_more b.required ps a.required) (forgets_rest needed ps qs y || forgets_rest needed qs ps x) (sym (ap (λ t. has_way narrowed (note_if t (absent_notes ps x a qs y b))) e) ∙ h)

  wide_says : nulls ≡ true → has_way widened absent ≡ false → (forgets_rest needed ps qs y || forgets_rest needed qs ps x) ≡ false
  wide_says e h = wide_flag (needs_more a.required qs b.required || needs_more b.required ps a.required) (forgets_rest needed ps qs y || forgets_rest needed qs ps x) (sym (ap (λ t. has_way widened (note_if t (absent_notes ps x a qs y b))) e) ∙ h)

  module _ (always : (a b : Schema) → IsProper a → IsProper b → Always IsProper (join a b))
      (pp : ProperProperties ps) (px : ProperMaybe x) (pq : ProperProperties qs) (py : ProperMaybe y)
      (js : List Member) (each : Each (IsMember join nulls) js)
      (r : Relations) (name : List ℕ → Judge) (c : Bool) (rules_say : MemberRules → Bool)
      (joined_say : (a b : MemberRules) → rules_say (joined_members a b) ≡ (rules_say a && rules_say b))
      (crossed_say : (a : MemberRules) → c ≡ true → object_type ≡ true → sizes_cross a.min_properties a.max_properties ≡ true → rules_say a ≡ true → ⊥)
      (there : (a : MemberRules) (n : List ℕ) → c ≡ true → object_type ≡ true → rules_say a ≡ true → is_name n a.required ≡ true → list_any (λ m. bytes_eq m.name n) js ≡ true)
    where
      abbrev Say : Named → Bool
      Say = named_say js r name rules_say

      abbrev Left : Named
      Left = named ps no_properties x no_schema a

      abbrev Right : Named
      Right = named qs no_properties y no_schema b

      -- the members that are not hidden
      abbrev seen : List Member
      seen = filter (λ m. not (hidden m)) js

      abbrev Strict : Named → Bool
      Strict = strictly_say seen rules_say

      each_seen : Each (λ m. IsJudge join m.says) seen
      each_seen = each-filter (IsMember join nulls) (λ m. IsJudge join m.says) (λ m. not (hidden m)) (λ m q. q.0) js each

      there_seen : (n : List ℕ) → c ≡ true → object_type ≡ true → rules_say (joined_members a b) ≡ true → is_name n needed ≡ true → list_any (λ m. bytes_eq m.name n) seen ≡ true
      there_seen n e t s h = any-filter (λ m. bytes_eq m.name n) (λ m. not (hidden m)) (λ m f. not_hidden m (subst (λ k. is_name k needed ≡ true) (sym ((bytes_eq-Decides m.name n).0 f)) h)) js (there (joined_members a b) n e t s h)
        where
          not_hidden : (m : Member) → is_name m.name needed ≡ true → not (hidden m) ≡ true
          not_hidden m f = (λ i. not ((m.as_absent && not (f i)) && is_name m.name Names)) ∙ none m.as_absent
            where
              none : (d : Bool) → not ((d && false) && is_name m.name Names) ≡ true
              none true = refl
              none false = refl

      strict : Meets ProperNamed (c && (Strict Left && Strict Right)) (λ o. c && Strict o) Inner
      strict = strictly_meets join always ps x qs y pp px pq py seen each_seen nulls c object_type rules_say joined_say crossed_say a b there_seen

      pub always_inner : Always ProperNamed Inner
      always_inner = always-meets ProperNamed (c && (Strict Left && Strict Right)) (λ o. c && Strict o) Inner strict

      says_are : (asked : List (List ℕ)) (props : Properties) (z : MaybeSchema) → list_all (member_agrees r name props no_properties z no_schema asked) js ≡ list_all (λ m. binds m asked props z) js
      says_are asked props z = all-same (IsMember join nulls) (member_agrees r name props no_properties z no_schema asked) (λ m. binds m asked props z) (λ m q. says_binds m r name asked props z) js each

      nulls_hold : (m : Member) → IsMember join nulls m → m.as_absent ≡ true → nulls ≡ true
      nulls_hold m q e = go nulls refl
        where
          go : (t : Bool) → nulls ≡ t → t ≡ true
          go true f = refl
          go false f = absurd (yes_no m.as_absent (q.1 f) e)

      strict_left : has_way narrowed absent ≡ false → (m : Member) → IsMember join nulls m → binds m a.required ps x ≡ true → (hidden m || binds_member ps x m) ≡ true
      strict_left h m q t = guard (hidden m) (λ e. strictly m a.required ps x
          (not_passed m a.required b.required ps (λ f g. not_needed m ∙ both f g) (λ g. given_names m.name ∙ ap (λ b. b || is_given (property_at m.name qs)) g) e
          (λ u. or-2 (needs_more a.required qs b.required) _ (narrow_says (nulls_hold m q u) h))) t)
        where
          both : is_name m.name a.required ≡ false → is_name m.name b.required ≡ false → (is_name m.name a.required || is_name m.name b.required) ≡ false
          both f g = λ i. f i || g i

      strict_right : has_way narrowed absent ≡ false → (m : Member) → IsMember join nulls m → binds m b.required qs y ≡ true → (hidden m || binds_member qs y m) ≡ true
      strict_right h m q t = guard (hidden m) (λ e. strictly m b.required qs y
          (not_passed m b.required a.required qs (λ f g. not_needed m ∙ both f g) (λ g. given_names m.name ∙ or-right (is_given (property_at m.name ps)) g) e
          (λ u. or-1 (needs_more a.required qs b.required) _ (narrow_says (nulls_hold m q u) h))) t)
        where
          both : is_name m.name b.required ≡ false → is_name m.name a.required ≡ false → (is_name m.name a.required || is_name m.name b.required) ≡ false
          both f g = λ i. g i || f i

      to_strict : has_way narrowed absent ≡ false → (c && (Say Left && Say Right)) ≡ true → (c && (Strict Left && Strict Right)) ≡ true
      to_strict h t =
          let u = and-2 c _ t in
          let l = and-1 (Say Left) _ u in
          let k = and-2 (Say Left) _ u in
          and-in c _ (and-1 c _ t) (and-in _ _
          (and-in _ _ (all-filter (binds_member ps x) hidden js ∙ all-2 (IsMember join nulls) (λ m. binds m a.required ps x) (λ m. binds m a.required ps x) (λ m. hidden m || binds_member ps x m) (λ m q e f. strict_left h m q e) js each (left_all l) (left_all l))
          (and-2 (list_all (member_agrees r name ps no_properties x no_schema a.required) js) _ l))
          (and-in _ _ (all-filter (binds_member qs y) hidden js ∙ all-2 (IsMember join nulls) (λ m. binds m b.required qs y) (λ m. binds m b.required qs y) (λ m. hidden m || binds_member qs y m) (λ m q e f. strict_right h m q e) js each (right_all k) (right_all k))
          (and-2 (list_all (member_agrees r name qs no_properties y no_schema b.required) js) _ k)))
        where
          left_all : Say Left ≡ true → list_all (λ m. binds m a.required ps x) js ≡ true
          left_all l = sym (says_are a.required ps x) ∙ and-1 _ (rules_say a) l

          right_all : Say Right ≡ true → list_all (λ m. binds m b.required qs y) js ≡ true
          right_all k = sym (says_are b.required qs y) ∙ and-1 _ (rules_say b) k

      -- what an answer says strictly and loosely, both ways
      module _ (ns : List Note) (o : Named) (is : IsMade ns o) where
        abbrev Result : Named
        Result = named is.props no_properties is.rest no_schema (joined_members a b)

        holds : has_way narrowed ns ≡ false → (c && (Say Left && Say Right)) ≡ true → (c && Strict Result) ≡ true → (c && Say Result) ≡ true
        holds w t v =
            let u = and-2 c _ t in
            let s = and-2 c _ v in
            and-in c _ (and-1 c _ t) (and-in _ _
            (says_are needed is.props is.rest ∙ all-2 (IsMember join nulls) (λ m. binds m a.required ps x && binds m b.required qs y) (λ m. hidden m || binds_member is.props is.rest m) (λ m. binds m needed is.props is.rest) one js each
            (all-2 (IsMember join nulls) (λ m. binds m a.required ps x) (λ m. binds m b.required qs y) (λ m. binds m a.required ps x && binds m b.required qs y) (λ m q e f. and-in _ _ e f) js each
            (sym (says_are a.required ps x) ∙ and-1 _ (rules_say a) (and-1 (Say Left) _ u)) (sym (says_are b.required qs y) ∙ and-1 _ (rules_say b) (and-2 (Say Left) _ u)))
            (sym (all-filter (binds_member is.props is.rest) hidden js) ∙ and-1 (list_all (binds_member is.props is.rest) seen) _ s))
            (and-2 (list_all (binds_member is.props is.rest) seen) _ s))
          where
            one : (m : Member) → IsMember join nulls m → (binds m a.required ps x && binds m b.required qs y) ≡ true → (hidden m || binds_member is.props is.rest m) ≡ true → binds m needed is.props is.rest ≡ true
            one m q e f = cases (hidden m) refl f
              where
                cases : (t : Bool) → hidden m ≡ t → (t || binds_member is.props is.rest m) ≡ true → binds m needed is.props is.rest ≡ true
                cases true h f = passed m needed is.props is.rest (and-1 (is_passed_over needed m) _ h) (hidden_holds m q.0 h ns o is q.1 w
                    (and-2 (is_passed_over a.required m || maybe m.says (property_at m.name ps)) _ (and-1 (binds m a.required ps x) _ e))
                    (and-2 (is_passed_over b.required m || maybe m.says (property_at m.name qs)) _ (and-2 (binds m a.required ps x) _ e)))
                cases false h f = loosely m needed is.props is.rest f

        result_strict : (c && Say Result) ≡ true → (c && Strict Result) ≡ true
        result_strict t =
            let u = and-2 c _ t in
            and-in c _ (and-1 c _ t) (and-in _ _
            (all-filter (binds_member is.props is.rest) hidden js ∙ all-2 (IsMember join nulls) (λ m. binds m needed is.props is.rest) (λ m. binds m needed is.props is.rest) (λ m. hidden m || binds_member is.props is.rest m) one js each (all u) (all u))
            (and-2 (list_all (member_agrees r name is.props no_properties is.rest no_schema needed) js) _ u))
          where
            all : Say Result ≡ true → list_all (λ m. binds m needed is.props is.rest) js ≡ true
            all u = sym (says_are needed is.props is.rest) ∙ and-1 _ (rules_say (joined_members a b)) u

            one : (m : Member) → IsMember join nulls m → binds m needed is.props is.rest ≡ true → binds m needed is.props is.rest ≡ true → (hidden m || binds_member is.props is.rest m) ≡ true
            one m q e f = guard (hidden m) (λ h. strictly m needed is.props is.rest (λ p g. yes_no (hidden m) h (and-in _ _ p (named_there (is_name m.name Names) refl g))) e)
              where
                named_there : (t : Bool) → is_name m.name Names ≡ t → is_given (property_at m.name is.props) ≡ true → t ≡ true
                named_there true u g = refl
                named_there false u g = absurd (yes_no (is_given (property_at m.name is.props)) (is.puts.others m.name u) g)

        sides : has_way widened absent ≡ false → (c && Say Result) ≡ true → (c && (Strict Left && Strict Right)) ≡ true → (c && (Say Left && Say Right)) ≡ true
        sides w t v =
            let u = and-2 c _ t in
            let s = and-2 c _ v in
            let l = and-1 (Strict Left) _ s in
            let k = and-2 (Strict Left) _ s in
            let all = sym (says_are needed is.props is.rest) ∙ and-1 _ (rules_say (joined_members a b)) u in
            and-in c _ (and-1 c _ t) (and-in _ _
            (and-in _ _ (says_are a.required ps x ∙ all-2 (IsMember join nulls) (λ m. binds m needed is.props is.rest) (λ m. hidden m || binds_member ps x m) (λ m. binds m a.required ps x) left js each all
            (sym (all-filter (binds_member ps x) hidden js) ∙ and-1 (list_all (binds_member ps x) seen) _ l)) (and-2 (list_all (binds_member ps x) seen) _ l))
            (and-in _ _ (says_are b.required qs y ∙ all-2 (IsMember join nulls) (λ m. binds m needed is.props is.rest) (λ m. hidden m || binds_member qs y m) (λ m. binds m b.required qs y) right js each all
            (sym (all-filter (binds_member qs y) hidden js) ∙ and-1 (list_all (binds_member qs y) seen) _ k)) (and-2 (list_all (binds_member qs y) seen) _ k)))
          where
            second : (m : Member) → binds m needed is.props is.rest ≡ true → (is_given (property_at m.name is.props) || maybe m.says is.rest) ≡ true
            second m e = and-2 (is_passed_over needed m || maybe m.says (property_at m.name is.props)) _ e

            absent_here : (m : Member) → hidden m ≡ true → m.as_absent ≡ true
            absent_here m h = and-1 m.as_absent _ (and-1 (is_passed_over needed m) _ h)

            left : (m : Member) → IsMember join nulls m → binds m needed is.props is.rest ≡ true → (hidden m || binds_member ps x m) ≡ true → binds m a.required ps x ≡ true
            left m q e f = cases (hidden m) refl f
              where
                cases : (t : Bool) → hidden m ≡ t → (t || binds_member ps x m) ≡ true → binds m a.required ps x ≡ true
                cases true h f = passed m a.required ps x (passed_left m (and-1 (is_passed_over needed m) _ h))
                    (hidden_left m q.0 h ns o is (or-2 (forgets_rest needed ps qs y) _ (wide_says (nulls_hold m q (absent_here m h)) w)) (second m e))
                cases false h f = loosely m a.required ps x f

            right : (m : Member) → IsMember join nulls m → binds m needed is.props is.rest ≡ true → (hidden m || binds_member qs y m) ≡ true → binds m b.required qs y ≡ true
            right m q e f = cases (hidden m) refl f
              where
                cases : (t : Bool) → hidden m ≡ t → (t || binds_member qs y m) ≡ true → binds m b.required qs y ≡ true
                cases true h f = passed m b.required qs y (passed_right m (and-1 (is_passed_over needed m) _ h))
                    (hidden_right m q.0 h ns o is (or-1 (forgets_rest needed ps qs y) _ (wide_says (nulls_hold m q (absent_here m h)) w)) (second m e))
                cases false h f = loosely m b.required qs y f

      pub both_meet : Meets ProperNamed (c && (Say Left && Say Right)) (λ o. c && Say o) (noted absent (noted [] (mapped (λ o. o) Inner)))
      both_meet = go Inner strict made
        where
          go : (o : Outcome Named) → Meets ProperNamed (c && (Strict Left && Strict Right)) (λ o. c && Strict o) o → Answers IsMade o → Meets ProperNamed (c && (Say Left && Say Right)) (λ o. c && Say o) (noted absent (noted [] (mapped (λ o. o) o)))
          go (fault f) s is = tt
          go (never ns) s is = λ h t. s (no_way-2 narrowed absent ns h) (to_strict (no_way-1 narrowed absent ns h) t)
          go (answer ns o) s is = (
            s.0,
            λ h t. subst (λ u. (c && Say u) ≡ true) (sym is.is) (holds ns o is (no_way-2 narrowed absent ns h) t
                (subst (λ u. (c && Strict u) ≡ true) is.is (s.1 (no_way-2 narrowed absent ns h) (to_strict (no_way-1 narrowed absent ns h) t)))),
            λ h t. let u = subst (λ u. (c && Say u) ≡ true) is.is t in
                sides ns o is (no_way-1 widened absent ns h) u (s.2 (no_way-2 widened absent ns h) (subst (λ u. (c && Strict u) ≡ true) (sym is.is) (result_strict ns o is u))),
          )

-- ---- the keywords of members of both sides

module _ (join : Schema → Schema → Outcome Schema) (always : (a b : Schema) → IsProper a → IsProper b → Always IsProper (join a b))
    (nulls : Bool) (js : List Member) (each : Each (IsMember join nulls) js)
    (r : Relations) (name : List ℕ → Judge) (c object_type : Bool) (rules_say : MemberRules → Bool)
    (joined_say : (a b : MemberRules) → rules_say (joined_members a b) ≡ (rules_say a && rules_say b))
    (crossed_say : (a : MemberRules) → c ≡ true → object_type ≡ true → sizes_cross a.min_properties a.max_properties ≡ true → rules_say a ≡ true → ⊥)
    (there : (a : MemberRules) (n : List ℕ) → c ≡ true → object_type ≡ true → rules_say a ≡ true → is_name n a.required ≡ true → list_any (λ m. bytes_eq m.name n) js ≡ true)
  where
    abbrev Say' : Named → Bool
    Say' = named_say js r name rules_say

    abbrev Of : Named → Named → Bool
    Of ns os = c && (Say' ns && Say' os)

    abbrev Made : Properties → MaybeSchema → MemberRules → Properties → MaybeSchema → MemberRules → Outcome Named
    Made ps x a qs y b = Inner join ps x qs y nulls object_type a b

    always_made : (ps : Properties) (x : MaybeSchema) (a : MemberRules) (qs : Properties) (y : MaybeSchema) (b : MemberRules) → ProperProperties ps → ProperMaybe x → ProperProperties qs → ProperMaybe y → Always ProperNamed (Made ps x a qs y b)
    always_made ps x a qs y b p px q py = always_inner join ps x qs y nulls object_type a b always p px q py js each r name c rules_say joined_say crossed_say there

    proper_kept : (os : Named) → ProperNamed os → ProperNamed (kept_named os)
    proper_kept no_named h = h
    proper_kept (named no_properties no_properties no_schema no_schema d) h = go (no_member_rules d)
      where
        go : (b : Bool) → ProperNamed (if b then no_named else named no_properties no_properties no_schema no_schema d)
        go true = tt
        go false = h
    proper_kept (named no_properties no_properties no_schema (the_schema s) d) h = h
    proper_kept (named no_properties no_properties (the_schema s) xn d) h = h
    proper_kept (named no_properties (property n s pp) x xn d) h = h
    proper_kept (named (property n s ps) pp x xn d) h = h

    always-kept : (o : Outcome Named) → Always ProperNamed o → Always ProperNamed (mapped (kept_if true) o)
    always-kept (fault f) h = tt
    always-kept (never ns) h = tt
    always-kept (answer ns a) h = proper_kept a h

    -- a pattern or names on one side
    patterned : (ns os : Named) (notes : List Note) (ps : Properties) (x : MaybeSchema) (a : MemberRules) (qs : Properties) (y : MaybeSchema) (b : MemberRules) → ProperProperties ps → ProperMaybe x → ProperProperties qs → ProperMaybe y
        → Meets ProperNamed (Of ns os) (λ o. c && Say' o) (noted notes (noted (both_ways of_names) (mapped (kept_if true) (Made ps x a qs y b))))
    patterned ns os notes ps x a qs y b p px q py = meets-noted ProperNamed (Of ns os) (λ o. c && Say' o) notes (noted (both_ways of_names) (mapped (kept_if true) (Made ps x a qs y b)))
        (meets-both_ways ProperNamed (Of ns os) (λ o. c && Say' o) of_names (mapped (kept_if true) (Made ps x a qs y b))
        (always-kept (Made ps x a qs y b) (always_made ps x a qs y b p px q py)))

    pub two_named_meet : (ns os : Named) → ProperNamed ns → ProperNamed os → Meets ProperNamed (Of ns os) (λ o. c && Say' o) (two_named join nulls object_type ns os)
    two_named_meet no_named os p q = meets-exactly ProperNamed _ (λ o. c && Say' o) [] os q refl
    two_named_meet (named ps pp x xn a) no_named p q = meets-exactly ProperNamed _ (λ o. c && Say' o) [] (named ps pp x xn a) p (ap (λ t. c && t) (sym (and-true _)))
    two_named_meet (named ps no_properties x no_schema a) (named qs no_properties y no_schema b) p q =
        both_meet join ps x qs y nulls object_type a b always p.0 p.2 q.0 q.2 js each r name c rules_say joined_say crossed_say there
    two_named_meet (named ps no_properties x no_schema a) (named qs qq y yn b) p q = patterned (named ps no_properties x no_schema a) (named qs qq y yn b) (note_if nulls (absent_notes ps x a qs y b)) ps x a qs y b p.0 p.2 q.0 q.2
    two_named_meet (named ps pp x xn a) (named qs qq y yn b) p q = patterned (named ps pp x xn a) (named qs qq y yn b) (note_if nulls (absent_notes ps x a qs y b)) ps x a qs y b p.0 p.2 q.0 q.2
