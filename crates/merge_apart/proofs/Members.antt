-- The keywords of members of two sides, where properties and required names of the first stand aside.
use Rattle.std.proofs.Common.{◌≡◌, ℕ, List, [], ◌∷◌, Bool, true, false, not, refl, sym, ap, ◌∙◌, true≢false}
use Rattle.std.specs.Prelude.{bytes_eq, if◌then◌else◌}
use Rattle.std.specs.List.{list_any}
use Rattle.std.proofs.lemmas.Bool.{false≢true}
use Rattle.schema_defs.specs.Schema.{MemberRules, Schema, boolean, object, Named, named, MaybeSchema, no_schema, the_schema, Properties, no_properties, property}
use Rattle.schema_defs.specs.Layer.{property_at, is_given}
use Rattle.enum_defs.specs.Words.{is_name, names_of}
use Rattle.merge_defs.specs.Outcome.{Outcome, fault, never, answer, noted, and_then, mapped, never_unless, of_clash}
use Rattle.merge_defs.specs.Leaves.{sizes_cross}
use Rattle.merge_defs.specs.Objects.{put_before, put_names, all_names, is_false, no_rest, joined_members, two_member_rules, properties_of, kept_if, two_named}
use Rattle.merge_steps.proofs.Leading.{mapped_twice}
use Rattle.merge_apart.specs.Aside.{Aside, with_members, put_at, put_all, is_settled, are_settled, is_each_once, stands_aside}
use Rattle.merge_apart.proofs.PutNames.{name_puts, put_goes, put_outside}
use Rattle.merge_apart.proofs.Placing.{or_none, or_not, and_both, apart_turned, names_rise, none_among, neither_of, all_outside, given_is_name, nothing_at, at_other, names_placed}
use Rattle.merge_apart.proofs.Walked.{walked, placed_walked, needed_walked}

-- ---- names that don't stand aside

-- what is settled isn't `false`
settled_so : (s : Schema) → is_settled s ≡ true → is_false s ≡ false
settled_so (boolean b) h = ap not h
settled_so (object p ss ls ns) h = refl

given_here : (b : Bool) (s : Schema) (m : MaybeSchema) → is_given (if b then the_schema s else m) ≡ false → (b ≡ false) × (is_given m ≡ false)
given_here true s m h = absurd (true≢false h)
given_here false s m h = (refl, h)

-- names that are none of some properties are not the first, and none of the others
apart_first : (n : List ℕ) (s : Schema) (bs : Properties) (ns : List (List ℕ)) → list_any (λ m. is_given (property_at m (property n s bs))) ns ≡ false
    → (is_name n ns ≡ false) × (list_any (λ m. is_given (property_at m bs)) ns ≡ false)
apart_first n s bs [] h = (refl, refl)
apart_first n s bs (m ∷ ms) h =
    let both = or_none (is_given (property_at m (property n s bs))) (list_any (λ m. is_given (property_at m (property n s bs))) ms) h in
    let here = given_here (bytes_eq m n) s (property_at m bs) both.0 in
    let later = apart_first n s bs ms both.1 in
    (or_not (bytes_eq n m) (is_name n ms) (apart_turned m n here.0) later.0, or_not (is_given (property_at m bs)) (list_any (λ m. is_given (property_at m bs)) ms) here.1 later.1)

not_true : (b : Bool) → not b ≡ true → b ≡ false
not_true true h = absurd (false≢true h)
not_true false h = refl

-- a name that neither has is none of both
still_absent : (n : List ℕ) (bs ps : Properties) → is_given (property_at n bs) ≡ false → is_given (property_at n ps) ≡ false → is_given (property_at n (put_all bs ps)) ≡ false
still_absent n no_properties ps h k = k
still_absent n (property m t bs) ps h k =
    let both = given_here (bytes_eq n m) t (property_at n bs) h in
    ap is_given (at_other n m t (put_all bs ps) both.0) ∙ still_absent n bs ps both.1 k

-- ---- the properties

module _ (join : Schema → Schema → Outcome Schema) (x : MaybeSchema) (qs : Properties) (object_type closed : Bool) (needed : List (List ℕ)) where
  all_walked : (bs ps : Properties) → are_settled bs ≡ true → is_each_once bs ≡ true
      → list_any (λ m. is_given (property_at m bs)) (names_of ps) ≡ false → list_any (λ m. is_given (property_at m bs)) (names_of qs) ≡ false
      → walked join x qs object_type closed needed (put_all bs ps) (all_names (names_of (put_all bs ps)) (names_of qs))
      ≡ mapped (put_all bs) (walked join x qs object_type closed needed ps (all_names (names_of ps) (names_of qs)))
  all_walked no_properties ps f o h k = go (walked join x qs object_type closed needed ps (all_names (names_of ps) (names_of qs)))
    where
      go : (o : Outcome Properties) → o ≡ mapped (λ ps. ps) o
      go (fault e) = refl
      go (never ns) = refl
      go (answer ns a) = refl
  all_walked (property n s bs) ps f o h k =
      let settled = and_both (is_settled s) (are_settled bs) f in
      let once = and_both (not (is_given (property_at n bs))) (is_each_once bs) o in
      let left = apart_first n s bs (names_of ps) h in
      let right = apart_first n s bs (names_of qs) k in
      let more = put_all bs ps in
      let others = put_names (names_of qs) [] in
      let absent : is_name n (names_of more) ≡ false = sym (given_is_name n more) ∙ still_absent n bs ps (not_true (is_given (property_at n bs)) once.0) (given_is_name n ps ∙ left.0) in
      let beside : is_name n others ≡ false = name_puts n (names_of qs) [] ∙ or_not (is_name n (names_of qs)) false right.0 refl in
      let new : is_name n (put_names (names_of more) others) ≡ false = name_puts n (names_of more) others ∙ or_not (is_name n (names_of more)) (is_name n others) absent beside in
      let names : put_names (names_of (put_at n s more)) others ≡ put_before n (put_names (names_of more) others)
      = ap (λ ns. put_names ns others) (names_placed n s more absent ∙ sym (put_goes n (names_of more) absent)) ∙ put_outside n (names_of more) others ∙ put_goes n (put_names (names_of more) others) new in
      ap (walked join x qs object_type closed needed (put_at n s more)) names
      ∙ placed_walked join x qs object_type closed needed n s more (settled_so s settled.0) absent (nothing_at n qs right.0) (put_names (names_of more) others) new (names_rise (names_of more) others (names_rise (names_of qs) [] tt))
      ∙ ap (mapped (put_at n s)) (all_walked bs ps settled.1 once.1 left.1 right.1)
      ∙ mapped_twice (put_at n s) (put_all bs) (walked join x qs object_type closed needed ps (all_names (names_of ps) (names_of qs)))

-- ---- the rules

abbrev also_required : List (List ℕ) → MemberRules → MemberRules
also_required rs c = record c { required = put_names rs c.required }

rules_apart : (object_type : Bool) (rs : List (List ℕ)) (c d : MemberRules) → two_member_rules object_type (also_required rs c) d ≡ mapped (also_required rs) (two_member_rules object_type c d)
rules_apart object_type rs c d =
    ap (λ j. if sizes_cross (joined_members c d).min_properties (joined_members c d).max_properties then never_unless object_type of_clash else answer [] j) joined
    ∙ go (sizes_cross (joined_members c d).min_properties (joined_members c d).max_properties)
  where
    joined : joined_members (also_required rs c) d ≡ also_required rs (joined_members c d)
    joined = ap (λ ns. record (joined_members c d) { required = ns }) (all_outside rs c.required (put_names d.required []))

    go : (b : Bool) → ◌≡◌ {A = Outcome MemberRules} (if b then never_unless object_type of_clash else answer [] (also_required rs (joined_members c d))) (mapped (also_required rs) (if b then never_unless object_type of_clash else answer [] (joined_members c d)))
    go true = refl
    go false = refl

-- ---- all of it

parts_apart : (a : Aside) (x : MaybeSchema) (o : Outcome Properties) (r : Outcome MemberRules)
    → and_then (mapped (put_all a.properties) o) (λ props. mapped (λ rules. named props no_properties x no_schema rules) (mapped (also_required a.required) r))
    ≡ mapped (with_members a) (and_then o (λ props. mapped (λ rules. named props no_properties x no_schema rules) r))
parts_apart a x (fault e) r = refl
parts_apart a x (never ns) r = refl
parts_apart a x (answer ns ps) (fault e) = refl
parts_apart a x (answer ns ps) (never ms) = refl
parts_apart a x (answer ns ps) (answer ms c) = refl

-- what is noted of nothing, and kept
abbrev around : Outcome Named → Outcome Named
around o = noted [] (noted [] (mapped (kept_if false) (noted [] o)))

around_apart : (a : Aside) (o : Outcome Named) → around (mapped (with_members a) o) ≡ mapped (with_members a) (around o)
around_apart a (fault e) = refl
around_apart a (never ns) = refl
around_apart a (answer ns os) = refl

abbrev both_parts : (join : Schema → Schema → Outcome Schema) (object_type : Bool) (x : MaybeSchema) (ps : Properties) (c : MemberRules) (qs : Properties) (d : MemberRules) → Outcome Named
both_parts join object_type x ps c qs d =
    and_then (properties_of join ps x qs no_schema false object_type (no_rest x) (joined_members c d).required (all_names (names_of ps) (names_of qs)))
    (λ props. mapped (λ rules. named props no_properties x no_schema rules) (two_member_rules object_type c d))

both_apart : (join : Schema → Schema → Outcome Schema) (object_type : Bool) (a : Aside) (ps : Properties) (x : MaybeSchema) (c : MemberRules) (qs : Properties) (d : MemberRules)
    → are_settled a.properties ≡ true → is_each_once a.properties ≡ true
    → list_any (stands_aside a) (names_of ps) ≡ false → list_any (stands_aside a) (names_of qs) ≡ false
    → both_parts join object_type x (put_all a.properties ps) (also_required a.required c) qs d ≡ mapped (with_members a) (both_parts join object_type x ps c qs d)
both_apart join object_type a ps x c qs d settled once apart other =
    let left = neither_of (λ n. is_given (property_at n a.properties)) (λ n. is_name n a.required) (names_of ps) apart in
    let right = neither_of (λ n. is_given (property_at n a.properties)) (λ n. is_name n a.required) (names_of qs) other in
    let names = all_names (names_of ps) (names_of qs) in
    let needed = all_names c.required d.required in
    let unneeded = none_among (λ n. is_name n a.required) (names_of ps) (put_names (names_of qs) []) left.1 (none_among (λ n. is_name n a.required) (names_of qs) [] right.1 refl) in
    let walks = all_walked join x qs object_type (no_rest x) (put_names a.required needed) a.properties ps settled once left.0 right.0
    ∙ ap (mapped (put_all a.properties)) (needed_walked join x qs object_type (no_rest x) needed a.required ps names unneeded) in
    (λ i. and_then (properties_of join (put_all a.properties ps) x qs no_schema false object_type (no_rest x) (all_outside a.required c.required (put_names d.required []) i) (all_names (names_of (put_all a.properties ps)) (names_of qs)))
    (λ props. mapped (λ rules. named props no_properties x no_schema rules) (rules_apart object_type a.required c d i)))
    ∙ ap (λ o. and_then o (λ props. mapped (λ rules. named props no_properties x no_schema rules) (mapped (also_required a.required) (two_member_rules object_type c d)))) walks
    ∙ parts_apart a x (properties_of join ps x qs no_schema false object_type (no_rest x) needed names) (two_member_rules object_type c d)

pub members_apart : (join : Schema → Schema → Outcome Schema) (object_type : Bool) (a : Aside) (ps : Properties) (x : MaybeSchema) (c : MemberRules) (qs : Properties) (d : MemberRules)
    → are_settled a.properties ≡ true → is_each_once a.properties ≡ true
    → list_any (stands_aside a) (names_of ps) ≡ false → list_any (stands_aside a) (names_of qs) ≡ false
    → two_named join false object_type (named (put_all a.properties ps) no_properties x no_schema (record c { required = put_names a.required c.required })) (named qs no_properties no_schema no_schema d)
    ≡ mapped (with_members a) (two_named join false object_type (named ps no_properties x no_schema c) (named qs no_properties no_schema no_schema d))
members_apart join object_type a ps no_schema c qs d settled once apart other =
    ap around (both_apart join object_type a ps no_schema c qs d settled once apart other) ∙ around_apart a (both_parts join object_type no_schema ps c qs d)
members_apart join object_type a ps (the_schema s) c qs d settled once apart other =
    ap around (both_apart join object_type a ps (the_schema s) c qs d settled once apart other) ∙ around_apart a (both_parts join object_type (the_schema s) ps c qs d)
