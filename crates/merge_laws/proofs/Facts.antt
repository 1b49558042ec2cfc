-- What sizes and required names say of a value, as merging needs it.
use Rattle.std.proofs.Common.{◌≡◌, ℕ, ◌≤◌, List, [], ◌∷◌, length, Bool, true, false, ◌&&◌, ◌||◌, not, Option, Some, None, refl, ap, sym, ◌∙◌, subst, bytes_eq, arith}
use Rattle.std.specs.Prelude.{nat_le}
use Rattle.std.specs.List.{list_any, list_all}
use Rattle.std.proofs.lemmas.Bool.{le-leb, leb-true}
use Rattle.std.proofs.Math.Dec.{leb-zero}
use Rattle.std.proofs.lemmas.Slice.Eq.{bytes_eq-Decides}
use Rattle.json_value.specs.Value as value
use Rattle.json_value.specs.Value.{Value, Items, Members, null, number, fraction, text, list, item_count, member_count, has_name}
use Rattle.schema_defs.specs.Schema.{ListRules, MemberRules}
use Rattle.schema_defs.specs.Layer.{Judge, Parts, if_given, within, list_rules_agree, member_rules_agree, all_distinct}
use Rattle.enum_defs.specs.Words.{is_name}
use Rattle.merge_defs.specs.Alike.{is_absent}
use Rattle.merge_defs.specs.Leaves.{sizes_cross}
use Rattle.merge_defs.specs.Arrays.{joined_rules, no_list_rules}
use Rattle.merge_defs.specs.Objects.{joined_members, all_names}
use Rattle.merge_laws.proofs.Steps.{no_no, and-1, and-2, and-in}
use Rattle.merge_laws.proofs.Leaves.{same_bools}
use Rattle.merge_laws.proofs.Sizes.{within_both, crossed, either_says, and-pairs}
use Rattle.merge_laws.proofs.Objects.{Member, named_all}
use Rattle.merge_laws.proofs.Arrays.{sized}

none : {A : Type 0} (o : Option A) → is_absent o ≡ true → o ≡ None
none None h = refl
none (Some x) h = no_no h

-- ---- by the kind of value

abbrev pub item_judges_of : Value → Parts → List Judge
item_judges_of (list xs) parts = parts.items
item_judges_of _ parts = []

abbrev pub member_judges_of : Value → Parts → List Member
member_judges_of (value.object ms) parts = parts.members
member_judges_of _ parts = []

abbrev pub list_rules_say : Value → ListRules → Bool
list_rules_say (list xs) c = list_rules_agree xs c
list_rules_say _ c = true

abbrev pub member_rules_say : Value → MemberRules → Bool
member_rules_say (value.object ms) c = member_rules_agree ms c
member_rules_say _ c = true

abbrev pub is_list : Value → Bool
is_list (list xs) = true
is_list _ = false

abbrev pub is_object : Value → Bool
is_object (value.object ms) = true
is_object _ = false

-- the judges are as many as the items, and have the members' names
abbrev pub Coherent : Value → Parts → Type 0
Coherent (list xs) parts = length parts.items ≡ item_count xs
Coherent (value.object ms) parts = (n : List ℕ) → has_name n ms ≡ true → list_any (λ m. bytes_eq m.name n) parts.members ≡ true
Coherent _ parts = Unit {0}

pub record ListFacts (js : List Judge) (say : ListRules → Bool) (c array : Bool) : Type 0 where
  pub joined_say : (a b : ListRules) → say (joined_rules a b) ≡ (say a && say b)
  pub crossed_say : (a : ListRules) → c ≡ true → array ≡ true → sizes_cross a.min_items a.max_items ≡ true → say a ≡ true → ⊥
  pub most : (a : ListRules) (n : ℕ) → say a ≡ true → a.max_items ≡ Some n → length js ≤ n
  pub least : (a : ListRules) (n : ℕ) → c ≡ true → array ≡ true → say a ≡ true → a.min_items ≡ Some n → n ≤ length js
  pub limited : (a : ListRules) (k : ℕ) → ((m : ℕ) → a.max_items ≡ Some m → k ≤ m) → say (sized a (Some k)) ≡ (say a && nat_le (length js) k)
  pub silent : (a : ListRules) → no_list_rules a ≡ true → say a ≡ true

pub record MemberFacts (js : List Member) (say : MemberRules → Bool) (c object_type : Bool) : Type 0 where
  pub joined_say : (a b : MemberRules) → say (joined_members a b) ≡ (say a && say b)
  pub crossed_say : (a : MemberRules) → c ≡ true → object_type ≡ true → sizes_cross a.min_properties a.max_properties ≡ true → say a ≡ true → ⊥
  pub there : (a : MemberRules) (n : List ℕ) → c ≡ true → object_type ≡ true → say a ≡ true → is_name n a.required ≡ true → list_any (λ m. bytes_eq m.name n) js ≡ true

-- where the value is of another kind nothing is said
other_list : (c array : Bool) → (c ≡ true → array ≡ true → ⊥) → ListFacts [] (λ a. true) c array
other_list c array none = record {
  joined_say = λ a b. refl;
  crossed_say = λ a d t h s. none d t;
  most = λ a n s h. omega arith;
  least = λ a n d t s h. absurd (none d t);
  limited = λ a k h. sym (leb-zero k);
  silent = λ a h. refl;
}

other_members : (c object_type : Bool) → (c ≡ true → object_type ≡ true → ⊥) → MemberFacts [] (λ a. true) c object_type
other_members c object_type none = record {
  joined_say = λ a b. refl;
  crossed_say = λ a d t h s. none d t;
  there = λ a n d t s h. absurd (none d t);
}

module _ (xs : Items) (js : List Judge) (counted : length js ≡ item_count xs) (c array : Bool) where
  distinct_joined : (u w : Bool) → (not (u || w) || all_distinct xs) ≡ ((not u || all_distinct xs) && (not w || all_distinct xs))
  distinct_joined true true = twice (all_distinct xs)
    where
      twice : (b : Bool) → b ≡ (b && b)
      twice true = refl
      twice false = refl
  distinct_joined true false = right (all_distinct xs)
    where
      right : (b : Bool) → b ≡ (b && true)
      right true = refl
      right false = refl
  distinct_joined false w = refl

  limit : (l m : Option ℕ) (n k : ℕ) (u : Bool) → ((i : ℕ) → m ≡ Some i → k ≤ i) → (within l (Some k) n && u) ≡ ((within l m n && u) && nat_le n k)
  limit l m n k u h = same_bools _ _
      (λ t. let a = and-1 (within l (Some k) n) u t in
      let p = and-2 (if_given (λ i. nat_le i n) l) _ a in
      and-in _ _ (and-in _ u (and-in _ _ (and-1 (if_given (λ i. nat_le i n) l) _ a) (loose m h p)) (and-2 (within l (Some k) n) u t)) p)
      (λ t. let a = and-1 (within l m n && u) _ t in
      and-in _ u (and-in _ _ (and-1 (if_given (λ i. nat_le i n) l) _ (and-1 (within l m n) u a)) (and-2 (within l m n && u) _ t)) (and-2 (within l m n) u a))
    where
      loose : (m : Option ℕ) → ((i : ℕ) → m ≡ Some i → k ≤ i) → nat_le n k ≡ true → if_given (λ i. nat_le n i) m ≡ true
      loose None h p = refl
      loose (Some i) h p = let a = leb-true n k p in let b = h i refl in le-leb n i (omega (arith, a, b))

  list_facts_here : ListFacts js (list_rules_agree xs) c array
  list_facts_here = record {
    joined_say = λ a b. (λ i. within_both (item_count xs) a.min_items b.min_items a.max_items b.max_items i && either_says (λ u. not u || all_distinct xs) ◌||◌ distinct_joined a.unique_items b.unique_items i)
        ∙ and-pairs (within a.min_items a.max_items (item_count xs)) _ _ _;
    crossed_say = λ a d t h s. crossed a.min_items a.max_items (item_count xs) h (and-1 (within a.min_items a.max_items (item_count xs)) _ s);
    most = λ a n s h.
        let p = and-2 (if_given (λ i. nat_le i (item_count xs)) a.min_items) _ (and-1 (within a.min_items a.max_items (item_count xs)) _ s) in
        let q = leb-true (item_count xs) n (subst (λ o. if_given (λ i. nat_le (item_count xs) i) o ≡ true) h p) in
        omega (arith, counted, q);
    least = λ a n d t s h.
        let p = and-1 (if_given (λ i. nat_le i (item_count xs)) a.min_items) _ (and-1 (within a.min_items a.max_items (item_count xs)) _ s) in
        let q = leb-true n (item_count xs) (subst (λ o. if_given (λ i. nat_le i (item_count xs)) o ≡ true) h p) in
        omega (arith, counted, q);
    limited = λ a k h. limit a.min_items a.max_items (item_count xs) k (if_given (λ u. not u || all_distinct xs) a.unique_items) h ∙ ap (λ n. list_rules_agree xs a && nat_le n k) (sym counted);
    silent = λ a h. λ i. within (none a.min_items (and-1 (is_absent a.min_items) _ (and-2 (is_absent a.max_items) _ h)) i) (none a.max_items (and-1 (is_absent a.max_items) _ h) i) (item_count xs)
        && if_given (λ u. not u || all_distinct xs) (none a.unique_items (and-2 (is_absent a.min_items) _ (and-2 (is_absent a.max_items) _ h)) i);
  }

pub all_named : (f : List ℕ → Bool) (ns : List (List ℕ)) → list_all f ns ≡ true → (k : List ℕ) → is_name k ns ≡ true → f k ≡ true
all_named f [] h k t = no_no t
all_named f (n ∷ ns) h k t = cases (bytes_eq k n) refl t (all_named f ns (and-2 (f n) _ h) k)
  where
    cases : (b : Bool) → bytes_eq k n ≡ b → (b || is_name k ns) ≡ true → (is_name k ns ≡ true → f k ≡ true) → f k ≡ true
    cases true e t g = subst (λ x. f x ≡ true) (sym ((bytes_eq-Decides k n).0 e)) (and-1 (f n) _ h)
    cases false e t g = g t

named_all_back : (f : List ℕ → Bool) (ns : List (List ℕ)) → ((k : List ℕ) → is_name k ns ≡ true → f k ≡ true) → list_all f ns ≡ true
named_all_back f [] h = refl
named_all_back f (n ∷ ns) h = and-in (f n) _ (h n (ap (λ b. b || is_name n ns) ((bytes_eq-Decides n n).1 refl))) (named_all_back f ns (λ k t. h k (or-right (bytes_eq k n) t)))
  where
    or-right : {b : Bool} (a : Bool) → b ≡ true → (a || b) ≡ true
    or-right true h = refl
    or-right false h = h

all_of_names : (f : List ℕ → Bool) (ns ms : List (List ℕ)) → list_all f (all_names ns ms) ≡ (list_all f ns && list_all f ms)
all_of_names f ns ms = same_bools _ _
    (λ h. and-in _ _ (named_all_back f ns (λ k t. all_named f (all_names ns ms) h k (named_all k ns ms ∙ ap (λ b. b || is_name k ms) t)))
    (named_all_back f ms (λ k t. all_named f (all_names ns ms) h k (named_all k ns ms ∙ or-right (is_name k ns) t))))
    (λ h. named_all_back f (all_names ns ms) (λ k t. either_named k (is_name k ns) refl (sym (named_all k ns ms) ∙ t) h))
  where
    or-right : {b : Bool} (a : Bool) → b ≡ true → (a || b) ≡ true
    or-right true h = refl
    or-right false h = h

    either_named : (k : List ℕ) (b : Bool) → is_name k ns ≡ b → (b || is_name k ms) ≡ true → (list_all f ns && list_all f ms) ≡ true → f k ≡ true
    either_named k true e t h = all_named f ns (and-1 (list_all f ns) _ h) k e
    either_named k false e t h = all_named f ms (and-2 (list_all f ns) _ h) k t

member_facts_here : (ms : Members) (js : List Member) → ((n : List ℕ) → has_name n ms ≡ true → list_any (λ m. bytes_eq m.name n) js ≡ true) → (c object_type : Bool) → MemberFacts js (member_rules_agree ms) c object_type
member_facts_here ms js named c object_type = record {
  joined_say = λ a b. (λ i. within_both (member_count ms) a.min_properties b.min_properties a.max_properties b.max_properties i && all_of_names (λ n. has_name n ms) a.required b.required i)
      ∙ and-pairs (within a.min_properties a.max_properties (member_count ms)) _ _ _;
  crossed_say = λ a d t h s. crossed a.min_properties a.max_properties (member_count ms) h (and-1 (within a.min_properties a.max_properties (member_count ms)) _ s);
  there = λ a n d t s h. named n (all_named (λ n. has_name n ms) a.required (and-2 (within a.min_properties a.max_properties (member_count ms)) _ s) n h);
}

pub list_facts : (v : Value) (parts : Parts) → Coherent v parts → (c array : Bool) → (c ≡ true → array ≡ true → is_list v ≡ true) → ListFacts (item_judges_of v parts) (list_rules_say v) c array
list_facts (list xs) parts h c array k = list_facts_here xs parts.items h c array
list_facts _ parts h c array k = other_list c array (λ d t. no_no (k d t))

pub member_facts : (v : Value) (parts : Parts) → Coherent v parts → (c object_type : Bool) → (c ≡ true → object_type ≡ true → is_object v ≡ true) → MemberFacts (member_judges_of v parts) (member_rules_say v) c object_type
member_facts (value.object ms) parts h c t k = member_facts_here ms parts.members h c t
member_facts _ parts h c t k = other_members c t (λ d e. no_no (k d e))
