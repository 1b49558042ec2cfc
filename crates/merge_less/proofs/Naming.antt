-- What is left of properties, name by name.
use Rattle.std.proofs.Common.{◌≡◌, ℕ, List, [], ◌∷◌, ◌++◌, Bool, true, false, ◌&&◌, map, String, Global, string_bytes, refl, sym, ap, ◌∙◌, subst}
use Rattle.std.specs.Prelude.{Result, IfOk, if◌then◌else◌}
use Rattle.schema_defs.specs.Schema.{Schema, boolean, MaybeSchema, no_schema, the_schema, MemberRules, Named, no_named, named, Properties, no_properties, property}
use Rattle.schema_defs.specs.Layer.{property_at}
use Rattle.schema_types.specs.View.{maybe_view, members_view, properties_view}
use Rattle.schema_types.specs.declared.schema.ObjectValidation.{ObjectValidation, out-ObjectValidation}
use Rattle.enum_defs.specs.Words.{is_name, names_of}
use Rattle.merge_defs.specs.Outcome.{Outcome, fault, never, answer, and_then, mapped, noted, or_else, never_unless, of_clash}
use Rattle.merge_defs.specs.Objects.{all_names, is_below, is_false, put_before, put_name, put_names, put_property}
use Rattle.merge_defs.specs.Less.{less_name, less_named, less_properties, unless_needed}
use Rattle.merge_leaves.proofs.Seen.{members_seen}
use Rattle.merge_steps.proofs.Leading.{after_after, after_mapped, mapped_after}
use Rattle.merge_members.specs.declared.plan.Bound.{Bound}
use Rattle.merge_members.specs.declared.plan.Entry.{Entry}
use Rattle.merge_members.specs.Plans.{bound_outcome, entry_then, entries_then}
use Rattle.merge_members.proofs.Entering.{entered_last}
use Rattle.merge_sides.proofs.Behinds.{then_same}
use Rattle.merge_less.specs.Names.{left_then, names_left}
use Rattle.merge_less.specs.Taking.{putting, with_new}

-- ---- one name

pub both_there : (less : Schema → Schema → Outcome Schema) (b : Bool) (s t : Schema) (o : Outcome Schema) → o ≡ or_else (boolean false) (less s t) → o ≡ less_name less b (the_schema s) (the_schema t)
both_there less true s t o e = e
both_there less false s t o e = e

pub none_there : (less : Schema → Schema → Outcome Schema) (b : Bool) (m : MaybeSchema) → answer [] (boolean false) ≡ less_name less b no_schema m
none_there less true no_schema = refl
none_there less true (the_schema t) = refl
none_there less false m = refl

pub bound_so : {E : Type 0} (r : Result Bound E) (b b' : Bool) (m m' n n' : MaybeSchema) → b ≡ b' → m ≡ m' → n ≡ n'
    → IfOk r (λ x. (less : Schema → Schema → Outcome Schema) → bound_outcome less x ≡ less_name less b m n)
    → IfOk r (λ x. (less : Schema → Schema → Outcome Schema) → bound_outcome less x ≡ less_name less b' m' n')
bound_so {E} r b b' m m' n n' d e h k = subst (λ t. t) (λ i. IfOk r (λ x. (less : Schema → Schema → Outcome Schema) → bound_outcome less x ≡ less_name less (d i) (e i) (h i))) k

pub entered : (o p : Outcome Schema) (needed needed' : Bool) (n m : List ℕ) (after : Outcome Properties) → o ≡ p → needed ≡ needed' → n ≡ m
    → and_then o (λ s. put_property true needed false [] n s after) ≡ and_then p (λ s. put_property true needed' false [] m s after)
entered o p needed needed' n m after e f h = λ i. and_then (e i) (λ s. put_property true (f i) false [] (h i) s after)

-- ---- all names

module _ (less : Schema → Schema → Outcome Schema) (ps qs : Properties) (required needed : List (List ℕ)) where
  abbrev left : List (List ℕ) → Outcome Properties
  left ns = names_left less ps qs required needed ns

  abbrev step : List ℕ → Outcome Properties → Outcome Properties
  step n after = left_then less ps qs required needed n after

  pub one_more : (whole : Outcome Properties) (old new : List Entry) (e : Entry) (n : List ℕ) (k : String Global) (ks rest : List (String Global)) → new ≡ old ++ e ∷ [] → n ≡ string_bytes k → ks ≡ k ∷ rest
      → ((after : Outcome Properties) → entry_then less true false e after ≡ step n after)
      → entries_then less true false old (left (map string_bytes ks)) ≡ whole → entries_then less true false new (left (map string_bytes rest)) ≡ whole
  one_more whole old new e n k ks rest h t s one was =
      ap (λ es. entries_then less true false es (left (map string_bytes rest))) h ∙ entered_last less true false old e (left (map string_bytes rest))
      ∙ ap (entries_then less true false old) (one (left (map string_bytes rest)) ∙ ap (λ m. step m (left (map string_bytes rest))) t)
      ∙ ap (λ l. entries_then less true false old (left (map string_bytes l))) (sym s) ∙ was

  pub none_more : (whole : Outcome Properties) (es : List Entry) (ks : List (String Global)) → ks ≡ [] → entries_then less true false es (left (map string_bytes ks)) ≡ whole
      → entries_then less true false es (answer [] no_properties) ≡ whole
  none_more whole es ks h was = ap (λ l. entries_then less true false es (left (map string_bytes l))) (sym h) ∙ was

-- ---- a required property that is false

-- the code's name for never without a note
abbrev no_more : {X : Type 0} → X → Outcome Properties
no_more x = never_unless true of_clash

module _ (less : Schema → Schema → Outcome Schema) (required : List (List ℕ)) where
  abbrev kept : Properties → Outcome Properties
  kept ps = unless_needed less required ps

  kept_then_never : (ps : Properties) → and_then (kept ps) no_more ≡ never []
  kept_then_never no_properties = refl
  kept_then_never (property n s ps) = by_test (is_false s && is_name n required) (after (kept ps) (kept_then_never ps))
    where
      after : (o : Outcome Properties) → and_then o no_more ≡ never [] → and_then (mapped (property n s) o) no_more ≡ never []
      after (fault f) e = e
      after (never ns) e = e
      after (answer ns qs) e = e

      by_test : (b : Bool) → and_then (mapped (property n s) (kept ps)) no_more ≡ never [] → and_then (if b then never [] else mapped (property n s) (kept ps)) no_more ≡ never []
      by_test true e = refl
      by_test false e = e

  -- one name, whose schema is s
  one_kept : (n : List ℕ) (s : Schema) (o : Outcome Properties) → put_property true (is_name n required) false [] n s (and_then o kept) ≡ and_then (mapped (property n s) o) kept
  one_kept n s o = by_tests (is_false s) (is_name n required) ∙ sym (after_mapped (property n s) o kept)
    where
      by_tests : (f c : Bool)
          → (if f && c then and_then (and_then o kept) no_more else if f && false then noted [] (and_then o kept) else mapped (property n s) (and_then o kept))
          ≡ and_then o (λ ps. if f && c then never [] else mapped (property n s) (kept ps))
      by_tests true true = after_after o kept no_more ∙ then_same o (λ ps. and_then (kept ps) no_more) (λ ps. never []) kept_then_never
      by_tests true false = mapped_after (property n s) o kept
      by_tests false c = mapped_after (property n s) o kept

  module _ (ps qs : Properties) (needed : List (List ℕ)) where
    abbrev at_name : List ℕ → Outcome Schema
    at_name n = less_name less (is_name n needed) (property_at n ps) (property_at n qs)

    abbrev all : List (List ℕ) → Outcome Properties
    all ns = less_properties less ps qs needed ns

    -- name by name is the same as one after another
    left_kept : (ns : List (List ℕ)) → names_left less ps qs required needed ns ≡ and_then (all ns) kept
    left_kept [] = refl
    left_kept (n ∷ ns) =
        ap (left_then less ps qs required needed n) (left_kept ns)
        ∙ then_same (at_name n) (λ s. put_property true (is_name n required) false [] n s (and_then (all ns) kept)) (λ s. and_then (mapped (property n s) (all ns)) kept) (λ s. one_kept n s (all ns))
        ∙ sym (after_after (at_name n) (λ s. mapped (property n s) (all ns)) kept)

    -- of a name there is a property, or nothing
    some_left : (F G : Properties → Named) → ((n : List ℕ) (s : Schema) (rs : Properties) → F (property n s rs) ≡ G (property n s rs)) → (n : List ℕ) (ns : List (List ℕ))
        → mapped F (names_left less ps qs required needed (n ∷ ns)) ≡ mapped G (names_left less ps qs required needed (n ∷ ns))
    some_left F G e n ns =
        mapped_after F (at_name n) put ∙ then_same (at_name n) (λ s. mapped F (put s)) (λ s. mapped G (put s)) (λ s. by_tests s (is_false s) (is_name n required)) ∙ sym (mapped_after G (at_name n) put)
      where
        after : Outcome Properties
        after = names_left less ps qs required needed ns

        put : Schema → Outcome Properties
        put s = put_property true (is_name n required) false [] n s after

        clash : (o : Outcome Properties) → mapped F (and_then o no_more) ≡ mapped G (and_then o no_more)
        clash (fault f) = refl
        clash (never ms) = refl
        clash (answer ms rs) = refl

        there : (s : Schema) (o : Outcome Properties) → mapped F (mapped (property n s) o) ≡ mapped G (mapped (property n s) o)
        there s (fault f) = refl
        there s (never ms) = refl
        there s (answer ms rs) = ap (answer ms) (e n s rs)

        by_tests : (s : Schema) (f c : Bool)
            → mapped F (if f && c then and_then after no_more else if f && false then noted [] after else mapped (property n s) after)
            ≡ mapped G (if f && c then and_then after no_more else if f && false then noted [] after else mapped (property n s) after)
        by_tests s true true = clash after
        by_tests s true false = there s after
        by_tests s false c = there s after

-- ---- both sides

put_name_some : (P : List (List ℕ) → Type 0) (n : List ℕ) (ms : List (List ℕ)) → ((k : List ℕ) (ks : List (List ℕ)) → P (k ∷ ks)) → P (put_name n ms)
put_name_some P n [] h = h n []
put_name_some P n (m ∷ ms) h = by_tests (is_name n (m ∷ ms)) (is_below n m)
  where
    by_tests : (b c : Bool) → P (if b then m ∷ ms else if c then n ∷ m ∷ ms else m ∷ put_before n ms)
    by_tests true c = h m ms
    by_tests false true = h n (m ∷ ms)
    by_tests false false = h m (put_before n ms)

-- members without a property keep none, others are named again
put_by_names : (less : Schema → Schema → Outcome Schema) (ps qs pp : Properties) (x xn : MaybeSchema) (c : MemberRules) (needed inner : List (List ℕ))
    → mapped (λ rs. putting rs (named ps pp x xn c)) (names_left less ps qs c.required needed (all_names (names_of ps) inner))
    ≡ mapped (λ rs. with_new rs (named ps pp x xn c)) (names_left less ps qs c.required needed (all_names (names_of ps) inner))
put_by_names less no_properties qs pp x xn c needed inner = same_mapped (names_left less no_properties qs c.required needed (put_names inner []))
  where
    same : (rs : Properties) → putting rs (named no_properties pp x xn c) ≡ with_new rs (named no_properties pp x xn c)
    same no_properties = refl
    same (property n s rs) = refl

    same_mapped : (o : Outcome Properties) → mapped (λ rs. putting rs (named no_properties pp x xn c)) o ≡ mapped (λ rs. with_new rs (named no_properties pp x xn c)) o
    same_mapped (fault f) = refl
    same_mapped (never ns) = refl
    same_mapped (answer ns rs) = ap (answer ns) (same rs)
put_by_names less (property m t ps) qs pp x xn c needed inner =
    let os = named (property m t ps) pp x xn c in
    let P : List (List ℕ) → Type 0 = λ ns. mapped (λ rs. putting rs os) (names_left less (property m t ps) qs c.required needed ns) ≡ mapped (λ rs. with_new rs os) (names_left less (property m t ps) qs c.required needed ns) in
    put_name_some P m (put_names (names_of ps) (put_names inner [])) (some_left less c.required (property m t ps) qs needed (λ rs. putting rs os) (λ rs. with_new rs os) (λ n s rs. refl))

abbrev props : ObjectValidation → Properties
props o = properties_view (out-ObjectValidation o).properties.entries

abbrev rules_of : ObjectValidation → MemberRules
rules_of o = record { max_properties = (out-ObjectValidation o).max_properties; min_properties = (out-ObjectValidation o).min_properties; required = map string_bytes (out-ObjectValidation o).required.keys }

abbrev parts_of : ObjectValidation → Named
parts_of o = named (props o) (properties_view (out-ObjectValidation o).pattern_properties.entries) (maybe_view (out-ObjectValidation o).additional_properties) (maybe_view (out-ObjectValidation o).property_names) (rules_of o)

pub both_left : (less : Schema → Schema → Outcome Schema) (o q : ObjectValidation) (inner names : List (List ℕ)) (e : Outcome Properties)
    → inner ≡ all_names (names_of (props q)) (rules_of q).required → names ≡ all_names (names_of (props o)) inner
    → e ≡ names_left less (props o) (props q) (rules_of o).required (rules_of q).required names
    → mapped (λ ps. putting ps (members_view o)) e ≡ less_named less (members_view o) (members_view q)
both_left less o q inner names e hi hn he =
    let all = all_names (names_of (props o)) (all_names (names_of (props q)) (rules_of q).required) in
    let left : e ≡ names_left less (props o) (props q) (rules_of o).required (rules_of q).required all =
    he ∙ ap (names_left less (props o) (props q) (rules_of o).required (rules_of q).required) (hn ∙ ap (all_names (names_of (props o))) hi) in
    (λ i. mapped (λ ps. putting ps (members_seen o i)) (left i))
    ∙ put_by_names less (props o) (props q) _ _ _ (rules_of o) (rules_of q).required (all_names (names_of (props q)) (rules_of q).required)
    ∙ ap (mapped (λ ps. with_new ps (parts_of o))) (left_kept less (rules_of o).required (props o) (props q) (rules_of q).required all)
    ∙ (λ i. less_named less (sym (members_seen o) i) (sym (members_seen q) i))

pub nothing_left : (less : Schema → Schema → Outcome Schema) (ns : Named) → answer [] ns ≡ less_named less ns no_named
nothing_left less no_named = refl
nothing_left less (named ps pp x xn c) = refl
