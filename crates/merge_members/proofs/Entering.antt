-- Entries, one after another.
use Rattle.std.proofs.Common.{◌≡◌, ℕ, List, [], ◌∷◌, ◌++◌, Bool, map, String, Global, string_bytes, refl, sym, ap, ◌∙◌, subst}
use Rattle.std.specs.Prelude.{Result, IfOk, if◌then◌else◌}
use Rattle.schema_defs.specs.Schema.{Schema, MaybeSchema, Properties, no_properties}
use Rattle.schema_defs.specs.Layer.{property_at}
use Rattle.enum_defs.specs.Words.{is_name}
use Rattle.merge_defs.specs.Outcome.{Outcome, and_then, answer, less_than, of_absent}
use Rattle.merge_defs.specs.Objects.{properties_of, put_property, schema_of_both, unsaid_at}
use Rattle.merge_members.specs.declared.plan.Bound.{Bound}
use Rattle.merge_members.specs.declared.plan.Entry.{Entry}
use Rattle.merge_members.specs.Plans.{bound_outcome, entry_then, entries_then}

-- ---- one name

pub bound_so : {E : Type 0} (r : Result Bound E) (m m' n n' x y : MaybeSchema) → m ≡ m' → n ≡ n'
    → IfOk r (λ b. (join : Schema → Schema → Outcome Schema) → bound_outcome join b ≡ schema_of_both join m x n y)
    → IfOk r (λ b. (join : Schema → Schema → Outcome Schema) → bound_outcome join b ≡ schema_of_both join m' x n' y)
bound_so {E} r m m' n n' x y e h k = subst (λ t. t) (λ i. IfOk r (λ b. (join : Schema → Schema → Outcome Schema) → bound_outcome join b ≡ schema_of_both join (e i) x (h i) y)) k

pub entered : (object_type closed : Bool) (o p : Outcome Schema) (needed needed' unsaid unsaid' : Bool) (n m : List ℕ) (after : Outcome Properties)
    → o ≡ p → needed ≡ needed' → unsaid ≡ unsaid' → n ≡ m
    → and_then o (λ s. put_property object_type needed closed (if unsaid then less_than of_absent ∷ [] else []) n s after)
    ≡ and_then p (λ s. put_property object_type needed' closed (if unsaid' then less_than of_absent ∷ [] else []) m s after)
entered object_type closed o p needed needed' unsaid unsaid' n m after e f g h = λ i. and_then (e i) (λ s. put_property object_type (f i) closed (if g i then less_than of_absent ∷ [] else []) (h i) s after)

-- ---- all names

pub entered_last : (join : Schema → Schema → Outcome Schema) (object_type closed : Bool) (es : List Entry) (e : Entry) (after : Outcome Properties)
    → entries_then join object_type closed (es ++ e ∷ []) after ≡ entries_then join object_type closed es (entry_then join object_type closed e after)
entered_last join object_type closed [] e after = refl
entered_last join object_type closed (x ∷ es) e after = ap (entry_then join object_type closed x) (entered_last join object_type closed es e after)

module _ (join : Schema → Schema → Outcome Schema) (ps : Properties) (x : MaybeSchema) (qs : Properties) (y : MaybeSchema) (nulls object_type closed : Bool) (needed : List (List ℕ)) (whole : Outcome Properties) where
  abbrev all : List (List ℕ) → Outcome Properties
  all ns = properties_of join ps x qs y nulls object_type closed needed ns

  abbrev step : List ℕ → Outcome Properties → Outcome Properties
  step n after = and_then (schema_of_both join (property_at n ps) x (property_at n qs) y) (λ s. put_property object_type (is_name n needed) closed (unsaid_at nulls ps x qs y n) n s after)

  pub one_more : (old new : List Entry) (e : Entry) (n : List ℕ) (k : String Global) (left rest : List (String Global)) → new ≡ old ++ e ∷ [] → n ≡ string_bytes k → left ≡ k ∷ rest
      → ((after : Outcome Properties) → entry_then join object_type closed e after ≡ step n after)
      → entries_then join object_type closed old (all (map string_bytes left)) ≡ whole → entries_then join object_type closed new (all (map string_bytes rest)) ≡ whole
  one_more old new e n k left rest h t s one was =
      ap (λ es. entries_then join object_type closed es (all (map string_bytes rest))) h ∙ entered_last join object_type closed old e (all (map string_bytes rest))
      ∙ ap (entries_then join object_type closed old) (one (all (map string_bytes rest)) ∙ ap (λ m. step m (all (map string_bytes rest))) t)
      ∙ ap (λ ks. entries_then join object_type closed old (all (map string_bytes ks))) (sym s) ∙ was

  pub none_more : (es : List Entry) (left : List (String Global)) → left ≡ [] → entries_then join object_type closed es (all (map string_bytes left)) ≡ whole
      → entries_then join object_type closed es (answer [] no_properties) ≡ whole
  none_more es left h was = ap (λ ks. entries_then join object_type closed es (all (map string_bytes ks))) (sym h) ∙ was
