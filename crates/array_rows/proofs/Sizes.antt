-- Sizes of lists, and keywords of lists taken part by part.
use Rattle.std.proofs.Common.{◌≡◌, ◌≢◌, ◌-◌, ◌+◌, ◌<◌, ◌≤◌, ℕ, zero, suc, List, [], ◌∷◌, ◌++◌, append_assoc, append-nil, Bool, true, false, ◌&&◌, not, Option, Some, None, map, length, refl, sym, ap, ◌∙◌, arith}
use Rattle.std.specs.Prelude.{if◌then◌else◌, nat_eq, codes}
use Rattle.std.proofs.lemmas.Bool.Decides.{nat_tests}
use Rattle.std.proofs.lemmas.List.{map-append}
use Rattle.schema_defs.specs.Location.{place}
use Rattle.schema_defs.specs.Schema as defs
use Rattle.schema_defs.specs.Schema.{Lists, no_lists, lists, schemas, no_more, schema}
use Rattle.schema_types.specs.View.{schema_view, schemas_view}
use Rattle.schema_types.specs.declared.schema.Schema.{Schema}
use Rattle.convert_defs.specs.Row.{child}
use Rattle.convert_defs.specs.Owners.{one_size, above_zero, fixed_size, array_finding, sized_finding, listed_parts, listed_places, unlisted}
use Rattle.row_findings.specs.declared.part.Part.{Part}
use Rattle.row_findings.specs.View.{part_view}
use Rattle.array_rows.specs.Parts.{rules_in, places_in, rest_in, contains_in}

pub parts_seen : (ls : Lists) → array_finding ls ≡ sized_finding (places_in ls) (rest_in ls) (contains_in ls) (rules_in ls) (fixed_size (rules_in ls) (contains_in ls))
parts_seen no_lists = refl
parts_seen (lists places rest contains rules) = refl

not_none : (n : ℕ) → false ≡ nat_eq (suc n) 0
not_none n = grind (arith, nat_tests)

pub one_size_some : (n m : ℕ) → one_size (Some n) (Some m) ≡ (if not (nat_eq n 0) && nat_eq n m then Some n else None)
one_size_some zero m = refl
one_size_some (suc n) m = λ i. if not (not_none n i) && nat_eq (suc n) m then Some (suc n) else None

pub one_size_none : (n : ℕ) → one_size (Some n) None ≡ None
one_size_none zero = refl
one_size_none (suc n) = refl

pub above_zero_some : (n : ℕ) → above_zero (Some n) ≡ not (nat_eq n 0)
above_zero_some zero = refl
above_zero_some (suc n) = λ i. not (not_none n i)

pub listed_counted : (ss : List Schema) → listed_places (schemas (schemas_view ss)) ≡ length ss
listed_counted [] = refl
listed_counted (s ∷ ss) = ap suc (listed_counted ss)

pub listed_none : (i n : ℕ) (ss : defs.Schemas) → n ≡ 0 → listed_parts i n ss ≡ []
listed_none i n ss h = ap (λ m. listed_parts i m ss) h

pub listed_end : (i n : ℕ) → listed_parts i n no_more ≡ []
listed_end i zero = refl
listed_end i (suc n) = refl

next : (i : ℕ) → suc i ≡ i + 1
next i = omega arith

one_less : (n : ℕ) → n ≡ suc n - 1
one_less n = omega arith

pub listed_step : (i n : ℕ) (s : defs.Schema) (ss : defs.Schemas) → n ≢ 0 → listed_parts i n (schema s ss) ≡ child (codes "items" ∷ place i ∷ []) s ∷ listed_parts (i + 1) (n - 1) ss
listed_step i zero s ss h = absurd (h refl)
listed_step i (suc n) s ss h = λ j. child (codes "items" ∷ place i ∷ []) s ∷ listed_parts (next i j) (one_less n j) ss

less_none : (n : ℕ) → n ≡ n - 0
less_none n = omega arith

none_less : (n : ℕ) → 0 ≡ 0 - n
none_less n = omega arith

both_less : (n k : ℕ) → n - k ≡ suc n - suc k
both_less n k = omega arith

pub unlisted_less : (n : ℕ) (ss : List Schema) → unlisted n (schemas (schemas_view ss)) ≡ n - length ss
unlisted_less n [] = less_none n
unlisted_less zero (s ∷ ss) = none_less (length (s ∷ ss))
unlisted_less (suc n) (s ∷ ss) = unlisted_less n ss ∙ both_less n (length ss)

-- a loop over the listed schemas: one more, and none
pub listed_more : (i n : ℕ) (s : Schema) (left rest : List Schema) (ps qs : List Part) (p : Part) → n ≢ 0 → left ≡ s ∷ rest → qs ≡ ps ++ p ∷ [] → part_view p ≡ child (codes "items" ∷ place i ∷ []) (schema_view s)
    → map part_view ps ++ listed_parts i n (schemas (schemas_view left)) ≡ map part_view qs ++ listed_parts (i + 1) (n - 1) (schemas (schemas_view rest))
listed_more i n s left rest ps qs p h l e v =
    ap (λ ss. map part_view ps ++ listed_parts i n (schemas (schemas_view ss))) l
    ∙ ap (λ xs. map part_view ps ++ xs) (listed_step i n (schema_view s) (schemas (schemas_view rest)) h)
    ∙ sym (append_assoc (map part_view ps) (child (codes "items" ∷ place i ∷ []) (schema_view s) ∷ []) (listed_parts (i + 1) (n - 1) (schemas (schemas_view rest))))
    ∙ ap (λ xs. xs ++ listed_parts (i + 1) (n - 1) (schemas (schemas_view rest))) (sym (ap (map part_view) e ∙ map-append part_view ps (p ∷ []) ∙ ap (λ x. map part_view ps ++ x ∷ []) v))

pub counted_more : (i m : ℕ) (s : Schema) (left rest : List Schema) → left ≡ s ∷ rest → i + length left ≡ m → i + 1 + length rest ≡ m
counted_more i m s left rest l h = let e : length left ≡ suc (length rest) = ap length l in omega arith

no_more_than_none : (n : ℕ) → suc n ≡ 0 → ⊥
no_more_than_none n h = omega arith

pub listed_done : (i n : ℕ) (left : List Schema) (ps : List Part) → length left ≡ 0 → map part_view ps ++ listed_parts i n (schemas (schemas_view left)) ≡ map part_view ps
listed_done i n [] ps h = ap (λ xs. map part_view ps ++ xs) (listed_end i n) ∙ append-nil (map part_view ps)
listed_done i n (s ∷ ss) ps h = absurd (no_more_than_none (length ss) h)
