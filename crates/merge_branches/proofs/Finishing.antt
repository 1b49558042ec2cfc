-- What is made of the members that are left.
use Rattle.std.proofs.Common.{◌≡◌, ℕ, ◌+◌, ◌<◌, ◌≤◌, List, [], ◌∷◌, ◌++◌, Some, None, length, refl, sym, ap, ◌∙◌, arith, ◌||◌}
use Rattle.std.specs.Prelude.{Option, option_map, option_to_list, Bool, Result, MatchOption}
use Rattle.std.proofs.lemmas.List.{length_push}
use Rattle.schema_defs.specs.Schema as defs
use Rattle.schema_types.specs.View.{schema_view, schemas_view}
use Rattle.schema_types.specs.declared.schema.Schema.{Schema}
use Rattle.merge_defs.specs.Outcome.{Note, Outcome, answer, noted, note_if, less_than, more_than, of_members}
use Rattle.merge_defs.specs.Members.{Kept, any_of, one_of, gathered, left_schemas, any_narrows, one_narrows, one_mixes, one_forgets, finish_any, finish_one}
use Rattle.merge_parts.specs.Steps.{Quietly}
use Rattle.merge_parts.proofs.Steps.{quiet}
use Rattle.merge_steps.specs.declared.stop.Stop.{Stop}
use Rattle.merge_steps.specs.Ends.{Ends, answered_of}
use Rattle.merge_steps.proofs.Leading.{writes, led}
use Rattle.merge_steps.proofs.Ending.{answered_ends}

-- an answer, or never, as the answer of a step
pub quiet_ends : {X A : Type 0} {v : X → A} {ns : List Note} {o : Outcome A} (f : Option X) (r : Result X Stop) → r ≡ answered_of f → Quietly o (option_map v f) → Ends v ns ns o r
quiet_ends {X} {A} {v} {ns} {o} f r e q = answered_ends f r e (quiet ns o (option_map v f) q)

module _ (all : List defs.Schema → defs.Schema) where
  -- several
  pub of_several : (xs : List Schema) (s : defs.Schema) → 1 < length xs → s ≡ all (schemas_view xs) → Quietly (gathered all (schemas_view xs)) (Some s)
  of_several [] s h e = absurd (omega arith)
  of_several (x ∷ []) s h e = absurd (omega arith)
  of_several (x ∷ y ∷ xs) s h e = record { told = (λ i. answer [] (sym e i)) }

  -- one at most
  pub of_one : (xs left : List Schema) (last : Option Schema) (n m : ℕ) → n ≡ length xs → length xs ≤ 1 → xs ≡ left ++ option_to_list last → MatchOption last ((n ≡ 0) × (m ≡ 0)) (λ x. m + 1 ≡ n) → Quietly (gathered all (schemas_view xs)) (option_map schema_view last)
  of_one [] left None n m en h e c = record { told = refl }
  of_one (x ∷ xs) left None n m en h e c = absurd (omega (arith, en, c.0))
  of_one [] [] (Some y) n m en h e c = absurd (omega (arith, ap length e))
  of_one [] (z ∷ left) (Some y) n m en h e c = absurd (omega (arith, ap length e))
  of_one (x ∷ []) [] (Some y) n m en h e c = let same : y ≡ x = cc in record { told = (λ i. answer [] (schema_view (sym same i))) }
  of_one (x ∷ []) (z ∷ left) (Some y) n m en h e c = absurd (omega (arith, ap length e, length_push left y))
  of_one (x ∷ z ∷ xs) left (Some y) n m en h e c = absurd (omega arith)

-- ---- what is noted before

pub finishes_any : (old mid : List Note) (b apart : Bool) (k : Kept) (r : Result Schema Stop) → b ≡ any_narrows apart k → mid ≡ old ++ note_if b (less_than of_members ∷ [])
    → Ends schema_view mid mid (gathered any_of (left_schemas k.members)) r → Ends schema_view old mid (finish_any apart k) r
finishes_any old mid b apart k r hb hm e =
    let left = gathered any_of (left_schemas k.members) in
    led (writes (note_if (any_narrows apart k) (less_than of_members ∷ [])) left (hm ∙ ap (λ c. old ++ note_if c (less_than of_members ∷ [])) hb)) e

pub finishes_one : (old mid new : List Note) (b c apart : Bool) (k : Kept) (r : Result Schema Stop) → b ≡ one_narrows k → mid ≡ old ++ note_if b (less_than of_members ∷ [])
    → c ≡ (one_mixes apart k || one_forgets apart k) → new ≡ mid ++ note_if c (more_than of_members ∷ [])
    → Ends schema_view new new (gathered one_of (left_schemas k.members)) r → Ends schema_view old new (finish_one apart k) r
finishes_one old mid new b c apart k r hb hm hc hn e =
    let left = gathered one_of (left_schemas k.members) in
    let wide = note_if (one_mixes apart k || one_forgets apart k) (more_than of_members ∷ []) in
    led (writes (note_if (one_narrows k) (less_than of_members ∷ [])) (noted wide left) (hm ∙ ap (λ d. old ++ note_if d (less_than of_members ∷ [])) hb))
    (led (writes wide left (hn ∙ ap (λ d. mid ++ note_if d (more_than of_members ∷ [])) hc)) e)
