-- The negations of schemas, one after another.
use Rattle.std.proofs.Common.{◌≡◌, ℕ, ◌+◌, ◌<◌, ◌≤◌, List, [], ◌∷◌, ◌++◌, drop, length, get_or, append_assoc, refl, sym, ap, ◌∙◌}
use Rattle.schema_defs.specs.Schema as defs
use Rattle.schema_types.specs.View.{schema_view, schemas_view}
use Rattle.schema_types.specs.declared.schema.Schema.{Schema}
use Rattle.merge_defs.specs.Members.{negation, negations, all_of, joint}
use Rattle.merge_parts.proofs.Loops.{step, last}

abbrev negated : defs.Schema → List defs.Schema
negated s = negation s ∷ []

pub negation_step : (xs : List Schema) (i : ℕ) (x : Schema) (old new w : List defs.Schema) → i < length xs → x ≡ get_or xs i x → new ≡ old ++ negation (schema_view x) ∷ []
    → old ++ negations (schemas_view (drop i xs)) ≡ w → new ++ negations (schemas_view (drop (i + 1) xs)) ≡ w
negation_step = step schema_view negated negations refl (λ y ys. refl)

pub negation_last : (xs : List Schema) (i : ℕ) (old w : List defs.Schema) → length xs ≤ i → old ++ negations (schemas_view (drop i xs)) ≡ w → old ≡ w
negation_last = last schema_view negated negations refl (λ y ys. refl)

negations_both : (xs ys : List defs.Schema) → negations (xs ++ ys) ≡ negations xs ++ negations ys
negations_both [] ys = refl
negations_both (x ∷ xs) ys = ap (λ zs. negation x ∷ zs) (negations_both xs ys)

-- those before and those after
pub pushed_both : (old mid new xs ys : List defs.Schema) → mid ≡ old ++ negations xs → new ≡ mid ++ negations ys → new ≡ old ++ negations (xs ++ ys)
pushed_both old mid new xs ys e h = h ∙ ap (λ zs. zs ++ negations ys) e ∙ append_assoc old (negations xs) (negations ys) ∙ ap (λ zs. old ++ zs) (sym (negations_both xs ys))

-- behind the body and the member
pub jointly : (b m s : defs.Schema) (two all others : List defs.Schema) → two ≡ b ∷ m ∷ [] → all ≡ two ++ negations others → s ≡ all_of all → s ≡ joint b m others
jointly b m s two all others e h k = k ∙ ap all_of (h ∙ ap (λ zs. zs ++ negations others) e)
