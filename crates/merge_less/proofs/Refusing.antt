-- How many subschemas stand, and what is refused.
use Rattle.std.proofs.Common.{◌≡◌, ℕ, ◌+◌, List, Bool, true, false, ◌&&◌, ◌||◌, not, nat_le, nat_eq, Option, Some, None, option_map, Box, Vec, Global, is_some, refl, sym, ap, ◌∙◌, subst}
use Rattle.std.specs.Prelude.{Result, Ok, Err, if◌then◌else◌}
use Rattle.schema_defs.specs.Counts.{is_list, is_schema, one_if}
use Rattle.schema_defs.specs.Schema.{Same, no_same, same_value, no_schema, the_schema, no_list, the_list}
use Rattle.schema_types.specs.View.{maybe_list_view, maybe_view, object_view, same_of, subschemas_view}
use Rattle.schema_types.specs.declared.schema.Schema as tree
use Rattle.schema_types.specs.declared.schema.SchemaObject.{SchemaObject, out-SchemaObject}
use Rattle.schema_types.specs.declared.schema.Subschemas.{Subschemas, out-Subschemas}
use Rattle.merge_defs.specs.Outcome.{Note, Outcome, fault, noted, conditional, subtracting, unsupported}
use Rattle.merge_defs.specs.Less.{is_conditional, is_one_subschema, subschema_count}
use Rattle.schema_sameness.specs.Parts.{same_in, one_in}
use Rattle.merge_walked.proofs.Objects.{object_seen}
use Rattle.merge_walked.proofs.Subschemas.{subschemas_seen}
use Rattle.merge_parts.specs.declared.fault.UnsupportedMerge.TheVariants.{Conditional, Subtracting}
use Rattle.merge_parts.specs.declared.fault.MergeFault.TheVariants.{Unsupported}
use Rattle.merge_steps.specs.declared.stop.Stop.{Stop}
use Rattle.merge_steps.specs.declared.stop.Stop.TheVariants.{Fault}
use Rattle.merge_steps.specs.Ends.{Goes}
use Rattle.merge_less.specs.Rows.{refusing}

-- ---- how many stand

list_there : (o : Option (Vec tree.Schema Global)) → is_some o ≡ is_list (maybe_list_view (option_map (λ v. v.items) o))
list_there None = refl
list_there (Some v) = refl

schema_there : (o : Option (Box tree.Schema Global)) → is_some o ≡ is_schema (maybe_view o)
schema_there None = refl
schema_there (Some b) = refl

pub counted : (s : Subschemas) (a b c d n : ℕ) → a ≡ one_if (is_some (out-Subschemas s).all_of) → b ≡ one_if (is_some (out-Subschemas s).any_of) → c ≡ one_if (is_some (out-Subschemas s).one_of)
    → d ≡ one_if (is_some (out-Subschemas s).not) → n ≡ a + b + c + d → n ≡ subschema_count (subschemas_view s)
counted s a b c d n ea eb ec ed en =
    let x = out-Subschemas s in
    en ∙ (λ i. ea i + eb i + ec i + ed i)
    ∙ (λ i. one_if (list_there x.all_of i) + one_if (list_there x.any_of i) + one_if (list_there x.one_of i) + one_if (schema_there x.not i))
    ∙ ap subschema_count (sym (subschemas_seen s))

-- where one stands, it is one of anyOf, not and allOf unless it is oneOf
pub one_alone : (s : Same) (n : ℕ) (b r : Bool) → n ≡ subschema_count s → b ≡ is_list (one_in s) → r ≡ (nat_eq n 1 && not b) → r ≡ is_one_subschema s
one_alone s n b r en eb er = er ∙ (λ i. nat_eq (en i) 1 && not (eb i)) ∙ by_cases s
  where
    by_cases : (s : Same) → (nat_eq (subschema_count s) 1 && not (is_list (one_in s))) ≡ is_one_subschema s
    by_cases no_same = refl
    by_cases (same_value no_list no_list no_list no_schema c) = refl
    by_cases (same_value no_list no_list no_list (the_schema s) c) = refl
    by_cases (same_value no_list no_list (the_list ss) no_schema c) = refl
    by_cases (same_value no_list no_list (the_list ss) (the_schema s) c) = refl
    by_cases (same_value no_list (the_list ss) no_list no_schema c) = refl
    by_cases (same_value no_list (the_list ss) no_list (the_schema s) c) = refl
    by_cases (same_value no_list (the_list ss) (the_list ts) no_schema c) = refl
    by_cases (same_value no_list (the_list ss) (the_list ts) (the_schema s) c) = refl
    by_cases (same_value (the_list rs) no_list no_list no_schema c) = refl
    by_cases (same_value (the_list rs) no_list no_list (the_schema s) c) = refl
    by_cases (same_value (the_list rs) no_list (the_list ss) no_schema c) = refl
    by_cases (same_value (the_list rs) no_list (the_list ss) (the_schema s) c) = refl
    by_cases (same_value (the_list rs) (the_list ss) no_list no_schema c) = refl
    by_cases (same_value (the_list rs) (the_list ss) no_list (the_schema s) c) = refl
    by_cases (same_value (the_list rs) (the_list ss) (the_list ts) no_schema c) = refl
    by_cases (same_value (the_list rs) (the_list ss) (the_list ts) (the_schema s) c) = refl

-- ---- what is refused

abbrev tested : {A : Type 0} → Bool → Bool → Outcome A → Outcome A
tested c b o = if c then fault (unsupported conditional) else if b then fault (unsupported subtracting) else o

module _ {X A : Type 0} {v : X → Outcome A} (s t : Same) (o : Outcome A) (ns : List Note) where
  pub conditional_goes : (e : Stop) → e ≡ Fault (Unsupported Conditional) → (is_conditional s || is_conditional t) ≡ true → Goes v ns ns (refusing s t o) (Err e)
  conditional_goes e is h =
      let P : Stop → Type 0 = λ f. Goes v ns ns (refusing s t o) (Err f) in
      subst P (sym is) (record { told = ap (noted ns) (ap (λ c. tested c (nat_le 2 (subschema_count t)) o) h) })

  pub two_go : (e : Stop) → e ≡ Fault (Unsupported Subtracting) → (is_conditional s || is_conditional t) ≡ false → nat_le 2 (subschema_count t) ≡ true → Goes v ns ns (refusing s t o) (Err e)
  two_go e is h k =
      let P : Stop → Type 0 = λ f. Goes v ns ns (refusing s t o) (Err f) in
      subst P (sym is) (record { told = ap (noted ns) (λ i. tested (h i) (k i) o) })

  pub none_goes : (x : X) → v x ≡ o → (is_conditional s || is_conditional t) ≡ false → nat_le 2 (subschema_count t) ≡ false → Goes v ns ns (refusing s t o) (Ok x)
  none_goes x e h k = record { told = ap (noted ns) ((λ i. tested (h i) (k i) o) ∙ sym e) }

-- of two objects of the program
same_seen : (o : SchemaObject) → same_in (object_view o) ≡ same_of (option_map subschemas_view (out-SchemaObject o).subschemas)
same_seen o = ap same_in (object_seen o)

pub refuses_in : {X A : Type 0} {v : X → Outcome A} (a b : SchemaObject) (o : Outcome A) (ns : List Note) (x : Result X Stop)
    → Goes v ns ns (refusing (same_of (option_map subschemas_view (out-SchemaObject a).subschemas)) (same_of (option_map subschemas_view (out-SchemaObject b).subschemas)) o) x
    → Goes v ns ns (refusing (same_in (object_view a)) (same_in (object_view b)) o) x
refuses_in {X} {A} {v} a b o ns x g = subst (λ t. t) (λ i. Goes v ns ns (refusing (sym (same_seen a) i) (sym (same_seen b) i) o) x) g
