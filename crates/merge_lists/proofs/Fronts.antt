-- What is made of a merge of items.
use Rattle.std.proofs.Common.{◌≡◌, ℕ, zero, suc, List, [], ◌∷◌, ◌++◌, Bool, true, false, take, length, append-nil, refl, sym, ap, ◌∙◌, subst}
use Rattle.std.specs.Prelude.{Some, Result, Ok, Err, nat_le, if◌then◌else◌}
use Rattle.schema_defs.specs.Schema as defs
use Rattle.schema_defs.specs.Schema.{ListRules, Schema, Lists, MaybeSchema, no_schema, Schemas, no_more, schema, schemas, by_place}
use Rattle.schema_types.specs.declared.schema.Schema as tree
use Rattle.schema_types.specs.View.{schema_view, schemas_view}
use Rattle.merge_defs.specs.Outcome.{Note, Outcome, never, answer, noted, mapped, never_unless, less_than, of_clash}
use Rattle.merge_defs.specs.Arrays.{Front, cut_to, first_schemas, placed, schema_count, two_places}
use Rattle.merge_steps.specs.declared.stop.Stop.{Stop}
use Rattle.merge_steps.specs.declared.stop.Stop.TheVariants.{Never}
use Rattle.merge_steps.specs.Ends.{Ends, Goes}
use Rattle.merge_lists.specs.declared.plan.ListPlan.{ListPlan}
use Rattle.merge_lists.specs.Plans.{list_outcome}

-- ---- a front list

counted : (ss : List tree.Schema) → schema_count (schemas (schemas_view ss)) ≡ length ss
counted [] = refl
counted (s ∷ ss) = ap suc (counted ss)

pub so_many : (b : Bool) (n : ℕ) (ss : List tree.Schema) → b ≡ nat_le n (length ss) → b ≡ nat_le n (schema_count (schemas (schemas_view ss)))
so_many b n ss h = h ∙ ap (nat_le n) (sym (counted ss))

fronted : (n : ℕ) (ss : List tree.Schema) → schemas (schemas_view (take n ss)) ≡ first_schemas n (schemas (schemas_view ss))
fronted zero ss = refl
fronted (suc n) [] = refl
fronted (suc n) (s ∷ ss) = ap (schema (schema_view s)) (fronted n ss)

pub cut : (p : defs.Places) (n : ℕ) (old new : List tree.Schema) → p ≡ by_place (schemas (schemas_view new)) → new ≡ take n old → p ≡ by_place (first_schemas n (schemas (schemas_view old)))
cut p n old new h e = h ∙ ap (λ ss. by_place (schemas (schemas_view ss))) e ∙ ap by_place (fronted n old)

-- a list is cut, or has fewer
module _ (g : Front → Lists) (n : ℕ) (ss : Schemas) (rest : MaybeSchema) where
  pub cut_by : (b : Bool) → b ≡ nat_le n (schema_count ss)
      → g (if b then record { places = by_place (first_schemas n ss); rest = no_schema; max_items = Some n } else record { places = by_place ss; rest = rest; max_items = Some n }) ≡ g (cut_to (Some n) ss rest)
  cut_by b e = ap (λ c. g (if c then record { places = by_place (first_schemas n ss); rest = no_schema; max_items = Some n } else record { places = by_place ss; rest = rest; max_items = Some n })) e

-- ---- a plan

-- the plan stands for the outcome
pub planned : (join : Schema → Schema → Outcome Schema) (ns : List Note) (p : ListPlan) (o : Outcome Lists) → list_outcome join p ≡ o → Goes (list_outcome join) ns ns o (Ok p)
planned join ns p o e = record { told = ap (noted ns) (sym e) }

-- beside one schema for each item no list is left
pub beside_one : (join : Schema → Schema → Outcome Schema) (ns : List Note) (g : Front → Lists) (array : Bool) (c : ListRules) (ss : Schemas) (r : Result ListPlan Stop) (others : List tree.Schema) (x x' y y' : Schema) → others ≡ [] → x ≡ x' → y ≡ y'
    → Goes (list_outcome join) ns ns (mapped g (placed join array c false ss x (schemas (schemas_view others)) y)) r → Goes (list_outcome join) ns ns (mapped g (placed join array c false ss x' no_more y')) r
beside_one join ns g array c ss r others x x' y y' e h f k = subst (λ t. t) (λ i. Goes (list_outcome join) ns ns (mapped g (placed join array c false ss (h i) (schemas (schemas_view (e i))) (f i))) r) k

-- what binds the rest of both lists is seen as something equal
pub beside_list : (join : Schema → Schema → Outcome Schema) (ns : List Note) (g : Front → Lists) (array : Bool) (c : ListRules) (ss ts : Schemas) (r : Result ListPlan Stop) (x x' y y' : Schema) → x ≡ x' → y ≡ y'
    → Goes (list_outcome join) ns ns (mapped g (placed join array c true ss x ts y)) r → Goes (list_outcome join) ns ns (mapped g (placed join array c true ss x' ts y')) r
beside_list join ns g array c ss ts r x x' y y' e h k = subst (λ t. t) (λ i. Goes (list_outcome join) ns ns (mapped g (placed join array c true ss (e i) ts (h i))) r) k

-- items are seen as something equal
pub at_items : (join : Schema → Schema → Outcome Schema) (ns : List Note) (g : Front → Lists) (array : Bool) (c : ListRules) (p q p' q' : defs.Places) (x y : MaybeSchema) (r : Result ListPlan Stop) → p ≡ p' → q ≡ q'
    → Goes (list_outcome join) ns ns (mapped g (two_places join array c p' x q' y)) r → Goes (list_outcome join) ns ns (mapped g (two_places join array c p x q y)) r
at_items join ns g array c p q p' q' x y r e h k = subst (λ t. t) (λ i. Goes (list_outcome join) ns ns (mapped g (two_places join array c (sym e i) x (sym h i) y)) r) k

-- never, unless something is noted
module _ {X : Type 0} (v : X → Lists) (g : Front → Lists) where
  pub never_front : (old new : List Note) (b : Bool) → new ≡ old ++ (if b then [] else less_than of_clash ∷ []) → Ends v old new (mapped g (noted [] (never_unless b of_clash))) (Err Never)
  never_front old new b e = record { told = ap never (sym e) }

  pub given_front : (ns : List Note) (x : X) (f : Front) → v x ≡ g f → Ends v ns ns (mapped g (answer [] f)) (Ok x)
  given_front ns x f e = record { told = ap (λ l. answer l (g f)) (append-nil ns) ∙ ap (answer ns) (sym e) }
