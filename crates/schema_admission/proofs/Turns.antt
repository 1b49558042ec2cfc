-- One step of each loop.
use Rattle.std.proofs.Common.{◌≡◌, ℕ, zero, suc, ◌+◌, ◌<◌, ◌≤◌, List, [], ◌∷◌, length, drop, get_or, Bool, true, false, ◌&&◌, ◌||◌, refl, sym, ap, ◌∙◌, arith}
use Rattle.std.specs.Prelude.{◌==◌, nat_lt, if◌then◌else◌}
use Rattle.std.specs.List.{list_all, list_any}
use Rattle.std.proofs.lemmas.List.{drop_more, drop_all}
use Rattle.std.proofs.lemmas.Bool.Decides.{nat_tests}
use Rattle.serde_json.specs.View.{items_view}
use Rattle.serde_json.specs.declared.value.Value.{Value as Json}
use Rattle.json_value.specs.Value.{Value, Items, item, no_items, item_count}
use Rattle.json_value.specs.View.{items_of, kept_view}
use Rattle.schema_defs.specs.Schema.{Schema, Schemas, no_more, schema, schemas, the_list, the_schema, Document, MaybeSchema}
use Rattle.schema_defs.specs.Counts.{schemas_nodes, maybe_nodes}
use Rattle.schema_defs.specs.Texts.{Relations}
use Rattle.schema_defs.specs.Layer.{Judge, Parts, judge, by_places, maybe, judge_all, judge_count, judge_any}
use Rattle.schema_defs.specs.Admits.{admits, item_judges, parts_of, follows}
use Rattle.schema_types.specs.View.{schema_view, schemas_view}
use Rattle.schema_types.specs.declared.schema.Schema as tree
use Rattle.schema_admission.specs.Judging.{count_agrees, list_agrees, admitting_count, admitted_count, place_schema, places_from}
use Rattle.schema_admission.specs.declared.wanted.Wanted.{Wanted}
use Rattle.schema_admission.specs.declared.wanted.Wanted.TheVariants.{All, Any, One}

pub schemas_turn : (xs ss : List tree.Schema) (i : ℕ) (s : tree.Schema) → xs ≡ ss → i < length xs → s ≡ get_or xs i s → schemas (schemas_view (drop i ss)) ≡ schema (schema_view s) (schemas (schemas_view (drop (i + 1) ss)))
schemas_turn xs ss i s e h is =
    ap (λ ys. schemas (schemas_view (drop i ys))) (sym e) ∙ ap (λ ys. schemas (schemas_view ys)) (drop_more xs i s h ∙ ap (λ z. z ∷ drop (i + 1) xs) (sym is)) ∙ ap (λ ys. schema (schema_view s) (schemas (schemas_view (drop (i + 1) ys)))) e

pub items_turn : (ws vs : List Json) (i : ℕ) (v : Json) → ws ≡ vs → i < length ws → v ≡ get_or ws i v → items_of (items_view (drop i vs)) ≡ item (kept_view v) (items_of (items_view (drop (i + 1) vs)))
items_turn ws vs i v e h is =
    ap (λ ys. items_of (items_view (drop i ys))) (sym e) ∙ ap (λ ys. items_of (items_view ys)) (drop_more ws i v h ∙ ap (λ z. z ∷ drop (i + 1) ws) (sym is)) ∙ ap (λ ys. item (kept_view v) (items_of (items_view (drop (i + 1) ys)))) e

pub schemas_end : (ss : List tree.Schema) (i : ℕ) → length ss ≤ i → schemas (schemas_view (drop i ss)) ≡ no_more
schemas_end ss i h = ap (λ xs. schemas (schemas_view xs)) (drop_all i ss h)

pub items_end : (vs : List Json) (i : ℕ) → length vs ≤ i → items_of (items_view (drop i vs)) ≡ no_items
items_end vs i h = ap (λ xs. items_of (items_view xs)) (drop_all i vs h)

pub finished : (n m w : ℕ) → m ≡ 0 → n + m ≡ w → n ≡ w
finished n m w e h = omega (arith, e, h)

-- one more that is counted or not
pub count_step : (b : Bool) (n m k w : ℕ) → k ≡ (if b then suc n else n) → n + (if b then suc m else m) ≡ w → k + m ≡ w
count_step true n m k w e h = omega (arith, e, h)
count_step false n m k w e h = omega (arith, e, h)

pub count_within : (b : Bool) (n k i : ℕ) → k ≡ (if b then suc n else n) → n ≤ i → k ≤ i + 1
count_within true n k i e h = omega (arith, e, h)
count_within false n k i e h = omega (arith, e, h)

within_one : (b : Bool) (c n : ℕ) → c ≤ n → (if b then suc c else c) ≤ suc n
within_one true c n h = omega (arith, h)
within_one false c n h = omega (arith, h)

all_counted : (b : Bool) (c n : ℕ) (a : Bool) → c ≤ n → a ≡ (c == n) → (b && a) ≡ ((if b then suc c else c) == suc n)
all_counted true c n a h e = e ∙ grind (arith, nat_tests)
all_counted false c n a h e = grind (arith, nat_tests)

any_counted : (b : Bool) (c : ℕ) (a : Bool) → a ≡ nat_lt 0 c → (b || a) ≡ nat_lt 0 (if b then suc c else c)
any_counted true c a e = grind (arith, nat_tests)
any_counted false c a e = e

module _ (r : Relations) (v : Value) (parts : Parts) (f : List ℕ → Bool) where
  abbrev says : Schema → Bool
  says = judge r v parts f

  count_le : (ss : List Schema) → judge_count r v parts f (schemas ss) ≤ length ss
  count_le [] = omega arith
  count_le (s ∷ ss) = within_one (says s) _ _ (count_le ss)

  all_is_count : (ss : List Schema) → judge_all r v parts f (schemas ss) ≡ (judge_count r v parts f (schemas ss) == length ss)
  all_is_count [] = refl
  all_is_count (s ∷ ss) = all_counted (says s) _ _ _ (count_le ss) (all_is_count ss)

  any_is_count : (ss : List Schema) → judge_any r v parts f (schemas ss) ≡ nat_lt 0 (judge_count r v parts f (schemas ss))
  any_is_count [] = refl
  any_is_count (s ∷ ss) = any_counted (says s) _ _ (any_is_count ss)

view_length : (ss : List tree.Schema) → length (schemas_view ss) ≡ length ss
view_length [] = refl
view_length (s ∷ ss) = ap suc (view_length ss)

-- what the count of the schemas that admit the value says is what the list says
pub enough : (r : Relations) (d : Document) (w : Wanted) (n : ℕ) (v : Value) (ss : List tree.Schema) (c m : ℕ)
    → c ≡ admitting_count r d n v (schemas (schemas_view ss)) → m ≡ length ss → count_agrees w c m ≡ list_agrees r d w n v (the_list (schemas (schemas_view ss)))
enough r d All n v ss c m e h = (λ i. e i == (h ∙ sym (view_length ss)) i) ∙ sym (all_is_count r v (parts_of r d v) (follows r d v (parts_of r d v) n) (schemas_view ss))
enough r d Any n v ss c m e h = ap (nat_lt 0) e ∙ sym (any_is_count r v (parts_of r d v) (follows r d v (parts_of r d v) n) (schemas_view ss))
enough r d One n v ss c m e h = ap (λ k. k == 1) e

-- each item, and some item
module _ (r : Relations) (d : Document) (s : Schema) where
  admitted_le : (vs : Items) → admitted_count r d s vs ≤ item_count vs
  admitted_le no_items = omega arith
  admitted_le (item v vs) = within_one (admits r d v s) _ _ (admitted_le vs)

  pub each_is_count : (vs : Items) → list_all (λ j. j s) (item_judges r d vs) ≡ (admitted_count r d s vs == item_count vs)
  each_is_count no_items = refl
  each_is_count (item v vs) = all_counted (admits r d v s) _ _ _ (admitted_le vs) (each_is_count vs)

  pub some_is_count : (vs : Items) → list_any (λ j. j s) (item_judges r d vs) ≡ nat_lt 0 (admitted_count r d s vs)
  some_is_count no_items = refl
  some_is_count (item v vs) = any_counted (admits r d v s) _ _ (some_is_count vs)

-- binding by place, one place at a time
pub places_count : (js : List Judge) (s : Schema) (ss : Schemas) (rest : MaybeSchema) (n : ℕ) → places_from js (schema s ss) rest (suc n) ≡ places_from js ss rest n
places_count [] s ss rest n = refl
places_count (j ∷ js) s ss rest n = ap (λ b. maybe j (place_schema ss rest n) && b) (places_count js s ss rest (suc n))

places_rest : (js : List Judge) (rest : MaybeSchema) (n : ℕ) → by_places js no_more rest ≡ places_from js no_more rest n
places_rest [] rest n = refl
places_rest (j ∷ js) rest n = ap (λ b. maybe j rest && b) (places_rest js rest (suc n))

pub places_start : (js : List Judge) (ss : Schemas) (rest : MaybeSchema) → by_places js ss rest ≡ places_from js ss rest 0
places_start [] no_more rest = refl
places_start [] (schema s ss) rest = refl
places_start (j ∷ js) no_more rest = places_rest (j ∷ js) rest 0
places_start (j ∷ js) (schema s ss) rest = ap (λ b. j s && b) (places_start js ss rest ∙ sym (places_count js s ss rest 0))

pub place_small : (ss : Schemas) (rest : MaybeSchema) (n b : ℕ) → schemas_nodes ss ≤ b → maybe_nodes rest ≤ b → maybe_nodes (place_schema ss rest n) ≤ b
place_small no_more rest n b h k = k
place_small (schema s ss) rest zero b h k = omega (arith, h)
place_small (schema s ss) rest (suc n) b h k = place_small ss rest n b (omega (arith, h)) k

pub place_within : (ss : List tree.Schema) (rest : MaybeSchema) (n : ℕ) (s : tree.Schema) → n < length ss → s ≡ get_or ss n s → the_schema (schema_view s) ≡ place_schema (schemas (schemas_view ss)) rest n
place_within [] rest n s h e = absurd (omega (arith, h))
place_within (x ∷ ss) rest zero s h e = ap (λ y. the_schema (schema_view y)) e
place_within (x ∷ ss) rest (suc n) s h e = place_within ss rest n s (omega (arith, h)) e

pub place_past : (ss : List tree.Schema) (rest : MaybeSchema) (n : ℕ) → length ss ≤ n → place_schema (schemas (schemas_view ss)) rest n ≡ rest
place_past [] rest n h = refl
place_past (x ∷ ss) rest zero h = absurd (omega (arith, h))
place_past (x ∷ ss) rest (suc n) h = place_past ss rest n (omega (arith, h))
