-- What loops gather, where each step may give nothing, and lists whose names differ.
use Rattle.std.proofs.Common.{◌≡◌, List, [], ◌∷◌, ◌++◌, map, Bool, true, false, Option, Some, None, option_map, option_and_then, refl, sym, ap, ◌∙◌}
use Rattle.std.specs.Prelude.{if◌then◌else◌}
use Rattle.json_value.specs.Value.{Value}
use Rattle.schema_defs.specs.Schema.{Schema}
use Rattle.enum_defs.specs.Words.{Name, as_text, all_differ, all_some}
use Rattle.enum_defs.specs.Shapes.{Case, text_case, listed_texts, all_cases, if_differ}
use Rattle.enum_shapes.specs.Here.{text_case_in}

-- what is gathered, with what is to come
abbrev pub gathered : {A B : Type 0} → (A → Option B) → List B → List A → Option (List B)
gathered f done xs = option_map (λ ys. done ++ ys) (all_some f xs)

-- the cases that were told, with those to come
abbrev pub cases_after : List Case → List Schema → Option (List Case)
cases_after done ss = option_map (λ cs. done ++ cs) (all_cases ss)

-- ---- names

mapped-twice : {A B C : Type 0} (f : A → B) (g : B → C) (xs : List A) → map g (map f xs) ≡ map (λ x. g (f x)) xs
mapped-twice f g [] = refl
mapped-twice f g (x ∷ xs) = ap (λ ys. g (f x) ∷ ys) (mapped-twice f g xs)

by-names : {A C V : Type 0} (cs : V) (items : V → List C) (v : C → A) (name : A → Name) (found : Option V) (o : Option (List A)) (b t : Bool)
    → found ≡ Some cs → option_map (λ x. map v (items x)) found ≡ o → b ≡ all_differ (map (λ c. name (v c)) (items cs)) → b ≡ t → (if t then Some (map v (items cs)) else None) ≡ option_and_then (if_differ name) o
by-names cs items v name found o b t s e d h =
    (λ i. if (sym h ∙ d ∙ sym (ap all_differ (mapped-twice v name (items cs)))) i then Some (map v (items cs)) else None)
    ∙ ap (option_and_then (if_differ name)) (ap (option_map (λ x. map v (items x))) (sym s) ∙ e)

-- a list whose names differ is told, and another isn't
pub do-differ : {A C V : Type 0} (cs : V) (items : V → List C) (v : C → A) (name : A → Name) (found : Option V) (o : Option (List A)) (b : Bool)
    → found ≡ Some cs → option_map (λ x. map v (items x)) found ≡ o → b ≡ all_differ (map (λ c. name (v c)) (items cs)) → b ≡ true → Some (map v (items cs)) ≡ option_and_then (if_differ name) o
do-differ cs items v name found o b s e d h = by-names cs items v name found o b true s e d h

pub do-not-differ : {A C V : Type 0} (cs : V) (items : V → List C) (v : C → A) (name : A → Name) (found : Option V) (o : Option (List A)) (b : Bool)
    → found ≡ Some cs → option_map (λ x. map v (items x)) found ≡ o → b ≡ all_differ (map (λ c. name (v c)) (items cs)) → b ≡ false → None ≡ option_and_then (if_differ name) o
do-not-differ cs items v name found o b s e d h = by-names cs items v name found o b false s e d h

-- and where a test that keeps it from being told is not met
pub unless : {A : Type 0} (b c : Bool) (x y : Option A) → b ≡ c → b ≡ false → x ≡ y → x ≡ (if c then None else y)
unless b c x y e h g = g ∙ (λ i. if (sym h ∙ e) i then None else y)

-- ---- texts

cases-of : (vs : List Value) → all_some text_case_in vs ≡ option_map (map text_case) (all_some as_text vs)
cases-of [] = refl
cases-of (v ∷ vs) = by (as_text v) (all_some as_text vs) (all_some text_case_in vs) (cases-of vs)
  where
    by : (o : Option Name) (p : Option (List Name)) (q : Option (List Case)) → q ≡ option_map (map text_case) p
        → option_and_then (λ y. option_map (λ ys. y ∷ ys) q) (option_map text_case o) ≡ option_map (map text_case) (option_and_then (λ y. option_map (λ ys. y ∷ ys) p) o)
    by None p q e = refl
    by (Some t) p q e = ap (option_map (λ ys. text_case t ∷ ys)) e ∙ swapped p
      where
        swapped : (p : Option (List Name)) → option_map (λ ys. text_case t ∷ ys) (option_map (map text_case) p) ≡ option_map (map text_case) (option_map (λ ys. t ∷ ys) p)
        swapped None = refl
        swapped (Some ts) = refl

one-text : (v : Value) → all_some as_text (v ∷ []) ≡ option_map (λ t. t ∷ []) (as_text v)
one-text v = by (as_text v)
  where
    by : (o : Option Name) → option_and_then (λ y. option_map (λ ys. y ∷ ys) (Some [])) o ≡ option_map (λ t. t ∷ []) o
    by None = refl
    by (Some t) = refl

pub listed_alone : (v : Value) → all_some text_case_in (v ∷ []) ≡ option_map (map text_case) (listed_texts (Some v) None)
listed_alone v = cases-of (v ∷ []) ∙ ap (option_map (map text_case)) (one-text v)

pub listed_in : (vs : List Value) → all_some text_case_in vs ≡ option_map (map text_case) (listed_texts None (Some vs))
listed_in vs = cases-of vs
