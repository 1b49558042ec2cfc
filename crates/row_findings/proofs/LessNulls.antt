-- Listed values with nulls left out or not.
use Rattle.std.proofs.Common.{◌≡◌, ℕ, true, false, Bool, ◌&&◌, ◌||◌, not, cond, List, [], ◌∷◌, refl, sym, ap, ◌∙◌}
use Rattle.std.specs.List.{list_any, list_all}
use Rattle.std.specs.Prelude.{filter, map, Option, None, if◌then◌else◌}
use Rattle.json_value.specs.Value.{Value}
use Rattle.schema_defs.specs.Texts.{Relations}
use Rattle.json_value.specs.View.{kept_view}
use Rattle.model_defs.specs.Layer.{is_null}
use Rattle.convert_defs.specs.Scalars.{non_null, kept_texts, distinct, texts_in, listed_entry, texts_entry}
use Rattle.row_findings.specs.declared.given.GivenValues.{GivenValues}
use Rattle.row_findings.specs.Given.{given_values_view}
use Rattle.row_findings.specs.Kinds.{passes, stands}

abbrev pub given : Bool → List Value → List Value
given less vs = if less then non_null vs else vs

module _ (test : Value → Bool) where
  all-less : (vs : List Value) → list_all test (non_null vs) ≡ list_all (passes true test) vs
  all-less [] = refl
  all-less (v ∷ vs) = by (is_null v) (all-less vs)
    where
      by : (b : Bool) → list_all test (non_null vs) ≡ list_all (passes true test) vs
          → list_all test (cond (not b) (v ∷ non_null vs) (non_null vs)) ≡ ((b || test v) && list_all (passes true test) vs)
      by true h = h
      by false h = ap (λ c. test v && c) h

  all-plain : (vs : List Value) → list_all test vs ≡ list_all (passes false test) vs
  all-plain [] = refl
  all-plain (v ∷ vs) = ap (λ c. test v && c) (all-plain vs)

  pub all-by : (less : Bool) (vs : List Value) → list_all test (given less vs) ≡ list_all (passes less test) vs
  all-by true vs = all-less vs
  all-by false vs = all-plain vs

  any-less : (vs : List Value) → list_any test (non_null vs) ≡ list_any (stands true test) vs
  any-less [] = refl
  any-less (v ∷ vs) = by (is_null v) (any-less vs)
    where
      by : (b : Bool) → list_any test (non_null vs) ≡ list_any (stands true test) vs
          → list_any test (cond (not b) (v ∷ non_null vs) (non_null vs)) ≡ ((not b && test v) || list_any (stands true test) vs)
      by true h = h
      by false h = ap (λ c. test v || c) h

  any-plain : (vs : List Value) → list_any test vs ≡ list_any (stands false test) vs
  any-plain [] = refl
  any-plain (v ∷ vs) = ap (λ c. test v || c) (any-plain vs)

  pub any-by : (less : Bool) (vs : List Value) → list_any test (given less vs) ≡ list_any (stands less test) vs
  any-by true vs = any-less vs
  any-by false vs = any-plain vs

pub all_given : (test : Value → Bool) (v : GivenValues) → list_all test (given_values_view v) ≡ list_all (passes v.less_nulls test) (map kept_view v.listed.now.items)
all_given test v = all-by test v.less_nulls (map kept_view v.listed.now.items)

pub any_given : (test : Value → Bool) (v : GivenValues) → list_any test (given_values_view v) ≡ list_any (stands v.less_nulls test) (map kept_view v.listed.now.items)
any_given test v = any-by test v.less_nulls (map kept_view v.listed.now.items)

-- nulls left out twice
again-by : (v : Value) (b : Bool) → is_null v ≡ b → (ws : List Value) → non_null ws ≡ ws → non_null (cond (not b) (v ∷ ws) ws) ≡ cond (not b) (v ∷ ws) ws
again-by v true q ws rest = rest
again-by v false q ws rest = ap (λ b. cond (not b) (v ∷ non_null ws) (non_null ws)) q ∙ ap (λ us. v ∷ us) rest

pub non_null-again : (vs : List Value) → non_null (non_null vs) ≡ non_null vs
non_null-again [] = refl
non_null-again (v ∷ vs) = again-by v (is_null v) refl (non_null vs) (non_null-again vs)

pub given_again : (v : GivenValues) → non_null (given_values_view v) ≡ non_null (map kept_view v.listed.now.items)
given_again v = by v.less_nulls (map kept_view v.listed.now.items)
  where
    by : (less : Bool) (vs : List Value) → non_null (given less vs) ≡ non_null vs
    by false vs = refl
    by true vs = non_null-again vs

-- texts that nothing is asked of
kept-all : (ns : List (List ℕ)) → filter (λ s. true) ns ≡ ns
kept-all [] = refl
kept-all (n ∷ ns) = ap (λ ms. n ∷ ms) (kept-all ns)

pub plain_texts : (r : Relations) (name : List ℕ) (vs : List Value) → list_any is_null vs ≡ false
    → listed_entry (list_any is_null vs) name (kept_texts r None vs) ≡ texts_entry name (distinct (texts_in vs))
plain_texts r name vs h = λ i. listed_entry (h i) name (distinct (kept-all (texts_in vs) i))
