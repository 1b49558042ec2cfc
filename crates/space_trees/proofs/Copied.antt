-- Values that are copied, less the nulls.
use Rattle.std.proofs.Common.{◌≡◌, ℕ, suc, ◌+◌, ◌<◌, ◌≤◌, List, [], ◌∷◌, ◌++◌, map, filter, drop, length, get_or, drop-cons, append_assoc, append-nil, Bool, true, false, not, refl, sym, ap, ◌∙◌, arith}
use Rattle.std.specs.Prelude.{is_some, if◌then◌else◌}
use Rattle.std.proofs.lemmas.List.{drop_all}
use Rattle.serde_json.specs.declared.value.Value as json
use Rattle.serde_json.specs.Data as data'
use Rattle.serde_json.specs.Data.{Data, unsigned, negative, float}
use Rattle.serde_json.specs.Find.{as_null}
use Rattle.json_value.specs.View.{value_of, kept_view}
use Rattle.json_value.specs.Value.{Value}
use Rattle.model_defs.specs.Layer.{is_null}
use Rattle.convert_defs.specs.Scalars.{non_null}
use Rattle.row_findings.specs.declared.given.GivenValues.{GivenValues}
use Rattle.row_findings.specs.Given.{given_values_view}

pub null_seen : (d : Data) → is_null (value_of d) ≡ is_some (as_null d)
null_seen data'.null = refl
null_seen (data'.boolean b) = refl
null_seen (data'.number (unsigned n)) = refl
null_seen (data'.number (negative z)) = refl
null_seen (data'.number (float x)) = refl
null_seen (data'.string s) = refl
null_seen (data'.array ds) = refl
null_seen (data'.object ms) = refl

pub null_dropped : (v : Value) → is_null v ≡ true → non_null (v ∷ []) ≡ []
null_dropped v h = ap (λ b. if not b then v ∷ [] else []) h

pub other_kept : (v : Value) → is_null v ≡ false → non_null (v ∷ []) ≡ v ∷ []
other_kept v h = ap (λ b. if not b then v ∷ [] else []) h

one-first : (v : Value) (vs : List Value) → non_null (v ∷ vs) ≡ non_null (v ∷ []) ++ non_null vs
one-first v vs = by (is_null v)
  where
    by : (b : Bool) → (if not b then v ∷ filter (λ x. not (is_null x)) vs else filter (λ x. not (is_null x)) vs) ≡ (if not b then v ∷ [] else []) ++ filter (λ x. not (is_null x)) vs
    by true = refl
    by false = refl

pub value_turn : (xs : List json.Value) (i : ℕ) (x : json.Value) (done new : List Value) (w : List Value) → i < length xs → x ≡ get_or xs i x → new ≡ done ++ non_null (kept_view x ∷ [])
    → done ++ non_null (map kept_view (drop i xs)) ≡ w → new ++ non_null (map kept_view (drop (i + 1) xs)) ≡ w
value_turn xs i x done new w h e made was =
    let rest = non_null (map kept_view (drop (i + 1) xs)) in
    ap (λ z. z ++ rest) made ∙ append_assoc done (non_null (kept_view x ∷ [])) rest ∙ ap (λ z. done ++ z) (sym (one-first (kept_view x) (map kept_view (drop (i + 1) xs))))
    ∙ ap (λ z. done ++ non_null z) (sym (ap (map kept_view) (drop-cons xs i x h) ∙ ap (λ y. kept_view y ∷ map kept_view (drop (suc i) xs)) (sym e) ∙ ap (λ n. kept_view x ∷ map kept_view (drop n xs)) (let k : suc i ≡ i + 1 = omega arith in k)))
    ∙ was

pub value_end : (xs : List json.Value) (i : ℕ) (done w : List Value) → length xs ≤ i → done ++ non_null (map kept_view (drop i xs)) ≡ w → done ≡ w
value_end xs i done w h was = sym (append-nil done) ∙ ap (λ z. done ++ non_null (map kept_view z)) (sym (drop_all i xs h)) ∙ was

-- ---- given values

pub values_less : (v : GivenValues) (xs : List Value) → v.less_nulls ≡ true → xs ≡ non_null (map kept_view v.listed.now.items) → xs ≡ given_values_view v
values_less v xs b h = h ∙ ap (λ t. if t then non_null (map kept_view v.listed.now.items) else map kept_view v.listed.now.items) (sym b)

pub values_whole : (v : GivenValues) (xs : List Value) → v.less_nulls ≡ false → xs ≡ map kept_view v.listed.now.items → xs ≡ given_values_view v
values_whole v xs b h = h ∙ ap (λ t. if t then non_null (map kept_view v.listed.now.items) else map kept_view v.listed.now.items) (sym b)
