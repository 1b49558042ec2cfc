-- The fields of variants, one list behind the other.
use Rattle.std.proofs.Common.{◌≡◌, ℕ, zero, suc, ◌+◌, ◌<◌, ◌≤◌, List, [], ◌∷◌, ◌++◌, map, drop, length, get_or, refl, ap, sym, ◌∙◌, arith, drop-cons}
use Rattle.std.proofs.lemmas.List.{map-append}
use Rattle.std.specs.List.{flat_map}
use Rattle.container_defs.specs.Container.{all_fields}
use Rattle.derive_ast.specs.declared.container.Field.{Field}
use Rattle.derive_ast.specs.declared.container.Variant.{Variant}
use Rattle.derive_ast.specs.declared.container.Data.{Data}
use Rattle.derive_ast.specs.declared.container.Data.TheVariants.{Enum, Struct}
use Rattle.derive_ast.specs.InOrder.{rows, fields_of, rows_from, fields_left}
use Rattle.derive_ast.specs.Views.{field_view, variant_view, data_view}

pub none_behind : {A : Type 0} (n : ℕ) (xs : List A) → length xs ≤ n → drop n xs ≡ []
none_behind zero [] h = refl
none_behind (suc n) [] h = refl
none_behind zero (x ∷ xs) h = absurd (let k : ⊥ = omega arith in k)
none_behind (suc n) (x ∷ xs) h = none_behind n xs (let k : length xs ≤ n = omega arith in k)

pub from_first : (vs : List Variant) → rows_from 0 vs ≡ rows vs
from_first [] = refl
from_first (v ∷ vs) = refl

next_row : (vs : List Variant) (at : ℕ) (v : Variant) → at < length vs → v ≡ get_or vs at v → (n : ℕ) → rows_from n (drop at vs) ≡ drop n v.fields.items ++ rows (drop (at + 1) vs)
next_row vs at v h e n =
    ap (rows_from n) (drop-cons vs at v h)
    ∙ ap (λ w. drop n w.fields.items ++ rows (drop (suc at) vs)) (sym e)
    ∙ ap (λ k. drop n v.fields.items ++ rows (drop k vs)) (let k : suc at ≡ at + 1 = omega arith in k)

pub none_left : (vs : List Variant) (at n : ℕ) → length vs ≤ at → rows_from n (drop at vs) ≡ []
none_left vs at n h = ap (rows_from n) (none_behind at vs h)

-- a variant from whose place on none stands is passed
pub row_passed : (vs : List Variant) (at : ℕ) (v : Variant) (n : ℕ) → at < length vs → v ≡ get_or vs at v → length v.fields.items ≤ n → rows_from n (drop at vs) ≡ rows_from 0 (drop (at + 1) vs)
row_passed vs at v n h e l =
    next_row vs at v h e n
    ∙ ap (λ fs. fs ++ rows (drop (at + 1) vs)) (none_behind n v.fields.items l)
    ∙ sym (from_first (drop (at + 1) vs))

-- a field that stands there is the first
pub row_found : (vs : List Variant) (at : ℕ) (v : Variant) (n : ℕ) (f : Field) → at < length vs → v ≡ get_or vs at v → n < length v.fields.items → f ≡ get_or v.fields.items n f → rows_from n (drop at vs) ≡ f ∷ rows_from (n + 1) (drop at vs)
row_found vs at v n f h e l g =
    next_row vs at v h e n
    ∙ ap (λ fs. fs ++ rows (drop (at + 1) vs)) (drop-cons v.fields.items n f l)
    ∙ ap (λ x. x ∷ (drop (suc n) v.fields.items ++ rows (drop (at + 1) vs))) (sym g)
    ∙ ap (λ k. f ∷ (drop k v.fields.items ++ rows (drop (at + 1) vs))) (let k : suc n ≡ n + 1 = omega arith in k)
    ∙ ap (λ fs. f ∷ fs) (sym (next_row vs at v h e (n + 1)))

pub list_found : (fs : List Field) (n : ℕ) (f : Field) → n < length fs → f ≡ get_or fs n f → drop n fs ≡ f ∷ drop (n + 1) fs
list_found fs n f l g =
    drop-cons fs n f l
    ∙ ap (λ x. x ∷ drop (suc n) fs) (sym g)
    ∙ ap (λ k. f ∷ drop k fs) (let k : suc n ≡ n + 1 = omega arith in k)

-- ---- a body

pub all_left : (d : Data) → fields_left d 0 0 ≡ fields_of d
all_left (Enum vs) = from_first vs.items
all_left (Struct s fs) = refl

rows_told : (vs : List Variant) → map field_view (rows vs) ≡ flat_map (λ w. w.fields) (map variant_view vs)
rows_told [] = refl
rows_told (v ∷ vs) = map-append field_view v.fields.items (rows vs) ∙ ap (λ fs. map field_view v.fields.items ++ fs) (rows_told vs)

pub all_told : (d : Data) → map field_view (fields_left d 0 0) ≡ all_fields (data_view d)
all_told (Enum vs) = ap (map field_view) (from_first vs.items) ∙ rows_told vs.items
all_told (Struct s fs) = refl
