-- Tokens one after another, and how many there are.
use Rattle.std.proofs.Common.{◌≡◌, ◌<◌, ℕ, suc, List, [], ◌∷◌, ◌++◌, length, map, false, not, refl, sym, ap, ◌∙◌, append_assoc, nat_eq, arith, codes}
use Rattle.std.proofs.lemmas.Bool.{ne_eqb}
use Rattle.token_trees.specs.Token.{Tok}
use Rattle.syntax_trees.specs.Syntax.{TyD, BoundD, tys_of, bounds_of}
use Rattle.syntax_trees.specs.Item.{ParamD, PredicateD}
use Rattle.syntax_printing.specs.Print.{any_ty, sign, keyword, print_bounds}
use Rattle.syntax_printing.specs.PrintPredicates.{print_predicates}
use Rattle.rust_syntax.specs.PrintItem.{print_bounded, print_params, print_angle, print_where}

pub assoc : {A : Type 0} → (xs ys zs : List A) → (xs ++ ys) ++ zs ≡ xs ++ (ys ++ zs)
assoc xs ys zs = append_assoc xs ys zs

-- whether a tuple has an element
pub any_ty_length : {X : Type 0} → (f : X → TyD) (ts : List X) → any_ty (tys_of (map f ts)) ≡ not (nat_eq (length ts) 0)
any_ty_length f [] = refl
any_ty_length f (t ∷ ts) = sym (ap not (ne_eqb (suc (length ts)) 0 (λ e. omega (arith, e))))

-- lists that print nothing where they are empty
pub bounded_nil : {X : Type 0} → (f : X → BoundD) (bs : List X) → length bs ≡ 0 → print_bounded (map f bs) ≡ []
bounded_nil f [] h = refl
bounded_nil f (b ∷ bs) h = absurd (omega (arith, h))

pub bounded_cons : {X : Type 0} → (f : X → BoundD) (bs : List X) → 0 < length bs → print_bounded (map f bs) ≡ sign 58 ∷ print_bounds false (bounds_of (map f bs))
bounded_cons f [] h = absurd (omega (arith, h))
bounded_cons f (b ∷ bs) h = refl

pub angle_nil : {X : Type 0} → (f : X → ParamD) (ps : List X) → length ps ≡ 0 → print_angle (map f ps) ≡ []
angle_nil f [] h = refl
angle_nil f (p ∷ ps) h = absurd (omega (arith, h))

pub angle_cons : {X : Type 0} → (f : X → ParamD) (ps : List X) → 0 < length ps → print_angle (map f ps) ≡ sign 60 ∷ print_params false (map f ps) ++ (sign 62 ∷ [])
angle_cons f [] h = absurd (omega (arith, h))
angle_cons f (p ∷ ps) h = refl

pub where_nil : {X : Type 0} → (f : X → PredicateD) (ps : List X) → length ps ≡ 0 → print_where (map f ps) ≡ []
where_nil f [] h = refl
where_nil f (p ∷ ps) h = absurd (omega (arith, h))

pub where_cons : {X : Type 0} → (f : X → PredicateD) (ps : List X) → 0 < length ps → print_where (map f ps) ≡ keyword (codes "where") ∷ print_predicates false (map f ps)
where_cons f [] h = absurd (omega (arith, h))
where_cons f (p ∷ ps) h = refl
