-- How many tokens trees have, a group as one.
use Rattle.std.proofs.Common.{◌≡◌, ◌<◌, ◌+◌, ◌*◌, ℕ, Bool, true, false, cond, List, [], ◌∷◌, ◌++◌, map, refl, ap, sym, ◌∙◌, arith, zero-add, add-zero, add_assoc}
use Rattle.std.proofs.lemmas.List.{map-append}
use Rattle.token_trees.specs.View.{tree, trees, stream}
use Rattle.token_trees.specs.declared.token.Delimiter.{Delimiter}
use Rattle.token_trees.specs.declared.token.Span.{Span}
use Rattle.token_trees.specs.declared.token.TokenTree.{TokenTree}
use Rattle.token_trees.specs.declared.token.TokenTree.TheVariants.{Group as in_group}
use Rattle.token_trees.specs.declared.token.Group.{Group, out-Group}
use Rattle.token_trees.proofs.Views.{group_of}
use Rattle.token_trees.specs.Token.{Tok, word, mark, fixed, group, Toks, no_toks, tok, toks_of}

abbrev mutual
  pub weight : Tok → ℕ
  weight (word _ _) = 1
  weight (mark _ _ _) = 1
  weight (fixed _ _) = 1
  weight (group _ ts _) = weights ts + 1

  pub weights : Toks → ℕ
  weights no_toks = 0
  weights (tok t ts) = weight t + weights ts

abbrev pub weight_of : List Tok → ℕ
weight_of ts = weights (toks_of ts)

pub weight_append : (ts us : List Tok) → weight_of (ts ++ us) ≡ weight_of ts + weight_of us
weight_append [] us = sym (zero-add (weight_of us))
weight_append (t ∷ ts) us = ap (λ n. weight t + n) (weight_append ts us) ∙ sym (add_assoc (weight t) (weight_of ts) (weight_of us))

pub weight_some : (t : Tok) → 0 < weight t
weight_some (word _ _) = omega arith
weight_some (mark _ _ _) = omega arith
weight_some (fixed _ _) = omega arith
weight_some (group _ ts _) = omega arith

with_last : (xs ys : List TokenTree) (t : TokenTree) → xs ≡ ys ++ t ∷ [] → weight_of (trees xs) ≡ weight_of (trees ys) + weight (tree t)
with_last xs ys t e =
    ap (λ zs. weight_of (trees zs)) e ∙ ap weight_of (map-append tree ys (t ∷ [])) ∙ weight_append (trees ys) (tree t ∷ [])
    ∙ ap (λ n. weight_of (trees ys) + n) (add-zero (weight (tree t)))

-- a tree less
pub pop_smaller : (xs ys : List TokenTree) (t : TokenTree) → xs ≡ ys ++ t ∷ [] → weight_of (trees ys) < weight_of (trees xs)
pop_smaller xs ys t e = omega (arith, with_last xs ys t e, weight_some (tree t))

inside_smaller : (ok : Bool) (xs ys zs inner : List TokenTree) → weight_of (trees ys) + weight_of (trees inner) < weight_of (trees xs) → zs ≡ cond ok (ys ++ inner) ys → weight_of (trees zs) < weight_of (trees xs)
inside_smaller true xs ys zs inner l e =
    let w = ap (λ ts. weight_of (trees ts)) e ∙ ap weight_of (map-append tree ys inner) ∙ weight_append (trees ys) (trees inner) in
    omega arith
inside_smaller false xs ys zs inner l e = let w = ap (λ ts. weight_of (trees ts)) e in omega arith

-- a group's trees in its place
pub group_smaller : (ok : Bool) (xs ys zs inner : List TokenTree) (t : TokenTree) (d : Delimiter) (ts : List Tok) (s : Span) → xs ≡ ys ++ t ∷ [] → tree t ≡ group d (toks_of ts) s
    → trees inner ≡ ts → zs ≡ cond ok (ys ++ inner) ys → weight_of (trees zs) < weight_of (trees xs)
group_smaller ok xs ys zs inner t d ts s e g i f =
    inside_smaller ok xs ys zs inner (omega (arith, with_last xs ys t e, ap weight g, ap weight_of i)) f

-- the trees that are left of each level: a level counts, and each token twice, for itself and for the level that a group opens
abbrev pub work : List (List TokenTree) → ℕ
work [] = 0
work (xs ∷ ls) = work ls + (2 * weight_of (trees xs) + 1)

work_last : (ls : List (List TokenTree)) (xs : List TokenTree) → work (ls ++ xs ∷ []) ≡ work ls + (2 * weight_of (trees xs) + 1)
work_last [] xs = refl
work_last (ys ∷ ls) xs = let e = work_last ls xs in omega arith

pub work_is : {L : Type 0} → (f : L → List TokenTree) (xs ys : List L) (l : L) → xs ≡ ys ++ l ∷ [] → work (map f xs) ≡ work (map f ys) + (2 * weight_of (trees (f l)) + 1)
work_is f xs ys l e = ap (λ zs. work (map f zs)) e ∙ ap work (map-append f ys (l ∷ [])) ∙ work_last (map f ys) (f l)

pub first_weight : (xs rest : List TokenTree) (t : TokenTree) → xs ≡ t ∷ rest → weight_of (trees xs) ≡ weight (tree t) + weight_of (trees rest)
first_weight xs rest t e = ap (λ ts. weight_of (trees ts)) e

pub group_weight : (t : TokenTree) (g : Group) (inner : List TokenTree) → t ≡ in_group g → stream (out-Group g).stream ≡ trees inner → weight (tree t) ≡ weight_of (trees inner) + 1
group_weight t g inner e h = ap weight (group_of t g inner e h)
