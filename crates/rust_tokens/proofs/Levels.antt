-- Lists of open groups.
use Rattle.std.proofs.Common.{◌≡◌, ◌-◌, List, [], ◌∷◌, ◌++◌, map, reverse, length, Some, refl, ap, sym, ◌∙◌, arith}
use mathlib.Core.List.{reverse_aux}
use Rattle.std.specs.List.{slice_get}
use Rattle.std.proofs.lemmas.List.{map-append}
use Rattle.token_trees.specs.declared.token.Delimiter.{Delimiter}
use Rattle.rust_tokens.specs.declared.groups.OpenGroup.{OpenGroup}
use Rattle.rust_tokens.specs.Groups.{Level, level, innermost, brackets}

-- the brackets of the groups, the innermost first
brackets_onto : (gs : List OpenGroup) (held : List Delimiter) → reverse_aux (map (λ g. g.delimiter) gs) held ≡ brackets (map level gs) held
brackets_onto [] held = refl
brackets_onto (g ∷ gs) held = brackets_onto gs (g.delimiter ∷ held)

pub brackets_reversed : (gs : List OpenGroup) → reverse (map (λ g. g.delimiter) gs) ≡ brackets (map level gs) []
brackets_reversed gs = brackets_onto gs []

pub innermost_last : (ls : List Level) (l : Level) → innermost (ls ++ l ∷ []) ≡ Some l.delimiter
innermost_last [] l = refl
innermost_last (k ∷ []) l = refl
innermost_last (k ∷ m ∷ ls) l = innermost_last (m ∷ ls) l

innermost_from : (x : OpenGroup) (xs : List OpenGroup) (g : OpenGroup) → slice_get (x ∷ xs) (length xs) ≡ Some g → innermost (map level (x ∷ xs)) ≡ Some g.delimiter
innermost_from x [] g h = let e : x ≡ g = cc in ap (λ y. Some y.delimiter) e
innermost_from x (y ∷ ys) g h = innermost_from y ys g h

-- the last item
pub innermost_end : (xs : List OpenGroup) (g : OpenGroup) → slice_get xs (length xs - 1) ≡ Some g → innermost (map level xs) ≡ Some g.delimiter
innermost_end [] g h = cc
innermost_end (x ∷ xs) g h =
    let n : length (x ∷ xs) - 1 ≡ length xs = omega arith in
    innermost_from x xs g (ap (slice_get (x ∷ xs)) (sym n) ∙ h)

-- the list whose last item goes
pub levels_popped : (xs ys : List OpenGroup) (g : OpenGroup) → xs ≡ ys ++ g ∷ [] → map level xs ≡ map level ys ++ level g ∷ []
levels_popped xs ys g h = ap (map level) h ∙ map-append level ys (g ∷ [])

pub popped_delimiter : (xs ys : List OpenGroup) (g : OpenGroup) (d : Delimiter) → xs ≡ ys ++ g ∷ [] → innermost (map level xs) ≡ Some d → g.delimiter ≡ d
popped_delimiter xs ys g d h e =
    let k = sym (ap innermost (levels_popped xs ys g h) ∙ innermost_last (map level ys) (level g)) ∙ e in cc
