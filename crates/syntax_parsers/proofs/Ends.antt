-- What a list ends in is what its last element ends in.
use Rattle.std.proofs.Common.{◌≡◌, ◌-◌, Bool, true, false, List, [], ◌∷◌, length, map, Some, None, refl, ap, sym, ◌∙◌, arith}
use Rattle.std.specs.List.{slice_get}
use Rattle.syntax_trees.specs.Syntax.{segments_of, bounds_of}
use Rattle.syntax_trees.specs.View.{path_view, segment_view, bound_view}
use Rattle.syntax_trees.specs.declared.tree.Path.{Path, out-Path}
use Rattle.syntax_trees.proofs.Views.{path_out}
use Rattle.syntax_trees.specs.declared.tree.PathSegment.{PathSegment}
use Rattle.syntax_trees.specs.declared.tree.Bound.{Bound}
use Rattle.syntax_parsers.specs.Grammar.{takes_bounds, takes_bound, takes_segment, gives_last, gives_path}

-- what the last says, or `was`
told : {A : Type 0} → (A → Bool) → Bool → List A → Bool
told f was [] = was
told f was (x ∷ xs) = told f (f x) xs

told_from : {A : Type 0} → (f : A → Bool) (was : Bool) (x : A) (xs : List A) (y : A) → slice_get (x ∷ xs) (length xs) ≡ Some y → told f was (x ∷ xs) ≡ f y
unfolding told
told_from f was x [] y h = cc
told_from f was x (z ∷ xs) y h = told_from f (f x) z xs y h

told_end : {A : Type 0} → (f : A → Bool) (was : Bool) (xs : List A) (y : A) → slice_get xs (length xs - 1) ≡ Some y → told f was xs ≡ f y
told_end f was [] y h = cc
told_end f was (x ∷ xs) y h =
    let n : length (x ∷ xs) - 1 ≡ length xs = omega arith in
    told_from f was x xs y (ap (slice_get (x ∷ xs)) (sym n) ∙ h)

some_last : {A : Type 0} → (x : A) (xs : List A) → slice_get (x ∷ xs) (length xs) ≡ None → ⊥
some_last x [] h = cc
some_last x (z ∷ xs) h = some_last z xs h

told_nothing : {A : Type 0} → (f : A → Bool) (was : Bool) (xs : List A) → slice_get xs (length xs - 1) ≡ None → told f was xs ≡ was
unfolding told
told_nothing f was [] h = refl
told_nothing f was (x ∷ xs) h =
    let n : length (x ∷ xs) - 1 ≡ length xs = omega arith in
    absurd (some_last x xs (ap (slice_get (x ∷ xs)) (sym n) ∙ h))

segments_told : (was : Bool) (xs : List PathSegment) → gives_last was (segments_of (map segment_view xs)) ≡ told (λ x. takes_segment true (segment_view x)) was xs
unfolding told
segments_told was [] = refl
segments_told was (x ∷ xs) = segments_told (takes_segment true (segment_view x)) xs

bounds_told : (bang was : Bool) (xs : List Bound) → takes_bounds bang was (bounds_of (map bound_view xs)) ≡ told (λ x. takes_bound bang (bound_view x)) was xs
unfolding told
bounds_told bang was [] = refl
bounds_told bang was (x ∷ xs) = bounds_told bang (takes_bound bang (bound_view x)) xs

pub bounds_end : (bang was : Bool) (xs : List Bound) (y : Bound) → slice_get xs (length xs - 1) ≡ Some y → takes_bounds bang was (bounds_of (map bound_view xs)) ≡ takes_bound bang (bound_view y)
bounds_end bang was xs y h = bounds_told bang was xs ∙ told_end (λ x. takes_bound bang (bound_view x)) was xs y h

pub bounds_end_nowhere : (bang was : Bool) (xs : List Bound) → slice_get xs (length xs - 1) ≡ None → takes_bounds bang was (bounds_of (map bound_view xs)) ≡ was
bounds_end_nowhere bang was xs h = bounds_told bang was xs ∙ told_nothing (λ x. takes_bound bang (bound_view x)) was xs h

-- the same of a path
pub path_ends : (p : Path) (y : PathSegment) → slice_get (out-Path p).segments.items (length (out-Path p).segments.items - 1) ≡ Some y → gives_path (path_view p) ≡ takes_segment true (segment_view y)
path_ends p y h = ap gives_path (path_out p) ∙ segments_told false (out-Path p).segments.items ∙ told_end (λ x. takes_segment true (segment_view x)) false (out-Path p).segments.items y h

pub path_ends_nowhere : (p : Path) → slice_get (out-Path p).segments.items (length (out-Path p).segments.items - 1) ≡ None → gives_path (path_view p) ≡ false
path_ends_nowhere p h = ap gives_path (path_out p) ∙ segments_told false (out-Path p).segments.items ∙ told_nothing (λ x. takes_segment true (segment_view x)) false (out-Path p).segments.items h
