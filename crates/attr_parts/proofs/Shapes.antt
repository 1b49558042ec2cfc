-- Shapes of types, and the last segments of paths.
use Rattle.std.proofs.Common.{◌≡◌, ℕ, suc, ◌-◌, ◌<◌, ◌≤◌, List, [], ◌∷◌, Bool, true, false, Some, map, length, refl, ap, sym, ◌∙◌, arith}
use Rattle.std.specs.List.{slice_get}
use Rattle.syntax_trees.specs.Syntax.{TyD, ty_array, ty_fn, ty_group, ty_impl, ty_infer, ty_macro, ty_never, ty_paren, ty_path, ty_pointer, ty_reference, ty_slice, ty_object, ty_tuple, ty_verbatim, PathD, path, SegmentD, GenericD, segments_of, generics_of, segment_name}
use Rattle.attr_parts.specs.Types.{group_of, path_of, slice_of, reference_of, another, shape, ungrouped, groups, last_name, last_args, segment_args, are_none, are_cow_args, are_option_args, is_single}
use Rattle.attr_parts.specs.declared.types.Elem.{Elem}

-- a type is ungrouped unless it is a group
pub ungrouped_of_group : (t u : TyD) → shape t ≡ group_of u → ungrouped t ≡ ungrouped u
ungrouped_of_group (ty_array t e) u h = cc
ungrouped_of_group (ty_fn ts o) u h = cc
ungrouped_of_group (ty_group t) u h = ap ungrouped (let e : t ≡ u = cc in e)
ungrouped_of_group (ty_impl bs) u h = cc
ungrouped_of_group (ty_infer s) u h = cc
ungrouped_of_group (ty_macro p ts) u h = cc
ungrouped_of_group (ty_never s) u h = cc
ungrouped_of_group (ty_paren t) u h = cc
ungrouped_of_group (ty_path q p) u h = cc
ungrouped_of_group (ty_pointer m t) u h = cc
ungrouped_of_group (ty_reference l m t) u h = cc
ungrouped_of_group (ty_slice t) u h = cc
ungrouped_of_group (ty_object bs) u h = cc
ungrouped_of_group (ty_tuple ts) u h = cc
ungrouped_of_group (ty_verbatim ts) u h = cc

pub fewer_groups : (t u : TyD) → shape t ≡ group_of u → groups t ≡ suc (groups u)
fewer_groups (ty_array t e) u h = cc
fewer_groups (ty_fn ts o) u h = cc
fewer_groups (ty_group t) u h = ap (λ v. suc (groups v)) (let e : t ≡ u = cc in e)
fewer_groups (ty_impl bs) u h = cc
fewer_groups (ty_infer s) u h = cc
fewer_groups (ty_macro p ts) u h = cc
fewer_groups (ty_never s) u h = cc
fewer_groups (ty_paren t) u h = cc
fewer_groups (ty_path q p) u h = cc
fewer_groups (ty_pointer m t) u h = cc
fewer_groups (ty_reference l m t) u h = cc
fewer_groups (ty_slice t) u h = cc
fewer_groups (ty_object bs) u h = cc
fewer_groups (ty_tuple ts) u h = cc
fewer_groups (ty_verbatim ts) u h = cc

pub ungrouped_of_path : (t : TyD) (q : Bool) (p : PathD) → shape t ≡ path_of q p → ungrouped t ≡ t
ungrouped_of_path (ty_array t e) a b h = refl
ungrouped_of_path (ty_fn ts o) a b h = refl
ungrouped_of_path (ty_group t) a b h = cc
ungrouped_of_path (ty_impl bs) a b h = refl
ungrouped_of_path (ty_infer s) a b h = refl
ungrouped_of_path (ty_macro p ts) a b h = refl
ungrouped_of_path (ty_never s) a b h = refl
ungrouped_of_path (ty_paren t) a b h = refl
ungrouped_of_path (ty_path q p) a b h = refl
ungrouped_of_path (ty_pointer m t) a b h = refl
ungrouped_of_path (ty_reference l m t) a b h = refl
ungrouped_of_path (ty_slice t) a b h = refl
ungrouped_of_path (ty_object bs) a b h = refl
ungrouped_of_path (ty_tuple ts) a b h = refl
ungrouped_of_path (ty_verbatim ts) a b h = refl

pub ungrouped_of_slice : (t : TyD) (u : TyD) → shape t ≡ slice_of u → ungrouped t ≡ t
ungrouped_of_slice (ty_array t e) a h = refl
ungrouped_of_slice (ty_fn ts o) a h = refl
ungrouped_of_slice (ty_group t) a h = cc
ungrouped_of_slice (ty_impl bs) a h = refl
ungrouped_of_slice (ty_infer s) a h = refl
ungrouped_of_slice (ty_macro p ts) a h = refl
ungrouped_of_slice (ty_never s) a h = refl
ungrouped_of_slice (ty_paren t) a h = refl
ungrouped_of_slice (ty_path q p) a h = refl
ungrouped_of_slice (ty_pointer m t) a h = refl
ungrouped_of_slice (ty_reference l m t) a h = refl
ungrouped_of_slice (ty_slice t) a h = refl
ungrouped_of_slice (ty_object bs) a h = refl
ungrouped_of_slice (ty_tuple ts) a h = refl
ungrouped_of_slice (ty_verbatim ts) a h = refl

pub ungrouped_of_reference : (t : TyD) (m : Bool) (u : TyD) → shape t ≡ reference_of m u → ungrouped t ≡ t
ungrouped_of_reference (ty_array t e) a b h = refl
ungrouped_of_reference (ty_fn ts o) a b h = refl
ungrouped_of_reference (ty_group t) a b h = cc
ungrouped_of_reference (ty_impl bs) a b h = refl
ungrouped_of_reference (ty_infer s) a b h = refl
ungrouped_of_reference (ty_macro p ts) a b h = refl
ungrouped_of_reference (ty_never s) a b h = refl
ungrouped_of_reference (ty_paren t) a b h = refl
ungrouped_of_reference (ty_path q p) a b h = refl
ungrouped_of_reference (ty_pointer m t) a b h = refl
ungrouped_of_reference (ty_reference l m t) a b h = refl
ungrouped_of_reference (ty_slice t) a b h = refl
ungrouped_of_reference (ty_object bs) a b h = refl
ungrouped_of_reference (ty_tuple ts) a b h = refl
ungrouped_of_reference (ty_verbatim ts) a b h = refl

pub ungrouped_of_another : (t : TyD) → shape t ≡ another → ungrouped t ≡ t
ungrouped_of_another (ty_array t e) h = refl
ungrouped_of_another (ty_fn ts o) h = refl
ungrouped_of_another (ty_group t) h = cc
ungrouped_of_another (ty_impl bs) h = refl
ungrouped_of_another (ty_infer s) h = refl
ungrouped_of_another (ty_macro p ts) h = refl
ungrouped_of_another (ty_never s) h = refl
ungrouped_of_another (ty_paren t) h = refl
ungrouped_of_another (ty_path q p) h = refl
ungrouped_of_another (ty_pointer m t) h = refl
ungrouped_of_another (ty_reference l m t) h = refl
ungrouped_of_another (ty_slice t) h = refl
ungrouped_of_another (ty_object bs) h = refl
ungrouped_of_another (ty_tuple ts) h = refl
ungrouped_of_another (ty_verbatim ts) h = refl

-- the last of a list of segments
last_name_from : {X : Type 0} → (f : X → SegmentD) (x : X) (xs : List X) (l : X) → slice_get (x ∷ xs) (length xs) ≡ Some l → last_name (segments_of (map f (x ∷ xs))) ≡ segment_name (f l)
last_name_from f x [] l h = let e : x ≡ l = cc in ap (λ z. segment_name (f z)) e
last_name_from f x (y ∷ ys) l h = last_name_from f y ys l h

pub last_name_at : {X : Type 0} → (f : X → SegmentD) (xs : List X) (l : X) → slice_get xs (length xs - 1) ≡ Some l → last_name (segments_of (map f xs)) ≡ segment_name (f l)
last_name_at f [] l h = cc
last_name_at f (x ∷ xs) l h =
    let n : length (x ∷ xs) - 1 ≡ length xs = omega arith in
    last_name_from f x xs l (ap (slice_get (x ∷ xs)) (sym n) ∙ h)

last_args_from : {X : Type 0} → (f : X → SegmentD) (x : X) (xs : List X) (l : X) → slice_get (x ∷ xs) (length xs) ≡ Some l → last_args (segments_of (map f (x ∷ xs))) ≡ segment_args (f l)
last_args_from f x [] l h = let e : x ≡ l = cc in ap (λ z. segment_args (f z)) e
last_args_from f x (y ∷ ys) l h = last_args_from f y ys l h

pub last_args_at : {X : Type 0} → (f : X → SegmentD) (xs : List X) (l : X) → slice_get xs (length xs - 1) ≡ Some l → last_args (segments_of (map f xs)) ≡ segment_args (f l)
last_args_at f [] l h = cc
last_args_at f (x ∷ xs) l h =
    let n : length (x ∷ xs) - 1 ≡ length xs = omega arith in
    last_args_from f x xs l (ap (slice_get (x ∷ xs)) (sym n) ∙ h)

pub some_generics : {X : Type 0} → (f : X → GenericD) (xs : List X) → 1 ≤ length xs → are_none (generics_of (map f xs)) ≡ false
some_generics f [] h = absurd (omega arith)
some_generics f (x ∷ xs) h = refl

pub few_for_cow : {X : Type 0} → (f : X → GenericD) (k : Elem) (xs : List X) → length xs < 2 → are_cow_args k (generics_of (map f xs)) ≡ false
few_for_cow f k [] h = refl
few_for_cow f k (x ∷ []) h = refl
few_for_cow f k (x ∷ y ∷ xs) h = absurd (omega arith)

pub many_for_cow : {X : Type 0} → (f : X → GenericD) (k : Elem) (xs : List X) → 3 ≤ length xs → are_cow_args k (generics_of (map f xs)) ≡ false
many_for_cow f k [] h = absurd (omega arith)
many_for_cow f k (x ∷ []) h = absurd (omega arith)
many_for_cow f k (x ∷ y ∷ []) h = absurd (omega arith)
many_for_cow f k (x ∷ y ∷ z ∷ xs) h = refl

pub many_for_option : {X : Type 0} → (f : X → GenericD) (xs : List X) → 2 ≤ length xs → are_option_args (generics_of (map f xs)) ≡ false
many_for_option f [] h = absurd (omega arith)
many_for_option f (x ∷ []) h = absurd (omega arith)
many_for_option f (x ∷ y ∷ xs) h = refl

pub many_for_single : {X : Type 0} → (f : X → SegmentD) (leading : Bool) (n : List ℕ) (xs : List X) → 2 ≤ length xs → is_single n (path leading (segments_of (map f xs))) ≡ false
many_for_single f leading n [] h = absurd (omega arith)
many_for_single f leading n (x ∷ []) h = absurd (omega arith)
many_for_single f true n (x ∷ y ∷ xs) h = refl
many_for_single f false n (x ∷ y ∷ xs) h = refl
