-- The definition at small trees, by computation. `Self` stands at the place `there`, all else at `here`.
use Rattle.std.proofs.Common.{◌≡◌, ℕ, List, [], ◌∷◌, Bool, true, false, refl}
use Rattle.std.specs.Prelude.{codes, None}
use Rattle.token_trees.specs.declared.token.Span.{Span}
use Rattle.token_trees.specs.Token.{word}
use Rattle.syntax_trees.specs.Syntax.{TyD, ty_array, ty_macro, ty_path, ty_verbatim, path, SegmentD, segment, ArgumentsD, no_arguments, angle, arg_lifetime, arg_ty, qself, ex_path, expr_path, bound_trait, no_qself, some_qself, end_segments, more_segments, end_generics, generics_of, segments_of}
use Rattle.syntax_trees.specs.Item.{param_const, named_fields, struct_body, union_body}
use Rattle.derive_receiver.specs.Own.{Own}
use Rattle.derive_receiver.specs.Replaced.{in_ty, in_bound, in_param, replaced}

abbrev here : Span
here = record { file = 1; lo = 2; hi = 3 }

abbrev there : Span
there = record { file = 1; lo = 7; hi = 11 }

abbrev named : Span → List ℕ → ArgumentsD → SegmentD
named at x a = segment (record { text = x; span = at }) a

abbrev of_one : SegmentD → TyD
of_one s = ty_path no_qself (path false (more_segments s end_segments))

abbrev plain : Span → List ℕ → TyD
plain at x = of_one (named at x no_arguments)

-- `S`
abbrev bare : Own
bare = record { name = codes "S"; lifetimes = []; others = [] }

-- `S<'a, T>`
abbrev full : Own
full = record { name = codes "S"; lifetimes = codes "a" ∷ []; others = codes "T" ∷ [] }

abbrev full_arguments : Bool → ArgumentsD
full_arguments t = angle t (generics_of (arg_lifetime (record { name = record { text = codes "a"; span = there }; span = there }) ∷ arg_ty (plain there (codes "T")) ∷ []))

-- `Option<Self>`
option_of_self : in_ty bare (of_one (named here (codes "Option") (angle false (generics_of (arg_ty (plain there (codes "Self")) ∷ []))))) ≡ of_one (named here (codes "Option") (angle false (generics_of (arg_ty (plain there (codes "S")) ∷ []))))
option_of_self = refl

-- `Self` of an item with parameters
self_alone : in_ty full (plain there (codes "Self")) ≡ of_one (named there (codes "S") (full_arguments false))
self_alone = refl

-- `Self<>`
self_with_list : in_ty full (of_one (named there (codes "Self") (angle false end_generics))) ≡ of_one (named there (codes "S") (full_arguments true))
self_with_list = refl

-- `Self::Item`
self_and_more : in_ty full (ty_path no_qself (path false (segments_of (named there (codes "Self") no_arguments ∷ named here (codes "Item") no_arguments ∷ [])))) ≡ ty_path (some_qself (qself (of_one (named there (codes "S") (full_arguments false))) 0)) (path true (segments_of (named here (codes "Item") no_arguments ∷ [])))
self_and_more = refl

-- `[T; Self]`
self_as_length : in_ty full (ty_array (plain here (codes "T")) (ex_path (expr_path no_qself (path false (segments_of (named there (codes "Self") no_arguments ∷ [])))))) ≡ ty_array (plain here (codes "T")) (ex_path (expr_path no_qself (path false (segments_of (named there (codes "S") (full_arguments true) ∷ [])))))
self_as_length = refl

-- `::Self`
leading_stays : in_ty full (ty_path no_qself (path true (segments_of (named there (codes "Self") no_arguments ∷ [])))) ≡ ty_path no_qself (path true (segments_of (named there (codes "Self") no_arguments ∷ [])))
leading_stays = refl

-- the bound `Self<Self>`
bound_stays : in_bound bare (bound_trait (path false (segments_of (named there (codes "Self") (angle false (generics_of (arg_ty (plain there (codes "Self")) ∷ []))) ∷ [])))) ≡ bound_trait (path false (segments_of (named there (codes "Self") (angle false (generics_of (arg_ty (plain there (codes "S")) ∷ []))) ∷ [])))
bound_stays = refl

-- `const N: Self`
const_stays : in_param bare (param_const (record { text = codes "N"; span = here }) (plain there (codes "Self"))) ≡ param_const (record { text = codes "N"; span = here }) (plain there (codes "Self"))
const_stays = refl

-- `Self!`, and what is held as tokens
macro_stays : in_ty bare (ty_macro (path false (segments_of (named there (codes "Self") no_arguments ∷ []))) (word (codes "Self") there ∷ [])) ≡ ty_macro (path false (segments_of (named there (codes "Self") no_arguments ∷ []))) (word (codes "Self") there ∷ [])
macro_stays = refl

tokens_stay : in_ty bare (ty_verbatim (word (codes "Self") there ∷ [])) ≡ ty_verbatim (word (codes "Self") there ∷ [])
tokens_stay = refl

-- a field of a struct, and one of a union
struct_walked : replaced (record { attrs = []; name = record { text = codes "S"; span = here }; params = []; predicates = []; body = struct_body (named_fields (record { attrs = []; name = None; ty = plain there (codes "Self") } ∷ [])) here }) ≡ record { attrs = []; name = record { text = codes "S"; span = here }; params = []; predicates = []; body = struct_body (named_fields (record { attrs = []; name = None; ty = plain there (codes "S") } ∷ [])) here }
struct_walked = refl

union_stays : replaced (record { attrs = []; name = record { text = codes "S"; span = here }; params = []; predicates = []; body = union_body (record { attrs = []; name = None; ty = plain there (codes "Self") } ∷ []) here }) ≡ record { attrs = []; name = record { text = codes "S"; span = here }; params = []; predicates = []; body = union_body (record { attrs = []; name = None; ty = plain there (codes "Self") } ∷ []) here }
union_stays = refl
