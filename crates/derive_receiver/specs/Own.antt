-- What stands in place of `Self`: the item's name, with the item's parameters as arguments. In an item, `Self` means
-- the item's own type (the Rust Reference, "Paths", `Self`).
use Rattle.std.specs.Prelude.{ℕ, List, [], ◌∷◌, ◌++◌, map, flat_map, Bool, false}
use Rattle.token_trees.specs.declared.token.Span.{Span}
use Rattle.token_trees.specs.Token.{Name}
use Rattle.syntax_trees.specs.Syntax.{TyD, ty_path, PathD, path, segment, ArgumentsD, no_arguments, angle, GenericD, arg_lifetime, arg_ty, no_qself, end_segments, more_segments, generics_of}
use Rattle.syntax_trees.specs.Item.{ParamD, param_ty, param_lifetime, param_const}

-- an item's name, its lifetimes, and its other parameters, each list in the item's order
pub record Own : Type 0 where
  pub name : List ℕ
  pub lifetimes : List (List ℕ)
  pub others : List (List ℕ)

-- the name of a parameter that is a lifetime, and of one that isn't
abbrev pub lifetime_name : ParamD → List (List ℕ)
lifetime_name (param_ty n bs) = []
lifetime_name (param_lifetime l) = l.name.text ∷ []
lifetime_name (param_const n t) = []

abbrev pub other_name : ParamD → List (List ℕ)
other_name (param_ty n bs) = n.text ∷ []
other_name (param_lifetime l) = []
other_name (param_const n t) = n.text ∷ []

abbrev pub own_of : Name → List ParamD → Own
own_of n ps = record { name = n.text; lifetimes = flat_map lifetime_name ps; others = flat_map other_name ps }

abbrev pub name_at : Span → List ℕ → Name
name_at at x = record { text = x; span = at }

-- a lifetime as an argument: its name and its quote stand at that place
abbrev pub lifetime_at : Span → List ℕ → GenericD
lifetime_at at x = arg_lifetime (record { name = name_at at x; span = at })

-- another parameter as an argument: a type, also for a constant
abbrev pub parameter_at : Span → List ℕ → GenericD
parameter_at at x = arg_ty (ty_path no_qself (path false (more_segments (segment (name_at at x) no_arguments) end_segments)))

-- the lifetimes come first
abbrev pub arguments_at : Span → Own → List GenericD
arguments_at at o = map (lifetime_at at) o.lifetimes ++ map (parameter_at at) o.others

-- arguments in angle brackets, where there are some
abbrev pub in_angles : Bool → List GenericD → ArgumentsD
in_angles turbofish [] = no_arguments
in_angles turbofish (g ∷ gs) = angle turbofish (generics_of (g ∷ gs))

-- the item's name with its arguments, with `::` between the two where `turbofish`
abbrev pub own_path : Bool → Span → Own → PathD
own_path turbofish at o = path false (more_segments (segment (name_at at o.name) (in_angles turbofish (arguments_at at o))) end_segments)

abbrev pub own_ty : Span → Own → TyD
own_ty at o = ty_path no_qself (own_path false at o)
