-- The types that are written for entries with ids. What stands in a Vec, a set or a map isn't used by value.
use Rattle.std.specs.Prelude.{ℕ, zero, suc, List, length, map, Bool, false, Option, Some, None, codes}
use Rattle.std.specs.Fmt.{decimal}
use Rattle.token_trees.specs.Token.{digits, site}
use Rattle.syntax_trees.specs.Syntax.{TyD, ty_array, ty_tuple, ex_fixed, end_tys, tys_of}
use Rattle.entry_defs.specs.Space.{Id, EntryAt, boolean_at, integer_at, text_at, native_at, any_at, null_at, option_at, vec_at, set_at, map_at, tuple_entry_at, array_at, reference_at, item_at, Space, entry_at}
use Rattle.emit_defs.specs.Trees.{lone, integer_ty, text_ty, native_ty, any_ty, option_ty, in_std, of_one, map_ty, used_ty}
use Rattle.space_defs.specs.Items.{name_at}

abbrev pub none_boxed : Id → Bool
none_boxed i = false

abbrev pub used_ty_at : Bool → List ℕ → TyD
used_ty_at is_boxed n = used_ty (λ m. is_boxed) n

-- where the types of its parts are known
module _ (name : Id → List ℕ) (ty : (Id → Bool) → Id → TyD) where
  abbrev pub form_ty : (Id → Bool) → Id → Option EntryAt → TyD
  form_ty b i (Some boolean_at) = lone (codes "bool")
  form_ty b i (Some (integer_at g)) = integer_ty g
  form_ty b i (Some text_at) = text_ty
  form_ty b i (Some (native_at f)) = native_ty f
  form_ty b i (Some any_at) = any_ty
  form_ty b i (Some null_at) = ty_tuple end_tys
  form_ty b i (Some (option_at j)) = option_ty (ty b j)
  form_ty b i (Some (vec_at j)) = in_std (codes "vec") (codes "Vec") (of_one (ty none_boxed j))
  form_ty b i (Some (set_at j)) = in_std (codes "collections") (codes "HashSet") (of_one (ty none_boxed j))
  form_ty b i (Some (map_at l j)) = map_ty (ty none_boxed l) (ty none_boxed j)
  form_ty b i (Some (tuple_entry_at js)) = ty_tuple (tys_of (map (ty b) js))
  form_ty b i (Some (array_at j n)) = ty_array (ty b j) (ex_fixed (digits (decimal n)) site)
  form_ty b i (Some (reference_at j)) = used_ty_at (b j) (name j)
  form_ty b i (Some (item_at n s)) = used_ty_at (b i) n
  form_ty b i None = any_ty

module _ (space : Space) where
  -- in which so many entries stand inside one another at most; `b` says which items are boxed
  abbrev pub ty_within : ℕ → (Id → Bool) → Id → TyD
  ty_within zero b i = any_ty
  ty_within (suc k) b i = form_ty (name_at space) (λ c j. ty_within k c j) b i (entry_at space i)

  -- the parts of what is no item have lower ids, so as many as the space has are enough
  abbrev pub ty_at : (Id → Bool) → Id → TyD
  ty_at b i = ty_within (length space) b i
