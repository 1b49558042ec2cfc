-- How many types a type holds: a measure for what goes down a type.
use Rattle.std.proofs.Common.{◌≡◌, ℕ, zero, suc, ◌+◌, ◌<◌, List, [], ◌∷◌, length, get_or, ap, arith}
use Rattle.syntax_trees.specs.declared.tree.Ty.{Ty}
use Rattle.type_spellings.specs.Types.{tuple_of}
use Rattle.model_defs.specs.Types.{TypeModel, option_type, boxed_type, vec_type, set_type, map_type, tuple_type, array_type, TypeModels, no_types, type_then, types}
use Rattle.value_types.specs.declared.rows.Holder.{Holder}
use Rattle.value_types.specs.declared.rows.Holder.TheVariants as holders
use Rattle.value_types.specs.RowView.{held}
use Rattle.value_types.specs.ShapeView.{type_in, types_in}

abbrev mutual
  pub type_size : TypeModel → ℕ
  type_size (option_type t) = suc (type_size t)
  type_size (boxed_type t) = suc (type_size t)
  type_size (vec_type t) = suc (type_size t)
  type_size (set_type t) = suc (type_size t)
  type_size (map_type k t) = suc (type_size k + type_size t)
  type_size (tuple_type ts) = suc (types_size ts)
  type_size (array_type t n) = suc (type_size t)
  type_size _ = 1

  pub types_size : TypeModels → ℕ
  types_size no_types = 0
  types_size (type_then t ts) = suc (type_size t + types_size ts)

pub held_larger : (h : Holder) (t u : TypeModel) → held h t ≡ u → type_size t < type_size u
held_larger holders.Optional t u e = omega (arith, ap type_size e)
held_larger holders.Boxed t u e = omega (arith, ap type_size e)
held_larger holders.List t u e = omega (arith, ap type_size e)
held_larger holders.Set t u e = omega (arith, ap type_size e)

tuple_larger_than : (ts : TypeModels) → types_size ts < type_size (tuple_of ts)
tuple_larger_than no_types = omega arith
tuple_larger_than (type_then t ts) = omega arith

pub tuple_larger : (ts : TypeModels) (u : TypeModel) → tuple_of ts ≡ u → types_size ts < type_size u
tuple_larger ts u e = omega (arith, ap type_size e, tuple_larger_than ts)

pub item_smaller : (ts : List Ty) (i : ℕ) (t : Ty) → i < length ts → t ≡ get_or ts i t → type_size (type_in t) < types_size (types (types_in ts))
item_smaller [] i t h e = absurd (omega arith)
item_smaller (s ∷ ts) zero t h e = omega (arith, ap (λ x. type_size (type_in x)) e)
item_smaller (s ∷ ts) (suc i) t h e = omega (arith, item_smaller ts i t (omega arith) e)
