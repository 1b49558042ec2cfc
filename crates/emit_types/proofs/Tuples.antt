-- The type of a tuple, where those of its parts are written.
use Rattle.std.proofs.Common.{◌≡◌, ℕ, List, map, Bool, Vec, Some, sym, ap, ◌∙◌}
use Rattle.std.specs.declared.alloc.Global.{Global}
use Rattle.syntax_trees.specs.Syntax.{TyD, ty_tuple, tys_of}
use Rattle.entry_defs.specs.Space.{Id, Space}
use Rattle.entry_types.specs.declared.entry.TypeId.{TypeId}
use Rattle.entry_types.specs.declared.entry.TypeEntry.{TypeEntry}
use Rattle.entry_types.specs.declared.entry.TypeEntry.TheVariants.{Tuple}
use Rattle.entry_types.specs.View.{id_view, entry_view}
use Rattle.space_defs.specs.Items.{name_at}
use Rattle.space_defs.specs.Types.{form_ty, ty_within}

module _ (space : Space) (k : ℕ) (b : Id → Bool) where
  pub tuple_written : (i : Id) (e : TypeEntry) (ids : Vec TypeId Global) (lent : List TypeId) (ts : List TyD) (t : TyD) → e ≡ Tuple ids → lent ≡ ids.items → ts ≡ map (ty_within space k b) (map id_view lent)
      → t ≡ ty_tuple (tys_of ts) → t ≡ form_ty (name_at space) (λ c j. ty_within space k c j) b i (Some (entry_view e))
  tuple_written i e ids lent ts t is same seen written =
      written
      ∙ ap (λ z. ty_tuple (tys_of z)) (seen ∙ ap (λ js. map (ty_within space k b) (map id_view js)) same)
      ∙ ap (λ x. form_ty (name_at space) (λ c j. ty_within space k c j) b i (Some (entry_view x))) (sym is)
