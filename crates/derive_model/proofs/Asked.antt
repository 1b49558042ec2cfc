-- The kinds that a syntax type may read, by what it is one level deep.
use Rattle.std.proofs.Common.{◌≡◌, ℕ, ◌≤◌, List, [], ◌∷◌, length, true, false, Option, Some, None, is_some, refl, ap, ◌∙◌, arith}
use Rattle.syntax_trees.specs.declared.tree.Ty.{Ty}
use Rattle.type_spellings.specs.Types.{array_of, tuple_of}
use Rattle.model_defs.specs.Types.{TypeModel, types}
use Rattle.model_defs.specs.Model.{ContainerModel}
use Rattle.value_types.specs.ShapeView.{types_in}
use Rattle.writing_laws.specs.Kinds.{lists, same_kind, may_read}
use Rattle.value_kinds.specs.Kinds.{kinds_where}
use Rattle.value_kinds.specs.declared.type_kinds.TypeKinds.{TypeKinds}

module _ (ms : List ContainerModel) where
  pub read_as : (t u : TypeModel) (x : TypeKinds) → t ≡ u → x ≡ kinds_where (λ k. may_read k ms t) → x ≡ kinds_where (λ k. may_read k ms u)
  read_as t u x e h = h ∙ ap (λ t. kinds_where (λ k. may_read k ms t)) e

  pub some_places : (t : TypeModel) (o : Option ℕ) → is_some o ≡ true → kinds_where (λ k. same_kind k lists) ≡ kinds_where (λ k. may_read k ms (array_of t o))
  some_places t None h = cc
  some_places t (Some n) h = refl

  pub no_places : (t : TypeModel) (o : Option ℕ) → is_some o ≡ false → kinds_where (λ k. false) ≡ kinds_where (λ k. may_read k ms (array_of t o))
  no_places t None h = refl
  no_places t (Some n) h = cc

  pub many_places : (ts : List Ty) (x : TypeKinds) → 1 ≤ length ts → x ≡ kinds_where (λ k. same_kind k lists) → x ≡ kinds_where (λ k. may_read k ms (tuple_of (types (types_in ts))))
  many_places [] x h e = absurd (omega arith)
  many_places (t ∷ ts) x h e = e
