-- Fields of types, one after another.
use Rattle.std.proofs.Common.{◌≡◌, List, [], ◌∷◌, ◌++◌, map, refl, ap, ◌∙◌}
use Rattle.std.proofs.lemmas.List.{map-append}
use Rattle.syntax_trees.specs.Syntax.{TyD, tys_of}
use Rattle.emit_defs.specs.Trees.{unnamed_field, unnamed_fields_of}

-- one type more, behind others
pub unnamed_more : (ts : List TyD) (t : TyD) → unnamed_fields_of (tys_of (ts ++ t ∷ [])) ≡ unnamed_fields_of (tys_of ts) ++ unnamed_field t ∷ []
unnamed_more [] t = refl
unnamed_more (u ∷ ts) t = ap (λ fs. unnamed_field u ∷ fs) (unnamed_more ts t)

-- the same of what types are seen in
pub unnamed_seen : {A : Type 0} → (f : A → TyD) (xs : List A) (x : A) → unnamed_fields_of (tys_of (map f (xs ++ x ∷ []))) ≡ unnamed_fields_of (tys_of (map f xs)) ++ unnamed_field (f x) ∷ []
unnamed_seen f xs x = ap (λ ts. unnamed_fields_of (tys_of ts)) (map-append f xs (x ∷ [])) ∙ unnamed_more (map f xs) (f x)
