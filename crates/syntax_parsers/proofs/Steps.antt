-- One more piece read, behind what was read before.
use Rattle.std.proofs.Common.{◌≡◌, List, [], ◌∷◌, ◌++◌, ap, refl, append_assoc}
use Rattle.std.specs.Prelude.{Result, Ok, Err}
use Rattle.syntax_trees.specs.declared.cursor.SyntaxError.{SyntaxError}
use Rattle.syntax_parsers.specs.Answer.{with_front, with_first}

pub front_step : {A : Type 0} → (xs : List A) (x : A) (r : Result (List A) SyntaxError) → with_front (xs ++ x ∷ []) r ≡ with_front xs (with_front (x ∷ []) r)
front_step xs x (Ok ys) = ap Ok (append_assoc xs (x ∷ []) ys)
front_step xs x (Err e) = refl

pub first_step : {A B : Type 0} → (xs : List A) (x : A) (r : Result (List A × B) SyntaxError) → with_first (xs ++ x ∷ []) r ≡ with_first xs (with_first (x ∷ []) r)
first_step {A} {B} xs x (Ok y) = ap (λ (zs : List A). Ok (zs, y.1)) (append_assoc xs (x ∷ []) y.0)
first_step xs x (Err e) = refl
