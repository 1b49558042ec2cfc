use Rattle.std.proofs.Common.{◌≡◌, ℕ, List, map, reverse, string_bytes, ap, ◌∙◌}
use Rattle.std.proofs.Common.{[], ◌∷◌, refl}
use mathlib.Core.List.{reverse_aux}
use Rattle.schema_faults.proofs.found.Found.into_place.Goals as goal

turned_onto : {A B : Type 0} (f : A → B) (xs r : List A) → map f (reverse_aux xs r) ≡ reverse_aux (map f xs) (map f r)
turned_onto f [] r = refl
turned_onto f (x ∷ xs) r = turned_onto f xs (x ∷ r)

pub returns : goal.returns
returns c =
    let turned : map string_bytes c.reverse.new.self.items ≡ reverse (map string_bytes c.self.inside.back.items) = ap (map string_bytes) c.reverse.ensures.items ∙ turned_onto string_bytes c.self.inside.back.items [] in
    let seen : (turned_steps : List (List ℕ)) → turned_steps ≡ reverse (map string_bytes c.self.inside.back.items) → (turned_steps, string_bytes c.self.inside.told) ≡ c.args.self = λ ss e. ap (λ t. (t, string_bytes c.self.inside.told)) e ∙ c.self.view_is in
    seen _ turned
