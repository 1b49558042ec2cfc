-- Lists of schemas, and of members that are left.
use Rattle.std.proofs.Common.{◌≡◌, List, [], ◌∷◌, Bool, true, false, ◌&&◌, ◌||◌, not, refl, ap, ◌∙◌}
use Rattle.std.specs.List.{list_any, list_all}
use Rattle.schema_defs.specs.Schema.{Schema, schemas, schema_list}

pub list_of : (ss : List Schema) → schema_list (schemas ss) ≡ ss
list_of [] = refl
list_of (s ∷ ss) = ap (λ ts. s ∷ ts) (list_of ss)

not_either : (b c : Bool) → not (not b || c) ≡ (b && not c)
not_either true c = refl
not_either false c = refl

-- all pass where none fails
none_fails : {A : Type 0} (p : A → Bool) (xs : List A) → not (list_any (λ x. not (p x)) xs) ≡ list_all p xs
none_fails p [] = refl
none_fails p (x ∷ xs) = not_either (p x) (list_any (λ y. not (p y)) xs) ∙ ap (λ b. p x && b) (none_fails p xs)

pub all_as : {A : Type 0} (p : A → Bool) (xs : List A) (b : Bool) → b ≡ list_any (λ x. not (p x)) xs → not b ≡ list_all p xs
all_as p xs b e = ap not e ∙ none_fails p xs
