-- Marked walks end with two equal locations.
use Rattle.std.proofs.Common.{◌≡◌, ◌-◌, suc, List, [], ◌∷◌, ◌++◌, length, take, true, bytes_eq, refl, sym, ap, ◌∙◌, arith}
use Rattle.std.specs.Prelude.{if◌then◌else◌}
use Rattle.std.specs.Cmp.Lexicographic.{pointwise}
use Rattle.schema_defs.specs.Location.{Location}
use Rattle.merge_walks.specs.Carried.{Walk, is_made, all_but_last, unmarked}

is_made_by_last : (ls : Walk) (a b : Location) → is_made ((ls ++ a ∷ []) ++ b ∷ []) ≡ pointwise bytes_eq a b
is_made_by_last [] a b = refl
is_made_by_last (x ∷ []) a b = refl
is_made_by_last (x ∷ y ∷ []) a b = refl
is_made_by_last (x ∷ y ∷ z ∷ ls) a b = is_made_by_last (y ∷ z ∷ ls) a b

pub made_at : (ws front rest : Walk) (a b : Location) → ws ≡ front ++ b ∷ [] → front ≡ rest ++ a ∷ [] → pointwise bytes_eq a b ≡ is_made ws
made_at ws front rest a b h k = sym (is_made_by_last rest a b) ∙ ap is_made (sym (h ∙ ap (λ ls. ls ++ b ∷ []) k))

but_last : (ls : Walk) → take (length ls - 1) ls ≡ all_but_last ls
but_last [] = refl
but_last (x ∷ []) = refl
but_last (x ∷ y ∷ ls) =
    let n : length (x ∷ y ∷ ls) - 1 ≡ suc (length (y ∷ ls) - 1) = omega arith in
    ap (λ m. take m (x ∷ y ∷ ls)) n ∙ ap (λ ks. x ∷ ks) (but_last (y ∷ ls))

pub unmarked_by_taking : (ws left : Walk) → true ≡ is_made ws → left ≡ take (length ws - 1) ws → left ≡ unmarked ws
unmarked_by_taking ws left h k = k ∙ but_last ws ∙ ap (λ b. if b then all_but_last ws else ws) h
