-- The longest of walks, one after the other, is the longest of all.
use Rattle.std.proofs.Common.{◌≡◌, List, [], ◌∷◌, ◌++◌, Option, Some, None, unwrap_or, refl, sym, ap, ◌∙◌}
use Rattle.schema_defs.specs.Schema.{Same, no_same, same_value}
use Rattle.merge_walks.specs.Carried.{Walk}
use Rattle.merge_walks.specs.Made.{longest_after, longest_or, walks_of_list, walks_of_maybe, walks_of_same}
use Rattle.merge_walked.specs.Longest.{longest_with, longest_so}

after_all : (v : Walk) (ws : List Walk) → longest_so (Some v) ws ≡ Some (longest_after v ws)
after_all v [] = refl
after_all v (w ∷ ws) = after_all (longest_with (Some v) w) ws

chosen : (w : Walk) (ws : List Walk) → longest_or w ws ≡ unwrap_or (longest_so None ws) w
chosen w [] = refl
chosen w (v ∷ vs) = ap (λ o. unwrap_or o w) (sym (after_all v vs))

pub some_chosen : (w v : Walk) (ws : List Walk) → Some v ≡ longest_so None ws → v ≡ longest_or w ws
some_chosen w v ws h = ap (λ o. unwrap_or o w) h ∙ sym (chosen w ws)

pub none_chosen : (w : Walk) (ws : List Walk) → None ≡ longest_so None ws → w ≡ longest_or w ws
none_chosen w ws h = ap (λ o. unwrap_or o w) h ∙ sym (chosen w ws)

-- one list after another
pub split : (o : Option Walk) (vs ws : List Walk) → longest_so o (vs ++ ws) ≡ longest_so (longest_so o vs) ws
split o [] ws = refl
split o (v ∷ vs) ws = split (Some (longest_with o v)) vs ws

pub joined : (o : Option Walk) (a b c e : List Walk) → longest_so (longest_so (longest_so (longest_so o a) b) c) e ≡ longest_so o (a ++ b ++ c ++ e)
joined o a b c e =
    sym (split o (a ++ b ++ c) e ∙ ap (λ p. longest_so p e) (split o (a ++ b) c ∙ ap (λ p. longest_so p c) (split o a b)))
