-- The modes in which a pattern is read.
use Rattle.std.proofs.Common.{◌≡◌, ◌∙◌, ap, ℕ, List, true, false, Some, None, chars}
use Rattle.std.specs.Option.{option_or}
use Rattle.plain_patterns.specs.Ends.{Searched, read_in, rewritten}

-- a pattern that is plain outside of unicode mode
pub first_mode : (pattern text : List ℕ) (new : Searched) → text ≡ chars pattern → Some new ≡ read_in false text → Some new ≡ rewritten pattern
unfolding rewritten
first_mode pattern text new e f = ap (λ o. option_or o (read_in true (chars pattern))) (f ∙ ap (read_in false) e)

-- one that isn't
pub second_mode : (pattern text later : List ℕ) → text ≡ chars pattern → None ≡ read_in false text → later ≡ chars pattern → read_in true later ≡ rewritten pattern
unfolding rewritten
second_mode pattern text later e f g = ap (read_in true) g ∙ ap (λ o. option_or o (read_in true (chars pattern))) (f ∙ ap (read_in false) e)
