-- A text character by character: the first, and those after it.
use Rattle.std.proofs.Common.{◌≡◌, ℕ, ◌==◌, ◌&&◌, ◌||◌, Bool, true, List, [], ◌∷◌, ◌++◌, length, chars, IsUtf8, arith, ap, ◌∙◌}
use Rattle.std.specs.Char.{encode_utf8}
use Rattle.std.specs.List.{list_all}
use Rattle.std.proofs.lemmas.Str.{chars_past_char, chars-nil}
use Rattle.unicode_ident.specs.Ident.{is_xid_start, is_xid_continue}
use Rattle.schema_tree.specs.KeptName.{spells_identifier}

pub all_past : (p : ℕ → Bool) (bs rest : List ℕ) (c : ℕ) → IsUtf8 bs → bs ≡ encode_utf8 c ++ rest → list_all p (chars bs) ≡ (p c && list_all p (chars rest))
all_past p bs rest c u e = ap (list_all p) (chars_past_char bs rest c u e)

no_bytes : (bs : List ℕ) → length bs ≡ 0 → bs ≡ []
no_bytes [] h = cc
no_bytes (b ∷ bs) h = absurd (omega (arith, h))

pub all_of_none : (p : ℕ → Bool) (bs : List ℕ) → length bs ≡ 0 → list_all p (chars bs) ≡ true
all_of_none p bs h = ap (λ t. list_all p (chars t)) (no_bytes bs h) ∙ ap (list_all p) chars-nil

pub spells_past : (bs rest : List ℕ) (c : ℕ) → IsUtf8 bs → bs ≡ encode_utf8 c ++ rest → spells_identifier (chars bs) ≡ ((is_xid_start c || c == 95) && list_all is_xid_continue (chars rest))
spells_past bs rest c u e = ap spells_identifier (chars_past_char bs rest c u e)
