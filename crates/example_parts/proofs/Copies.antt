-- A letter, so many times, as a value.
use Rattle.std.proofs.Common.{◌≡◌, ℕ, zero, suc, [], ◌∷◌, replicate, String, string_bytes, refl, ap, ◌∙◌, rules}
use Rattle.std.specs.List.{repeat}
use Rattle.std.specs.declared.alloc.Global.{Global}
use Rattle.serde_json.specs.declared.value.Value.{the_lemmas as json_lemmas}
use Rattle.serde_json.specs.declared.value.Value.TheVariants as json'
use Rattle.json_value.specs.Value.{text}
use Rattle.json_value.specs.View.{kept_view}

copies : (n : ℕ) → repeat {A = ℕ} n (97 ∷ []) ≡ replicate n 97
copies zero = refl
copies (suc n) = ap (λ t. 97 ∷ t) (copies n)

pub text_kept : (s : String Global) → kept_view (json'.String s) ≡ text (string_bytes s)
text_kept s = search (rules, json_lemmas)

pub text_of_copies : (s : String Global) (n : ℕ) → string_bytes s ≡ repeat {A = ℕ} n (97 ∷ []) → kept_view (json'.String s) ≡ text (replicate n 97)
text_of_copies s n e = text_kept s ∙ ap text (e ∙ copies n)
