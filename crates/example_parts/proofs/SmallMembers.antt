-- The members of an object of the program: their names are texts, and rise.
use Rattle.std.proofs.Common.{◌≡◌, List, [], ◌∷◌, Bool, true, false, ◌&&◌, String, string_bytes, string_cmp, refl, sym, ap, ◌∙◌}
use Rattle.std.specs.Str.{is_utf8}
use Rattle.std.specs.Ordering.{is_lt}
use Rattle.std.specs.Map.{keys_of}
use Rattle.std.specs.List.Sorted.{IsStrictlySortedBy}
use Rattle.std.specs.declared.alloc.Global.{Global}
use Rattle.std.proofs.lemmas.Str.{is_utf8-from_IsUtf8, IsUtf8-string_bytes}
use Rattle.serde_json.specs.declared.value.Value as json
use Rattle.serde_json.specs.declared.value.Value.TheVariants as json'
use Rattle.serde_json.specs.View.{members_view}
use Rattle.json_value.specs.View.{members_of, kept_view}
use Rattle.example_defs.specs.Built.{is_small, members_are_small, is_below_first}
use Rattle.example_parts.proofs.Copies.{text_kept}

abbrev small : List (String Global × json.Value) → Bool
small es = members_are_small (members_of (members_view es))

is_text : (s : String Global) → is_utf8 (string_bytes s) ≡ true
is_text s = is_utf8-from_IsUtf8 (string_bytes s) (IsUtf8-string_bytes s)

pub text_small : (v : json.Value) (s : String Global) → v ≡ json'.String s → true ≡ is_small (kept_view v)
text_small v s e = sym (ap (λ u. is_small (kept_view u)) e ∙ ap is_small (text_kept s) ∙ is_text s)

is_below : (k : String Global) (v : json.Value) (es : List (String Global × json.Value)) → IsStrictlySortedBy string_cmp (keys_of ((k, v) ∷ es)) → is_below_first (string_bytes k) (members_of (members_view es)) ≡ true
unfolding IsStrictlySortedBy
is_below k v [] h = refl
is_below k v (e ∷ es) h = ap is_lt h.0.0

pub rest_rises : (k : String Global) (v : json.Value) (es : List (String Global × json.Value)) → IsStrictlySortedBy string_cmp (keys_of ((k, v) ∷ es)) → IsStrictlySortedBy string_cmp (keys_of es)
unfolding IsStrictlySortedBy
rest_rises k v es h = h.1

and_true : (b r : Bool) → ((b && true) && r) ≡ (b && r)
and_true true r = refl
and_true false r = refl

step : (k : String Global) (v : json.Value) (es : List (String Global × json.Value)) (b : Bool) → IsStrictlySortedBy string_cmp (keys_of ((k, v) ∷ es)) → b ≡ is_small (kept_view v)
    → small ((k, v) ∷ es) ≡ (b && small es)
step k v es b h q =
    (λ i. ((is_text k i && sym q i) && is_below k v es h i) && small es) ∙ and_true b (small es)

module _ (it es : List (String Global × json.Value)) (k : String Global) (v : json.Value) (b whole : Bool) (came : it ≡ (k, v) ∷ es)
    (rises : IsStrictlySortedBy string_cmp (keys_of ((k, v) ∷ es))) (q : b ≡ is_small (kept_view v)) (was : small it ≡ whole) where
  stepped : (b && small es) ≡ whole
  stepped = sym (ap small came ∙ step k v es b rises q) ∙ was

  pub next_small : b ≡ true → small es ≡ whole
  next_small t = ap (λ c. c && small es) (sym t) ∙ stepped
