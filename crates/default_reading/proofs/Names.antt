-- The names of members.
use Rattle.std.proofs.Common.{◌≡◌, ℕ, List, [], ◌∷◌, length, Option, Some, None, option_map, string_bytes, string_cmp, nat_cmp, is_eq, Less, Bool, true, false, ◌||◌, cond, bytes_eq, String, Global, Bor, refl, sym, ap, ◌∙◌}
use Rattle.std.specs.List.{AllByRecursion}
use Rattle.std.specs.List.Sorted.{IsStrictlySortedBy}
use Rattle.std.specs.Map.{keys_of, lookup}
use Rattle.std.specs.BTreeMap.{is_at}
use Rattle.std.specs.Cmp.Lexicographic.{slice_cmp}
use Rattle.std.proofs.lemmas.Map.Text.{is_eq-slice_cmp}
use Rattle.std.proofs.lemmas.Slice.Eq.{bytes_eq-Decides}
use Rattle.serde_json.specs.View.{members_view}
use Rattle.serde_json.specs.declared.value.Value.{Value as Json}
use Rattle.json_value.specs.Value.{Value, has_name, member_at}
use Rattle.json_value.specs.View.{members_of, kept_view}
use Rattle.default_reading.specs.Steps.{Differ, only_of}

abbrev pub Entry : Type 0
Entry = String Global × Json

-- ---- names that stand in order differ

above : (e : Entry) (es : List Entry) → AllByRecursion (λ y. string_cmp e.0 y ≡ Less) (keys_of es) → has_name (string_bytes e.0) (members_of (members_view es)) ≡ false
above e [] h = refl
above e (f ∷ es) h =
    let differs : bytes_eq (string_bytes e.0) (string_bytes f.0) ≡ false = sym (is_eq-slice_cmp (string_bytes e.0) (string_bytes f.0)) ∙ ap is_eq h.0 in
    let rest = above e es h.1 in
    λ i. differs i || rest i

pub ordered_differ : (es : List Entry) → IsStrictlySortedBy string_cmp (keys_of es) → Differ (members_of (members_view es))
unfolding IsStrictlySortedBy
ordered_differ [] h = tt
ordered_differ (e ∷ es) h = (above e es h.0, ordered_differ es h.1)

-- ---- what a map has at a name

chosen : (b : Bool) (v : Json) (o : Option Json) (w : Option Value) → option_map kept_view o ≡ w → option_map kept_view (cond b (Some v) o) ≡ cond b (Some (kept_view v)) w
chosen true v o w h = refl
chosen false v o w h = h

found_at : (n : List ℕ) (es : List Entry) → option_map kept_view (lookup (is_at (λ k. slice_cmp nat_cmp n (string_bytes k))) es) ≡ member_at n (members_of (members_view es))
found_at n [] = refl
found_at n (e ∷ es) = chosen _ e.1 _ _ (found_at n es) ∙ ap (λ b. cond b (Some (kept_view e.1)) (member_at n (members_of (members_view es)))) (is_eq-slice_cmp n (string_bytes e.0))

behind : (o : Option (Bor Json)) → option_map (λ x. kept_view x.now) o ≡ option_map kept_view (option_map (λ x. x.now) o)
behind None = refl
behind (Some x) = refl

pub got : (n : List ℕ) (es : List Entry) (o : Option (Bor Json)) → option_map (λ x. x.now) o ≡ lookup (is_at (λ k. slice_cmp nat_cmp n (string_bytes k))) es
    → option_map (λ x. kept_view x.now) o ≡ member_at n (members_of (members_view es))
got n es o h = behind o ∙ ap (option_map kept_view) h ∙ found_at n es

-- ---- the only member

pub not_only : (es : List Entry) → (length es ≡ 1 → ⊥) → None ≡ only_of (members_of (members_view es))
not_only [] h = refl
not_only (e ∷ []) h = absurd (h refl)
not_only (e ∷ f ∷ es) h = refl

-- ---- same names

pub same_name : (m n : List ℕ) → bytes_eq m n ≡ true → m ≡ n
same_name m n h = (bytes_eq-Decides m n).0 h

pub turned : (m n : List ℕ) → bytes_eq m n ≡ true → bytes_eq n m ≡ true
turned m n h = (bytes_eq-Decides n m).1 (sym (same_name m n h))

pub neither-first : (a b : Bool) → (a || b) ≡ false → a ≡ false
neither-first true b h = cc
neither-first false b h = refl

pub neither-second : (a b : Bool) → (a || b) ≡ false → b ≡ false
neither-second true b h = cc
neither-second false b h = h
