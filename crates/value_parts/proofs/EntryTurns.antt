-- Members read one after the other.
use Rattle.std.proofs.Common.{◌≡◌, ℕ, suc, zero, ◌+◌, ◌<◌, ◌≤◌, List, [], ◌∷◌, ◌++◌, map, drop, length, get_or, refl, sym, ap, ◌∙◌, arith, Option, Some, None, option_map, Bool, true, false, cond, not, bytes_eq, String, string_bytes}
use Rattle.std.specs.declared.alloc.Global.{Global}
use Rattle.serde_json.specs.declared.value.Value as json
use Rattle.serde_json.specs.View.{members_view}
use Rattle.json_value.specs.Value.{Value, entries}
use Rattle.json_value.specs.View.{members_of, kept_view}
use Rattle.model_defs.specs.Model.{VariantModel}
use Rattle.value_parts.specs.declared.members.Member.{Member}
use Rattle.value_parts.specs.At.{Entry}
use Rattle.value_parts.specs.Choice.{Choice, entry_of, entries_without, one_choice, contents_choice, variant_from, settled}
use Rattle.reading_defs.specs.Reading.{stopped}
use Rattle.value_parts.specs.Entries.{entry_view, entries_view}
use Rattle.value_parts.proofs.Turns.{mapped_get, mapped_past, one_more, all_done}

-- ---- the members of an object

pub member_turn : (old new : List Member) (m : Member) (it next : List (String Global × json.Value)) (k : String Global) (v : json.Value) (w : List Entry)
    → it ≡ (k, v) ∷ next → m.name.now ≡ string_bytes k → m.value.now ≡ v → new ≡ old ++ m ∷ []
    → entries_view old ++ entries (members_of (members_view it)) ≡ w → entries_view new ++ entries (members_of (members_view next)) ≡ w
member_turn old new m it next k v w step n u more was =
    one_more entry_view old new m (entries (members_of (members_view next))) w more
    ((λ i. entries_view old ++ (n i, kept_view (u i)) ∷ entries (members_of (members_view next))) ∙ ap (λ es. entries_view old ++ entries (members_of (members_view es))) (sym step) ∙ was)

pub members_end : (old : List Member) (it : List (String Global × json.Value)) (w : List Entry) → it ≡ [] → entries_view old ++ entries (members_of (members_view it)) ≡ w → entries_view old ≡ w
members_end old it w h was = all_done entry_view old (entries (members_of (members_view it))) w (ap (λ es. entries (members_of (members_view es))) h) was

-- ---- the first of a name

pub entry_here : (ms : List Member) (i : ℕ) (d : Member) (n : List ℕ) → i < length ms → bytes_eq n (get_or ms i d).name.now ≡ true
    → entry_of n (entries_view (drop i ms)) ≡ Some (entry_view (get_or ms i d))
entry_here ms i d n h t =
    ap (entry_of n) (mapped_get entry_view ms i d h) ∙ ap (λ b. cond b (Some (entry_view (get_or ms i d))) (entry_of n (entries_view (drop (i + 1) ms)))) t

pub entry_later : (ms : List Member) (i : ℕ) (d : Member) (n : List ℕ) → i < length ms → bytes_eq n (get_or ms i d).name.now ≡ false
    → entry_of n (entries_view (drop i ms)) ≡ entry_of n (entries_view (drop (i + 1) ms))
entry_later ms i d n h t =
    ap (entry_of n) (mapped_get entry_view ms i d h) ∙ ap (λ b. cond b (Some (entry_view (get_or ms i d))) (entry_of n (entries_view (drop (i + 1) ms)))) t

pub entry_nowhere : (ms : List Member) (i : ℕ) (n : List ℕ) → length ms ≤ i → entry_of n (entries_view (drop i ms)) ≡ None
entry_nowhere ms i n h = ap (entry_of n) (mapped_past entry_view ms i h)

-- ---- the others

pub other_kept : (ms old new : List Member) (i : ℕ) (d : Member) (n : List ℕ) (w : List Entry) → i < length ms → bytes_eq n (get_or ms i d).name.now ≡ false → new ≡ old ++ get_or ms i d ∷ []
    → entries_view old ++ entries_without n (entries_view (drop i ms)) ≡ w → entries_view new ++ entries_without n (entries_view (drop (i + 1) ms)) ≡ w
other_kept ms old new i d n w h t e was =
    one_more entry_view old new (get_or ms i d) (entries_without n (entries_view (drop (i + 1) ms))) w e
    (ap (λ es. entries_view old ++ es)
    (sym (ap (entries_without n) (mapped_get entry_view ms i d h) ∙ ap (λ b. cond (not b) (entry_view (get_or ms i d) ∷ entries_without n (entries_view (drop (i + 1) ms))) (entries_without n (entries_view (drop (i + 1) ms)))) t)) ∙ was)

pub other_dropped : (ms old : List Member) (i : ℕ) (d : Member) (n : List ℕ) (w : List Entry) → i < length ms → bytes_eq n (get_or ms i d).name.now ≡ true
    → entries_view old ++ entries_without n (entries_view (drop i ms)) ≡ w → entries_view old ++ entries_without n (entries_view (drop (i + 1) ms)) ≡ w
other_dropped ms old i d n w h t was =
    ap (λ es. entries_view old ++ es)
    (sym (ap (entries_without n) (mapped_get entry_view ms i d h) ∙ ap (λ b. cond (not b) (entry_view (get_or ms i d) ∷ entries_without n (entries_view (drop (i + 1) ms))) (entries_without n (entries_view (drop (i + 1) ms)))) t)) ∙ was

pub others_end : (ms old : List Member) (i : ℕ) (n : List ℕ) (w : List Entry) → length ms ≤ i
    → entries_view old ++ entries_without n (entries_view (drop i ms)) ≡ w → entries_view old ≡ w
others_end ms old i n w h was = all_done entry_view old (entries_without n (entries_view (drop i ms))) w (ap (entries_without n) (mapped_past entry_view ms i h)) was

-- ---- one member

pub one_alone : (ws : List VariantModel) (ms : List Member) (d : Member) (c : Choice) → length ms ≡ 1
    → c ≡ contents_choice (entry_view (get_or ms 0 d)) (variant_from 0 ws (get_or ms 0 d).name.now) → c ≡ one_choice ws (entries_view ms)
one_alone ws [] d c h e = absurd (omega (arith, h))
one_alone ws (m ∷ []) d c h e = e
one_alone ws (m ∷ n ∷ ms) d c h e = absurd (omega (arith, h))

pub none_alone : (ws : List VariantModel) (ms : List Member) → (length ms ≡ 1 → ⊥) → settled (stopped []) ≡ one_choice ws (entries_view ms)
none_alone ws [] h = refl
none_alone ws (m ∷ []) h = absurd (h refl)
none_alone ws (m ∷ n ∷ ms) h = refl
