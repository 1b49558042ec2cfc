-- What is marked, one step after another.
use Rattle.std.proofs.Common.{◌≡◌, ℕ, ◌<◌, ◌≤◌, ◌⊎◌, inl, inr, List, length, get_or, set, Bool, true, false, refl, sym, ap, subst, ◌∙◌, arith}
use Rattle.std.specs.Prelude.{Contains, Vec}
use Rattle.std.specs.declared.alloc.Global.{Global}
use Rattle.std.proofs.lemmas.Bool.{cases_lt, cases_eq}
use Rattle.std.proofs.lemmas.List.{get_or-set_other}
use Rattle.std.proofs.lemmas.List.Elements.{Contains-get_or}
use Rattle.reference_graph.specs.Graph.{Graph, graph_of, row_of}
use Rattle.reference_graph.proofs.Routes.{none_past, graph_length}
use Rattle.item_uses.specs.Reached.{Reached, at_start, from_there, is_marked, AreReached, AllMarked, IsClosed}

-- one node is marked
pub one_marked : (old new : List Bool) (i : ℕ) → i < length old → new ≡ set old i true → (j : ℕ) → is_marked new j ≡ true → (is_marked old j ≡ true) ⊎ (j ≡ i)
one_marked old new i h e j m = elim (cases_eq j i) [
  | inl s ↦ inr s
  | inr d ↦ inl (sym (ap (λ xs. get_or xs j false) e ∙ get_or-set_other old i j true false d) ∙ m)
]

-- one more of a row
pub mark_turn : (row : List ℕ) (i d : ℕ) (first old new : List Bool) → i < length row → ((j : ℕ) → is_marked new j ≡ true → (is_marked old j ≡ true) ⊎ (j ≡ get_or row i d))
    → ((j : ℕ) → is_marked old j ≡ true → (is_marked first j ≡ true) ⊎ Contains row j) → (j : ℕ) → is_marked new j ≡ true → (is_marked first j ≡ true) ⊎ Contains row j
mark_turn row i d first old new h step was j m = elim (step j m) [
  | inl o ↦ was j o
  | inr s ↦ inr (subst (Contains row) (sym s) (Contains-get_or row i d h))
]

-- the starts are marked first
pub at_first : (g : Graph) (starts : List ℕ) (old new : List Bool) → ((j : ℕ) → is_marked old j ≡ true → ⊥)
    → ((j : ℕ) → is_marked new j ≡ true → (is_marked old j ≡ true) ⊎ Contains starts j) → AreReached g starts new
at_first g starts old new none h j m = elim (h j m) [ inl o ↦ absurd (none j o) | inr c ↦ at_start j c ]

-- then what a marked node leads to
pub onward : (g : Graph) (starts : List ℕ) (i : ℕ) (row : List ℕ) (old new : List Bool) → row_of g i ≡ row → is_marked old i ≡ true
    → ((j : ℕ) → is_marked new j ≡ true → (is_marked old j ≡ true) ⊎ Contains row j) → AreReached g starts old → AreReached g starts new
onward g starts i row old new e k h was j m = elim (h j m) [ inl o ↦ was j o | inr c ↦ from_there i j (was i k) (subst (λ xs. Contains xs j) (sym e) c) ]

-- beyond the last row nothing is led to
pub rows_past : (rows : List (Vec ℕ Global)) (flags : List Bool) (n : ℕ) → length rows ≤ n
    → ((i : ℕ) → i < n → is_marked flags i ≡ true → AllMarked flags (row_of (graph_of rows) i))
    → (i : ℕ) → is_marked flags i ≡ true → AllMarked flags (row_of (graph_of rows) i)
rows_past rows flags n h each i m = elim (cases_lt i n) [
  | inl l ↦ each i l m
  | inr l ↦ λ j c. absurd (none_past (graph_of rows) i j (let s : length (graph_of rows) ≡ length rows = graph_length rows in omega arith) c)
]

pub closed : (g : Graph) (starts : List ℕ) (flags : List Bool) → AllMarked flags starts → ((i : ℕ) → is_marked flags i ≡ true → AllMarked flags (row_of g i)) → IsClosed g starts flags
closed g starts flags b o = record { begun = b; onward = o }
