-- What a table of which nodes are reached tells of parts.
use Rattle.std.proofs.Common.{◌≡◌, ◌≤◌, ◌<◌, ◌+◌, ◌-◌, ℕ, suc, zero, List, [], ◌∷◌, length, get_or, Bool, true, false, ◌||◌, refl, sym, ap, ◌∙◌, subst, true≢false, ◌⊎◌, inl, inr, arith}
use Rattle.std.specs.Prelude.{◌↔◌, ◌==◌, slice_index, Vec}
use Rattle.std.specs.declared.alloc.Global.{Global}
use Rattle.std.specs.List.{list_any}
use Rattle.std.proofs.lemmas.Bool.{cases_lt}
use Rattle.std.proofs.lemmas.List.{get_or_past, length-map}
use Rattle.use_graph.specs.Graph.{Graph, graph_of, row_of, Reaches, reaches_within, TellsParts}
use Rattle.use_graph.specs.Table.{Table, table_of, cell, is_next, IsTable, IsNextRow, IsLike, IsFirstLike}
use Rattle.use_graph.proofs.Ways.{reaches_on, reaching_is_decided}
use Rattle.use_graph.proofs.Rounds.{graph_length}

-- tests that agree pass somewhere in the same lists
same_any : (p q : ℕ → Bool) → ((k : ℕ) → p k ≡ q k) → (xs : List ℕ) → list_any p xs ≡ list_any q xs
same_any p q h [] = refl
same_any p q h (x ∷ xs) = ap (λ b. b || list_any p xs) (h x) ∙ ap (λ b. q x || b) (same_any p q h xs)

pub next_table : (g : Graph) (n : ℕ) (t u : Table) → IsTable g n t → length u ≡ length g
    → ((i : ℕ) → i < length g → IsNextRow t (row_of g i) (length g) (get_or u i [])) → IsTable g (suc n) u
next_table g n t u h e rows i j l = elim (cases_lt i (length g)) [
  | inl k ↦ rows i k j l ∙ same_any (λ k. (k == j) || cell t k j) (λ k. (k == j) || reaches_within g n k j) (λ k. ap (λ b. (k == j) || b) (h k j l)) (row_of g i)
  | inr m ↦
      ap (λ cells. get_or cells j false) (get_or_past u i [] (omega arith))
      ∙ sym (ap (λ row. list_any (λ k. (k == j) || reaches_within g n k j) row) (get_or_past g i [] m))
]

module _ (g : Graph) (t : Table) (h : IsTable g (length g) t) where
  told : (i j : ℕ) → j < length g → cell t i j ≡ true → Reaches g i j
  told i j l e = (reaching_is_decided g (length g) i j (omega arith)).0 (sym (h i j l) ∙ e)

  reached : (i j : ℕ) → j < length g → Reaches g i j → cell t i j ≡ true
  reached i j l r = h i j l ∙ (reaching_is_decided g (length g) i j (omega arith)).1 r

  abbrev Together : ℕ → ℕ → Type 0
  Together i j = (i ≡ j) ⊎ (Reaches g i j × Reaches g j i)

  together : (i j : ℕ) → i < length g → j < length g → IsLike t i j → Together i j
  together i j k l (inl e) = inl e
  together i j k l (inr c) = inr (told i j l c.0, told j i k c.1)

  like : (i j : ℕ) → i < length g → j < length g → Together i j → IsLike t i j
  like i j k l (inl e) = inl e
  like i j k l (inr r) = inr (reached i j l r.0, reached j i k r.1)

  turned : (i j : ℕ) → Together i j → Together j i
  turned i j (inl e) = inl (sym e)
  turned i j (inr r) = inr (r.1, r.0)

  joined : (i j k : ℕ) → Together i j → Together j k → Together i k
  joined i j k (inl e) s = subst (λ x. Together x k) (sym e) s
  joined i j k (inr r) (inl e) = inr (subst (Reaches g i) e r.0, subst (λ x. Reaches g x i) e r.1)
  joined i j k (inr r) (inr s) = inr (reaches_on g i j k r.0 s.0, reaches_on g k j i s.1 r.1)

  module _ (firsts : List ℕ) (f : (i : ℕ) → i < length g → IsFirstLike t (slice_index firsts i) i) where
    first_with : (i : ℕ) → i < length g → Together (slice_index firsts i) i
    first_with i k = let w = (f i k).within in together (slice_index firsts i) i (omega arith) k (f i k).like

    same_first : (i j : ℕ) → i < length g → j < length g → slice_index firsts i ≡ slice_index firsts j → Together i j
    same_first i j k l e =
        joined i (slice_index firsts i) j (turned (slice_index firsts i) i (first_with i k)) (subst (λ x. Together x j) (sym e) (first_with j l))

    not_before : (i j : ℕ) → i < length g → j < length g → Together i j → slice_index firsts i < slice_index firsts j → ⊥
    not_before i j k l r b =
        let w = (f i k).within in
        (f j l).least (slice_index firsts i) b (like (slice_index firsts i) j (omega arith) l (joined (slice_index firsts i) i j (first_with i k) r))

    first_same : (i j : ℕ) → i < length g → j < length g → Together i j → slice_index firsts i ≡ slice_index firsts j
    first_same i j k l r = elim (cases_lt (slice_index firsts i) (slice_index firsts j)) [
      | inl b ↦ absurd (not_before i j k l r b)
      | inr m ↦ elim (cases_lt (slice_index firsts j) (slice_index firsts i)) [
        | inl b ↦ absurd (not_before j i l k (turned i j r) b)
        | inr n ↦ omega arith
      ]
    ]

    pub firsts_tell : TellsParts g firsts
    firsts_tell i j k l = (same_first i j k l, first_same i j k l)

pub by_table : (rows : List (Vec ℕ Global)) (table lent : List (Vec Bool Global)) (firsts : List ℕ) → lent ≡ table → IsTable (graph_of rows) (length rows) (table_of table)
    → ((i : ℕ) → i < length rows → IsFirstLike (table_of lent) (slice_index firsts i) i) → TellsParts (graph_of rows) firsts
by_table rows table lent firsts e h f =
    let s : length (graph_of rows) ≡ length rows = graph_length rows in
    firsts_tell (graph_of rows) (table_of table) (subst (λ n. IsTable (graph_of rows) n (table_of table)) (sym s) h) firsts
    (λ i l. subst (λ t. IsFirstLike (table_of t) (slice_index firsts i) i) e (f i (omega arith)))

-- ---- the loop over numbers of uses

pub table_more : (rows : List (Vec ℕ Global)) (left next : ℕ) (old lent more : List (Vec Bool Global)) → lent ≡ old → length more ≡ length rows → next + 1 ≡ left → left ≤ length rows
    → IsTable (graph_of rows) (length rows - left) (table_of old)
    → ((i : ℕ) → i < length rows → IsNextRow (table_of lent) (row_of (graph_of rows) i) (length rows) (get_or (table_of more) i [])) → IsTable (graph_of rows) (length rows - next) (table_of more)
table_more rows left next old lent more same sized step within h each =
    let s : length (graph_of rows) ≡ length rows = graph_length rows in
    let m : length (table_of more) ≡ length (graph_of rows) = length-map more (λ v. v.items) ∙ sized ∙ sym s in
    let e : suc (length rows - left) ≡ length rows - next = omega arith in
    subst (λ n. IsTable (graph_of rows) n (table_of more)) e
    (next_table (graph_of rows) (length rows - left) (table_of old) (table_of more) h m
    (λ i l. subst (λ n. IsNextRow (table_of old) (row_of (graph_of rows) i) n (get_or (table_of more) i [])) (sym s)
    (subst (λ t. IsNextRow (table_of t) (row_of (graph_of rows) i) (length rows) (get_or (table_of more) i [])) same (each i (omega arith)))))
