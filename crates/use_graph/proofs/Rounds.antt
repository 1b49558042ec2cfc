-- What is certified tells the parts.
use Rattle.std.proofs.Common.{◌≡◌, ◌≤◌, ◌<◌, ◌+◌, ℕ, suc, zero, List, [], length, get_or, Bool, true, false, refl, sym, ap, ◌∙◌, subst, ◌⊎◌, inl, inr, arith}
use Rattle.std.specs.Prelude.{◌↔◌, slice_index, Contains, Vec, vec_len}
use Rattle.std.specs.declared.alloc.Global.{Global}
use Rattle.std.proofs.lemmas.List.{get_or-map, length-map}
use Rattle.use_graph.specs.Graph.{Graph, graph_of, row_of, Uses, Reaches, one_use, more_uses, TellsRounds, TellsParts}
use Rattle.use_graph.specs.Certificate.{part_at, ahead_at, back_at, IsRoot, IsBack, IsAhead, GoesBack, IsMet, Rises, IsCertified}
use Rattle.use_graph.specs.declared.marks.Proposal.{Proposal}
use Rattle.use_graph.proofs.Ways.{uses_below, reaches_below, reaches_on}

-- ---- rows

-- the row that is read at a node's number
pub row_is : (rows : List (Vec ℕ Global)) (row : Vec ℕ Global) (i : ℕ) → i < length rows → row ≡ get_or rows i row → row_of (graph_of rows) i ≡ row.items
row_is rows row i h e = get_or-map (λ v. v.items) rows i row [] h ∙ sym (ap (λ v. v.items) e)

pub graph_length : (rows : List (Vec ℕ Global)) → length (graph_of rows) ≡ length rows
graph_length rows = length-map rows (λ v. v.items)

-- as many items as a vector says
pub held : {X : Type 0} (v : Vec X Global) (n : ℕ) → vec_len v ≡ n → length v.items ≡ n
held v n e = omega arith

-- a node goes back by an entry of its row
pub back_by_row : (g : Graph) (p : Proposal) (i : ℕ) (row : List ℕ) → row_of g i ≡ row → (j : ℕ) × Contains row j × IsBack p i j → GoesBack g p i
back_by_row g p i row e b = (b.0, subst (λ xs. Contains xs b.0) (sym e) b.1, b.2)

-- and meets one
pub met_by_row : (g : Graph) (p : Proposal) (i j : ℕ) (row : List ℕ) → row_of g i ≡ row → Contains row j × IsAhead p i j → IsMet g p j
met_by_row g p i j row e b = (i, subst (λ xs. Contains xs j) (sym e) b.0, b.1)

-- one more row's entries are met
pub more_met : (g : Graph) (p : Proposal) (i : ℕ) (row : List ℕ) (old new : List Bool) → row_of g i ≡ row
    → ((j : ℕ) → get_or old j false ≡ true → IsMet g p j)
    → ((j : ℕ) → get_or new j false ≡ true → (get_or old j false ≡ true) ⊎ (Contains row j × IsAhead p i j))
    → (j : ℕ) → get_or new j false ≡ true → IsMet g p j
more_met g p i row old new e h s j m = elim (s j m) [ inl o ↦ h j o | inr a ↦ met_by_row g p i j row e a ]

-- what was tested is certified
pub certify : (g : Graph) (p : Proposal) (count : ℕ) (met lent : List Bool) → lent ≡ met → length g ≡ count → length p.parts.items ≡ count → Rises g p.parts.items
    → ((i : ℕ) → i < count → IsRoot p i ⊎ GoesBack g p i)
    → ((i : ℕ) → i < count → IsRoot p i ⊎ (get_or lent i false ≡ true))
    → ((i : ℕ) → get_or met i false ≡ true → IsMet g p i) → IsCertified g p
certify g p count met lent same e sized rising back some all = record {
  sized = sized ∙ sym e;
  rising = rising;
  back = λ i l. back i (omega arith);
  met = λ i l. elim (some i (omega arith)) [ inl r ↦ inl r | inr m ↦ inr (all i (sym (ap (λ xs. get_or xs i false) same) ∙ m)) ];
}

-- ---- parts

-- numbers rise along uses
reaching_rises : (g : Graph) (parts : List ℕ) → Rises g parts → (i j : ℕ) → Reaches g i j → j < length g → slice_index parts i ≤ slice_index parts j
reaching_rises g parts h _ _ (one_use i j u) l = h i j u l
reaching_rises g parts h _ _ (more_uses i j k u r) l =
    let a = h i j u (reaches_below g j k r) in
    let b = reaching_rises g parts h j k r l in
    omega arith

module _ (g : Graph) where
  -- the same, or reached
  abbrev Comes : ℕ → ℕ → Type 0
  Comes i j = (i ≡ j) ⊎ Reaches g i j

  use_then : (i j k : ℕ) → Uses g i j → Comes j k → Reaches g i k
  use_then i j k u (inl e) = one_use i k (subst (Uses g i) e u)
  use_then i j k u (inr r) = more_uses i j k u r

  then_use : (i j k : ℕ) → Comes i j → Uses g j k → Reaches g i k
  then_use i j k (inl e) u = one_use i k (subst (λ x. Uses g x k) (sym e) u)
  then_use i j k (inr r) u = reaches_on g i j k r (one_use j k u)

  both : (i j k : ℕ) → Comes i j → Comes j k → Comes i k
  both i j k (inl e) d = subst (λ x. Comes x k) (sym e) d
  both i j k (inr r) (inl e) = inr (subst (Reaches g i) e r)
  both i j k (inr r) (inr s) = inr (reaches_on g i j k r s)

  each_other : (i j : ℕ) → Comes i j → Comes j i → (i ≡ j) ⊎ (Reaches g i j × Reaches g j i)
  each_other i j (inl e) d = inl e
  each_other i j (inr r) (inl e) = inl (sym e)
  each_other i j (inr r) (inr s) = inr (r, s)

  module _ (p : Proposal) (c : IsCertified g p) where
    abbrev root : ℕ → ℕ
    root i = slice_index p.roots.items (part_at p i)

    same_root : (i j : ℕ) → part_at p i ≡ part_at p j → root i ≡ root j
    same_root i j e = ap (λ x. slice_index p.roots.items x) e

    back_then : (i : ℕ) (b : GoesBack g p i) → Comes b.0 (root b.0) → Comes i (root i)
    back_then i b d = inr (use_then i b.0 (root i) b.1 (subst (Comes b.0) (same_root b.0 i b.2.1) d))

    -- each node comes to the root of its part
    to_root : (n i : ℕ) → i < length g → back_at p i < n → Comes i (root i)
    to_root zero i l h = absurd (omega arith)
    to_root (suc n) i l h =
        let rec = to_root n in
        elim (c.back i l) [
          | inl e ↦ inl (sym e)
          | inr b ↦
              let s = c.sized in
              let x = b.2.0 in
              let y = b.2.2 in
              back_then i b (rec b.0 (omega arith) (omega arith))
        ]

    then_ahead : (j : ℕ) (m : IsMet g p j) → Comes (root m.0) m.0 → Comes (root j) j
    then_ahead j m d = inr (then_use (root j) m.0 j (subst (λ x. Comes x m.0) (same_root m.0 j m.2.0) d) m.1)

    -- and the root comes to it
    from_root : (n i : ℕ) → i < length g → ahead_at p i < n → Comes (root i) i
    from_root zero i l h = absurd (omega arith)
    from_root (suc n) i l h =
        let rec = from_root n in
        elim (c.met i l) [
          | inl e ↦ inl e
          | inr m ↦
              let y = m.2.1 in
              then_ahead i m (rec m.0 (uses_below g m.0 i m.1) (omega arith))
        ]

    comes : (i j : ℕ) → i < length g → j < length g → part_at p i ≡ part_at p j → Comes i j
    comes i j k l e =
        both i (root i) j (to_root (suc (back_at p i)) i k (omega arith))
        (subst (λ x. Comes x j) (sym (same_root i j e)) (from_root (suc (ahead_at p j)) j l (omega arith)))

    together : (i j : ℕ) → i < length g → j < length g → (i ≡ j) ⊎ (Reaches g i j × Reaches g j i) → part_at p i ≡ part_at p j
    together i j k l (inl e) = ap (part_at p) e
    together i j k l (inr r) =
        let a = reaching_rises g p.parts.items c.rising i j r.0 l in
        let b = reaching_rises g p.parts.items c.rising j i r.1 k in
        omega arith

pub tells_parts : (g : Graph) (p : Proposal) → IsCertified g p → TellsParts g p.parts.items
tells_parts g p c i j k l = (λ e. each_other g i j (comes g p c i j k l e) (comes g p c j i l k (sym e)), together g p c i j k l)

turned : (g : Graph) (i j : ℕ) → Uses g i j → (i ≡ j) ⊎ (Reaches g i j × Reaches g j i) → Reaches g j i
turned g i j u (inl e) = subst (λ x. Reaches g x i) e (subst (λ x. Reaches g i x) (sym e) (one_use i j u))
turned g i j u (inr r) = r.1

-- numbers that tell the parts tell which uses stay in a part
pub tells_rounds : (g : Graph) (parts : List ℕ) → TellsParts g parts → TellsRounds g parts
tells_rounds g parts h i j u l =
    let t = h i j (uses_below g i j u) l in
    (λ e. turned g i j u (t.0 e), λ r. t.1 (inr (one_use i j u, r)))
