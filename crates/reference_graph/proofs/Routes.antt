-- Where references lead.
use Rattle.std.proofs.Common.{◌≡◌, ℕ, suc, ◌<◌, ◌≤◌, List, [], ◌∷◌, length, get_or, refl, sym, ap, ◌∙◌, subst, inl, inr, arith}
use Rattle.std.specs.Prelude.{Contains, slice_index, Vec}
use Rattle.std.specs.declared.alloc.Global.{Global}
use Rattle.std.proofs.lemmas.List.Elements.{Contains-get_or}
use Rattle.std.proofs.lemmas.List.{get_or_past, get_or-map}
use Rattle.std.proofs.lemmas.Bool.{cases_lt}
use Rattle.reference_graph.specs.Graph.{Graph, graph_of, row_of, Refers, Leads, one_step, more_steps, IsAcyclic, GoesRound, IsLoop, StartsLeast, IsLoopFrom}
use Rattle.reference_graph.specs.Ranking.{MayRefer, IsRanking}
use Rattle.reference_graph.specs.Laws.{LoopsAreNotAcyclic, RisingIsAcyclic, WaysJoin}

-- ---- beyond the last node

pub none_past : (g : Graph) (i j : ℕ) → length g ≤ i → ¬ (Refers g i j)
none_past g i j h r = let x = subst (λ xs. Contains xs j) (get_or_past g i [] h) r in let y : x.0 < 0 = x.1 in absurd (omega arith)

pub leads_past : (g : Graph) (i j : ℕ) → length g ≤ i → ¬ (Leads g i j)
leads_past g _ _ h (one_step i j r) = none_past g i j h r
leads_past g _ _ h (more_steps i j k r w) = none_past g i j h r

-- where no node below the number of nodes leads to itself, none does
pub acyclic_below : (g : Graph) (n : ℕ) → length g ≤ n → ((k : ℕ) → k < n → ¬ (Leads g k k)) → IsAcyclic g
acyclic_below g n e h i w = elim (cases_lt i n) [ inl l ↦ h i l w | inr m ↦ leads_past g i i (omega arith) w ]

-- ---- loops

pub goes_leads : (g : Graph) (back i : ℕ) (js : List ℕ) → GoesRound g back i js → Leads g i back
goes_leads g back i [] r = one_step i back r
goes_leads g back i (j ∷ js) r = more_steps i j back r.0 (goes_leads g back j js r.1)

pub loop_leads : (g : Graph) (i : ℕ) (path : List ℕ) → IsLoopFrom g i path → Leads g i i
loop_leads g i path r = goes_leads g i i r.0 r.2

pub loop_is : (g : Graph) (i : ℕ) (path : List ℕ) → IsLoopFrom g i path → IsLoop g path
loop_is g i path r = subst (λ p. IsLoop g p) (sym r.1) r.2

pub loop_least : (g : Graph) (i : ℕ) (path : List ℕ) → IsLoopFrom g i path → ((k : ℕ) → k < i → ¬ (Leads g k k)) → StartsLeast g path
loop_least g i path r h = subst (λ p. StartsLeast g p) (sym r.1) h

-- ---- ranks

may_refer_through : (r s t : ℕ) → MayRefer r s → MayRefer s t → MayRefer r t
may_refer_through r s t x (inl e) = inl e
may_refer_through r s t (inl e) (inr y) = absurd (let a = y.0 in omega arith)
may_refer_through r s t (inr x) (inr y) = inr (x.0, (let a = x.1 in let b = y.1 in omega arith))

ranks_rise : (g : Graph) (ranks : List ℕ) → IsRanking g ranks → (i j : ℕ) → Leads g i j → MayRefer (slice_index ranks i) (slice_index ranks j)
ranks_rise g ranks h _ _ (one_step i j r) = h i j r
ranks_rise g ranks h _ _ (more_steps i j k r w) = may_refer_through (slice_index ranks i) (slice_index ranks j) (slice_index ranks k) (h i j r) (ranks_rise g ranks h j k w)

-- a node with a rank lies on no loop
pub ranked_on_no_loop : (g : Graph) (ranks : List ℕ) → IsRanking g ranks → (i : ℕ) → 0 < slice_index ranks i → ¬ (Leads g i i)
ranked_on_no_loop g ranks h i p w = not_itself (slice_index ranks i) p (ranks_rise g ranks h i i w)
  where
    not_itself : (r : ℕ) → 0 < r → ¬ (MayRefer r r)
    not_itself r p (inl e) = omega arith
    not_itself r p (inr x) = let a = x.1 in omega arith

-- ---- rows

-- the row that is read at a node's number
pub row_is : (rows : List (Vec ℕ Global)) (row : Vec ℕ Global) (i : ℕ) → i < length rows → row ≡ get_or rows i row → row_of (graph_of rows) i ≡ row.items
row_is rows row i h e = get_or-map (λ v. v.items) rows i row [] h ∙ sym (ap (λ v. v.items) e)

pub refers_at : (g : Graph) (i k : ℕ) (row : List ℕ) → row_of g i ≡ row → k < length row → Refers g i (get_or row k 0)
refers_at g i k row e h = subst (λ xs. Contains xs (get_or row k 0)) (sym e) (Contains-get_or row k 0 h)

pub graph_length : (rows : List (Vec ℕ Global)) → length (graph_of rows) ≡ length rows
graph_length [] = refl
graph_length (row ∷ rows) = ap suc (graph_length rows)

-- ---- laws

pub loops_are_not_acyclic : LoopsAreNotAcyclic
loops_are_not_acyclic g [] r h = r
loops_are_not_acyclic g (i ∷ is) r h = h i (goes_leads g i i is r)

pub ways_join : WaysJoin
ways_join g _ _ k (one_step i j r) w = more_steps i j k r w
ways_join g _ _ k (more_steps i m j r v) w = more_steps i m k r (ways_join g m j k v w)

rises : (g : Graph) → ((i j : ℕ) → Refers g i j → i < j) → (i j : ℕ) → Leads g i j → i < j
rises g h _ _ (one_step i j r) = h i j r
rises g h _ _ (more_steps i j k r w) = let a = h i j r in let b = rises g h j k w in omega arith

pub rising_is_acyclic : RisingIsAcyclic
rising_is_acyclic g h i w = let a = rises g h i i w in omega arith
