-- Graphs in which each node is an end or goes on to one other, and to which end a node comes.
use Rattle.std.specs.Prelude.{◌≡◌, ℕ, zero, suc, Bool, true, false, List, slice_index_or}
use Rattle.use_graph.specs.declared.ends.Next.{Next}
use Rattle.use_graph.specs.declared.ends.Next.TheVariants.{Yes, No, To}

-- a number that is no node's is an end that says no
abbrev pub next_at : List Next → ℕ → Next
next_at ns i = slice_index_or ns i No

abbrev pub next_leads : (ℕ → Bool) → Next → Bool
next_leads leads Yes = true
next_leads leads No = false
next_leads leads (To j) = leads j

-- whether one comes to a yes by looking at so many nodes, from node i on
abbrev pub leads_within : List Next → ℕ → ℕ → Bool
leads_within ns zero i = false
leads_within ns (suc k) i = next_leads (leads_within ns k) (next_at ns i)

-- following from a node comes to a yes
pub data ComesToYes (ns : List Next) : ℕ → Type 0 where
  at_once : (i : ℕ) → next_at ns i ≡ Yes → ComesToYes ns i
  further : (i j : ℕ) → next_at ns i ≡ To j → ComesToYes ns j → ComesToYes ns i
