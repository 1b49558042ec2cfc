-- One level of merges, and what a part is asked as.
use Rattle.std.proofs.Common.{◌≡◌, ℕ, suc, List, [], Some, None, refl, sym, ap}
use Rattle.std.specs.Prelude.{Option, Result}
use Rattle.schema_defs.specs.Schema.{Schema, Document}
use Rattle.merge_defs.specs.Outcome.{Note, Outcome, fault, depth}
use Rattle.merge_walks.specs.Carried.{Walk}
use Rattle.merge_walks.specs.Made.{on_made, settled}
use Rattle.merge_walks.specs.Walked.{parts_within, walked_join, walked_less}
use Rattle.merge_steps.specs.declared.stop.Stop.{Stop}
use Rattle.merge_steps.specs.Ends.{Ends}
use Rattle.merge_steps.proofs.Leading.{led, leads_by}
use Rattle.merge_sides.specs.Met.{walk_or}
use Rattle.merge_cycle.specs.declared.how.How.{How}
use Rattle.merge_cycle.specs.declared.how.How.TheVariants.{Join, Less}
use Rattle.merge_cycle.specs.Within.{join_within, less_within, within, asked}

module _ (d : Document) (most : ℕ) where
  pub join_level : (n k : ℕ) (a b : Schema) → n ≡ suc k → join_within d most n a b ≡ walked_join d most (join_within d most k) (less_within d most k) a b
  unfolding join_within less_within
  join_level n k a b e = ap (λ j. (parts_within d most j).join a b) e

  pub less_level : (n k : ℕ) (a b : Schema) → n ≡ suc k → less_within d most n a b ≡ walked_less d most (join_within d most k) (less_within d most k) a b
  unfolding join_within less_within
  less_level n k a b e = ap (λ j. (parts_within d most j).less a b) e

  pub no_join_level : (n : ℕ) (a b : Schema) → n ≡ 0 → join_within d most n a b ≡ fault (depth [])
  unfolding join_within
  no_join_level n a b e = ap (λ j. (parts_within d most j).join a b) e

  pub no_less_level : (n : ℕ) (a b : Schema) → n ≡ 0 → less_within d most n a b ≡ fault (depth [])
  unfolding less_within
  no_less_level n a b e = ap (λ j. (parts_within d most j).less a b) e

  -- ---- on a walk, or on none

  pub asked_as : (n : ℕ) (o : Option Walk) (h : How) (a b a' b' : Schema) → a' ≡ walk_or settled o a → b' ≡ walk_or settled o b → asked d most n o h a b ≡ within d most n h a' b'
  unfolding asked
  asked_as n None h a b a' b' e f = (λ i. within d most n h (sym e i) (sym f i))
  asked_as n (Some w) h a b a' b' e f = (λ i. within d most n h (sym e i) (sym f i))

  pub asked_join : (n : ℕ) (w : Walk) → asked d most n (Some w) Join ≡ on_made w (join_within d most n)
  unfolding asked
  asked_join n w = refl

  pub asked_less : (n : ℕ) (w : Walk) → asked d most n (Some w) Less ≡ on_made w (less_within d most n)
  unfolding asked
  asked_less n w = refl

  pub bare_join : (n : ℕ) → asked d most n None Join ≡ join_within d most n
  unfolding asked
  bare_join n = refl

  pub bare_less : (n : ℕ) → asked d most n None Less ≡ less_within d most n
  unfolding asked
  bare_less n = refl

-- a step that ends, of an outcome that is another
pub ends_by : {X A : Type 0} {v : X → A} {before after : List Note} {o p : Outcome A} {r : Result X Stop} → o ≡ p → Ends v before after p r → Ends v before after o r
ends_by e s = led (leads_by e) s
