use Rattle.std.proofs.Common.{◌≡◌, ℕ, List, [], ◌∷◌, true, false, cond, refl, sym, true≢false, bytes_eq, Some, None}
use Rattle.std.specs.Prelude.{codes}
use Rattle.model_defs.specs.Reach.{Reaches, at_once, further, Asks, asked_by, is_among}
use Rattle.model_defs.specs.ReachExamples.{chain, name}
use Rattle.model_defs.proofs.examples.reaching.Goals as goal

asks_nothing : (m n : List ℕ) → Asks (chain ∷ []) m n → ⊥
asks_nothing m n h =
    elim (bytes_eq m name) as (λ b. is_among n (asked_by (cond b (Some chain) None)) ≡ true → ⊥) [ true ↦ λ e. true≢false (sym e) | false ↦ λ e. true≢false (sym e) ] h

reaches_nothing : (m n : List ℕ) → Reaches (chain ∷ []) m n → ⊥
reaches_nothing _ _ (at_once m n a) = asks_nothing m n a
reaches_nothing _ _ (further m n l a r) = asks_nothing m n a

pub returns : goal.returns
returns c = record {
  fields_do_not = λ n r. reaches_nothing n n r;
  an_alias = at_once name name refl;
  a_variant = at_once name name refl;
  two_items = further name (codes "U") name refl (at_once (codes "U") name refl);
}
