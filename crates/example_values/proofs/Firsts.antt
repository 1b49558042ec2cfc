-- What is made in any number of rounds is made in the first in which it is built.
use Rattle.std.proofs.Common.{◌≡◌, ℕ, zero, suc, List, Bool, true, false, refl, sym, ap, ◌∙◌, true≢false}
use Rattle.json_value.specs.Value.{Value}
use Rattle.model_defs.specs.Model.{ContainerModel, ConversionsD}
use Rattle.model_defs.specs.Layer.{Content}
use Rattle.example_defs.specs.Built.{content_built_in, next_built}
use Rattle.example_defs.specs.Example.{content_made_in, next_made}
use Rattle.example_defs.specs.Enough.{no_texts}
use Rattle.example_values.specs.Made.{IsFirst}

module _ (ms : List ContainerModel) (cs : ConversionsD) where
  abbrev pub B : ℕ → Content → Bool
  B n c = content_built_in ms cs no_texts n c

  abbrev pub M : ℕ → Content → Value
  M n c = content_made_in ms cs no_texts n c

  -- built, and made, in the round after so many
  abbrev pub BN : ℕ → Content → Bool
  BN k c = next_built ms cs no_texts (λ d. B k d) c

  abbrev pub MN : ℕ → Content → Value
  MN k c = next_made ms cs no_texts (λ d. B k d) (λ d. M k d) c

  -- the round before the first in which a content is built
  pub record First (n : ℕ) (c : Content) : Type 0 where
    pub at : ℕ
    pub first : IsFirst (λ k. BN k c) at
    pub made : M n c ≡ MN at c

  abbrev pub first_of : (n : ℕ) (c : Content) → B n c ≡ true → First n c
  first_of zero c h = absurd (true≢false (sym h))
  first_of (suc n) c h = by (B n c) refl (first_of n c)
    where
      by : (b : Bool) → B n c ≡ b → (B n c ≡ true → First n c) → First (suc n) c
      by true e rec = record {
        at = (rec e).at;
        first = (rec e).first;
        made = ap (λ b. elim b [ true ↦ M n c | false ↦ MN n c ]) e ∙ (rec e).made;
      }
      by false e rec = record {
        at = n;
        first = record { now = h; before = λ k s. ap (λ z. B z c) s ∙ e };
        made = ap (λ b. elim b [ true ↦ M n c | false ↦ MN n c ]) e;
      }

  -- so only that round is asked
  pub by_first : (c : Content) (v : Value) → ((k : ℕ) → IsFirst (λ j. BN j c) k → v ≡ MN k c) → (n : ℕ) → B n c ≡ true → v ≡ M n c
  by_first c v h n e = h (first_of n c e).at (first_of n c e).first ∙ sym (first_of n c e).made
