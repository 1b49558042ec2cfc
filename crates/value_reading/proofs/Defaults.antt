-- Stated defaults, entered one inside the other.
use Rattle.std.proofs.Common.{◌≡◌, ℕ, zero, suc, ◌-◌, List, [], ◌∷◌, length, Bool, true, false, cond, Option, Some, None, slice_get, nat_eq, refl, sym, ap, ◌∙◌, arith}
use Rattle.std.specs.List.{list_any}
use Rattle.json_value.specs.Value.{Value, null}
use Rattle.schema_defs.specs.Texts.{Relations}
use Rattle.model_defs.specs.Types.{TypeModel}
use Rattle.model_defs.specs.Model.{ContainerModel, ConversionsD}
use Rattle.model_defs.specs.Settled.{or_null, default_at}
use Rattle.typed_defs.specs.Typed.{Typed}
use Rattle.reading_defs.specs.Laws.{is_taken}
use Rattle.reading_defs.specs.Reading.{Read, Reader, unsound, default_inside}
use Rattle.value_parts.specs.At.{Setting, default_of, reader}
use Rattle.value_reading.specs.Steps.{part_at, default_stated}
use Rattle.value_reading.proofs.Levels.{as_type_is}

module _ (ms : List ContainerModel) (cs : ConversionsD) (r : Relations) where
  abbrev entered_at : ℕ → List ℕ → Setting
  entered_at k ns = record { models = ms; conversions = cs; relations = r; more = k; entered = ns }

  -- what the place is read as, once it is entered
  abbrev deeper : ℕ → List ℕ → ℕ → TypeModel → Read Typed
  deeper k ns n t = (reader (entered_at k (n ∷ ns)) (default_at ms cs r n)).as_type t

  pub spent : (k : ℕ) (ns : List ℕ) (n : ℕ) (t : TypeModel) → k ≡ 0 → unsound ≡ default_of (entered_at k ns) n t
  spent zero ns n t h = refl
  spent (suc k) ns n t h = absurd (omega (arith, h))

  pub entered_already : (k : ℕ) (ns : List ℕ) (n : ℕ) (t : TypeModel) (b : Bool) → b ≡ list_any (nat_eq n) ns → b ≡ true → unsound ≡ default_of (entered_at k ns) n t
  entered_already zero ns n t b h e = refl
  entered_already (suc k) ns n t b h e = sym (ap (λ c. cond c unsound (deeper k ns n t)) (sym h ∙ e))

  pub inside_default : (k j : ℕ) (ns ds : List ℕ) (n : ℕ) (t : TypeModel) (b : Bool) (o : Read Typed) → (k ≡ 0 → ⊥) → j ≡ k - 1 → ds ≡ n ∷ ns → b ≡ list_any (nat_eq n) ns → b ≡ false
      → o ≡ default_stated (entered_at j ds) n t → o ≡ default_of (entered_at k ns) n t
  inside_default zero j ns ds n t b o h l m i e w = absurd (h refl)
  inside_default (suc k) j ns ds n t b o h l m i e w =
      let less : j ≡ k = omega (arith, l) in
      w ∙ (λ x. default_stated (entered_at (less x) (m x)) n t) ∙ sym (as_type_is (entered_at k (n ∷ ns)) t (default_at ms cs r n))
      ∙ sym (ap (λ c. cond c unsound (deeper k ns n t)) (sym i ∙ e))

  -- a default that is read by itself, with none entered
  pub default_here : (more : ℕ) (entered : List ℕ) (n : ℕ) (t : TypeModel) (o : Read Typed) (b : Bool) → more ≡ length cs.defaults → entered ≡ [] → o ≡ default_of (entered_at more entered) n t → b ≡ is_taken o
      → b ≡ is_taken (default_inside ms cs r (length cs.defaults) [] n t)
  default_here more entered n t o b m e h i = i ∙ ap is_taken h ∙ (λ j. is_taken (default_of (entered_at (m j) (e j)) n t))

module _ (s : Setting) where
  pub stated_there : (n : ℕ) (t : TypeModel) (v : Value) (o : Read Typed) → Some v ≡ slice_get s.conversions.defaults n → o ≡ part_at s t v → o ≡ default_stated s n t
  stated_there n t v o h w = w ∙ ap (λ q. part_at s t (or_null q)) h

  pub stated_nowhere : (n : ℕ) (t : TypeModel) (u : Value) (o : Read Typed) → None ≡ slice_get s.conversions.defaults n → u ≡ null → o ≡ part_at s t u → o ≡ default_stated s n t
  stated_nowhere n t u o h e w = w ∙ ap (part_at s t) e ∙ ap (λ q. part_at s t (or_null q)) h
