-- The turns of the loop over the members of a map, by what the program holds.
use Rattle.std.proofs.Common.{◌≡◌, ℕ, ◌+◌, ◌<◌, List, [], ◌∷◌, ◌++◌, drop, length, get_or, sym, ap, ◌∙◌}
use Rattle.schema_defs.specs.Location.{Location}
use Rattle.schema_defs.specs.Texts.{Relations}
use Rattle.model_defs.specs.Types.{TypeModel}
use Rattle.value_models.specs.declared.typed.Typed.{Typed as Typed'}
use Rattle.value_models.specs.TypedView.{typed_view, pairs_view}
use Rattle.reading_defs.specs.Reading.{stopped, unsound}
use Rattle.value_parts.specs.declared.members.Member.{Member}
use Rattle.value_parts.specs.declared.setting.Setting as setting'
use Rattle.value_parts.specs.declared.outcome.Outcome.{Outcome}
use Rattle.value_parts.specs.declared.outcome.Outcome.TheVariants.{Taken, Refused, Unsound}
use Rattle.value_parts.specs.At.{pairs_at}
use Rattle.value_parts.specs.Entries.{entry_view, entries_view}
use Rattle.value_parts.specs.Seen.{pair_view}
use Rattle.value_parts.specs.SettingView.{setting_view}
use Rattle.value_reading.specs.Steps.{pair_at}
use Rattle.value_reading.proofs.Prefixes.{prefixed, turn, stop, halt}
use Rattle.value_reading.proofs.LoopSteps.{pair_step, pairs_more}

module _ (z : setting'.Setting) (r q : Relations) (k t : TypeModel) (ms : List Member) (i : ℕ) (m : Member) (o : Outcome (Typed' × Typed')) (old : List (Typed' × Typed'))
    (there : i < length ms) (here : m ≡ get_or ms i m) (same : q ≡ r)
    (was : pairs_at (setting_view z r) k t (entries_view ms) ≡ prefixed (pairs_view old) (pairs_at (setting_view z r) k t (entries_view (drop i ms))))
    (said : pair_view o ≡ pair_at (setting_view z q) k t (entry_view m)) where
  now : pair_view o ≡ pair_at (setting_view z r) k t (entry_view (get_or ms i m))
  now = said ∙ ap (λ p. pair_at (setting_view z p) k t (entry_view m)) same ∙ ap (λ x. pair_at (setting_view z r) k t (entry_view x)) here

  pub pairs_turn : (new : List (Typed' × Typed')) (x : Typed' × Typed') → o ≡ Taken x → new ≡ old ++ x ∷ []
      → pairs_at (setting_view z r) k t (entries_view ms) ≡ prefixed (pairs_view new) (pairs_at (setting_view z r) k t (entries_view (drop (i + 1) ms)))
  pairs_turn new x is more =
      turn (pairs_at (setting_view z r) k t (entries_view ms)) (pairs_at (setting_view z r) k t (entries_view (drop i ms))) (pairs_at (setting_view z r) k t (entries_view (drop (i + 1) ms)))
      (pair_at (setting_view z r) k t (entry_view (get_or ms i m))) (pairs_view old) (pairs_view new) (typed_view x.0, typed_view x.1)
      was (pair_step (setting_view z r) k t ms i m there) (sym (ap pair_view is) ∙ now) (pairs_more old new x more)

  pub pairs_stop : (l : Location) → o ≡ Refused l → stopped l ≡ pairs_at (setting_view z r) k t (entries_view ms)
  pairs_stop l is =
      stop (pairs_at (setting_view z r) k t (entries_view ms)) (pairs_at (setting_view z r) k t (entries_view (drop i ms))) (pairs_at (setting_view z r) k t (entries_view (drop (i + 1) ms)))
      (pair_at (setting_view z r) k t (entry_view (get_or ms i m))) (pairs_view old) l was (pair_step (setting_view z r) k t ms i m there) (sym (ap pair_view is) ∙ now)

  pub pairs_halt : o ≡ Unsound → unsound ≡ pairs_at (setting_view z r) k t (entries_view ms)
  pairs_halt is =
      halt (pairs_at (setting_view z r) k t (entries_view ms)) (pairs_at (setting_view z r) k t (entries_view (drop i ms))) (pairs_at (setting_view z r) k t (entries_view (drop (i + 1) ms)))
      (pair_at (setting_view z r) k t (entry_view (get_or ms i m))) (pairs_view old) was (pair_step (setting_view z r) k t ms i m there) (sym (ap pair_view is) ∙ now)
