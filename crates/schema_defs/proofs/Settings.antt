-- Where schemas stand, where references lead and which walks return don't depend on the setting.
use Rattle.std.proofs.Common.{◌≡◌, ℕ, List, [], ◌∷◌, Bool, true, false, refl, sym, ◌∙◌}
use Rattle.std.specs.Prelude.{option_and_then, bytes_eq, Some, if◌then◌else◌}
use Rattle.schema_defs.specs.declared.Setting.{Setting}
use Rattle.schema_defs.specs.Location.{Step, Location}
use Rattle.schema_defs.specs.Schema.{Document}
use Rattle.schema_defs.specs.Admits.{definition_word}
use Rattle.schema_defs.specs.Children.{at_definitions, node_schema, along, schema_node, schema_at}
use Rattle.schema_defs.specs.Read.{under}
use Rattle.schema_defs.specs.Walks.{Goes, to_child, to_target, Leads, one_step, more_steps, IsGuarded, GoesRound, IsLoop}
use Rattle.schema_defs.specs.Laws.{WalksKnowNoSetting}

module _ (setting : Setting) (d : Document) where
  in_definitions : (b : Bool) (ks : Location) → option_and_then node_schema (along ks (at_definitions b (under setting d))) ≡ option_and_then node_schema (along ks (at_definitions b d))
  in_definitions b [] = refl
  in_definitions b (k ∷ ks) = refl

  by_word : (k : Step) (ks : Location) (a b : Bool)
      → option_and_then node_schema (option_and_then (along ks) (if a then Some (at_definitions false (under setting d)) else if b then Some (at_definitions true (under setting d)) else schema_node k d.root))
      ≡ option_and_then node_schema (option_and_then (along ks) (if a then Some (at_definitions false d) else if b then Some (at_definitions true d) else schema_node k d.root))
  by_word k ks true b = in_definitions false ks
  by_word k ks false true = in_definitions true ks
  by_word k ks false false = refl

  pub stands_alike : (l : Location) → schema_at (under setting d) l ≡ schema_at d l
  stands_alike [] = refl
  stands_alike (k ∷ ks) = by_word k ks (bytes_eq k (definition_word false)) (bytes_eq k (definition_word true))

  goes_without : (l m : Location) → Goes (under setting d) l m → Goes d l m
  goes_without _ _ (to_child l s c e h) = to_child l s c (sym (stands_alike l) ∙ e) h
  goes_without _ _ (to_target l m s q e f g) = to_target l m s q (sym (stands_alike l) ∙ e) f g

  goes_with : (l m : Location) → Goes d l m → Goes (under setting d) l m
  goes_with _ _ (to_child l s c e h) = to_child l s c (stands_alike l ∙ e) h
  goes_with _ _ (to_target l m s q e f g) = to_target l m s q (stands_alike l ∙ e) f g

  pub leads_without : (l m : Location) → Leads (under setting d) l m → Leads d l m
  leads_without _ _ (one_step l m g) = one_step l m (goes_without l m g)
  leads_without _ _ (more_steps l m n g w) = more_steps l m n (goes_without l m g) (leads_without m n w)

  pub leads_with : (l m : Location) → Leads d l m → Leads (under setting d) l m
  leads_with _ _ (one_step l m g) = one_step l m (goes_with l m g)
  leads_with _ _ (more_steps l m n g w) = more_steps l m n (goes_with l m g) (leads_with m n w)

  round_without : (back l : Location) (ls : List Location) → GoesRound (under setting d) back l ls → GoesRound d back l ls
  round_without back l [] h = h
  round_without back l (m ∷ []) h = (goes_without l m h.0, h.1)
  round_without back l (m ∷ n ∷ ls) h = (goes_without l m h.0, round_without back m (n ∷ ls) h.1)

  round_with : (back l : Location) (ls : List Location) → GoesRound d back l ls → GoesRound (under setting d) back l ls
  round_with back l [] h = h
  round_with back l (m ∷ []) h = (goes_with l m h.0, h.1)
  round_with back l (m ∷ n ∷ ls) h = (goes_with l m h.0, round_with back m (n ∷ ls) h.1)

  loop_without : (walk : List Location) → IsLoop (under setting d) walk → IsLoop d walk
  loop_without [] h = h
  loop_without (l ∷ ls) h = round_without l l ls h

  loop_with : (walk : List Location) → IsLoop d walk → IsLoop (under setting d) walk
  loop_with [] h = h
  loop_with (l ∷ ls) h = round_with l l ls h

pub walks_know_no_setting : WalksKnowNoSetting
walks_know_no_setting setting d = record {
  guarded = (λ g l w. g l (leads_with setting d l l w), λ g l w. g l (leads_without setting d l l w));
  loops = λ walk. (loop_without setting d walk, loop_with setting d walk);
}
