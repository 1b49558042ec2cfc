-- What a meta does, and whether reading goes on behind it.
use Rattle.std.proofs.Common.{◌≡◌, List, [], ◌∷◌, ◌++◌, Bool, false, Some, None, refl, ap, ◌∙◌, append_assoc}
use Rattle.std.specs.Prelude.{Option, is_some}
use Rattle.attr_defs.specs.Acts.{ActD}
use Rattle.attr_defs.specs.Steps.{Step}
use Rattle.attr_acts.specs.Does.{Does, followed}
use Rattle.attr_acts.proofs.Does.{does_then, does_last}

-- what follows is done after it
pub follows_acts : {A B : Type 0} → (old mid new : List ActD) (a : A) (s : Step A) (f : A → Step B) → Does old mid (Some a) s → new ≡ mid ++ (f a).acts → new ≡ old ++ (followed s f).acts
follows_acts old mid new a s f d e = (does_then old mid new a (f a).value s f d (record { acts = e; answer = refl })).acts

pub follows_on : {A B : Type 0} → (old mid : List ActD) (a : A) (s : Step A) (f : A → Step B) (b : Bool) → Does old mid (Some a) s → b ≡ is_some (f a).value → b ≡ is_some (followed s f).value
follows_on old mid a s f b d e = e ∙ ap is_some (does_then old mid (mid ++ (f a).acts) a (f a).value s f d (record { acts = refl; answer = refl })).answer

-- nothing follows where reading ends
pub ends_acts : {A B : Type 0} → (old new : List ActD) (s : Step A) (f : A → Step B) → Does {A = A} old new None s → new ≡ old ++ (followed s f).acts
ends_acts old new s f d = (does_last old new s f None d refl).acts

pub ends_there : {A B : Type 0} → (old new : List ActD) (s : Step A) (f : A → Step B) (b : Bool) → Does {A = A} old new None s → b ≡ false → b ≡ is_some (followed s f).value
ends_there old new s f b d e = e ∙ ap is_some (does_last old new s f None d refl).answer

-- one act, and then another
pub both_done : (old mid new : List ActD) (a b : ActD) → mid ≡ old ++ a ∷ [] → new ≡ mid ++ b ∷ [] → new ≡ old ++ a ∷ b ∷ []
both_done old mid new a b e f = f ∙ ap (λ l. l ++ b ∷ []) e ∙ append_assoc old (a ∷ []) (b ∷ [])
