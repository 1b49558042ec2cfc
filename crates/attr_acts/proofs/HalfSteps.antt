-- The metas of a list of halves, one after the other.
use Rattle.std.proofs.Common.{◌≡◌, ℕ, List, ◌∷◌, ◌++◌, Bool, true, false, cond, Some, None, refl, ap, sym, ◌∙◌, append_assoc, append-nil}
use Rattle.std.specs.Prelude.{Option, option_map}
use Rattle.attr_defs.specs.Acts.{ActD}
use Rattle.attr_defs.specs.Steps.{Step, gives, and_then, ◌>>=◌}
use Rattle.attr_defs.specs.Metas.{PartD}
use Rattle.attr_defs.specs.Halves.{Halves, no_halves, joined, OneStep, half_of, halves_in}
use Rattle.attr_acts.specs.Does.{Does, Joins}

-- what is left of a list, after acts and values of those before
pub record Left {A : Type 0} (first now : List ActD) (before : Halves A) (rest whole : Step (Halves A)) : Type 0 where
  pub acts : now ++ rest.acts ≡ first ++ whole.acts
  pub values : option_map (joined before) rest.value ≡ whole.value

joined_assoc : {A : Type 0} → (a b c : Halves A) → joined a (joined b c) ≡ joined (joined a b) c
joined_assoc a b c =
    ap (λ l. record { serialize = l; deserialize = a.deserialize ++ (b.deserialize ++ c.deserialize) }) (sym (append_assoc a.serialize b.serialize c.serialize))
    ∙ ap (λ l. record { serialize = (a.serialize ++ b.serialize) ++ c.serialize; deserialize = l }) (sym (append_assoc a.deserialize b.deserialize c.deserialize))

none_before : {A : Type 0} → (o : Option (Halves A)) → option_map (joined no_halves) o ≡ o
none_before None = refl
none_before (Some h) = refl

pub left_at_first : {A : Type 0} → (first : List ActD) (before : Halves A) (whole : Step (Halves A)) → before ≡ no_halves → Left first first before whole whole
left_at_first first before whole e = record {
  acts = refl;
  values = ap (λ h. option_map (joined h) whole.value) e ∙ none_before whole.value;
}

rest_acts : {A : Type 0} → (h : Halves A) (racts : List ActD) (r : Option (Halves A)) → (and_then racts r (λ hs. gives (joined h hs))).acts ≡ racts
rest_acts h racts None = refl
rest_acts h racts (Some hs) = append-nil racts

rest_value : {A : Type 0} → (before h : Halves A) (racts : List ActD) (r : Option (Halves A)) → option_map (joined before) (and_then racts r (λ hs. gives (joined h hs))).value ≡ option_map (joined (joined before h)) r
rest_value before h racts None = refl
rest_value before h racts (Some hs) = ap Some (joined_assoc before h hs)

on_by : {A : Type 0} → (first old new : List ActD) (before after : Halves A) (hacts : List ActD) (hv : Option (Halves A)) (rest whole : Step (Halves A))
    → old ++ (and_then hacts hv (λ h. rest >>= λ hs. gives (joined h hs))).acts ≡ first ++ whole.acts
    → option_map (joined before) (and_then hacts hv (λ h. rest >>= λ hs. gives (joined h hs))).value ≡ whole.value
    → new ≡ old ++ hacts → option_map (joined before) hv ≡ Some after → Left first new after rest whole
on_by first old new before after hacts None rest whole ea ev en eh = cc
on_by first old new before after hacts (Some h) rest whole ea ev en eh =
    let e : joined before h ≡ after = cc in
    record {
      acts = ap (λ l. l ++ rest.acts) en ∙ append_assoc old hacts rest.acts ∙ ap (λ l. old ++ (hacts ++ l)) (sym (rest_acts h rest.acts rest.value)) ∙ ea;
      values = ap (λ b. option_map (joined b) rest.value) (sym e) ∙ sym (rest_value before h rest.acts rest.value) ∙ ev;
    }

end_by : {A : Type 0} → (first old new : List ActD) (before : Halves A) (hacts : List ActD) (hv : Option (Halves A)) (rest whole : Step (Halves A))
    → old ++ (and_then hacts hv (λ h. rest >>= λ hs. gives (joined h hs))).acts ≡ first ++ whole.acts
    → option_map (joined before) (and_then hacts hv (λ h. rest >>= λ hs. gives (joined h hs))).value ≡ whole.value
    → new ≡ old ++ hacts → option_map (joined before) hv ≡ None → Does first new None whole
end_by first old new before hacts None rest whole ea ev en eh = record { acts = en ∙ ea; answer = ev }
end_by first old new before hacts (Some h) rest whole ea ev en eh = cc

-- a meta more, where reading goes on
pub left_on : {A : Type 0} → (name : List ℕ) (one : OneStep A) (m : PartD) (ms all : List PartD) (first old new : List ActD) (before after : Halves A) (b : Bool) (whole : Step (Halves A))
    → all ≡ m ∷ ms → Left first old before (halves_in name one all) whole → Joins old new before after b (half_of name one m) → b ≡ true → Left first new after (halves_in name one ms) whole
left_on name one m ms all first old new before after b whole e l j h =
    let ea = ap (λ us. old ++ (halves_in name one us).acts) (sym e) ∙ l.acts in
    let ev = ap (λ us. option_map (joined before) (halves_in name one us).value) (sym e) ∙ l.values in
    on_by first old new before after (half_of name one m).acts (half_of name one m).value (halves_in name one ms) whole ea ev j.acts (j.values ∙ ap (λ c. cond c (Some after) None) h)

-- and where it ends
pub left_end : {A : Type 0} → (name : List ℕ) (one : OneStep A) (m : PartD) (ms all : List PartD) (first old new : List ActD) (before after : Halves A) (b : Bool) (whole : Step (Halves A))
    → all ≡ m ∷ ms → Left first old before (halves_in name one all) whole → Joins old new before after b (half_of name one m) → b ≡ false → Does first new None whole
left_end name one m ms all first old new before after b whole e l j h =
    let ea = ap (λ us. old ++ (halves_in name one us).acts) (sym e) ∙ l.acts in
    let ev = ap (λ us. option_map (joined before) (halves_in name one us).value) (sym e) ∙ l.values in
    end_by first old new before (half_of name one m).acts (half_of name one m).value (halves_in name one ms) whole ea ev j.acts (j.values ∙ ap (λ c. cond c (Some after) None) h)
