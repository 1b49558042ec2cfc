-- Verdicts, one value after another: what they say of the report's containers, and that they can be printed.
use Rattle.std.proofs.Common.{◌≡◌, ℕ, zero, suc, ◌+◌, ◌<◌, List, [], ◌∷◌, ◌++◌, map, take, length, get_or, append-nil, Bool, true, false, ◌&&◌, refl, ap, sym, subst, ◌∙◌, arith}
use Rattle.std.specs.List.{list_all}
use Rattle.std.proofs.lemmas.List.{take_more, map-append}
use Rattle.serde_json.specs.Data.{Data}
use Rattle.json_value.specs.View.{value_of}
use Rattle.schema_defs.specs.Texts.{Relations}
use Rattle.model_defs.specs.Types.{TypeModel}
use Rattle.model_defs.specs.Model.{ContainerModel, ConversionsD}
use Rattle.model_defs.specs.Reads.{reads}
use Rattle.model_defs.specs.Refusals.{refused_at}
use Rattle.model_defs.specs.Settled.{settled}
use Rattle.reading_defs.specs.Proper.{has_json_numbers}
use Rattle.schema_tree.specs.Numbers.{are_i64, holds_i64_alone}
use Rattle.derive_model.specs.Judging.{IsVerdict}
use Rattle.derive_model.specs.VerdictView.{VerdictD, taken, refused}
use Rattle.typify_run.specs.Verdicts.{AreVerdicts}
use Rattle.typify_run.specs.Headline.{IsJudged, AreJudged}
use Rattle.typify_run.specs.Page.{IsPrintable, ArePrintable}
use Rattle.typify_run.proofs.Numbers.{json_numbers}
use Rattle.typify_run.proofs.SettledNumbers.{settled_numbers, no_float}

pub both_true : (a b : Bool) → (a && b) ≡ true → (a ≡ true) × (b ≡ true)
both_true true b h = (refl, h)
both_true false b h = cc

-- ---- one more verdict, and one more value

verdicts_push : (ms : List ContainerModel) (cs : ConversionsD) (r : Relations) (t : TypeModel) (ds : List Data) (vs : List VerdictD) (d : Data) (v : VerdictD)
    → AreVerdicts ms cs r t ds vs → IsVerdict ms cs r t (value_of d) v → AreVerdicts ms cs r t (ds ++ d ∷ []) (vs ++ v ∷ [])
verdicts_push ms cs r t [] [] d v h k = (k, tt)
verdicts_push ms cs r t [] (w ∷ ws) d v h k = absurd h
verdicts_push ms cs r t (e ∷ es) [] d v h k = absurd h
verdicts_push ms cs r t (e ∷ es) (w ∷ ws) d v h k = (h.0, verdicts_push ms cs r t es ws d v h.1 k)

pub verdicts_more : {X Y : Type 0} → (ms : List ContainerModel) (cs : ConversionsD) (r : Relations) (t : TypeModel) (f : X → Data) (g : Y → VerdictD) (xs : List X) (i : ℕ) (x : X) (ys : List Y) (y : Y) → i < length xs
    → AreVerdicts ms cs r t (map f (take i xs)) (map g ys) → IsVerdict ms cs r t (value_of (f (get_or xs i x))) (g y) → AreVerdicts ms cs r t (map f (take (i + 1) xs)) (map g (ys ++ y ∷ []))
verdicts_more ms cs r t f g xs i x ys y h k m =
    let front = ap (map f) (take_more xs i x h) ∙ map-append f (take i xs) (get_or xs i x ∷ []) in
    let ends = map-append g ys (y ∷ []) in
    subst (λ ds. AreVerdicts ms cs r t ds (map g (ys ++ y ∷ []))) (sym front)
    (subst (λ vs. AreVerdicts ms cs r t (map f (take i xs) ++ f (get_or xs i x) ∷ []) vs) (sym ends) (verdicts_push ms cs r t (map f (take i xs)) (map g ys) (f (get_or xs i x)) (g y) k m))

-- no value is left
pub none_left : {X Y : Type 0} → (ms : List ContainerModel) (cs : ConversionsD) (r : Relations) (t : TypeModel) (f : X → Data) (g : Y → VerdictD) (ds : List Data) (ys : List Y) (left : List X) → length left ≡ 0
    → ((vs : List VerdictD) → AreVerdicts ms cs r t (map f left) vs → AreVerdicts ms cs r t ds (map g ys ++ vs)) → AreVerdicts ms cs r t ds (map g ys)
none_left ms cs r t f g ds ys [] e h = subst (λ vs. AreVerdicts ms cs r t ds vs) (append-nil (map g ys)) (h [] tt)
none_left ms cs r t f g ds ys (x ∷ xs) e h = absurd (omega (arith, e))

pub i64_at : {X : Type 0} → (f : X → Data) (xs : List X) (i : ℕ) (x : X) → are_i64 (map f xs) ≡ true → i < length xs → holds_i64_alone (value_of (f (get_or xs i x))) ≡ true
i64_at f [] i x h k = absurd (omega (arith, k))
i64_at f (y ∷ ys) zero x h k = (both_true (holds_i64_alone (value_of (f y))) (are_i64 (map f ys)) h).0
i64_at f (y ∷ ys) (suc i) x h k = i64_at f ys i x (both_true (holds_i64_alone (value_of (f y))) (are_i64 (map f ys)) h).1 (omega (arith, k))

-- ---- what verdicts say

pub said : (ms : List ContainerModel) (cs : ConversionsD) (r : Relations) (t : TypeModel) (d : Data) (v : VerdictD)
    → IsVerdict ms cs r t (value_of d) v → IsJudged (reads ms cs r t) (settled ms cs r t) (refused_at ms cs r t) d v
said ms cs r t d (taken w) h = (h.0, h.2)
said ms cs r t d (refused l) h = h

all_said : (ms : List ContainerModel) (cs : ConversionsD) (r : Relations) (t : TypeModel) (ds : List Data) (vs : List VerdictD)
    → AreVerdicts ms cs r t ds vs → AreJudged (reads ms cs r t) (settled ms cs r t) (refused_at ms cs r t) ds vs
all_said ms cs r t [] [] h = tt
all_said ms cs r t [] (v ∷ vs) h = absurd h
all_said ms cs r t (d ∷ ds) [] h = absurd h
all_said ms cs r t (d ∷ ds) (v ∷ vs) h = (said ms cs r t d v h.0, all_said ms cs r t ds vs h.1)

-- by containers and a type that are the same
pub judged_alike : (ms ns : List ContainerModel) (cs : ConversionsD) (r : Relations) (t u : TypeModel) (ds : List Data) (vs : List VerdictD) → ns ≡ ms → u ≡ t
    → AreVerdicts ms cs r t ds vs → AreJudged (reads ns cs r u) (settled ns cs r u) (refused_at ns cs r u) ds vs
judged_alike ms ns cs r t u ds vs e f h =
    subst (λ ks. AreJudged (reads ks cs r u) (settled ks cs r u) (refused_at ks cs r u) ds vs) (sym e)
    (subst (λ x. AreJudged (reads ms cs r x) (settled ms cs r x) (refused_at ms cs r x) ds vs) (sym f) (all_said ms cs r t ds vs h))

pub verdicts_alike : (ms ns : List ContainerModel) (cs es : ConversionsD) (r : Relations) (t : TypeModel) (ds : List Data) (vs : List VerdictD) → ms ≡ ns → cs ≡ es → AreVerdicts ms cs r t ds vs → AreVerdicts ns es r t ds vs
verdicts_alike ms ns cs es r t ds vs e f h = subst (λ ks. AreVerdicts ks es r t ds vs) e (subst (λ k. AreVerdicts ms k r t ds vs) f h)

-- ---- what is written is printed

pub printed : (ms : List ContainerModel) (cs : ConversionsD) (r : Relations) (t : TypeModel) (d : Data) (v : VerdictD) → list_all has_json_numbers cs.defaults ≡ true
    → holds_i64_alone (value_of d) ≡ true → IsVerdict ms cs r t (value_of d) v → IsPrintable v
printed ms cs r t d (taken w) n i h =
    no_float w (ap has_json_numbers h.2 ∙ settled_numbers ms cs r n t (value_of d) (json_numbers (value_of d) i))
printed ms cs r t d (refused l) n i h = tt

pub printable : (ms : List ContainerModel) (cs : ConversionsD) (r : Relations) (t : TypeModel) (ds : List Data) (vs : List VerdictD) → list_all has_json_numbers cs.defaults ≡ true
    → are_i64 ds ≡ true → AreVerdicts ms cs r t ds vs → ArePrintable vs
printable ms cs r t [] [] n i h = tt
printable ms cs r t [] (v ∷ vs) n i h = absurd h
printable ms cs r t (d ∷ ds) [] n i h = absurd h
printable ms cs r t (d ∷ ds) (v ∷ vs) n i h =
    let whole = both_true (holds_i64_alone (value_of d)) (are_i64 ds) i in
    (printed ms cs r t d v n whole.0 h.0, printable ms cs r t ds vs n whole.1 h.1)
