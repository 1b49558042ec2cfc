-- What the walk comes to says all that is promised.
use Rattle.std.proofs.Common.{◌≡◌, ◌↔◌, ℕ, Bool, true, false, true≢false, refl, sym, ap, subst, ◌∙◌}
use Rattle.model_defs.specs.Types.{TypeModel}
use Rattle.model_defs.specs.Reach.{NoneReachesItself}
use Rattle.describe_defs.specs.Plain.{IsPlainTable}
use Rattle.equal_laws.proofs.Plain.{plain_covered}
use Rattle.evolve_defs.specs.Forms as forms
use Rattle.evolve_defs.specs.Forms.{Table, a_type}
use Rattle.evolve_defs.specs.Steps as steps
use Rattle.evolve_defs.specs.Steps.{fails, step}
use Rattle.evolve_defs.specs.Covers.{Covers, Reached}
use Rattle.evolve_defs.specs.Tables.{IsTame}
use Rattle.evolve_defs.specs.Walk as walk
use Rattle.evolve_defs.specs.Walk.{spent, covered, broken_at, AnswersAreRight}
use Rattle.evolve_defs.specs.Spots.{Spots, of_type, node_at, nodes_at, spots_turn, covering}
use Rattle.evolve_defs.proofs.Spots.{covering_exact}
use Rattle.evolve_defs.proofs.Tables.{evolution_of_tables}
use Rattle.evolve_ways.specs.Ways.{Leads}
use Rattle.evolve_rows.specs.TurnView.{broken_view, pair_view}
use Rattle.evolve_walks.specs.Same.{same_spots}
use Rattle.evolve_walks.specs.Walking.{EndsAs, walked_view}
use Rattle.evolve_walks.specs.Way.{IsOnWay, IsWay, marks_view}
use Rattle.evolve_walks.specs.declared.walk.Walked.{Walked}
use Rattle.evolve_walks.specs.declared.walk.Walked.TheVariants as walked
use Rattle.evolve_walks.proofs.Sound.{spots_are}
use Rattle.model_evolve.specs.Answer.{answered, node_in, AreKept, Breaks, IsBroken, IsFound, IsLedTo}
use Rattle.model_evolve.specs.WayView.{way_in, way_walked}
use Rattle.model_evolve.specs.declared.node.Covered.{Covered}
use Rattle.model_evolve.specs.declared.node.Covered.TheVariants.{Yes, No}

pub is_found : (old new : Table) (s t : TypeModel) (c : Covered) (w : walk.Walked Spots) → EndsAs old new (of_type s, of_type t) w → answered old new c w → IsFound old s new t c
unfolding EndsAs
is_found old new s t c w h a = (h.0, subst (answered old new c) (sym h.1) a)

-- the way that is carried is that of the walk
pub is_led_to : (old new : Table) (s t : TypeModel) (c : Covered) (w : Walked) → IsOnWay old new (of_type s, of_type t) w → answered old new c (walked_view w) → way_in c ≡ way_walked w → IsLedTo old s new t c
unfolding IsWay
is_led_to old new s t Yes w l a e = tt
is_led_to old new s t (No x y b way) walked.Covered l a e = absurd a
is_led_to old new s t (No x y b way) (walked.Broken p f ms) l a e =
    subst (λ k. Leads old new (node_in old x) (node_in new y) (a_type s) (a_type t) k) (sym e)
    (subst (λ n. Leads old new (node_in old x) n (a_type s) (a_type t) (marks_view ms.items)) (sym a.1)
    (subst (λ m. Leads old new m (node_at new (pair_view p).1) (a_type s) (a_type t) (marks_view ms.items)) (sym a.0) l))

-- the same of tables and types that are equal
pub moved : (old old' new new' : Table) (s s' t t' : TypeModel) (c : Covered) → old ≡ old' → new ≡ new' → s ≡ s' → t ≡ t' → IsFound old s new t c → IsFound old' s' new' t' c
moved old old' new new' s s' t t' c a b e g f = subst (λ u. u) (λ i. IsFound (a i) (e i) (b i) (g i) c) f

pub led_moved : (old old' new new' : Table) (s s' t t' : TypeModel) (c : Covered) → old ≡ old' → new ≡ new' → s ≡ s' → t ≡ t' → IsLedTo old s new t c → IsLedTo old' s' new' t' c
led_moved old old' new new' s s' t t' c a b e g f = subst (λ u. u) (λ i. IsLedTo (a i) (e i) (b i) (g i) c) f

abbrev is_yes : Covered → Bool
is_yes Yes = true
is_yes (No a b e way) = false

module _ (old : Table) (s : TypeModel) (new : Table) (t : TypeModel) where
  right : AnswersAreRight old new same_spots (spots_turn old new) (nodes_at old new) (of_type s, of_type t)
  right = covering_exact old new same_spots spots_are s t

  covers_by : (c : Covered) (w : walk.Walked Spots) (n : ℕ) → covering old new same_spots n s t ≡ w → answered old new c w → c ≡ Yes → Covers old new (a_type s) (a_type t)
  covers_by Yes covered n h a e = right.yes n h
  covers_by Yes (broken_at p f) n h a e = absurd a
  covers_by Yes spent n h a e = absurd a
  covers_by (No x y b way) w n h a e = absurd (no_is_no e)
    where
      no_is_no : No x y b way ≡ Yes → ⊥
      no_is_no k = true≢false (sym (ap is_yes k))

  covered_by : (c : Covered) (w : walk.Walked Spots) (n : ℕ) → covering old new same_spots n s t ≡ w → answered old new c w → Covers old new (a_type s) (a_type t) → c ≡ Yes
  covered_by Yes w n h a all = refl
  covered_by (No x y b way) covered n h a all = absurd a
  covered_by (No x y b way) (broken_at p f) n h a all = absurd (right.exact n all p f h)
  covered_by (No x y b way) spent n h a all = absurd a

  breaks_by : (x y : forms.Node) (e : steps.Broken) (p : Spots) (f : steps.Broken) → x ≡ node_at old p.0 → y ≡ node_at new p.1 → e ≡ f
      → Reached old new (a_type s) (a_type t) (node_at old p.0) (node_at new p.1) → step old new (node_at old p.0) (node_at new p.1) ≡ fails f → Breaks old s new t x y e
  breaks_by x y e p f i j k r g = record {
    reached = subst (λ m. Reached old new (a_type s) (a_type t) m y) (sym i) (subst (λ m. Reached old new (a_type s) (a_type t) (node_at old p.0) m) (sym j) r);
    rule = (λ l. step old new (i l) (j l)) ∙ g ∙ ap fails (sym k);
  }

  broken_by : (c : Covered) (w : walk.Walked Spots) (n : ℕ) → covering old new same_spots n s t ≡ w → answered old new c w → IsBroken old s new t c
  broken_by Yes w n h a = tt
  broken_by (No x y b way) covered n h a = absurd a
  broken_by (No x y b way) (broken_at p f) n h a =
      let held = right.no n p f h in
      breaks_by (node_in old x) (node_in new y) (broken_view b) p f a.0 a.1 a.2 held.0 held.1
  broken_by (No x y b way) spent n h a = absurd a

  -- ---- what is promised of the answer

  pub is_exact : (c : Covered) → IsFound old s new t c → (c ≡ Yes) ↔ Covers old new (a_type s) (a_type t)
  is_exact c f = (covers_by c (covering old new same_spots f.0 s t) f.0 refl f.1, covered_by c (covering old new same_spots f.0 s t) f.0 refl f.1)

  pub is_broken : (c : Covered) → IsFound old s new t c → IsBroken old s new t c
  is_broken c f = broken_by c (covering old new same_spots f.0 s t) f.0 refl f.1

  pub are_kept : (c : Covered) → IsFound old s new t c → IsTame old.models → IsTame new.models → NoneReachesItself old.models → NoneReachesItself new.models → AreKept old s new t c
  are_kept Yes f tame tame' ends ends' = λ r lawful sound v h.
      evolution_of_tables old new r lawful tame tame' ends ends' sound.numbers sound.sound s t (covers_by Yes (covering old new same_spots f.0 s t) f.0 refl f.1 refl) v h
  are_kept (No a b e way) f tame tame' ends ends' = tt

  pub are_plain : (c : Covered) → IsFound old s new t c → IsTame old.models → old ≡ new → s ≡ t → IsPlainTable old.models old.conversions s → c ≡ Yes
  are_plain c f tame e g plain =
      covered_by c (covering old new same_spots f.0 s t) f.0 refl f.1
      (subst (λ m. Covers old m (a_type s) (a_type t)) e (subst (λ u. Covers old old (a_type s) (a_type u)) g (plain_covered old s plain tame.fit)))
