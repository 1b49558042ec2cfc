-- The walk that a call of merging is refused for is that of its outcome.
use Rattle.std.proofs.Common.{◌≡◌, ℕ, [], ◌∷◌, None, ap, subst, arith, length}
use Rattle.schema_defs.specs.Location.{Location}
use Rattle.schema_defs.specs.Schema.{Schema, Document}
use Rattle.schema_defs.specs.Walks.{IsWalk}
use Rattle.merge_defs.specs.Outcome.{Outcome, fault, never, answer, depth, unsupported}
use Rattle.merge_walks.specs.Carried.{Walk}
use Rattle.merge_walks.specs.Told.{Told, refused, told, too_deep, cannot, told_at, place_of, place_of_first}
use Rattle.merge_walks.specs.Walked.{less_by_walks, merge_by_walks, with_by_walks}
use Rattle.schema_merge.specs.Ordered.{ordered}
use Rattle.depth_laws.specs.Steps.{IsOneStepMore, StayShort}
use Rattle.depth_laws.specs.Leading.{IsMergingWalk, AreLedTo, TellsWalks, LeadOn}
use Rattle.depth_laws.proofs.Short.{merges_stay_short}
use Rattle.depth_laws.proofs.Leading.{merges_lead_on}
use Rattle.told_laws.specs.Refused.{RefusesOneStepMore, RefusedCallsAreOneStepMore, RefusesAWalk, RefusedCallsLeadOn}

abbrev walk_told : Told → Walk
walk_told (refused (too_deep w)) = w
walk_told (refused (cannot u l)) = []
walk_told (told m) = []

not_empty : (l : Location) (w : Walk) → [] ≡ l ∷ w → ⊥
not_empty l w e = absurd (omega (arith, ap length e))

told_so : (most : ℕ) (p : Location) (o : Outcome Schema) → IsOneStepMore most o → RefusesOneStepMore most (told_at p (ordered o))
told_so most p (fault (depth [])) h l w e = absurd (not_empty l w (ap walk_told e))
told_so most p (fault (depth (m ∷ v))) h l w e = omega (arith, h, ap length (ap walk_told e))
told_so most p (fault (unsupported u)) h l w e = absurd (not_empty l w (ap walk_told e))
told_so most p (never ns) h l w e = absurd (not_empty l w (ap walk_told e))
told_so most p (answer ns s) h l w e = absurd (not_empty l w (ap walk_told e))

pub refused_calls_are_one_step_more : RefusedCallsAreOneStepMore
refused_calls_are_one_step_more d most n targets =
    let stays : StayShort d most n = merges_stay_short d most n targets in
    record {
      all = λ ss h. told_so most (place_of_first ss) (merge_by_walks d most n ss) (stays.gathers ss h).1;
      body = λ b ss x v h. told_so most (place_of b) (with_by_walks d most n b ss) (stays.with_all b ss x v h).1;
      left = λ a b x y. told_so most (place_of a) (less_by_walks d most n a b) (stays.leaves a b x y).1;
    }

told_lead : (d : Document) (p : Location) (o : Outcome Schema) → TellsWalks (IsMergingWalk d) (AreLedTo d (IsMergingWalk d) None) o → RefusesAWalk d (told_at p (ordered o))
told_lead d p (fault (depth [])) h l w e = absurd (not_empty l w (ap walk_told e))
told_lead d p (fault (depth (m ∷ v))) h l w e = subst (λ x. IsWalk d x) (ap walk_told e) h.0
told_lead d p (fault (unsupported u)) h l w e = absurd (not_empty l w (ap walk_told e))
told_lead d p (never ns) h l w e = absurd (not_empty l w (ap walk_told e))
told_lead d p (answer ns s) h l w e = absurd (not_empty l w (ap walk_told e))

pub refused_calls_lead_on : RefusedCallsLeadOn
refused_calls_lead_on d guarded targets most n =
    let on : LeadOn d (IsMergingWalk d) most n = merges_lead_on d guarded targets most n in
    record {
      all = λ ss h. told_lead d (place_of_first ss) (merge_by_walks d most n ss) (on.gathers ss h);
      body = λ b ss x m h. told_lead d (place_of b) (with_by_walks d most n b ss) (on.with_all b ss x m h);
      left = λ a b x y. told_lead d (place_of a) (less_by_walks d most n a b) (on.leaves a b x y);
    }
