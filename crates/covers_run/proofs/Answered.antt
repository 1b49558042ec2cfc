-- The answer of two modules is that of the reports of which they were made.
use Rattle.std.proofs.Common.{◌≡◌, subst}
use Rattle.std.specs.Prelude.{◌↔◌}
use Rattle.describe_defs.specs.Plain.{IsPlainTable}
use Rattle.evolve_defs.specs.Covers as walk
use Rattle.evolve_defs.specs.Forms.{Table, a_type}
use Rattle.model_evolve.specs.Answer.{AreKept, IsBroken, IsFound, IsLedTo}
use Rattle.model_evolve.specs.declared.node.Covered.{Covered}
use Rattle.model_evolve.specs.declared.node.Covered.TheVariants.{Yes}
use Rattle.typify_run.specs.Headline.{root_of}
use Rattle.typify_run.specs.declared.report.Report.{Report}
use Rattle.covers_run.specs.Compares.{IsAnswer, table_of}

-- of two tables
abbrev IsAnswerIn : Report → Report → Covered → Table → Table → Type 0
IsAnswerIn old new c s t =
    IsFound s (root_of old) t (root_of new) c × AreKept s (root_of old) t (root_of new) c × IsBroken s (root_of old) t (root_of new) c × IsLedTo s (root_of old) t (root_of new) c
    × ((c ≡ Yes) ↔ walk.Covers s t (a_type (root_of old)) (a_type (root_of new)))
    × (s ≡ t → root_of old ≡ root_of new → IsPlainTable s.models s.conversions (root_of old) → c ≡ Yes)

pub answer_of : (old new : Report) (c : Covered) (s t : Table) → s ≡ table_of old → t ≡ table_of new
    → IsFound s (root_of old) t (root_of new) c → AreKept s (root_of old) t (root_of new) c → IsBroken s (root_of old) t (root_of new) c → IsLedTo s (root_of old) t (root_of new) c
    → ((c ≡ Yes) ↔ walk.Covers s t (a_type (root_of old)) (a_type (root_of new))) → (s ≡ t → root_of old ≡ root_of new → IsPlainTable s.models s.conversions (root_of old) → c ≡ Yes)
    → IsAnswer old new c
answer_of old new c s t p q found kept broken led exact plain =
    let all = subst (λ (t : Table). IsAnswerIn old new c (table_of old) t) q (subst (λ (s : Table). IsAnswerIn old new c s t) p (found, kept, broken, led, exact, plain)) in
    record { found = all.0; kept = all.1; broken = all.2; led = all.3; exact = all.4; plain = all.5 }
