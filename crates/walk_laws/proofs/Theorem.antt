-- Merges by walks admit what both sides admit, up to notes.
use Rattle.std.proofs.Common.{subst}
use Rattle.std.specs.List.{list_all}
use Rattle.schema_defs.specs.Schema.{schema_list}
use Rattle.schema_defs.specs.Admits.{admits}
use Rattle.enum_defs.proofs.Tests.{is_false}
use Rattle.merge_walks.specs.Walked.{parts_within, join_by_walks, less_by_walks}
use Rattle.merge_laws.specs.Laws.{Meets, IsProper}
use Rattle.merge_laws.proofs.Main.{gathers}
use Rattle.merge_laws.proofs.Theorem.{owed}
use Rattle.walk_laws.specs.Laws.{MergesByWalksAreMeets, NeverByWalksIsEmpty}
use Rattle.walk_laws.proofs.Walked.{walked, walked-with, parts-lawful}

pub merges_by_walks_are_meets : MergesByWalksAreMeets
merges_by_walks_are_meets r lawful d guarded proper v h = record {
  joins = λ most n. (walked r lawful d guarded proper (owed r d guarded) (parts_within d most n).join (parts_within d most n).less (parts-lawful r lawful d guarded proper (owed r d guarded) most n) most v h).merges;
  with_all = λ most n. walked-with r lawful d guarded proper (owed r d guarded) (parts_within d most n).join (parts_within d most n).less (parts-lawful r lawful d guarded proper (owed r d guarded) most n) most v h;
  gathers = λ most n. gathers r lawful d guarded proper (owed r d guarded) (join_by_walks d most n) (less_by_walks d most n)
      (λ v h. walked r lawful d guarded proper (owed r d guarded) (parts_within d most n).join (parts_within d most n).less (parts-lawful r lawful d guarded proper (owed r d guarded) most n) most v h) v h;
  leaves = λ most n. (walked r lawful d guarded proper (owed r d guarded) (parts_within d most n).join (parts_within d most n).less (parts-lawful r lawful d guarded proper (owed r d guarded) most n) most v h).takes;
}

pub never_by_walks_is_empty : NeverByWalksIsEmpty
never_by_walks_is_empty r lawful d guarded proper v w most n ss p ns e h =
    is_false (list_all (admits r d v) (schema_list ss))
    (subst (Meets IsProper (list_all (admits r d v) (schema_list ss)) (admits r d v)) e ((merges_by_walks_are_meets r lawful d guarded proper v w).gathers most n ss p) h)
