-- What merges by walks admit, up to their notes.
use Rattle.std.specs.Prelude.{◌≡◌, ℕ, ◌&&◌, not, List, true, false}
use Rattle.std.specs.List.{list_all}
use Rattle.json_value.specs.Value.{Value, is_whole}
use Rattle.schema_defs.specs.Texts.{Relations, IsLawful}
use Rattle.schema_defs.specs.Schema.{Schema, Same, Schemas, schema_list, Document}
use Rattle.schema_defs.specs.Admits.{admits}
use Rattle.schema_defs.specs.Walks.{IsGuarded}
use Rattle.merge_defs.specs.Outcome.{Note, never, narrowed, has_way}
use Rattle.merge_defs.specs.Members.{only_same}
use Rattle.merge_walks.specs.Walked.{join_by_walks, less_by_walks, merge_by_walks, with_by_walks}
use Rattle.merge_laws.specs.Laws.{Meets, IsProper, ProperSame, ProperAll, ProperDocument}

-- a merge admits what both admit, a body with subschemas what it and they admit, a merge of several what all admit, and what is left of a schema admits what it admits and the other refuses, up to notes
pub record MergesByWalksAdmitBoth (r : Relations) (d : Document) (v : Value) : Type 0 where
  pub joins : (most n : ℕ) (a b : Schema) → IsProper a → IsProper b → Meets IsProper (admits r d v a && admits r d v b) (admits r d v) (join_by_walks d most n a b)
  pub with_all : (most n : ℕ) (b : Schema) (ss : Same) → IsProper b → ProperSame ss → Meets IsProper (admits r d v b && admits r d v (only_same ss)) (admits r d v) (with_by_walks d most n b ss)
  pub gathers : (most n : ℕ) (ss : Schemas) → ProperAll ss → Meets IsProper (list_all (admits r d v) (schema_list ss)) (admits r d v) (merge_by_walks d most n ss)
  pub leaves : (most n : ℕ) (a b : Schema) → IsProper a → IsProper b → Meets IsProper (admits r d v a && not (admits r d v b)) (admits r d v) (less_by_walks d most n a b)

abbrev pub MergesByWalksAreMeets : Type 0
MergesByWalksAreMeets = (r : Relations) → IsLawful r → (d : Document) → IsGuarded d → ProperDocument d → (v : Value) → is_whole v ≡ true → MergesByWalksAdmitBoth r d v

-- where the merge of several is never, without a Narrowed note, there is no value that all admit
abbrev pub NeverByWalksIsEmpty : Type 0
NeverByWalksIsEmpty = (r : Relations) → IsLawful r → (d : Document) → IsGuarded d → ProperDocument d → (v : Value) → is_whole v ≡ true
    → (most n : ℕ) (ss : Schemas) → ProperAll ss → (ns : List Note) → merge_by_walks d most n ss ≡ never ns → has_way narrowed ns ≡ false → list_all (admits r d v) (schema_list ss) ≡ false
