-- What a row that merges makes admits what the written schema admits, up to the notes of the merge.
use Rattle.std.specs.Prelude.{◌≡◌, ℕ, List, [], ◌∷◌, ◌++◌, map, Bool, true, false, Some, None, is_some, codes}
use Rattle.std.specs.List.{list_all, list_any}
use Rattle.json_value.specs.Value.{Value, is_whole}
use Rattle.schema_defs.specs.Texts.{Relations, IsLawful}
use Rattle.schema_defs.specs.Schema.{Plain, Schema, object, Same, same_value, no_list, the_list, no_schema, Lists, Named, Schemas, schema_list, Document}
use Rattle.schema_defs.specs.Admits.{admits}
use Rattle.schema_defs.specs.Walks.{IsGuarded}
use Rattle.convert_defs.specs.Row as row
use Rattle.convert_defs.specs.Row.{Part, made}
use Rattle.convert_defs.specs.IntegerRow.{note_if}
use Rattle.convert_defs.specs.Laws.{same_way}
use Rattle.convert_defs.specs.Shapes.{members_from}
use Rattle.convert_defs.specs.Table.{member_part, row_of, notes_at, no_others}
use Rattle.merge_defs.specs.Outcome.{Note, narrowed, widened, has_way, Outcome, fault, never, answer}
use Rattle.merge_laws.specs.Laws.{Meets, IsProper, ProperDocument}
use Rattle.convert_walks.specs.Spot.{Spot}
use Rattle.convert_walks.specs.Merging.{merged_at}
use Rattle.convert_walks.specs.Tree.{Standing, instead, if_merged}

-- allOf of these, and no other subschemas
abbrev pub lone_all_of : Schemas → Same
lone_all_of us = same_value (the_list us) no_list no_list no_schema false

pub record MergedRows (r : Relations) (d : Document) (v : Value) (most n : ℕ) (o : Spot) : Type 0 where
  -- a reference's target with the rest
  pub of_target : (p : Plain) (ss : Same) (ls : Lists) (ns : Named) (ps : List Part) (q : List ℕ) → p.reference ≡ Some q → IsProper (object p ss ls ns)
      → Meets IsProper (admits r d v (object p ss ls ns)) (admits r d v) (merged_at d most n o (object p ss ls ns) ps)
  -- a body with its subschemas
  pub of_body : (p : Plain) (ss : Same) (ls : Lists) (ns : Named) (b : Schema) (ps : List Part) → p.reference ≡ None → IsProper (object p ss ls ns)
      → Meets IsProper (admits r d v (object p ss ls ns)) (admits r d v) (merged_at d most n o (object p ss ls ns) (made b ∷ ps))
  -- the members of a lone allOf
  pub of_members : (p : Plain) (us : Schemas) (ls : Lists) (ns : Named) → p.reference ≡ None → IsProper (object p (lone_all_of us) ls ns)
      → Meets IsProper (list_all (admits r d v) (schema_list us)) (admits r d v) (merged_at d most n o (object p (lone_all_of us) ls ns) (map member_part (members_from (codes "allOf") 0 us)))

abbrev pub MergedRowsAgree : Type 0
MergedRowsAgree = (r : Relations) → IsLawful r → (d : Document) → IsGuarded d → ProperDocument d → (v : Value) → is_whole v ≡ true → (most n : ℕ) (o : Spot) → MergedRows r d v most n o

-- ---- the rows of the table that merge

-- what is noted of a type beside subschemas
abbrev pub type_notes : Plain → List row.Note
type_notes p = note_if (is_some p.types) (row.here row.widened row.type_note) ++ []

-- The parts of a row that merges, and its notes: of a reference; a body, and what it is merged with; or the members of a lone allOf, beside at most a type.
pub data MergesAs (p : Plain) (ss : Same) (ls : Lists) (ns : Named) (notes : List row.Note) (ps : List Part) : Type 0 where
  by_target : (q : List ℕ) → p.reference ≡ Some q → MergesAs p ss ls ns notes ps
  by_body : (b : Schema) (qs : List Part) → p.reference ≡ None → ps ≡ made b ∷ qs → MergesAs p ss ls ns notes ps
  by_members : (us : Schemas) → p.reference ≡ None → ss ≡ lone_all_of us → ps ≡ map member_part (members_from (codes "allOf") 0 us)
      → no_others p ls ns ≡ true → notes ≡ type_notes p → MergesAs p ss ls ns notes ps

-- no other row merges
abbrev pub RowsThatMerge : Type 0
RowsThatMerge = (r : Relations) (d : Document) (p : Plain) (ss : Same) (ls : Lists) (ns : Named) (ps : List Part)
    → if_merged (row_of r d (object p ss ls ns)) ≡ Some ps → MergesAs p ss ls ns (notes_at r d (object p ss ls ns)) ps

-- ---- what stands in the place of a schema whose row merges

abbrev pub notes_told : Outcome Schema → List Note
notes_told (fault f) = []
notes_told (never ns) = ns
notes_told (answer ns a) = ns

pub record Stands (r : Relations) (d : Document) (v : Value) (wanted : Bool) (m : Outcome Schema) (t : Standing) : Type 0 where
  pub proper : IsProper t.schema
  pub keeps : has_way narrowed (notes_told m) ≡ false → wanted ≡ true → admits r d v t.schema ≡ true
  pub adds_none : has_way widened (notes_told m) ≡ false → admits r d v t.schema ≡ true → wanted ≡ true

-- it admits what is wanted of the merge, up to the merge's notes; where the merge is never it admits nothing
abbrev pub StandingAgrees : Type 0
StandingAgrees = (r : Relations) (d : Document) (v : Value) (wanted : Bool) (o : Spot) (s : Schema) (m : Outcome Schema)
    → Meets IsProper wanted (admits r d v) m → (t : Standing) → instead o s m ≡ Some t → Stands r d v wanted m t

-- ---- a schema whose row merges, and what stands in its place

abbrev pub row_widens : List row.Note → Bool
row_widens ns = list_any (λ n. same_way row.widened n.way) ns

-- without a Narrowed note of the merge what it admits stands, and without a Widened note of the merge or of the row nothing else does
pub record RowAgrees (r : Relations) (d : Document) (v : Value) (s : Schema) (m : Outcome Schema) (t : Standing) : Type 0 where
  pub proper : IsProper t.schema
  pub keeps : has_way narrowed (notes_told m) ≡ false → admits r d v s ≡ true → admits r d v t.schema ≡ true
  pub adds_none : has_way widened (notes_told m) ≡ false → row_widens (notes_at r d s) ≡ false → admits r d v t.schema ≡ true → admits r d v s ≡ true

abbrev pub MergingRowsAgree : Type 0
MergingRowsAgree = (r : Relations) → IsLawful r → (d : Document) → IsGuarded d → ProperDocument d → (v : Value) → is_whole v ≡ true → (most n : ℕ) (o : Spot)
    → (p : Plain) (ss : Same) (ls : Lists) (ns : Named) → IsProper (object p ss ls ns) → (ps : List Part) → if_merged (row_of r d (object p ss ls ns)) ≡ Some ps
    → (t : Standing) → instead o (object p ss ls ns) (merged_at d most n o (object p ss ls ns) ps) ≡ Some t
    → RowAgrees r d v (object p ss ls ns) (merged_at d most n o (object p ss ls ns) ps) t
