-- What the calls of merging tell: their notes in order, and what their answers admit.
use Rattle.std.specs.Prelude.{◌≡◌, ℕ, ◌&&◌, ◌||◌, not, ◌↔◌, nat_eq, nat_lt, Bool, true, false, List, option_map, unwrap_or, Contains, AllPairs}
use Rattle.std.specs.List.{list_any, list_all}
use Rattle.json_value.specs.Value.{Value, is_whole}
use Rattle.schema_defs.specs.Texts.{Relations, IsLawful}
use Rattle.schema_defs.specs.Schema.{Schema, Same, Schemas, schema_list, Document}
use Rattle.schema_defs.specs.Admits.{admits}
use Rattle.schema_defs.specs.Walks.{IsGuarded}
use Rattle.merge_defs.specs.Outcome.{Way, narrowed, widened, same_way, Note}
use Rattle.merge_defs.specs.Members.{only_same}
use Rattle.merge_walks.specs.Told.{PlacedNote, Merged, Told, told}
use Rattle.merge_laws.specs.Laws.{Given, IsProper, ProperSame, ProperAll, ProperDocument}
use Rattle.schema_merge.specs.Ordered.{number, ordered_notes, merge_all_told, with_subschemas_told, subtract_told}

-- ---- the order of notes

-- by the number of the kind, and narrowed before widened; no note comes before itself
abbrev pub comes_before : Note → Note → Bool
comes_before m n = nat_lt (number m.kind) (number n.kind) || (nat_eq (number m.kind) (number n.kind) && (same_way m.way narrowed && same_way n.way widened))

-- each comes before all that stand after it, so each stands once; and they are those that they were made of
pub record InOrder (ns : List Note) : Type 0 where
  pub rise : AllPairs (λ m n. comes_before m n ≡ true) (ordered_notes ns)
  pub same : (n : Note) → Contains (ordered_notes ns) n ↔ Contains ns n

abbrev pub NotesAreOrdered : Type 0
NotesAreOrdered = (ns : List Note) → InOrder ns

-- a note without its place
abbrev pub unplaced : PlacedNote → Note
unplaced n = record { way = n.way; kind = n.kind }

-- where the call tells something, each note comes before all that stand after it, so that each stands once
abbrev pub TellsInOrder : Told → Type 0
TellsInOrder t = (m : Merged) → t ≡ told m → AllPairs (λ a b. comes_before (unplaced a) (unplaced b) ≡ true) m.notes

-- so do a merge of several, one of a body with subschemas, and what is left of a schema
pub record CallsTellInOrder (d : Document) : Type 0 where
  pub gathers : (most n : ℕ) (ss : Schemas) → TellsInOrder (merge_all_told d most n ss)
  pub with_all : (most n : ℕ) (b : Schema) (ss : Same) → TellsInOrder (with_subschemas_told d most n b ss)
  pub leaves : (most n : ℕ) (a b : Schema) → TellsInOrder (subtract_told d most n a b)

abbrev pub ToldNotesAreOrdered : Type 0
ToldNotesAreOrdered = (d : Document) → CallsTellInOrder d

-- ---- what is admitted

-- a note of that way is told
abbrev pub is_told : Way → Merged → Bool
is_told w m = list_any (λ n. same_way w n.way) m.notes

-- what the answer admits; never admits nothing
abbrev pub admitted : Relations → Document → Value → Merged → Bool
admitted r d v m = unwrap_or (option_map (admits r d v) m.schema) false

-- `wanted` is what the members say at a value: without a Narrowed note what is wanted is admitted, without a Widened note what is admitted is wanted.
-- What is answered is proper again, so that the law holds of its merges too.
pub record Agrees (r : Relations) (d : Document) (v : Value) (wanted : Bool) (m : Merged) : Type 0 where
  pub proper : Given IsProper m.schema
  pub enough : is_told narrowed m ≡ false → wanted ≡ true → admitted r d v m ≡ true
  pub not_more : is_told widened m ≡ false → admitted r d v m ≡ true → wanted ≡ true

-- where the call tells something, it admits what is wanted, up to its notes
abbrev pub TellsAdmission : Relations → Document → Value → Bool → Told → Type 0
TellsAdmission r d v wanted t = (m : Merged) → t ≡ told m → Agrees r d v wanted m

-- a merge of several tells what all admit, a body with subschemas what it and they admit, and what is left of a schema what it admits and the other refuses, up to notes
pub record CallsAdmitBoth (r : Relations) (d : Document) (v : Value) : Type 0 where
  pub gathers : (most n : ℕ) (ss : Schemas) → ProperAll ss → TellsAdmission r d v (list_all (admits r d v) (schema_list ss)) (merge_all_told d most n ss)
  pub with_all : (most n : ℕ) (b : Schema) (ss : Same) → IsProper b → ProperSame ss → TellsAdmission r d v (admits r d v b && admits r d v (only_same ss)) (with_subschemas_told d most n b ss)
  pub leaves : (most n : ℕ) (a b : Schema) → IsProper a → IsProper b → TellsAdmission r d v (admits r d v a && not (admits r d v b)) (subtract_told d most n a b)

abbrev pub CallsAdmit : Type 0
CallsAdmit = (r : Relations) → IsLawful r → (d : Document) → IsGuarded d → ProperDocument d → (v : Value) → is_whole v ≡ true → CallsAdmitBoth r d v
