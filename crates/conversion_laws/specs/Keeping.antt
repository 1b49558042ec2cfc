-- What merges by walks keep: names that differ, references that lead, and how far references lead at one value.
use Rattle.std.specs.Prelude.{ℕ, List, Option}
use Rattle.schema_defs.specs.Schema.{ListRules, Schema, boolean, object, Same, no_same, same_value, Lists, Named, MaybeSchema, no_schema, the_schema, MaybeSchemas, no_list, the_list, Schemas, no_more, schema, Document}
use Rattle.schema_defs.proofs.Spare.{Given, Ends}
use Rattle.merge_defs.specs.Outcome.{Outcome, fault, never, answer}
use Rattle.merge_defs.specs.Arrays.{joined_rules}
use Rattle.merge_defs.specs.Members.{only_same}
use Rattle.merge_walks.specs.Walked.{join_by_walks, less_by_walks, merge_by_walks, with_by_walks}
use Rattle.convert_defs.specs.Proper.{IsProper, ProperSame, AllProper, AllAreProper}
use Rattle.each_schema.specs.Each.{of_any_size}

-- P of what is answered
abbrev pub Always : {A : Type 0} → (A → Type 0) → Outcome A → Type 0
Always P (fault f) = Unit {0}
Always P (never ns) = Unit {0}
Always P (answer ns a) = P a

-- ---- a fact of each reference, one of the keywords of lists and one of those of members: of a schema, and of those in allOf, anyOf, oneOf and not

module _ (Reference : List ℕ → Type 0) (OfLists : Lists → Type 0) (OfNamed : Named → Type 0) where
  abbrev mutual
    pub Throughout : Schema → Type 0
    Throughout (boolean b) = Unit {0}
    Throughout (object p ss ls ns) = Given Reference p.reference × OfLists ls × OfNamed ns × ThroughoutSame ss

    pub ThroughoutSame : Same → Type 0
    ThroughoutSame no_same = Unit {0}
    ThroughoutSame (same_value all any one none conditional) = ThroughoutList all × ThroughoutList any × ThroughoutList one × ThroughoutMaybe none

    pub ThroughoutList : MaybeSchemas → Type 0
    ThroughoutList no_list = Unit {0}
    ThroughoutList (the_list ss) = ThroughoutAll ss

    pub ThroughoutMaybe : MaybeSchema → Type 0
    ThroughoutMaybe no_schema = Unit {0}
    ThroughoutMaybe (the_schema s) = Throughout s

    pub ThroughoutAll : Schemas → Type 0
    ThroughoutAll no_more = Unit {0}
    ThroughoutAll (schema s ss) = Throughout s × ThroughoutAll ss

-- ---- what merges by walks keep: P of a schema, where Same and All are P of the subschemas of a side and of several

pub record Keep (P : Schema → Type 0) (OfSame : Same → Type 0) (OfAll : Schemas → Type 0) (d : Document) (most n : ℕ) : Type 0 where
  pub joins : (a b : Schema) → P a → P b → Always P (join_by_walks d most n a b)
  pub leaves : (a b : Schema) → P a → P b → Always P (less_by_walks d most n a b)
  pub with_all : (b : Schema) (ss : Same) → P b → OfSame ss → Always P (with_by_walks d most n b ss)
  pub gathers : (ss : Schemas) → OfAll ss → Always P (merge_by_walks d most n ss)

-- what is asked of the rules of lists holds of both rules in one, and with whatever greatest number of items
pub record SizesAreKept (sized : ListRules → Type 0) : Type 0 where
  pub of_both : (c e : ListRules) → sized c → sized e → sized (joined_rules c e)
  pub up_to : (c : ListRules) (most : Option ℕ) → sized c → sized (record c { max_items = most })

-- in each schema names differ, references lead, and a `#` is known to the document; sizes are as they should be
abbrev pub AreKeptProper : (ListRules → Type 0) → Type 0
AreKeptProper sized = (d : Document) → AllAreProper sized d → (most n : ℕ) → Keep (IsProper sized d) (ProperSame sized d) (AllProper sized d) d most n

abbrev pub MergesAreProper : Type 0
MergesAreProper = AreKeptProper of_any_size

-- walks of references at one value are no longer
abbrev pub EndsSame : Document → ℕ → Same → Type 0
EndsSame d k ss = Ends d k (only_same ss)

abbrev pub EndsAll : Document → ℕ → Schemas → Type 0
EndsAll d k no_more = Unit {0}
EndsAll d k (schema s ss) = Ends d k s × EndsAll d k ss

abbrev pub MergesEnd : Type 0
MergesEnd = (d : Document) (most n k : ℕ) → Keep (Ends d k) (EndsSame d k) (EndsAll d k) d most n
