-- What a merge admits, up to its notes.
use Rattle.std.specs.Prelude.{◌≡◌, ℕ, ◌≤◌, ◌&&◌, not, List, [], ◌∷◌, Bool, true, false, Option, Some, None}
use Rattle.std.specs.List.{list_all}
use Rattle.json_value.specs.Value.{Value, is_whole}
use Rattle.schema_defs.specs.declared.InstanceType.{InstanceType}
use Rattle.schema_defs.specs.declared.InstanceType.TheVariants.{Number}
use Rattle.schema_defs.specs.Texts.{Relations, IsLawful}
use Rattle.schema_defs.specs.Schema.{Types, one_type, many_types, Numbers, Plain, Schema, Same, Lists, Named, MaybeSchema, MaybeSchemas, Schemas, schema_list, Places, Properties, Definition, Document}
use Rattle.each_schema.specs.Each.{EachSchema, EachInSame, EachInLists, EachInNamed, EachInMaybe, EachInList, EachInAll, EachInPlaces, EachInProperties, EachInDefinitions, EachInDocument, of_any_size}
use Rattle.schema_defs.specs.Admits.{admits}
use Rattle.schema_defs.specs.Walks.{IsGuarded}
use Rattle.merge_defs.specs.Outcome.{Note, Outcome, fault, never, answer, narrowed, widened, has_way}
use Rattle.merge_defs.specs.Leaves.{names_type}
use Rattle.merge_defs.specs.Members.{only_same}
use Rattle.merge_defs.specs.Merge.{join, less, with_subschemas, merge_all}

-- `wanted` is what both sides say at a value, and `holds` what an answer says there: without a Narrowed note what is wanted holds,
-- without a Widened note what holds is wanted; never says no. Each answer is P.
abbrev pub Meets : {A : Type 0} → (A → Type 0) → Bool → (A → Bool) → Outcome A → Type 0
Meets P wanted holds (fault f) = Unit {0}
Meets P wanted holds (never ns) = has_way narrowed ns ≡ false → wanted ≡ true → ⊥
Meets P wanted holds (answer ns a) = P a × (has_way narrowed ns ≡ false → wanted ≡ true → holds a ≡ true) × (has_way widened ns ≡ false → holds a ≡ true → wanted ≡ true)

-- ---- schemas in which `number` stands in lists of all names alone, and multiples are at least 1

abbrev pub Given : {A : Type 0} → (A → Type 0) → Option A → Type 0
Given P None = Unit {0}
Given P (Some x) = P x

-- where `number` is named, every name is
abbrev pub AreProper : List InstanceType → Type 0
AreProper ks = names_type ks Number ≡ true → (k : InstanceType) → names_type ks k ≡ true

abbrev pub ProperTypes : Types → Type 0
ProperTypes (one_type k) = AreProper (k ∷ [])
ProperTypes (many_types ks) = AreProper ks

abbrev pub ProperNumbers : Numbers → Type 0
ProperNumbers n = Given (λ m. 1 ≤ m) n.multiple_of

abbrev pub ProperPlain : Plain → Type 0
ProperPlain p = Given ProperTypes p.types × Given ProperNumbers p.numbers

abbrev pub AreKeywordsProper : Plain → Named → Type 0
AreKeywordsProper p ns = ProperPlain p

abbrev pub IsProper : Schema → Type 0
IsProper = EachSchema AreKeywordsProper of_any_size

abbrev pub ProperSame : Same → Type 0
ProperSame = EachInSame AreKeywordsProper of_any_size

abbrev pub ProperLists : Lists → Type 0
ProperLists = EachInLists AreKeywordsProper of_any_size

abbrev pub ProperNamed : Named → Type 0
ProperNamed = EachInNamed AreKeywordsProper of_any_size

abbrev pub ProperMaybe : MaybeSchema → Type 0
ProperMaybe = EachInMaybe AreKeywordsProper of_any_size

abbrev pub ProperList : MaybeSchemas → Type 0
ProperList = EachInList AreKeywordsProper of_any_size

abbrev pub ProperAll : Schemas → Type 0
ProperAll = EachInAll AreKeywordsProper of_any_size

abbrev pub ProperPlaces : Places → Type 0
ProperPlaces = EachInPlaces AreKeywordsProper of_any_size

abbrev pub ProperProperties : Properties → Type 0
ProperProperties = EachInProperties AreKeywordsProper of_any_size

abbrev pub ProperDefinitions : List Definition → Type 0
ProperDefinitions = EachInDefinitions AreKeywordsProper of_any_size

abbrev pub ProperDocument : Document → Type 0
ProperDocument = EachInDocument AreKeywordsProper of_any_size

-- ---- the laws, in a document of either setting

-- a merge admits what both admit, a body with subschemas what it and they admit, a merge of several what all admit, and what is left of a schema admits what it admits and the other refuses, up to notes
pub record MergesAdmitBoth (r : Relations) (d : Document) (v : Value) : Type 0 where
  pub joins : (n : ℕ) (a b : Schema) → IsProper a → IsProper b → Meets IsProper (admits r d v a && admits r d v b) (admits r d v) (join d n a b)
  pub with_all : (n : ℕ) (b : Schema) (ss : Same) → IsProper b → ProperSame ss → Meets IsProper (admits r d v b && admits r d v (only_same ss)) (admits r d v) (with_subschemas d n b ss)
  pub gathers : (n : ℕ) (ss : Schemas) → ProperAll ss → Meets IsProper (list_all (admits r d v) (schema_list ss)) (admits r d v) (merge_all d n ss)
  pub leaves : (n : ℕ) (a b : Schema) → IsProper a → IsProper b → Meets IsProper (admits r d v a && not (admits r d v b)) (admits r d v) (less d n a b)

abbrev pub MergesAreMeets : Type 0
MergesAreMeets = (r : Relations) → IsLawful r → (d : Document) → IsGuarded d → ProperDocument d → (v : Value) → is_whole v ≡ true → MergesAdmitBoth r d v

-- where the merge of several is never, without a Narrowed note, there is no value that all admit
abbrev pub NeverIsEmpty : Type 0
NeverIsEmpty = (r : Relations) → IsLawful r → (d : Document) → IsGuarded d → ProperDocument d → (v : Value) → is_whole v ≡ true
    → (n : ℕ) (ss : Schemas) → ProperAll ss → (ns : List Note) → merge_all d n ss ≡ never ns → has_way narrowed ns ≡ false → list_all (admits r d v) (schema_list ss) ≡ false
