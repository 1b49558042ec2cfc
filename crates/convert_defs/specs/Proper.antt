-- Schemas all of whose schemas are in order: names of properties and of required members differ, references lead, and a `$ref` that is `#` stands in the document.
use Rattle.std.specs.Prelude.{◌≡◌, ℕ, List, Bool, true, Option, Some, None, is_some}
use Rattle.std.specs.List.{AllByRecursion}
use Rattle.schema_defs.specs.Schema.{Plain, Schema, Same, Lists, Named, MaybeSchema, MaybeSchemas, Schemas, Places, Properties, ListRules, Document}
use Rattle.schema_defs.specs.Admits.{target}
use Rattle.convert_defs.specs.Apart.{names_apart}
use Rattle.convert_defs.specs.RootReference.{is_root, refers_to_root}
use Rattle.each_schema.specs.Each.{EachSchema, EachInSame, EachInLists, EachInNamed, EachInMaybe, EachInList, EachInAll, EachInPlaces, EachInProperties, of_any_size}

abbrev pub leads : Document → Option (List ℕ) → Bool
leads d None = true
leads d (Some q) = is_some (target d q)

-- the keywords of one schema
pub record AreProper (d : Document) (reference : Option (List ℕ)) (ns : Named) : Type 0 where
  pub apart : names_apart ns ≡ true
  pub led : leads d reference ≡ true
  pub known : is_root reference ≡ true → refers_to_root d ≡ true

abbrev pub AreKeywordsProper : Document → Plain → Named → Type 0
AreKeywordsProper d p ns = AreProper d p.reference ns

-- `sized` is what is asked of the rules of lists
module _ (sized : ListRules → Type 0) (d : Document) where
  abbrev pub IsProper : Schema → Type 0
  IsProper = EachSchema (AreKeywordsProper d) sized

  abbrev pub ProperSame : Same → Type 0
  ProperSame = EachInSame (AreKeywordsProper d) sized

  abbrev pub ProperLists : Lists → Type 0
  ProperLists = EachInLists (AreKeywordsProper d) sized

  abbrev pub ProperNamed : Named → Type 0
  ProperNamed = EachInNamed (AreKeywordsProper d) sized

  abbrev pub ProperMaybe : MaybeSchema → Type 0
  ProperMaybe = EachInMaybe (AreKeywordsProper d) sized

  abbrev pub ProperMembers : MaybeSchemas → Type 0
  ProperMembers = EachInList (AreKeywordsProper d) sized

  abbrev pub AllProper : Schemas → Type 0
  AllProper = EachInAll (AreKeywordsProper d) sized

  abbrev pub ProperPlaces : Places → Type 0
  ProperPlaces = EachInPlaces (AreKeywordsProper d) sized

  abbrev pub ProperProperties : Properties → Type 0
  ProperProperties = EachInProperties (AreKeywordsProper d) sized

  -- of the root and of each definition
  pub record AllAreProper : Type 0 where
    pub root : IsProper d.root
    pub definitions : AllByRecursion (λ e. IsProper e.body) d.definitions

abbrev pub IsProperDocument : Document → Type 0
IsProperDocument d = AllAreProper of_any_size d
