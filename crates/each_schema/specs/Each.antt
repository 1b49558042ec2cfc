-- What holds of each schema inside a schema, itself among them.
use Rattle.std.specs.Prelude.{List, [], ◌∷◌, ⊤}
use Rattle.schema_defs.specs.Schema.{Plain, Schema, boolean, object, Same, no_same, same_value, Lists, no_lists, lists, Named, no_named, named, MaybeSchema, no_schema, the_schema, MaybeSchemas, no_list, the_list, Schemas, no_more, schema, Places, no_items, each_item, by_place, Properties, no_properties, property, ListRules, Definition, Document}

-- `At` is asked of the keywords of each schema, and `sized` of the rules of each list
module _ (At : Plain → Named → Type 0) (sized : ListRules → Type 0) where
  abbrev mutual
    pub EachSchema : Schema → Type 0
    EachSchema (boolean b) = ⊤
    EachSchema (object p ss ls ns) = At p ns × EachInSame ss × EachInLists ls × EachInNamed ns

    pub EachInSame : Same → Type 0
    EachInSame no_same = ⊤
    EachInSame (same_value all any one none conditional) = EachInList all × EachInList any × EachInList one × EachInMaybe none

    pub EachInLists : Lists → Type 0
    EachInLists no_lists = ⊤
    EachInLists (lists places others contains rules) = EachInPlaces places × EachInMaybe others × EachInMaybe contains × sized rules

    pub EachInNamed : Named → Type 0
    EachInNamed no_named = ⊤
    EachInNamed (named props patterns others names rules) = EachInProperties props × EachInProperties patterns × EachInMaybe others × EachInMaybe names

    pub EachInMaybe : MaybeSchema → Type 0
    EachInMaybe no_schema = ⊤
    EachInMaybe (the_schema s) = EachSchema s

    pub EachInList : MaybeSchemas → Type 0
    EachInList no_list = ⊤
    EachInList (the_list ss) = EachInAll ss

    pub EachInAll : Schemas → Type 0
    EachInAll no_more = ⊤
    EachInAll (schema s ss) = EachSchema s × EachInAll ss

    pub EachInPlaces : Places → Type 0
    EachInPlaces no_items = ⊤
    EachInPlaces (each_item s) = EachSchema s
    EachInPlaces (by_place ss) = EachInAll ss

    pub EachInProperties : Properties → Type 0
    EachInProperties no_properties = ⊤
    EachInProperties (property k s ps) = EachSchema s × EachInProperties ps

  abbrev pub EachInDefinitions : List Definition → Type 0
  EachInDefinitions [] = ⊤
  EachInDefinitions (e ∷ es) = EachSchema e.body × EachInDefinitions es

  abbrev pub EachInDocument : Document → Type 0
  EachInDocument d = EachSchema d.root × EachInDefinitions d.definitions

-- nothing is asked of the rules of lists
abbrev pub of_any_size : ListRules → Type 0
of_any_size rules = ⊤
