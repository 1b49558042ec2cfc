-- Schemas in each of which names of properties and required names differ, and fewer than 2^32 places are asked of a list.
use Rattle.std.proofs.Common.{◌≡◌, List, [], ◌∷◌, true}
use Rattle.schema_defs.specs.Schema.{Schema, boolean, object, Same, no_same, same_value, Lists, no_lists, lists, Named, no_named, named, MaybeSchema, no_schema, the_schema, MaybeSchemas, no_list, the_list, Schemas, no_more, schema, Places, no_items, each_item, by_place, Properties, no_properties, property, Definition, Document}
use Rattle.convert_defs.specs.Apart.{names_apart}
use Rattle.document_laws.specs.Laws.{AsksForFew}

abbrev mutual
  pub Apart : Schema → Type 0
  Apart (boolean b) = Unit {0}
  Apart (object p ss ls ns) = ApartSame ss × ApartLists ls × ApartNamed ns

  pub ApartSame : Same → Type 0
  ApartSame no_same = Unit {0}
  ApartSame (same_value all any one none conditional) = ApartList all × ApartList any × ApartList one × ApartMaybe none

  pub ApartLists : Lists → Type 0
  ApartLists no_lists = Unit {0}
  ApartLists (lists places rest contains rules) = ApartPlaces places × ApartMaybe rest × ApartMaybe contains × AsksForFew rules

  pub ApartNamed : Named → Type 0
  ApartNamed no_named = Unit {0}
  ApartNamed (named props patterns rest names rules) = (names_apart (named props patterns rest names rules) ≡ true) × ApartNames props × ApartNames patterns × ApartMaybe rest × ApartMaybe names

  pub ApartMaybe : MaybeSchema → Type 0
  ApartMaybe no_schema = Unit {0}
  ApartMaybe (the_schema s) = Apart s

  pub ApartList : MaybeSchemas → Type 0
  ApartList no_list = Unit {0}
  ApartList (the_list ss) = ApartAll ss

  pub ApartAll : Schemas → Type 0
  ApartAll no_more = Unit {0}
  ApartAll (schema s ss) = Apart s × ApartAll ss

  pub ApartPlaces : Places → Type 0
  ApartPlaces no_items = Unit {0}
  ApartPlaces (each_item s) = Apart s
  ApartPlaces (by_place ss) = ApartAll ss

  pub ApartNames : Properties → Type 0
  ApartNames no_properties = Unit {0}
  ApartNames (property k s ps) = Apart s × ApartNames ps

abbrev pub ApartDefinitions : List Definition → Type 0
ApartDefinitions [] = Unit {0}
ApartDefinitions (e ∷ es) = Apart e.body × ApartDefinitions es

abbrev pub ApartDocument : Document → Type 0
ApartDocument d = Apart d.root × ApartDefinitions d.definitions
