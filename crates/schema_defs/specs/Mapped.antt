-- Schemas with what holds no schema changed at each level: without annotations, or without walks.
use Rattle.std.specs.Prelude.{map, None}
use Rattle.schema_defs.specs.Schema.{Plain, Schema, boolean, object, Same, no_same, same_value, Lists, no_lists, lists, Named, no_named, named, MaybeSchema, no_schema, the_schema, MaybeSchemas, no_list, the_list, Schemas, no_more, schema, Places, no_items, each_item, by_place, Properties, no_properties, property, Definition, Document}

module _ (f : Plain → Plain) where
  abbrev mutual
    pub mapped : Schema → Schema
    mapped (boolean b) = boolean b
    mapped (object p ss ls ns) = object (f p) (mapped_same ss) (mapped_lists ls) (mapped_named ns)

    pub mapped_same : Same → Same
    mapped_same no_same = no_same
    mapped_same (same_value all any one none conditional) = same_value (mapped_list all) (mapped_list any) (mapped_list one) (mapped_maybe none) conditional

    pub mapped_lists : Lists → Lists
    mapped_lists no_lists = no_lists
    mapped_lists (lists places rest contains rules) = lists (mapped_places places) (mapped_maybe rest) (mapped_maybe contains) rules

    pub mapped_named : Named → Named
    mapped_named no_named = no_named
    mapped_named (named props patterns rest names rules) = named (mapped_properties props) (mapped_properties patterns) (mapped_maybe rest) (mapped_maybe names) rules

    pub mapped_maybe : MaybeSchema → MaybeSchema
    mapped_maybe no_schema = no_schema
    mapped_maybe (the_schema s) = the_schema (mapped s)

    pub mapped_list : MaybeSchemas → MaybeSchemas
    mapped_list no_list = no_list
    mapped_list (the_list ss) = the_list (mapped_all ss)

    pub mapped_all : Schemas → Schemas
    mapped_all no_more = no_more
    mapped_all (schema s ss) = schema (mapped s) (mapped_all ss)

    pub mapped_places : Places → Places
    mapped_places no_items = no_items
    mapped_places (each_item s) = each_item (mapped s)
    mapped_places (by_place ss) = by_place (mapped_all ss)

    pub mapped_properties : Properties → Properties
    mapped_properties no_properties = no_properties
    mapped_properties (property k s ps) = property k (mapped s) (mapped_properties ps)

  abbrev pub mapped_definition : Definition → Definition
  mapped_definition e = record { name = e.name; under_defs = e.under_defs; body = mapped e.body }

  abbrev pub mapped_document : Document → Document
  mapped_document d = record { setting = d.setting; root = mapped d.root; definitions = map mapped_definition d.definitions }

-- without the title, the description, the default and the walk
abbrev pub bare : Plain → Plain
bare p = record p { title = None; description = None; default = None; walk = None }

-- without the walk
abbrev pub unwalked : Plain → Plain
unwalked p = record p { walk = None }
