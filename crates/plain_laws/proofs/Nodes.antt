-- No more schemas stand in one another than a document has: what is plain at some depth is plain at the number of its schemas.
use Rattle.std.proofs.Common.{◌≤◌, List, [], ◌∷◌, ◌&&◌, arith, nat_le}
use Rattle.std.proofs.lemmas.Bool.{le-leb}
use Rattle.schema_defs.specs.Schema.{Schema, boolean, object, Same, no_same, same_value, Lists, no_lists, lists, Named, no_named, named, MaybeSchema, no_schema, the_schema, MaybeSchemas, no_list, the_list, Schemas, no_more, schema, Places, no_items, each_item, by_place, Properties, no_properties, property, Definition, Document}
use Rattle.schema_defs.specs.Counts.{schema_nodes, same_nodes, lists_nodes, named_nodes, maybe_nodes, maybe_list_nodes, schemas_nodes, places_nodes, properties_nodes, definitions_nodes, nodes}
use Rattle.schema_defs.specs.References.{is_guarded}
use Rattle.convert_defs.proofs.Bare.{and_left, and_right}
use Rattle.plain_defs.specs.Plain.{has_rows}
use Rattle.plain_laws.specs.Height.{height, same_height, lists_height, named_height, maybe_height, list_height, schemas_height, places_height, properties_height, definitions_height, document_height}
use Rattle.plain_laws.specs.Laws.{PlainAtNodes}
use Rattle.plain_laws.proofs.Kept.{rows_by_height}

mutual
  low-schema : (s : Schema) → height s ≤ schema_nodes s
  low-schema (boolean b) = omega (arith)
  low-schema (object p ss ls ns) = omega (arith, low-same ss, low-lists ls, low-named ns)

  low-same : (ss : Same) → same_height ss ≤ same_nodes ss
  low-same no_same = omega (arith)
  low-same (same_value all any one none c) = omega (arith, low-list any, low-list one)

  low-lists : (ls : Lists) → lists_height ls ≤ lists_nodes ls
  low-lists no_lists = omega (arith)
  low-lists (lists places rest contains rules) = omega (arith, low-places places)

  low-named : (ns : Named) → named_height ns ≤ named_nodes ns
  low-named no_named = omega (arith)
  low-named (named props patterns rest names rules) = omega (arith, low-properties props, low-maybe rest)

  low-maybe : (s : MaybeSchema) → maybe_height s ≤ maybe_nodes s
  low-maybe no_schema = omega (arith)
  low-maybe (the_schema s) = low-schema s

  low-list : (s : MaybeSchemas) → list_height s ≤ maybe_list_nodes s
  low-list no_list = omega (arith)
  low-list (the_list ss) = low-all ss

  low-all : (ss : Schemas) → schemas_height ss ≤ schemas_nodes ss
  low-all no_more = omega (arith)
  low-all (schema s ss) = omega (arith, low-schema s, low-all ss)

  low-places : (p : Places) → places_height p ≤ places_nodes p
  low-places no_items = omega (arith)
  low-places (each_item s) = low-schema s
  low-places (by_place ss) = low-all ss

  low-properties : (ps : Properties) → properties_height ps ≤ properties_nodes ps
  low-properties no_properties = omega (arith)
  low-properties (property k s ps) = omega (arith, low-schema s, low-properties ps)

low-definitions : (es : List Definition) → definitions_height es ≤ definitions_nodes es
low-definitions [] = omega (arith)
low-definitions (e ∷ es) = omega (arith, low-schema e.body, low-definitions es)

pub height_by_nodes : (d : Document) → document_height d ≤ nodes d
height_by_nodes d = omega (arith, low-schema d.root, low-definitions d.definitions)

pub plain_at_nodes : PlainAtNodes
plain_at_nodes d n h =
    let a = and_right (is_guarded d) (nat_le (nodes d) n && has_rows d n) h in
    λ i. and_left (is_guarded d) (nat_le (nodes d) n && has_rows d n) h i && (le-leb (nodes d) (nodes d) (omega (arith)) i && rows_by_height d n (nodes d) (height_by_nodes d) (and_right (nat_le (nodes d) n) (has_rows d n) a) i)
