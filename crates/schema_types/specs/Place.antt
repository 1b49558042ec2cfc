-- What a step may be taken from, as the program holds it.
use Rattle.schema_defs.specs.Schema.{schemas}
use Rattle.schema_defs.specs.Children as defs
use Rattle.schema_types.specs.View.{schema_view, schemas_view, properties_view}
use Rattle.schema_types.specs.DocumentView.{document_view}
use Rattle.schema_types.specs.declared.place.Node.{Node}
use Rattle.schema_types.specs.declared.place.Node.TheVariants.{Document, Definitions, Schema, List as Several, Names}

abbrev pub node_view : Node → defs.Node
node_view (Document d) = defs.at_document (document_view d.now)
node_view (Definitions b d) = defs.at_definitions b (document_view d.now)
node_view (Schema s) = defs.at_schema (schema_view s.now)
node_view (Several ss) = defs.at_list (schemas (schemas_view ss.now.items))
node_view (Names ps) = defs.at_names (properties_view ps.now.entries)
