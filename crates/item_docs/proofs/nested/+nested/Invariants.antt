use Rattle.std.proofs.Common.{◌≡◌, ◌++◌, drop, map}
use Rattle.syntax_trees.specs.Item.{field_view, item_view}
use Rattle.schema_types.specs.View.{schemas_view, properties_view}
use Rattle.schema_defs.specs.Schema.{schemas}
use Rattle.value_types.specs.ShapeView.{types_in}
use Rattle.module_texts.specs.Docs.{doc_view}
use Rattle.item_docs.specs.Forms.{field_types}
use Rattle.item_docs.specs.Nested.{docs_in_all, docs_in_properties}
use Rattle.item_docs.proofs.nested.+nested.Given as goal

abbrev pub invariant-push_all-loop-schema : goal.invariant-push_all-loop-schema
invariant-push_all-loop-schema l =
    let is = map item_view l.items.items.now in
    map doc_view l.docs.items ++ docs_in_all is (schemas (schemas_view (drop l.schema-index l.schema-items))) (types_in l.left)
    ≡ map doc_view l.initial.docs.items ++ docs_in_all is (schemas (schemas_view l.schema-items)) (types_in l.tys)

abbrev pub invariant-push_properties-loop-schema : goal.invariant-push_properties-loop-schema
invariant-push_properties-loop-schema l =
    let is = map item_view l.items.items.now in
    map doc_view l.docs.items ++ docs_in_properties is (properties_view l.schema-iterator) (field_types (map field_view l.left))
    ≡ map doc_view l.initial.docs.items ++ docs_in_properties is (properties_view l.properties.entries) (field_types (map field_view l.fields))
