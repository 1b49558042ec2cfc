use Rattle.tree_names.proofs.Led.{struct_item, enum_item}
use Rattle.tree_names.proofs.table.named_item.Goals as goal

pub returns-in_ok-members-in-Struct : goal.returns-in_ok-members-in-Struct
returns-in_ok-members-in-Struct c =
    struct_item _ _ _ c.args.tree.now c.in-Struct.name c.args.name c.in-Struct.closed c.in-Struct.fields c.in_ok-fields-in-Struct.fields c.in_ok-members-in-Struct.members.fields c.in-Struct.rest c.in_ok-rest-in-Struct.rest
    c.in_ok-members-in-Struct.members.rest c.in-Struct.is c.in_ok-fields-in-Struct.ensures c.in_ok-rest-in-Struct.ensures c.in_ok-members-in-Struct.ensures

pub returns-in_ok-variants-in-Enum-2 : goal.returns-in_ok-variants-in-Enum-2
returns-in_ok-variants-in-Enum-2 c =
    enum_item _ _ c.args.tree.now c.in-Enum.name c.args.name c.in-Enum.closed c.in-Enum.tag c.in-Enum.variants c.in_ok-variants-in-Enum.variants c.in_ok-variants-in-Enum-2.variants c.in-Enum.is c.in_ok-variants-in-Enum.ensures
    c.in_ok-variants-in-Enum-2.ensures
