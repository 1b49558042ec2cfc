use Rattle.tree_names.proofs.Led.{struct_told}
use Rattle.tree_names.proofs.table.target_label.Goals as goal

pub returns-in_ok-label-in-Struct : goal.returns-in_ok-label-in-Struct
returns-in_ok-label-in-Struct c =
    struct_told _ _ c.args.tree.now c.in-Struct.name c.in_ok-label-in-Struct.label c.in-Struct.closed c.has_no_fields-is_value.result c.in-Struct.fields c.in-Struct.rest c.in-Struct.is c.has_no_fields-is_value.ensures
    c.in_ok-label-in-Struct.ensures.named
