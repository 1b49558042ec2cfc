-- Members of other than one property have no case.
use Rattle.std.proofs.Common.{◌≡◌, Bool, None, sym, ap, ◌∙◌, rules}
use Rattle.schema_types.specs.View.{members_view, properties_view}
use Rattle.schema_types.specs.declared.schema.ObjectValidation.{ObjectValidation, out-ObjectValidation, the_lemmas}
use Rattle.enum_defs.specs.Words.{props_of, required_of}
use Rattle.enum_defs.specs.Shapes.{only_property, property_case}
use Rattle.enum_shapes.specs.Here.{IsNotLone}

props : (o : ObjectValidation) → props_of (members_view o) ≡ properties_view (out-ObjectValidation o).properties.entries
props o = search (rules, the_lemmas)

pub no_lone : (o : ObjectValidation) (c : Bool) → IsNotLone (properties_view (out-ObjectValidation o).properties.entries) → None ≡ property_case (record { object = members_view o; closed = c })
no_lone o c h = sym (ap (only_property c (required_of (members_view o))) (props o) ∙ h c (required_of (members_view o)))
