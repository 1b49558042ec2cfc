-- What stands aside, and an object beside it, as the definitions see them.
use Rattle.std.specs.Prelude.{◌≡◌, map, true, Option, Some, None, String, string_bytes}
use Rattle.std.specs.Borrow.{Bor}
use Rattle.std.specs.BTreeMap.{BTreeMap}
use Rattle.std.specs.BTreeSet.{keys}
use Rattle.std.specs.declared.alloc.Global.{Global}
use Rattle.std.specs.declared.boxed.Box.{Box}
use Rattle.schema_defs.specs.Schema.{Schema, Named, Properties, no_properties}
use Rattle.schema_types.specs.View.{schema_view, object_view, members_view, properties_view}
use Rattle.schema_types.specs.declared.schema.Schema as tree
use Rattle.schema_types.specs.declared.schema.SchemaObject.{SchemaObject}
use Rattle.merge_apart.specs.declared.aside.Aside as code
use Rattle.merge_apart.specs.declared.aside.Parted.{Parted}
use Rattle.merge_apart.specs.declared.objects.PartedMembers.{PartedMembers}
use Rattle.merge_apart.specs.Aside.{Aside, are_settled, is_each_once, with_aside, with_members}

abbrev pub aside_view : code.Aside → Aside
aside_view a = record { properties = properties_view a.properties.entries; required = map string_bytes (keys a.required) }

-- the whole
abbrev pub parted_view : Parted → Schema
parted_view p = with_aside (aside_view p.aside) (schema_view p.body)

abbrev pub members_parted : PartedMembers → Named
members_parted p = with_members (aside_view p.aside) (members_view p.body)

abbrev pub seen_properties : Option (Bor (BTreeMap (String Global) tree.Schema)) → Properties
seen_properties None = no_properties
seen_properties (Some m) = properties_view m.now.entries

abbrev pub boxed_view : Box SchemaObject Global → Schema
boxed_view b = object_view b.value

-- what stands aside is of the kind that may, each name once
pub record IsSettled (a : code.Aside) : Type 0 where
  pub settled : are_settled (properties_view a.properties.entries) ≡ true
  pub once : is_each_once (properties_view a.properties.entries) ≡ true
