-- What a field of the program stands for: what was decided, and the values of the slots.
use Rattle.std.specs.Prelude.{List, [], false, Option, Some, None, option_map, codes, unwrap_or}
use Rattle.std.specs.Borrow.{Bor}
use Rattle.token_trees.specs.Token.{Name}
use Rattle.syntax_trees.specs.Syntax.{LifetimeD}
use Rattle.syntax_trees.specs.Item.{FieldD}
use Rattle.syntax_trees.specs.View.{expr_path_view}
use Rattle.attr_parts.specs.Lifetimes.{lifetimes}
use Rattle.attr_parts.specs.Names.{multi_name}
use Rattle.attr_parts.specs.Values.{DefaultD, default_view}
use Rattle.attr_defs.specs.Acts.{SettingD, Values}
use Rattle.attr_defs.specs.Looks.{name_of, default_of, predicates_of, function_of, lifetimes_of, look, is_set}
use Rattle.attr_defs.specs.Members.{FieldAttrs, name_set, field_default, reader_of, held_by}
use Rattle.attr_defs.specs.Owners.{whole, written, read}
use Rattle.derive_attr.specs.declared.field.Field.{Field}
use Rattle.derive_attr.specs.declared.variant.Variant.{Variant}
use Rattle.attr_acts.specs.Kept.{values_in}
use Rattle.derive_attr.specs.MemberViews.{variant_view}

abbrev pub field_view : Field → FieldAttrs
field_view f = let v = values_in f.settings in record {
  name = multi_name f.name;
  skip_serializing = is_set (v (whole (codes "skip_serializing")));
  skip_deserializing = is_set (v (whole (codes "skip_deserializing")));
  skip_serializing_if = look function_of (v (whole (codes "skip_serializing_if")));
  default = default_view f.default;
  serialize_with = look function_of (v (whole (codes "serialize_with")));
  deserialize_with = option_map expr_path_view f.deserialize_with;
  ser_bound = look predicates_of (v (written (codes "bound")));
  de_bound = look predicates_of (v (read (codes "bound")));
  borrowed_lifetimes = lifetimes f.borrowed;
  getter = look function_of (v (whole (codes "getter")));
  flatten = is_set (v (whole (codes "flatten")));
  transparent = f.transparent;
}

-- what a variant hands on, where there is one
abbrev pub handed_view : Option (Bor Variant) → Option SettingD
handed_view None = None
handed_view (Some v) = (variant_view v.now).borrow

-- what the values of the slots, and the names that are added, say of a field of that name
abbrev pub field_by : FieldD → Name → DefaultD → Name → Values → List Name → FieldAttrs
field_by f own container private v names =
    let asked : List LifetimeD = unwrap_or (look lifetimes_of (v (whole (codes "borrow")))) [] in
    record {
      name = record {
        serialize = unwrap_or (look name_of (v (written (codes "rename")))) own;
        serialize_renamed = is_set (v (written (codes "rename")));
        deserialize = unwrap_or (look name_of (v (read (codes "rename")))) own;
        deserialize_renamed = is_set (v (read (codes "rename")));
        aliases = name_set [] names;
      };
      skip_serializing = is_set (v (whole (codes "skip_serializing")));
      skip_deserializing = is_set (v (whole (codes "skip_deserializing")));
      skip_serializing_if = look function_of (v (whole (codes "skip_serializing_if")));
      default = field_default (look default_of (v (whole (codes "default")))) (is_set (v (whole (codes "skip_deserializing")))) container;
      serialize_with = look function_of (v (whole (codes "serialize_with")));
      deserialize_with = reader_of (look function_of (v (whole (codes "deserialize_with")))) asked private f.ty;
      ser_bound = look predicates_of (v (written (codes "bound")));
      de_bound = look predicates_of (v (read (codes "bound")));
      borrowed_lifetimes = held_by asked f.ty;
      getter = look function_of (v (whole (codes "getter")));
      flatten = is_set (v (whole (codes "flatten")));
      transparent = false;
    }
