-- What variants and fields of the program stand for: what was decided, and the values of the slots.
use Rattle.std.specs.Prelude.{[], map, codes, unwrap_or}
use Rattle.token_trees.specs.Token.{Name}
use Rattle.attr_parts.specs.Names.{MultiNameD, attr_name, multi_name}
use Rattle.attr_defs.specs.Looks.{name_of, predicates_of, function_of, look, is_set, rules_at}
use Rattle.attr_defs.specs.Members.{VariantAttrs, name_set}
use Rattle.attr_defs.specs.Owners.{whole, written, read}
use Rattle.attr_acts.specs.declared.performing.Settings.{Settings}
use Rattle.derive_attr.specs.declared.variant.Variant.{Variant}
use Rattle.attr_acts.specs.Kept.{values_in}

-- the names that settings give, beside the own one
abbrev pub names_of : Settings → Name → MultiNameD
names_of s own = let v = values_in s in record {
  serialize = unwrap_or (look name_of (v (written (codes "rename")))) own;
  serialize_renamed = is_set (v (written (codes "rename")));
  deserialize = unwrap_or (look name_of (v (read (codes "rename")))) own;
  deserialize_renamed = is_set (v (read (codes "rename")));
  aliases = name_set [] (map attr_name s.names.items);
}

abbrev pub variant_view : Variant → VariantAttrs
variant_view a = let v = values_in a.settings in record {
  name = multi_name a.name;
  rename_all = rules_at v (codes "rename_all");
  ser_bound = look predicates_of (v (written (codes "bound")));
  de_bound = look predicates_of (v (read (codes "bound")));
  skip_deserializing = is_set (v (whole (codes "skip_deserializing")));
  skip_serializing = is_set (v (whole (codes "skip_serializing")));
  other = is_set (v (whole (codes "other")));
  serialize_with = look function_of (v (whole (codes "serialize_with")));
  deserialize_with = look function_of (v (whole (codes "deserialize_with")));
  borrow = v (whole (codes "borrow"));
  untagged = is_set (v (whole (codes "untagged")));
}
