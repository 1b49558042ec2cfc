-- What a container of the program stands for: what was decided, and the values of the slots.
use Rattle.std.specs.Prelude.{codes}
use Rattle.attr_parts.specs.Names.{multi_name}
use Rattle.attr_parts.specs.Values.{default_view, tag_view}
use Rattle.attr_defs.specs.Container.{ContainerAttrs, plain_at}
use Rattle.attr_defs.specs.Looks.{predicates_of, ty_of, path_of, look, is_set, rules_at}
use Rattle.attr_defs.specs.Owners.{whole, written, read}
use Rattle.derive_attr.specs.declared.container.Container.{Container}
use Rattle.attr_acts.specs.Kept.{values_in}

abbrev pub container_view : Container → ContainerAttrs
container_view c = let v = values_in c.settings in record {
  name = multi_name c.name;
  rename_all = rules_at v (codes "rename_all");
  rename_all_fields = rules_at v (codes "rename_all_fields");
  transparent = is_set (v (whole (codes "transparent")));
  deny_unknown_fields = is_set (v (whole (codes "deny_unknown_fields")));
  default = default_view c.default;
  ser_bound = look predicates_of (v (written (codes "bound")));
  de_bound = look predicates_of (v (read (codes "bound")));
  tag = tag_view c.tag;
  type_from = look ty_of (v (whole (codes "from")));
  type_try_from = look ty_of (v (whole (codes "try_from")));
  type_into = look ty_of (v (whole (codes "into")));
  remote = look path_of (v (whole (codes "remote")));
  is_packed = c.is_packed;
  identifier = c.identifier;
  serde_path = look path_of (v (whole (codes "crate")));
  expecting = plain_at v (codes "expecting");
  non_exhaustive = c.non_exhaustive;
}
