use Rattle.std.proofs.Common.{refl}
use Rattle.attr_defs.proofs.laws.misplaced_attributes_are_told.Goals as goal

pub returns : goal.returns
returns c = record {
  unit_default = refl;
  enum_default = refl;
  struct_default = refl;
  two_kinds = refl;
  enum_kind = refl;
  struct_kind = refl;
  predicates = refl;
  no_predicates = refl;
}
