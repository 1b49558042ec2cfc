-- What is left to tell after each of the ten checks.
use Rattle.std.proofs.Common.{◌≡◌, List, [], ◌++◌, refl, sym, ◌∙◌, append-nil}
use Rattle.attr_parts.specs.declared.derive.Derive.{Derive}
use Rattle.attr_parts.specs.Diagnostics.{DiagnosticD}
use Rattle.container_defs.specs.Checks.{check_default_on_tuple, check_remote_generic, check_getter, check_flatten, check_identifier, check_variant_skip_attrs, check_internal_tag_field_name_conflict, check_adjacent_tag_conflict, check_transparent, check_from_and_try_from, checks_told}
use Rattle.container_defs.specs.Container.{ReadContainer}
use Rattle.derive_ast.proofs.Loops.{IsTold}

module _ (derive : Derive) (c : ReadContainer) where
  abbrev pub left_9 : List DiagnosticD
  left_9 = check_from_and_try_from c ++ []

  abbrev pub left_8 : List DiagnosticD
  left_8 = check_transparent derive c ++ left_9

  abbrev pub left_7 : List DiagnosticD
  left_7 = check_adjacent_tag_conflict c ++ left_8

  abbrev pub left_6 : List DiagnosticD
  left_6 = check_internal_tag_field_name_conflict c ++ left_7

  abbrev pub left_5 : List DiagnosticD
  left_5 = check_variant_skip_attrs c ++ left_6

  abbrev pub left_4 : List DiagnosticD
  left_4 = check_identifier c ++ left_5

  abbrev pub left_3 : List DiagnosticD
  left_3 = check_flatten c ++ left_4

  abbrev pub left_2 : List DiagnosticD
  left_2 = check_getter c ++ left_3

  abbrev pub left_1 : List DiagnosticD
  left_1 = check_remote_generic c ++ left_2

  pub all_left : checks_told derive c ≡ check_default_on_tuple c ++ left_1
  all_left = refl

-- nothing is told yet
pub none_told : (old all : List DiagnosticD) → IsTold old old all all
none_told old all = record { told = refl; front = record { front = []; rest = all; is_new = sym (append-nil old); is_told = refl } }

-- all is told
pub whole_told : (old now all : List DiagnosticD) → IsTold old now all [] → now ≡ old ++ all
whole_told old now all t = sym (append-nil now) ∙ sym t.told
