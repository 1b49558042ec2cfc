-- Each merge admits what both sides admit, and what is left of a schema admits what it admits and the other refuses, up to notes.
use Rattle.std.proofs.Common.{◌≡◌, false, refl, sym, subst}
use Rattle.std.specs.List.{list_all}
use Rattle.json_value.specs.Value.{null}
use Rattle.schema_defs.specs.declared.Setting.{Setting}
use Rattle.schema_defs.specs.declared.Setting.TheVariants.{Strict, NullAbsent}
use Rattle.schema_defs.specs.Texts.{Relations}
use Rattle.schema_defs.specs.Schema.{schema_list, Document}
use Rattle.schema_defs.specs.Admits.{admits, counts_as_absent}
use Rattle.enum_defs.proofs.Tests.{is_false}
use Rattle.schema_defs.specs.Walks.{IsGuarded}
use Rattle.merge_laws.specs.Laws.{Meets, IsProper, MergesAreMeets, NeverIsEmpty}
use Rattle.merge_laws.proofs.Steps.{no_no}
use Rattle.merge_laws.proofs.Main.{Owed, merges_admit_both}
use Rattle.merge_laws.proofs.Numbers.{numbers_meet}
use Rattle.merge_laws.proofs.Lcm.{lcm_facts}
use Rattle.merge_laws.proofs.Sorts.{texts_sound, apart_sound, disjoint_kinds}
use Rattle.merge_laws.proofs.Likeness.{wholly_admit, same_admit}
use Rattle.merge_laws.proofs.OneName.{one_name_meets}

-- where null does not stand for an absent member
strict : (s : Setting) → counts_as_absent s null ≡ false → s ≡ Strict
strict Strict h = refl
strict NullAbsent h = no_no (sym h)

pub owed : (r : Relations) (d : Document) → IsGuarded d → Owed r d
owed r d guarded = record {
  numbers = numbers_meet lcm_facts;
  texts = texts_sound;
  whole_alike = wholly_admit r d guarded;
  all_alike = same_admit r d guarded;
  apart = apart_sound r d;
  disjoint = disjoint_kinds r d;
  one_name = λ v join less p ss ls ns q tt' ms os a b e h. one_name_meets r d guarded (strict d.setting e) v join less p ss ls q ns tt' ms os a h;
}

pub merges_are_meets : MergesAreMeets
merges_are_meets r lawful d guarded proper v w = merges_admit_both r lawful d guarded proper (owed r d guarded) v w

pub never_is_empty : NeverIsEmpty
never_is_empty r lawful d guarded proper v w n ss p ns e h =
    is_false (list_all (admits r d v) (schema_list ss))
    (subst (Meets IsProper (list_all (admits r d v) (schema_list ss)) (admits r d v)) e ((merges_are_meets r lawful d guarded proper v w).gathers n ss p) h)
