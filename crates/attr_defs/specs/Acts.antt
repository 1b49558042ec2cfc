-- What metas do, in order: they tell something, or give a value to a slot. Of the values of a slot the first counts, and a
-- later one is told as a duplicate.
use Rattle.std.specs.Prelude.{ℕ, ◌++◌, ◌&&◌, List, [], ◌∷◌, Bool, true, false, Option, Some, None, cond, option_map}
use Rattle.std.specs.Str.{bytes_eq}
use Rattle.token_trees.specs.declared.token.Span.{Span}
use Rattle.token_trees.specs.Token.{Name, site}
use Rattle.syntax_trees.specs.Syntax.{TyD, PathD, ExprPathD, LifetimeD}
use Rattle.syntax_trees.specs.Item.{PredicateD}
use Rattle.attr_parts.specs.declared.rename.RenameRule.{RenameRule}
use Rattle.attr_parts.specs.Diagnostics.{DiagnosticD, duplicate}
use Rattle.attr_parts.specs.Values.{DefaultD}
use Rattle.attr_defs.specs.declared.row.Half.{Half}
use Rattle.attr_defs.specs.declared.row.Half.TheVariants.{Whole, Serialize, Deserialize}

-- what an attribute sets: it has the attribute's name, and may be one half alone
pub record SlotD : Type 0 where
  pub name : List ℕ
  pub half : Half

pub data ValueD : Type 0 where
  is_flag : ValueD
  is_plain : List ℕ → ValueD
  is_name : Name → ValueD
  is_rule : RenameRule → ValueD
  is_default : DefaultD → ValueD
  are_predicates : List PredicateD → ValueD
  is_ty : TyD → ValueD
  is_path : PathD → ValueD
  is_function : ExprPathD → ValueD
  are_lifetimes : List LifetimeD → ValueD

-- A diagnostic is told; a slot is set, by a meta whose path stands there; a slot is given a value where it has none, without a
-- word where it has one; a name is added to those that are read.
pub data ActD : Type 0 where
  tells : DiagnosticD → ActD
  sets : SlotD → Span → ValueD → ActD
  offers : SlotD → ValueD → ActD
  adds : Name → ActD

abbrev pub same_half : Half → Half → Bool
same_half Whole Whole = true
same_half Whole Serialize = false
same_half Whole Deserialize = false
same_half Serialize Whole = false
same_half Serialize Serialize = true
same_half Serialize Deserialize = false
same_half Deserialize Whole = false
same_half Deserialize Serialize = false
same_half Deserialize Deserialize = true

abbrev pub same_slot : SlotD → SlotD → Bool
same_slot a b = same_half a.half b.half && bytes_eq a.name b.name

-- a slot with its value and the place of the meta that set it
pub record SettingD : Type 0 where
  pub slot : SlotD
  pub at : Span
  pub value : ValueD

-- the settings in order
abbrev pub settings : List ActD → List SettingD
settings [] = []
settings (tells d ∷ acts) = settings acts
settings (sets s at v ∷ acts) = record { slot = s; at = at; value = v } ∷ settings acts
settings (offers s v ∷ acts) = record { slot = s; at = site; value = v } ∷ settings acts
settings (adds n ∷ acts) = settings acts

-- the first setting of the slot
abbrev pub first_of : SlotD → List SettingD → Option SettingD
first_of s [] = None
first_of s (x ∷ xs) = cond (same_slot x.slot s) (Some x) (first_of s xs)

-- the names that are added, in order
abbrev pub added : List ActD → List Name
added [] = []
added (tells d ∷ acts) = added acts
added (sets s at v ∷ acts) = added acts
added (offers s v ∷ acts) = added acts
added (adds n ∷ acts) = n ∷ added acts

-- a second value of a slot that is set
abbrev pub repeated : Option SettingD → SlotD → Span → List DiagnosticD
repeated None s at = []
repeated (Some x) s at = record { kind = duplicate s.name; span = at } ∷ []

-- what an act tells, where those came before
abbrev pub told_by : List SettingD → ActD → List DiagnosticD
told_by before (tells d) = d ∷ []
told_by before (sets s at v) = repeated (first_of s before) s at
told_by before (offers s v) = []
told_by before (adds n) = []

-- what acts tell in order, each judged by those before it
abbrev pub told_after : List ActD → List ActD → List DiagnosticD
told_after before [] = []
told_after before (a ∷ acts) = told_by (settings before) a ++ told_after (before ++ a ∷ []) acts

abbrev pub told : List ActD → List DiagnosticD
told acts = told_after [] acts

abbrev pub value_of : Option SettingD → Option ValueD
value_of o = option_map (λ s. s.value) o

-- the values of slots, each the first
abbrev pub Values : Type 0
Values = SlotD → Option SettingD

abbrev pub values_of : List ActD → Values
values_of acts = λ s. first_of s (settings acts)
