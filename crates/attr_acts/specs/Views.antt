-- What the program's acts and settings stand for.
use Rattle.std.specs.Prelude.{List, map, string_bytes}
use Rattle.syntax_trees.specs.View.{ty, path_view, expr_path_view}
use Rattle.std.specs.declared.alloc.Global.{Global}
use Rattle.std.specs.declared.vec.Vec.{Vec}
use Rattle.syntax_trees.specs.declared.item.WherePredicate.{WherePredicate}
use Rattle.syntax_trees.specs.Item.{predicate_view, PredicateD}
use Rattle.syntax_trees.specs.Syntax.{LitStrD}
use Rattle.attr_parts.specs.Diagnostics.{diagnostic_view}
use Rattle.attr_parts.specs.Names.{attr_name}
use Rattle.attr_parts.specs.Values.{default_view}
use Rattle.attr_parts.specs.Lifetimes.{lifetimes}
use Rattle.attr_defs.specs.Acts.{SlotD, ValueD, is_flag, is_plain, is_name, is_rule, is_default, are_predicates, is_ty, is_path, is_function, are_lifetimes, ActD, tells, sets, offers, adds, SettingD}
use Rattle.attr_acts.specs.declared.act.Slot.{Slot}
use Rattle.attr_acts.specs.declared.act.Value.{Value}
use Rattle.attr_acts.specs.declared.act.Value.TheVariants as values
use Rattle.attr_acts.specs.declared.act.Act.{Act}
use Rattle.attr_acts.specs.declared.act.Act.TheVariants as acts
use Rattle.attr_acts.specs.declared.act.Setting.{Setting}
use Rattle.attr_acts.specs.declared.string.Text.{Text}

abbrev pub slot_view : Slot → SlotD
slot_view s = record { name = s.name.0.now; half = s.half }

abbrev pub value_view : Value → ValueD
value_view values.Flag = is_flag
value_view (values.Plain x) = is_plain (string_bytes x)
value_view (values.Name x) = is_name (attr_name x)
value_view (values.Rule x) = is_rule x
value_view (values.Default x) = is_default (default_view x)
value_view (values.Predicates x) = are_predicates (map predicate_view x.items)
value_view (values.Ty x) = is_ty (ty x)
value_view (values.Path x) = is_path (path_view x)
value_view (values.Function x) = is_function (expr_path_view x)
value_view (values.Lifetimes x) = are_lifetimes (lifetimes x)

abbrev pub act_view : Act → ActD
act_view (acts.Tell d) = tells (diagnostic_view d)
act_view (acts.Set s at v) = sets (slot_view s) at (value_view v)
act_view (acts.Offer s v) = offers (slot_view s) (value_view v)
act_view (acts.Add n) = adds (attr_name n)

abbrev pub acts_view : List Act → List ActD
acts_view xs = map act_view xs

abbrev pub setting_view : Setting → SettingD
setting_view s = record { slot = slot_view s.slot; at = s.at; value = value_view s.value }

abbrev pub text_view : Text → LitStrD
text_view t = record { text = t.value.now; suffix = t.suffix.now; span = t.span }

abbrev pub predicates_view : Vec WherePredicate Global → List PredicateD
predicates_view v = map predicate_view v.items
