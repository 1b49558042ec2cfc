-- The members of contents.
use Rattle.std.proofs.Common.{◌≡◌, sym, ap, ◌∙◌, String, BTreeMap}
use Rattle.std.specs.declared.alloc.Global.{Global}
use Rattle.serde_json.specs.declared.value.Value as value'
use Rattle.serde_json.specs.declared.value.Value.TheVariants as values'
use Rattle.json_value.specs.View.{kept_view}
use Rattle.example_defs.specs.Example.{members_of}
use Rattle.value_writing.specs.Seen.{kept_members}
use Rattle.value_writing.proofs.Lists.{object_kept}

pub of_object : (v : value'.Value) (m : BTreeMap (String Global) value'.Value) → v ≡ values'.Object m → kept_members m.entries ≡ members_of (kept_view v)
of_object v m e = ap members_of (sym (ap kept_view e ∙ object_kept m))
