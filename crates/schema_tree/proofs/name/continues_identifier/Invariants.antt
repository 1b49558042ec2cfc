use Rattle.std.proofs.Common.{◌≡◌, chars, IsUtf8}
use Rattle.std.specs.List.{list_all}
use Rattle.std.specs.Str.Iter.{chars_rest}
use Rattle.unicode_ident.specs.Ident.{is_xid_continue}
use Rattle.schema_tree.proofs.name.continues_identifier.Given as goal

abbrev pub invariant-loop-c : goal.invariant-loop-c
invariant-loop-c l = IsUtf8 (chars_rest l.c-iterator) × (list_all is_xid_continue (chars l.fn.name) ≡ list_all is_xid_continue (chars (chars_rest l.c-iterator)))
