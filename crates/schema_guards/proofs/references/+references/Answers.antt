use Rattle.std.proofs.Common.{◌≡◌, ◌++◌, sym, ap, ◌∙◌}
use Rattle.schema_types.specs.View.{maybe_view}
use Rattle.schema_defs.specs.References.{references_of_maybe}
use Rattle.schema_guards.proofs.Collected.{references_in, seen, given, absent, level, joined}
use Rattle.schema_guards.proofs.references.+references.Goals as goal
use Rattle.schema_guards.proofs.references.+references.Goals.{push_of_subschemas-in-Some+in_ok-push_of_all-in-Some, push_of_subschemas-in-None, push_of_subschemas-in-Some-any_of+in_ok-push_of_all-in-Some-any_of, push_of_subschemas-in-None-any_of, push_of_subschemas-in-Some-one_of+in_ok-push_of_all-in-Some-one_of, push_of_subschemas-in-None-one_of}

pub push_of_subschemas-returns : goal.push_of_subschemas-returns
push_of_subschemas-returns t c =
    let s = c.args.subschemas.now in
    let before = c.args.texts.now in
    let first = c.match-subschemas.texts in
    let second = c.match-subschemas-2.texts in
    let third = c.match-subschemas-3.texts in
    let all : seen first ≡ seen before ++ references_in s.all_of =
    elim c.match-subschemas.branch [
      | push_of_subschemas-in-Some+in_ok-push_of_all-in-Some w ↦
          given (seen before) (seen first) s.all_of w.in-Some.list w.in-Some.is (ap seen w.texts-is ∙ w.in_ok-push_of_all-in-Some.ensures)
      | push_of_subschemas-in-None w ↦ absent (seen before) (seen first) s.all_of w.in-None.is (ap seen w.texts-is)
    ]
    in
    let any : seen second ≡ seen first ++ references_in s.any_of =
    elim c.match-subschemas-2.branch [
      | push_of_subschemas-in-Some-any_of+in_ok-push_of_all-in-Some-any_of w ↦
          given (seen first) (seen second) s.any_of w.in-Some-any_of.list w.in-Some-any_of.is (ap seen w.texts-is ∙ w.in_ok-push_of_all-in-Some-any_of.ensures)
      | push_of_subschemas-in-None-any_of w ↦ absent (seen first) (seen second) s.any_of w.in-None-any_of.is (ap seen w.texts-is)
    ]
    in
    let one : seen third ≡ seen second ++ references_in s.one_of =
    elim c.match-subschemas-3.branch [
      | push_of_subschemas-in-Some-one_of+in_ok-push_of_all-in-Some-one_of w ↦
          given (seen second) (seen third) s.one_of w.in-Some-one_of.list w.in-Some-one_of.is (ap seen w.texts-is ∙ w.in_ok-push_of_all-in-Some-one_of.ensures)
      | push_of_subschemas-in-None-one_of w ↦ absent (seen second) (seen third) s.one_of w.in-None-one_of.is (ap seen w.texts-is)
    ]
    in
    joined (seen before) (seen first) (seen second) (seen third) (references_in s.all_of) (references_in s.any_of) (references_in s.one_of) (references_of_maybe (maybe_view s.not)) all any one c.in_ok-push_of_maybe.ensures
    ∙ ap (λ qs. seen before ++ qs) (sym (level s))
