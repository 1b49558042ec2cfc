use Rattle.std.proofs.Common.{length, ap, arith}
use Rattle.std.proofs.lemmas.List.{length-map}
use Rattle.token_trees.specs.View.{tree, trees}
use Rattle.syntax_trees.specs.Metas.{rest_of, from_comma}
use Rattle.attr_acts.proofs.Firsts.{part_here, unread_here, path_shorter, past_shorter}
use Rattle.attr_acts.proofs.part.first_part.Goals as goal

pub returns-in-Ok-Some-clause-part : goal.returns-in-Ok-Some-clause-part
returns-in-Ok-Some-clause-part c =
    let len = rw c.in-Ok-Some.field-0-is at c.in-Ok-Some.ensures.len in
    let p = rw c.in-Ok-Some.field-0-is at c.in-Ok-Some.ensures.path in
    let left = rw c.in-Ok-Some.field-0-is at c.in-Ok-Some.ensures.rest in
    let h = c.pass_comma-passed.ensures in
    part_here c.args.metas.now.at c.next.new.self.at c.pass_comma-passed.result.1 (trees c.args.metas.now.left.now) (trees c.in-Ok-Some.path.now) (trees c.next.new.self.left.now) (trees c.pass_comma-passed.result.0.now) (trees c.pass_comma-passed.new.metas.left.now) (length c.in-Ok-Some.path.now) len p left h.rest h.end h.left c.next.ensures.at

pub returns-in-Ok-Some-clause-shorter : goal.returns-in-Ok-Some-clause-shorter
returns-in-Ok-Some-clause-shorter c =
    let len = rw c.in-Ok-Some.field-0-is at c.in-Ok-Some.ensures.len in
    let left = rw c.in-Ok-Some.field-0-is at c.in-Ok-Some.ensures.rest in
    let k = path_shorter (trees c.args.metas.now.left.now) (trees c.next.new.self.left.now) (length c.in-Ok-Some.path.now) len left in
    let a = length-map c.args.metas.now.left.now tree in
    let b = length-map c.next.new.self.left.now tree in
    omega (arith, k, a, b, c.pass_comma-passed.ensures.len)

pub returns-in-Err-clause-part : goal.returns-in-Err-clause-part
returns-in-Err-clause-part c =
    unread_here c.args.metas.now.at c.next.new.self.at c.in-Err.error (trees c.args.metas.now.left.now) (trees c.next.new.self.left.now) (trees c.pass_comma.new.metas.left.now) c.requires c.in-Err.ensures.no_path c.in-Err.ensures.err (ap (λ m. trees m.left.now) c.in-Err.ensures.unchanged) c.pass_comma.ensures.left

pub returns-in-Err-clause-shorter : goal.returns-in-Err-clause-shorter
returns-in-Err-clause-shorter c =
    let same = ap (λ m. trees m.left.now) c.in-Err.ensures.unchanged in
    let k = past_shorter (trees c.args.metas.now.left.now) c.requires in
    let n = ap length c.pass_comma.ensures.left in
    let a = length-map c.args.metas.now.left.now tree in
    let b = length-map c.pass_comma.new.metas.left.now tree in
    let m = ap (λ us. length (rest_of (from_comma us))) same in
    omega (arith, k, n, m, a, b)
