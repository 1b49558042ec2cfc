use Rattle.std.proofs.Common.{◌≡◌, ◌+◌, ◌≤◌, length, true, refl, ap, sym, ◌∙◌, arith}
use Rattle.std.specs.Prelude.{option_map}
use Rattle.token_trees.specs.View.{tree, trees}
use Rattle.syntax_trees.specs.Metas.{names_len, no_name, colons_next}
use Rattle.syntax_trees.proofs.Metas.{name_drop, name_past, name_missing, names_later}
use Rattle.syntax_trees.proofs.cursor.names_end.Goals as goal

pub loop-first-preserved : goal.loop-first-preserved
loop-first-preserved c =
    let front = ap trees c.in-Some.ensures.cases.0 in
    let first = tree c.in-Some.first.now in
    let rest = trees c.in-Some.rest.now in
    let left = trees c.loop-first.left.now in
    let p = c.loop-first.passed in
    let name = sym c.is_name.ensures ∙ c.if-not-is_name.false in
    let colons : colons_next rest ≡ true = sym c.are_colons_next.ensures.value ∙ c.if-not-are_colons_next.false in
    let later = c.after_two-left.ensures.value in
    let two : 2 ≤ length c.in-Some.rest.now = c.if-not-are_colons_next.ensures.room refl in
    record {
      passed = name_drop p (trees c.args.tokens.now) left first rest c.loop-first.invariant.passed front colons ∙ sym later;
      names = c.loop-first.invariant.names
          ∙ ap (option_map (λ n. n + p)) (name_past left first rest front name colons)
          ∙ names_later p _
          ∙ ap (λ ts. option_map (λ n. n + (p + 3)) (names_len ts)) (sym later);
      missing = c.loop-first.invariant.missing ∙ name_missing left first rest front name ∙ ap no_name (sym later);
      room = omega (arith, c.after_two-left.ensures.len, c.loop-first.invariant.room, c.in-Some.ensures.cases.1, two);
    }
