use Rattle.std.proofs.Common.{◌≡◌, ◌==◌, length, sym, ap, ◌∙◌, arith}
use Rattle.value_types.proofs.Tuples.{several}
use Rattle.value_types.proofs.build.tuple_type.Goals as goal

pub returns : goal.returns
returns c =
    let counted : c.args.parts.len ≡ length c.args.parts.items = omega (arith, c.args.parts.ok.0) in
    several c.args.parts (sym c.if-is_empty.false ∙ c.is_empty.ensures ∙ ap (λ n. n == 0) counted)
