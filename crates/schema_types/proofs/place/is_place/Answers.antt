use Rattle.std.proofs.Common.{◌≡◌, bytes_eq, ap, sym, ◌∙◌, arith}
use Rattle.schema_types.proofs.Digits.{place_zero, place_digits}
use Rattle.schema_defs.specs.Location.{place}
use Rattle.schema_types.proofs.place.is_place.Goals as goal

pub returns-then-index-eq0 : goal.returns-then-index-eq0
returns-then-index-eq0 c =
    let zero : c.args.index ≡ 0 = omega arith in
    c.eq.ensures ∙ ap (bytes_eq c.args.step.now) (sym (ap place zero ∙ place_zero))

pub returns : goal.returns
returns c = c.are_digits.ensures ∙ (λ i. bytes_eq (c.as_bytes.ensures.value i) (sym (place_digits c.args.index (omega arith)) i))
