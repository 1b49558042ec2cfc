-- What is admitted agrees with `type`, `enum` and `const`.
use Rattle.std.proofs.Common.{◌≡◌, ℕ, Bool, true, false, ◌&&◌, refl, sym, ap, ◌∙◌}
use Rattle.json_value.specs.Value.{Value}
use Rattle.schema_defs.specs.Texts.{Relations}
use Rattle.schema_defs.specs.Schema.{Schema, boolean, object, Document}
use Rattle.schema_defs.specs.Layer.{Parts, judge_same, plain_agrees, of_kind_agrees, parts_agree, if_given}
use Rattle.schema_defs.specs.Admits.{admits-level, allowed, parts_of, follows, judge_within}
use Rattle.schema_types.specs.Shallow.{shallow_agrees}
use Rattle.schema_types.specs.Laws.{ValidationIsShallow}

front : (a b : Bool) → (a && b) ≡ true → a ≡ true
front true b h = refl
front false b h = h

judged : (r : Relations) (d : Document) (v : Value) (parts : Parts) (n : ℕ) (s : Schema) → judge_within r d v parts n s ≡ true → shallow_agrees s v ≡ true
judged r d v parts n (boolean b) h = h
judged r d v parts n (object p ss ls ns) h =
    let plain = plain_agrees r p v in
    let referred = if_given (follows r d v parts n) p.reference in
    let inside = parts_agree r v parts ls ns in
    let beside = judge_same r v parts (follows r d v parts n) ss in
    front (shallow_agrees (object p ss ls ns) v) (of_kind_agrees r p v) (front plain referred (front (plain && referred) inside (front (plain && referred && inside) beside h)))

pub validation_is_shallow : ValidationIsShallow
validation_is_shallow r d v s h = judged r d v (parts_of r d v) (allowed d) s (sym (ap (λ j. j s) (admits-level r d v)) ∙ h)
