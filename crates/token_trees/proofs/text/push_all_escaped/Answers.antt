use Rattle.std.proofs.Common.{◌≡◌, ◌++◌, List, [], ◌∷◌, map, refl, ap, sym, ◌∙◌, string_bytes}
use Rattle.std.specs.Prelude.{flat_map}
use Rattle.std.proofs.lemmas.Iterator.{YieldsList-from_chars}
use Rattle.std.proofs.lemmas.Iterator.Consumers.{YieldsList-end}
use Rattle.token_trees.specs.Text.{escaped}
use Rattle.token_trees.proofs.text.push_all_escaped.Goals as goal

same_items : {A : Type 0} → (xs : List A) → map (λ x. x) xs ≡ xs
same_items [] = refl
same_items (x ∷ xs) = ap (λ ys. x ∷ ys) (same_items xs)

pub returns : goal.returns
returns c =
    let t = YieldsList-end (YieldsList-from_chars c.args.value.now c.utf8.value cc) c.loop-ch.yielded _ c.loop-ch.yielded_by _ _ c.in-None.is c.next.ensures.steps in
    c.loop-ch.invariant ∙ ap (λ cs. string_bytes c.args.out.now ++ flat_map escaped cs) (sym (same_items c.loop-ch.yielded) ∙ t.0)
