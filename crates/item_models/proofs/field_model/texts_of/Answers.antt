use Rattle.std.proofs.Common.{◌≡◌, ◌++◌, map, string_bytes, sym, ap, ◌∙◌, rules}
use Rattle.std.specs.BTreeSet.{keys}
use Rattle.attr_parts.specs.Names.{attr_name}
use Rattle.item_models.proofs.Lists.{mapped_twice}
use Rattle.item_models.proofs.field_model.texts_of.Goals as goal

pub loop-name-init : goal.loop-name-init
loop-name-init c =
    let left = c.into_iter-name-iterator.result in
    let all : left ≡ keys c.args.names.now = search rules in
    ap (λ ts. map string_bytes ts ++ map (λ n. (attr_name n).text) left) c.new-texts.ensures.items
    ∙ ap (map (λ n. (attr_name n).text)) all
    ∙ sym (mapped_twice attr_name (λ n. n.text) (keys c.args.names.now))
