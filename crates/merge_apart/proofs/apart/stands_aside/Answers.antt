use Rattle.std.proofs.Common.{◌||◌, ap, sym, ◌∙◌, map, string_bytes}
use Rattle.enum_defs.specs.Words.{is_name}
use Rattle.merge_apart.proofs.Found.{name_found, key_found}
use Rattle.merge_apart.proofs.apart.stands_aside.Goals as goal

pub returns-then-contains_key : goal.returns-then-contains_key
returns-then-contains_key c =
    let n = c.args.name.now in
    let a = c.args.aside.now in
    let found = c.contains_key.ensures ∙ name_found n a.properties.entries in
    c.if-contains_key.true ∙ ap (λ b. b || is_name n (map string_bytes a.required.keys)) (sym c.if-contains_key.true ∙ found)

pub returns-else-contains_key : goal.returns-else-contains_key
returns-else-contains_key c =
    let n = c.args.name.now in
    let a = c.args.aside.now in
    let found = c.contains_key.ensures ∙ name_found n a.properties.entries in
    c.contains.ensures ∙ key_found n a.required.keys ∙ ap (λ b. b || is_name n (map string_bytes a.required.keys)) (sym c.if-contains_key.false ∙ found)
