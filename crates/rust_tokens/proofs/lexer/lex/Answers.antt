use Rattle.std.proofs.Common.{◌∙◌, ap, length, encode_utf8_all}
use Rattle.std.proofs.lemmas.Str.{encodes-chars}
use Rattle.rust_tokens.proofs.lexer.lex.Goals as goal

pub fault_place-requires-clause-len : goal.fault_place-requires-clause-len
fault_place-requires-clause-len c =
    ap (λ l. length (encode_utf8_all l)) (c.deref-in-Err.ensures.value ∙ c.in_ok-chars.ensures)
    ∙ ap length (encodes-chars c.args.text.now c.utf8.text)
