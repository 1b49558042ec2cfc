use Rattle.std.proofs.Common.{sym, refl, ◌∙◌}
use Rattle.std.proofs.lemmas.Option.{none-some}
use Rattle.pair_words.proofs.top.run_bytes.Goals as goal

pub returns-in-Ok-clause-ends : goal.returns-in-Ok-clause-ends
returns-in-Ok-clause-ends g c = c.run_value.ensures.ends c.args.bytes.now (record { short = c.requires.short; utf8 = c.in-Ok.ensures.value.0; read = c.in-Ok.ensures.value.1 })

pub returns-in-Err-NotJson-clause-ends : goal.returns-in-Err-NotJson-clause-ends
returns-in-Err-NotJson-clause-ends g c = (λ p i. none-some i.value (sym (c.in-Err-NotJson.ensures.not_json c.in-Err-NotJson.field-0-is i.json.utf8) ∙ i.json.read), refl)
