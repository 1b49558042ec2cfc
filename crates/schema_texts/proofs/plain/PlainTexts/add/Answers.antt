use Rattle.std.proofs.Common.{string_bytes}
use Rattle.schema_texts.proofs.Tables.{pattern_entered, others_kept}
use Rattle.schema_texts.proofs.plain.PlainTexts.add.Goals as goal

pub returns-clause-patterns : goal.returns-clause-patterns
returns-clause-patterns c =
    pattern_entered (string_bytes c.args.pattern) c.args.self.now.table c.insert.new.self c.in_ok-held.held c.in_ok-insert.ensures.updates

pub returns-clause-others : goal.returns-clause-others
returns-clause-others c =
    others_kept (string_bytes c.args.pattern) c.args.self.now.table c.insert.new.self c.in_ok-held.held c.in_ok-insert.ensures.updates
