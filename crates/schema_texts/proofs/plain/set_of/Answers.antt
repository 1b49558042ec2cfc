use Rattle.std.proofs.Common.{true, string_bytes}
use Rattle.std.proofs.lemmas.Map.Text.{btree_set_updates_text}
use Rattle.std.specs.BTreeSet.{contains_text}
use Rattle.schema_texts.proofs.Tables.{text_more}
use Rattle.schema_texts.proofs.plain.set_of.Goals as goal

pub loop-text-preserved : goal.loop-text-preserved
loop-text-preserved c = λ s.
    text_more s c.loop-text.yielded c.in-Some.text (contains_text c.loop-text.held s) (contains_text c.insert.new.self s) (c.loop-text.invariant s)
    (btree_set_updates_text (string_bytes c.in-Some.text) c.loop-text.held c.insert.new.self true c.in_ok-insert.ensures.updates s)
