use Rattle.std.proofs.Common.{ap, ◌∙◌}
use Rattle.derive_receiver.specs.Replaced.{replaced}
use Rattle.item_texts.specs.Text.{item_text_of}
use Rattle.item_texts.proofs.replaced_text.Goals as goal

pub returns : goal.returns
returns c = c.in_ok-text.ensures ∙ ap item_text_of (c.in_ok-replace_receiver.ensures.ok ∙ ap replaced c.in_ok-copy.ensures)
