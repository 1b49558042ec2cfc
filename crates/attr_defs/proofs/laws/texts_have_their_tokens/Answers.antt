use Rattle.rust_tokens.proofs.Every.{every_text}
use Rattle.attr_defs.specs.Texts.{lexed}
use Rattle.attr_defs.proofs.Lexed.{found_are}
use Rattle.attr_defs.proofs.laws.texts_have_their_tokens.Goals as goal

pub returns : goal.returns
unfolding lexed
returns c cs at = found_are cs at (every_text cs at)
