use Rattle.printing_laws.proofs.PrintedParts.{printings_are_of_text}
use Rattle.printing_laws.proofs.whole.whole_lifetimes_are_parsed.Goals as goal

pub returns : goal.returns
returns c = (
  λ ls l h e. c.printed_lifetimes_are_parsed.ensures.0 ls l tt (printings_are_of_text.lifetimes ls h) e,
  λ ls l r h e m n. c.printed_lifetimes_are_parsed.ensures.1 ls l r tt (printings_are_of_text.lifetimes ls h) e m n,
)
