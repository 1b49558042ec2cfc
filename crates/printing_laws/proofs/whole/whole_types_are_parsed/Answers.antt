use Rattle.syntax_trees.specs.View.{ty}
use Rattle.syntax_printing.specs.Print.{print_ty}
use Rattle.syntax_parsers.specs.SpellingAside.{SameTy}
use Rattle.syntax_parsers.specs.SpellingForm.{IsParsedTy, SpellsTy}
use Rattle.syntax_parsers.specs.Whole.{type_of}
use Rattle.printing_laws.specs.Parts.{TyParts}
use Rattle.printing_laws.proofs.PrintedParts.{printings_are_of_text}
use Rattle.printing_laws.proofs.FromPrinted.{spelled_whole, answered_whole}
use Rattle.printing_laws.proofs.whole.whole_types_are_parsed.Goals as goal

pub returns : goal.returns
returns c = (
  spelled_whole IsParsedTy TyParts print_ty SpellsTy SameTy printings_are_of_text.types c.printed_types_are_parsed.ensures.0,
  answered_whole ty type_of IsParsedTy TyParts print_ty SameTy printings_are_of_text.types c.printed_types_are_parsed.ensures.1,
)
