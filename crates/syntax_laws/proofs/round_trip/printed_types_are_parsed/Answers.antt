use Rattle.std.proofs.Common.{[], sym}
use Rattle.std.proofs.lemmas.List.{append-nil}
use Rattle.syntax_trees.specs.View.{ty}
use Rattle.syntax_printing.specs.Print.{print_ty}
use Rattle.syntax_parsers.specs.SpellingAside.{SameTy}
use Rattle.syntax_parsers.specs.SpellingForm.{IsParsedTy, SpellsTy}
use Rattle.syntax_parsers.specs.Whole.{type_of}
use Rattle.syntax_parsers.proofs.spelling.Printing.{ty_printed}
use Rattle.syntax_parsers.proofs.spelling.Aside.{ty_aside}
use Rattle.syntax_laws.proofs.TextsExact.{types_exact}
use Rattle.syntax_laws.proofs.Printed.{IsSpelledAside, spelled_again, answered_again}
use Rattle.syntax_laws.proofs.round_trip.printed_types_are_parsed.Goals as goal

aside : IsSpelledAside IsParsedTy print_ty SpellsTy SameTy
aside t us h k = ty_aside (print_ty t) us t (h, ty_printed t (print_ty t) [] h.0 (sym (append-nil (print_ty t)))) k

pub returns : goal.returns
returns c = (
  spelled_again IsParsedTy print_ty SpellsTy SameTy aside,
  answered_again ty type_of SpellsTy types_exact IsParsedTy print_ty SameTy aside,
)
