use Rattle.std.proofs.Common.{[]}
use Rattle.syntax_parsers.proofs.spelling.Halts.{before_colon, halt_end, shut_end}
use Rattle.syntax_parsers.proofs.spelling.Exact.{ty_front_exact, bounds_front_exact, before_comma}
use Rattle.syntax_parsers.proofs.laws.exactly_what_is_printed_in_front_is_read.Goals as goal

pub returns : goal.returns
returns c = (
  λ n at ts rest end t m e. let h = before_colon rest end e in ty_front_exact n at ts rest t m h.0 h.1,
  λ n at ts rest end t m e. let h = before_comma rest end e in ty_front_exact n at ts rest t m h.0 h.1,
  λ n at ts rest end bs m e. let h = before_comma rest end e in bounds_front_exact n at ts rest bs m h.0 h.1,
  λ n at ts bs m. bounds_front_exact n at ts [] bs m halt_end shut_end,
)
