use Rattle.syntax_parsers.specs.Read.{levels}
use Rattle.syntax_parsers.proofs.spelling.Read.{levels_printed, path_read}
use Rattle.syntax_parsers.proofs.laws.what_is_read_is_printed.Goals as goal

pub returns : goal.returns
returns c = (
  λ n at ts rest t e. let k = (levels_printed n).ty at ts (t, rest) e in (k.0, k.1),
  λ n at ts rest p e. let k = path_read (levels n) (levels_printed n) at ts (p, rest) e in (k.0, k.1),
  λ n at ts rest p e. let k = (levels_printed n).expr_path at ts (p, rest) e in (k.0, k.1),
  λ n at ts rest bs e. let k = (levels_printed n).bounds at ts (bs, rest) e in (k.0, k.1),
)
