use Rattle.std.proofs.Common.{◌∙◌, ◌||◌, ap, bytes_eq, string_bytes}
use Rattle.std.specs.BTreeSet.{contains_text}
use Rattle.free_names.proofs.Taken.{taken}
use Rattle.free_names.proofs.take.Goals as goal

pub returns : goal.returns
returns c = λ n. taken (string_bytes c.in_ok-copy.copy) c.args.names.now c.insert.new.self c.in_ok-insert.ensures.updates n ∙ ap (λ z. bytes_eq n z || contains_text c.args.names.now n) c.in_ok-copy.ensures.ok
