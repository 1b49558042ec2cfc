use Rattle.std.proofs.Common.{◌++◌, ◌∙◌, ap, string_bytes}
use Rattle.tidy_texts.specs.Comment.{comment}
use Rattle.rust_run.proofs.printing.push_head.Goals as goal

pub returns : goal.returns
returns c = c.in_ok-push_comment.ensures ∙ ap (λ ts. string_bytes c.args.out.now ++ comment ts) (c.deref.ensures ∙ c.in_ok-head.ensures)
