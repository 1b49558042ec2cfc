use Rattle.std.proofs.Common.{◌∙◌, ap, map}
use Rattle.syntax_trees.specs.View.{ty as ty_view}
use Rattle.syntax_trees.specs.Item.{item_view}
use Rattle.schema_types.specs.DocumentView.{document_view}
use Rattle.item_docs.specs.Docs.{docs_of}
use Rattle.rust_run.proofs.printing.docs_of.Goals as goal

pub returns : goal.returns
returns c = c.in_ok-docs.ensures ∙ ap (λ is. docs_of (document_view c.args.document.now) (map item_view is) (ty_view c.args.report.now.root)) c.deref.ensures.value
