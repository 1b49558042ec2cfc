use Rattle.std.proofs.Common.{◌≡◌, sym, ap, ◌∙◌, subst, List, ℕ}
use Rattle.std.specs.List.{list_any}
use Rattle.schema_defs.specs.Laws.{NamesRise}
use Rattle.schema_tree.specs.Document.{view as document_seen}
use Rattle.root_references.specs.Named.{named_has_root}
use Rattle.root_references.proofs.Found.{any_by_name}
use Rattle.root_references.proofs.roots.in_definitions.Goals as goal

pub loop-name-init : goal.loop-name-init
loop-name-init c =
    let names = c.names-names.ensures.names in
    any_by_name (document_seen c.args.document.now) (subst NamesRise names c.names-names.ensures.ordered)
    ∙ ap (list_any (named_has_root (document_seen c.args.document.now).definitions)) (sym names)
