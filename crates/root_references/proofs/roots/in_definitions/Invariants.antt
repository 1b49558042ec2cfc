use Rattle.std.proofs.Common.{◌≡◌, length}
use Rattle.std.specs.List.{list_any}
use Rattle.schema_tree.specs.Document.{view as document_seen}
use Rattle.convert_defs.specs.RootReference.{has_root}
use Rattle.root_references.specs.Named.{named_has_root}
use Rattle.root_references.proofs.roots.in_definitions.Given as goal

abbrev pub invariant-loop-name : goal.invariant-loop-name
invariant-loop-name l = list_any (λ e. has_root e.body) (document_seen l.document).definitions ≡ list_any (named_has_root (document_seen l.document).definitions) l.names

abbrev pub decreases-loop-name : goal.decreases-loop-name
decreases-loop-name l = length l.names
