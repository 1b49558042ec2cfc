use Rattle.std.proofs.Common.{sym, ap, ◌∙◌, option_map}
use Rattle.serde_json.specs.View.{view}
use Rattle.json_value.specs.View.{value_of}
use Rattle.schema_types.specs.DocumentView.{document_view}
use Rattle.schema_tree.proofs.FirstPlaces.{readable_is_read}
use Rattle.schema_tree.proofs.document.read_parts.Goals as goal

pub unreachable-requires : goal.unreachable-requires
unreachable-requires c = readable_is_read c.args.setting (value_of (view c.args.value.now)) c.requires (sym c.in_ok-parts.ensures ∙ ap (option_map document_view) c.in-None.is)
