use Rattle.std.proofs.Common.{sym, ap, subst, ◌∙◌}
use Rattle.entry_defs.specs.Sound.{IsSound}
use Rattle.entry_defs.specs.Table.{Table, root_of}
use Rattle.naming_defs.specs.Names.{named_table}
use Rattle.naming_defs.specs.Good.{is_good_name}
use Rattle.emit_defs.specs.Emission.{emission}
use Rattle.schema_tree.specs.Document.{view as document_seen}
use Rattle.space_trees.specs.Formed.{IsFormed}
use Rattle.convert_walks.specs.Told.{Note, ordered}
use Rattle.std.proofs.Common.{List, map, option_map}
use Rattle.convert_trees.specs.Unread.{unread_in_document}
use Rattle.convert_trees.specs.Keeping.{unread_view}
use Rattle.convert_document.proofs.Firsts.{all_read, if_err, unread_refused}
use Rattle.convert_document.specs.Note.{note_of}
use Rattle.convert_document.proofs.conversion.converted_within.Goals as goal

pub from_table-requires-clause-sound : goal.from_table-requires-clause-sound
from_table-requires-clause-sound g c =
    let r = g.T.Texts.relations c.args.texts.now in
    subst (λ (t : Table). IsSound (named_table is_good_name t)) (sym c.in_ok-converted.ensures.table)
    (c.read_documents_are_planned.ensures r (document_seen c.args.document.now) c.args.depth c.args.levels c.requires).sound

pub from_table-requires-clause-formed : goal.from_table-requires-clause-formed
from_table-requires-clause-formed g c =
    let r = g.T.Texts.relations c.args.texts.now in
    subst (λ (t : Table). IsFormed (named_table is_good_name t)) (sym c.in_ok-converted.ensures.table)
    (c.plans_are_formed.ensures r (document_seen c.args.document.now) c.args.depth c.args.levels)

pub returns-in-Ok-clause-emission : goal.returns-in-Ok-clause-emission
returns-in-Ok-clause-emission g c =
    c.in-Ok.ensures.emission
    ∙ ap (λ (t : Table). emission (named_table is_good_name t) (root_of (named_table is_good_name t))) c.in_ok-converted.ensures.table

pub returns-in-Ok-clause-notes : goal.returns-in-Ok-clause-notes
returns-in-Ok-clause-notes g c =
    c.in-Ok.ensures.notes
    ∙ ap (λ (ns : List Note). map note_of (ordered ns)) c.in_ok-converted.ensures.notes

pub returns-in-Ok-clause-read : goal.returns-in-Ok-clause-read
returns-in-Ok-clause-read g c =
    let r = g.T.Texts.relations c.args.texts.now in
    let d = document_seen c.args.document.now in
    all_read (unread_in_document r d c.args.depth c.args.levels) (sym (ap (option_map unread_view) c.in_ok-check_read.ensures.read) ∙ c.in_ok-converted.ensures.unread)

pub returns-in_err-check_read-clause-refused : goal.returns-in_err-check_read-clause-refused
returns-in_err-check_read-clause-refused g c =
    let r = g.T.Texts.relations c.args.texts.now in
    let d = document_seen c.args.document.now in
    if_err c.from_residual-in_err-check_read.result c.in_err-check_read.field-0.0 _ c.from_residual-in_err-check_read.ensures.1
    (unread_refused r d c.args.depth c.args.levels _ _ _ (option_map unread_view c.in_ok-converted.converted.unread) c.in_ok-converted.ensures.faultless c.in_ok-converted.ensures.unread c.in_err-check_read.ensures.told)

pub returns-in-Ok-clause-sound : goal.returns-in-Ok-clause-sound
returns-in-Ok-clause-sound g c =
    let r = g.T.Texts.relations c.args.texts.now in
    let d = document_seen c.args.document.now in
    let read = all_read (unread_in_document r d c.args.depth c.args.levels) (sym (ap (option_map unread_view) c.in_ok-check_read.ensures.read) ∙ c.in_ok-converted.ensures.unread) in
    c.read_defaults_are_sound.ensures r d c.args.depth c.args.levels c.requires c.in_ok-converted.ensures.faultless read
