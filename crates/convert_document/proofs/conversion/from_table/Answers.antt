use Rattle.std.proofs.Common.{map, sym, ap, subst, ◌∙◌}
use Rattle.entry_defs.specs.Space.{Space}
use Rattle.entry_defs.specs.Sound.{IsSound}
use Rattle.entry_defs.specs.Table.{Table, root_of}
use Rattle.emit_defs.specs.Emission.{emission}
use Rattle.space_defs.specs.Emission.{emission_at}
use Rattle.entry_types.specs.View.{entry_view}
use Rattle.space_trees.specs.Formed.{IsFormed}
use Rattle.convert_document.specs.Note.{note_of}
use Rattle.convert_document.proofs.conversion.from_table.Goals as goal

pub space_of-requires-clause-sound : goal.space_of-requires-clause-sound
space_of-requires-clause-sound c = subst IsSound (sym c.in_ok-named.ensures) c.requires.sound

pub space_of-requires-clause-formed : goal.space_of-requires-clause-formed
space_of-requires-clause-formed c = subst IsFormed (sym c.in_ok-named.ensures) c.requires.formed

pub returns-clause-emission : goal.returns-clause-emission
returns-clause-emission c =
    c.in_ok-emission.ensures
    ∙ ap (λ (s : Space). emission_at s c.in_ok-planned.planned.root.0) (ap (map entry_view) c.deref.ensures.value ∙ c.in_ok-entries.ensures)
    ∙ c.in_ok-planned.ensures.emitted
    ∙ ap (λ (t : Table). emission t (root_of t)) c.in_ok-named.ensures

pub returns-clause-notes : goal.returns-clause-notes
returns-clause-notes c = c.in_ok-told.ensures ∙ ap (map note_of) c.in_ok-sorted.ensures
