-- What stands at an id is a tree of a table that can be written, whose items are read as they are meant.
use Rattle.std.proofs.Common.{sym, subst}
use Rattle.model_defs.specs.Reach.{NoneReachesItself}
use Rattle.entry_defs.specs.Entry.{Entry}
use Rattle.entry_defs.specs.Table.{Table}
use Rattle.emit_defs.specs.Emission.{emission}
use Rattle.emit_defs.specs.Formed.{IsEmittable}
use Rattle.emit_defs.proofs.Acyclic.{acyclic}
use Rattle.emit_texts.proofs.Functions.{functions_are_read}
use Rattle.emit_texts.proofs.Types.{types_are_read_again}
use Rattle.emit_laws.proofs.Assembled.{items_are_inside, items_are_read, nothing_is_told}
use Rattle.history_laws.specs.Placing.{with_names}
use Rattle.history_laws.specs.Laws.{TablesAreEmitted}
use Rattle.history_laws.proofs.Coming.{tables_are_emittable}
use Rattle.space_items.specs.Laws.{AreReadable, SpacesEmitModules}

readable : (t : Table) → IsEmittable t → (e : Entry) → AreReadable (emission t e)
readable t h e = record {
  clean = λ v f p d. nothing_is_told functions_are_read types_are_read_again v f p d t h e;
  inside = λ v f p d. items_are_inside functions_are_read types_are_read_again v f p d t h e;
  ends = λ v f p d. subst NoneReachesItself (sym (items_are_read functions_are_read types_are_read_again v f p d t h e)) (acyclic t h.sound.acyclic);
}

pub spaces_emit_modules : TablesAreEmitted → SpacesEmitModules
spaces_emit_modules emitted r d depth n w t c e root s =
    subst AreReadable (sym (emitted r d depth n w t c e root s)) (readable (with_names t) (tables_are_emittable r d depth n w t c) e)
