-- What `explain` prints: of a schema that compiles, or of its first fault, with what stands at its place; then the keywords that are passed over, and `end`.
use Rattle.std.specs.Prelude.{◌≡◌, ℕ, List, ◌++◌, length, codes}
use Rattle.std.specs.List.{flat_map}
use Rattle.serde_json.specs.Data.{Data}
use Rattle.json_value.specs.Value.{Value}
use Rattle.json_value.specs.View.{value_of}
use Rattle.schema_tree.specs.declared.fault.Fault.{Fault}
use Rattle.convert_document.specs.declared.note.Note.{Note}
use Rattle.fault_texts.specs.Explained.{fault_explained, line}
use Rattle.passed_keywords.specs.Passed.{passed_text}
use Rattle.fault_places.specs.Places.{place_lines}
use Rattle.typify_run.specs.Page.{items_line, note_line}
use Rattle.typify_run.specs.declared.report.Report.{Report}
use Rattle.schema_words.specs.Said.{Said, page, no}
use Rattle.explain_run.specs.Notes.{note_sentence}

-- the line of a note, and what it means
abbrev pub note_explained : Note → List ℕ
note_explained n = note_line n ++ line (codes "means") (note_sentence n.way n.kind)

abbrev pub notes_explained : List Note → List ℕ
notes_explained ns = flat_map note_explained ns

-- the keywords that are passed over, and the end
abbrev pub ending : Value → List ℕ
ending v = passed_text v ++ codes "end\n"

abbrev pub compiled_page : Value → Report → List ℕ
compiled_page v r = codes "compiles\n" ++ items_line (length r.items.items) ++ notes_explained r.notes.items ++ ending v

abbrev pub fault_page : Data → Fault → List ℕ
fault_page d f = fault_explained f ++ place_lines d f ++ ending (value_of d)

abbrev pub Explains : Data → Report → Said → Type 0
Explains d r (page text) = text ≡ compiled_page (value_of d) r
Explains d r (no text) = ⊥

abbrev pub Tells : Data → Fault → List ℕ → Type 0
Tells d f text = text ≡ fault_page d f
