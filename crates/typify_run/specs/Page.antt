-- The pages of a report: the number of items, the notes, one verdict a value, each on a line, and `end`; or the text of each item on a line, and `end`.
use Rattle.std.specs.Prelude.{◌≡◌, ℕ, suc, List, [], ◌∷◌, ◌++◌, map, length, false, codes, decimal, ⊤}
use Rattle.std.specs.List.{flat_map}
use Rattle.json.specs.Print.{quoted}
use Rattle.syntax_trees.specs.Item.{item_view}
use Rattle.syntax_trees.specs.declared.item.DeriveInput.{DeriveInput}
use Rattle.derive_receiver.specs.Replaced.{replaced}
use Rattle.item_texts.specs.Text.{item_text_of}
use Rattle.serde_json.specs.Written.{compact_text, has_float}
use Rattle.schema_defs.specs.Location.{Location, location_text}
use Rattle.convert_document.specs.Note.{way_text, kind_text}
use Rattle.derive_model.specs.VerdictView.{VerdictD, taken, refused, verdict_view}
use Rattle.convert_document.specs.declared.note.Note.{Note}
use Rattle.typify_run.specs.declared.report.Report.{Report}
use Rattle.typify_run.specs.declared.words.Command.{Command}
use Rattle.typify_run.specs.declared.words.Command.TheVariants.{Check, Items}

-- a line feed
abbrev pub end_line : List ℕ
end_line = 10 ∷ []

-- a place as a JSON string
abbrev pub place_text : Location → List ℕ
place_text l = quoted (location_text l)

abbrev pub note_line : Note → List ℕ
note_line n = codes "note " ++ way_text n.way ++ codes " " ++ kind_text n.kind ++ codes " " ++ place_text n.path ++ end_line

abbrev pub notes_text : List Note → List ℕ
notes_text ns = flat_map note_line ns

abbrev pub value_line : ℕ → List ℕ → List ℕ → List ℕ
value_line i said t = codes "value " ++ decimal i ++ said ++ t ++ end_line

-- a value that is taken is written back as JSON without spaces, members in the order of their names
abbrev pub verdict_line : ℕ → VerdictD → List ℕ
verdict_line i (taken d) = value_line i (codes " taken ") (compact_text d)
verdict_line i (refused l) = value_line i (codes " refused ") (place_text l)

-- values are counted from 0
abbrev pub verdict_lines : ℕ → List VerdictD → List ℕ
verdict_lines i [] = []
verdict_lines i (v ∷ vs) = verdict_line i v ++ verdict_lines (suc i) vs

abbrev pub items_line : ℕ → List ℕ
items_line n = codes "items " ++ decimal n ++ end_line

-- how many items there are, and the notes
abbrev pub head : Report → List ℕ
head r = items_line (length r.items.items) ++ notes_text r.notes.items

abbrev pub page : Report → List ℕ
page r = head r ++ verdict_lines 0 (map verdict_view r.verdicts.items) ++ codes "end\n"

-- an item as serde's derives read it, each `Self` replaced by the item's own type
abbrev pub item_line : DeriveInput → List ℕ
item_line i = item_text_of (replaced (item_view i)) ++ end_line

abbrev pub item_lines : List DeriveInput → List ℕ
item_lines is = flat_map item_line is

abbrev pub items_page : Report → List ℕ
items_page r = item_lines r.items.items ++ codes "end\n"

abbrev pub page_of : Command → Report → List ℕ
page_of Check r = page r
page_of Items r = items_page r

-- what is written back holds whole numbers alone
abbrev pub IsPrintable : VerdictD → Type 0
IsPrintable (taken d) = has_float d ≡ false
IsPrintable (refused l) = ⊤

abbrev pub ArePrintable : List VerdictD → Type 0
ArePrintable [] = ⊤
ArePrintable (v ∷ vs) = IsPrintable v × ArePrintable vs
