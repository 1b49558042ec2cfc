-- What is printed of two reports: how many items each has, the notes of each, and whether the new items read what the old ones write.
use Rattle.std.specs.Prelude.{ℕ, List, [], ◌++◌, length, Option, Some, None, slice_get, codes}
use Rattle.std.specs.List.{flat_map}
use Rattle.json.specs.Print.{quoted}
use Rattle.token_trees.specs.Text.{text_of}
use Rattle.syntax_trees.specs.Item.{BodyD, enum_body, ItemD, VariantD}
use Rattle.syntax_trees.specs.View.{ty}
use Rattle.syntax_printing.specs.Print.{print_ty}
use Rattle.convert_document.specs.declared.note.Note.{Note}
use Rattle.evolve_rows.specs.declared.turn.Broken.{Broken}
use Rattle.evolve_rows.specs.declared.turn.Broken.TheVariants.{Kind, Range, Rule, Length, Tag, Variant, Missing, Unknown, Twice, Rest}
use Rattle.evolve_ways.specs.Texts.{way_text}
use Rattle.model_evolve.specs.WayView.{way_view}
use Rattle.model_evolve.specs.declared.node.Mark.{Mark}
use Rattle.model_evolve.specs.declared.node.Node.{Node}
use Rattle.model_evolve.specs.declared.node.Node.TheVariants.{Ty, Content}
use Rattle.typify_run.specs.Headline.{items_of}
use Rattle.typify_run.specs.Page.{end_line, items_line, note_line}
use Rattle.typify_run.specs.declared.report.Report.{Report}

-- ---- the head

-- a line behind `old` or `new`
abbrev pub side_items : List ℕ → ℕ → List ℕ
side_items side n = side ++ codes " " ++ items_line n

abbrev pub side_note : List ℕ → Note → List ℕ
side_note side n = side ++ codes " " ++ note_line n

abbrev pub side_notes : List ℕ → List Note → List ℕ
side_notes side ns = flat_map (side_note side) ns

abbrev pub both_items : Report → Report → List ℕ
both_items old new = side_items (codes "old") (length old.items.items) ++ side_items (codes "new") (length new.items.items)

abbrev pub pair_head : Report → Report → List ℕ
pair_head old new = both_items old new ++ side_notes (codes "old") old.notes.items ++ side_notes (codes "new") new.notes.items

-- ---- the answer

abbrev pub rule_text : Broken → List ℕ
rule_text Kind = codes "Kind"
rule_text Range = codes "Range"
rule_text Rule = codes "Rule"
rule_text Length = codes "Length"
rule_text Tag = codes "Tag"
rule_text Variant = codes "Variant"
rule_text Missing = codes "Missing"
rule_text Unknown = codes "Unknown"
rule_text Twice = codes "Twice"
rule_text Rest = codes "Rest"

abbrev pub variants_of : BodyD → List VariantD
variants_of (enum_body vs at) = vs
variants_of _ = []

-- `ITEM::VARIANT`, by the numbers of the item and of the variant
abbrev pub variant_name : Option VariantD → List ℕ
variant_name None = []
variant_name (Some w) = w.name.text

abbrev pub item_variant : ℕ → Option ItemD → List ℕ
item_variant v None = []
item_variant v (Some i) = i.name.text ++ codes "::" ++ variant_name (slice_get (variants_of i.body) v)

-- a type is written as its tokens
abbrev pub node_text : List ItemD → Node → List ℕ
node_text is (Ty t) = text_of (print_ty (ty t))
node_text is (Content i v) = item_variant v (slice_get is i)

-- the rule, the way to the pair as a place in old values, and the pair, each behind the rule as a JSON string
abbrev pub broken_line : Report → Report → Node → Node → Broken → List Mark → List ℕ
broken_line old new a b e way = codes "broken " ++ rule_text e ++ codes " " ++ quoted (way_text (way_view way)) ++ codes " " ++ quoted (node_text (items_of old) a) ++ codes " " ++ quoted (node_text (items_of new) b) ++ end_line

-- ---- the pages

abbrev pub covered_page : Report → Report → List ℕ
covered_page old new = pair_head old new ++ codes "covered\nend\n"

abbrev pub broken_page : Report → Report → Node → Node → Broken → List Mark → List ℕ
broken_page old new a b e way = pair_head old new ++ broken_line old new a b e way ++ codes "end\n"
