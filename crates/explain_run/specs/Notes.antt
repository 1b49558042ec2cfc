-- What is said of a note: what the items refuse that the schema admits, or take that it doesn't. A pair that no note has says nothing.
use Rattle.std.specs.Prelude.{ℕ, List, [], codes}
use Rattle.convert_document.specs.declared.note.Way.{Way}
use Rattle.convert_document.specs.declared.note.Way.TheVariants.{Narrowed, Widened}
use Rattle.convert_document.specs.declared.note.NoteKind.{NoteKind}
use Rattle.convert_document.specs.declared.note.NoteKind.TheVariants.{N1, N2, N3, N4, N5, N6, N7, N8, N9, N10, N11, N12, N13, N14, N15, N16, N17, N18, N19, N20, N21}

abbrev pub narrowed_text : NoteKind → List ℕ
narrowed_text N1 = codes "Without a type the schema is converted by the keywords that it has, as an object, a text or an array: values of every other kind are refused."
narrowed_text N2 = []
narrowed_text N3 = []
narrowed_text N4 = codes "The type chosen by the bounds or the format holds fewer numbers: others are refused."
narrowed_text N5 = []
narrowed_text N6 = []
narrowed_text N7 = codes "A member of an enum in external form is open; the enum reads that one member alone, and refuses others beside it."
narrowed_text N8 = codes "Some members of an enum by a tag are closed, some open; the enum is closed, and refuses further names at those that are open."
narrowed_text N9 = codes "A member of an enum by a tag has the tag alone and is open; the enum refuses a content beside it."
narrowed_text N10 = []
narrowed_text N11 = []
narrowed_text N12 = []
narrowed_text N13 = []
narrowed_text N14 = codes "Names beyond the patterns or the rules are refused."
narrowed_text N15 = codes "Of a type with an `enum` under `not` values of other types are refused."
narrowed_text N16 = codes "What stands beside a reference is left out of what is taken away, so that more is taken away."
narrowed_text N17 = codes "No text is taken to have two formats that differ, and nothing else is taken either."
narrowed_text N18 = codes "Bounds, sizes or lengths cross, or items or required names clash: nothing is taken, values of other kinds included."
narrowed_text N19 = codes "Members of `anyOf` beside a body are told apart, each without the others: a value of several is refused."
narrowed_text N20 = codes "Taking away goes by listed values, properties and required names; all else is passed over: more may be taken away."
narrowed_text N21 = codes "Null where a member is absent is lost by a merge."

abbrev pub widened_text : NoteKind → List ℕ
widened_text N1 = []
widened_text N2 = codes "Null is taken where another keyword refuses it."
widened_text N3 = codes "A constant beside a type, which isn't a text, is left out: other values of the type are taken."
widened_text N4 = codes "The type holds more numbers than the schema admits, and these are taken."
widened_text N5 = codes "A text of one of the six formats is read as that format alone: its lengths and patterns are left out."
widened_text N6 = codes "A list's sizes, and that a set's items differ, are left out: a set drops repeated items when it is read."
widened_text N7 = []
widened_text N8 = []
widened_text N9 = []
widened_text N10 = codes "A list of one boolean is read as `bool`: the other one is taken too."
widened_text N11 = codes "A type beside `anyOf`, `oneOf`, `allOf` or `not` is left out."
widened_text N12 = codes "Several members of `oneOf` may admit one value; it is taken by the first."
widened_text N13 = codes "How many members an object has is left out."
widened_text N14 = codes "Rules on the names of members are left out: a name that no property has is passed over."
widened_text N15 = []
widened_text N16 = codes "What stands beside a reference is left out where it is merged."
widened_text N17 = codes "Formats that differ clash in what is taken away: nothing is taken away."
widened_text N18 = codes "The clash is in what is taken away: nothing is taken away."
widened_text N19 = codes "A member of `oneOf` is left out, or the body stands for it, though several members may admit one value."
widened_text N20 = codes "Taking away goes by listed values, properties and required names; all else is passed over: less may be taken away."
widened_text N21 = codes "Null where a member is absent is lost by a merge that is taken away."

abbrev pub note_sentence : Way → NoteKind → List ℕ
note_sentence Narrowed k = narrowed_text k
note_sentence Widened k = widened_text k
