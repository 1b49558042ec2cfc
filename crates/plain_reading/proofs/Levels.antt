-- How many levels a plain document needs, by its value and by the text that it is read from.
use Rattle.std.proofs.Common.{◌≡◌, ℕ, suc, ◌≤◌, List, Some, refl, sym, ap, arith, nat_le}
use Rattle.std.specs.Prelude.{max}
use Rattle.std.proofs.lemmas.Bool.{leb-true}
use Rattle.serde_json.specs.Data as data'
use Rattle.serde_json.specs.Data.{Data, null, boolean, number, string, array, object, no_items, item, no_members, member, depth, items_depth, members_depth}
use Rattle.serde_json.specs.Read.{max_depth, read}
use Rattle.serde_json.proofs.Nesting.{depth-read}
use Rattle.json_value.specs.View.{value_of, items_of, members_of}
use Rattle.schema_defs.specs.Schema.{Document}
use Rattle.schema_defs.specs.Counts.{nodes}
use Rattle.schema_defs.specs.References.{is_guarded}
use Rattle.convert_defs.proofs.Bare.{and_left, and_right}
use Rattle.plain_defs.specs.Plain.{IsPlain, has_rows}
use Rattle.plain_laws.specs.Height.{document_height}
use Rattle.plain_laws.proofs.Nodes.{height_by_nodes}
use Rattle.plain_laws.proofs.Enough.{plain_is_converted}
use Rattle.plain_reading.specs.Nesting.{nesting, items_nesting, members_nesting}
use Rattle.plain_reading.specs.Laws.{PlainByNesting, PlainTextsAreConverted}
use Rattle.plain_reading.proofs.Nested.{height_by_nesting}

-- no more schemas stand in one another in a plain document than its depth
within : (d : Document) (n : ℕ) → IsPlain d n → document_height d ≤ n
within d n h = omega (arith, height_by_nodes d, leb-true (nodes d) n (and_left (nat_le (nodes d) n) (has_rows d n) (and_right (is_guarded d) _ h)))

pub plain_by_nesting : PlainByNesting
plain_by_nesting r setting v d n most levels e h le enough =
    plain_is_converted r d n (document_height d) most levels h (omega (arith)) (omega (arith, within d n h, le)) (omega (arith, height_by_nesting setting v d e, enough))

mutual
  same-nesting : (d : Data) → nesting (value_of d) ≡ depth d
  same-nesting null = refl
  same-nesting (boolean b) = refl
  same-nesting (number (data'.unsigned n)) = refl
  same-nesting (number (data'.negative z)) = refl
  same-nesting (number (data'.float x)) = refl
  same-nesting (string s) = refl
  same-nesting (array ds) = ap suc (same-items ds)
  same-nesting (object ms) = ap suc (same-members ms)

  same-items : (ds : data'.Items) → items_nesting (items_of ds) ≡ items_depth ds
  same-items no_items = refl
  same-items (item d ds) = λ i. max (same-nesting d i) (same-items ds i)

  same-members : (ms : data'.Members) → members_nesting (members_of ms) ≡ members_depth ms
  same-members no_members = refl
  same-members (member k d ms) = λ i. max (same-nesting d i) (same-members ms i)

pub text_nesting : (bytes : List ℕ) (v : Data) → read bytes ≡ Some v → nesting (value_of v) ≤ 127
text_nesting bytes v e = omega (arith, same-nesting v, depth-read bytes v e)

pub plain_texts_are_converted : PlainTextsAreConverted
plain_texts_are_converted r setting bytes v d n most levels e f h le enough = plain_by_nesting r setting (value_of v) d n most levels f h le (omega (arith, enough, text_nesting bytes v e))
