-- The type and the notes that are found are those of the table.
use Rattle.std.proofs.Common.{◌≡◌, ℤ, Bool, List, [], ◌∷◌, ◌++◌, Option, Some, None, option_map, refl, sym, ap, ◌∙◌}
use Rattle.std.specs.Prelude.{is_some}
use Rattle.schema_defs.specs.Integers.{Range}
use Rattle.schema_defs.specs.Schema.{Numbers, Plain}
use Rattle.entry_defs.specs.Entry.{IntegerName, integer_entry}
use Rattle.entry_defs.specs.Layer.{integer_range}
use Rattle.convert_defs.specs.Row.{Note, Finding, here, narrowed, widened, integer_note, noted, leaf_row}
use Rattle.convert_defs.specs.IntegerRow.{chosen, least_of, greatest_of, format_range, numbers_or_none, has_multiple, integer_of, integer_notes, note_if}
use Rattle.entry_types.specs.declared.entry.IntName.{IntName}
use Rattle.entry_types.specs.View.{integer_view}
use Rattle.integer_rows.specs.Bounds.{IsLeast, IsGreatest, chosen_by, is_widened, is_narrowed}
use Rattle.integer_rows.proofs.Beyond.{chosen-same, widened-same, narrowed-same}

abbrev pub ranged : Option IntName → Option Range
ranged o = option_map (λ g. integer_range (integer_view g)) o

names-seen : (o : Option IntName) → ranged o ≡ option_map integer_range (option_map integer_view o)
names-seen None = refl
names-seen (Some g) = refl

chosen-seen : (n : Numbers) (f : Option Range) → chosen n f ≡ chosen_by (is_some n.multiple_of) (least_of n) (greatest_of n) f
chosen-seen n None = refl
chosen-seen n (Some f) = refl

-- what stands in a schema, and what the program keeps of it
pub record IsKept (p : Plain) (multiple coarse : Bool) (least greatest : Option ℤ) (format : Option IntName) : Type 0 where
  pub multiple_is : multiple ≡ is_some (numbers_or_none p.numbers).multiple_of
  pub coarse_is : coarse ≡ has_multiple (numbers_or_none p.numbers)
  pub least_is : IsLeast (least_of (numbers_or_none p.numbers)) least
  pub greatest_is : IsGreatest (greatest_of (numbers_or_none p.numbers)) greatest
  pub format_is : ranged format ≡ format_range p

module _ (p : Plain) (m c : Bool) (a b : Option ℤ) (o : Option IntName) (k : IsKept p m c a b o) where
  pub name-is : chosen_by m a b (ranged o) ≡ integer_of p
  name-is =
      ap (chosen_by m a b) (names-seen o)
      ∙ chosen-same m (least_of (numbers_or_none p.numbers)) a (greatest_of (numbers_or_none p.numbers)) b (option_map integer_view o) k.least_is k.greatest_is
      ∙ ap (chosen_by m (least_of (numbers_or_none p.numbers)) (greatest_of (numbers_or_none p.numbers))) (sym (names-seen o) ∙ k.format_is)
      ∙ ap (λ t. chosen_by t (least_of (numbers_or_none p.numbers)) (greatest_of (numbers_or_none p.numbers)) (format_range p)) k.multiple_is
      ∙ sym (chosen-seen (numbers_or_none p.numbers) (format_range p))

  pub widened-is : (n : IntegerName) → is_widened c a b (ranged o) n ≡ is_widened (has_multiple (numbers_or_none p.numbers)) (least_of (numbers_or_none p.numbers)) (greatest_of (numbers_or_none p.numbers)) (format_range p) n
  widened-is n =
      ap (λ f. is_widened c a b f n) (names-seen o)
      ∙ widened-same c n (least_of (numbers_or_none p.numbers)) a (greatest_of (numbers_or_none p.numbers)) b (option_map integer_view o) k.least_is k.greatest_is
      ∙ ap (λ f. is_widened c (least_of (numbers_or_none p.numbers)) (greatest_of (numbers_or_none p.numbers)) f n) (sym (names-seen o) ∙ k.format_is)
      ∙ ap (λ t. is_widened t (least_of (numbers_or_none p.numbers)) (greatest_of (numbers_or_none p.numbers)) (format_range p) n) k.coarse_is

  pub narrowed-is : (n : IntegerName) → is_narrowed a b (ranged o) n ≡ is_narrowed (least_of (numbers_or_none p.numbers)) (greatest_of (numbers_or_none p.numbers)) (format_range p) n
  narrowed-is n =
      ap (λ f. is_narrowed a b f n) (names-seen o)
      ∙ narrowed-same n (least_of (numbers_or_none p.numbers)) a (greatest_of (numbers_or_none p.numbers)) b (option_map integer_view o) k.least_is k.greatest_is
      ∙ ap (λ f. is_narrowed (least_of (numbers_or_none p.numbers)) (greatest_of (numbers_or_none p.numbers)) f n) (sym (names-seen o) ∙ k.format_is)

  pub row-is : (n : IntegerName) (es ws ns : List Note) → n ≡ chosen_by m a b (ranged o) → es ≡ []
      → ws ≡ es ++ note_if (is_widened c a b (ranged o) n) (here widened integer_note) → ns ≡ ws ++ note_if (is_narrowed a b (ranged o) n) (here narrowed integer_note)
      → noted ns (leaf_row (integer_entry n)) ≡ noted (integer_notes p) (leaf_row (integer_entry (integer_of p)))
  row-is n es ws ns h e w v =
      ap (λ us. noted us (leaf_row (integer_entry n))) (v ∙ ap (λ us. us ++ note_if (is_narrowed a b (ranged o) n) (here narrowed integer_note)) (w ∙ ap (λ us. us ++ note_if (is_widened c a b (ranged o) n) (here widened integer_note)) e))
      ∙ (λ i. noted (note_if (widened-is n i) (here widened integer_note) ++ note_if (narrowed-is n i) (here narrowed integer_note)) (leaf_row (integer_entry n)))
      ∙ ap (λ g. noted (note_if (is_widened (has_multiple (numbers_or_none p.numbers)) (least_of (numbers_or_none p.numbers)) (greatest_of (numbers_or_none p.numbers)) (format_range p) g) (here widened integer_note) ++ note_if (is_narrowed (least_of (numbers_or_none p.numbers)) (greatest_of (numbers_or_none p.numbers)) (format_range p) g) (here narrowed integer_note)) (leaf_row (integer_entry g))) (h ∙ name-is)
