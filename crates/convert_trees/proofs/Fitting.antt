-- Defaults and the row of their schema: which rows are not that of integers, and the default that is left where it isn't read.
use Rattle.std.specs.Prelude.{filter, not, if◌then◌else◌}
use Rattle.std.proofs.Common.{◌≡◌, List, ℕ, [], ◌∷◌, Bool, true, false, Option, Some, None, refl, sym, ap, ◌∙◌}
use Rattle.json_value.specs.Value.{Value}
use Rattle.schema_defs.specs.Schema.{Schema}
use Rattle.entry_defs.specs.Entry.{Target}
use Rattle.convert_defs.specs.Row.{Row, leaf_row}
use Rattle.convert_defs.specs.Scalars.{listed_entry}
use Rattle.convert_defs.specs.Table.{target_of, row_of_target, reference_row}
use Rattle.convert_defs.specs.Values.{fits_row, keeps_bounds}
use Rattle.listed_reading.specs.Unread.{first_of}
use Rattle.convert_trees.specs.Unread.{fits_by, stated_default}

-- ---- rows that aren't that of integers

pub listed_fits : (b : Bool) (n : List ℕ) (ts : List (List ℕ)) (s : Schema) (v : Value) → fits_row (leaf_row (listed_entry b n ts)) s v ≡ true
listed_fits true n [] s v = refl
listed_fits true n (t ∷ ts) s v = refl
listed_fits false n [] s v = refl
listed_fits false n (t ∷ ts) s v = refl

target_fits : (o : Option Target) (s : Schema) (v : Value) → fits_row (row_of_target o) s v ≡ true
target_fits None s v = refl
target_fits (Some t) s v = refl

pub reference_fits : (q : List ℕ) (s : Schema) (v : Value) → fits_row (reference_row (Some q)) s v ≡ true
reference_fits q s v = target_fits (target_of q) s v

module _ (w : Row) (s : Schema) (v : Value) (b : Bool) (h : fits_row w s v ≡ fits_by b s v) where
  pub fits_integer : b ≡ true → fits_row w s v ≡ keeps_bounds s v
  fits_integer e = h ∙ ap (λ b. fits_by b s v) e

  pub fits_elsewhere : b ≡ false → fits_row w s v ≡ true
  fits_elsewhere e = h ∙ ap (λ b. fits_by b s v) e

-- ---- the default that is left

module _ (given : Value → Bool) where
  abbrev left : Option Value → Option Value
  left o = first_of (filter (λ v. not (given v)) (stated_default o))

  pub none_stated : (o : Option Value) → None ≡ o → left o ≡ None
  none_stated o e = ap left (sym e)

  left_by : (v : Value) (b : Bool) → given v ≡ b → left (Some v) ≡ (if b then None else Some v)
  left_by v b e = ap (λ (b : Bool). first_of (if not b then v ∷ [] else [])) e ∙ by b
    where
      by : (b : Bool) → first_of (if not b then v ∷ [] else []) ≡ (if b then None else Some v)
      by true = refl
      by false = refl

  pub one_given : (o : Option Value) (v : Value) → Some v ≡ o → given v ≡ true → left o ≡ None
  one_given o v e h = ap left (sym e) ∙ left_by v true h

  pub one_left : (o : Option Value) (v : Value) → Some v ≡ o → given v ≡ false → left o ≡ Some v
  one_left o v e h = ap left (sym e) ∙ left_by v false h
