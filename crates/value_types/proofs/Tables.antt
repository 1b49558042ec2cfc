-- The tables of built-in types say what the reader's types say.
use Rattle.std.proofs.Common.{◌≡◌, ℕ, ◌&&◌, List, [], ◌∷◌, map, true, false, Option, Some, None, refl}
use Rattle.std.specs.Prelude.{bytes_eq, codes, if◌then◌else◌}
use Rattle.type_spellings.specs.Types.{same_names, word_type, plain_path, path_of_one}
use Rattle.model_defs.specs.Types.{TypeModel, item_type}
use Rattle.value_types.specs.declared.rows.Plain.{Plain}
use Rattle.value_types.specs.declared.rows.Plain.TheVariants.{Boolean, Whole, Signed}
use Rattle.value_types.specs.declared.rows.Meaning.{Meaning}
use Rattle.value_types.specs.declared.rows.Meaning.TheVariants as meanings
use Rattle.value_types.specs.RowView.{RowD, meaning_of, plain_in, holder_in, plain_view, plain_or_outside, held_or_outside, word_rows, plain_rows, holder_rows}
use Rattle.value_types.specs.ShapeView.{word_or_item}

-- a table as a chain of questions
module _ {X : Type 0} (use_of : Option Meaning → X) (p : List (List ℕ)) where
  abbrev chain : List RowD → X
  chain [] = use_of None
  chain (r ∷ rs) = if same_names p r.names then use_of (Some r.meaning) else chain rs

  chained : (rs : List RowD) → use_of (meaning_of rs p) ≡ chain rs
  chained [] = refl
  chained (r ∷ rs) =
      elim (same_names p r.names) as (λ b. use_of (if b then Some r.meaning else meaning_of rs p) ≡ (if b then use_of (Some r.meaning) else chain rs)) [ true ↦ refl | false ↦ chained rs ]

pub plain_meant : (p : List (List ℕ)) → plain_or_outside (plain_in (meaning_of plain_rows p)) ≡ plain_path p
unfolding plain_path
plain_meant p = chained (λ o. plain_or_outside (plain_in o)) p plain_rows

pub held_meant : (p : List (List ℕ)) (t : TypeModel) → held_or_outside (holder_in (meaning_of holder_rows p)) t ≡ path_of_one p t
unfolding path_of_one
held_meant p t = chained (λ o. held_or_outside (holder_in o) t) p holder_rows

-- ---- words

abbrev word_row : List ℕ × Plain → RowD
word_row w = record { names = w.0 ∷ []; meaning = meanings.Plain w.1 }

module _ (n : List ℕ) where
  abbrev asked : List (List ℕ × Plain) → TypeModel
  asked [] = item_type n
  asked (w ∷ ws) = if bytes_eq n w.0 then plain_view w.1 else asked ws

  words_asked : (ws : List (List ℕ × Plain)) → word_or_item (plain_in (meaning_of (map word_row ws) (n ∷ []))) n ≡ asked ws
  words_asked [] = refl
  words_asked (w ∷ ws) =
      elim (bytes_eq n w.0) as (λ b. word_or_item (plain_in (if (b && true) then Some (meanings.Plain w.1) else meaning_of (map word_row ws) (n ∷ []))) n ≡ (if b then plain_view w.1 else asked ws)) [ true ↦ refl | false ↦ words_asked ws ]

abbrev words : List (List ℕ × Plain)
words =
    (codes "bool", Boolean)
    ∷ (codes "i8", Signed 128 127)
    ∷ (codes "u8", Whole 0 255)
    ∷ (codes "i16", Signed 32768 32767)
    ∷ (codes "u16", Whole 0 65535)
    ∷ (codes "i32", Signed 2147483648 2147483647)
    ∷ (codes "u32", Whole 0 4294967295)
    ∷ (codes "i64", Signed 9223372036854775808 9223372036854775807)
    ∷ (codes "u64", Whole 0 18446744073709551615)
    ∷ []

pub word_meant : (n : List ℕ) → word_or_item (plain_in (meaning_of word_rows (n ∷ []))) n ≡ word_type n
unfolding word_type
word_meant n = words_asked n words
