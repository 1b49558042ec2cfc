-- What each plain schema hands on: all rows together.
use Rattle.std.proofs.Common.{◌≡◌, ℕ, zero, suc, true, false, ◌&&◌, refl, ◌⊎◌, inl, inr, length, nat_le}
use Rattle.schema_defs.specs.Texts.{Relations}
use Rattle.schema_defs.specs.Schema.{Schema, boolean, object, Document}
use Rattle.enum_defs.specs.Words.{without_lists, without_named}
use Rattle.convert_defs.proofs.Bare.{and_left, impossible}
use Rattle.plain_defs.specs.Words.{says_nothing}
use Rattle.plain_defs.specs.Rows.{Inner, rows_within, members_of_one, one_of, plain_typed, plain_item, plain_row}
use Rattle.plain_laws.proofs.Facts.{none-of, either, nothing}
use Rattle.plain_laws.proofs.Tree.{IsForm, a_row, a_nullable, a_definition, makes, IsUnwalked, Fits}
use Rattle.plain_laws.proofs.NotNull.{row-cases, typed-cases}
use Rattle.plain_laws.proofs.Leaves.{row-any, row-boolean, row-integer, row-text, row-reference}
use Rattle.plain_laws.proofs.Owners.{row-list, row-tuple, row-map, row-struct, row-item}
use Rattle.plain_laws.proofs.Nullables.{row-option}
use Rattle.plain_laws.proofs.Tagged.{row-tagged}
use Rattle.plain_laws.proofs.Named.{row-cased}
use Rattle.plain_laws.proofs.Disjoint.{row-kinds}

module _ (r : Relations) (d : Document) (most : ℕ) where
  choice-unwalked : (inner : Inner) (n : ℕ) (s : Schema) → nat_le n 0 ≡ false → nat_le n (length (one_of d inner s)) ≡ true → IsUnwalked s
  choice-unwalked inner n (boolean b) e h = tt
  choice-unwalked inner n (object p ss ls ns) e h = (nothing p (and_left (says_nothing p) _ (none-of (says_nothing p && (without_lists ls && without_named ns)) (members_of_one d inner ss) n e h))).most.walk

  typed-fits : (j : ℕ) (s : Schema) → plain_typed d (rows_within d j) s ≡ true → Fits r d most false j s
  typed-fits j s h =
      typed-cases d (rows_within d j) (Fits r d most false j s) s h (row-boolean r d most (rows_within d j) j s) (row-integer r d most (rows_within d j) j s) (row-text r d most (rows_within d j) j s) (row-list r d most j s) (row-tuple r d most j s) (row-map r d most j s) (row-struct r d most j s)

  unwalked : (j : ℕ) (s : Schema) → (rows_within d j).row s ≡ true → IsUnwalked s
  unwalked zero s h = impossible h
  unwalked (suc j) s h =
      row-cases d (rows_within d j) (IsUnwalked s) s h (λ k. (row-any r d most (rows_within d j) j s k).unwalked) (λ k. (typed-fits j s k).unwalked) (λ k. (row-reference r d most (rows_within d j) j s k).unwalked)
      (λ k. choice-unwalked (rows_within d j) 2 s refl (and_left (nat_le 2 (length (one_of d (rows_within d j) s))) _ k))
      (λ k. choice-unwalked (rows_within d j) 1 s refl (and_left (nat_le 1 (length (one_of d (rows_within d j) s))) _ k))
      (λ k. choice-unwalked (rows_within d j) 2 s refl (and_left (nat_le 2 (length (one_of d (rows_within d j) s))) _ k))

  row-level : (j : ℕ) (s : Schema) → plain_row d (rows_within d j) s ≡ true → Fits r d most false j s
  row-level j s h =
      row-cases d (rows_within d j) (Fits r d most false j s) s h (row-any r d most (rows_within d j) j s) (typed-fits j s) (row-reference r d most (rows_within d j) j s)
      (row-tagged r d most j s) (row-cased r d most j s) (row-kinds r d most unwalked j s)

  pub level : (j : ℕ) (s : Schema) (f : IsForm d (suc j) s) → Fits r d most (makes d (suc j) s f) j s
  level j s (a_row h) = row-level j s h
  level j s (a_nullable h) = row-option r d most j s h
  level j s (a_definition h) = by (either ((rows_within d (suc j)).row s) _ h)
    where
      by : ((rows_within d (suc j)).row s ≡ true) ⊎ (plain_item d (rows_within d j) s ≡ true) → Fits r d most false j s
      by (inl k) = row-level j s k
      by (inr k) = row-item r d most j s k
