-- Types as trees spell the types that are meant.
use Rattle.std.specs.Prelude.{◌≡◌, ◌<◌, ◌^◌, ℕ, List, Bool, ⊤}
use Rattle.type_spellings.specs.Types.{word_type, type_of}
use Rattle.model_defs.specs.Types.{item_type}
use Rattle.entry_defs.specs.Entry.{Target, Entry, option_entry, vec_entry, set_entry, map_entry, tuple_entry, array_entry, reference, item, Entries, no_entries, entry_then, entry_again}
use Rattle.emit_defs.specs.Models.{type_model}
use Rattle.emit_defs.specs.Trees.{entry_ty}

-- no word of Rust's own
abbrev pub IsFree : List ℕ → Type 0
IsFree n = word_type n ≡ item_type n

abbrev pub IsSome : Entries → Type 0
IsSome no_entries = ⊥
IsSome (entry_then e es) = ⊤
IsSome (entry_again es) = ⊤

-- names are free, a tuple has a place, and the length of an array is a u64
module _ (name : Target → List ℕ) where
  abbrev mutual
    pub IsWritten : Entry → Type 0
    IsWritten (option_entry e) = IsWritten e
    IsWritten (vec_entry e) = IsWritten e
    IsWritten (set_entry e) = IsWritten e
    IsWritten (map_entry k e) = IsWritten k × IsWritten e
    IsWritten (tuple_entry es) = IsSome es × AreWritten es
    IsWritten (array_entry e n) = (n < 2 ^ 64) × IsWritten e
    IsWritten (reference q) = IsFree (name q)
    IsWritten (item n s) = IsFree n
    IsWritten _ = ⊤

    pub AreWritten : Entries → Type 0
    AreWritten no_entries = ⊤
    AreWritten (entry_then e es) = IsWritten e × AreWritten es
    AreWritten (entry_again es) = AreWritten es

abbrev pub TypesAreSpelled : Type 0
TypesAreSpelled = (name : Target → List ℕ) (is_boxed : List ℕ → Bool) (e : Entry) → IsWritten name e → type_of (entry_ty name is_boxed e) ≡ type_model name is_boxed e
