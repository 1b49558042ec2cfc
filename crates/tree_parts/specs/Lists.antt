-- Fields, places and texts, one after another.
use Rattle.std.specs.Prelude.{ℕ, zero, suc, List, [], ◌∷◌, Bool, bytes_eq, ◌||◌, if◌then◌else◌}
use Rattle.entry_defs.specs.Entry.{Entries, entry_again, Fields, field_again, Variants, variant_then, unit_contents}

-- required fields with the entry of the next, and then more fields
abbrev pub fields_again : List (List ℕ) → Fields → Fields
fields_again [] more = more
fields_again (n ∷ ns) more = field_again n n (fields_again ns more)

-- so many places with the entry of the next, and then more places
abbrev pub places_again : ℕ → Entries → Entries
places_again zero more = more
places_again (suc n) more = entry_again (places_again n more)

-- variants that hold nothing, and then more variants
abbrev pub units_then : List (List ℕ) → Variants → Variants
units_then [] more = more
units_then (n ∷ ns) more = variant_then n n unit_contents (units_then ns more)

-- the texts that meet the test and were not seen before, each once
module _ (meets : List ℕ → Bool) where
  abbrev pub kept_after : (List ℕ → Bool) → List (List ℕ) → List (List ℕ)
  kept_after seen [] = []
  kept_after seen (n ∷ ns) =
      if seen n then kept_after seen ns
      else if meets n then n ∷ kept_after (λ m. bytes_eq m n || seen m) ns
      else kept_after (λ m. bytes_eq m n || seen m) ns

  -- a variant of the text, where it meets the test and was not seen before
  abbrev pub kept_one : (List ℕ → Bool) → List ℕ → Variants → Variants
  kept_one seen n more = if seen n then more else if meets n then variant_then n n unit_contents more else more
