-- What a call that looks for the next line reads and gives. `old` and `new` are the bytes held before and after it, and `line` is the line as it is kept.
use Rattle.std.specs.Prelude.{◌≡◌, ◌≢◌, ◌+◌, ◌<◌, ℕ, List, [], ◌∷◌, ◌++◌, length, Bool, true, false, Option, Some, None}
use Rattle.run_io.specs.Bytes.{Takes, IsSpent}
use Rattle.line_reader.specs.declared.found.Found.{Found}
use Rattle.line_reader.specs.declared.found.Found.TheVariants.{Line, Last, End}
use Rattle.line_reader.specs.Lines.{feed, IsOpen, bound, kept, most}

-- one more part of a line
abbrev pub IsGrown : Option (List ℕ) → Option (List ℕ) → List ℕ → Type 0
IsGrown line line' part = (l : List ℕ) → line ≡ kept l → line' ≡ kept (l ++ part)

-- whether the line ends within the bytes that are held: they are its part, a line feed and what is held later; or they are all its part
abbrev pub IsPart : List ℕ → List ℕ → Option (List ℕ) → Option (List ℕ) → Bool → Type 0
IsPart old new line line' true = (part : List ℕ) × IsOpen part × (old ≡ part ++ feed ∷ new) × IsGrown line line' part
IsPart old new line line' false = IsOpen old × (new ≡ []) × IsGrown line line' old

-- what was read from a source that had `left` and has `left'`, and how many bytes were read before and by now
pub record IsRead (left left' : Option (List ℕ)) (count count' : ℕ) (bytes : List ℕ) : Type 0 where
  pub taken : Takes left left' bytes
  pub counted : count' ≡ count + length bytes

-- a line that a line feed ends
pub record IsEnded (old new : List ℕ) (left left' : Option (List ℕ)) (count count' : ℕ) (line : Option (List ℕ)) : Type 0 where
  pub read : List ℕ
  pub text : List ℕ
  pub is_read : IsRead left left' count count' read
  pub is_line : IsOpen text
  pub is_kept : line ≡ kept text
  pub parts : old ++ read ≡ text ++ feed ∷ new

-- nothing is left, and no line feed ended what was held and read
pub record IsSpentBy (old new : List ℕ) (left left' : Option (List ℕ)) (count count' : ℕ) (line : Option (List ℕ)) : Type 0 where
  pub read : List ℕ
  pub is_read : IsRead left left' count count' read
  pub is_line : IsOpen (old ++ read)
  pub is_kept : line ≡ kept (old ++ read)
  pub none_held : new ≡ []
  pub spent : IsSpent left'

-- what was found: a line that ends, the last line without an end, or that there is no further one
abbrev pub IsFound : List ℕ → List ℕ → Option (List ℕ) → Option (List ℕ) → ℕ → ℕ → Option (List ℕ) → Found → Type 0
IsFound old new left left' count count' line Line = IsEnded old new left left' count count' line
IsFound old new left left' count count' line Last = (s : IsSpentBy old new left left' count count' line) × (old ++ s.read ≢ [])
IsFound old new left left' count count' line End = (s : IsSpentBy old new left left' count count' line) × (old ++ s.read ≡ [])

-- the line has more bytes than are kept, and its end wasn't looked for
pub record IsTooLong (old : List ℕ) (left left' : Option (List ℕ)) : Type 0 where
  pub read : List ℕ
  pub taken : Takes left left' read
  pub is_line : IsOpen (old ++ read)
  pub long : bound < length (old ++ read)

-- as many bytes as may be were read, and more came
pub record IsMore (left left' : Option (List ℕ)) (count : ℕ) : Type 0 where
  pub more : List ℕ
  pub taken : Takes left left' more
  pub full : count ≡ most
  pub some : more ≢ []

-- reading failed before the line ended
pub record IsStopped (old : List ℕ) (left left' : Option (List ℕ)) : Type 0 where
  pub read : List ℕ
  pub taken : Takes left left' read
  pub is_line : IsOpen (old ++ read)

-- before the line ended as many bytes as may be were read, and more came
pub record IsOverrun (old : List ℕ) (left left' : Option (List ℕ)) (count : ℕ) : Type 0 where
  pub read : List ℕ
  pub more : List ℕ
  pub taken : Takes left left' (read ++ more)
  pub counted : count + length read ≡ most
  pub some : more ≢ []
  pub is_line : IsOpen (old ++ read)

-- of the bytes that were held and read since, the line's part so far, and what is held now
pub record IsBegun (old now : List ℕ) (left left' : Option (List ℕ)) (count count' : ℕ) (line : Option (List ℕ)) : Type 0 where
  pub read : List ℕ
  pub text : List ℕ
  pub is_read : IsRead left left' count count' read
  pub is_line : IsOpen text
  pub is_kept : line ≡ kept text
  pub parts : old ++ read ≡ text ++ now

-- what there is where no more bytes come: the last line where it has a byte
abbrev pub last_found : Option (List ℕ) → Found
last_found (Some []) = End
last_found (Some (b ∷ bs)) = Last
last_found None = Last
