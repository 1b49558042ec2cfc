-- Names with their places, in order of the names byte by byte, as UTF-8 has them.
use Rattle.std.specs.Prelude.{◌≡◌, ℕ, ◌<◌, ◌≤◌, List, [], ◌∷◌, length, Bool, true, Option, Some, None, is_some, option_map, bytes_eq, if◌then◌else◌, slice_index_or}
use Rattle.std.specs.Ordering.{is_lt, nat_cmp}
use Rattle.std.specs.Cmp.Lexicographic.{slice_cmp}

abbrev pub Names : Type 0
Names = List (List ℕ × ℕ)

abbrev pub comes_before : List ℕ → List ℕ → Bool
comes_before m n = is_lt (slice_cmp nat_cmp m n)

-- ---- looking up

-- the place of the first that has the name, as a scan finds it
abbrev pub place_of : List ℕ → Names → Option ℕ
place_of n [] = None
place_of n (e ∷ es) = if bytes_eq n e.0 then Some e.1 else place_of n es

-- ---- entering

-- before the first greater name
abbrev pub put_in_order : List ℕ → ℕ → Names → Names
put_in_order n p [] = (n, p) ∷ []
put_in_order n p (e ∷ es) = if comes_before n e.0 then (n, p) ∷ e ∷ es else e ∷ put_in_order n p es

-- a name that is there keeps its place
abbrev pub entered : List ℕ → ℕ → Names → Names
entered n p es = if is_some (place_of n es) then es else put_in_order n p es

-- one after another
abbrev pub all_entered : Names → Names → Names
all_entered [] es = es
all_entered (d ∷ ds) es = all_entered ds (entered d.0 d.1 es)

-- ---- order

abbrev pub name_at : Names → ℕ → List ℕ
name_at es i = let e = slice_index_or es i ([], 0) in e.0

-- each comes before each that stands after it, so none stands twice
abbrev pub IsRising : Names → Type 0
IsRising es = (i j : ℕ) → i < j → j < length es → comes_before (name_at es i) (name_at es j) ≡ true

-- the name stands at index i
pub record IsAt (es : Names) (n : List ℕ) (i : ℕ) : Type 0 where
  pub in_range : i < length es
  pub has_name : name_at es i ≡ n

-- the name would stand at index i: those before it come before the name, and the name before those from it on
pub record IsGapFor (es : Names) (n : List ℕ) (i : ℕ) : Type 0 where
  pub in_range : i ≤ length es
  pub before : (j : ℕ) → j < i → comes_before (name_at es j) n ≡ true
  pub after : (j : ℕ) → i ≤ j → j < length es → comes_before n (name_at es j) ≡ true

-- ---- laws

-- what was entered one after another is found as a scan of the list finds it
abbrev pub EnteredAreScanned : Type 0
EnteredAreScanned = (n : List ℕ) (ds : Names) → place_of n (all_entered ds []) ≡ place_of n ds
