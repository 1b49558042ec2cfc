-- Good names are no words of Rust's own, and aren't written raw.
use Rattle.std.proofs.Common.{◌≡◌, ℕ, List, [], ◌∷◌, Bool, true, false, ◌&&◌, ◌||◌, cond, refl, sym, ap, ◌∙◌, subst, true≢false, bytes_eq, lit<}
use Rattle.std.specs.Prelude.{nat_eq, ◌==◌}
use Rattle.std.specs.List.{list_all, AllByRecursion}
use Rattle.std.specs.Str.{chars, chars_after, continuation_len, lead_bits}
use Rattle.std.proofs.lemmas.Slice.Eq.{bytes_eq-Decides}
use Rattle.unicode_ident.specs.Ident.{is_xid_start, is_xid_continue}
use Rattle.unicode_ident.proofs.IdentLemmas.{is_xid_continue-ascii}
use Rattle.attr_defs.specs.Container.{unraw}
use Rattle.type_spellings.specs.Types.{word_type}
use Rattle.model_defs.proofs.Flat.{and_first, and_second}
use Rattle.naming_defs.specs.Good.{spells_identifier, primitive_types, is_one_of, is_good_name}
use Rattle.naming_defs.proofs.Good.{known}
use Rattle.emit_defs.specs.Spelled.{IsFree}

first_false : (a b : Bool) → (a || b) ≡ false → a ≡ false
first_false true b h = absurd (true≢false h)
first_false false b h = refl

second_false : (a b : Bool) → (a || b) ≡ false → b ≡ false
second_false true b h = absurd (true≢false h)
second_false false b h = h

other_way : (m n : List ℕ) → bytes_eq m n ≡ false → bytes_eq n m ≡ false
other_way m n h = elim (bytes_eq n m) as (λ b. bytes_eq n m ≡ b → b ≡ false) [
  | true ↦ λ e. absurd (true≢false (sym ((bytes_eq-Decides m n).1 (sym ((bytes_eq-Decides n m).0 e))) ∙ h))
  | false ↦ λ e. refl
] refl

-- of words of which n is none, none is n
none_is : (n : List ℕ) (ws : List (List ℕ)) → is_one_of ws n ≡ false → AllByRecursion (λ w. bytes_eq n w ≡ false) ws
none_is n [] h = tt
none_is n (w ∷ ws) h = (other_way w n (first_false (bytes_eq w n) (is_one_of ws n) h), none_is n ws (second_false (bytes_eq w n) (is_one_of ws n) h))

no_primitive : (n : List ℕ) → is_good_name n ≡ true → is_one_of primitive_types n ≡ false
no_primitive n g = (known n g).no_primitive

pub free : (n : List ℕ) → is_good_name n ≡ true → IsFree n
unfolding word_type
free n g =
    let a = none_is n primitive_types (no_primitive n g) in
    let i = a.1.1.1 in
    let u = i.1.1.1.1.1.1 in
    rw (a.0, i.0, u.0, i.1.0, u.1.0, i.1.1.0, u.1.1.0, i.1.1.1.0, u.1.1.1.0) refl

-- ---- `r#`

spelled : (n : List ℕ) → is_good_name n ≡ true → spells_identifier (chars n) ≡ true
spelled n g = (known n g).identifier

same_number : (c d : ℕ) → nat_eq c d ≡ true → c ≡ d
same_number c d h =
    let e : (c ∷ []) ≡ (d ∷ []) = (bytes_eq-Decides (c ∷ []) (d ∷ [])).0 (ap (λ b. b && true) h) in
    cc

-- no identifier goes on by `#`
raw_after : (n : List ℕ) → spells_identifier (114 ∷ chars_after 0 35 n) ≡ true → ⊥
raw_after [] h = true≢false (sym (and_first (is_xid_continue 35) true (and_second (is_xid_start 114 || (114 == 95)) _ h)) ∙ is_xid_continue-ascii 35 (lit< tt))
raw_after (b ∷ n) h = true≢false (sym (and_first (is_xid_continue 35) (list_all is_xid_continue (chars_after (continuation_len b) (lead_bits b) n)) (and_second (is_xid_start 114 || (114 == 95)) _ h)) ∙ is_xid_continue-ascii 35 (lit< tt))

no_raw : (n : List ℕ) → spells_identifier (chars (114 ∷ 35 ∷ n)) ≡ true → ⊥
unfolding chars
no_raw n h = raw_after n h

raw_by : (c d : ℕ) (n : List ℕ) (b : Bool) → (nat_eq c 114 && nat_eq d 35) ≡ b → spells_identifier (chars (c ∷ d ∷ n)) ≡ true → cond b n (c ∷ d ∷ n) ≡ c ∷ d ∷ n
raw_by c d n false e h = refl
raw_by c d n true e h =
    let first = same_number c 114 (and_first (nat_eq c 114) (nat_eq d 35) e) in
    let second = same_number d 35 (and_second (nat_eq c 114) (nat_eq d 35) e) in
    absurd (no_raw n (subst (λ z. spells_identifier (chars (z ∷ 35 ∷ n)) ≡ true) first (subst (λ z. spells_identifier (chars (c ∷ z ∷ n)) ≡ true) second h)))

pub is_plain : (n : List ℕ) → is_good_name n ≡ true → unraw n ≡ n
is_plain [] g = refl
is_plain (c ∷ []) g = refl
is_plain (c ∷ d ∷ n) g = raw_by c d n (nat_eq c 114 && nat_eq d 35) refl (spelled (c ∷ d ∷ n) g)
