-- Names that come again, counted one after another.
use Rattle.std.proofs.Common.{◌≡◌, ℕ, ◌+◌, ◌<◌, ◌≤◌, ◌&&◌, ◌||◌, not, List, [], ◌∷◌, drop, drop-cons, length, get_or, suc, Bool, true, false, Option, Some, None, is_some, refl, sym, ap, ◌∙◌, arith}
use Rattle.std.specs.Prelude.{bytes_eq, filter, if◌then◌else◌}
use Rattle.std.proofs.lemmas.List.{drop_all}
use Rattle.std.proofs.lemmas.Slice.Eq.{bytes_eq-Decides}
use Rattle.syntax_trees.specs.declared.item.DeriveInput.{DeriveInput}
use Rattle.name_tables.specs.Names.{Names, place_of, entered, put_in_order, comes_before}
use Rattle.container_defs.specs.Checks.{is_one}
use Rattle.container_defs.specs.Forms.{is_empty}
use Rattle.item_names.specs.Again.{is_entered, entered_again, AreCounted}
use Rattle.item_names.proofs.EnteredNames.{name_in, names_in}

-- ---- what is entered

found : (p : ℕ) (c : Bool) (o : Option ℕ) → is_some (if c then Some p else o) ≡ (c || is_some o)
found p true o = refl
found p false o = refl

behind : (p : ℕ) (c d : Bool) (o q : Option ℕ) → is_some q ≡ (c || is_some o) → is_some (if d then Some p else q) ≡ (c || is_some (if d then Some p else o))
behind p true true o q h = refl
behind p false true o q h = refl
behind p c false o q h = h

put_next : (m n : List ℕ) (p : ℕ) (e : List ℕ × ℕ) (es : Names) (b : Bool) → is_entered m (put_in_order n p es) ≡ (bytes_eq m n || is_entered m es)
    → is_entered m (if b then (n, p) ∷ e ∷ es else e ∷ put_in_order n p es) ≡ (bytes_eq m n || is_entered m (e ∷ es))
put_next m n p e es true h = found p (bytes_eq m n) (place_of m (e ∷ es))
put_next m n p e es false h = behind e.1 (bytes_eq m n) (bytes_eq m e.0) (place_of m es) (place_of m (put_in_order n p es)) h

put_finds : (m n : List ℕ) (p : ℕ) (t : Names) → is_entered m (put_in_order n p t) ≡ (bytes_eq m n || is_entered m t)
put_finds m n p [] = found p (bytes_eq m n) None
put_finds m n p (e ∷ es) = put_next m n p e es (comes_before n e.0) (put_finds m n p es)

alike : (m n : List ℕ) (t : Names) (b : Bool) → is_entered n t ≡ b → bytes_eq m n ≡ true → is_entered m t ≡ b
alike m n t b h e = ap (λ k. is_entered k t) ((bytes_eq-Decides m n).0 e) ∙ h

entered_any : (m n : List ℕ) (t : Names) → is_entered m (entered n 0 t) ≡ (bytes_eq m n || is_entered m t)
entered_any m n t = by (is_entered n t) refl
  where
    joined : (b : Bool) → (b ≡ true → is_entered m t ≡ true) → is_entered m t ≡ (b || is_entered m t)
    joined true h = h refl
    joined false h = refl

    by : (b : Bool) → is_entered n t ≡ b → is_entered m (entered n 0 t) ≡ (bytes_eq m n || is_entered m t)
    by true h = ap (λ b. is_entered m (if b then t else put_in_order n 0 t)) h ∙ joined (bytes_eq m n) (alike m n t true h)
    by false h = ap (λ b. is_entered m (if b then t else put_in_order n 0 t)) h ∙ put_finds m n 0 t

again_any : (m n : List ℕ) (seen again : Names) → is_entered m (entered_again n seen again) ≡ (if bytes_eq m n && is_entered m seen then true else is_entered m again)
again_any m n seen again = by (is_entered n seen) refl
  where
    when : (b s : Bool) → (b ≡ true → s ≡ true) → (b || is_entered m again) ≡ (if b && s then true else is_entered m again)
    when true s h = ap (λ z. if z then true else is_entered m again) (sym (h refl))
    when false s h = refl

    never : (b s : Bool) → (b ≡ true → s ≡ false) → is_entered m again ≡ (if b && s then true else is_entered m again)
    never true s h = ap (λ z. if z then true else is_entered m again) (sym (h refl))
    never false s h = refl

    by : (c : Bool) → is_entered n seen ≡ c → is_entered m (entered_again n seen again) ≡ (if bytes_eq m n && is_entered m seen then true else is_entered m again)
    by true h = ap (λ c. is_entered m (if c then entered n 0 again else again)) h ∙ entered_any m n again ∙ when (bytes_eq m n) (is_entered m seen) (alike m n seen true h)
    by false h = ap (λ c. is_entered m (if c then entered n 0 again else again)) h ∙ never (bytes_eq m n) (is_entered m seen) (alike m n seen false h)

-- a name that is there
pub there : (n : List ℕ) (t : Names) (b : Bool) → b ≡ is_entered n t → b ≡ true → t ≡ entered n 0 t
there n t b e h = ap (λ b. if b then t else put_in_order n 0 t) (sym (sym e ∙ h))

pub there_again : (n : List ℕ) (seen again new : Names) (b : Bool) → b ≡ is_entered n seen → b ≡ true → new ≡ entered n 0 again → new ≡ entered_again n seen again
there_again n seen again new b e h w = w ∙ ap (λ b. if b then entered n 0 again else again) (sym (sym e ∙ h))

pub not_again : (n : List ℕ) (seen again : Names) (b : Bool) → b ≡ is_entered n seen → b ≡ false → again ≡ entered_again n seen again
not_again n seen again b e h = ap (λ b. if b then entered n 0 again else again) (sym (sym e ∙ h))

-- ---- counting

-- whether one alone is left, where it is known whether the name was seen, and came again
abbrev pub is_counted : Bool → Bool → List (List ℕ) → Bool
is_counted seen again ns = not again && (if seen then is_empty ns else is_one ns)

abbrev pub left_of : List ℕ → List DeriveInput → List (List ℕ)
left_of n is = filter (bytes_eq n) (names_in is)

pub record AreLeft (ns : List (List ℕ)) (seen again : Names) (is : List DeriveInput) : Type 0 where
  pub left : (n : List ℕ) → is_one (filter (bytes_eq n) ns) ≡ is_counted (is_entered n seen) (is_entered n again) (left_of n is)

pub count_begins : (is : List DeriveInput) (seen again : Names) → seen ≡ [] → again ≡ [] → AreLeft (names_in is) seen again is
count_begins is seen again s a = record { left = λ n i. is_counted (is_entered n (sym s i)) (is_entered n (sym a i)) (left_of n is) }

first_is_one : (x : List ℕ) (ns : List (List ℕ)) → is_one (x ∷ ns) ≡ is_empty ns
first_is_one x [] = refl
first_is_one x (n ∷ ns) = refl

-- b says that it is the one asked about
step : (b s a : Bool) (x : List ℕ) (ns : List (List ℕ)) → is_counted s a (if b then x ∷ ns else ns) ≡ is_counted (b || s) (if b && s then true else a) ns
step false s a x ns = refl
step true true true x ns = refl
step true true false x ns = refl
step true false true x ns = refl
step true false false x ns = first_is_one x ns

next : (n : List ℕ) (is : List DeriveInput) (k : ℕ) (x : DeriveInput) → k < length is → x ≡ get_or is k x
    → left_of n (drop k is) ≡ (if bytes_eq n (name_in x) then name_in x ∷ left_of n (drop (k + 1) is) else left_of n (drop (k + 1) is))
next n is k x h e =
    let more : suc k ≡ k + 1 = omega arith in
    ap (left_of n) (drop-cons is k x h)
    ∙ ap (λ y. left_of n (y ∷ drop (suc k) is)) (sym e)
    ∙ ap (λ m. if bytes_eq n (name_in x) then name_in x ∷ left_of n (drop m is) else left_of n (drop m is)) more

pub count_turn : (ns : List (List ℕ)) (is : List DeriveInput) (k : ℕ) (x : DeriveInput) (m : List ℕ) (seen again seen' again' : Names) → k < length is → x ≡ get_or is k x → m ≡ name_in x
    → seen' ≡ entered m 0 seen → again' ≡ entered_again m seen again → AreLeft ns seen again (drop k is) → AreLeft ns seen' again' (drop (k + 1) is)
count_turn ns is k x m seen again seen' again' h e q s a was = record {
  left = λ n.
      let now = ap (is_entered n) (s ∙ ap (λ p. entered p 0 seen) q) ∙ entered_any n (name_in x) seen in
      let again_now = ap (is_entered n) (a ∙ ap (λ p. entered_again p seen again) q) ∙ again_any n (name_in x) seen again in
      was.left n ∙ ap (is_counted (is_entered n seen) (is_entered n again)) (next n is k x h e)
      ∙ step (bytes_eq n (name_in x)) (is_entered n seen) (is_entered n again) (name_in x) (left_of n (drop (k + 1) is))
      ∙ (λ i. is_counted (sym now i) (sym again_now i) (left_of n (drop (k + 1) is)));
}

pub count_end : (ns : List (List ℕ)) (is : List DeriveInput) (k : ℕ) (seen again : Names) → length is ≤ k → AreLeft ns seen again (drop k is) → AreCounted ns seen again
count_end ns is k seen again h was = record {
  counted = λ n. was.left n ∙ ap (λ js. is_counted (is_entered n seen) (is_entered n again) (left_of n js)) (drop_all k is h) ∙ ends (is_entered n seen) (is_entered n again);
}
  where
    ends : (s a : Bool) → is_counted s a [] ≡ (s && not a)
    ends true true = refl
    ends true false = refl
    ends false true = refl
    ends false false = refl

pub single : (ns : List (List ℕ)) (seen again : Names) (n : List ℕ) (b : Bool) → AreCounted ns seen again → b ≡ (is_entered n seen && not (is_entered n again)) → b ≡ is_one (filter (bytes_eq n) ns)
single ns seen again n b c e = e ∙ sym (c.counted n)
