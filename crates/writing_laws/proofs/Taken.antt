-- Where what is joined of readings is taken: the parts are taken.
use Rattle.std.proofs.Common.{◌≡◌, List, [], ◌∷◌, Bool, true, false, ◌&&◌, ◌||◌, not, cond, refl, sym, ◌∙◌, true≢false, ◌⊎◌, inl, inr}
use Rattle.schema_defs.specs.Location.{Location, Step}
use Rattle.reading_defs.specs.Reading.{Read, taken, stopped, unsound, read_map, under, here, if_sound, followed, paired, or_next, kept_if}

pub one_taken : {A : Type 0} → (x y : A) → taken x ≡ taken y → x ≡ y
one_taken x y e = cc

pub never_stopped : {A : Type 0} → (x : A) (l : Location) → stopped l ≡ taken x → ⊥
never_stopped x l e = cc

pub map_taken : {A B : Type 0} → (f : A → B) (r : Read A) (y : B) → read_map f r ≡ taken y → (x : A) × (r ≡ taken x) × (f x ≡ y)
map_taken f (taken x) y e = (x, refl, one_taken (f x) y e)
map_taken f (stopped l) y e = cc
map_taken f unsound y e = cc

pub under_taken : {A : Type 0} → (s : Step) (r : Read A) (x : A) → under s r ≡ taken x → r ≡ taken x
under_taken s (taken y) x e = e
under_taken s (stopped l) x e = cc
under_taken s unsound x e = cc

pub here_taken : {A : Type 0} → (r : Read A) (x : A) → here r ≡ taken x → r ≡ taken x
here_taken (taken y) x e = e
here_taken (stopped l) x e = cc
here_taken unsound x e = cc

pub sound_taken : {A : Type 0} → (r : Read A) (x : A) → if_sound r ≡ taken x → r ≡ taken x
sound_taken (taken y) x e = e
sound_taken (stopped l) x e = cc
sound_taken unsound x e = cc

pub followed_taken : {A : Type 0} → (r : Read A) (rs : Read (List A)) (ys : List A) → followed r rs ≡ taken ys
    → (x : A) × (xs : List A) × (r ≡ taken x) × (rs ≡ taken xs) × (x ∷ xs ≡ ys)
followed_taken (taken x) (taken xs) ys e = (x, xs, refl, refl, one_taken (x ∷ xs) ys e)
followed_taken (taken x) (stopped l) ys e = cc
followed_taken (taken x) unsound ys e = cc
followed_taken (stopped l) rs ys e = cc
followed_taken unsound rs ys e = cc

pub paired_taken : {A B : Type 0} → (r : Read A) (q : Read B) (z : A × B) → paired r q ≡ taken z → (x : A) × (y : B) × (r ≡ taken x) × (q ≡ taken y) × ((x, y) ≡ z)
paired_taken (taken x) (taken y) z e = (x, y, refl, refl, one_taken (x, y) z e)
paired_taken (taken x) (stopped l) z e = cc
paired_taken (taken x) unsound z e = cc
paired_taken (stopped l) q z e = cc
paired_taken unsound q z e = cc

pub kept_taken : {A : Type 0} → (b : Bool) (r : Read A) (x : A) → kept_if b r ≡ taken x → (b ≡ true) × (r ≡ taken x)
kept_taken true (taken y) x e = (refl, e)
kept_taken false (taken y) x e = absurd (never_stopped x [] e)
kept_taken b (stopped l) x e = cc
kept_taken b unsound x e = cc

pub next_taken : {A : Type 0} → (r q : Read A) (x : A) → or_next r q ≡ taken x → (r ≡ taken x) ⊎ ((l : Location) × (r ≡ stopped l) × (q ≡ taken x))
next_taken (taken y) q x e = inl e
next_taken (stopped l) q x e = inr (l, refl, e)
next_taken unsound q x e = cc

pub if_taken : {A : Type 0} → (b : Bool) (r : Read A) (x : A) → cond b r (stopped []) ≡ taken x → (b ≡ true) × (r ≡ taken x)
if_taken true r x e = (refl, e)
if_taken false r x e = absurd (never_stopped x [] e)

pub unless_taken : {A : Type 0} → (b : Bool) (r : Read A) (l : Location) (x : A) → cond b (stopped l) r ≡ taken x → (b ≡ false) × (r ≡ taken x)
unless_taken true r l x e = absurd (never_stopped x l e)
unless_taken false r l x e = (refl, e)

-- ---- tests

pub and_left : (a b : Bool) → (a && b) ≡ true → a ≡ true
and_left true b h = refl
and_left false b h = h

pub and_right : (a b : Bool) → (a && b) ≡ true → b ≡ true
and_right true b h = h
and_right false b h = absurd (true≢false (sym h))

pub not_false : (a : Bool) → not a ≡ true → a ≡ false
not_false true h = absurd (true≢false (sym h))
not_false false h = refl

pub or_right : (a b : Bool) → (a || b) ≡ true → a ≡ false → b ≡ true
or_right true b h e = absurd (true≢false e)
or_right false b h e = h

pub both_true : (a b : Bool) → a ≡ true → b ≡ true → (a && b) ≡ true
both_true a b g h = λ i. (g i) && (h i)

pub never_both : (a : Bool) (P : Type 0) → a ≡ true → a ≡ false → P
never_both a P g h = absurd (true≢false (sym g ∙ h))
