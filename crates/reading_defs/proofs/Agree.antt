-- What reading gives agrees with what the definitions of reading and of refusing say, however readings are joined.
use Rattle.std.proofs.Common.{◌≡◌, List, [], ◌∷◌, map, filter, Bool, true, false, ◌&&◌, ◌||◌, cond, refl, sym, ap, ◌∙◌, true≢false}
use Rattle.schema_defs.specs.Location.{Location, Step}
use Rattle.reading_defs.specs.Reading.{Read, taken, stopped, unsound, read_map, under, here, followed, paired, or_next, kept_if}

-- a value exactly where it is read, of which P holds; else the place. E is what an unsound default says
abbrev pub Agrees : {A : Type 0} → Type 0 → Bool → Location → (A → Type 0) → Read A → Type 0
Agrees E takes stops P (taken x) = (takes ≡ true) × P x
Agrees E takes stops P (stopped l) = (takes ≡ false) × (stops ≡ l)
Agrees E takes stops P unsound = E

module _ (E : Type 0) where
  pub agrees_map : {A B : Type 0} → (P : A → Type 0) (Q : B → Type 0) (f : A → B) (t : Bool) (s : Location) → ((x : A) → P x → Q (f x)) → (r : Read A) → Agrees E t s P r → Agrees E t s Q (read_map f r)
  agrees_map P Q f t s g (taken x) h = (h.0, g x h.1)
  agrees_map P Q f t s g (stopped l) h = h
  agrees_map P Q f t s g unsound h = h

  pub agrees_under : {A : Type 0} → (P : A → Type 0) (n : Step) (t : Bool) (s : Location) (r : Read A) → Agrees E t s P r → Agrees E t (n ∷ s) P (under n r)
  agrees_under P n t s (taken x) h = h
  agrees_under P n t s (stopped l) h = (h.0, ap (λ p. n ∷ p) h.1)
  agrees_under P n t s unsound h = h

  pub agrees_here : {A : Type 0} → (P : A → Type 0) (t : Bool) (s : Location) (r : Read A) → Agrees E t s P r → Agrees E t [] P (here r)
  agrees_here P t s (taken x) h = h
  agrees_here P t s (stopped l) h = (h.0, refl)
  agrees_here P t s unsound h = h

  pub agrees_as : {A : Type 0} → (P Q : A → Type 0) (t : Bool) (s : Location) → ((x : A) → P x → Q x) → (r : Read A) → Agrees E t s P r → Agrees E t s Q r
  agrees_as P Q t s g (taken x) h = (h.0, g x h.1)
  agrees_as P Q t s g (stopped l) h = h
  agrees_as P Q t s g unsound h = h

  -- along equations
  pub agrees_along : {A : Type 0} → (P : A → Type 0) (t u : Bool) (s p : Location) (r : Read A) → u ≡ t → p ≡ s → Agrees E t s P r → Agrees E u p P r
  agrees_along P t u s p (taken x) a b h = (a ∙ h.0, h.1)
  agrees_along P t u s p (stopped l) a b h = (a ∙ h.0, b ∙ h.1)
  agrees_along P t u s p unsound a b h = h

  pub agrees_followed : {A : Type 0} → (P : A → Type 0) (Q R : List A → Type 0) (t u : Bool) (s p : Location) → ((x : A) (xs : List A) → P x → Q xs → R (x ∷ xs))
      → (r : Read A) (rs : Read (List A)) → Agrees E t s P r → Agrees E u p Q rs → Agrees E (t && u) (cond t p s) R (followed r rs)
  agrees_followed P Q R t u s p g (taken x) (taken xs) h k = ((λ i. h.0 i && k.0 i), g x xs h.1 k.1)
  agrees_followed P Q R t u s p g (taken x) (stopped l) h k = ((λ i. h.0 i && k.0 i), ap (λ b. cond b p s) h.0 ∙ k.1)
  agrees_followed P Q R t u s p g (taken x) unsound h k = k
  agrees_followed P Q R t u s p g (stopped l) rs h k = (ap (λ b. b && u) h.0, ap (λ b. cond b p s) h.0 ∙ h.1)
  agrees_followed P Q R t u s p g unsound rs h k = h

  pub agrees_paired : {A B : Type 0} → (P : A → Type 0) (Q : B → Type 0) (R : A × B → Type 0) (t u : Bool) (s p : Location) → ((x : A) (y : B) → P x → Q y → R (x, y))
      → (r : Read A) (q : Read B) → Agrees E t s P r → Agrees E u p Q q → Agrees E (t && u) (cond t p s) R (paired r q)
  agrees_paired P Q R t u s p g (taken x) (taken y) h k = ((λ i. h.0 i && k.0 i), g x y h.1 k.1)
  agrees_paired P Q R t u s p g (taken x) (stopped l) h k = ((λ i. h.0 i && k.0 i), ap (λ b. cond b p s) h.0 ∙ k.1)
  agrees_paired P Q R t u s p g (taken x) unsound h k = k
  agrees_paired P Q R t u s p g (stopped l) q h k = (ap (λ b. b && u) h.0, ap (λ b. cond b p s) h.0 ∙ h.1)
  agrees_paired P Q R t u s p g unsound q h k = h

  -- a rule that a taken value breaks refuses it itself
  pub agrees_kept : {A : Type 0} → (P : A → Type 0) (t b : Bool) (s : Location) (r : Read A) → Agrees E t s P r → Agrees E (t && b) (cond t [] s) P (kept_if b r)
  agrees_kept P t true s (taken x) h = ((λ i. h.0 i && true), h.1)
  agrees_kept P t false s (taken x) h = ((λ i. h.0 i && false), ap (λ c. cond c [] s) h.0)
  agrees_kept P t b s (stopped l) h = (ap (λ c. c && b) h.0, ap (λ c. cond c [] s) h.0 ∙ h.1)
  agrees_kept P t b s unsound h = h

  -- the first that takes the value; none refuses it itself
  pub agrees_next : {A : Type 0} → (P Q R : A → Type 0) (t u : Bool) (s : Location) → ((x : A) → t ≡ true → P x → R x) → ((x : A) → t ≡ false → Q x → R x)
      → (r q : Read A) → Agrees E t s P r → Agrees E u [] Q q → Agrees E (t || u) [] R (or_next r q)
  agrees_next P Q R t u s f g (taken x) q h k = (ap (λ b. b || u) h.0, f x h.0 h.1)
  agrees_next P Q R t u s f g (stopped l) (taken x) h k = ((λ i. h.0 i || k.0 i), g x h.0 k.1)
  agrees_next P Q R t u s f g (stopped l) (stopped m) h k = ((λ i. h.0 i || k.0 i), k.1)
  agrees_next P Q R t u s f g (stopped l) unsound h k = k
  agrees_next P Q R t u s f g unsound q h k = h

-- ---- tests

pub nested : (a b : Bool) (x y z : Location) → cond (a && b) x (cond a y z) ≡ cond a (cond b x y) z
nested true b x y z = refl
nested false b x y z = refl

pub filter_map : {A B : Type 0} → (p : B → Bool) (g : A → B) (xs : List A) → filter p (map g xs) ≡ map g (filter (λ x. p (g x)) xs)
filter_map p g [] = refl
filter_map p g (x ∷ xs) = ap (λ ys. cond (p (g x)) (g x ∷ ys) ys) (filter_map p g xs) ∙ by (p (g x))
  where
    by : (b : Bool) → cond b (g x ∷ map g (filter (λ y. p (g y)) xs)) (map g (filter (λ y. p (g y)) xs)) ≡ map g (cond b (x ∷ filter (λ y. p (g y)) xs) (filter (λ y. p (g y)) xs))
    by true = refl
    by false = refl

pub and_left : (a b : Bool) → (a && b) ≡ true → a ≡ true
and_left true b h = refl
and_left false b h = h

pub and_right : (a b : Bool) → (a && b) ≡ true → b ≡ true
and_right true b h = h
and_right false b h = absurd (true≢false (sym h))

pub turned_and : (a b c : Bool) → (a && (b && c)) ≡ (b && (a && c))
turned_and true true c = refl
turned_and true false c = refl
turned_and false true c = refl
turned_and false false c = refl

pub same_and : (a b c : Bool) → (a && b && c) ≡ (a && (b && c))
same_and true b c = refl
same_and false b c = refl
