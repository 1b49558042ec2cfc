-- Namings one after another.
use Rattle.std.proofs.Common.{◌≡◌, ◌<◌, ◌≤◌, ◌+◌, ℕ, List, [], ◌∷◌, ◌++◌, map, length, take, get_or, refl, sym, Bool, ap, ◌∙◌, subst, append_assoc, append-nil}
use Rattle.std.proofs.lemmas.List.{take_more, take_all, map-append}
use Rattle.naming_defs.specs.Names.{Names}
use Rattle.good_names.specs.Given.{StandsWithin, Stands, Named, DoesWithin, Does}
use Rattle.tree_names.specs.Seen.{each}
use Rattle.good_names.specs.declared.given.GivenNames.{GivenNames}

-- ---- one after another

-- nothing is named
pub does_nothing : {off : List ℕ → Bool} {Y : Type 0} (p : List ℕ) (s : GivenNames) (y z : Y) → y ≡ z → DoesWithin off p s s y (λ b t. (t, z))
does_nothing p s y z e = record { step = λ b t st. (e, st) }

-- what is made of what was named
pub does_wrapped : {off : List ℕ → Bool} {Y Z : Type 0} (p : List ℕ) (s r : GivenNames) (y : Y) (n : Names → Names → Named Y) (F : Y → Z) (z : Z) → z ≡ F y → DoesWithin off p s r y n → DoesWithin off p s r z (λ b t. let a = n b t in (a.0, F a.1))
does_wrapped p s r y n F z e d = record { step = λ b t st. let a = d.step b t st in (e ∙ ap F a.0, a.1) }

pub does_both : {X Y Z : Type 0} (p : List ℕ) (s m r : GivenNames) (x : X) (y : Y) (f : Names → Names → Named X) (g : Names → Names → Named Y) (F : X → Y → Z) (z : Z)
    → z ≡ F x y → Does p s m x f → Does p m r y g → Does p s r z (λ b t. let a = f b t in let c = g b a.0 in (c.0, F a.1 c.1))
does_both p s m r x y f g F z e d k = record {
  step = λ b t st.
      let a = d.step b t st in
      let c = k.step b (f b t).0 a.1 in
      (e ∙ (λ i. F (a.0 i) (c.0 i)), c.1);
}

-- the same naming, said otherwise
pub does_same : {Y : Type 0} (p : List ℕ) (s r : GivenNames) (y : Y) (n m : Names → Names → Named Y) → ((b t : Names) → n b t ≡ m b t) → Does p s r y n → Does p s r y m
does_same p s r y n m e d = record {
  step = λ b t st. let a = d.step b t st in (a.0 ∙ ap (λ z. z.1) (e b t), subst (λ (z : Names). Stands r p z b) (ap (λ z. z.0) (e b t)) a.1);
}

-- ---- lists

each_last : {X Y : Type 0} (g : X → Names → Named Y) (xs : List X) (x : X) (t : Names)
    → each g (xs ++ x ∷ []) t ≡ (let a = each g xs t in let c = g x a.0 in (c.0, a.1 ++ c.1 ∷ []))
each_last g [] x t = refl
each_last g (y ∷ xs) x t = ap (λ r. (r.0, (g y t).1 ∷ r.1)) (each_last g xs x (g y t).0)

module _ {X Y : Type 0} (p : List ℕ) (f : X → Names → Names → Named Y) where
  abbrev pub all_of : List X → Names → Names → Named (List Y)
  all_of xs b t = each (λ x. f x b) xs t

  pub does_none : (s : GivenNames) (ys : List Y) → ys ≡ [] → Does p s s ys (all_of [])
  does_none s ys e = record { step = λ b t st. (e, st) }

  pub does_more : (s m r : GivenNames) (ys zs : List Y) (xs ws : List X) (x : X) (y : Y) → zs ≡ ys ++ y ∷ [] → ws ≡ xs ++ x ∷ []
      → Does p s m ys (all_of xs) → Does p m r y (f x) → Does p s r zs (all_of ws)
  does_more s m r ys zs xs ws x y ez ew d k = record {
    step = λ b t st.
        let a = d.step b t st in
        let c = k.step b (all_of xs b t).0 a.1 in
        let l = ap (λ z. all_of z b t) ew ∙ each_last (λ x. f x b) xs x t in
        (ez ∙ (λ i. a.0 i ++ c.0 i ∷ []) ∙ sym (ap (λ z. z.1) l), subst (λ (z : Names). Stands r p z b) (sym (ap (λ z. z.0) l)) c.1);
  }

module _ {X Y : Type 0} (off : List ℕ → Bool) (p : List ℕ) (f : X → Names → Names → Named Y) where
  -- what was named so far, and what is left
  pub record Gives (first now : GivenNames) (ys : List Y) (rest all : List X) : Type 0 where
    pub step : (b t : Names) → StandsWithin off first p t b → (u : Names) × StandsWithin off now p u b × (ys ++ (all_of p f rest b u).1 ≡ (all_of p f all b t).1) × ((all_of p f rest b u).0 ≡ (all_of p f all b t).0)

  pub gives_none : (s : GivenNames) (ys : List Y) (rest all : List X) → ys ≡ [] → rest ≡ all → Gives s s ys rest all
  gives_none s ys rest all e h = record { step = λ b t st. (t, st, (λ i. e i ++ (all_of p f (h i) b t).1), (λ i. (all_of p f (h i) b t).0)) }

  pub gives_more : (s m r : GivenNames) (ys zs : List Y) (rest left all : List X) (x : X) (y : Y) → zs ≡ ys ++ y ∷ [] → rest ≡ x ∷ left
      → Gives s m ys rest all → DoesWithin off p m r y (f x) → Gives s r zs left all
  gives_more s m r ys zs rest left all x y ez er g d = record {
    step = λ b t st.
        let a = g.step b t st in
        let c = d.step b a.0 a.1 in (
          (f x b a.0).0,
          c.1,
          (λ i. (ez ∙ (λ j. ys ++ c.0 j ∷ [])) i ++ (all_of p f left b (f x b a.0).0).1) ∙ append_assoc ys ((f x b a.0).1 ∷ []) (all_of p f left b (f x b a.0).0).1 ∙ (λ i. ys ++ (all_of p f (sym er i) b a.0).1) ∙ a.2,
          (λ i. (all_of p f (sym er i) b a.0).0) ∙ a.3,
        );
  }

  pub gives_all : (s r : GivenNames) (ys : List Y) (rest all : List X) → rest ≡ [] → Gives s r ys rest all → DoesWithin off p s r ys (all_of p f all)
  gives_all s r ys rest all er g = record {
    step = λ b t st.
        let a = g.step b t st in (
          sym (append-nil ys) ∙ (λ i. ys ++ (all_of p f (sym er i) b a.0).1) ∙ a.2,
          subst (λ (z : Names). StandsWithin off r p z b) ((λ i. (all_of p f (sym er i) b a.0).0) ∙ a.3) a.1,
        );
  }

-- ---- loops

pub mapped_step : {X Y : Type 0} (f : X → Y) (xs : List X) (i : ℕ) (x : X) → i < length xs → x ≡ get_or xs i x → map f (take (i + 1) xs) ≡ map f (take i xs) ++ f x ∷ []
mapped_step f xs i x h e = ap (map f) (take_more xs i x h) ∙ map-append f (take i xs) (get_or xs i x ∷ []) ∙ ap (λ z. map f (take i xs) ++ f z ∷ []) (sym e)

pub mapped_push : {X Y : Type 0} (f : X → Y) (new old : List X) (x : X) → new ≡ old ++ x ∷ [] → map f new ≡ map f old ++ f x ∷ []
mapped_push f new old x e = ap (map f) e ∙ map-append f old (x ∷ [])

module _ {A B X Y : Type 0} (p : List ℕ) (f : X → Names → Names → Named Y) (v : A → X) (w : B → Y) where
  pub turn : (s m r : GivenNames) (done new : List B) (b : B) (items : List A) (i : ℕ) (a : A) → i < length items → a ≡ get_or items i a → new ≡ done ++ b ∷ []
      → Does p s m (map w done) (all_of p f (map v (take i items))) → Does p m r (w b) (f (v a)) → Does p s r (map w new) (all_of p f (map v (take (i + 1) items)))
  turn s m r done new b items i a h e n d k =
      does_more p f s m r (map w done) (map w new) (map v (take i items)) (map v (take (i + 1) items)) (v a) (w b) (mapped_push w new done b n) (mapped_step v items i a h e) d k

  pub begin : (s : GivenNames) (done : List B) (items : List A) → done ≡ [] → Does p s s (map w done) (all_of p f (map v (take 0 items)))
  begin s done items e = does_none p f s (map w done) (ap (map w) e)

  pub end : (s r : GivenNames) (done : List B) (items all : List A) (i : ℕ) → length items ≤ i → items ≡ all → Does p s r (map w done) (all_of p f (map v (take i items))) → Does p s r (map w done) (all_of p f (map v all))
  end s r done items all i h e d = subst (λ (z : List A). Does p s r (map w done) (all_of p f (map v z))) (take_all i items h ∙ e) d

module _ {A B X Y : Type 0} (off : List ℕ → Bool) (p : List ℕ) (f : X → Names → Names → Named Y) (v : A → X) (w : B → Y) where
  pub owned_turn : (s m r : GivenNames) (done new : List B) (b : B) (rest left all : List A) (a : A) → rest ≡ a ∷ left → new ≡ done ++ b ∷ []
      → Gives off p f s m (map w done) (map v rest) (map v all) → DoesWithin off p m r (w b) (f (v a)) → Gives off p f s r (map w new) (map v left) (map v all)
  owned_turn s m r done new b rest left all a e n g d = gives_more off p f s m r (map w done) (map w new) (map v rest) (map v left) (map v all) (v a) (w b) (mapped_push w new done b n) (ap (map v) e) g d

  pub owned_begin : (s : GivenNames) (done : List B) (rest all : List A) → done ≡ [] → rest ≡ all → Gives off p f s s (map w done) (map v rest) (map v all)
  owned_begin s done rest all e h = gives_none off p f s (map w done) (map v rest) (map v all) (ap (map w) e) (ap (map v) h)

  pub owned_end : (s r : GivenNames) (done : List B) (rest all : List A) → rest ≡ [] → Gives off p f s r (map w done) (map v rest) (map v all) → DoesWithin off p s r (map w done) (all_of p f (map v all))
  owned_end s r done rest all e g = gives_all off p f s r (map w done) (map v rest) (map v all) (ap (map v) e) g

-- names that are wanted, one after another
module _ {A X : Type 0} (v : X → List ℕ) (w : A → X) where
  pub want_turn : (s r : GivenNames) (items : List A) (i : ℕ) (a : A) (n : List ℕ) → i < length items → a ≡ get_or items i a → n ≡ v (w a)
      → ((p : List ℕ) → Stands s p [] (map v (map w (take i items)))) → ((p : List ℕ) (g b : Names) → Stands s p g b → Stands r p g (b ++ n ∷ [])) → (p : List ℕ) → Stands r p [] (map v (map w (take (i + 1) items)))
  want_turn s r items i a n h e same d k p =
      subst (λ (z : Names). Stands r p [] z)
      (ap (λ z. map v (map w (take i items)) ++ z ∷ []) same ∙ sym (ap (map v) (mapped_step w items i a h e) ∙ map-append v (map w (take i items)) (w a ∷ [])))
      (k p [] (map v (map w (take i items))) (d p))

  pub want_end : (s : GivenNames) (items all : List A) (i : ℕ) → length items ≤ i → items ≡ all → ((p : List ℕ) → Stands s p [] (map v (map w (take i items)))) → (p : List ℕ) → Stands s p [] (map v (map w all))
  want_end s items all i h e d p = subst (λ (z : List A). Stands s p [] (map v (map w z))) (take_all i items h ∙ e) (d p)
