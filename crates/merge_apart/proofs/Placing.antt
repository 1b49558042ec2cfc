-- Properties and names that are placed among others, rising.
use Rattle.std.proofs.Common.{◌≡◌, ℕ, List, [], ◌∷◌, Bool, true, false, ◌||◌, ◌&&◌, Ordering, Less, Equal, Greater, refl, sym, ap, ◌∙◌, true≢false}
use Rattle.std.specs.Prelude.{bytes_eq, if◌then◌else◌}
use Rattle.std.specs.List.{list_any}
use Rattle.std.proofs.lemmas.Slice.Eq.{bytes_eq-Decides}
use Rattle.std.proofs.lemmas.Bool.{false≢true}
use Rattle.std.specs.Prelude.{⊤}
use Rattle.schema_defs.specs.Schema.{Schema, MaybeSchema, no_schema, the_schema, Properties, no_properties, property}
use Rattle.schema_defs.specs.Layer.{property_at, is_given}
use Rattle.enum_defs.specs.Words.{is_name, names_of}
use Rattle.merge_defs.specs.Objects.{is_below, put_before, put_name, put_names}
use Rattle.merge_apart.specs.Aside.{put_at}
use Rattle.merge_apart.proofs.PutNames.{order_of, turned, below_by, equal_by, below_less, below_both, put_outside}

-- ---- two names

pub below_trans : (k n m : List ℕ) → is_below k n ≡ true → is_below n m ≡ true → is_below k m ≡ true
below_trans k n m h g = below_both k n m (below_less k n h) g

pub below_apart : (n m : List ℕ) → is_below n m ≡ true → bytes_eq n m ≡ false
below_apart n m h = equal_by n m Less (below_less n m h)

pub above_apart : (n m : List ℕ) → is_below n m ≡ true → bytes_eq m n ≡ false
above_apart n m h = equal_by m n Greater (turned n m Less (below_less n m h))

pub apart_turned : (n m : List ℕ) → bytes_eq n m ≡ false → bytes_eq m n ≡ false
apart_turned n m h = go (bytes_eq m n) refl
  where
    go : (b : Bool) → bytes_eq m n ≡ b → b ≡ false
    go true e = sym ((bytes_eq-Decides n m).1 (sym ((bytes_eq-Decides m n).0 e))) ∙ h
    go false e = refl

pub not_below : (n m : List ℕ) → is_below n m ≡ false → bytes_eq n m ≡ false → is_below m n ≡ true
not_below n m h g = go (order_of n m) refl
  where
    go : (o : Ordering) → order_of n m ≡ o → is_below m n ≡ true
    go Less e = absurd (true≢false (sym (below_by n m Less e) ∙ h))
    go Equal e = absurd (true≢false (sym (equal_by n m Equal e) ∙ g))
    go Greater e = below_by m n Less (turned n m Greater e)

pub or_none : (a b : Bool) → (a || b) ≡ false → (a ≡ false) × (b ≡ false)
or_none true b h = absurd (true≢false h)
or_none false b h = (refl, h)

pub or_not : (a b : Bool) → a ≡ false → b ≡ false → (a || b) ≡ false
or_not a b h k = ap (λ c. c || b) h ∙ k

pub and_both : (a b : Bool) → (a && b) ≡ true → (a ≡ true) × (b ≡ true)
and_both true b h = (refl, h)
and_both false b h = absurd (false≢true h)

-- ---- names that rise

abbrev pub AreAbove : List ℕ → List (List ℕ) → Type 0
AreAbove n [] = ⊤
AreAbove n (m ∷ ms) = (is_below n m ≡ true) × AreAbove n ms

abbrev pub Rise : List (List ℕ) → Type 0
Rise [] = ⊤
Rise (m ∷ ms) = AreAbove m ms × Rise ms

pub still_above : (k n : List ℕ) (ms : List (List ℕ)) → is_below k n ≡ true → AreAbove n ms → AreAbove k ms
still_above k n [] h g = tt
still_above k n (m ∷ ms) h g = (below_trans k n m h g.0, still_above k n ms h g.1)

put_above : (k n : List ℕ) (ms : List (List ℕ)) → is_below k n ≡ true → AreAbove k ms → AreAbove k (put_before n ms)
put_above k n [] h g = (h, tt)
put_above k n (m ∷ ms) h g = go (is_below n m) (put_above k n ms h g.1)
  where
    go : (b : Bool) → AreAbove k (put_before n ms) → AreAbove k (if b then n ∷ m ∷ ms else m ∷ put_before n ms)
    go true f = (h, g)
    go false f = (g.0, f)

put_rises : (n : List ℕ) (ms : List (List ℕ)) → is_name n ms ≡ false → Rise ms → Rise (put_before n ms)
put_rises n [] h g = (tt, tt)
put_rises n (m ∷ ms) h g = go (is_below n m) refl (or_none (bytes_eq n m) (is_name n ms) h) (λ k. put_rises n ms k g.1)
  where
    go : (b : Bool) → is_below n m ≡ b → (bytes_eq n m ≡ false) × (is_name n ms ≡ false) → (is_name n ms ≡ false → Rise (put_before n ms)) → Rise (if b then n ∷ m ∷ ms else m ∷ put_before n ms)
    go true e k f = ((e, still_above n m ms e g.0), g)
    go false e k f = (put_above m n ms (not_below n m e k.0) g.0, f k.1)

name_rises : (n : List ℕ) (ms : List (List ℕ)) → Rise ms → Rise (put_name n ms)
name_rises n ms g = go (is_name n ms) refl
  where
    go : (b : Bool) → is_name n ms ≡ b → Rise (if b then ms else put_before n ms)
    go true h = g
    go false h = put_rises n ms h g

pub names_rise : (ns ms : List (List ℕ)) → Rise ms → Rise (put_names ns ms)
names_rise [] ms g = g
names_rise (n ∷ ns) ms g = name_rises n (put_names ns ms) (names_rise ns ms g)

-- ---- what none of the names has

none_before : (p : List ℕ → Bool) (n : List ℕ) (ms : List (List ℕ)) → p n ≡ false → list_any p ms ≡ false → list_any p (put_before n ms) ≡ false
none_before p n [] h k = or_not (p n) false h refl
none_before p n (m ∷ ms) h k = go (is_below n m) (or_none (p m) (list_any p ms) k) (none_before p n ms h)
  where
    go : (b : Bool) → (p m ≡ false) × (list_any p ms ≡ false) → (list_any p ms ≡ false → list_any p (put_before n ms) ≡ false) → list_any p (if b then n ∷ m ∷ ms else m ∷ put_before n ms) ≡ false
    go true g f = or_not (p n) (p m || list_any p ms) h k
    go false g f = or_not (p m) (list_any p (put_before n ms)) g.0 (f g.1)

none_put : (p : List ℕ → Bool) (n : List ℕ) (ms : List (List ℕ)) → p n ≡ false → list_any p ms ≡ false → list_any p (put_name n ms) ≡ false
none_put p n ms h k = go (is_name n ms)
  where
    go : (b : Bool) → list_any p (if b then ms else put_before n ms) ≡ false
    go true = k
    go false = none_before p n ms h k

pub none_among : (p : List ℕ → Bool) (ns ms : List (List ℕ)) → list_any p ns ≡ false → list_any p ms ≡ false → list_any p (put_names ns ms) ≡ false
none_among p [] ms h k = k
none_among p (n ∷ ns) ms h k =
    let both = or_none (p n) (list_any p ns) h in
    none_put p n (put_names ns ms) both.0 (none_among p ns ms both.1 k)

pub neither_of : (p q : List ℕ → Bool) (ns : List (List ℕ)) → list_any (λ n. p n || q n) ns ≡ false → (list_any p ns ≡ false) × (list_any q ns ≡ false)
neither_of p q [] h = (refl, refl)
neither_of p q (n ∷ ns) h =
    let both = or_none (p n || q n) (list_any (λ n. p n || q n) ns) h in
    let here = or_none (p n) (q n) both.0 in
    let later = neither_of p q ns both.1 in
    (or_not (p n) (list_any p ns) here.0 later.0, or_not (q n) (list_any q ns) here.1 later.1)

pub all_outside : (rs ns ms : List (List ℕ)) → put_names (put_names rs ns) ms ≡ put_names rs (put_names ns ms)
all_outside [] ns ms = refl
all_outside (r ∷ rs) ns ms = put_outside r (put_names rs ns) ms ∙ ap (put_name r) (all_outside rs ns ms)

-- ---- a property placed

pub given_is_name : (n : List ℕ) (ps : Properties) → is_given (property_at n ps) ≡ is_name n (names_of ps)
given_is_name n no_properties = refl
given_is_name n (property m t ps) = go (bytes_eq n m) (given_is_name n ps)
  where
    go : (b : Bool) → is_given (property_at n ps) ≡ is_name n (names_of ps) → is_given (if b then the_schema t else property_at n ps) ≡ (b || is_name n (names_of ps))
    go true h = refl
    go false h = h

not_given : (m : MaybeSchema) → is_given m ≡ false → m ≡ no_schema
not_given no_schema h = refl
not_given (the_schema s) h = absurd (true≢false h)

pub nothing_at : (n : List ℕ) (ps : Properties) → is_name n (names_of ps) ≡ false → property_at n ps ≡ no_schema
nothing_at n ps h = not_given (property_at n ps) (given_is_name n ps ∙ h)

pub at_its_name : (n : List ℕ) (s : Schema) (ps : Properties) → is_name n (names_of ps) ≡ false → property_at n (put_at n s ps) ≡ the_schema s
at_its_name n s no_properties h = ap (λ b. if b then the_schema s else no_schema) ((bytes_eq-Decides n n).1 refl)
at_its_name n s (property m t ps) h = go (bytes_eq n m) (is_below n m) refl (or_none (bytes_eq n m) (is_name n (names_of ps)) h) (at_its_name n s ps)
  where
    go : (b c : Bool) → bytes_eq n m ≡ b → (bytes_eq n m ≡ false) × (is_name n (names_of ps) ≡ false) → (is_name n (names_of ps) ≡ false → property_at n (put_at n s ps) ≡ the_schema s)
        → property_at n (if b then property m t ps else if c then property n s (property m t ps) else property m t (put_at n s ps)) ≡ the_schema s
    go true c e k f = absurd (true≢false (sym e ∙ k.0))
    go false true e k f = ap (λ b. if b then the_schema s else property_at n (property m t ps)) ((bytes_eq-Decides n n).1 refl)
    go false false e k f = ap (λ b. if b then the_schema t else property_at n (put_at n s ps)) e ∙ f k.1

pub at_other : (m n : List ℕ) (s : Schema) (ps : Properties) → bytes_eq m n ≡ false → property_at m (put_at n s ps) ≡ property_at m ps
at_other m n s no_properties h = ap (λ b. if b then the_schema s else no_schema) h
at_other m n s (property l t ps) h = go (bytes_eq n l) (is_below n l) (at_other m n s ps h)
  where
    go : (b c : Bool) → property_at m (put_at n s ps) ≡ property_at m ps
        → property_at m (if b then property l t ps else if c then property n s (property l t ps) else property l t (put_at n s ps)) ≡ property_at m (property l t ps)
    go true c f = refl
    go false true f = ap (λ b. if b then the_schema s else property_at m (property l t ps)) h
    go false false f = ap (λ o. if bytes_eq m l then the_schema t else o) f

pub names_placed : (n : List ℕ) (s : Schema) (ps : Properties) → is_name n (names_of ps) ≡ false → names_of (put_at n s ps) ≡ put_before n (names_of ps)
names_placed n s no_properties h = refl
names_placed n s (property m t ps) h = go (is_below n m) (or_none (bytes_eq n m) (is_name n (names_of ps)) h) (names_placed n s ps)
  where
    go : (c : Bool) → (bytes_eq n m ≡ false) × (is_name n (names_of ps) ≡ false) → (is_name n (names_of ps) ≡ false → names_of (put_at n s ps) ≡ put_before n (names_of ps))
        → names_of (if bytes_eq n m then property m t ps else if c then property n s (property m t ps) else property m t (put_at n s ps)) ≡ (if c then n ∷ m ∷ names_of ps else m ∷ put_before n (names_of ps))
    go true k f = ap (λ b. names_of (if b then property m t ps else property n s (property m t ps))) k.0
    go false k f = ap (λ b. names_of (if b then property m t ps else property m t (put_at n s ps))) k.0 ∙ ap (λ ns. m ∷ ns) (f k.1)

-- before what is above it
pub placed_first : (n : List ℕ) (s : Schema) (m : List ℕ) (t : Schema) (ps : Properties) → is_below n m ≡ true → put_at n s (property m t ps) ≡ property n s (property m t ps)
placed_first n s m t ps h = (λ i. if below_apart n m h i then property m t ps else if h i then property n s (property m t ps) else property m t (put_at n s ps))

-- behind what is below it
pub placed_later : (n : List ℕ) (s : Schema) (m : List ℕ) (t : Schema) (ps : Properties) → is_below n m ≡ false → bytes_eq n m ≡ false → put_at n s (property m t ps) ≡ property m t (put_at n s ps)
placed_later n s m t ps h k = (λ i. if k i then property m t ps else if h i then property n s (property m t ps) else property m t (put_at n s ps))
