-- A stated default that comes to an end is taken, however many places were entered before it that don't so soon.
use Rattle.std.proofs.Common.{◌≡◌, ◌≤◌, ◌+◌, ℕ, zero, suc, List, [], ◌∷◌, length, Bool, true, false, ◌||◌, cond, refl, sym, ap, ◌∙◌, subst, true≢false, nat_eq, Some, inl, inr, arith}
use Rattle.std.specs.List.{list_any}
use Rattle.std.proofs.lemmas.Bool.Decides.{nat_tests}
use Rattle.std.proofs.lemmas.Option.{slice_get_within}
use Rattle.json_value.specs.Value.{Value}
use Rattle.schema_defs.specs.Texts.{Relations}
use Rattle.model_defs.specs.Types.{TypeModel}
use Rattle.model_defs.specs.Model.{ContainerModel, ConversionsD}
use Rattle.model_defs.specs.Settled.{default_at, or_null}
use Rattle.typed_defs.specs.Typed.{Typed}
use Rattle.reading_defs.specs.Reading.{Read, taken, stopped, unsound, value_reader, default_inside}
use Rattle.reading_defs.specs.Laws.{is_taken}
use Rattle.entry_defs.specs.Entry.{Entry}
use Rattle.entry_defs.specs.Table.{Table, items_of}
use Rattle.entry_defs.specs.Sound.{IsSound}
use Rattle.entry_defs.specs.Takes.{takes}
use Rattle.emit_defs.specs.Setting.{setting_of}
use Rattle.emit_defs.specs.Models.{conversions_of_items}
use Rattle.emit_defs.specs.Emission.{models_of}
use Rattle.default_defs.specs.Found.{Found, refused, ended, endless}
use Rattle.default_defs.specs.Supplied.{read_inside, stated_in, stated_in_targets, supplied}
use Rattle.default_defs.specs.Laws.{Agrees}
use Rattle.default_levels.proofs.Stays.{ended_stays}
use Rattle.default_defs.proofs.Taken.{found_is_taken}
use Rattle.default_laws.specs.Laws.{as_found, DefaultsAreRead, read_by_levels, AllEnd, EndedIsSound}
use Rattle.default_laws.specs.Stated.{StatedAt}
use Rattle.default_laws.proofs.AllSound.{of_items}
use Rattle.default_laws.proofs.Below.{Below, of_value}
use Rattle.default_laws.proofs.Once.{one_entry, holds_at}
use Rattle.default_laws.proofs.Standing.{stated_stands}
use Rattle.default_laws.proofs.Values.{stated_is_read, levels}

-- ---- how many places below a number aren't entered

abbrev unentered : List ℕ → ℕ → ℕ
unentered is zero = 0
unentered is (suc m) = cond (list_any (nat_eq m) is) 0 1 + unentered is m

at_most : (m : ℕ) → unentered [] m ≤ m
at_most zero = omega (arith)
at_most (suc m) =
    let less = at_most m in
    omega (arith, less)

same_place : (m n : ℕ) → nat_eq m n ≡ true → m ≡ n
same_place m n h = grind (arith, nat_tests)

-- with one more entered, no more are left
no_more : (a b : Bool) (k l : ℕ) → k ≤ l → cond (a || b) 0 1 + k ≤ cond b 0 1 + l
no_more true true k l h = omega (arith, h)
no_more true false k l h = omega (arith, h)
no_more false true k l h = omega (arith, h)
no_more false false k l h = omega (arith, h)

fewer : (n : ℕ) (is : List ℕ) (m : ℕ) → unentered (n ∷ is) m ≤ unentered is m
fewer n is zero = omega (arith)
fewer n is (suc m) = no_more (nat_eq m n) (list_any (nat_eq m) is) (unentered (n ∷ is) m) (unentered is m) (fewer n is m)

-- and one less, where it wasn't
one_fewer : (n : ℕ) (is : List ℕ) → list_any (nat_eq n) is ≡ false → (m : ℕ) → suc n ≤ m → suc (unentered (n ∷ is) m) ≤ unentered is m
one_fewer n is f zero l = absurd (omega (arith, l))
one_fewer n is f (suc m) l = by (nat_eq m n) refl (one_fewer n is f m)
  where
    skipped : (a b : Bool) (k l : ℕ) → suc k ≤ l → suc (cond (a || b) 0 1 + k) ≤ cond b 0 1 + l
    skipped true true k l h = omega (arith, h)
    skipped true false k l h = omega (arith, h)
    skipped false true k l h = omega (arith, h)
    skipped false false k l h = omega (arith, h)

    here : (b : Bool) (k l : ℕ) → b ≡ false → k ≤ l → suc (0 + k) ≤ cond b 0 1 + l
    here false k l e h = omega (arith, h)
    here true k l e h = absurd (true≢false e)

    other : (m n : ℕ) → nat_eq m n ≡ false → suc n ≤ suc m → suc n ≤ m
    other m n e h = grind (arith, nat_tests)

    by : (a : Bool) → nat_eq m n ≡ a → (suc n ≤ m → suc (unentered (n ∷ is) m) ≤ unentered is m)
        → suc (cond (nat_eq m n || list_any (nat_eq m) is) 0 1 + unentered (n ∷ is) m) ≤ cond (list_any (nat_eq m) is) 0 1 + unentered is m
    by true e rec =
        subst (λ a. suc (cond (a || list_any (nat_eq m) is) 0 1 + unentered (n ∷ is) m) ≤ cond (list_any (nat_eq m) is) 0 1 + unentered is m) (sym e)
        (here (list_any (nat_eq m) is) (unentered (n ∷ is) m) (unentered is m) (ap (λ z. list_any (nat_eq z) is) (same_place m n e) ∙ f) (fewer n is m))
    by false e rec = skipped (nat_eq m n) (list_any (nat_eq m) is) (unentered (n ∷ is) m) (unentered is m) (rec (other m n e l))

-- ---- what is taken

taken_found : (x : Read Typed) → is_taken x ≡ true → as_found x ≡ ended
taken_found (taken a) e = refl
taken_found (stopped l) e = absurd (true≢false (sym e))
taken_found unsound e = absurd (true≢false (sym e))

found_taken : (x : Read Typed) → as_found x ≡ ended → is_taken x ≡ true
found_taken (taken a) e = refl
found_taken (stopped l) e = cc
found_taken unsound e = cc

below_taken : (x y : Read Typed) → Below x y → is_taken x ≡ true → is_taken y ≡ true
below_taken x y (inl e) h = absurd (true≢false (sym h ∙ ap is_taken e))
below_taken x y (inr e) h = sym (ap is_taken e) ∙ h

-- what is read where something else is taken, and else unsound
below_so : (b : Bool) (y : Read Typed) → Below (cond b y unsound) y
below_so true y = inr refl
below_so false y = inl refl

found_so : (x y : Read Typed) (f : Found) → (f ≡ refused → ⊥) → as_found x ≡ f → (f ≡ ended → is_taken y ≡ true) → as_found (cond (is_taken x) y unsound) ≡ f
found_so (taken a) y f n e g = taken_found y (g (sym e)) ∙ e
found_so (stopped l) y f n e g = absurd (n (sym e))
found_so unsound y f n e g = e

endless_ended : endless ≡ ended → ⊥
endless_ended e = cc

refused_ended : refused ≡ ended → ⊥
refused_ended e = cc

the_same : (v w : Value) → Some v ≡ Some w → v ≡ w
the_same v w e = ap (λ o. or_null o) e

-- ---- places of a table

module _ (t : Table) (h : IsSound t) (r : Relations) (good : (n : ℕ) (e : Entry) (w : Value) (ty : TypeModel) → StatedAt t n e w ty → takes t r e w ≡ true) where
  abbrev models : List ContainerModel
  models = models_of t

  abbrev cs : ConversionsD
  cs = conversions_of_items (items_of t)

  abbrev most : ℕ
  most = length cs.defaults

  abbrev inside : ℕ → List ℕ → ℕ → TypeModel → Read Typed
  inside k is n ty = default_inside models cs r k is n ty

  -- none of the places ends within so many levels
  abbrev NoneEnds : ℕ → List ℕ → Type 0
  NoneEnds k is = (m : ℕ) (c : Entry) (u : Value) (tz : TypeModel) → list_any (nat_eq m) is ≡ true → StatedAt t m c u tz → read_inside t r k c u ≡ ended → ⊥

  -- what ends within so many levels is taken behind such places
  abbrev IsTaken : ℕ → Type 0
  IsTaken k =
      (fuel : ℕ) (is : List ℕ) → unentered is most ≤ fuel → NoneEnds k is
      → (n : ℕ) (e : Entry) (w : Value) (ty : TypeModel) → StatedAt t n e w ty → read_inside t r k e w ≡ ended → is_taken (inside fuel is n ty) ≡ true

  one_value : (n : ℕ) (e c : Entry) (w u : Value) (ty tz : TypeModel) → StatedAt t n e w ty → StatedAt t n c u tz → w ≡ u
  one_value n e c w u ty tz p q = the_same w u (sym (stated_stands t n e w ty p) ∙ stated_stands t n c u tz q)

  -- a default that doesn't end within `k` levels may be entered
  none_with : (k : ℕ) (is : List ℕ) → NoneEnds (suc k) is → (n : ℕ) (e : Entry) (w : Value) (ty : TypeModel) → StatedAt t n e w ty → (read_inside t r k e w ≡ ended → ⊥) → NoneEnds k (n ∷ is)
  none_with k is f n e w ty p late m c u tz a q g = by (nat_eq m n) refl
    where
      by : (b : Bool) → nat_eq m n ≡ b → ⊥
      by true i =
          let z = subst (λ l. StatedAt t l c u tz) (same_place m n i) q in
          late ((λ j. read_inside t r k (one_entry t n e c w u ty tz p z j) (one_value n e c w u ty tz p z j)) ∙ g)
      by false i = f m c u tz (ap (λ b. b || list_any (nat_eq m) is) (sym i) ∙ a) q ((ended_stays t r k c u).of_ended g)

  abbrev at_level : ℕ → ℕ → TypeModel → Read Typed
  at_level k m tz = read_by_levels models cs r k m tz

  module _ (k : ℕ) (rec : IsTaken k) (fuel : ℕ) (is : List ℕ) (n : ℕ) (few : unentered (n ∷ is) most ≤ fuel) (none : NoneEnds k (n ∷ is)) where
    -- each default, where it is taken at this level
    abbrev so_far : ℕ → TypeModel → Read Typed
    so_far m tz = cond (is_taken (at_level k m tz)) (inside fuel (n ∷ is) m tz) unsound

    are_read : DefaultsAreRead t (read_inside t r k) so_far
    are_read m c u tz q =
        let l = levels t h r good k m c u tz q in
        (l.0, found_so (at_level k m tz) (inside fuel (n ∷ is) m tz) (read_inside t r k c u) l.0 l.1 (λ g. rec fuel (n ∷ is) few none m c u tz q g))

    -- what is read of the default itself
    read_of : (e : Entry) (w : Value) (ty : TypeModel) → StatedAt t n e w ty → read_inside t r (suc k) e w ≡ ended
        → is_taken ((value_reader models cs r (inside fuel (n ∷ is)) (default_at models cs r n)).as_type ty) ≡ true
    read_of e w ty p g =
        let near = of_value models cs r so_far (inside fuel (n ∷ is)) (λ m tz. below_so (is_taken (at_level k m tz)) (inside fuel (n ∷ is) m tz)) (default_at models cs r n) in
        below_taken ((value_reader models cs r so_far (default_at models cs r n)).as_type ty) ((value_reader models cs r (inside fuel (n ∷ is)) (default_at models cs r n)).as_type ty) (near.of_type ty)
        (found_taken ((value_reader models cs r so_far (default_at models cs r n)).as_type ty)
        (ap (λ o. as_found ((value_reader models cs r so_far (or_null o)).as_type ty)) (stated_stands t n e w ty p)
        ∙ stated_is_read t h r (read_inside t r k) so_far are_read n e w ty p w ∙ g))

  -- what ends within one level more, and not sooner, isn't among the places, and what its default leaves out ends sooner
  entered : (k : ℕ) → IsTaken k → (fuel : ℕ) (is : List ℕ) → unentered is most ≤ fuel → NoneEnds (suc k) is
      → (n : ℕ) (e : Entry) (w : Value) (ty : TypeModel) → StatedAt t n e w ty → read_inside t r (suc k) e w ≡ ended → (read_inside t r k e w ≡ ended → ⊥)
      → list_any (nat_eq n) is ≡ false → is_taken (inside fuel is n ty) ≡ true
  entered k rec zero is l f n e w ty p g late out =
      let less = one_fewer n is out most (slice_get_within cs.defaults n w (stated_stands t n e w ty p)) in
      absurd (omega (arith, l, less))
  entered k rec (suc fuel) is l f n e w ty p g late out =
      let less = one_fewer n is out most (slice_get_within cs.defaults n w (stated_stands t n e w ty p)) in
      ap (λ b. is_taken (cond b unsound ((value_reader models cs r (inside fuel (n ∷ is)) (default_at models cs r n)).as_type ty))) out
      ∙ read_of k rec fuel is n (omega (arith, l, less)) (none_with k is f n e w ty p late) e w ty p g

  ends_now : (k : ℕ) → IsTaken k → (fuel : ℕ) (is : List ℕ) → unentered is most ≤ fuel → NoneEnds (suc k) is
      → (n : ℕ) (e : Entry) (w : Value) (ty : TypeModel) → StatedAt t n e w ty → read_inside t r (suc k) e w ≡ ended → (read_inside t r k e w ≡ ended → ⊥)
      → is_taken (inside fuel is n ty) ≡ true
  ends_now k rec fuel is l f n e w ty p g late = by (list_any (nat_eq n) is) refl
    where
      by : (b : Bool) → list_any (nat_eq n) is ≡ b → is_taken (inside fuel is n ty) ≡ true
      by true i = absurd (f n e w ty i p g)
      by false i = entered k rec fuel is l f n e w ty p g late i

  one_level_more : (k : ℕ) → IsTaken k → IsTaken (suc k)
  one_level_more k rec fuel is l f n e w ty p g = by (read_inside t r k e w) refl
    where
      by : (x : Found) → read_inside t r k e w ≡ x → is_taken (inside fuel is n ty) ≡ true
      by ended i = rec fuel is l (λ m c u tz a q z. f m c u tz a q ((ended_stays t r k c u).of_ended z)) n e w ty p i
      by refused i = ends_now k rec fuel is l f n e w ty p g (λ z. refused_ended (sym i ∙ z))
      by endless i = ends_now k rec fuel is l f n e w ty p g (λ z. endless_ended (sym i ∙ z))

  all_taken : (k : ℕ) → IsTaken k
  all_taken zero fuel is l f n e w ty p g = absurd (endless_ended g)
  all_taken (suc k) fuel is l f n e w ty p g = one_level_more k (all_taken k) fuel is l f n e w ty p g

  -- where no place is entered yet
  at_first : (k n : ℕ) (e : Entry) (w : Value) (ty : TypeModel) → StatedAt t n e w ty → read_inside t r k e w ≡ ended → is_taken (inside most [] n ty) ≡ true
  at_first k n e w ty p g = all_taken k most [] (at_most most) (λ m c u tz a q z. true≢false (sym a)) n e w ty p g

-- what ends is taken by its entry
all_good : (t : Table) (r : Relations) → AllEnd t r → (n : ℕ) (e : Entry) (w : Value) (ty : TypeModel) → StatedAt t n e w ty → takes t r e w ≡ true
all_good t r ends n e w ty p =
    subst (λ z. Agrees z (takes t r e w)) (holds_at (λ c u. supplied t r c u ≡ ended) t ends n e w ty p)
    (found_is_taken t r (read_inside t r (stated_in_targets t.targets + stated_in e)) w e)

pub ended_is_sound : EndedIsSound
ended_is_sound t h r ends =
    of_items (setting_of t) (models_of t) (conversions_of_items (items_of t)) r 0 (items_of t)
    (λ n e w ty p. at_first t h r (all_good t r ends) (suc (stated_in_targets t.targets + stated_in e)) n e w ty p (holds_at (λ c u. supplied t r c u ≡ ended) t ends n e w ty p))
