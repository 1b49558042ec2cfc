-- How outcomes that meet what is wanted are put together.
use Rattle.std.proofs.Common.{◌≡◌, List, [], ◌∷◌, ◌++◌, Bool, true, false, ◌&&◌, ◌||◌, Option, Some, None, refl, sym, ◌∙◌, subst, true≢false}
use Rattle.std.specs.List.{list_all}
use Rattle.schema_defs.specs.Layer.{if_given}
use Rattle.merge_defs.specs.Outcome.{Outcome, fault, never, answer, Note, Way, narrowed, widened, Kind, both_ways, has_way, same_way, noted, and_then, mapped, never_unless, or_else, where_both}
use Rattle.merge_laws.specs.Laws.{Meets, Given}

-- ---- booleans

pub no_no : {A : Type 0} → false ≡ true → A
no_no e = absurd (true≢false (sym e))

pub yes_no : {A : Type 0} (b : Bool) → b ≡ false → b ≡ true → A
yes_no b f t = no_no (sym f ∙ t)

pub and-1 : (a b : Bool) → (a && b) ≡ true → a ≡ true
and-1 true b h = refl
and-1 false b h = h

pub and-2 : (a b : Bool) → (a && b) ≡ true → b ≡ true
and-2 true b h = h
and-2 false b h = no_no h

pub and-in : (a b : Bool) → a ≡ true → b ≡ true → (a && b) ≡ true
and-in true b h k = k
and-in false b h k = h

pub or-1 : (a b : Bool) → (a || b) ≡ false → a ≡ false
or-1 true b h = h
or-1 false b h = refl

pub or-2 : (a b : Bool) → (a || b) ≡ false → b ≡ false
or-2 true b h = no_no (sym h)
or-2 false b h = h

-- ---- notes

pub has_way-append : (w : Way) (ns ms : List Note) → has_way w (ns ++ ms) ≡ (has_way w ns || has_way w ms)
has_way-append w [] ms = refl
has_way-append w (n ∷ ns) ms = cases (same_way w n.way) _ _ _ (has_way-append w ns ms)
  where
    cases : (a b c d : Bool) → d ≡ (b || c) → (a || d) ≡ ((a || b) || c)
    cases true b c d h = refl
    cases false b c d h = h

pub no_way-1 : (w : Way) (ns ms : List Note) → has_way w (ns ++ ms) ≡ false → has_way w ns ≡ false
no_way-1 w ns ms h = or-1 _ (has_way w ms) (sym (has_way-append w ns ms) ∙ h)

pub no_way-2 : (w : Way) (ns ms : List Note) → has_way w (ns ++ ms) ≡ false → has_way w ms ≡ false
no_way-2 w ns ms h = or-2 (has_way w ns) _ (sym (has_way-append w ns ms) ∙ h)

-- ---- outcomes

-- notes may be added
pub meets-noted : {A : Type 0} (P : A → Type 0) (w : Bool) (h : A → Bool) (ns : List Note) (o : Outcome A) → Meets P w h o → Meets P w h (noted ns o)
meets-noted P w h ns (fault f) m = tt
meets-noted P w h ns (never ms) m = λ n. m (no_way-2 narrowed ns ms n)
meets-noted P w h ns (answer ms a) m = (m.0, λ n. m.1 (no_way-2 narrowed ns ms n), λ n. m.2 (no_way-2 widened ns ms n))

-- a note of each way says all
abbrev pub Always : {A : Type 0} → (A → Type 0) → Outcome A → Type 0
Always P (fault f) = Unit {0}
Always P (never ns) = Unit {0}
Always P (answer ns a) = P a

pub meets-both_ways : {A : Type 0} (P : A → Type 0) (w : Bool) (h : A → Bool) (k : Kind) (o : Outcome A) → Always P o → Meets P w h (noted (both_ways k) o)
meets-both_ways P w h k (fault f) m = tt
meets-both_ways P w h k (never ms) m = λ n. yes_no true n refl
meets-both_ways P w h k (answer ms a) m = (m, λ n. yes_no true n refl, λ n. yes_no true n refl)

pub always-meets : {A : Type 0} (P : A → Type 0) (w : Bool) (h : A → Bool) (o : Outcome A) → Meets P w h o → Always P o
always-meets P w h (fault f) m = tt
always-meets P w h (never ns) m = tt
always-meets P w h (answer ns a) m = m.0

-- what is wanted, said otherwise
pub meets-wanted : {A : Type 0} (P : A → Type 0) (w w' : Bool) (h : A → Bool) (o : Outcome A) → w ≡ w' → Meets P w h o → Meets P w' h o
meets-wanted P w w' h o e m = subst (λ x. Meets P x h o) e m

-- one step after another
pub meets-then : {A B : Type 0} (P : A → Type 0) (Q : B → Type 0) (w : Bool) (h : A → Bool) (g : B → Bool) (o : Outcome A) (k : A → Outcome B)
    → Meets P w h o → ((a : A) → P a → Meets Q (h a) g (k a)) → Meets Q w g (and_then o k)
meets-then P Q w h g (fault f) k m n = tt
meets-then P Q w h g (never ns) k m n = m
meets-then P Q w h g (answer ns a) k m n = go (k a) (n a m.0)
  where
    go : (o : Outcome _) → Meets Q (h a) g o → Meets Q w g (noted ns o)
    go (fault f) l = tt
    go (never ms) l = λ e t. l (no_way-2 narrowed ns ms e) (m.1 (no_way-1 narrowed ns ms e) t)
    go (answer ms b) l = (
      l.0,
      λ e t. l.1 (no_way-2 narrowed ns ms e) (m.1 (no_way-1 narrowed ns ms e) t),
      λ e t. m.2 (no_way-1 widened ns ms e) (l.2 (no_way-2 widened ns ms e) t),
    )

pub meets-mapped : {A B : Type 0} (P : A → Type 0) (Q : B → Type 0) (w : Bool) (h : A → Bool) (g : B → Bool) (f : A → B) (o : Outcome A)
    → Meets P w h o → ((a : A) → P a → Q (f a)) → ((a : A) → P a → g (f a) ≡ h a) → Meets Q w g (mapped f o)
meets-mapped P Q w h g f (fault e) m p q = tt
meets-mapped P Q w h g f (never ns) m p q = m
meets-mapped P Q w h g f (answer ns a) m p q = (p a m.0, λ e t. q a m.0 ∙ m.1 e t, λ e t. m.2 e (sym (q a m.0) ∙ t))

-- an answer that says just what is wanted
pub meets-exactly : {A : Type 0} (P : A → Type 0) (w : Bool) (h : A → Bool) (ns : List Note) (a : A) → P a → h a ≡ w → Meets P w h (answer ns a)
meets-exactly P w h ns a p e = (p, λ n t. e ∙ t, λ n t. sym e ∙ t)

-- never, marked where nothing says that none is wanted
pub meets-never : {A : Type 0} (P : A → Type 0) (w : Bool) (h : A → Bool) (b : Bool) (k : Kind) → (b ≡ true → w ≡ true → ⊥) → Meets P w h (never_unless b k)
meets-never P w h true k n = λ e. n refl
meets-never P w h false k n = λ e. yes_no true e refl

-- never as something that holds nowhere
pub meets-or_else : {A : Type 0} (P : A → Type 0) (w : Bool) (h : A → Bool) (d : A) (o : Outcome A) → P d → h d ≡ false → Meets P w h o → Meets P w h (or_else d o)
meets-or_else P w h d (fault f) p e m = tt
meets-or_else P w h d (never ns) p e m = (p, λ n t. absurd (m n t), λ n t. yes_no (h d) e t)
meets-or_else P w h d (answer ns a) p e m = m

-- in a context
pub meets-in : {A : Type 0} (P : A → Type 0) (c w : Bool) (h : A → Bool) (o : Outcome A) → Meets P w h o → Meets P (c && w) (λ a. c && h a) o
meets-in P c w h (fault f) m = tt
meets-in P c w h (never ns) m = λ n t. m n (and-2 c w t)
meets-in P c w h (answer ns a) m = (m.0, λ n t. and-in c _ (and-1 c w t) (m.1 n (and-2 c w t)), λ n t. and-in c w (and-1 c _ t) (m.2 n (and-2 c _ t)))

-- one step of several, in a context that grows
pub meets-step : {A B : Type 0} (P : A → Type 0) (Q : B → Type 0) (c w v : Bool) (h : A → Bool) (g : B → Bool) (o : Outcome A) (k : A → Outcome B)
    → Meets P (c && w) (λ a. c && h a) o → ((a : A) → P a → Meets Q ((c && h a) && v) g (k a)) → Meets Q (c && (w && v)) g (and_then o k)
meets-step P Q c w v h g o k m n =
    meets-wanted Q ((c && w) && v) (c && (w && v)) g (and_then o k) (assoc c w v)
    (meets-then P Q ((c && w) && v) (λ a. (c && h a) && v) g o k (beside o m) n)
  where
    assoc : (a b d : Bool) → ((a && b) && d) ≡ (a && (b && d))
    assoc true b d = refl
    assoc false b d = refl

    beside : (o : Outcome _) → Meets P (c && w) (λ a. c && h a) o → Meets P ((c && w) && v) (λ a. (c && h a) && v) o
    beside (fault f) m = tt
    beside (never ns) m = λ n t. m n (and-1 _ v t)
    beside (answer ns a) m = (m.0, λ n t. and-in _ v (m.1 n (and-1 _ v t)) (and-2 (c && w) v t), λ n t. and-in (c && w) v (m.2 n (and-1 _ v t)) (and-2 (c && h a) v t))

-- what stands on one side alone stays
pub meets-where_both : {A : Type 0} (P : A → Type 0) (c : Bool) (h : A → Bool) (f : A → A → Outcome (Option A)) (x y : Option A)
    → Given P x → Given P y
    → ((a b : A) → P a → P b → Meets (Given P) (c && (h a && h b)) (λ o. c && if_given h o) (f a b))
    → Meets (Given P) (c && (if_given h x && if_given h y)) (λ o. c && if_given h o) (where_both f x y)
meets-where_both P c h f None y p q m = meets-exactly (Given P) (c && if_given h y) (λ o. c && if_given h o) [] y q refl
meets-where_both P c h f (Some x) None p q m = meets-exactly (Given P) (c && (h x && true)) (λ o. c && if_given h o) [] (Some x) p (right c (h x))
  where
    right : (a b : Bool) → (a && b) ≡ (a && (b && true))
    right true true = refl
    right true false = refl
    right false b = refl
meets-where_both P c h f (Some x) (Some y) p q m = m x y p q

-- the same, said otherwise
pub meets-said : {A : Type 0} (P Q : A → Type 0) (w w' : Bool) (h h' : A → Bool) (o : Outcome A) → Meets P w h o → ((a : A) → P a → Q a) → w ≡ w' → ((a : A) → P a → h a ≡ h' a) → Meets Q w' h' o
meets-said P Q w w' h h' (fault f) m q e g = tt
meets-said P Q w w' h h' (never ns) m q e g = λ n t. m n (e ∙ t)
meets-said P Q w w' h h' (answer ns a) m q e g = (q a m.0, λ n t. sym (g a m.0) ∙ m.1 n (e ∙ t), λ n t. sym e ∙ m.2 n (g a m.0 ∙ t))

-- two facts of one outcome
pub meets-and : {A : Type 0} (P : A → Type 0) (w w' : Bool) (h h' : A → Bool) (o : Outcome A) → Meets P w h o → Meets P w' h' o → Meets P (w && w') (λ a. h a && h' a) o
meets-and P w w' h h' (fault f) m n = tt
meets-and P w w' h h' (never ns) m n = λ e t. m e (and-1 w w' t)
meets-and P w w' h h' (answer ns a) m n = (m.0, λ e t. and-in (h a) (h' a) (m.1 e (and-1 w w' t)) (n.1 e (and-2 w w' t)), λ e t. and-in w w' (m.2 e (and-1 (h a) (h' a) t)) (n.2 e (and-2 (h a) (h' a) t)))

-- an outcome that is not never
abbrev pub IsSettled : {A : Type 0} → Outcome A → Type 0
IsSettled (never ns) = ⊥
IsSettled _ = Unit {0}

pub settled-or_else : {A : Type 0} (d : A) (o : Outcome A) → IsSettled (or_else d o)
settled-or_else d (fault f) = tt
settled-or_else d (never ns) = tt
settled-or_else d (answer ns a) = tt

-- where nothing is asked
pub meets-nothing : {A : Type 0} (P : A → Type 0) (b : Bool) (o : Outcome A) → IsSettled o → Always P o → Meets P b (λ a. b) o
meets-nothing P b (fault f) s p = tt
meets-nothing P b (never ns) s p = absurd s
meets-nothing P b (answer ns a) s p = (p, λ e t. t, λ e t. t)

abbrev pub Each : {A : Type 0} → (A → Type 0) → List A → Type 0
Each Q [] = Unit {0}
Each Q (x ∷ xs) = Q x × Each Q xs

-- a fact of each of several
pub meets-all : {A M : Type 0} (P : A → Type 0) (Q : M → Type 0) (w : M → Bool) (h : M → A → Bool) (o : Outcome A) → IsSettled o → Always P o
    → ((m : M) → Q m → Meets P (w m) (h m) o) → (ms : List M) → Each Q ms → Meets P (list_all w ms) (λ a. list_all (λ m. h m a) ms) o
meets-all P Q w h o s p k [] q = meets-nothing P true o s p
meets-all P Q w h o s p k (m ∷ ms) q = meets-and P (w m) (list_all w ms) (h m) (λ a. list_all (λ m. h m a) ms) o (k m q.0) (meets-all P Q w h o s p k ms q.1)
