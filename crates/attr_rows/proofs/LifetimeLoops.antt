-- Lifetimes that go into a set one after the other, and what is told on the way.
use Rattle.std.proofs.Common.{◌≡◌, ℕ, ◌+◌, ◌<◌, List, [], ◌∷◌, ◌++◌, map, take, drop, length, get_or, Less, Greater, nat_cmp, string_cmp, refl, ap, sym, ◌∙◌, append_assoc}
use Rattle.std.specs.BTreeSet.{insert_key}
use Rattle.std.specs.Cmp.Lexicographic.{slice_cmp}
use Rattle.std.specs.List.{AllByRecursion}
use Rattle.std.specs.List.Sorted.{IsStrictlySortedBy}
use Rattle.std.specs.Ordering.{match_ordering, ordering_reverse}
use Rattle.std.proofs.lemmas.Cmp.{nat_list_cmp_total}
use Rattle.std.proofs.lemmas.List.{map-append, take_more}
use Rattle.token_trees.specs.declared.token.Span.{Span}
use Rattle.syntax_trees.specs.Syntax.{LifetimeD}
use Rattle.syntax_trees.specs.View.{lifetime_view}
use Rattle.syntax_trees.specs.declared.tree.Lifetime.{Lifetime}
use Rattle.attr_parts.specs.Lifetimes.{lifetime_cmp, added}
use Rattle.attr_parts.specs.Diagnostics.{repeated_lifetime}
use Rattle.attr_parts.proofs.Added.{by_name, added_append}
use Rattle.attr_defs.specs.Acts.{ActD}
use Rattle.attr_defs.specs.Borrows.{has_lifetime, set_of, told_where, repeats_told, lifetime_text}
use Rattle.attr_rows.proofs.LifetimeSets.{has_set}

-- mapped elements up to one, and that one
pub mapped_take : {X Y : Type 0} → (f : X → Y) (xs : List X) (i : ℕ) (x : X) → i < length xs → x ≡ get_or xs i x → map f (take (i + 1) xs) ≡ map f (take i xs) ++ f x ∷ []
mapped_take f xs i x h e =
    ap (map f) (take_more xs i x h) ∙ map-append f (take i xs) (get_or xs i x ∷ []) ∙ ap (λ y. map f (take i xs) ++ f y ∷ []) (sym e)

-- one more of a list goes in
pub set_on : (old new all rest whole : List LifetimeD) (x y : LifetimeD) → added old all ≡ whole → all ≡ x ∷ rest → new ≡ insert_key lifetime_cmp old y → y ≡ x → added new rest ≡ whole
set_on old new all rest whole x y h e n v =
    ap (λ o. added o rest) (n ∙ ap (insert_key lifetime_cmp old) v) ∙ ap (added old) (sym e) ∙ h

-- a set with one more is the set of those before and that one
pub held_on : (done more held new : List LifetimeD) (x : LifetimeD) → held ≡ set_of done → more ≡ done ++ x ∷ [] → new ≡ insert_key lifetime_cmp held x → new ≡ set_of more
held_on done more held new x h e n =
    n ∙ ap (λ s. insert_key lifetime_cmp s x) h ∙ sym (added_append [] done (x ∷ [])) ∙ ap set_of (sym e)

-- one that stands among those before it is told
pub repeats_on : (at : Span) (done more held all rest : List LifetimeD) (x : LifetimeD) (now new whole : List ActD)
    → held ≡ set_of done → now ++ repeats_told at done all ≡ whole → all ≡ x ∷ rest → more ≡ done ++ x ∷ [] → new ≡ now ++ told_where (has_lifetime held x) (repeated_lifetime (lifetime_text x)) at
    → new ++ repeats_told at more rest ≡ whole
repeats_on at done more held all rest x now new whole s h e m n =
    let k = repeated_lifetime (lifetime_text x) in
    let one = told_where (has_lifetime done x) k at in
    let left = repeats_told at (done ++ x ∷ []) rest in
    ap (λ d. new ++ repeats_told at d rest) m
    ∙ ap (λ l. l ++ left) (n ∙ ap (λ b. now ++ told_where b k at) (ap (λ ls. has_lifetime ls x) s ∙ has_set done x))
    ∙ append_assoc now one left
    ∙ ap (λ us. now ++ repeats_told at done us) (sym e)
    ∙ h

-- what comes first is below what comes later
below_later : (k : Lifetime) (ks : List Lifetime) (j : Lifetime) (more : List Lifetime) → AllByRecursion (λ y. by_name k y ≡ Less) (ks ++ j ∷ more) → by_name k j ≡ Less
below_later k [] j more h = h.0
below_later k (x ∷ ks) j more h = below_later k ks j more h.1

above_first : (a b : List ℕ) → slice_cmp nat_cmp a b ≡ Less → slice_cmp nat_cmp b a ≡ Greater
above_first a b h = nat_list_cmp_total.antisymm b a ∙ ap ordering_reverse h

-- one that is above all others goes last
pub goes_last : (done : List Lifetime) (e : Lifetime) (more : List Lifetime) → IsStrictlySortedBy by_name (done ++ e ∷ more) → insert_key lifetime_cmp (map lifetime_view done) (lifetime_view e) ≡ map lifetime_view (done ++ e ∷ [])
unfolding IsStrictlySortedBy
goes_last [] e more sorted = refl
goes_last (d ∷ ds) e more sorted =
    let x = lifetime_view e in
    let y = lifetime_view d in
    let zs = map lifetime_view ds in
    let above : lifetime_cmp x y ≡ Greater = above_first y.name.text x.name.text (below_later d ds e more sorted.0) in
    ap (λ o. match_ordering o (x ∷ y ∷ zs) (y ∷ zs) (y ∷ insert_key lifetime_cmp zs x)) above ∙ ap (λ t. y ∷ t) (goes_last ds e more sorted.1)
