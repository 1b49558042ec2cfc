-- Lifetimes in a set, by name.
use Rattle.std.proofs.Common.{◌≡◌, ◌≢◌, ℕ, List, [], ◌∷◌, ◌++◌, ◌||◌, Bool, true, false, not, Some, None, map, take, drop, codes, true≢false, refl, ap, sym, ◌∙◌, append_assoc, length, arith}
use Rattle.std.specs.Prelude.{Option}
use Rattle.std.specs.List.{list_any}
use Rattle.std.specs.Str.{bytes_eq}
use Rattle.std.specs.declared.cmp.Ordering.{Ordering}
use Rattle.std.specs.declared.cmp.Ordering.TheVariants.{Less, Equal, Greater}
use Rattle.std.specs.Ordering.{match_ordering, nat_cmp, is_eq}
use Rattle.std.specs.BTreeMap.{is_at}
use Rattle.std.specs.BTreeSet.{BTreeSet, keys, btree_set_len, insert_key}
use Rattle.std.specs.Cmp.Lexicographic.{slice_cmp}
use Rattle.std.proofs.lemmas.Map.Text.{is_eq-slice_cmp}
use Rattle.std.proofs.lemmas.Slice.Eq.{bytes_eq-Decides}
use Rattle.token_trees.specs.declared.token.Span.{Span}
use Rattle.token_trees.specs.Token.{Name}
use Rattle.syntax_trees.specs.Syntax.{LifetimeD}
use Rattle.syntax_trees.specs.Item.{FieldD}
use Rattle.syntax_trees.specs.View.{lifetime_view}
use Rattle.syntax_trees.specs.declared.tree.Lifetime.{Lifetime}
use Rattle.attr_parts.specs.Lifetimes.{lifetimes, lifetime_cmp, added}
use Rattle.attr_parts.specs.Lifetimes as types
use Rattle.attr_parts.proofs.Added.{by_name}
use Rattle.attr_parts.specs.Diagnostics.{lacks_lifetime, no_lifetimes}
use Rattle.attr_parts.specs.Places.{place_of, field_spans}
use Rattle.attr_defs.specs.Acts.{ActD, sets, are_lifetimes}
use Rattle.attr_defs.specs.Borrows.{has_lifetime, set_of, lacks_told, told_where, lifetime_text, field_borrow, borrow_held}
use Rattle.attr_defs.specs.Owners.{whole, told_at}

same_text : (a b : List ℕ) → bytes_eq a b ≡ bytes_eq b a
same_text a b = by (bytes_eq a b) (bytes_eq b a) refl refl where
  by : (p q : Bool) → bytes_eq a b ≡ p → bytes_eq b a ≡ q → p ≡ q
  by true true e f = refl
  by false false e f = refl
  by true false e f = sym (sym f ∙ (bytes_eq-Decides b a).1 (sym ((bytes_eq-Decides a b).0 e)))
  by false true e f = sym e ∙ (bytes_eq-Decides a b).1 (sym ((bytes_eq-Decides b a).0 f))

or_swap : (a b c : Bool) → (a || (b || c)) ≡ (b || (a || c))
or_swap true true c = refl
or_swap true false c = refl
or_swap false b c = refl

or_same : (a c : Bool) → (a || c) ≡ (a || (a || c))
or_same true c = refl
or_same false c = refl

or_false : (a : Bool) → (a || false) ≡ a
or_false true = refl
or_false false = refl

or_turn : (a b c : Bool) → (a || (b || c)) ≡ ((b || a) || c)
or_turn true true c = refl
or_turn true false c = refl
or_turn false true c = refl
or_turn false false c = refl

same_name : (k x : LifetimeD) → lifetime_cmp k x ≡ Equal → k.name.text ≡ x.name.text
same_name k x e = (bytes_eq-Decides k.name.text x.name.text).0 (sym (is_eq-slice_cmp k.name.text x.name.text) ∙ ap is_eq e)

has_placed : (xs ys : List LifetimeD) (k x l : LifetimeD) → has_lifetime ys l ≡ (bytes_eq k.name.text l.name.text || has_lifetime xs l) → (o : Ordering) → lifetime_cmp k x ≡ o
    → has_lifetime (match_ordering o (k ∷ x ∷ xs) (x ∷ xs) (x ∷ ys)) l ≡ (bytes_eq k.name.text l.name.text || (bytes_eq x.name.text l.name.text || has_lifetime xs l))
has_placed xs ys k x l h Less e = refl
has_placed xs ys k x l h Equal e =
    or_same (bytes_eq x.name.text l.name.text) (has_lifetime xs l)
    ∙ ap (λ n. bytes_eq n l.name.text || (bytes_eq x.name.text l.name.text || has_lifetime xs l)) (sym (same_name k x e))
has_placed xs ys k x l h Greater e =
    ap (λ b. bytes_eq x.name.text l.name.text || b) h ∙ or_swap (bytes_eq x.name.text l.name.text) (bytes_eq k.name.text l.name.text) (has_lifetime xs l)

-- what a set with one more has
has_insert : (xs : List LifetimeD) (k l : LifetimeD) → has_lifetime (insert_key lifetime_cmp xs k) l ≡ (bytes_eq k.name.text l.name.text || has_lifetime xs l)
has_insert [] k l = refl
has_insert (x ∷ xs) k l = has_placed xs (insert_key lifetime_cmp xs k) k x l (has_insert xs k l) (lifetime_cmp k x) refl

has_added : (old ls : List LifetimeD) (l : LifetimeD) → has_lifetime (added old ls) l ≡ (has_lifetime ls l || has_lifetime old l)
has_added old [] l = refl
has_added old (k ∷ ls) l =
    has_added (insert_key lifetime_cmp old k) ls l
    ∙ ap (λ b. has_lifetime ls l || b) (has_insert old k l)
    ∙ or_turn (has_lifetime ls l) (bytes_eq k.name.text l.name.text) (has_lifetime old l)

-- a set has the lifetimes that it is made of
pub has_set : (ls : List LifetimeD) (l : LifetimeD) → has_lifetime (set_of ls) l ≡ has_lifetime ls l
has_set ls l = has_added [] ls l ∙ or_false (has_lifetime ls l)

lacks_same : (f : FieldD) (n : Name) (a b ls : List LifetimeD) → ((l : LifetimeD) → has_lifetime a l ≡ has_lifetime b l) → lacks_told f n a ls ≡ lacks_told f n b ls
lacks_same f n a b [] h = refl
lacks_same f n a b (l ∷ ls) h =
    let k = lacks_lifetime n.text (lifetime_text l) in
    let at = place_of (field_spans f) in
    ap (λ c. told_where (not c) k at ++ lacks_told f n a ls) (h l) ∙ ap (λ us. told_where (not (has_lifetime b l)) k at ++ us) (lacks_same f n a b ls h)

pub lacks_set : (f : FieldD) (n : Name) (held ls : List LifetimeD) → lacks_told f n (set_of held) ls ≡ lacks_told f n held ls
lacks_set f n held ls = lacks_same f n (set_of held) held ls (has_set held)

-- whether a set has a lifetime by name
pub is_there : (xs : List Lifetime) (l : Lifetime) → list_any (is_at (by_name l)) xs ≡ has_lifetime (map lifetime_view xs) (lifetime_view l)
is_there [] l = refl
is_there (x ∷ xs) l =
    let t = (lifetime_view l).name.text in
    let u = (lifetime_view x).name.text in
    ap (λ b. b || list_any (is_at (by_name l)) xs) (is_eq-slice_cmp t u ∙ same_text t u) ∙ ap (λ b. bytes_eq u t || b) (is_there xs l)

-- a set of some is not empty
not_empty : (x : LifetimeD) (xs : List LifetimeD) → set_of (x ∷ xs) ≡ [] → ⊥
not_empty x xs h =
    let t : has_lifetime (set_of (x ∷ xs)) x ≡ true = has_set (x ∷ xs) x ∙ ap (λ b. b || has_lifetime xs x) ((bytes_eq-Decides x.name.text x.name.text).1 refl) in
    let f : has_lifetime (set_of (x ∷ xs)) x ≡ false = ap (λ ls. has_lifetime ls x) h in
    true≢false (sym t ∙ f)

pub is_some : (ls : List LifetimeD) → set_of ls ≢ [] → ls ≢ []
is_some ls h e = h (ap set_of e)

-- what a field borrows, where its type has lifetimes
pub held_all : (f : FieldD) (n : Name) (at : Span) → types.lifetimes_of f.ty ≢ [] → field_borrow f n at None ≡ sets (whole (codes "borrow")) at (are_lifetimes (set_of (types.lifetimes_of f.ty))) ∷ []
held_all f n at h = by (types.lifetimes_of f.ty) h where
  by : (ls : List LifetimeD) → ls ≢ [] → borrow_held f n at ls None ≡ sets (whole (codes "borrow")) at (are_lifetimes (set_of ls)) ∷ []
  by [] k = absurd (k refl)
  by (x ∷ xs) k = refl

pub held_given : (f : FieldD) (n : Name) (at : Span) (ls : List LifetimeD) → types.lifetimes_of f.ty ≢ []
    → field_borrow f n at (Some ls) ≡ lacks_told f n (set_of (types.lifetimes_of f.ty)) ls ++ sets (whole (codes "borrow")) at (are_lifetimes ls) ∷ []
held_given f n at ls h = by (types.lifetimes_of f.ty) h where
  by : (hs : List LifetimeD) → hs ≢ [] → borrow_held f n at hs (Some ls) ≡ lacks_told f n (set_of hs) ls ++ sets (whole (codes "borrow")) at (are_lifetimes ls) ∷ []
  by [] k = absurd (k refl)
  by (x ∷ xs) k = ap (λ l. l ++ sets (whole (codes "borrow")) at (are_lifetimes ls) ∷ []) (sym (lacks_set f n (x ∷ xs) ls))

-- those that the field lacks are told, and then those that are given are set
pub held_told : (f : FieldD) (n : Name) (at : Span) (held ls : List LifetimeD) (old mid new : List ActD) → held ≡ set_of (types.lifetimes_of f.ty) → types.lifetimes_of f.ty ≢ []
    → mid ≡ old ++ lacks_told f n held ls → new ≡ mid ++ sets (whole (codes "borrow")) at (are_lifetimes ls) ∷ [] → new ≡ old ++ field_borrow f n at (Some ls)
held_told f n at held ls old mid new h k e g =
    let set = sets (whole (codes "borrow")) at (are_lifetimes ls) ∷ [] in
    g ∙ ap (λ l. l ++ set) e ∙ append_assoc old (lacks_told f n held ls) set ∙ ap (λ hs. old ++ (lacks_told f n hs ls ++ set)) h ∙ ap (λ l. old ++ l) (sym (held_given f n at ls k))

-- and where it has none
pub held_none : (f : FieldD) (n : Name) (at : Span) (o : Option (List LifetimeD)) → set_of (types.lifetimes_of f.ty) ≡ [] → field_borrow f n at o ≡ told_at (no_lifetimes n.text) (place_of (field_spans f))
held_none f n at o h = by (types.lifetimes_of f.ty) h where
  by : (hs : List LifetimeD) → set_of hs ≡ [] → borrow_held f n at hs o ≡ told_at (no_lifetimes n.text) (place_of (field_spans f))
  by [] k = refl
  by (x ∷ xs) k = absurd (not_empty x xs k)

none_there : {X : Type 0} → (xs : List X) → length xs ≡ 0 → xs ≡ []
none_there [] h = refl
none_there (x ∷ xs) h = absurd (omega arith)

pub nothing_held : (f : FieldD) (n : Name) (at : Span) (o : Option (List LifetimeD)) (held : BTreeSet Lifetime) (old new : List ActD) → lifetimes held ≡ set_of (types.lifetimes_of f.ty) → btree_set_len held ≡ 0
    → new ≡ old ++ told_at (no_lifetimes n.text) (place_of (field_spans f)) → new ≡ old ++ field_borrow f n at o
nothing_held f n at o held old new h z e =
    e ∙ ap (λ l. old ++ l) (sym (held_none f n at o (sym h ∙ ap (map lifetime_view) (none_there (keys held) z))))
