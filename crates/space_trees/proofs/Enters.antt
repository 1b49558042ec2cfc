-- What it does to a space that one entry is entered, or an item opened.
use Rattle.std.proofs.Common.{◌≡◌, ℕ, List, [], ◌∷◌, ◌++◌, map, length, Bool, true, false, Some, None, refl, sym, ap, subst, ◌∙◌, bytes_eq, append_assoc, append-nil}
use Rattle.std.specs.List.{list_any, IsDistinct}
use Rattle.std.proofs.lemmas.List.{map-append}
use Rattle.entry_defs.specs.Entry.{Target, Entry}
use Rattle.entry_defs.specs.Space.{Id, newtype_shape_at, EntryAt, item_at, Space, entry_at, Holds}
use Rattle.entry_defs.specs.Table.{ItemEntry}
use Rattle.entry_defs.proofs.Space.{trees_stay}
use Rattle.space_defs.specs.Ordered.{parts_of, AreBelow, PartsAreLower}
use Rattle.entry_space.specs.Keys.{same_key, no_shape}
use Rattle.entry_space.specs.Entered.{entered, filled}
use Rattle.entry_space.specs.Laws.{is_open}
use Rattle.entry_space.proofs.Grown.{entered-there, entered-new}
use Rattle.space_trees.specs.Names.{item_names}
use Rattle.space_trees.specs.Placed.{place_of, put, opened}
use Rattle.space_trees.proofs.Places.{names-append, any-name, at-more, at-end, filled-end, lower-end, is_item, no-name, exact-at, place-found, place-new}
use Rattle.space_trees.proofs.Distinct.{front, away}

abbrev pub names_of : List ItemEntry → List (List ℕ)
names_of xs = map (λ x. x.name) xs

-- what was there stays, the items come in order at the end, and parts lie lower
pub record Enters (s t : Space) (xs : List ItemEntry) : Type 0 where
  pub more : Space
  pub grown : t ≡ s ++ more
  pub named : item_names t ≡ item_names s ++ names_of xs
  pub lower : PartsAreLower s → PartsAreLower t

pub enters-none : (s : Space) → Enters s s []
enters-none s = record { more = []; grown = sym (append-nil s); named = sym (append-nil (item_names s)); lower = λ h. h }

pub enters-both : (s t u : Space) (xs ys : List ItemEntry) → Enters s t xs → Enters t u ys → Enters s u (xs ++ ys)
enters-both s t u xs ys a b = record {
  more = a.more ++ b.more;
  grown = b.grown ∙ ap (λ z. z ++ b.more) a.grown ∙ append_assoc s a.more b.more;
  named =
      b.named ∙ ap (λ z. z ++ names_of ys) a.named ∙ append_assoc (item_names s) (names_of xs) (names_of ys)
      ∙ ap (λ z. item_names s ++ z) (sym (map-append (λ (x : ItemEntry). x.name) xs ys));
  lower = λ h. b.lower (a.lower h);
}

pub enters-then : (s t u : Space) (xs : List ItemEntry) → Enters s t xs → Enters t u [] → Enters s u xs
enters-then s t u xs a b = subst (Enters s u) (append-nil xs) (enters-both s t u xs [] a b)

pub stays-at : (s t : Space) (xs : List ItemEntry) (i : Id) (e : EntryAt) → Enters s t xs → entry_at s i ≡ Some e → entry_at t i ≡ Some e
stays-at s t xs i e a h = ap (λ z. entry_at z i) a.grown ∙ at-more s a.more i e h

abbrev pub Keeps : (Target → Id → Bool) → Space → Space → Type 0
Keeps leads s t = (e : Entry) (i : Id) → Holds leads s e i → Holds leads t e i

pub keeps : (leads : Target → Id → Bool) (s t : Space) (xs : List ItemEntry) → Enters s t xs → Keeps leads s t
keeps leads s t xs a e i h = subst (λ z. Holds leads z e i) (sym a.grown) (trees_stay leads s a.more e i h)

-- ---- names that are not there yet

abbrev pub Fresh : Space → List ItemEntry → Type 0
Fresh s xs = IsDistinct bytes_eq (item_names s ++ names_of xs)

split-names : (s : Space) (xs ys : List ItemEntry) → item_names s ++ names_of (xs ++ ys) ≡ (item_names s ++ names_of xs) ++ names_of ys
split-names s xs ys = ap (λ z. item_names s ++ z) (map-append (λ (x : ItemEntry). x.name) xs ys) ∙ sym (append_assoc (item_names s) (names_of xs) (names_of ys))

pub fresh-left : (s : Space) (xs ys : List ItemEntry) → Fresh s (xs ++ ys) → Fresh s xs
fresh-left s xs ys d = front (item_names s ++ names_of xs) (names_of ys) (subst (IsDistinct bytes_eq) (split-names s xs ys) d)

pub fresh-right : (s t : Space) (xs ys : List ItemEntry) → Enters s t xs → Fresh s (xs ++ ys) → Fresh t ys
fresh-right s t xs ys a d = subst (IsDistinct bytes_eq) (split-names s xs ys ∙ ap (λ z. z ++ names_of ys) (sym a.named)) d

-- ---- what is no item

abbrev pub Put : EntryAt → Space → Space × Id → Type 0
Put e s p = Enters s p.0 [] × (entry_at p.0 p.1 ≡ Some e)

entered-done : (e : EntryAt) (s : Space) → is_item e ≡ false → AreBelow (length s) (parts_of e) → Put e s (entered e s, place_of e (entered e s))
entered-done e s q low = by (list_any (same_key e) s) refl
  where
    by : (b : Bool) → list_any (same_key e) s ≡ b → Put e s (entered e s, place_of e (entered e s))
    by true r = subst (λ t. Put e s (t, place_of e t)) (sym (entered-there e s r)) (enters-none s, exact-at e (entry_at s (place_of e s)) q (place-found e s r))
    by false r =
        subst (λ t. Put e s (t, place_of e t)) (sym (entered-new e s r)) (
          record {
            more = e ∷ [];
            grown = refl;
            named = names-append s (e ∷ []) ∙ ap (λ z. item_names s ++ z) (no-name e q);
            lower = lower-end s e low;
          },
          ap (entry_at (s ++ e ∷ [])) (place-new e s r) ∙ at-end s e [],
        )

pub put-done : (e : EntryAt) (s : Space) → is_item e ≡ false → AreBelow (length s) (parts_of e) → Put e s (put e s)
unfolding put
put-done e s q low = entered-done e s q low

-- ---- items

pub put-new : (e : EntryAt) (s : Space) → list_any (same_key e) s ≡ false → put e s ≡ (s ++ e ∷ [], length s)
unfolding put
put-new e s r = ap (λ t. (t, place_of e t)) (entered-new e s r) ∙ ap (λ i. (s ++ e ∷ [], i)) (place-new e s r)

abbrev pub with_open : List ℕ → Space → Space
with_open n s = s ++ is_open n (length s) ∷ []

opened-new : (n : List ℕ) (s : Space) → list_any (same_key (item_at n no_shape)) s ≡ false → opened n s ≡ (with_open n s, length s)
unfolding opened
opened-new n s r =
    ap (λ (p : Space × Id). (filled p.1 (newtype_shape_at p.1 None) p.0, p.1)) (put-new (item_at n no_shape) s r)
    ∙ ap (λ (t : Space). (t, length s)) (filled-end s n (newtype_shape_at (length s) None) no_shape [])

pub opened-fresh : (s : Space) (x : ItemEntry) (xs : List ItemEntry) → Fresh s (x ∷ xs) → opened x.name s ≡ (with_open x.name s, length s)
opened-fresh s x xs d = opened-new x.name s (any-name x.name no_shape s ∙ away (item_names s) x.name (names_of xs) d)

pub open-enters : (s : Space) (x : ItemEntry) → Enters s (with_open x.name s) (x ∷ [])
open-enters s x = record {
  more = is_open x.name (length s) ∷ [];
  grown = refl;
  named = names-append s (is_open x.name (length s) ∷ []);
  lower = lower-end s (is_open x.name (length s)) tt;
}
