-- Targets one by one.
use Rattle.std.proofs.Common.{◌≡◌, ℕ, zero, suc, ◌+◌, ◌<◌, ◌≤◌, cond, inl, inr, Bool, true, false, List, [], ◌∷◌, map, length, get_or, drop, Option, Some, None, sym, ap, subst, ◌∙◌, arith}
use Rattle.std.proofs.Math.Seq.{drop-cons}
use Rattle.std.proofs.lemmas.List.{at_drop_all}
use Rattle.entry_defs.specs.Entry.{Target}
use Rattle.entry_defs.specs.Table.{ItemEntry, found, same_target}
use Rattle.tree_types.specs.View.{item_in, target_entry, target_view, tree_view}
use Rattle.tree_types.specs.declared.tree.Target.{Target as CodeTarget}
use Rattle.tree_types.specs.declared.tree.Tree.{Tree}
use Rattle.tree_types.proofs.Sizes.{tree_size}
use Rattle.listed_reading.specs.Targets.{Among}
use Rattle.listed_reading.proofs.Ranks.{targets_size}

abbrev Entry : Type 0
Entry = CodeTarget × Tree

module _ (q : Target) where
  abbrev pub found_in : List Entry → Option ItemEntry
  found_in ps = found q (map target_entry ps)

  next : (xs ys : List Entry) (i : ℕ) (p : Entry) → xs ≡ ys → i < length xs → p ≡ get_or xs i p → found_in (drop i ys) ≡ found_in (p ∷ drop (i + 1) ys)
  next xs ys i p e h k =
      ap (λ zs. found_in (drop i zs)) (sym e)
      ∙ ap found_in (drop-cons xs i p h)
      ∙ ap (λ z. found_in (z ∷ drop (suc i) xs)) (sym k)
      ∙ ap (λ n. found_in (p ∷ drop n xs)) (let m : suc i ≡ i + 1 = omega arith in m)
      ∙ ap (λ zs. found_in (p ∷ drop (i + 1) zs)) e

  pub found_here : (xs ys : List Entry) (i : ℕ) (p : Entry) (b : Bool) → xs ≡ ys → i < length xs → p ≡ get_or xs i p → b ≡ same_target q (target_view p.0) → b ≡ true
      → found_in ys ≡ found_in (drop i ys) → Some (item_in (tree_view p.1)) ≡ found_in ys
  found_here xs ys i p b e h k s t left =
      sym (left ∙ next xs ys i p e h k ∙ ap (λ c. cond c (Some (item_in (tree_view p.1))) (found_in (drop (i + 1) ys))) (sym s ∙ t))

  pub found_later : (xs ys : List Entry) (i : ℕ) (p : Entry) (b : Bool) → xs ≡ ys → i < length xs → p ≡ get_or xs i p → b ≡ same_target q (target_view p.0) → b ≡ false
      → found_in ys ≡ found_in (drop i ys) → found_in ys ≡ found_in (drop (i + 1) ys)
  found_later xs ys i p b e h k s t left =
      left ∙ next xs ys i p e h k ∙ ap (λ c. cond c (Some (item_in (tree_view p.1))) (found_in (drop (i + 1) ys))) (sym s ∙ t)

  pub found_none : (xs ys : List Entry) (i : ℕ) → xs ≡ ys → length xs ≤ i → found_in ys ≡ found_in (drop i ys) → None ≡ found_in ys
  found_none xs ys i e h left = sym (left ∙ ap (λ zs. found_in (drop i zs)) (sym e) ∙ at_drop_all found_in xs i h)

-- it is one of them
among_at : (xs : List Entry) (i : ℕ) (p : Entry) → i < length xs → p ≡ get_or xs i p → Among p.1 xs
among_at [] i p h e = absurd (omega (arith, h))
among_at (x ∷ xs) zero p h e = inl (sym (ap (λ (z : Entry). z.1) e))
among_at (x ∷ xs) (suc i) p h e = inr (among_at xs i p (omega (arith, h)) e)

pub among_these : (xs ys : List Entry) (i : ℕ) (p : Entry) → xs ≡ ys → i < length xs → p ≡ get_or xs i p → Among p.1 ys
among_these xs ys i p e h k = subst (Among p.1) e (among_at xs i p h k)

pub among_sized : (x : Tree) (ps : List Entry) → Among x ps → tree_size x ≤ targets_size ps
among_sized x [] h = absurd h
among_sized x (p ∷ ps) (inl e) = let s : tree_size p.1 ≡ tree_size x = ap tree_size e in omega (arith, s)
among_sized x (p ∷ ps) (inr h) = let k = among_sized x ps h in omega (arith, k)
