-- Names put into a set.
use Rattle.std.proofs.Common.{◌≡◌, ℕ, ◌+◌, ◌<◌, List, [], ◌∷◌, map, drop, length, get_or, refl, ap, sym, ◌∙◌}
use Rattle.std.specs.declared.cmp.Ordering.{Ordering}
use Rattle.std.specs.declared.cmp.Ordering.TheVariants.{Less, Equal, Greater}
use Rattle.std.specs.Ordering.{match_ordering}
use Rattle.std.specs.String.{string_cmp}
use Rattle.std.specs.BTreeSet.{insert_key}
use Rattle.token_trees.specs.Token as tokens
use Rattle.attr_parts.specs.Names.{attr_name}
use Rattle.attr_parts.proofs.Added.{mapped_drop}
use Rattle.attr_parts.specs.declared.name.Name.{Name}
use Rattle.attr_parts.specs.declared.rename.RenameRule.{RenameRule}
use Rattle.attr_parts.specs.declared.rename.RenameRule.TheVariants as rules
use Rattle.attr_defs.specs.Members.{names_cmp, name_set}
use Rattle.attr_defs.specs.Renames.{Meaning, by_rule}

abbrev by_value : Name → Name → Ordering
by_value a b = string_cmp a.value b.value

placed : (o : Ordering) (a b c : List Name) (p q r : List tokens.Name) → map attr_name a ≡ p → map attr_name b ≡ q → map attr_name c ≡ r → map attr_name (match_ordering o a b c) ≡ match_ordering o p q r
placed Less a b c p q r e f g = e
placed Equal a b c p q r e f g = f
placed Greater a b c p q r e f g = g

pub inserted : (xs : List Name) (n : Name) → map attr_name (insert_key by_value xs n) ≡ insert_key names_cmp (map attr_name xs) (attr_name n)
inserted [] n = refl
inserted (x ∷ xs) n = placed (by_value n x) (n ∷ x ∷ xs) (x ∷ xs) (x ∷ insert_key by_value xs n) _ _ _ refl refl (ap (λ ys. attr_name x ∷ ys) (inserted xs n))

-- a copy of the next name is put into the set, and the others are left
pub next_named : (old new whole : List tokens.Name) (xs : List Name) (i : ℕ) (x copy : Name) → i < length xs → x ≡ get_or xs i x → attr_name copy ≡ attr_name x → new ≡ insert_key names_cmp old (attr_name copy)
    → name_set old (map attr_name (drop i xs)) ≡ whole → name_set new (map attr_name (drop (i + 1) xs)) ≡ whole
next_named old new whole xs i x copy h e c n k =
    let rest = map attr_name (drop (i + 1) xs) in
    ap (λ s. name_set s rest) (n ∙ ap (λ m. insert_key names_cmp old m) c) ∙ sym (ap (name_set old) (mapped_drop attr_name xs i x h e)) ∙ k

-- a renamer is asked by each rule but none
pub by_other : (f : Meaning) (r : RenameRule) (n : List ℕ) → (r ≡ rules.None → ⊥) → by_rule f r n ≡ f r n
by_other f rules.None n h = absurd (h refl)
by_other f rules.LowerCase n h = refl
by_other f rules.UpperCase n h = refl
by_other f rules.PascalCase n h = refl
by_other f rules.CamelCase n h = refl
by_other f rules.SnakeCase n h = refl
by_other f rules.ScreamingSnakeCase n h = refl
by_other f rules.KebabCase n h = refl
by_other f rules.ScreamingKebabCase n h = refl
