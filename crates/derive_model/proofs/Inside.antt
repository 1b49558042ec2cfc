-- Where none is first outside, each is inside, and so the models are fit to be read.
use Rattle.std.proofs.Common.{◌≡◌, ℕ, suc, List, [], ◌∷◌, map, Bool, true, false, not, ◌&&◌, Some, None, refl, sym, ap, ◌∙◌}
use Rattle.std.specs.Prelude.{if◌then◌else◌}
use Rattle.std.specs.List.{list_all}
use Rattle.syntax_trees.specs.Item.{ItemD}
use Rattle.attr_parts.specs.declared.derive.Derive.TheVariants.{Deserialize}
use Rattle.attr_defs.specs.Renames.{Meaning}
use Rattle.attr_defs.specs.Texts.{lexed}
use Rattle.model_defs.specs.Model.{ConversionsD}
use Rattle.container_defs.specs.Forms.{names_of, leaves_forms, are_inside}
use Rattle.derive_model.specs.Items.{private, read_of, first_from, first_outside}

module _ {A : Type 0} (test : A → Bool) where
  abbrev all_pass : List A → Bool
  all_pass xs = list_all (λ x. not (test x)) xs

  none_here : (b : Bool) (i : ℕ) (x : A) (xs : List A) → test x ≡ b → (first_from test (suc i) xs ≡ None → all_pass xs ≡ true) → (if b then Some i else first_from test (suc i) xs) ≡ None
      → (not (test x) && all_pass xs) ≡ true
  none_here true i x xs e rest h = cc
  none_here false i x xs e rest h = ap (λ b. not b && all_pass xs) e ∙ rest h

  none_first : (i : ℕ) (xs : List A) → first_from test i xs ≡ None → all_pass xs ≡ true
  none_first i [] h = refl
  none_first i (x ∷ xs) h = none_here (test x) i x xs refl (none_first (suc i) xs) h

mapped_all : {X Y : Type 0} (f : X → Y) (test : Y → Bool) (xs : List X) → list_all test (map f xs) ≡ list_all (λ x. test (f x)) xs
mapped_all f test [] = refl
mapped_all f test (x ∷ xs) = ap (λ b. test (f x) && b) (mapped_all f test xs)

pub none_outside : (v f : Meaning) (k : ConversionsD) (is : List ItemD) → first_outside v f k is ≡ None → are_inside lexed v f private Deserialize k is ≡ true
none_outside v f k is h =
    sym (mapped_all (read_of v f) (λ o. not (leaves_forms (names_of is) k o)) is) ∙ none_first (leaves_forms (names_of is) k) 0 (map (read_of v f) is) h
