-- A set of names that has one more.
use Rattle.std.proofs.Common.{◌≡◌, List, ℕ, Bool, true, false, cond, ◌||◌, String, string_bytes, bytes_eq, string_cmp, refl, sym, ◌∙◌, ap, nat_cmp}
use Rattle.std.specs.Cmp.Lexicographic.{slice_cmp}
use Rattle.std.specs.BTreeSet.{BTreeSet, contains_text, UpdatesBy}
use Rattle.std.proofs.lemmas.Slice.Eq.{bytes_eq-Decides}
use Rattle.std.proofs.lemmas.Map.Text.{btree_set_updates_text}

same_answers : (a b : Bool) → (a ≡ true → b ≡ true) → (b ≡ true → a ≡ true) → a ≡ b
same_answers true b f g = sym (f refl)
same_answers false true f g = g refl
same_answers false false f g = refl

turned : (m n : List ℕ) → bytes_eq m n ≡ bytes_eq n m
turned m n = same_answers (bytes_eq m n) (bytes_eq n m) (λ e. (bytes_eq-Decides n m).1 (sym ((bytes_eq-Decides m n).0 e))) (λ e. (bytes_eq-Decides m n).1 (sym ((bytes_eq-Decides n m).0 e)))

or_of : (b x : Bool) → cond b true x ≡ (b || x)
or_of true x = refl
or_of false x = refl

pub taken : {Y : Type 0} (name : List ℕ) (s n : BTreeSet (String Y)) → UpdatesBy string_cmp (λ k. slice_cmp nat_cmp name (string_bytes k)) s n true → (cs : List ℕ) → contains_text n cs ≡ (bytes_eq cs name || contains_text s cs)
taken name s n h cs = btree_set_updates_text name s n true h cs ∙ or_of (bytes_eq name cs) (contains_text s cs) ∙ ap (λ b. b || contains_text s cs) (turned name cs)
