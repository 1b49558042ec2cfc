-- Paths that are one name.
use Rattle.std.proofs.Common.{◌≡◌, ◌↔◌, IsTrue, ℕ, List, ◌&&◌, Bool, true, false, not, true≢false, refl, sym, ◌∙◌}
use Rattle.std.specs.Str.{bytes_eq}
use Rattle.std.proofs.lemmas.Slice.Eq.{bytes_eq-Decides}
use Rattle.syntax_trees.specs.Syntax.{PathD, path, Segments, end_segments, more_segments, segment_name, has_no_arguments, IsLone, IsWord}
use Rattle.attr_defs.specs.Metas.{is_lone}
use Rattle.attr_defs.specs.Container.{is_word_path}

not_true : (b : Bool) → (b ≡ true → ⊥) → b ≡ false
not_true true h = absurd (h refl)
not_true false h = refl

by : (b l a e : Bool) (x n : List ℕ) → bytes_eq x n ≡ e → (IsTrue b ↔ ((l ≡ false) × (a ≡ true) × (x ≡ n))) → b ≡ (not l && (a && e))
by b true a e x n k h = not_true b (λ t. true≢false (h.0 t).0)
by b false false e x n k h = not_true b (λ t. true≢false (sym (h.0 t).1))
by b false true true x n k h = h.1 (refl, refl, (bytes_eq-Decides x n).0 k)
by b false true false x n k h = not_true b (λ t. true≢false (sym ((bytes_eq-Decides x n).1 (h.0 t).2) ∙ k))

lone_is : (b l : Bool) (n : List ℕ) (ss : Segments) → (IsTrue b ↔ IsLone l n ss) → b ≡ is_lone l n ss
lone_is b l n end_segments h = not_true b h.0
lone_is b l n (more_segments s end_segments) h = by b l (has_no_arguments s) (bytes_eq (segment_name s) n) (segment_name s) n refl h
lone_is b l n (more_segments s (more_segments t ss)) h = not_true b h.0

pub word_is : (b : Bool) (n : List ℕ) (p : PathD) → (IsTrue b ↔ IsWord n p) → b ≡ is_word_path n p
word_is b n (path l ss) h = lone_is b l n ss h
