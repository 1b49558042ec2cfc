-- Whether a path is `serde` alone.
use Rattle.std.proofs.Common.{◌≡◌, ℕ, List, ◌&&◌, Bool, true, false, not, codes, true≢false, refl, ap, sym, ◌∙◌, IsTrue, ◌↔◌}
use Rattle.std.specs.Str.{bytes_eq}
use Rattle.std.proofs.lemmas.Slice.Eq.{bytes_eq-Decides}
use Rattle.syntax_trees.specs.Syntax.{PathD, path, SegmentD, Segments, end_segments, more_segments, has_no_arguments, segment_name, IsLone, IsWord}
use Rattle.attr_defs.specs.Metas.{is_lone, is_serde}

same_truth : (a b : Bool) → (a ≡ true → b ≡ true) → (b ≡ true → a ≡ true) → a ≡ b
same_truth true b f g = sym (f refl)
same_truth false true f g = g refl
same_truth false false f g = refl

and_left : (a b : Bool) → (a && b) ≡ true → a ≡ true
and_left true b h = refl
and_left false b h = h

and_right : (a b : Bool) → (a && b) ≡ true → b ≡ true
and_right true b h = h
and_right false b h = absurd (true≢false (sym h))

not_false : (a : Bool) → not a ≡ true → a ≡ false
not_false true h = sym h
not_false false h = refl

lone_found : (leading : Bool) (n : List ℕ) (ss : Segments) → IsLone leading n ss → is_lone leading n ss ≡ true
lone_found leading n end_segments h = absurd h
lone_found leading n (more_segments s end_segments) h =
    let e = bytes_eq (segment_name s) n in
    ap (λ b. not b && (has_no_arguments s && e)) h.0 ∙ ap (λ b. b && e) h.1 ∙ (bytes_eq-Decides (segment_name s) n).1 h.2
lone_found leading n (more_segments s (more_segments t ss)) h = absurd h

found_lone : (leading : Bool) (n : List ℕ) (ss : Segments) → is_lone leading n ss ≡ true → IsLone leading n ss
found_lone leading n end_segments h = absurd (true≢false (sym h))
found_lone leading n (more_segments s end_segments) h =
    let e = bytes_eq (segment_name s) n in
    let both = and_right (not leading) (has_no_arguments s && e) h in
    (not_false leading (and_left (not leading) (has_no_arguments s && e) h), and_left (has_no_arguments s) e both, (bytes_eq-Decides (segment_name s) n).0 (and_right (has_no_arguments s) e both))
found_lone leading n (more_segments s (more_segments t ss)) h = absurd (true≢false (sym h))

pub serde_alone : (p : PathD) (b : Bool) → (IsTrue b ↔ IsWord (codes "serde") p) → b ≡ is_serde p
serde_alone (path leading ss) b h =
    let n = codes "serde" in
    same_truth b (is_lone leading n ss) (λ t. lone_found leading n ss (h.0 t)) (λ t. h.1 (found_lone leading n ss t))
