-- Places in the table of defaults.
use Rattle.std.proofs.Common.{◌≡◌, ℕ, ◌<◌, ◌≤◌, ◌^◌, List, [], ◌∷◌, map, length, Bool, true, false, Option, Some, None, is_some, Box, Global, refl, sym, ap, subst, ◌∙◌, true≢false, arith}
use Rattle.std.specs.Prelude.{bytes_eq, nat_eq, if◌then◌else◌}
use Rattle.std.specs.Fmt.{decimal}
use Rattle.std.proofs.lemmas.Bool.{ne_eqb}
use Rattle.std.proofs.lemmas.Slice.Eq.{bytes_eq-Decides}
use Rattle.schema_defs.specs.Location.{place}
use Rattle.schema_defs.proofs.Places.{places_differ}
use Rattle.syntax_trees.specs.Syntax.{SegmentD, expr_path, path, Segments, segments_of}
use Rattle.syntax_trees.specs.View.{expr_path_view, maybe_qself_view}
use Rattle.syntax_trees.specs.declared.tree.QSelf.{QSelf}
use Rattle.syntax_trees.specs.declared.tree.ExprPath.{ExprPath, out-ExprPath}
use Rattle.type_spellings.specs.Types.{number_of}
use Rattle.value_types.specs.Large.{IsTooLarge}
use Rattle.container_defs.specs.Reader.{default_place, place_in, place_named, written_so}
use Rattle.item_models.specs.PlaceView.{IsPast}
use Rattle.item_models.proofs.Digits.{zero_in_front, no_zero_in_front}
use Rattle.item_models.proofs.KnownPaths.{leading_of, segments_in, leveled}

pub no_name : (n : List ℕ) → length n ≡ 0 → None ≡ place_named n
no_name [] h = refl
no_name (c ∷ ds) h = absurd (omega arith)

pub a_name : (n : List ℕ) (c : ℕ) (ds : List ℕ) → n ≡ c ∷ ds → c ≡ 100 → written_so ds (number_of ds) ≡ place_named n
a_name n c ds e h = sym (ap place_named (e ∙ ap (λ x. x ∷ ds) h))

pub another_name : (n : List ℕ) (c : ℕ) (ds : List ℕ) → n ≡ c ∷ ds → (c ≡ 100 → ⊥) → None ≡ place_named n
another_name n c ds e h = sym (ap place_named e ∙ ap (λ b. if b then written_so ds (number_of ds) else None) (ne_eqb c 100 h))

pub one_segment : {X : Type 0} → (f : X → SegmentD) (ss : List X) → 1 ≤ length ss → length ss < 2 → None ≡ place_in (segments_of (map f ss))
one_segment f [] h k = absurd (omega arith)
one_segment f (s ∷ []) h k = refl
one_segment f (s ∷ t ∷ ss) h k = absurd (omega arith)

pub many_segments : {X : Type 0} → (f : X → SegmentD) (ss : List X) → 3 ≤ length ss → None ≡ place_in (segments_of (map f ss))
many_segments f [] h = absurd (omega arith)
many_segments f (s ∷ []) h = absurd (omega arith)
many_segments f (s ∷ t ∷ []) h = absurd (omega arith)
many_segments f (s ∷ t ∷ u ∷ ss) h = refl

read_by : (q : Option (Box QSelf Global)) (l : Bool) (ss : Segments) → q ≡ None → l ≡ false → place_in ss ≡ default_place (expr_path (maybe_qself_view q) (path l ss))
read_by None false ss h k = refl
read_by None true ss h k = cc
read_by (Some q) l ss h k = cc

rooted_by : (q : Option (Box QSelf Global)) (l : Bool) (ss : Segments) → l ≡ true → None ≡ default_place (expr_path (maybe_qself_view q) (path l ss))
rooted_by None false ss k = cc
rooted_by None true ss k = refl
rooted_by (Some q) l ss k = refl

typed_by : (q : Option (Box QSelf Global)) (b : Box QSelf Global) (l : Bool) (ss : Segments) → q ≡ Some b → None ≡ default_place (expr_path (maybe_qself_view q) (path l ss))
typed_by None b l ss h = cc
typed_by (Some q) b l ss h = refl

pub place_read : (e : ExprPath) → (out-ExprPath e).qself ≡ None → leading_of e ≡ false → place_in (segments_in e) ≡ default_place (expr_path_view e)
place_read e h k = read_by (out-ExprPath e).qself (leading_of e) (segments_in e) h k ∙ ap default_place (sym (leveled e))

pub rooted_place : (e : ExprPath) → leading_of e ≡ true → None ≡ default_place (expr_path_view e)
rooted_place e k = rooted_by (out-ExprPath e).qself (leading_of e) (segments_in e) k ∙ ap default_place (sym (leveled e))

pub place_of_type : (e : ExprPath) (b : Box QSelf Global) → (out-ExprPath e).qself ≡ Some b → None ≡ default_place (expr_path_view e)
place_of_type e b h = typed_by (out-ExprPath e).qself b (leading_of e) (segments_in e) h ∙ ap default_place (sym (leveled e))

-- ---- digits

pub place_written : (n : ℕ) (ds : List ℕ) → n < 2 ^ 64 → bytes_eq (decimal n) ds ≡ bytes_eq (place n) ds
place_written n ds h = ap (λ xs. bytes_eq xs ds) (sym (places_differ.1 n h))

pub written_by : (ds : List ℕ) (n : ℕ) (b : Bool) → b ≡ bytes_eq (place n) ds → b ≡ true → written_so ds (Some n) ≡ Some n
written_by ds n b e h = ap (λ a. if a then Some n else None) (sym e ∙ h)

pub unwritten_by : (ds : List ℕ) (n : ℕ) (b : Bool) → b ≡ bytes_eq (place n) ds → b ≡ false → written_so ds (Some n) ≡ None
unwritten_by ds n b e h = ap (λ a. if a then Some n else None) (sym e ∙ h)

no_number_by : (ds : List ℕ) (o : Option ℕ) → is_some o ≡ false → written_so ds o ≡ None
no_number_by ds None h = refl
no_number_by ds (Some n) h = cc

pub no_number : (ds : List ℕ) (b : Bool) → b ≡ is_some (number_of ds) → b ≡ false → written_so ds (number_of ds) ≡ None
no_number ds b e h = no_number_by ds (number_of ds) (sym e ∙ h)

-- ---- past a u64's end

pub empty_past : (ds : List ℕ) → length ds ≡ 0 → written_so ds (number_of ds) ≡ None
empty_past [] h = refl
empty_past (d ∷ ds) h = absurd (omega arith)

past_by : (o : Option ℕ) → is_some o ≡ true → IsTooLarge o → IsPast o
past_by None h g = absurd (true≢false (sym h))
past_by (Some n) h g = (n, refl, omega arith)

-- a zero in front
zero_past : (ds : List ℕ) → IsPast (number_of (48 ∷ ds)) → written_so (48 ∷ ds) (number_of (48 ∷ ds)) ≡ None
zero_past ds p =
    let n = p.0 in
    let far = p.2 in
    ap (written_so (48 ∷ ds)) p.1 ∙ (elim (bytes_eq (place n) (48 ∷ ds)) as (λ b. bytes_eq (place n) (48 ∷ ds) ≡ b → (if b then Some n else None) ≡ None) [
      | true ↦ λ e. absurd (zero_in_front ds n (omega arith) ((bytes_eq-Decides (place n) (48 ∷ ds)).0 e))
      | false ↦ λ e. refl
    ] refl)

pub zero_place : (n : List ℕ) (c : ℕ) (ds : List ℕ) → n ≡ c ∷ ds → c ≡ 48 → is_some (number_of n) ≡ true → IsTooLarge (number_of n) → written_so n (number_of n) ≡ None
zero_place n c ds e h s g =
    let same : n ≡ 48 ∷ ds = e ∙ ap (λ x. x ∷ ds) h in
    ap (λ xs. written_so xs (number_of xs)) same ∙ zero_past ds (subst (λ xs. IsPast (number_of xs)) same (past_by (number_of n) s g))

-- another digit
other_past : (c : ℕ) (ds : List ℕ) → (c ≡ 48 → ⊥) → IsPast (number_of (c ∷ ds)) → IsPast (written_so (c ∷ ds) (number_of (c ∷ ds)))
other_past c ds h p =
    let n = p.0 in
    let far = p.2 in
    let same = no_zero_in_front c ds n h p.1 (omega arith) in
    (n, ap (written_so (c ∷ ds)) p.1 ∙ ap (λ b. if b then Some n else None) ((bytes_eq-Decides (place n) (c ∷ ds)).1 same), far)

pub other_place : (n : List ℕ) (c : ℕ) (ds : List ℕ) → n ≡ c ∷ ds → (c ≡ 48 → ⊥) → is_some (number_of n) ≡ true → IsTooLarge (number_of n) → IsPast (written_so n (number_of n))
other_place n c ds e h s g = subst (λ xs. IsPast (written_so xs (number_of xs))) (sym e) (other_past c ds h (subst (λ xs. IsPast (number_of xs)) e (past_by (number_of n) s g)))
