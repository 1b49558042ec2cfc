-- Paths, segment by segment.
use Rattle.std.proofs.Common.{◌≡◌, ℕ, ◌<◌, ◌≤◌, ◌&&◌, List, [], ◌∷◌, ◌++◌, map, length, get_or, Bool, true, false, Some, None, refl, sym, ap, ◌∙◌, arith}
use Rattle.std.specs.Prelude.{bytes_eq, if◌then◌else◌}
use Rattle.std.specs.List.{list_all}
use Rattle.syntax_trees.specs.Syntax.{SegmentD, segment, no_arguments, angle, parens, segments_of, has_no_arguments, segment_name}
use Rattle.syntax_trees.specs.View.{segment_view}
use Rattle.syntax_trees.specs.declared.tree.PathSegment.{PathSegment}
use Rattle.type_spellings.specs.Types.{spells, same_names, Arguments, none_given, utc_given, types_given, others_given, Segment, last_arguments, path_type, named_type, word_type, given, is_utc_alone}
use Rattle.model_defs.specs.Types.{TypeModel, outside_type}
use Rattle.value_types.specs.Levels.{segment_model, segment_models, generic_models}
use Rattle.value_types.specs.Paths.{is_bare, names_of}
use Rattle.value_types.specs.ShapeView.{few, few_of, word_or_item}
use Rattle.value_types.specs.RowView.{plain_in, meaning_of, word_rows}
use Rattle.value_types.proofs.Tables.{word_meant}

false_last : (b : Bool) → (b && false) ≡ false
false_last true = refl
false_last false = refl

shuffled : (a b p q : Bool) → (a && b && (p && q)) ≡ (a && p && (b && q))
shuffled false b p q = refl
shuffled true false false q = refl
shuffled true false true q = refl
shuffled true true p q = refl

pub spelled : (ss : List PathSegment) (ns : List (List ℕ)) → spells (segments_of (map segment_view ss)) ns ≡ (list_all is_bare ss && same_names (names_of ss) ns)
spelled [] [] = refl
spelled [] (n ∷ ns) = refl
spelled (s ∷ ss) [] = sym (false_last (list_all is_bare (s ∷ ss)))
spelled (s ∷ ss) (n ∷ ns) =
    ap (λ r. has_no_arguments (segment_view s) && bytes_eq (segment_name (segment_view s)) n && r) (spelled ss ns)
    ∙ shuffled (is_bare s) (bytes_eq (segment_name (segment_view s)) n) (list_all is_bare ss) (same_names (names_of ss) ns)

-- ---- as segments of the reader

abbrev pub models : List PathSegment → List Segment
models ss = segment_models (segments_of (map segment_view ss))

named : (s : SegmentD) → (segment_model s).name ≡ segment_name s
named (segment n a) = refl

names_modelled : (ss : List PathSegment) → map (λ s. s.name) (models ss) ≡ names_of ss
names_modelled [] = refl
names_modelled (s ∷ ss) =
    ap (λ n. n ∷ map (λ t. t.name) (models ss)) (named (segment_view s)) ∙ ap (λ ns. segment_name (segment_view s) ∷ ns) (names_modelled ss)

bare_first : (s : SegmentD) (t : Segment) (rest : List Segment) → has_no_arguments s ≡ true → last_arguments (segment_model s ∷ t ∷ rest) ≡ last_arguments (t ∷ rest)
bare_first (segment n no_arguments) t rest h = refl
bare_first (segment n (angle k gs)) t rest h = cc
bare_first (segment n (parens ts o)) t rest h = cc

others_first : (s : SegmentD) (t : Segment) (rest : List Segment) → has_no_arguments s ≡ false → last_arguments (segment_model s ∷ t ∷ rest) ≡ others_given
others_first (segment n no_arguments) t rest h = cc
others_first (segment n (angle true gs)) t rest h = refl
others_first (segment n (angle false gs)) t rest h =
    elim (is_utc_alone gs) as (λ b. last_arguments (record { name = n.text; arguments = if b then utc_given else given (generic_models gs) } ∷ t ∷ rest) ≡ others_given) [
      | true ↦ refl
      | false ↦ elim (generic_models gs) as (λ o. last_arguments (record { name = n.text; arguments = given o } ∷ t ∷ rest) ≡ others_given) [ None ↦ refl | Some ts ↦ refl ]
    ]
others_first (segment n (parens ts o)) t rest h = refl

and_first : (a b : Bool) → (a && b) ≡ true → a ≡ true
and_first true b h = refl
and_first false b h = h

and_second : (a b : Bool) → (a && b) ≡ true → b ≡ true
and_second true b h = h
and_second false b h = cc

last_is : (before : List PathSegment) (l : PathSegment) → list_all is_bare before ≡ true → last_arguments (models (before ++ (l ∷ []))) ≡ (segment_model (segment_view l)).arguments
last_is [] l h = refl
last_is (s ∷ []) l h = bare_first (segment_view s) (segment_model (segment_view l)) [] (and_first (is_bare s) true h)
last_is (s ∷ t ∷ ss) l h =
    bare_first (segment_view s) (segment_model (segment_view t)) (models (ss ++ (l ∷ []))) (and_first (is_bare s) (list_all is_bare (t ∷ ss)) h)
    ∙ last_is (t ∷ ss) l (and_second (is_bare s) (list_all is_bare (t ∷ ss)) h)

module _ (s : PathSegment) (t : Segment) (rest : List Segment) (bare : Bool) (h : (is_bare s && bare) ≡ false) (later : bare ≡ false → last_arguments (t ∷ rest) ≡ others_given) where
  others_from : (b : Bool) → is_bare s ≡ b → last_arguments (segment_model (segment_view s) ∷ t ∷ rest) ≡ others_given
  others_from true e = bare_first (segment_view s) t rest e ∙ later (ap (λ b. b && bare) (sym e) ∙ h)
  others_from false e = others_first (segment_view s) t rest e

other_is : (before : List PathSegment) (l : PathSegment) → list_all is_bare before ≡ false → last_arguments (models (before ++ (l ∷ []))) ≡ others_given
other_is [] l h = cc
other_is (s ∷ []) l h = others_from s (segment_model (segment_view l)) [] true h (λ e. cc) (is_bare s) refl
other_is (s ∷ t ∷ ss) l h = others_from s (segment_model (segment_view t)) (models (ss ++ (l ∷ []))) (list_all is_bare (t ∷ ss)) h (λ e. other_is (t ∷ ss) l e) (is_bare s) refl

few_listed : (p : List (List ℕ)) (ts : List TypeModel) → named_type true p (types_given ts) ≡ named_type true p (few_of ts)
few_listed p [] = refl
few_listed p (t ∷ []) = refl
few_listed p (t ∷ u ∷ []) = refl
few_listed p (t ∷ u ∷ v ∷ ts) = refl

few_named : (p : List (List ℕ)) (a : Arguments) → named_type true p a ≡ named_type true p (few a)
few_named p none_given = refl
few_named p utc_given = refl
few_named p (types_given ts) = few_listed p ts
few_named p others_given = refl

-- ---- paths from the root

pub no_path : (ss : List PathSegment) → length ss ≡ 0 → path_type true (models ss) ≡ outside_type
no_path [] h = refl
no_path (s ∷ ss) h = absurd (omega arith)

pub last_given : (ss before : List PathSegment) (l : PathSegment) → ss ≡ before ++ (l ∷ []) → list_all is_bare before ≡ true
    → named_type true (names_of ss) (few (segment_model (segment_view l)).arguments) ≡ path_type true (models ss)
last_given ss before l e h =
    sym (few_named (names_of ss) (segment_model (segment_view l)).arguments)
    ∙ ap (named_type true (names_of ss)) (sym (last_is before l h) ∙ ap (λ q. last_arguments (models q)) (sym e))
    ∙ ap (λ ns. named_type true ns (last_arguments (models ss))) (sym (names_modelled ss))

pub others_before : (ss before : List PathSegment) (l : PathSegment) → ss ≡ before ++ (l ∷ []) → list_all is_bare before ≡ false → path_type true (models ss) ≡ outside_type
others_before ss before l e h = ap (named_type true (map (λ s. s.name) (models ss))) (ap (λ q. last_arguments (models q)) e ∙ other_is before l h)

-- ---- other paths

lone_bare : (s : SegmentD) → has_no_arguments s ≡ true → word_type (segment_name s) ≡ path_type false (segment_model s ∷ [])
lone_bare (segment n no_arguments) h = refl
lone_bare (segment n (angle t gs)) h = cc
lone_bare (segment n (parens ts o)) h = cc

lone_other : (s : SegmentD) → has_no_arguments s ≡ false → path_type false (segment_model s ∷ []) ≡ outside_type
lone_other (segment n no_arguments) h = cc
lone_other (segment n (angle true gs)) h = refl
lone_other (segment n (angle false gs)) h =
    elim (is_utc_alone gs) as (λ b. named_type false (n.text ∷ []) (if b then utc_given else given (generic_models gs)) ≡ outside_type) [
      | true ↦ refl
      | false ↦ elim (generic_models gs) as (λ o. named_type false (n.text ∷ []) (given o) ≡ outside_type) [ None ↦ refl | Some ts ↦ refl ]
    ]
lone_other (segment n (parens ts o)) h = refl

pub word_alone : (s : PathSegment) → is_bare s ≡ true → word_or_item (plain_in (meaning_of word_rows (names_of (s ∷ [])))) (segment_name (segment_view s)) ≡ path_type false (models (s ∷ []))
word_alone s h = word_meant (segment_name (segment_view s)) ∙ lone_bare (segment_view s) h

pub more_than_a_word : (s : PathSegment) → is_bare s ≡ false → path_type false (models (s ∷ [])) ≡ outside_type
more_than_a_word s h = lone_other (segment_view s) h

pub several_words : (ss : List PathSegment) → 2 ≤ length ss → path_type false (models ss) ≡ outside_type
several_words [] h = absurd (omega arith)
several_words (s ∷ []) h = absurd (omega arith)
several_words (s ∷ t ∷ ss) h = refl

pub word_at : (ss : List PathSegment) (s : PathSegment) (n : List ℕ) → 1 ≤ length ss → length ss < 2 → s ≡ get_or ss 0 s → is_bare s ≡ true → n ≡ segment_name (segment_view s)
    → word_or_item (plain_in (meaning_of word_rows (names_of ss))) n ≡ path_type false (models ss)
word_at [] s n h k e b m = absurd (omega arith)
word_at (t ∷ []) s n h k e b m =
    ap (word_or_item (plain_in (meaning_of word_rows (names_of (t ∷ []))))) (m ∙ ap (λ x. segment_name (segment_view x)) e) ∙ word_alone t (sym (ap is_bare e) ∙ b)
word_at (t ∷ u ∷ ss) s n h k e b m = absurd (omega arith)
