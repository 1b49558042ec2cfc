-- Where a reading halts: what stands behind a type, a path, a segment; and what a type begins with.
use Rattle.std.proofs.Common.{◌≡◌, ◌||◌, ℕ, ◌<◌, List, [], ◌∷◌, Bool, true, false, Some, None, cond, refl, ap, sym, ◌∙◌, subst, codes, arith}
use Rattle.std.specs.Prelude.{Option, nat_eq, bytes_eq, is_some, option_map}
use Rattle.std.proofs.Math.Bool.{or-true}
use Rattle.std.proofs.lemmas.Bool.{eqb-true}
use Rattle.std.proofs.lemmas.Slice.Eq.{bytes_eq-Decides}
use Rattle.token_trees.specs.declared.token.Span.{Span}
use Rattle.token_trees.specs.declared.token.Spacing.{Spacing}
use Rattle.token_trees.specs.declared.token.Spacing.TheVariants.{Joint}
use Rattle.token_trees.specs.Token.{Tok, word, mark, fixed, group}
use Rattle.syntax_trees.specs.Syntax.{PathD, path, segment, BoundD, bound_trait, bound_lifetime, Segments, end_segments, more_segments}
use Rattle.syntax_trees.specs.Metas.{is_sign, sign_next}
use Rattle.syntax_parsers.specs.Fronts.{sign_front, colons_front, arrow_front, keyword_front, group_front, tree_front, lifetime_front, segment_front, bound_next, path_next, further_front, colon_front, angle_front, is_parens, is_reserved}
use Rattle.syntax_parsers.specs.Grammar.{choose}
use Rattle.syntax_parsers.specs.Spelling.{BoundThen, PathThen, SegmentsThen}
use Rattle.syntax_parsers.proofs.spelling.Stands.{sign_stands}
use Rattle.syntax_parsers.specs.SpellingForm.{segments_count, BoundForm, PathForm, SegmentsForm}

-- no arguments of a segment go on here
pub record ArgStops (ts : List Tok) : Type 0 where
  pub angle : angle_front ts ≡ None
  pub round : group_front is_parens ts ≡ None
  pub arrow : arrow_front ts ≡ None

-- no path goes on here
pub record Stops (ts : List Tok) : Type 0 where
  pub args : ArgStops ts
  pub further : further_front ts ≡ None

-- no macro goes on here
abbrev pub NoBang : List Tok → Type 0
NoBang ts = choose (sign_front 33 ts) tree_front None ≡ None

-- no type goes on here, but for a `+`
pub record Halt (ts : List Tok) : Type 0 where
  pub stops : Stops ts
  pub bang : NoBang ts

-- nothing goes on here that takes a `::` only where `c` says so, and the `!` of a macro only where `d` does
pub record Pauses (c d : Bool) (ts : List Tok) : Type 0 where
  pub args : ArgStops ts
  pub further : c ≡ true → further_front ts ≡ None
  pub bang : d ≡ true → NoBang ts

pub halt_pauses : (c d : Bool) (ts : List Tok) → Halt ts → Pauses c d ts
halt_pauses c d ts h = record { args = h.stops.args; further = λ q. h.stops.further; bang = λ q. h.bang }

pub stops_pauses : (c d : Bool) (ts : List Tok) → Stops ts → (d ≡ true → NoBang ts) → Pauses c d ts
stops_pauses c d ts h b = record { args = h.args; further = λ q. h.further; bang = b }

pub pauses_stop : (d : Bool) (ts : List Tok) → Pauses true d ts → Stops ts
pauses_stop d ts h = record { args = h.args; further = h.further refl }

pub pauses_bare : (ts : List Tok) → ArgStops ts → Pauses false false ts
pauses_bare ts h = record { args = h; further = λ q. absurd (cc); bang = λ q. absurd (cc) }

-- no bounds go on here
pub record Shut (ts : List Tok) : Type 0 where
  pub plus : sign_next 43 ts ≡ false
  pub bound : bound_next ts ≡ false

-- where a printing ends in bounds, no further one stands behind it
abbrev pub Ends : Bool → List Tok → Type 0
Ends b ts = b ≡ true → sign_next 43 ts ≡ false

-- nothing of a name's own stands behind it
pub record Unlabelled (ts : List Tok) : Type 0 where
  pub equals : sign_front 61 ts ≡ None
  pub colon : colon_front ts ≡ None

pub halt_end : Halt []
halt_end = record { stops = record { args = record { angle = refl; round = refl; arrow = refl }; further = refl }; bang = refl }

pub halt_comma : (j : Spacing) (s : Span) (ts : List Tok) → Halt (mark 44 j s ∷ ts)
halt_comma j s ts = record { stops = record { args = record { angle = refl; round = refl; arrow = refl }; further = refl }; bang = refl }

pub halt_close : (j : Spacing) (s : Span) (ts : List Tok) → Halt (mark 62 j s ∷ ts)
halt_close j s ts = record { stops = record { args = record { angle = refl; round = refl; arrow = refl }; further = refl }; bang = refl }

pub halt_semicolon : (j : Spacing) (s : Span) (ts : List Tok) → Halt (mark 59 j s ∷ ts)
halt_semicolon j s ts = record { stops = record { args = record { angle = refl; round = refl; arrow = refl }; further = refl }; bang = refl }

pub halt_plus : (j : Spacing) (s : Span) (ts : List Tok) → Halt (mark 43 j s ∷ ts)
halt_plus j s ts = record { stops = record { args = record { angle = refl; round = refl; arrow = refl }; further = refl }; bang = refl }

pub halt_as : (s : Span) (ts : List Tok) → Halt (word (codes "as") s ∷ ts)
halt_as s ts = record { stops = record { args = record { angle = refl; round = refl; arrow = refl }; further = refl }; bang = refl }

pub stops_bang : (j : Spacing) (s : Span) (ts : List Tok) → Stops (mark 33 j s ∷ ts)
stops_bang j s ts = record { args = record { angle = refl; round = refl; arrow = refl }; further = refl }

-- before a further segment
pub stops_further : (s u v : Span) (j : Spacing) (x : List ℕ) (ts : List Tok) → ArgStops (mark 58 Joint s ∷ mark 58 j u ∷ word x v ∷ ts)
stops_further s u v j x ts = record { angle = refl; round = refl; arrow = refl }

pub shut_end : Shut []
shut_end = record { plus = refl; bound = refl }

pub shut_comma : (j : Spacing) (s : Span) (ts : List Tok) → Shut (mark 44 j s ∷ ts)
shut_comma j s ts = record { plus = refl; bound = refl }

pub shut_close : (j : Spacing) (s : Span) (ts : List Tok) → Shut (mark 62 j s ∷ ts)
shut_close j s ts = record { plus = refl; bound = refl }

pub shut_semicolon : (j : Spacing) (s : Span) (ts : List Tok) → Shut (mark 59 j s ∷ ts)
shut_semicolon j s ts = record { plus = refl; bound = refl }

pub shut_as : (s : Span) (ts : List Tok) → Shut (word (codes "as") s ∷ ts)
shut_as s ts = record { plus = refl; bound = refl }

pub unlabelled_comma : (j : Spacing) (s : Span) (ts : List Tok) → Unlabelled (mark 44 j s ∷ ts)
unlabelled_comma j s ts = record { equals = refl; colon = refl }

pub unlabelled_close : (j : Spacing) (s : Span) (ts : List Tok) → Unlabelled (mark 62 j s ∷ ts)
unlabelled_close j s ts = record { equals = refl; colon = refl }

-- words

pub not_word : (x k : List ℕ) → is_reserved x ≡ false → is_reserved k ≡ true → bytes_eq x k ≡ false
not_word x k h q = at (bytes_eq x k) refl
  where
    at : (b : Bool) → bytes_eq x k ≡ b → bytes_eq x k ≡ false
    at false e = e
    at true e = let m : is_reserved x ≡ is_reserved k = ap is_reserved ((bytes_eq-Decides x k).0 e) in absurd (cc)

pub not_keyword : (k x : List ℕ) (s : Span) (ts : List Tok) → is_reserved x ≡ false → is_reserved k ≡ true → keyword_front k (word x s ∷ ts) ≡ None
not_keyword k x s ts h q = ap (λ b. cond b (Some ts) None) (not_word x k h q)

pub segment_word : (x : List ℕ) (s : Span) (ts : List Tok) → is_reserved x ≡ false → segment_front (word x s ∷ ts) ≡ Some (record { text = x; span = s }, ts)
segment_word x s ts h = ap (λ b. cond b None (Some (record { text = x; span = s }, ts))) h

pub word_path : (x : List ℕ) (s : Span) (ts : List Tok) → is_reserved x ≡ false → path_next (word x s ∷ ts) ≡ true
word_path x s ts h = ap is_some (segment_word x s ts h)

-- A path begins with `::` and a word, or with a word.
pub data PathStart (ts : List Tok) : Type 0 where
  at_colons : (s u v : Span) (j : Spacing) (x : List ℕ) (b : List Tok) → ts ≡ mark 58 Joint s ∷ mark 58 j u ∷ word x v ∷ b → PathStart ts
  at_word : (s : Span) (x : List ℕ) (b : List Tok) → is_reserved x ≡ false → ts ≡ word x s ∷ b → PathStart ts

pub path_start : (n : ℕ) (l : Bool) (ss : Segments) (ts rest : List Tok) → 0 < segments_count ss → SegmentsForm n ss → SegmentsThen n l ss ts rest → PathStart ts
path_start n l end_segments ts rest c f h = absurd (omega (arith, c))
path_start n true (more_segments (segment x a) ss) ts rest c f h =
    at_colons h.3.0 h.3.2 x.span h.3.1 x.text h.4.0 (h.3.3 ∙ ap (λ z. mark 58 Joint h.3.0 ∷ mark 58 h.3.1 h.3.2 ∷ z) h.4.1)
path_start n false (more_segments (segment x a) ss) ts rest c f h = at_word x.span x.text h.4.0 f.0.0 (h.3 ∙ h.4.1)

pub path_begins : (p : PathD) (ts rest : List Tok) → PathForm p → PathThen p ts rest → PathStart ts
path_begins (path l ss) ts rest f h = path_start 0 l ss ts rest f.0 f.1 h

pub start_next : (ts : List Tok) → PathStart ts → path_next ts ≡ true
start_next ts (at_colons s u v j x b e) = ap path_next e
start_next ts (at_word s x b h e) = ap path_next e ∙ word_path x s b h

pub start_no_lifetime : (ts : List Tok) → PathStart ts → lifetime_front ts ≡ None
start_no_lifetime ts (at_colons s u v j x b e) = ap lifetime_front e
start_no_lifetime ts (at_word s x b h e) = ap lifetime_front e

pub bound_begins : (b : BoundD) (ts rest : List Tok) → BoundForm b → BoundThen b ts rest → bound_next ts ≡ true
bound_begins (bound_trait p) ts rest f h = ap (λ z. is_some (lifetime_front ts) || z) (start_next ts (path_begins p ts rest f h)) ∙ or-true (is_some (lifetime_front ts))
bound_begins (bound_lifetime l) ts rest f h = ap bound_next h

-- the `:` of a predicate

colon_is : (ts end : List Tok) → colon_front ts ≡ Some end → (further_front ts ≡ None) × (sign_front 58 ts ≡ Some end)
colon_is ts end e = at (further_front ts) refl e
  where
    at : (o : Option (List Tok)) → further_front ts ≡ o → cond (is_some o) None (sign_front 58 ts) ≡ Some end → (further_front ts ≡ None) × (sign_front 58 ts ≡ Some end)
    at None h q = (h, q)
    at (Some x) h q = absurd (cc)

-- behind a first `:` stands no `<`
colon_angle : (j : Spacing) (s : Span) (end : List Tok) → angle_front (mark 58 j s ∷ end) ≡ None → further_front (mark 58 j s ∷ end) ≡ None → Halt (mark 58 j s ∷ end) × Shut (mark 58 j s ∷ end)
colon_angle j s end a f =
    (record { stops = record { args = record { angle = a; round = refl; arrow = refl }; further = f }; bang = refl }, record { plus = refl; bound = ap (λ z. is_some z || false) f })

abbrev pub unless_third : Option (List Tok) → Option (List Tok)
unless_third None = None
unless_third (Some ts) = cond (sign_next 58 ts) None (Some ts)

abbrev then_angle : Option (List Tok) → Option (Bool × List Tok)
then_angle None = None
then_angle (Some ts) = option_map (λ us. (true, us)) (sign_front 60 ts)

colon_no_angle : (t : Tok) (ts : List Tok) → cond (is_sign 58 t) None (Some (t ∷ ts)) ≡ None → sign_front 60 (t ∷ ts) ≡ None
colon_no_angle (word x s) ts e = refl
colon_no_angle (mark c j s) ts e = at (nat_eq 58 c) refl e
  where
    at : (b : Bool) → nat_eq 58 c ≡ b → cond b None (Some (mark c j s ∷ ts)) ≡ None → sign_front 60 (mark c j s ∷ ts) ≡ None
    at true h q = ap (λ z. cond (nat_eq 60 z) (Some ts) None) (sym (eqb-true 58 c h))
    at false h q = absurd (cc)
colon_no_angle (fixed l s) ts e = refl
colon_no_angle (group d us s) ts e = refl

third_no_angle : (o : Option (List Tok)) → unless_third o ≡ None → then_angle o ≡ None
third_no_angle None e = refl
third_no_angle (Some []) e = absurd (cc)
third_no_angle (Some (t ∷ ts)) e = ap (option_map (λ us. (true, us))) (colon_no_angle t ts e)

no_angle : (j : Spacing) (s : Span) (end : List Tok) → further_front (mark 58 j s ∷ end) ≡ None → angle_front (mark 58 j s ∷ end) ≡ None
no_angle j s end f = third_no_angle (colons_front (mark 58 j s ∷ end)) f

pub before_colon : (ts end : List Tok) → colon_front ts ≡ Some end → Halt ts × Shut ts
before_colon ts end e =
    let h = colon_is ts end e in
    let m = sign_stands 58 ts end h.1 in
    let f : further_front (mark 58 m.0 m.1 ∷ end) ≡ None = ap further_front (sym m.2) ∙ h.0 in
    subst (λ z. Halt z × Shut z) (sym m.2) (colon_angle m.0 m.1 end (no_angle m.0 m.1 end f) f)
