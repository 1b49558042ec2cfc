-- Judges that answer alike what a schema asks find the same row for it.
use Rattle.std.proofs.Common.{◌≡◌, ℕ, List, [], ◌∷◌, ◌++◌, length, filter, Bool, true, false, ◌&&◌, ◌||◌, cond, Option, Some, None, refl, ap}
use Rattle.std.specs.Prelude.{is_some, chars, if◌then◌else◌}
use Rattle.std.specs.List.{list_any, list_all, AllByRecursion}
use Rattle.json_value.specs.Value.{Value, text}
use Rattle.schema_defs.specs.Layer.{texts_agree, if_given, is_listed, within}
use Rattle.schema_defs.specs.Schema.{Plain, Schema, boolean, object, Same, Lists, Named, Document, Texts}
use Rattle.schema_defs.specs.Texts.{Relations}
use Rattle.model_defs.specs.Layer.{is_null, is_text}
use Rattle.convert_defs.specs.IntegerRow.{note_if}
use Rattle.convert_defs.specs.Row.{Finding, asking, noted, plainly, here, widened, null_note, string_note, leaf_row, refused_row, bad_value}
use Rattle.convert_defs.specs.Scalars.{patterns_of, patterns_in, texts_in, distinct, enumerated, listed_entry, given_format, wanted_of}
use Rattle.convert_defs.specs.Table.{Line, ◌⇒◌, first_line, lines, finding_of, constant_of, constant_list, constant_finding, listed}
use Rattle.judge_laws.specs.Asked.{of_constant, SameOf, SameTexts, AnswersAlike}

module _ (r q : Relations) where
  all-match : (xs : List (List ℕ)) (s : List ℕ) → SameOf r q xs s → list_all (λ x. q.matches x s) xs ≡ list_all (λ x. r.matches x s) xs
  all-match [] s h = refl
  all-match (x ∷ xs) s h =
      let rec = all-match xs s h.1 in
      λ i. h.0 i && rec i

  texts-same : (t : Option Texts) (s : List ℕ) → SameOf r q (patterns_of t) s → if_given (texts_agree q s) t ≡ if_given (texts_agree r s) t
  texts-same None s h = refl
  texts-same (Some t) s h = ap (λ b. within t.min_length t.max_length (length (chars s)) && b) (all-match t.patterns s h)

  filter-same : (t : Option Texts) (ss : List (List ℕ)) → AllByRecursion (SameOf r q (patterns_of t)) ss → filter (λ s. if_given (texts_agree q s) t) ss ≡ filter (λ s. if_given (texts_agree r s) t) ss
  filter-same t [] h = refl
  filter-same t (s ∷ ss) h =
      let one = texts-same t s h.0 in
      let rec = filter-same t ss h.1 in
      λ i. cond (one i) (s ∷ rec i) (rec i)

  abbrev enumerated_by : Plain → List Value → List (List ℕ) → Finding
  enumerated_by p vs ts =
      if list_all (λ v. is_text v || is_null v) vs
      then noted (note_if (list_any is_null vs) (here widened null_note) ++ note_if (is_some (given_format p)) (here widened string_note)) (leaf_row (listed_entry (list_any is_null vs) (wanted_of p) ts))
      else plainly (refused_row bad_value)

  enumerated-same : (p : Plain) (vs : List Value) → AllByRecursion (SameOf r q (patterns_in p)) (texts_in vs) → enumerated q p vs ≡ enumerated r p vs
  enumerated-same p vs h = ap (λ ts. enumerated_by p vs (distinct ts)) (filter-same p.texts (texts_in vs) h)

  constant-kept : (p : Plain) (s : List ℕ) (o : Option (List Value)) → SameOf r q (patterns_in p) s → AllByRecursion (SameOf r q (patterns_in p)) (texts_in (constant_list s o))
  constant-kept p s None h = (h, tt)
  constant-kept p s (Some vs) h = elim (is_listed (text s) vs) as (λ b. AllByRecursion (SameOf r q (patterns_in p)) (texts_in (cond b (text s ∷ []) []))) [ true ↦ (h, tt) | false ↦ tt ]

  constant-same : (p : Plain) (o : Option (List ℕ)) → AllByRecursion (SameOf r q (patterns_in p)) (of_constant o) → constant_finding q p o ≡ constant_finding r p o
  constant-same p None h = refl
  constant-same p (Some s) h = enumerated-same p (constant_list s p.enum_values) (constant-kept p s p.enum_values h.0)

  -- the fifth and the sixth row ask
  lines-so : (a b c e : Line) (f g : Bool) (x y z w : Finding) (ps : List (List ℕ)) (more : List Line) → x ≡ y → z ≡ w
      → a ∷ b ∷ c ∷ e ∷ (f ⇒ asking ps x) ∷ (g ⇒ asking ps z) ∷ more ≡ a ∷ b ∷ c ∷ e ∷ (f ⇒ asking ps y) ∷ (g ⇒ asking ps w) ∷ more
  lines-so a b c e f g x y z w ps more h k = λ i. a ∷ b ∷ c ∷ e ∷ (f ⇒ asking ps (h i)) ∷ (g ⇒ asking ps (k i)) ∷ more

  lines-same : (d : Document) (p : Plain) (ss : Same) (ls : Lists) (ns : Named) → SameTexts r q p → lines q d p ss ls ns ≡ lines r d p ss ls ns
  lines-same d p ss ls ns h = lines-so _ _ _ _ _ _ _ _ _ _ _ _ (enumerated-same p (listed p.enum_values) h.listed) (constant-same p (constant_of p) h.constant)

  pub finding-same : (d : Document) (s : Schema) → AnswersAlike r q d s → finding_of q d s ≡ finding_of r d s
  finding-same d (boolean true) h = refl
  finding-same d (boolean false) h = refl
  finding-same d (object p ss ls ns) h = ap first_line (lines-same d p ss ls ns h.texts)

  pub are-patterns : (xs : List (List ℕ)) → AllByRecursion (λ x. q.is_pattern x ≡ r.is_pattern x) xs → list_all q.is_pattern xs ≡ list_all r.is_pattern xs
  are-patterns [] h = refl
  are-patterns (x ∷ xs) h =
      let rec = are-patterns xs h.1 in
      λ i. h.0 i && rec i
