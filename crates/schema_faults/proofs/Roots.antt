-- A value is read as a document exactly where nothing is told of its schemas.
use Rattle.std.proofs.Common.{◌≡◌, ℕ, List, [], ◌∷◌, ◌++◌, map, Option, Some, None, option_map, Bool, true, false, ◌&&◌, ◌||◌, true≢false, refl, sym, ap, ◌∙◌}
use Rattle.std.specs.Prelude.{not, is_some, unwrap_or, codes}
use Rattle.std.specs.List.{list_any, list_all}
use Rattle.json_value.specs.Value as value
use Rattle.json_value.specs.Value.{Value, Members, null, number, fraction, text, list, member_at}
use Rattle.schema_defs.specs.declared.Setting.{Setting}
use Rattle.schema_defs.specs.Schema.{Properties, no_properties}
use Rattle.schema_defs.specs.Read.{◌⊛◌, Lookup, lookup_of, optional, reading, member_readings, joined, flat, schema_of, definitions_of, make_document, document_of}
use Rattle.schema_defs.proofs.Unknown.{keywords_are_members}
use Rattle.schema_faults.specs.declared.keyword.Holds.{Holds}
use Rattle.schema_faults.specs.declared.keyword.Holds.TheVariants.{Text, Anything, TypeNames, Values, Number, Multiple, Size, Flag, Texts, Schema, SomeSchemas, Schemas, SchemaOrSchemas, NamedSchemas, Defs, Definitions}
use Rattle.schema_faults.specs.Keywords.{Row, keywords, names_in, are_distinct, has_distinct_names, is_object}
use Rattle.schema_faults.specs.Schemas.{Node, held, nodes_at, schemas_of}
use Rattle.schema_faults.specs.Faults.{Place, Told, told_at, told_among, breaks, if_present, some_keyword, mark_if, malformed_keywords, fraction_marks, float_marks, holds_fraction, is_float, malformed_places, fraction_places}
use Rattle.schema_faults.specs.Laws.{ReadsWithoutFaults, FractionsAreFloats}
use Rattle.schema_faults.proofs.Walk.{held_at-member}
use Rattle.schema_faults.proofs.Readings.{is_empty, quiet, quiet-under, faults, star}
use Rattle.schema_faults.proofs.Objects.{GoodMaybe, and_left, and_right, or_left, or_right, both, same_truth, each_row, of_rows, row_test, quiet_object, rows_of, reads_of, reads_each, of_reads}
use Rattle.schema_faults.proofs.Documents.{good_at}
use Rattle.schema_faults.proofs.Definitions.{share, property_names, named_names, joined_some}

-- ---- the two keywords of definitions

abbrev pub fine : List ℕ → Option Value → Bool
fine k None = true
fine k (Some v) = has_distinct_names v && quiet faults ((held v).in_object k)

abbrev pub as_named : Option Value → Option (Option Properties)
as_named o = optional (λ r. r.as_named) (option_map reading o)

abbrev pub Seen : List ℕ → Option Value → Option (Option Properties) → Type 0
Seen k o None = fine k o ≡ false
Seen k o (Some p) = (property_names (unwrap_or p no_properties) ≡ names_in o) × (fine k o ≡ are_distinct (names_in o))

unseen : (a d q : Bool) → false ≡ (a && q) → ((a && d) && q) ≡ false
unseen true true q h = sym h
unseen true false q h = refl
unseen false d q h = refl

all_seen : (a d q : Bool) → true ≡ (a && q) → ((a && d) && q) ≡ d
all_seen true true q h = sym h
all_seen true false q h = refl
all_seen false d q h = absurd (true≢false h)

pub seen : (k : List ℕ) (o : Option Value) → GoodMaybe o → Seen k o (as_named o)
seen k None g = (refl, refl)
seen k (Some v) g = by_case (reading v).as_named refl
  where
    by_case : (n : Option Properties) → (reading v).as_named ≡ n → Seen k (Some v) (option_map Some n)
    by_case None e = unseen (is_object v) (are_distinct (names_in (Some v))) (quiet faults ((held v).in_object k)) (ap is_some (sym e) ∙ g.as_named k)
    by_case (Some ps) e = (named_names v ps e, all_seen (is_object v) (are_distinct (names_in (Some v))) (quiet faults ((held v).in_object k)) (ap is_some (sym e) ∙ g.as_named k))

second_false : (a b c : Bool) → b ≡ false → false ≡ (a && (b && c))
second_false true b c h = sym (ap (λ b. b && c) h)
second_false false b c h = refl

defined : (d e : List ℕ) (od oe : Option Value) (x y : Option (Option Properties)) → Seen d od x → Seen e oe y
    → is_some (flat (Some joined ⊛ x ⊛ y)) ≡ (fine e oe && (fine d od && not (share (names_in od) (names_in oe))))
defined d e od oe None None hx hy = second_false (fine e oe) (fine d od) (not (share (names_in od) (names_in oe))) hx
defined d e od oe None (Some q) hx hy = second_false (fine e oe) (fine d od) (not (share (names_in od) (names_in oe))) hx
defined d e od oe (Some p) None hx hy = sym (ap (λ a. a && (fine d od && not (share (names_in od) (names_in oe)))) hy)
defined d e od oe (Some p) (Some q) hx hy =
    joined_some (unwrap_or p no_properties) (unwrap_or q no_properties)
    ∙ (λ i. are_distinct (hy.0 i) && (are_distinct (hx.0 i) && not (share (hx.0 i) (hy.0 i))))
    ∙ sym (λ i. hy.1 i && (hx.1 i && not (share (names_in od) (names_in oe))))

twice : (b : Bool) → not (not b) ≡ b
twice true = refl
twice false = refl

regrouped : (a s q : Bool) → ((a && not s) && q) ≡ ((a && q) && not s)
regrouped true true true = refl
regrouped true true false = refl
regrouped true false true = refl
regrouped true false false = refl
regrouped false s q = refl

module _ (ms : Members) where
  abbrev under_defs : Option Value
  under_defs = member_at (codes "$defs") ms

  abbrev under_definitions : Option Value
  under_definitions = member_at (codes "definitions") ms

  abbrev look : Lookup
  look = lookup_of (member_readings ms)

  defs_at : (o : Option Value)
      → (not (breaks ms Defs o) && (not (if_present (holds_fraction Defs) o) && quiet faults (nodes_at (codes "$defs", Defs) (option_map held o)))) ≡ fine (codes "$defs") o
  defs_at None = refl
  defs_at (Some v) = λ i. twice (has_distinct_names v) i && quiet-under faults (codes "$defs") ((held v).in_object (codes "$defs")) i

  defs_row : row_test true ms (codes "$defs", Defs) ≡ fine (codes "$defs") under_defs
  defs_row =
      ap (λ h. not (breaks ms Defs under_defs) && (not (if_present (holds_fraction Defs) under_defs) && quiet faults (nodes_at (codes "$defs", Defs) h))) (held_at-member (codes "$defs") ms) ∙ defs_at under_defs

  definitions_at : (o : Option Value)
      → (not (breaks ms Definitions o) && (not (if_present (holds_fraction Definitions) o) && quiet faults (nodes_at (codes "definitions", Definitions) (option_map held o))))
      ≡ (fine (codes "definitions") o && not (share (names_in o) (names_in under_defs)))
  definitions_at None = refl
  definitions_at (Some v) =
      (λ i. twice (has_distinct_names v && not (share (names_in (Some v)) (names_in under_defs))) i && quiet-under faults (codes "definitions") ((held v).in_object (codes "definitions")) i)
      ∙ regrouped (has_distinct_names v) (share (names_in (Some v)) (names_in under_defs)) (quiet faults ((held v).in_object (codes "definitions")))

  definitions_row : row_test true ms (codes "definitions", Definitions) ≡ (fine (codes "definitions") under_definitions && not (share (names_in under_definitions) (names_in under_defs)))
  definitions_row =
      ap (λ h. not (breaks ms Definitions under_definitions) && (not (if_present (holds_fraction Definitions) under_definitions) && quiet faults (nodes_at (codes "definitions", Definitions) h)))
      (held_at-member (codes "definitions") ms)
      ∙ definitions_at under_definitions

  definitions_read : is_some (definitions_of look) ≡ (row_test true ms (codes "$defs", Defs) && row_test true ms (codes "definitions", Definitions))
  unfolding definitions_of
  definitions_read =
      (λ i. is_some (flat (Some joined ⊛ optional (λ r. r.as_named) (keywords_are_members (codes "definitions") ms i) ⊛ optional (λ r. r.as_named) (keywords_are_members (codes "$defs") ms i))))
      ∙ defined (codes "definitions") (codes "$defs") under_definitions under_defs (as_named under_definitions) (as_named under_defs)
      (seen (codes "definitions") under_definitions (good_at ms (codes "definitions"))) (seen (codes "$defs") under_defs (good_at ms (codes "$defs")))
      ∙ sym (λ i. defs_row i && definitions_row i)

  object_read : (setting : Setting) → is_some (document_of setting (value.object ms)) ≡ (is_some (schema_of look) && is_some (definitions_of look))
  unfolding document_of
  object_read setting = star (Some (make_document setting) ⊛ schema_of look) (definitions_of look) ∙ ap (λ b. b && is_some (definitions_of look)) (star (Some (make_document setting)) (schema_of look))

  object_quiet : (setting : Setting) → is_some (document_of setting (value.object ms)) ≡ list_all (row_test true ms) keywords
  object_quiet setting =
      same_truth (is_some (document_of setting (value.object ms))) (list_all (row_test true ms) keywords)
      (λ h.
      let r = sym (object_read setting) ∙ h in
      let d = sym definitions_read ∙ and_right (is_some (schema_of look)) (is_some (definitions_of look)) r in
      of_rows (row_test true ms) keywords (rows_of ms (good_at ms) true
      (and_left (row_test true ms (codes "$defs", Defs)) (row_test true ms (codes "definitions", Definitions)) d) (and_right (row_test true ms (codes "$defs", Defs)) (row_test true ms (codes "definitions", Definitions)) d)
      (reads_each look (and_left (is_some (schema_of look)) (is_some (definitions_of look)) r))))
      (λ h.
      let r = each_row (row_test true ms) keywords h in
      object_read setting ∙ both (is_some (schema_of look)) (is_some (definitions_of look)) (of_reads look (reads_of ms (good_at ms) true r))
      (definitions_read ∙ both (row_test true ms (codes "$defs", Defs)) (row_test true ms (codes "definitions", Definitions)) r.0 r.1.1.1.1.1.1.1.1.1.0))

-- ---- whole documents

pub document_quiet : (setting : Setting) (v : Value) → is_some (document_of setting v) ≡ quiet faults (schemas_of v)
unfolding document_of
document_quiet setting null = refl
document_quiet setting (value.boolean b) = refl
document_quiet setting (number z) = refl
document_quiet setting fraction = refl
document_quiet setting (text s) = refl
document_quiet setting (list xs) = refl
document_quiet setting (value.object ms) = object_quiet ms setting ∙ sym (quiet_object true [] ms)

-- ---- places

empty-append : {A : Type 0} (xs ys : List A) → is_empty (xs ++ ys) ≡ (is_empty xs && is_empty ys)
empty-append [] ys = refl
empty-append (x ∷ xs) ys = refl

empty-map : {A B : Type 0} (f : A → B) (xs : List A) → is_empty (map f xs) ≡ is_empty xs
empty-map f [] = refl
empty-map f (x ∷ xs) = refl

pub empty-told : (f : Told) (ns : List Node) → is_empty (told_among f ns) ≡ quiet f ns
empty-told f [] = refl
empty-told f (n ∷ ns) =
    empty-append (told_at f n) (told_among f ns) ∙ (λ i. empty-map (λ t. let p : Place = (n.steps, t) in p) (f n.at_root n.keyword n.value) i && empty-told f ns i)

pub is_none : {A : Type 0} (xs : List A) → is_empty xs ≡ true → xs ≡ []
is_none [] h = refl
is_none (x ∷ xs) h = absurd (true≢false (sym h))

shuffled : (a b c d : Bool) → ((a && b) && (c && d)) ≡ ((a && c) && (b && d))
shuffled true true c d = refl
shuffled true false true d = refl
shuffled true false false d = refl
shuffled false b c d = refl

pub quiet_both : (ns : List Node) → quiet faults ns ≡ (quiet malformed_keywords ns && quiet fraction_marks ns)
quiet_both [] = refl
quiet_both (n ∷ ns) =
    (λ i. empty-append (malformed_keywords n.at_root n.keyword n.value) (fraction_marks n.at_root n.keyword n.value) i && quiet_both ns i)
    ∙ shuffled (is_empty (malformed_keywords n.at_root n.keyword n.value)) (is_empty (fraction_marks n.at_root n.keyword n.value)) (quiet malformed_keywords ns) (quiet fraction_marks ns)

pub reads_without_faults : ReadsWithoutFaults
reads_without_faults setting v = (
  λ h.
      let q = sym (quiet_both (schemas_of v)) ∙ sym (document_quiet setting v) ∙ h in (
        is_none (malformed_places v) (empty-told malformed_keywords (schemas_of v) ∙ and_left (quiet malformed_keywords (schemas_of v)) (quiet fraction_marks (schemas_of v)) q),
        is_none (fraction_places v) (empty-told fraction_marks (schemas_of v) ∙ and_right (quiet malformed_keywords (schemas_of v)) (quiet fraction_marks (schemas_of v)) q),
      ),
  λ h. document_quiet setting v ∙ quiet_both (schemas_of v) ∙ both (quiet malformed_keywords (schemas_of v)) (quiet fraction_marks (schemas_of v))
      (sym (empty-told malformed_keywords (schemas_of v)) ∙ ap is_empty h.0) (sym (empty-told fraction_marks (schemas_of v)) ∙ ap is_empty h.1),
)

-- ---- floats

not_float : (h : Holds) (v : Value) → is_float h v ≡ false → holds_fraction h v ≡ false
not_float Text v e = refl
not_float Anything v e = e
not_float TypeNames v e = refl
not_float Values v e = e
not_float Number v e = e
not_float Multiple v e = e
not_float Size v e = e
not_float Flag v e = refl
not_float Texts v e = refl
not_float Schema v e = refl
not_float SomeSchemas v e = refl
not_float Schemas v e = refl
not_float SchemaOrSchemas v e = refl
not_float NamedSchemas v e = refl
not_float Defs v e = refl
not_float Definitions v e = refl

not_present : (h : Holds) (o : Option Value) → if_present (is_float h) o ≡ false → if_present (holds_fraction h) o ≡ false
not_present h None e = refl
not_present h (Some v) e = not_float h v e

no_row : (ms : Members) (rs : List Row) → list_any (λ r. if_present (is_float r.1) (member_at r.0 ms)) rs ≡ false → list_any (λ r. if_present (holds_fraction r.1) (member_at r.0 ms)) rs ≡ false
no_row ms [] e = refl
no_row ms (r ∷ rs) e =
    λ i. not_present r.1 (member_at r.0 ms) (or_left (if_present (is_float r.1) (member_at r.0 ms)) (list_any (λ r. if_present (is_float r.1) (member_at r.0 ms)) rs) e) i
    || no_row ms rs (or_right (if_present (is_float r.1) (member_at r.0 ms)) (list_any (λ r. if_present (is_float r.1) (member_at r.0 ms)) rs) e) i

no_keyword : (v : Value) → some_keyword is_float v ≡ false → some_keyword holds_fraction v ≡ false
no_keyword null e = refl
no_keyword (value.boolean b) e = refl
no_keyword (number z) e = refl
no_keyword fraction e = refl
no_keyword (text s) e = refl
no_keyword (list xs) e = refl
no_keyword (value.object ms) e = no_row ms keywords e

unmarked : (b : Bool) → is_empty (mark_if b) ≡ true → b ≡ false
unmarked true h = absurd (true≢false (sym h))
unmarked false h = refl

no_marks : (ns : List Node) → quiet float_marks ns ≡ true → quiet fraction_marks ns ≡ true
no_marks [] h = refl
no_marks (n ∷ ns) h =
    both (is_empty (fraction_marks n.at_root n.keyword n.value)) (quiet fraction_marks ns)
    (ap (λ b. is_empty (mark_if b)) (no_keyword n.value (unmarked (some_keyword is_float n.value) (and_left (is_empty (float_marks n.at_root n.keyword n.value)) (quiet float_marks ns) h))))
    (no_marks ns (and_right (is_empty (float_marks n.at_root n.keyword n.value)) (quiet float_marks ns) h))

pub fractions_are_floats : FractionsAreFloats
fractions_are_floats v h = is_none (fraction_places v) (empty-told fraction_marks (schemas_of v) ∙ no_marks (schemas_of v) (sym (empty-told float_marks (schemas_of v)) ∙ ap is_empty h))
