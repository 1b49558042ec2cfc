-- `oneOf` of rows of other kinds.
use Rattle.std.proofs.Common.{◌≡◌, ℕ, zero, suc, List, [], ◌∷◌, ◌++◌, map, length, Bool, true, false, ◌&&◌, ◌||◌, not, Option, Some, None, is_some, option_map, option_and_then, refl, sym, ap, ◌∙◌, subst, nat_le, codes}
use Rattle.std.specs.List.{list_all}
use Rattle.schema_defs.specs.declared.InstanceType.TheVariants.{Object}
use Rattle.schema_defs.specs.Location.{Step, place}
use Rattle.schema_defs.specs.Texts.{Relations}
use Rattle.schema_defs.specs.Schema.{Schema, boolean, object, Schemas, no_more, schema, schema_list, Document}
use Rattle.enum_defs.specs.declared.KindSet.{KindSet}
use Rattle.enum_defs.specs.Words as words
use Rattle.enum_defs.specs.Words.{has_type, is_bare, without_lists, all_some}
use Rattle.enum_defs.specs.Shapes.{Case, ObjectShape, is_null_schema, is_object_alone, shape_of, object_shape, external_cases, all_cases, external_shape, if_differ, adjacent_of, internal_by}
use Rattle.enum_defs.specs.Kinds.{kinds}
use Rattle.enum_defs.specs.Exclusive.{is_disjoint, are_apart, exclusive}
use Rattle.convert_defs.specs.Row.{Finding, noted, here, widened, overlap_note, variants_parts}
use Rattle.convert_defs.specs.IntegerRow.{note_if}
use Rattle.convert_defs.specs.Shapes as shapes
use Rattle.convert_defs.specs.Shapes.{Member, members_from, schemas_of, external_rows, adjacent_members}
use Rattle.convert_defs.specs.Table.{untagged_variant, untagged_row, one_of_option, one_of_external, one_of_adjacent, one_of_internal, one_of_only, one_of_finding}
use Rattle.convert_defs.proofs.Bare.{and_left, and_right, impossible, is-none, has_type-is, bare-facts, four}
use Rattle.convert_walks.specs.Spot.{Branches}
use Rattle.plain_defs.specs.Rows.{Inner, rows_within, one_of, is_shut_where_one, are_disjoint, plain_row, plain_kinds}
use Rattle.plain_laws.proofs.Facts.{if-some, bind-some, map-some, no-same}
use Rattle.plain_laws.proofs.Tree.{IsForm, a_row, IsUnwalked, AllUnwalked, PartsFit, FindingFits, Fits}
use Rattle.plain_laws.proofs.Findings.{finding-fits}
use Rattle.plain_laws.proofs.NotNull.{row-not-null}
use Rattle.plain_laws.proofs.Nullables.{or-first}
use Rattle.plain_laws.proofs.Choices.{Each, all-weaker, each-member, schemas-are, no-option, all-unwalked, choice-fits, ExternalFits, external-fits, row-fits}

-- ---- object shapes are of one kind

pub object-kind : (d : Document) (s : Schema) → is_some (object_shape s) ≡ true → (kinds d s).object ≡ true
object-kind d (boolean b) h = impossible h
object-kind d (object p ss ls ns) h =
    let i = if-some (is_object_alone (object p ss ls ns)) (shape_of ns) h in
    let f = four (has_type Object p.types) (is_bare p ss) (words.is_unruled p) (without_lists ls) i.0 in
    let b = bare-facts p ss f.1 in
    λ i. (kinds d (object (record p { types = has_type-is Object p.types f.0 i; enum_values = is-none p.enum_values b.0 i; const_value = is-none p.const_value b.1 i; reference = is-none p.reference b.2 i }) (no-same ss b.3 i) ls ns)).object

or-true : (a b : Bool) → b ≡ true → (a || b) ≡ true
or-true true b h = refl
or-true false b h = h

both-objects : (a b : KindSet) → a.object ≡ true → b.object ≡ true → is_disjoint a b ≡ false
both-objects a b h g = ap not (or-true _ (a.object && b.object) (λ i. h i && g i))

module _ (d : Document) (inner : Inner) where
  no-shapes : (s t : Schema) (ss : List Schema) → is_disjoint (kinds d s) (kinds d t) ≡ true → all_some object_shape (s ∷ t ∷ ss) ≡ None
  no-shapes s t ss h = by (object_shape s) refl
    where
      by-2 : (o : ObjectShape) → object_shape s ≡ Some o → (x : Option ObjectShape) → object_shape t ≡ x → option_map (λ ys. o ∷ ys) (option_and_then (λ y. option_map (λ ys. y ∷ ys) (all_some object_shape ss)) x) ≡ None
      by-2 o e None f = refl
      by-2 o e (Some w) f = impossible (sym (both-objects (kinds d s) (kinds d t) (object-kind d s (ap is_some e)) (object-kind d t (ap is_some f))) ∙ h)

      by : (x : Option ObjectShape) → object_shape s ≡ x → option_and_then (λ y. option_map (λ ys. y ∷ ys) (all_some object_shape (t ∷ ss))) x ≡ None
      by None e = refl
      by (Some o) e = by-2 o e (object_shape t) refl

  some-apart : (s : Schema) (ss : List Schema) → list_all (λ t. is_disjoint (kinds d s) (kinds d t)) ss ≡ true → list_all (are_apart d s) ss ≡ true
  some-apart s ss h = all-weaker (λ t. is_disjoint (kinds d s) (kinds d t)) (are_apart d s) (λ t k. or-first (is_disjoint (kinds d s) (kinds d t)) _ k) ss h

  are-exclusive : (ss : List Schema) → are_disjoint d inner ss ≡ true → exclusive d ss ≡ true
  are-exclusive [] h = refl
  are-exclusive (s ∷ ss) h = λ i. some-apart s ss (and_left (list_all (λ t. is_disjoint (kinds d s) (kinds d t)) ss) _ h) i && are-exclusive ss (and_right (list_all (λ t. is_disjoint (kinds d s) (kinds d t)) ss) _ h) i

  -- ---- members with the external shape have cases

  some-cases : (s : Schema) (ss : List Schema) → is_some (all_cases (s ∷ ss)) ≡ true → (is_some (external_cases s) ≡ true) × (is_some (all_cases ss) ≡ true)
  some-cases s ss h = by (external_cases s) h
    where
      by : (x : Option (List Case)) → is_some (option_and_then (λ cs. option_map (λ others. cs ++ others) (all_cases ss)) x) ≡ true → (is_some x ≡ true) × (is_some (all_cases ss) ≡ true)
      by None h = impossible h
      by (Some cs) h = (refl, map-some (λ others. cs ++ others) (all_cases ss) h)

module _ (r : Relations) (d : Document) (most : ℕ) where
  -- ---- untagged

  untagged-parts : (j : ℕ) (ms : List Member) → Each (λ m. IsForm d j m.1) ms → PartsFit r d most false j [] (variants_parts (map untagged_variant ms))
  untagged-parts j [] h = tt
  untagged-parts j (m ∷ ms) h = (h.0, untagged-parts j ms h.1)

  untagged-fits : (j : ℕ) (ms : List Member) → exclusive d (schemas_of ms) ≡ true → Each (λ m. IsForm d j m.1) ms → FindingFits r d most false j (one_of_only d ms None)
  untagged-fits j ms e h =
      finding-fits r d most false j (noted (note_if (not (exclusive d (schemas_of ms))) (here widened overlap_note)) (untagged_row ms))
      (record { notes = ap (λ b. note_if (not b) (here widened overlap_note)) e; patterns = refl; places = refl; faults = refl; listed = refl; unmerged = refl }) tt (untagged-parts j ms h)

  module _ (i : ℕ) where
    abbrev row : Schema → Bool
    row = plain_row d (rows_within d i)

    abbrev inner : Inner
    inner = rows_within d (suc i)

    external-each : (all : Branches) → AllUnwalked all → (k : Step) (n : ℕ) (qs : Schemas) → list_all row (schema_list qs) ≡ true → list_all (is_shut_where_one d inner) (schema_list qs) ≡ true → is_some (all_cases (schema_list qs)) ≡ true
        → Each (ExternalFits r d most (suc i) all) (members_from k n qs)
    external-each all u k n no_more h g e = tt
    external-each all u k n (schema s qs) h g e =
        let c = some-cases d inner s (schema_list qs) e in (
          row-fits r d most i all u (k ∷ place n ∷ []) s (and_left (row s) _ h) (and_left (is_shut_where_one d inner s) _ g) c.0,
          external-each all u k (suc n) qs (and_right (row s) _ h) (and_right (is_shut_where_one d inner s) _ g) c.1,
        )

    unwalked-row : (s : Schema) → row s ≡ true → (level : (j : ℕ) (s : Schema) → IsForm d (suc j) s → IsUnwalked s) → IsUnwalked s
    unwalked-row s h level = level i s (a_row h)

    module _ (unwalked : (s : Schema) → row s ≡ true → IsUnwalked s) (s t : Schema) (qs : Schemas) where
      abbrev all : Schemas
      all = schema s (schema t qs)

      abbrev ms : List Member
      ms = members_from (codes "oneOf") 0 all

      abbrev Found : Finding → Type 0
      Found f = FindingFits r d most false (suc i) f

      module _ (rows : list_all row (schema_list all) ≡ true) (apart : are_disjoint d inner (schema_list all) ≡ true) (shut : list_all (is_shut_where_one d inner) (schema_list all) ≡ true) where
        all-are-unwalked : Each (λ m. IsUnwalked m.1) ms
        all-are-unwalked = each-member row (λ m. IsUnwalked m.1) (λ l s h. unwalked s h) (codes "oneOf") 0 all rows

        by-kind : Found (one_of_adjacent d ms (adjacent_members ms))
        by-kind =
            let none : all_some object_shape (schemas_of ms) ≡ None = ap (all_some object_shape) (schemas-are (codes "oneOf") 0 all)
            ∙ no-shapes d inner s t (schema_list qs) (and_left (is_disjoint (kinds d s) (kinds d t)) _ (and_left (list_all (λ u. is_disjoint (kinds d s) (kinds d u)) (t ∷ schema_list qs)) _ apart)) in
            subst (λ o. Found (one_of_adjacent d ms (option_map (shapes.adjacent_of ms) (option_and_then adjacent_of o)))) (sym none)
            (subst (λ o. Found (one_of_internal d ms (option_map (shapes.internal_of d.setting ms) (option_and_then internal_by o)))) (sym none)
            (untagged-fits (suc i) ms (ap (exclusive d) (schemas-are (codes "oneOf") 0 all) ∙ are-exclusive d inner (schema_list all) apart) (each-member row (λ m. IsForm d (suc i) m.1) (λ l s h. a_row h) (codes "oneOf") 0 all rows)))

        by-external : (x : Option (List Case)) → external_shape (schemas_of ms) ≡ x → Found (one_of_external d ms (option_map (λ cs. external_rows ms) x))
        by-external None e = by-kind
        by-external (Some cs) e =
            external-fits r d most (suc i) ms
            (external-each ms (all-unwalked ms all-are-unwalked) (codes "oneOf") 0 all rows shut
            (subst (λ ss. is_some (all_cases ss) ≡ true) (schemas-are (codes "oneOf") 0 all) (bind-some (if_differ (λ c. c.name)) (all_cases (schemas_of ms)) (ap is_some e))))
            all-are-unwalked

        pub two-or-more : (name : List ℕ) → Found (one_of_finding d name ms)
        two-or-more name =
            subst (λ o. Found (one_of_option d ms o)) (sym (no-option (codes "oneOf") 0 all (all-weaker row (λ s. not (is_null_schema s)) (λ s h. ap not (row-not-null d (rows_within d i) s h)) (schema_list all) rows)))
            (by-external (external_shape (schemas_of ms)) refl)

  abbrev rest_of : ℕ → List Schema → Bool
  rest_of j ss = are_disjoint d (rows_within d j) ss && list_all (is_shut_where_one d (rows_within d j)) ss

  abbrev rows_of : ℕ → List Schema → Bool
  rows_of j ss = list_all (rows_within d j).row ss

  pub row-kinds : (unwalked : (j : ℕ) (s : Schema) → (rows_within d j).row s ≡ true → IsUnwalked s) → (j : ℕ) (s : Schema) → plain_kinds d (rows_within d j) s ≡ true → Fits r d most false j s
  row-kinds unwalked j s h =
      choice-fits r d most j 2 (rows_within d j) s refl (and_left (nat_le 2 (length (one_of d (rows_within d j) s))) _ h)
      (λ name qs e. by j name qs (subst (λ ss. (nat_le 2 (length ss) && (rows_of j ss && rest_of j ss)) ≡ true) (sym e) h))
    where
      by : (j : ℕ) (name : List ℕ) (qs : Schemas) → (nat_le 2 (length (schema_list qs)) && (rows_of j (schema_list qs) && rest_of j (schema_list qs))) ≡ true → FindingFits r d most false j (one_of_finding d name (members_from (codes "oneOf") 0 qs))
      by j name no_more h = impossible h
      by j name (schema s no_more) h = impossible h
      by zero name (schema s (schema t qs)) h =
          impossible (and_left (rows_of zero (s ∷ t ∷ schema_list qs)) (rest_of zero (s ∷ t ∷ schema_list qs)) (and_right (nat_le 2 (length (s ∷ t ∷ schema_list qs))) (rows_of zero (s ∷ t ∷ schema_list qs) && rest_of zero (s ∷ t ∷ schema_list qs)) h))
      by (suc i) name (schema s (schema t qs)) h =
          let ss : List Schema = s ∷ t ∷ schema_list qs in
          let a = and_right (nat_le 2 (length ss)) (rows_of (suc i) ss && rest_of (suc i) ss) h in
          let b = and_right (rows_of (suc i) ss) (rest_of (suc i) ss) a in
          two-or-more i (unwalked (suc i)) s t qs (and_left (rows_of (suc i) ss) (rest_of (suc i) ss) a) (and_left (are_disjoint d (rows_within d (suc i)) ss) (list_all (is_shut_where_one d (rows_within d (suc i))) ss) b)
          (and_right (are_disjoint d (rows_within d (suc i)) ss) (list_all (is_shut_where_one d (rows_within d (suc i))) ss) b) name
