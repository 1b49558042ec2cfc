-- `oneOf` alone: its members with their places, and what is converted where they have the external shape.
use Rattle.std.proofs.Common.{◌≡◌, ℕ, suc, List, [], ◌∷◌, ◌++◌, map, filter, length, take, Bool, true, false, ◌&&◌, ◌||◌, not, Option, Some, None, is_some, option_map, option_and_then, refl, sym, ap, ◌∙◌, subst, ◌⊎◌, inl, inr, nat_le, codes}
use Rattle.std.specs.Prelude.{if◌then◌else◌}
use Rattle.std.specs.List.{list_all}
use Rattle.schema_defs.specs.declared.InstanceType.{InstanceType}
use Rattle.schema_defs.specs.declared.InstanceType.TheVariants.{Boolean, Object, Array, Text, Integer}
use Rattle.schema_defs.specs.Counts.{has_properties}
use Rattle.schema_defs.specs.Location.{Step, Location, place}
use Rattle.schema_defs.specs.Texts.{Relations}
use Rattle.schema_defs.specs.Schema.{Plain, Schema, boolean, object, Same, no_same, same_value, Lists, no_lists, Named, no_named, named, no_schema, the_schema, no_list, the_list, Schemas, no_more, schema, schema_list, Properties, no_properties, property, Document}
use Rattle.enum_defs.specs.Words as words
use Rattle.enum_defs.specs.Words.{Name, has_type, same_type, is_bare, without_same, without_lists, without_named, is_name, props_of, required_of}
use Rattle.enum_defs.specs.Shapes.{Case, text_case, may_list_texts, listed_texts, shape_of, closedness, is_null_schema, the_only, text_cases, external_cases, or_else, property_case, only_property, members_of}
use Rattle.model_defs.specs.Model.{external_tag}
use Rattle.convert_defs.specs.Row.{narrowed, widened, open_branch_note, string_note, Part, Finding, noted, branching, enum_row, VariantRow, by_contents, variants_parts, body_parts}
use Rattle.convert_defs.specs.Order.{same_place}
use Rattle.convert_defs.specs.Shapes.{Member, members_from, schemas_of, option_member, case_row, case_rows, external_rows}
use Rattle.convert_defs.specs.Standing.{words_or}
use Rattle.convert_defs.specs.Table.{has_text_keywords, is_open_object, is_open_shape, open_branches, is_ruled_text, text_branches, one_of_finding}
use Rattle.convert_defs.proofs.Bare.{and_left, and_right, impossible, no-lists, no-named}
use Rattle.convert_walks.specs.Spot.{Branches, branch_at}
use Rattle.plain_defs.specs.Words.{says_nothing, is_closed, is_only, is_uncounted, enumeration, constant, named_text, the_one, one_required, one_of_required}
use Rattle.plain_defs.specs.Rows.{Inner, rows_within, members_of_one, one_of, holds_property, holds_properties, are_within, holds_fields, holds_members, has_flag, is_shut_alone, sized_text, formatted_text, is_shut_where_one, plain_any, plain_boolean, plain_integer, plain_text, plain_list, plain_tuple, plain_map, plain_struct, plain_reference, plain_row}
use Rattle.plain_laws.proofs.Facts.{none-of, either, else-some, one-some, nothing, only}
use Rattle.plain_laws.proofs.Tree.{IsForm, IsUnwalked, AllUnwalked, PartsFit, FindingFits, Fits}
use Rattle.plain_laws.proofs.Findings.{finding-fits, fits-as}
use Rattle.plain_laws.proofs.Owners.{property-form}
use Rattle.plain_laws.proofs.NotNull.{row-cases, typed-cases}
use Rattle.plain_laws.proofs.Members.{IsTexts, IsObject, listed-texts, constant-texts, object-is, is-object}

-- ---- lists

module _ {A : Type 0} where
  pub filter-none : (f : A → Bool) (xs : List A) → list_all (λ x. not (f x)) xs ≡ true → filter f xs ≡ []
  filter-none f [] h = refl
  filter-none f (x ∷ xs) h = by (f x) (and_left (not (f x)) _ h) (filter-none f xs (and_right (not (f x)) _ h))
    where
      by : (b : Bool) → not b ≡ true → filter f xs ≡ [] → (if b then x ∷ filter f xs else filter f xs) ≡ []
      by true g k = impossible g
      by false g k = k

  pub filter-all : (f : A → Bool) (xs : List A) → list_all f xs ≡ true → filter f xs ≡ xs
  filter-all f [] h = refl
  filter-all f (x ∷ xs) h = by (f x) (and_left (f x) _ h) (filter-all f xs (and_right (f x) _ h))
    where
      by : (b : Bool) → b ≡ true → filter f xs ≡ xs → (if b then x ∷ filter f xs else filter f xs) ≡ x ∷ xs
      by true g k = ap (λ ys. x ∷ ys) k
      by false g k = impossible g

  pub all-weaker : (f g : A → Bool) → ((x : A) → f x ≡ true → g x ≡ true) → (xs : List A) → list_all f xs ≡ true → list_all g xs ≡ true
  all-weaker f g k [] h = refl
  all-weaker f g k (x ∷ xs) h = λ i. k x (and_left (f x) _ h) i && all-weaker f g k xs (and_right (f x) _ h) i

  same-either : (b : Bool) (o : Option A) → (if b then o else o) ≡ o
  same-either true o = refl
  same-either false o = refl

  pub only-none : (xs : List A) → (if nat_le 2 (length xs) then the_only xs else None) ≡ None
  only-none [] = refl
  only-none (x ∷ []) = refl
  only-none (x ∷ y ∷ xs) = same-either (nat_le 2 (length (x ∷ y ∷ xs))) None

-- ---- members

abbrev pub Each : (Member → Type 0) → List Member → Type 0
Each P [] = Unit {0}
Each P (m ∷ ms) = P m × Each P ms

-- what holds of the schemas holds of the members
pub each-member : (f : Schema → Bool) (P : Member → Type 0) → ((l : Location) (s : Schema) → f s ≡ true → P (l, s)) → (k : Step) (i : ℕ) (qs : Schemas) → list_all f (schema_list qs) ≡ true → Each P (members_from k i qs)
each-member f P g k i no_more h = tt
each-member f P g k i (schema s qs) h = (g (k ∷ place i ∷ []) s (and_left (f s) _ h), each-member f P g k (suc i) qs (and_right (f s) _ h))

pub all-members : (f : Schema → Bool) (k : Step) (i : ℕ) (qs : Schemas) → list_all f (schema_list qs) ≡ true → list_all (λ m. f m.1) (members_from k i qs) ≡ true
all-members f k i no_more h = refl
all-members f k i (schema s qs) h = λ i'. and_left (f s) _ h i' && all-members f k (suc i) qs (and_right (f s) _ h) i'

pub schemas-are : (k : Step) (i : ℕ) (qs : Schemas) → schemas_of (members_from k i qs) ≡ schema_list qs
schemas-are k i no_more = refl
schemas-are k i (schema s qs) = ap (λ ss. s ∷ ss) (schemas-are k (suc i) qs)

-- no option, where no member is null
pub no-option : (k : Step) (i : ℕ) (qs : Schemas) → list_all (λ s. not (is_null_schema s)) (schema_list qs) ≡ true → option_member (members_from k i qs) ≡ None
no-option k i qs h =
    ap (λ ms. if nat_le 2 (length (members_from k i qs)) then the_only ms else None) (filter-all (λ m. not (is_null_schema m.1)) (members_from k i qs) (all-members (λ s. not (is_null_schema s)) k i qs h))
    ∙ only-none (members_from k i qs)

pub unwalked-branch : (k : Location) (ms : Branches) → AllUnwalked ms → IsUnwalked (branch_at k ms)
unwalked-branch k [] u = tt
unwalked-branch k (m ∷ ms) u = by (same_place k m.0) (unwalked-branch k ms u.1)
  where
    by : (b : Bool) → IsUnwalked (branch_at k ms) → IsUnwalked (if b then m.1 else branch_at k ms)
    by true v = u.0
    by false v = v

pub all-unwalked : (ms : List Member) → Each (λ m. IsUnwalked m.1) ms → AllUnwalked ms
all-unwalked [] u = tt
all-unwalked (m ∷ ms) u = (u.0, all-unwalked ms u.1)

module _ (r : Relations) (d : Document) (most : ℕ) where
  -- ---- the one keyword that stands

  pub choice-fits : (j n : ℕ) (inner : Inner) (s : Schema) → nat_le n 0 ≡ false → nat_le n (length (one_of d inner s)) ≡ true
      → ((name : List ℕ) (qs : Schemas) → schema_list qs ≡ one_of d inner s → FindingFits r d most false j (one_of_finding d name (members_from (codes "oneOf") 0 qs))) → Fits r d most false j s
  choice-fits j n inner (boolean b) e h f = impossible (sym e ∙ h)
  choice-fits j n inner (object p ss ls ns) e h f = by (says_nothing p && (without_lists ls && without_named ns)) refl h f
    where
      by-same : (ss : Same) → says_nothing p ≡ true → without_lists ls ≡ true → without_named ns ≡ true → nat_le n (length (members_of_one d inner ss)) ≡ true
          → ((name : List ℕ) (qs : Schemas) → schema_list qs ≡ members_of_one d inner ss → FindingFits r d most false j (one_of_finding d name (members_from (codes "oneOf") 0 qs))) → Fits r d most false j (object p ss ls ns)
      by-same (same_value no_list no_list (the_list qs) no_schema false) g a b h f =
          let x = nothing p g in
          let m = x.most in
          fits-as r d most false j p (same_value no_list no_list (the_list qs) no_schema false) ls ns p.title p.description None None None None None None None (same_value no_list no_list (the_list qs) no_schema false) no_lists no_named
          refl refl m.default m.walk x.types m.format m.enum_values m.numbers m.texts m.reference m.const_value refl (no-lists ls a) (no-named ns b) (f (words_or p.title []) qs refl)
      by-same no_same g a b h f = impossible (sym e ∙ h)
      by-same (same_value no_list no_list (the_list qs) no_schema true) g a b h f = impossible (sym e ∙ h)
      by-same (same_value no_list no_list (the_list qs) (the_schema t) c) g a b h f = impossible (sym e ∙ h)
      by-same (same_value no_list no_list no_list none c) g a b h f = impossible (sym e ∙ h)
      by-same (same_value no_list (the_list us) alone none c) g a b h f = impossible (sym e ∙ h)
      by-same (same_value (the_list us) some alone none c) g a b h f = impossible (sym e ∙ h)

      by : (b : Bool) → (says_nothing p && (without_lists ls && without_named ns)) ≡ b → nat_le n (length (if b then members_of_one d inner ss else [])) ≡ true
          → ((name : List ℕ) (qs : Schemas) → schema_list qs ≡ (if b then members_of_one d inner ss else []) → FindingFits r d most false j (one_of_finding d name (members_from (codes "oneOf") 0 qs))) → Fits r d most false j (object p ss ls ns)
      by true g h f = let a = and_right (says_nothing p) _ g in by-same ss (and_left (says_nothing p) _ g) (and_left (without_lists ls) _ a) (and_right (without_lists ls) _ a) h f
      by false g h f = impossible (sym e ∙ h)

  -- ---- the external shape

  pub record ExternalFits (j : ℕ) (ms : Branches) (m : Member) : Type 0 where
    pub shut : is_open_object m ≡ false
    pub unruled : is_ruled_text m ≡ false
    pub parts : PartsFit r d most false j ms (variants_parts (case_rows m.0 (external_cases m.1)))

  module _ (j : ℕ) (all : Branches) where
    pub parts-both : (ps qs : List Part) → PartsFit r d most false j all ps → PartsFit r d most false j all qs → PartsFit r d most false j all (ps ++ qs)
    parts-both [] qs f g = g
    parts-both (p ∷ ps) qs f g = (f.0, parts-both ps qs f.1 g)

    parts-apart : (ps qs : List Part) → PartsFit r d most false j all (ps ++ qs) → PartsFit r d most false j all ps × PartsFit r d most false j all qs
    parts-apart [] qs f = (tt, f)
    parts-apart (p ∷ ps) qs f = let g = parts-apart ps qs f.1 in ((f.0, g.0), g.1)

    variants-both : (vs ws : List VariantRow) → PartsFit r d most false j all (variants_parts vs) → PartsFit r d most false j all (variants_parts ws) → PartsFit r d most false j all (variants_parts (vs ++ ws))
    variants-both [] ws f g = g
    variants-both (v ∷ vs) ws f g = let h = parts-apart (body_parts v.body) (variants_parts vs) f in parts-both (body_parts v.body) (variants_parts (vs ++ ws)) h.0 (variants-both vs ws h.1 g)

    rows-fit : (ms : List Member) → Each (ExternalFits j all) ms → PartsFit r d most false j all (variants_parts (external_rows ms))
    rows-fit [] h = tt
    rows-fit (m ∷ ms) h = variants-both (case_rows m.0 (external_cases m.1)) (external_rows ms) h.0.parts (rows-fit ms h.1)

    none-open : (ms : List Member) → Each (ExternalFits j all) ms → list_all (λ m. not (is_open_object m)) ms ≡ true
    none-open [] h = refl
    none-open (m ∷ ms) h = λ i. not (h.0.shut i) && none-open ms h.1 i

    none-ruled : (ms : List Member) → Each (ExternalFits j all) ms → list_all (λ m. not (is_ruled_text m)) ms ≡ true
    none-ruled [] h = refl
    none-ruled (m ∷ ms) h = λ i. not (h.0.unruled i) && none-ruled ms h.1 i

  abbrev external-finding : List Member → Finding
  external-finding ms = branching ms (noted (open_branches ms ++ text_branches ms) (enum_row external_tag by_contents (external_rows ms)))

  pub external-fits : (j : ℕ) (ms : List Member) → Each (ExternalFits j ms) ms → Each (λ m. IsUnwalked m.1) ms → FindingFits r d most false j (external-finding ms)
  external-fits j ms h u =
      finding-fits r d most false j (external-finding ms)
      (record {
        notes = λ i. map (λ m. record { way = narrowed; kind = open_branch_note; place = m.0 }) (filter-none is_open_object ms (none-open j ms ms h) i) ++ map (λ m. record { way = widened; kind = string_note; place = m.0 }) (filter-none is_ruled_text ms (none-ruled j ms ms h) i);
        patterns = refl;
        places = refl;
        faults = refl;
        listed = refl;
        unmerged = refl;
      }) (all-unwalked ms u) (rows-fit j ms ms h)

  -- ---- one member of it

  text-parts : (l : Location) (ts : List Name) → variants_parts (map (case_row l) (map text_case ts)) ≡ []
  text-parts l [] = refl
  text-parts l (t ∷ ts) = text-parts l ts

  pub texts-fit : (j : ℕ) (ms : Branches) (l : Location) (s : Schema) (ts : List Name) → IsTexts s ts → ExternalFits j ms (l, s)
  texts-fit j ms l s ts t = record {
    shut = ap is_open_shape t.shape;
    unruled = by (is_some (text_cases s)) _ t.unruled;
    parts = subst (λ cs. PartsFit r d most false j ms (variants_parts (case_rows l cs))) (sym t.cases) (subst (PartsFit r d most false j ms) (sym (text-parts l ts)) tt);
  }
    where
      by : (a b : Bool) → b ≡ false → (a && b) ≡ false
      by true b h = h
      by false b h = refl

  -- the one property, which is a row of two levels below
  object-parts : (i : ℕ) (ms : Branches) → AllUnwalked ms → (l : Location) (c : Bool) (required : List Name) (ps : Properties) → holds_properties d (rows_within d i) required ps ≡ true
      → PartsFit r d most false (suc i) ms (variants_parts (case_rows l (only_property c required ps)))
  object-parts i ms u l c required no_properties h = tt
  object-parts i ms u l c required (property k s (property k' s' ps)) h = tt
  object-parts i ms u l c required (property k s no_properties) h = by (is_name k required) (property-form r d most i required k s (and_left (holds_property d (rows_within d i) required k s) _ h))
    where
      by : (b : Bool) → IsForm d i s → PartsFit r d most false (suc i) ms (variants_parts (case_rows l (if b then Some (record { name = k; content = Some s; closed = c } ∷ []) else None)))
      by true f = ((i, refl, unwalked-branch (take 2 (l ++ codes "properties" ∷ k ∷ [])) ms u, f), tt)
      by false f = tt

  pub properties-hold : (inner : Inner) (s : Schema) → plain_struct d inner s ≡ true → holds_properties d inner (required_of (members_of s)) (props_of (members_of s)) ≡ true
  properties-hold inner (boolean b) h = impossible h
  properties-hold inner (object p ss ls ns) h = by ns (either (holds_fields d inner ns && has_flag d inner ns) _ (and_right (without_lists ls) _ (and_right (without_same ss) _ (and_right (is_only Object p) _ h))))
    where
      by-fields : (ns : Named) → holds_fields d inner ns ≡ true → holds_properties d inner (required_of ns) (props_of ns) ≡ true
      by-fields no_named h = impossible h
      by-fields (named props no_properties rest no_schema rules) h = and_right (are_within d inner rules.required props) _ (and_right (is_uncounted rules) _ (and_right (has_properties props) _ h))
      by-fields (named props no_properties rest (the_schema t) rules) h = impossible h
      by-fields (named props (property k s ps) rest names rules) h = impossible h

      by : (ns : Named) → ((holds_fields d inner ns && has_flag d inner ns) ≡ true) ⊎ (is_shut_alone d inner ns ≡ true) → holds_properties d inner (required_of ns) (props_of ns) ≡ true
      by ns (inl g) = by-fields ns (and_left (holds_fields d inner ns) _ g)
      by no_named (inr g) = refl
      by (named no_properties patterns rest names rules) (inr g) = refl
      by (named (property k s ps) patterns rest names rules) (inr g) = impossible g

  pub object-cases : (s : Schema) → IsObject s → external_cases s ≡ only_property (is_closed s) (required_of (members_of s)) (props_of (members_of s))
  object-cases s o = λ i. or_else (o.texts i) (option_and_then property_case (o.shape i))

  and-second : (a b : Bool) → b ≡ false → (a && b) ≡ false
  and-second true b h = h
  and-second false b h = refl

  pub objects-fit : (i : ℕ) (ms : Branches) → AllUnwalked ms → (l : Location) (s : Schema) → plain_struct d (rows_within d i) s ≡ true → is_closed s ≡ true → ExternalFits (suc i) ms (l, s)
  objects-fit i ms u l s h c =
      let o = is-object d (rows_within d i) s h in
      record {
        shut = ap is_open_shape o.shape ∙ ap not c;
        unruled = and-second (is_some (text_cases s)) (has_text_keywords s) o.unruled;
        parts = subst (λ cs. PartsFit r d most false (suc i) ms (variants_parts (case_rows l cs))) (sym (object-cases s o)) (object-parts i ms u l (is_closed s) (required_of (members_of s)) (props_of (members_of s)) (properties-hold (rows_within d i) s h));
      }

-- ---- rows without the external shape

no-external : (p : Plain) (ss : Same) (ls : Lists) (ns : Named) → p.const_value ≡ None → p.enum_values ≡ None → has_type Object p.types ≡ false → external_cases (object p ss ls ns) ≡ None
no-external p ss ls ns c e t =
    (λ i. or_else (if may_list_texts s then option_map (map text_case) (listed_texts (c i) (e i)) else None) (option_and_then property_case (if t i && is_bare p ss && words.is_unruled p && without_lists ls then shape_of ns else None)))
    ∙ ap (λ o. or_else o None) (same-either (may_list_texts s) None)
  where
    s : Schema
    s = object p ss ls ns

module _ (d : Document) (inner : Inner) where
  -- of that type alone, which is no object
  typed-none : (k : InstanceType) (p q : Plain) (ss : Same) (ls : Lists) (ns : Named) (b : Bool) → same_type Object k ≡ false → q.types ≡ p.types → q.const_value ≡ p.const_value → q.enum_values ≡ p.enum_values → (is_only k q && b) ≡ true → external_cases (object p ss ls ns) ≡ None
  typed-none k p q ss ls ns b f t c e h =
      let n = only q k (and_left (is_only k q) b h) in
      no-external p ss ls ns (sym c ∙ n.most.const_value) (sym e ∙ n.most.enum_values) (ap (has_type Object) (sym t ∙ n.types) ∙ f)

  untyped-none : (p q : Plain) (ss : Same) (ls : Lists) (ns : Named) → q.types ≡ p.types → q.const_value ≡ p.const_value → q.enum_values ≡ p.enum_values → says_nothing q ≡ true → external_cases (object p ss ls ns) ≡ None
  untyped-none p q ss ls ns t c e h = let n = nothing q h in no-external p ss ls ns (sym c ∙ n.most.const_value) (sym e ∙ n.most.enum_values) (ap (has_type Object) (sym t ∙ n.types))

  none-any : (s : Schema) → plain_any d inner s ≡ true → external_cases s ≡ None
  none-any (boolean b) h = refl
  none-any (object p ss ls ns) h = untyped-none p p ss ls ns refl refl refl (and_left (says_nothing p) _ h)

  none-boolean : (s : Schema) → plain_boolean d inner s ≡ true → external_cases s ≡ None
  none-boolean (boolean b) h = refl
  none-boolean (object p ss ls ns) h = typed-none Boolean p p ss ls ns _ refl refl refl refl h

  none-integer : (s : Schema) → plain_integer d inner s ≡ true → external_cases s ≡ None
  none-integer (boolean b) h = refl
  none-integer (object p ss ls ns) h = typed-none Integer p (record p { format = None; numbers = None }) ss ls ns _ refl refl refl refl h

  none-sized : (s : Schema) → sized_text d inner s ≡ true → external_cases s ≡ None
  none-sized (boolean b) h = refl
  none-sized (object p ss ls ns) h = typed-none Text p (record p { texts = None }) ss ls ns _ refl refl refl refl h

  none-formatted : (s : Schema) → formatted_text d inner s ≡ true → external_cases s ≡ None
  none-formatted (boolean b) h = refl
  none-formatted (object p ss ls ns) h = typed-none Text p (record p { format = None }) ss ls ns _ refl refl refl refl h

  none-list : (s : Schema) → plain_list d inner s ≡ true → external_cases s ≡ None
  none-list (boolean b) h = refl
  none-list (object p ss ls ns) h = typed-none Array p p ss ls ns _ refl refl refl refl h

  none-tuple : (s : Schema) → plain_tuple d inner s ≡ true → external_cases s ≡ None
  none-tuple (boolean b) h = refl
  none-tuple (object p ss ls ns) h = typed-none Array p p ss ls ns _ refl refl refl refl h

  no-members : (ns : Named) → holds_members d inner ns ≡ true → props_of ns ≡ no_properties
  no-members no_named h = refl
  no-members (named no_properties patterns rest names rules) h = refl
  no-members (named (property k s ps) patterns rest names rules) h = impossible h

  none-map : (s : Schema) → plain_map d inner s ≡ true → external_cases s ≡ None
  none-map (boolean b) h = refl
  none-map (object p ss ls ns) h =
      ap external_cases (object-is d inner p ss ls ns (holds_members d inner ns) h)
      ∙ by (closedness ns) (no-members ns (and_right (without_lists ls) _ (and_right (without_same ss) _ (and_right (is_only Object p) _ h))))
    where
      by : (o : Option Bool) → props_of ns ≡ no_properties → option_and_then property_case (option_map (λ c. record { object = ns; closed = c }) o) ≡ None
      by None e = refl
      by (Some c) e = ap (only_property c (required_of ns)) e

  none-reference : (s : Schema) → plain_reference d inner s ≡ true → external_cases s ≡ None
  none-reference (boolean b) h = refl
  none-reference (object p ss ls ns) h = untyped-none p (record p { reference = None }) ss ls ns refl refl refl (and_left (says_nothing (record p { reference = None })) _ h)

  none-choice : (n : ℕ) (s : Schema) → nat_le n 0 ≡ false → nat_le n (length (one_of d inner s)) ≡ true → external_cases s ≡ None
  none-choice n (boolean b) e h = refl
  none-choice n (object p ss ls ns) e h = untyped-none p p ss ls ns refl refl refl (and_left (says_nothing p) _ (none-of (says_nothing p && (without_lists ls && without_named ns)) _ n e h))

-- ---- rows with the external shape

module _ (r : Relations) (d : Document) (most : ℕ) (i : ℕ) (ms : Branches) (u : AllUnwalked ms) (l : Location) (s : Schema) where
  abbrev inner_i : Inner
  inner_i = rows_within d i

  none-fits : external_cases s ≡ None → is_some (external_cases s) ≡ true → ExternalFits r d most (suc i) ms (l, s)
  none-fits e h = impossible (sym (ap is_some e) ∙ h)

  listed-fits : is_some (enumeration s) ≡ true → ExternalFits r d most (suc i) ms (l, s)
  listed-fits h = by (enumeration s) refl h
    where
      by : (o : Option (List Name)) → enumeration s ≡ o → is_some o ≡ true → ExternalFits r d most (suc i) ms (l, s)
      by None e h = impossible h
      by (Some ts) e h = texts-fit r d most (suc i) ms l s ts (listed-texts s ts e)

  constant-fits : is_some (constant s) ≡ true → ExternalFits r d most (suc i) ms (l, s)
  constant-fits h = by (constant s) refl h
    where
      by : (o : Option Name) → constant s ≡ o → is_some o ≡ true → ExternalFits r d most (suc i) ms (l, s)
      by None e h = impossible h
      by (Some t) e h = texts-fit r d most (suc i) ms l s (t ∷ []) (constant-texts s t e)

  named-fits : is_some (named_text s) ≡ true → ExternalFits r d most (suc i) ms (l, s)
  named-fits h = by (else-some (constant s) (the_one (enumeration s)) h)
    where
      by : (is_some (constant s) ≡ true) ⊎ (is_some (the_one (enumeration s)) ≡ true) → ExternalFits r d most (suc i) ms (l, s)
      by (inl k) = constant-fits k
      by (inr k) = listed-fits (one-some (enumeration s) k)

  fits-text : plain_text d inner_i s ≡ true → is_some (external_cases s) ≡ true → ExternalFits r d most (suc i) ms (l, s)
  fits-text h g = by (either (sized_text d inner_i s) _ h)
    where
      by-2 : (is_some (enumeration s) ≡ true) ⊎ (is_some (named_text s) ≡ true) → ExternalFits r d most (suc i) ms (l, s)
      by-2 (inl k) = listed-fits k
      by-2 (inr k) = named-fits k

      by-1 : (formatted_text d inner_i s ≡ true) ⊎ ((is_some (enumeration s) || is_some (named_text s)) ≡ true) → ExternalFits r d most (suc i) ms (l, s)
      by-1 (inl k) = none-fits (none-formatted d inner_i s k) g
      by-1 (inr k) = by-2 (either (is_some (enumeration s)) _ k)

      by : (sized_text d inner_i s ≡ true) ⊎ ((formatted_text d inner_i s || (is_some (enumeration s) || is_some (named_text s))) ≡ true) → ExternalFits r d most (suc i) ms (l, s)
      by (inl k) = none-fits (none-sized d inner_i s k) g
      by (inr k) = by-1 (either (formatted_text d inner_i s) _ k)

  -- an object of one property, required, is closed
  shut-one : (c : Bool) (required : List Name) (ps : Properties) → is_some (only_property c required ps) ≡ true → is_some (one_of_required required ps) ≡ true
  shut-one c required no_properties h = impossible h
  shut-one c required (property k t no_properties) h = by (is_name k required) h
    where
      by : (b : Bool) → is_some {T = List Case} (if b then Some (record { name = k; content = Some t; closed = c } ∷ []) else None) ≡ true → is_some {T = Name × Schema} (if b then Some (k, t) else None) ≡ true
      by true h = refl
      by false h = impossible h
  shut-one c required (property k t (property k' t' ps)) h = impossible h

  fits-struct : plain_struct d inner_i s ≡ true → is_shut_where_one d inner_i s ≡ true → is_some (external_cases s) ≡ true → ExternalFits r d most (suc i) ms (l, s)
  fits-struct h g e =
      objects-fit r d most i ms u l s h
      (by (is_some (one_required s)) (is_closed s) (shut-one (is_closed s) (required_of (members_of s)) (props_of (members_of s)) (sym (ap is_some (object-cases r d most s (is-object d inner_i s h))) ∙ e)) g)
    where
      by : (a b : Bool) → a ≡ true → (not a || b) ≡ true → b ≡ true
      by true b h g = g
      by false b h g = impossible h

  pub row-fits : plain_row d inner_i s ≡ true → is_shut_where_one d inner_i s ≡ true → is_some (external_cases s) ≡ true → ExternalFits r d most (suc i) ms (l, s)
  row-fits h g e =
      row-cases d inner_i (ExternalFits r d most (suc i) ms (l, s)) s h (λ k. none-fits (none-any d inner_i s k) e)
      (λ k. typed-cases d inner_i (ExternalFits r d most (suc i) ms (l, s)) s k (λ k. none-fits (none-boolean d inner_i s k) e) (λ k. none-fits (none-integer d inner_i s k) e) (λ k. fits-text k e) (λ k. none-fits (none-list d inner_i s k) e) (λ k. none-fits (none-tuple d inner_i s k) e) (λ k. none-fits (none-map d inner_i s k) e) (λ k. fits-struct k g e))
      (λ k. none-fits (none-reference d inner_i s k) e)
      (λ k. none-fits (none-choice d inner_i 2 s refl (and_left (nat_le 2 (length (one_of d inner_i s))) _ k)) e)
      (λ k. none-fits (none-choice d inner_i 1 s refl (and_left (nat_le 1 (length (one_of d inner_i s))) _ k)) e)
      (λ k. none-fits (none-choice d inner_i 2 s refl (and_left (nat_le 2 (length (one_of d inner_i s))) _ k)) e)
