-- External enums: the text of a unit, or one member named by another variant.
use Rattle.schema_defs.specs.declared.Setting.{Setting}
use Rattle.schema_defs.specs.Layer.{MemberPart as SchemaMember}
use Rattle.std.proofs.Common.{◌≡◌, ℕ, suc, List, [], ◌∷◌, ◌++◌, map, filter, Bool, true, false, ◌&&◌, ◌||◌, not, Option, Some, None, is_none, is_some, option_map, option_and_then, refl, sym, ap, ◌∙◌, subst, true≢false, codes, bytes_eq}
use Rattle.std.specs.Prelude.{if◌then◌else◌, ◌==◌}
use Rattle.std.specs.List.{list_all, list_any, flat_map}
use Rattle.std.proofs.lemmas.Slice.Eq.{bytes_eq-Decides}
use Rattle.json_value.specs.Value as value
use Rattle.json_value.specs.Value.{Value, Members, member, no_members, same, null, number, fraction, text, list, has_name}
use Rattle.schema_defs.specs.declared.InstanceType.TheVariants.{Object, Text}
use Rattle.schema_defs.specs.Location.{Step, place}
use Rattle.schema_defs.specs.Texts.{Relations}
use Rattle.schema_defs.specs.Schema.{Types, one_type, many_types, Texts, Plain, Schema, boolean, object, Same, Lists, Named, no_named, named, no_schema, the_schema, Properties, no_properties, property, Schemas, no_more, schema, Document}
use Rattle.schema_defs.specs.Layer.{Parts, judge, judge_any, judge_count, judge_same, if_given, types_agree, is_listed, is_kind, of_kind_agrees, parts_agree, texts_agree, text_format_agrees, maybe, property_at, is_given}
use Rattle.model_defs.specs.Model.{external_tag}
use Rattle.model_defs.specs.Layer as model
use Rattle.model_defs.specs.Layer.{MemberPart, no_parts, list_parts, object_parts, is_text}
use Rattle.entry_defs.specs.Entry.{Target, Entry, boolean_entry, integer_entry, text_entry, native_entry, any_entry, unit_entry, option_entry, vec_entry, set_entry, map_entry, tuple_entry, array_entry, reference, item, Shape, struct_shape, enum_shape, newtype_shape, rest_of, newtype_contents, tuple_contents, struct_contents, VariantEntry, variants_of}
use Rattle.entry_defs.specs.Layer as entry
use Rattle.entry_defs.specs.Layer.{entry_takes, variant_named, is_unit, is_unit_named, contents_entry, contents_take, external_takes}
use Rattle.entry_defs.specs.Members.{has_member, AreMembers}
use Rattle.enum_defs.specs.Shapes as shape
use Rattle.convert_defs.specs.Row.{Way, narrowed, widened, string_note, open_branch_note, Note, Part, of_branch, by_contents, enum_row, VariantBody, unit_body, part_body, fields_body, body_parts, VariantRow, variants_parts}
use Rattle.enum_defs.specs.Words.{has_type, without_same, without_lists, is_bare, is_name, names_of, all_some}
use Rattle.convert_defs.specs.Scalars.{texts_in}
use Rattle.convert_defs.proofs.PlacedShapes.{ObjectShape, object_shape, shape_of_named, are_distinct, unit_rows, listed_texts, text_case, lone_property, property_row, one_property, case_or, external_case, if_distinct, external_shape}
use Rattle.convert_defs.specs.Shapes.{external_members, case_row, Member, members_from}
use Rattle.enum_defs.specs.Shapes.{closed_by as is_closed_rest, text_cases}
use Rattle.convert_defs.specs.Apart.{differ}
use Rattle.convert_defs.specs.Table.{is_open_shape, is_open_object, open_branches, has_text_keywords, is_ruled_text, text_branches, one_of_external}
use Rattle.convert_defs.specs.Convert.{same_flag, is_without_rest, has_two_places, content_of, body_content, row_variants, is_closed, entry_of}
use Rattle.convert_defs.specs.Laws.{Keeps, same_way, Free}
use Rattle.convert_defs.proofs.Keeps.{keep-equal, keep-from, keep-to, keep-wider, free-left, free-right}
use Rattle.convert_defs.proofs.Bare.{and_left, and_right, and_true, and_false, impossible, none-some, some-same, none-agrees, same-agrees, four, same_type-eq, or_left, or_right}
use Rattle.convert_defs.proofs.Views.{View, of_null, of_boolean, of_number, of_text, of_list, of_object, MembersMatch, AllParts}
use Rattle.convert_defs.proofs.Rows.{IsSound, IsClean, parts-left, parts-right}
use Rattle.convert_defs.proofs.Contents.{content-judged}
use Rattle.convert_defs.proofs.Listed.{listed-texts}
use Rattle.convert_defs.proofs.Alone.{unlisted, kind-text}
use Rattle.convert_defs.proofs.Nullable.{some-counted}
use Rattle.convert_defs.proofs.ObjectShapes.{bound_member, bound_judge, bound-judged}
use Rattle.convert_defs.proofs.OneOf.{One, Counted}
use Rattle.convert_defs.proofs.Differ.{distinct-differ, first-only, last-differ, head-alone}
use Rattle.convert_defs.proofs.SameShapes.{placed, shape-same, text-same, external-found}

abbrev pub names : List VariantRow → List (List ℕ)
names [] = []
names (w ∷ ws) = w.name ∷ names ws

pub names-are : (ws : List VariantRow) → map (λ w. w.name) ws ≡ names ws
names-are [] = refl
names-are (w ∷ ws) = ap (λ ns. w.name ∷ ns) (names-are ws)

names-both : (xs ys : List VariantRow) → names (xs ++ ys) ≡ names xs ++ names ys
names-both [] ys = refl
names-both (x ∷ xs) ys = ap (λ ns. x.name ∷ ns) (names-both xs ys)

any-both : (f : VariantRow → Bool) (xs ys : List VariantRow) → list_any f (xs ++ ys) ≡ (list_any f xs || list_any f ys)
any-both f [] ys = refl
any-both f (x ∷ xs) ys = ap (λ b. f x || b) (any-both f xs ys) ∙ grouped (f x) (list_any f xs) (list_any f ys)
  where
    grouped : (a b c : Bool) → (a || (b || c)) ≡ ((a || b) || c)
    grouped true b c = refl
    grouped false b c = refl

parts-both : (xs ys : List VariantRow) → variants_parts (xs ++ ys) ≡ variants_parts xs ++ variants_parts ys
parts-both [] ys = refl
parts-both (x ∷ xs) ys = ap (λ ps. body_parts x.body ++ ps) (parts-both xs ys) ∙ joined (body_parts x.body) (variants_parts xs) (variants_parts ys)
  where
    joined : (a b c : List Part) → a ++ (b ++ c) ≡ (a ++ b) ++ c
    joined [] b c = refl
    joined (p ∷ a) b c = ap (λ ps. p ∷ ps) (joined a b c)

or-right : (a b : Bool) → b ≡ true → (a || b) ≡ true
or-right true b h = refl
or-right false b h = h

-- a note of one branch
branch-free : (way : Way) (f : Member → Note) (p : Member → Bool) (m : Member) (ms : List Member) → Free way (map f (filter p (m ∷ ms))) → (same_way way (f m).way ≡ true → p m ≡ false) × Free way (map f (filter p ms))
branch-free way f p m ms h = by (p m) h
  where
    by : (b : Bool) → Free way (map f (if b then m ∷ filter p ms else filter p ms)) → (same_way way (f m).way ≡ true → b ≡ false) × Free way (map f (filter p ms))
    by true h = ((λ e. absurd (true≢false (sym e ∙ h.0))), h.1)
    by false h = ((λ e. refl), h)

-- a part makes no unit
part-no-unit : (closed : Bool) (e : Entry) → is_unit (content_of external_tag closed e) ≡ false
part-no-unit closed (tuple_entry us) = by (has_two_places us)
  where
    by : (b : Bool) → is_unit (if b then tuple_contents us else newtype_contents (tuple_entry us)) ≡ false
    by true = refl
    by false = refl
part-no-unit closed unit_entry = refl
part-no-unit closed (item l (struct_shape c fs)) = by (same_flag c closed && is_without_rest (rest_of fs))
  where
    by : (b : Bool) → is_unit (if b then struct_contents fs else newtype_contents (item l (struct_shape c fs))) ≡ false
    by true = refl
    by false = refl
part-no-unit closed (item l (enum_shape c t ws)) = refl
part-no-unit closed (item l (newtype_shape e u)) = refl
part-no-unit closed boolean_entry = refl
part-no-unit closed (integer_entry g) = refl
part-no-unit closed text_entry = refl
part-no-unit closed (native_entry f) = refl
part-no-unit closed any_entry = refl
part-no-unit closed (option_entry e) = refl
part-no-unit closed (vec_entry e) = refl
part-no-unit closed (set_entry e) = refl
part-no-unit closed (map_entry m e) = refl
part-no-unit closed (array_entry e n) = refl
part-no-unit closed (reference t) = refl

-- units and parts alone
abbrev IsCase : VariantBody → Type 0
IsCase unit_body = Unit {0}
IsCase (part_body p) = Unit {0}
IsCase (fields_body fs) = ⊥

abbrev AreCases : List VariantRow → Type 0
AreCases [] = Unit {0}
AreCases (w ∷ ws) = IsCase w.body × AreCases ws

cases-both : (xs ys : List VariantRow) → AreCases xs → AreCases ys → AreCases (xs ++ ys)
cases-both [] ys h g = g
cases-both (x ∷ xs) ys h g = (h.0, cases-both xs ys h.1 g)

-- the name that a value gives, and what it has of that name
abbrev key_of : Value → model.Parts entry.Judge → Option (List ℕ)
key_of (text s) es = Some s
key_of _ (object_parts (k ∷ [])) = Some k.name
key_of _ es = None

abbrev pub keyed : List ℕ → Option (List ℕ) → Bool
keyed n None = false
keyed n (Some m) = bytes_eq m n

module _ (conv : Part → Entry) where
  abbrev body_says : VariantBody → Value → model.Parts entry.Judge → Bool
  body_says unit_body (text s) es = true
  body_says (part_body p) (value.object ms) (object_parts (k ∷ [])) = k.value (conv p)
  body_says b v es = false

  abbrev row_says : Value → model.Parts entry.Judge → VariantRow → Bool
  row_says v es w = keyed w.name (key_of v es) && body_says w.body v es

  none-says : (v : Value) (es : model.Parts entry.Judge) (ws : List VariantRow) → key_of v es ≡ None → list_any (row_says v es) ws ≡ false
  none-says v es [] h = refl
  none-says v es (w ∷ ws) h = λ i. (ap (keyed w.name) h i && body_says w.body v es) || none-says v es ws h i

  other-says : (v : Value) (es : model.Parts entry.Judge) (n : List ℕ) (ws : List VariantRow) → key_of v es ≡ Some n → is_name n (names ws) ≡ false → list_any (row_says v es) ws ≡ false
  other-says v es n [] h g = refl
  other-says v es n (w ∷ ws) h g = by (bytes_eq n w.name) refl g (other-says v es n ws h)
    where
      by : (b : Bool) → bytes_eq n w.name ≡ b → (b || is_name n (names ws)) ≡ false → (is_name n (names ws) ≡ false → list_any (row_says v es) ws ≡ false) → (row_says v es w || list_any (row_says v es) ws) ≡ false
      by true e g f = absurd (true≢false g)
      by false e g f = λ i. ((ap (keyed w.name) h ∙ e) i && body_says w.body v es) || f g i

  -- ---- what the enum takes

  module _ (closed : Bool) where
    abbrev made_variants : List VariantRow → List VariantEntry
    made_variants ws = variants_of (row_variants conv external_tag closed ws)

    abbrev made_one : VariantRow → VariantEntry
    made_one w = record { identifier = w.name; name = w.name; contents = body_content conv external_tag closed w.body }

    unit-body : (b : VariantBody) → IsCase b → (s : List ℕ) (es : model.Parts entry.Judge) → is_unit (body_content conv external_tag closed b) ≡ body_says b (text s) es
    unit-body unit_body c s es = refl
    unit-body (part_body p) c s es = part-no-unit closed (conv p)
    unit-body (fields_body fs) c s es = absurd c

    found-unit : (s : List ℕ) (es : model.Parts entry.Judge) (ws : List VariantRow) → AreCases ws → differ (names ws) ≡ true → is_unit_named (variant_named s (made_variants ws)) ≡ list_any (row_says (text s) es) ws
    found-unit s es [] c d = refl
    found-unit s es (w ∷ ws) c d = by (bytes_eq s w.name) refl (found-unit s es ws c.1 (and_right (list_all (λ m. not (bytes_eq w.name m)) (names ws)) _ d))
      where
        or-false : (b : Bool) → (b || false) ≡ b
        or-false true = refl
        or-false false = refl

        by : (b : Bool) → bytes_eq s w.name ≡ b → is_unit_named (variant_named s (made_variants ws)) ≡ list_any (row_says (text s) es) ws
            → is_unit_named (if b then Some (made_one w) else variant_named s (made_variants ws)) ≡ (b && body_says w.body (text s) es || list_any (row_says (text s) es) ws)
        by true e f =
            let z = other-says (text s) es s ws refl (ap (λ m. is_name m (names ws)) ((bytes_eq-Decides s w.name).0 e) ∙ head-alone w.name (names ws) d) in
            unit-body w.body c.0 s es ∙ sym (or-false (body_says w.body (text s) es)) ∙ ap (λ b. body_says w.body (text s) es || b) (sym z)
        by false e f = f

    part-body : (k : MemberPart entry.Judge) (labels : (l m : List ℕ) (h : Shape) → k.value (item l h) ≡ k.value (item m h)) (b : VariantBody) → IsCase b → (ms : Members)
        → (not (is_unit (body_content conv external_tag closed b)) && k.value (contents_entry closed (body_content conv external_tag closed b))) ≡ body_says b (value.object ms) (object_parts (k ∷ []))
    part-body k labels unit_body c ms = refl
    part-body k labels (part_body p) c ms = λ i. not (part-no-unit closed (conv p) i) && content-judged k.value labels external_tag closed (conv p) i
    part-body k labels (fields_body fs) c ms = absurd c

    found-part : (ms : Members) (k : MemberPart entry.Judge) (labels : (l m : List ℕ) (h : Shape) → k.value (item l h) ≡ k.value (item m h)) (ws : List VariantRow) → AreCases ws → differ (names ws) ≡ true
        → contents_take closed k.value (variant_named k.name (made_variants ws)) ≡ list_any (row_says (value.object ms) (object_parts (k ∷ []))) ws
    found-part ms k labels [] c d = refl
    found-part ms k labels (w ∷ ws) c d = by (bytes_eq k.name w.name) refl (found-part ms k labels ws c.1 (and_right (list_all (λ m. not (bytes_eq w.name m)) (names ws)) _ d))
      where
        or-false : (b : Bool) → (b || false) ≡ b
        or-false true = refl
        or-false false = refl

        by : (b : Bool) → bytes_eq k.name w.name ≡ b → contents_take closed k.value (variant_named k.name (made_variants ws)) ≡ list_any (row_says (value.object ms) (object_parts (k ∷ []))) ws
            → contents_take closed k.value (if b then Some (made_one w) else variant_named k.name (made_variants ws)) ≡ (b && body_says w.body (value.object ms) (object_parts (k ∷ [])) || list_any (row_says (value.object ms) (object_parts (k ∷ []))) ws)
        by true e f =
            let z = other-says (value.object ms) (object_parts (k ∷ [])) k.name ws refl (ap (λ m. is_name m (names ws)) ((bytes_eq-Decides k.name w.name).0 e) ∙ head-alone w.name (names ws) d) in
            part-body k labels w.body c.0 ms ∙ sym (or-false (body_says w.body (value.object ms) (object_parts (k ∷ [])))) ∙ ap (λ b. body_says w.body (value.object ms) (object_parts (k ∷ [])) || b) (sym z)
        by false e f = f

module _ (way : Way) (P : List ℕ → Type 0) (st : Setting) (R : Schema → Entry → Type 0) (conv : Part → Entry) (r : Relations) (fol : List ℕ → Bool) (tgt : Target → Bool) where
  enum-says : (closed : Bool) (ws : List VariantRow) → AreCases ws → differ (names ws) ≡ true → (v : Value) (ps : Parts) (es : model.Parts entry.Judge) → View way st R r v ps es
      → external_takes closed (made_variants conv closed ws) v es ≡ list_any (row_says conv v es) ws
  enum-says closed ws c d _ _ _ (of_null ps) = sym (none-says conv null no_parts ws refl)
  enum-says closed ws c d _ _ _ (of_boolean b ps) = sym (none-says conv (value.boolean b) no_parts ws refl)
  enum-says closed ws c d _ _ _ (of_number z ps f) = sym (none-says conv (number z) no_parts ws refl)
  enum-says closed ws c d _ _ _ (of_text s ps) = found-unit conv closed s no_parts ws c d
  enum-says closed ws c d _ _ _ (of_list xs ps ks h) = sym (none-says conv (list xs) (list_parts ks) ws refl)
  enum-says closed ws c d _ _ _ (of_object no_members ps [] h am) = sym (none-says conv (value.object no_members) (object_parts []) ws refl)
  enum-says closed ws c d _ _ _ (of_object (member n x ms) ps [] h am) = sym (none-says conv (value.object (member n x ms)) (object_parts []) ws refl)
  enum-says closed ws c d _ _ _ (of_object ms ps (k ∷ []) h am) = found-part conv closed ms k (labels ms ps.members h) ws c d
    where
      labels : (ms : Members) (js : List SchemaMember) → MembersMatch way st R ps.name ms js (k ∷ []) → (l m : List ℕ) (h : Shape) → k.value (item l h) ≡ k.value (item m h)
      labels no_members [] h = absurd h
      labels no_members (j ∷ js) h = absurd h
      labels (member n x ms) [] h = absurd h
      labels (member n x ms) (j ∷ js) h = h.0.value.labels
  enum-says closed ws c d _ _ _ (of_object ms ps (k ∷ l ∷ ks) h am) = sym (none-says conv (value.object ms) (object_parts (k ∷ l ∷ ks)) ws refl)

  -- ---- what one member says

  module _ (v : Value) (ps : Parts) (es : model.Parts entry.Judge) (w : View way st R r v ps es) where
    pub record Facts (s : Schema) (ws : List VariantRow) : Type 0 where
      pub cases : AreCases ws
      pub keeps : Keeps way (judge r v ps fol s) (list_any (row_says conv v es) ws)
      pub touches : (n : List ℕ) → key_of v es ≡ Some n → judge r v ps fol s ≡ true → is_name n (names ws) ≡ true

    -- texts
    abbrev among : List (List ℕ) → Value → Bool
    among ts (text s) = is_name s ts
    among ts _ = false

    unit-names : (ts : List (List ℕ)) → names (unit_rows ts) ≡ ts
    unit-names [] = refl
    unit-names (t ∷ ts) = ap (λ ns. t ∷ ns) (unit-names ts)

    units-are-cases : (ts : List (List ℕ)) → AreCases (unit_rows ts)
    units-are-cases [] = tt
    units-are-cases (t ∷ ts) = (tt, units-are-cases ts)

    units-say : {v : Value} {ps : Parts} {es : model.Parts entry.Judge} → View way st R r v ps es → (ts : List (List ℕ)) → list_any (row_says conv v es) (unit_rows ts) ≡ among ts v
    units-say {v} {ps} {es} w [] = empty v
      where
        empty : (v : Value) → false ≡ among [] v
        empty null = refl
        empty (value.boolean b) = refl
        empty (number z) = refl
        empty fraction = refl
        empty (text s) = refl
        empty (list xs) = refl
        empty (value.object ms) = refl
    units-say (of_null ps) (t ∷ ts) = units-say (of_null ps) ts
    units-say (of_boolean b ps) (t ∷ ts) = units-say (of_boolean b ps) ts
    units-say (of_number z ps f) (t ∷ ts) = units-say (of_number z ps f) ts
    units-say (of_text s ps) (t ∷ ts) = λ i. and_true (bytes_eq s t) i || units-say (of_text s ps) ts i
    units-say (of_list xs ps ks h) (t ∷ ts) = units-say (of_list xs ps ks h) ts
    units-say (of_object ms ps [] h am) (t ∷ ts) = units-say (of_object ms ps [] h am) ts
    units-say (of_object ms ps (k ∷ []) h am) (t ∷ ts) = λ i. and_false (bytes_eq k.name t) i || units-say (of_object ms ps (k ∷ []) h am) ts i
    units-say (of_object ms ps (k ∷ l ∷ ks) h am) (t ∷ ts) = units-say (of_object ms ps (k ∷ l ∷ ks) h am) ts

    -- listed or constant texts
    listed-says : (c : Option Value) (o : Option (List Value)) (ts : List (List ℕ)) → listed_texts c o ≡ Some ts → (u : Value) → (if_given (is_listed u) o && if_given (same u) c) ≡ among ts u
    listed-says None None ts e u = none-some ts e
    listed-says (Some (text s)) None ts e u = by u ∙ ap (λ x. among x u) (some-same (s ∷ []) ts e)
      where
        by : (u : Value) → same u (text s) ≡ among (s ∷ []) u
        by null = refl
        by (value.boolean b) = refl
        by (number z) = refl
        by fraction = refl
        by (text t) = sym (or-false (bytes_eq t s))
          where
            or-false : (b : Bool) → (b || false) ≡ b
            or-false true = refl
            or-false false = refl
        by (list xs) = refl
        by (value.object ms) = refl
    listed-says (Some null) None ts e u = none-some ts e
    listed-says (Some (value.boolean b)) None ts e u = none-some ts e
    listed-says (Some (number z)) None ts e u = none-some ts e
    listed-says (Some fraction) None ts e u = none-some ts e
    listed-says (Some (list xs)) None ts e u = none-some ts e
    listed-says (Some (value.object ms)) None ts e u = none-some ts e
    listed-says (Some (text s)) (Some vs) ts e u = none-some ts e
    listed-says (Some null) (Some vs) ts e u = none-some ts e
    listed-says (Some (value.boolean b)) (Some vs) ts e u = none-some ts e
    listed-says (Some (number z)) (Some vs) ts e u = none-some ts e
    listed-says (Some fraction) (Some vs) ts e u = none-some ts e
    listed-says (Some (list xs)) (Some vs) ts e u = none-some ts e
    listed-says (Some (value.object ms)) (Some vs) ts e u = none-some ts e
    listed-says None (Some vs) ts e u = by (list_all is_text vs) refl e
      where
        all : list_all is_text vs ≡ true → (u : Value) → is_listed u vs ≡ among (texts_in vs) u
        all a null = unlisted is_text kind-text null vs a refl
        all a (value.boolean b) = unlisted is_text kind-text (value.boolean b) vs a refl
        all a (number z) = unlisted is_text kind-text (number z) vs a refl
        all a fraction = unlisted is_text kind-text fraction vs a refl
        all a (text s) = listed-texts s vs
        all a (list xs) = unlisted is_text kind-text (list xs) vs a refl
        all a (value.object ms) = unlisted is_text kind-text (value.object ms) vs a refl

        by : (b : Bool) → list_all is_text vs ≡ b → (if b then Some (texts_in vs) else None) ≡ Some ts → (is_listed u vs && true) ≡ among ts u
        by true a g = and_true (is_listed u vs) ∙ all a u ∙ ap (λ x. among x u) (some-same (texts_in vs) ts g)
        by false a g = none-some ts g

    among-text : (ts : List (List ℕ)) (u : Value) (x : Bool) → (among ts u ≡ true → x ≡ true) → (x && among ts u) ≡ among ts u
    among-text ts u x f = by (among ts u) f
      where
        by : (b : Bool) → (b ≡ true → x ≡ true) → (x && b) ≡ b
        by true f = ap (λ c. c && true) (f refl)
        by false f = and_false x

    text-typed : (o : Option Types) (ts : List (List ℕ)) (u : Value) → (is_none o || has_type Text o) ≡ true → among ts u ≡ true → if_given (types_agree u) o ≡ true
    text-typed None ts u h g = refl
    text-typed (Some (many_types ks)) ts u h g = impossible h
    text-typed (Some (one_type k)) ts null h g = impossible g
    text-typed (Some (one_type k)) ts (value.boolean b) h g = impossible g
    text-typed (Some (one_type k)) ts (number z) h g = impossible g
    text-typed (Some (one_type k)) ts fraction h g = impossible g
    text-typed (Some (one_type k)) ts (list xs) h g = impossible g
    text-typed (Some (one_type k)) ts (value.object ms) h g = impossible g
    text-typed (Some (one_type k)) ts (text s) h g = ap (is_kind (text s)) (same_type-eq Text k h)

    grouped : (t l c k f p s : Bool) → f ≡ true → s ≡ true → (t && l && c && k && f && p && s) ≡ ((t && (l && c)) && (k && p))
    grouped true true true true true true true f s = refl
    grouped true true true true true false true f s = refl
    grouped true true true false true p true f s = refl
    grouped true true false k true p true f s = refl
    grouped true false c k true p true f s = refl
    grouped false l c k true p true f s = refl
    grouped t l c k false p s f x = impossible f
    grouped t l c k true p false f x = impossible x

    -- a member of listed texts
    module _ (p : Plain) (ss : Same) (ls : Lists) (ns : Named) (ts : List (List ℕ)) (h : ((is_none p.types || has_type Text p.types) && is_none p.format && is_none p.reference && without_same ss) ≡ true) (e : listed_texts p.const_value p.enum_values ≡ Some ts) where
      abbrev parts_of_it : (is_none p.types || has_type Text p.types ≡ true) × (is_none p.format ≡ true) × (is_none p.reference ≡ true) × (without_same ss ≡ true)
      parts_of_it = four (is_none p.types || has_type Text p.types) (is_none p.format) (is_none p.reference) (without_same ss) h

      text-judged : judge r v ps fol (object p ss ls ns) ≡ (among ts v && (of_kind_agrees r p v && parts_agree r v ps ls ns))
      text-judged =
          grouped (if_given (types_agree v) p.types) (if_given (is_listed v) p.enum_values) (if_given (same v) p.const_value) (of_kind_agrees r p v) (if_given fol p.reference) (parts_agree r v ps ls ns) (judge_same r v ps fol ss) (none-agrees fol p.reference parts_of_it.2) (same-agrees r v ps fol ss parts_of_it.3)
          ∙ ap (λ b. (if_given (types_agree v) p.types && b) && (of_kind_agrees r p v && parts_agree r v ps ls ns)) (listed-says p.const_value p.enum_values ts e v)
          ∙ ap (λ b. b && (of_kind_agrees r p v && parts_agree r v ps ls ns)) (among-text ts v (if_given (types_agree v) p.types) (text-typed p.types ts v parts_of_it.0))

      text-keeps : (same_way way widened ≡ true → is_some p.texts ≡ false) → {v : Value} {ps : Parts} {es : model.Parts entry.Judge} → View way st R r v ps es → Keeps way (among ts v && (of_kind_agrees r p v && parts_agree r v ps ls ns)) (among ts v)
      text-keeps f (of_null ps) = keep-equal way _ _ refl
      text-keeps f (of_boolean b ps) = keep-equal way _ _ refl
      text-keeps f (of_number z ps g) = keep-equal way _ _ refl
      text-keeps f (of_text s ps) = keep-wider way (is_name s ts) (of_kind_agrees r p (text s) && true) (λ z. λ i. (none-texts p.texts (f z) i && none-agrees (text_format_agrees r s) p.format parts_of_it.1 i) && true)
        where
          none-texts : (o : Option Texts) → is_some o ≡ false → if_given (texts_agree r s) o ≡ true
          none-texts None g = refl
          none-texts (Some c) g = absurd (true≢false g)
      text-keeps f (of_list xs ps ks g) = keep-equal way _ _ refl
      text-keeps f (of_object ms ps ks g am) = keep-equal way _ _ refl

      among-key : {v : Value} {ps : Parts} {es : model.Parts entry.Judge} → View way st R r v ps es → (n : List ℕ) → key_of v es ≡ Some n → among ts v ≡ true → is_name n ts ≡ true
      among-key (of_null ps) n g x = impossible x
      among-key (of_boolean b ps) n g x = impossible x
      among-key (of_number z ps f) n g x = impossible x
      among-key (of_text s ps) n g x = ap (λ m. is_name m ts) (sym (some-same s n g)) ∙ x
      among-key (of_list xs ps ks f) n g x = impossible x
      among-key (of_object ms ps ks f am) n g x = impossible x

      text-facts : (same_way way widened ≡ true → is_some p.texts ≡ false) → Facts (object p ss ls ns) (unit_rows ts)
      text-facts f = record {
        cases = units-are-cases ts;
        keeps = keep-from way _ _ _ text-judged (keep-to way _ _ _ (text-keeps f w) (sym (units-say w ts)));
        touches = λ n g x. ap (is_name n) (unit-names ts) ∙ among-key w n g (and_left _ _ (sym text-judged ∙ x));
      }

    -- a member of one property
    module _ (o : ObjectShape) (key : List ℕ) (s : Schema) (e : o.props ≡ property key s no_properties) (q : is_name key o.required_names ≡ true) (within : list_all (λ n. is_name n (names_of o.props)) o.required_names ≡ true) (c : R s (conv (of_branch (o.place ++ codes "properties" ∷ key ∷ []) s))) (closed : same_way way narrowed ≡ true → o.closed ≡ true) where
      abbrev row : VariantRow
      row = property_row o.place key s

      one-name : (ns : List (List ℕ)) (ms : Members) → list_all (λ n. has_name n ms) ns ≡ true → is_name key ns ≡ true → has_name key ms ≡ true
      one-name [] ms h g = impossible g
      one-name (n ∷ ns) ms h g = by (bytes_eq key n) refl g (one-name ns ms (and_right (has_name n ms) _ h))
        where
          by : (b : Bool) → bytes_eq key n ≡ b → (b || is_name key ns) ≡ true → (is_name key ns ≡ true → has_name key ms ≡ true) → has_name key ms ≡ true
          by true x g f = ap (λ m. has_name m ms) ((bytes_eq-Decides key n).0 x) ∙ and_left _ _ h
          by false x g f = f g

      all-key : (ns : List (List ℕ)) → list_all (λ n. is_name n (names_of (property key s no_properties))) ns ≡ true → (ms : Members) → has_name key ms ≡ true → list_all (λ n. has_name n ms) ns ≡ true
      all-key [] h ms g = refl
      all-key (n ∷ ns) h ms g = by (bytes_eq n key) refl (and_left _ _ h) (all-key ns (and_right (is_name n (key ∷ [])) _ h) ms g)
        where
          by : (b : Bool) → bytes_eq n key ≡ b → (b || false) ≡ true → list_all (λ n. has_name n ms) ns ≡ true → (has_name n ms && list_all (λ n. has_name n ms) ns) ≡ true
          by true x y f = let z = ap (λ m. has_name m ms) ((bytes_eq-Decides n key).0 x) ∙ g in λ i. z i && f i
          by false x y f = impossible y

      or-false : (b : Bool) → (b || false) ≡ b
      or-false true = refl
      or-false false = refl

      -- the property's member
      at-key : (j : SchemaMember) → bytes_eq j.name key ≡ true → bound_member o j ≡ (j.says s && true)
      at-key j x = ap (λ ps. maybe j.says (property_at j.name ps) && (is_given (property_at j.name ps) || not o.closed)) e ∙ ap (λ b. maybe j.says (if b then the_schema s else no_schema) && (is_given (if b then the_schema s else no_schema) || not o.closed)) x

      -- in a closed shape each member is the property's
      is-key : o.closed ≡ true → (j : SchemaMember) → bound_member o j ≡ true → bytes_eq j.name key ≡ true
      is-key z j h = by (bytes_eq j.name key) refl (sym (ap (λ ps. maybe j.says (property_at j.name ps) && (is_given (property_at j.name ps) || not o.closed)) e) ∙ h)
        where
          by : (b : Bool) → bytes_eq j.name key ≡ b → (maybe j.says (if b then the_schema s else no_schema) && (is_given (if b then the_schema s else no_schema) || not o.closed)) ≡ true → b ≡ true
          by true x h = refl
          by false x h = absurd (true≢false (sym h ∙ ap not z))

      no-row : (v : Value) (es : model.Parts entry.Judge) → key_of v es ≡ None → list_any (row_says conv v es) (row ∷ []) ≡ false
      no-row v es z = none-says conv v es (row ∷ []) z

      shape-keeps : {v : Value} {ps : Parts} {es : model.Parts entry.Judge} → View way st R r v ps es → Keeps way (bound_judge o v ps) (list_any (row_says conv v es) (row ∷ []))
      shape-keeps (of_null ps) = keep-equal way _ _ (sym (no-row null no_parts refl))
      shape-keeps (of_boolean b ps) = keep-equal way _ _ (sym (no-row (value.boolean b) no_parts refl))
      shape-keeps (of_number z ps f) = keep-equal way _ _ (sym (no-row (number z) no_parts refl))
      shape-keeps (of_text t ps) = keep-equal way _ _ (sym (ap (λ b. b || false) (and_false (bytes_eq t key))))
      shape-keeps (of_list xs ps ks f) = keep-equal way _ _ (sym (no-row (list xs) (list_parts ks) refl))
      shape-keeps (of_object ms ps ks h am) = members ms ps.members ks h am.0 closed
        where
          members : (ms : Members) (js : List SchemaMember) (ks : List (MemberPart entry.Judge)) → MembersMatch way st R ps.name ms js ks → AreMembers ks → (same_way way narrowed ≡ true → o.closed ≡ true)
              → Keeps way (list_all (bound_member o) js && list_all (λ n. has_name n ms) o.required_names) (list_any (row_says conv (value.object ms) (object_parts ks)) (row ∷ []))
          members no_members [] [] h a z = keep-equal way _ _ (nothing (list_all (λ n. has_name n no_members) o.required_names) refl ∙ sym (no-row (value.object no_members) (object_parts []) refl))
            where
              nothing : (b : Bool) → list_all (λ n. has_name n no_members) o.required_names ≡ b → b ≡ false
              nothing true x = impossible (one-name o.required_names no_members x q)
              nothing false x = refl
          members (member n x no_members) (j ∷ []) (k ∷ []) h a z = ways way z (h.0.value.agree s (conv (of_branch (o.place ++ codes "properties" ∷ key ∷ []) s)) c)
            where
              same : bytes_eq j.name key ≡ bytes_eq n key
              same = ap (λ m. bytes_eq m key) h.0.same_name

              same-k : bytes_eq k.name key ≡ bytes_eq n key
              same-k = ap (λ m. bytes_eq m key) h.0.name_is

              turned : bytes_eq key n ≡ true → bytes_eq n key ≡ true
              turned y = (bytes_eq-Decides n key).1 (sym ((bytes_eq-Decides key n).0 y))

              ways : (m : Way) → (same_way m narrowed ≡ true → o.closed ≡ true) → Keeps m (j.says s) (k.value (conv (of_branch (o.place ++ codes "properties" ∷ key ∷ []) s)))
                  → Keeps m ((bound_member o j && true) && list_all (λ l. has_name l (member n x no_members)) o.required_names) (bytes_eq k.name key && k.value (conv (of_branch (o.place ++ codes "properties" ∷ key ∷ []) s)) || false)
              ways narrowed z f = λ t.
                  let y = turned (sym (or-false (bytes_eq key n)) ∙ one-name o.required_names (member n x no_members) (and_right (bound_member o j && true) _ t) q) in
                  let u = and_left (j.says s) true (sym (at-key j (same ∙ y)) ∙ and_left _ _ (and_left _ _ t)) in
                  λ i. (same-k ∙ y) i && f u i || false
              ways widened z f = λ t.
                  let u = sym (or-false (bytes_eq k.name key && k.value (conv (of_branch (o.place ++ codes "properties" ∷ key ∷ []) s)))) ∙ t in
                  let y = sym same-k ∙ and_left _ _ u in
                  let a = at-key j (same ∙ y) ∙ and_true (j.says s) ∙ f (and_right (bytes_eq k.name key) _ u) in
                  let g = (bytes_eq-Decides key n).1 (sym ((bytes_eq-Decides n key).0 y)) in
                  let b = all-key o.required_names (ap (λ ps. list_all (λ n. is_name n (names_of ps)) o.required_names) (sym e) ∙ within) (member n x no_members) (ap (λ c. c || false) g) in
                  λ i. (a i && true) && b i
          members (member n x (member m y ms)) (j ∷ i ∷ js) (k ∷ l ∷ ks) h a z = ways way z
            where
              ways : (u : Way) → (same_way u narrowed ≡ true → o.closed ≡ true) → Keeps u (list_all (bound_member o) (j ∷ i ∷ js) && list_all (λ n'. has_name n' (member n x (member m y ms))) o.required_names) (list_any (row_says conv (value.object (member n x (member m y ms))) (object_parts (k ∷ l ∷ ks))) (row ∷ []))
              ways widened z = λ t. impossible (sym (no-row (value.object (member n x (member m y ms))) (object_parts (k ∷ l ∷ ks)) refl) ∙ t)
              ways narrowed z = λ t.
                  let b = and_left _ _ t in
                  let f = is-key (z refl) j (and_left _ _ b) in
                  let g = is-key (z refl) i (and_left _ _ (and_right (bound_member o j) _ b)) in
                  let u = (bytes_eq-Decides j.name key).0 f ∙ sym ((bytes_eq-Decides i.name key).0 g) in
                  let d = (bytes_eq-Decides k.name l.name).1 (h.0.name_is ∙ sym h.0.same_name ∙ u ∙ h.1.0.same_name ∙ sym h.1.0.name_is) in
                  absurd (true≢false (sym (ap (λ b. b || has_member k.name ks) d) ∙ a.0))
          members no_members [] (k ∷ ks) h a z = absurd h
          members no_members (j ∷ js) ks h a z = absurd h
          members (member n x ms) [] ks h a z = absurd h
          members (member n x ms) (j ∷ js) [] h a z = absurd h
          members (member n x no_members) (j ∷ []) (k ∷ l ∷ ks) h a z = absurd h.1
          members (member n x no_members) (j ∷ i ∷ js) (k ∷ ks) h a z = absurd h.1
          members (member n x (member m y ms)) (j ∷ []) (k ∷ ks) h a z = absurd h.1
          members (member n x (member m y ms)) (j ∷ i ∷ js) (k ∷ []) h a z = absurd h.1

      shape-touches : {v : Value} {ps : Parts} {es : model.Parts entry.Judge} → View way st R r v ps es → (n : List ℕ) → key_of v es ≡ Some n → bound_judge o v ps ≡ true → is_name n (key ∷ []) ≡ true
      shape-touches (of_null ps) n g x = impossible x
      shape-touches (of_boolean b ps) n g x = impossible x
      shape-touches (of_number z ps f) n g x = impossible x
      shape-touches (of_text t ps) n g x = impossible x
      shape-touches (of_list xs ps ks f) n g x = impossible x
      shape-touches (of_object ms ps ks h am) n g x = members ms ps.members ks h g (and_right (list_all (bound_member o) ps.members) _ x)
        where
          members : (ms : Members) (js : List SchemaMember) (ks : List (MemberPart entry.Judge)) → MembersMatch way st R ps.name ms js ks → key_of (value.object ms) (object_parts ks) ≡ Some n → list_all (λ n. has_name n ms) o.required_names ≡ true → is_name n (key ∷ []) ≡ true
          members no_members [] [] h g x = none-some n g
          members (member m y no_members) (j ∷ []) (k ∷ []) h g x =
              let u = sym (or-false (bytes_eq key m)) ∙ one-name o.required_names (member m y no_members) x q in
              ap (λ b. b || false) ((bytes_eq-Decides n key).1 (sym (some-same k.name n g) ∙ h.0.name_is ∙ sym ((bytes_eq-Decides key m).0 u)))
          members (member m y ms) (j ∷ js) (k ∷ l ∷ ks) h g x = none-some n g
          members no_members [] (k ∷ ks) h g x = absurd h
          members no_members (j ∷ js) ks h g x = absurd h
          members (member m y ms) [] ks h g x = absurd h
          members (member m y ms) (j ∷ js) [] h g x = absurd h
          members (member m y no_members) (j ∷ i ∷ js) (k ∷ []) h g x = absurd h.1
          members (member m y (member l z ms)) (j ∷ []) (k ∷ []) h g x = absurd h.1
          members (member m y (member l z ms)) (j ∷ i ∷ js) (k ∷ []) h g x = absurd h.1

      required-alone : list_all (λ n. is_name n o.required_names) (names_of o.props) ≡ true
      required-alone = ap (λ ps. list_all (λ n. is_name n o.required_names) (names_of ps)) e ∙ ap (λ b. b && true) q

      shape-facts : (m : Member) → object_shape m ≡ Some o → Facts m.1 (row ∷ [])
      shape-facts m z =
          let j = bound-judged way st R r m o z (required-alone) v ps es w fol in
          record {
            cases = (tt, tt);
            keeps = keep-from way _ _ _ j (shape-keeps w);
            touches = λ n g x. shape-touches w n g (sym j ∙ x);
          }

    -- ---- all members

    abbrev Cleared : Member → Type 0
    Cleared m = (same_way way narrowed ≡ true → is_open_object m ≡ false) × (same_way way widened ≡ true → is_ruled_text m ≡ false)

    pub required-within : (m : Member) (o : ObjectShape) → object_shape m ≡ Some o → list_all (λ n. is_name n (names_of o.props)) o.required_names ≡ true
    required-within (l, boolean b) o e = none-some o e
    required-within (l, object p ss ls ns) o e = by (has_type Object p.types && is_bare p ss && is_none p.format && is_none p.numbers && is_none p.texts && without_lists ls) e
      where
        named-within : (ns : Named) → shape_of_named l ns ≡ Some o → list_all (λ n. is_name n (names_of o.props)) o.required_names ≡ true
        named-within no_named g = ap (λ x. list_all (λ n. is_name n (names_of x.props)) x.required_names) (sym (some-same (record { place = l; closed = false; props = no_properties; required_names = [] }) o g))
        named-within (named props no_properties others no_schema rules) g = tested (is_none rules.max_properties && is_none rules.min_properties && list_all (λ n. is_name n (names_of props)) rules.required) refl g
          where
            opened : (c : Option Bool) → list_all (λ n. is_name n (names_of props)) rules.required ≡ true → option_map (λ c. record { place = l; closed = c; props = props; required_names = rules.required }) c ≡ Some o → list_all (λ n. is_name n (names_of o.props)) o.required_names ≡ true
            opened None z y = none-some o y
            opened (Some c) z y = ap (λ x. list_all (λ n. is_name n (names_of x.props)) x.required_names) (sym (some-same (record { place = l; closed = c; props = props; required_names = rules.required }) o y)) ∙ z

            tested : (b : Bool) → (is_none rules.max_properties && is_none rules.min_properties && list_all (λ n. is_name n (names_of props)) rules.required) ≡ b
                → (if b then option_map (λ c. record { place = l; closed = c; props = props; required_names = rules.required }) (is_closed_rest others) else None) ≡ Some o → list_all (λ n. is_name n (names_of o.props)) o.required_names ≡ true
            tested true f y = opened (is_closed_rest others) (and_right (is_none rules.max_properties && is_none rules.min_properties) _ f) y
            tested false f y = none-some o y
        named-within (named props (property k u us) others names rules) g = none-some o g
        named-within (named props no_properties others (the_schema u) rules) g = none-some o g

        by : (b : Bool) → (if b then shape_of_named l ns else None) ≡ Some o → list_all (λ n. is_name n (names_of o.props)) o.required_names ≡ true
        by true g = named-within ns g
        by false g = none-some o g

    closed-shape : (m : Member) (o : ObjectShape) → object_shape m ≡ Some o → is_open_object m ≡ false → o.closed ≡ true
    closed-shape m o e h = not-not o.closed (opened (shape.object_shape m.1) refl)
      where
        not-not : (b : Bool) → not b ≡ false → b ≡ true
        not-not true h = refl
        not-not false h = absurd (true≢false h)

        opened : (x : Option shape.ObjectShape) → shape.object_shape m.1 ≡ x → not o.closed ≡ false
        opened None f = none-some o (ap (option_map (placed m.0)) (sym f) ∙ sym (shape-same m.0 m.1) ∙ e)
        opened (Some q) f =
            let k = some-same (placed m.0 q) o (ap (option_map (placed m.0)) (sym f) ∙ sym (shape-same m.0 m.1) ∙ e) in
            ap (λ x. not x.closed) (sym k) ∙ ap is_open_shape (sym f) ∙ h

    abbrev Sound : List VariantRow → Type 0
    Sound ws = AllParts (IsSound way P st R conv r fol tgt v ps es w) (variants_parts ws)

    lone-facts : (m : Member) (o : ObjectShape) → object_shape m ≡ Some o → (ws : List VariantRow) (qs : Properties) → o.props ≡ qs → lone_property o.place o.required_names qs ≡ Some ws → Cleared m → Sound ws → Facts m.1 ws
    lone-facts m o e ws no_properties f g z q = none-some ws g
    lone-facts m o e ws (property k s (property l t ts)) f g z q = none-some ws g
    lone-facts m o e ws (property k s no_properties) f g z q = by (is_name k o.required_names) refl g
      where
        by : (b : Bool) → is_name k o.required_names ≡ b → (if b then Some (property_row o.place k s ∷ []) else None) ≡ Some ws → Facts m.1 ws
        by true n y =
            let x = some-same (property_row o.place k s ∷ []) ws y in
            subst (Facts m.1) x (shape-facts o k s f n (required-within m o e) (subst Sound (sym x) q).0.0 (λ u. closed-shape m o e (z.0 u)) m e)
        by false n y = none-some ws y

    member-facts : (m : Member) (ws : List VariantRow) → external_case m ≡ Some ws → Cleared m → Sound ws → Facts m.1 ws
    member-facts (l, u) ws e z q = by (text_case u) refl e
      where
        shaped : (o : Option ObjectShape) → object_shape (l, u) ≡ o → option_and_then one_property o ≡ Some ws → Facts u ws
        shaped None f g = none-some ws g
        shaped (Some o) f g = lone-facts (l, u) o f ws o.props refl g z q

        texts : (u : Schema) (x : List VariantRow) → text_case u ≡ Some x → (same_way way widened ≡ true → (true && has_text_keywords u) ≡ false) → Facts u x
        texts (boolean b) x f y = none-some x f
        texts (object p ss ls ns) x f y = tested ((is_none p.types || has_type Text p.types) && is_none p.format && is_none p.reference && without_same ss) refl f
          where
            rows : (h : ((is_none p.types || has_type Text p.types) && is_none p.format && is_none p.reference && without_same ss) ≡ true) (o : Option (List (List ℕ))) → listed_texts p.const_value p.enum_values ≡ o → option_map unit_rows o ≡ Some x → Facts (object p ss ls ns) x
            rows h None i g = none-some x g
            rows h (Some ts) i g = subst (Facts (object p ss ls ns)) (some-same (unit_rows ts) x g) (text-facts p ss ls ns ts h i y)

            tested : (b : Bool) → ((is_none p.types || has_type Text p.types) && is_none p.format && is_none p.reference && without_same ss) ≡ b → (if b then option_map unit_rows (listed_texts p.const_value p.enum_values) else None) ≡ Some x → Facts (object p ss ls ns) x
            tested true h g = rows h (listed_texts p.const_value p.enum_values) refl g
            tested false h g = none-some x g

        noted : (x : List VariantRow) (o : Option (List shape.Case)) → text_cases u ≡ o → text_case u ≡ Some x → (true && has_text_keywords u) ≡ (is_some (text_cases u) && has_text_keywords u)
        noted x None f g = none-some x (ap (option_map (map (case_row l))) (sym f) ∙ sym (text-same l u) ∙ g)
        noted x (Some cs) f g = ap (λ o. is_some o && has_text_keywords u) (sym f)

        by : (o : Option (List VariantRow)) → text_case u ≡ o → case_or o (object_shape (l, u)) ≡ Some ws → Facts u ws
        by (Some x) f g = subst (Facts u) (some-same x ws g) (texts u x f (λ y. noted x (text_cases u) refl f ∙ z.1 y))
        by None f g = shaped (object_shape (l, u)) refl g

    -- member by member
    abbrev AllFacts : Schemas → List (List VariantRow) → Type 0
    AllFacts no_more [] = Unit {0}
    AllFacts (schema s ss) (ws ∷ wss) = Facts s ws × AllFacts ss wss
    AllFacts _ _ = ⊥

    abbrev all_rows : List (List VariantRow) → List VariantRow
    all_rows wss = flat_map (λ ws. ws) wss

    all-facts : (k : Step) (i : ℕ) (us : Schemas) (wss : List (List VariantRow)) → all_some external_case (members_from k i us) ≡ Some wss → Free way (open_branches (members_from k i us)) → Free way (text_branches (members_from k i us)) → Sound (all_rows wss) → AllFacts us wss
    all-facts k i no_more wss e f g q = subst (AllFacts no_more) (some-same [] wss e) tt
    all-facts k i (schema s ss) wss e f g q = by (external_case (k ∷ place i ∷ [], s)) refl (all_some external_case (members_from k (suc i) ss)) refl e (all-facts k (suc i) ss)
      where
        m : Member
        m = (k ∷ place i ∷ [], s)

        x : (same_way way narrowed ≡ true → is_open_object m ≡ false) × Free way (open_branches (members_from k (suc i) ss))
        x = branch-free way (λ m. record { way = narrowed; kind = open_branch_note; place = m.0 }) is_open_object m (members_from k (suc i) ss) f

        y : (same_way way widened ≡ true → is_ruled_text m ≡ false) × Free way (text_branches (members_from k (suc i) ss))
        y = branch-free way (λ m. record { way = widened; kind = string_note; place = m.0 }) is_ruled_text m (members_from k (suc i) ss) g

        by : (a : Option (List VariantRow)) → external_case m ≡ a → (b : Option (List (List VariantRow))) → all_some external_case (members_from k (suc i) ss) ≡ b
            → option_and_then (λ y. option_map (λ ys. y ∷ ys) (all_some external_case (members_from k (suc i) ss))) a ≡ Some wss
            → ((us : List (List VariantRow)) → all_some external_case (members_from k (suc i) ss) ≡ Some us → Free way (open_branches (members_from k (suc i) ss)) → Free way (text_branches (members_from k (suc i) ss)) → Sound (all_rows us) → AllFacts ss us)
            → AllFacts (schema s ss) wss
        by None h b j n rec = none-some wss n
        by (Some ws) h None j n rec = none-some wss (ap (option_map (λ ys. ws ∷ ys)) (sym j) ∙ n)
        by (Some ws) h (Some us) j n rec =
            let z = some-same (ws ∷ us) wss (ap (option_map (λ ys. ws ∷ ys)) (sym j) ∙ n) in
            let p = subst (AllParts (IsSound way P st R conv r fol tgt v ps es w)) (parts-both ws (all_rows us)) (subst (λ t. Sound (all_rows t)) (sym z) q) in
            subst (AllFacts (schema s ss)) z (member-facts m ws h (x.0, y.0) (parts-left _ (variants_parts ws) _ p), rec us j x.1 y.1 (parts-right _ (variants_parts ws) _ p))

    all-cases : (us : Schemas) (wss : List (List VariantRow)) → AllFacts us wss → AreCases (all_rows wss)
    all-cases no_more [] h = tt
    all-cases (schema s ss) (ws ∷ wss) h = cases-both ws (all_rows wss) h.0.cases (all-cases ss wss h.1)
    all-cases no_more (ws ∷ wss) h = absurd h
    all-cases (schema s ss) [] h = absurd h

    -- some row says so where some member does
    any-keeps : (us : Schemas) (wss : List (List VariantRow)) → AllFacts us wss → same_way way narrowed ≡ true → judge_any r v ps fol us ≡ true → list_any (row_says conv v es) (all_rows wss) ≡ true
    any-keeps no_more [] h z t = impossible t
    any-keeps (schema s ss) (ws ∷ wss) h z t = any-both (row_says conv v es) ws (all_rows wss) ∙ by (judge r v ps fol s) refl t (any-keeps ss wss h.1 z)
      where
        first : (m : Way) → same_way m narrowed ≡ true → Keeps m (judge r v ps fol s) (list_any (row_says conv v es) ws) → judge r v ps fol s ≡ true → list_any (row_says conv v es) ws ≡ true
        first narrowed z f t = f t
        first widened z f t = impossible z

        by : (b : Bool) → judge r v ps fol s ≡ b → (b || judge_any r v ps fol ss) ≡ true → (judge_any r v ps fol ss ≡ true → list_any (row_says conv v es) (all_rows wss) ≡ true) → (list_any (row_says conv v es) ws || list_any (row_says conv v es) (all_rows wss)) ≡ true
        by true e t f = ap (λ b. b || list_any (row_says conv v es) (all_rows wss)) (first way z h.0.keeps e)
        by false e t f = or-right (list_any (row_says conv v es) ws) _ (f t)
    any-keeps no_more (ws ∷ wss) h z t = absurd h
    any-keeps (schema s ss) [] h z t = absurd h

    -- no other member says so
    none-left : (n : List ℕ) → key_of v es ≡ Some n → (us : Schemas) (wss : List (List VariantRow)) → AllFacts us wss → is_name n (names (all_rows wss)) ≡ false → judge_count r v ps fol us ≡ 0
    none-left n k no_more [] h g = refl
    none-left n k (schema s ss) (ws ∷ wss) h g = by (judge r v ps fol s) refl (none-left n k ss wss h.1 (right (names ws) (ap (is_name n) (sym (names-both ws (all_rows wss))) ∙ g)))
      where
        right : (xs : List (List ℕ)) → is_name n (xs ++ names (all_rows wss)) ≡ false → is_name n (names (all_rows wss)) ≡ false
        right [] h = h
        right (x ∷ xs) h = right xs (or_right (bytes_eq n x) _ h)

        left : (xs : List (List ℕ)) → is_name n (xs ++ names (all_rows wss)) ≡ false → is_name n xs ≡ false
        left [] h = refl
        left (x ∷ xs) h = λ i. or_left (bytes_eq n x) (is_name n (xs ++ names (all_rows wss))) h i || left xs (or_right (bytes_eq n x) (is_name n (xs ++ names (all_rows wss))) h) i

        by : (b : Bool) → judge r v ps fol s ≡ b → judge_count r v ps fol ss ≡ 0 → (if b then suc (judge_count r v ps fol ss) else judge_count r v ps fol ss) ≡ 0
        by true e f = absurd (true≢false (sym (h.0.touches n k e) ∙ left (names ws) (ap (is_name n) (sym (names-both ws (all_rows wss))) ∙ g)))
        by false e f = f
    none-left n k no_more (ws ∷ wss) h g = absurd h
    none-left n k (schema s ss) [] h g = absurd h

    one-counted : same_way way widened ≡ true → (n : List ℕ) → key_of v es ≡ Some n → (us : Schemas) (wss : List (List VariantRow)) → AllFacts us wss → differ (names (all_rows wss)) ≡ true → list_any (row_says conv v es) (all_rows wss) ≡ true → Counted way P st R conv r fol tgt v ps es w us ≡ true
    one-counted z n k no_more [] h d t = impossible t
    one-counted z n k (schema s ss) (ws ∷ wss) h d t = by (judge r v ps fol s) refl (one-counted z n k ss wss h.1 (last-differ (names ws) _ apart))
      where
        apart : differ (names ws ++ names (all_rows wss)) ≡ true
        apart = ap differ (sym (names-both ws (all_rows wss))) ∙ d

        first : (m : Way) → same_way m widened ≡ true → Keeps m (judge r v ps fol s) (list_any (row_says conv v es) ws) → list_any (row_says conv v es) ws ≡ true → judge r v ps fol s ≡ true
        first narrowed z f t = impossible z
        first widened z f t = f t

        said : (b : Bool) → list_any (row_says conv v es) ws ≡ b → judge r v ps fol s ≡ false → (b || list_any (row_says conv v es) (all_rows wss)) ≡ true → list_any (row_says conv v es) (all_rows wss) ≡ true
        said true x e t = absurd (true≢false (sym (first way z h.0.keeps x) ∙ e))
        said false x e t = t

        by : (b : Bool) → judge r v ps fol s ≡ b → (list_any (row_says conv v es) (all_rows wss) ≡ true → Counted way P st R conv r fol tgt v ps es w ss ≡ true) → ((if b then suc (judge_count r v ps fol ss) else judge_count r v ps fol ss) == 1) ≡ true
        by true e f = ap (λ n. suc n == 1) (none-left n k ss wss h.1 (first-only n (names ws) (names (all_rows wss)) apart (h.0.touches n k e)))
        by false e f = f (said (list_any (row_says conv v es) ws) refl e (sym (any-both (row_says conv v es) ws (all_rows wss)) ∙ t))
    one-counted z n k no_more (ws ∷ wss) h d t = absurd h
    one-counted z n k (schema s ss) [] h d t = absurd h

    counted-keeps : (us : Schemas) (wss : List (List VariantRow)) → AllFacts us wss → differ (names (all_rows wss)) ≡ true → Keeps way (Counted way P st R conv r fol tgt v ps es w us) (list_any (row_says conv v es) (all_rows wss))
    counted-keeps us wss h d = ways way refl
      where
        ways : (m : Way) → way ≡ m → Keeps m (Counted way P st R conv r fol tgt v ps es w us) (list_any (row_says conv v es) (all_rows wss))
        ways narrowed e = λ t. any-keeps us wss h (ap (λ m. same_way m narrowed) e) (some-counted r v ps fol us t)
        ways widened e = λ t. by (key_of v es) refl t
          where
            by : (o : Option (List ℕ)) → key_of v es ≡ o → list_any (row_says conv v es) (all_rows wss) ≡ true → Counted way P st R conv r fol tgt v ps es w us ≡ true
            by None k t = impossible (sym (none-says conv v es (all_rows wss) k) ∙ t)
            by (Some n) k t = one-counted (ap (λ m. same_way m widened) e) n k us wss h d t

    placed-holds : (d : Document) (name : List ℕ) (k : Step) (us : Schemas) (ws : List VariantRow) → external_shape (members_from k 0 us) ≡ Some ws → One way P st R conv r fol tgt v ps es w name us (one_of_external d (members_from k 0 us) (Some ws))
    placed-holds d name k us ws e = λ g0 c q. by (all_some external_case (members_from k 0 us)) refl e c q
      where
        ms : List Member
        ms = members_from k 0 us

        tested : (wss : List (List VariantRow)) → all_some external_case ms ≡ Some wss → Free way (open_branches ms ++ text_branches ms) → (b : Bool) → are_distinct (map (λ w. w.name) (all_rows wss)) ≡ b → (if b then Some (all_rows wss) else None) ≡ Some ws → Sound ws
            → Keeps way (Counted way P st R conv r fol tgt v ps es w us) (entry_takes r v es tgt (entry_of conv name (enum_row external_tag by_contents ws)))
        tested wss f c false a g q = none-some ws g
        tested wss f c true a g q =
            let x = some-same (all_rows wss) ws g in
            let h = all-facts k 0 us wss f (free-left way (open_branches ms) (text_branches ms) c) (free-right way (open_branches ms) (text_branches ms) c) (subst Sound (sym x) q) in
            let d = distinct-differ (names (all_rows wss)) (ap are_distinct (sym (names-are (all_rows wss))) ∙ a) in
            let z = is_closed conv by_contents ws in
            keep-to way _ _ _ (counted-keeps us wss h d)
            (sym (enum-says z (all_rows wss) (all-cases us wss h) d v ps es w) ∙ ap (λ rows. external_takes z (made_variants conv z rows) v es) x)

        by : (o : Option (List (List VariantRow))) → all_some external_case ms ≡ o → option_and_then (λ wss. if_distinct (flat_map (λ ws. ws) wss)) o ≡ Some ws → IsClean way (one_of_external d ms (Some ws)) → AllParts (IsSound way P st R conv r fol tgt v ps es w) (variants_parts ws)
            → Keeps way (Counted way P st R conv r fol tgt v ps es w us) (entry_takes r v es tgt (entry_of conv name (enum_row external_tag by_contents ws)))
        by None f g c q = none-some ws g
        by (Some wss) f g c q = tested wss f c.0 (are_distinct (map (λ w. w.name) (all_rows wss))) refl g q

    pub external-holds : (d : Document) (name : List ℕ) (k : Step) (us : Schemas) (ws : List VariantRow) → external_members (members_from k 0 us) ≡ Some ws → One way P st R conv r fol tgt v ps es w name us (one_of_external d (members_from k 0 us) (Some ws))
    external-holds d name k us ws e = placed-holds d name k us ws (external-found (members_from k 0 us) ws e)
