-- Internal enums: the tag names the variant, and the other members are its fields.
use Rattle.schema_defs.specs.declared.Setting.{Setting}
use Rattle.schema_defs.specs.Layer.{MemberPart as SchemaMember, is_passed_over}
use Rattle.std.proofs.Common.{◌≡◌, ℕ, suc, List, [], ◌∷◌, ◌++◌, map, Bool, true, false, ◌&&◌, ◌||◌, not, Option, Some, None, refl, sym, ap, ◌∙◌, subst, true≢false, codes, bytes_eq}
use Rattle.std.specs.Prelude.{if◌then◌else◌, ◌==◌}
use Rattle.std.specs.List.{list_all, list_any}
use Rattle.std.proofs.lemmas.Slice.Eq.{bytes_eq-Decides}
use Rattle.json_value.specs.Value as value
use Rattle.json_value.specs.Value.{Value, Members, member, no_members, same, null, number, fraction, text, list, has_name, member_at}
use Rattle.schema_defs.specs.Texts.{Relations}
use Rattle.schema_defs.specs.Schema.{Schema, MaybeSchema, no_schema, the_schema, Properties, no_properties, property, Schemas, no_more, schema}
use Rattle.schema_defs.specs.Layer.{Judge, Parts, judge, judge_any, judge_count, maybe, property_at, is_given}
use Rattle.model_defs.specs.Layer as model
use Rattle.model_defs.specs.Layer.{MemberPart, no_parts, list_parts, object_parts, members_in, without}
use Rattle.entry_defs.specs.Entry.{Target, Entry, unit_entry, no_rest, no_fields, FieldEntry, fields_of}
use Rattle.entry_defs.specs.Layer as entry
use Rattle.entry_defs.specs.Layer.{entry_takes, variant_named, variant_of_text, tagged_variant, beside_tag, internal_takes, members_take, may_be_missing}
use Rattle.entry_defs.specs.Members.{field_named, member_takes, has_member, are_present, each_takes, AreMembers}
use Rattle.convert_defs.specs.Row.{Way, narrowed, widened, Part, of_branch, FieldRow, field_parts, VariantRow}
use Rattle.convert_defs.specs.Owners.{property_fields, state_of, default_of, may_be_null}
use Rattle.enum_defs.specs.Words.{is_name, names_of}
use Rattle.convert_defs.proofs.PlacedShapes.{ObjectShape, branch_fields}
use Rattle.convert_defs.specs.Shapes.{less_property, placed_field}
use Rattle.enum_defs.specs.Shapes.{constant_text}
use Rattle.convert_defs.specs.Apart.{differ}
use Rattle.convert_defs.specs.Convert.{row_fields, nullable_entry}
use Rattle.convert_defs.specs.Laws.{Keeps, same_way}
use Rattle.convert_defs.proofs.Keeps.{keep-from, keep-to}
use Rattle.convert_defs.proofs.Bare.{and_left, and_right, and_true, impossible, none-some, some-same, or_left, or_right}
use Rattle.convert_defs.proofs.Views.{View, JudgesMatch, MembersMatch, Constants, IsConverted, AllParts, Made, made-keeps}
use Rattle.convert_defs.proofs.Nullable.{some-counted}
use Rattle.convert_defs.proofs.Objects.{has-member}
use Rattle.convert_defs.proofs.ObjectShapes.{shape_member, given-name, passed-required, or-true}
use Rattle.convert_defs.proofs.Constants.{text-only}
use Rattle.convert_defs.proofs.OneOf.{Counted}
use Rattle.convert_defs.proofs.External.{names, keyed}
use Rattle.convert_defs.proofs.Differ.{head-alone}

or-first : (a b : Bool) → a ≡ true → (a || b) ≡ true
or-first a b h = ap (λ x. x || b) h

or-second : (a b : Bool) → b ≡ true → (a || b) ≡ true
or-second true b h = refl
or-second false b h = h

itself : (n : List ℕ) → bytes_eq n n ≡ true
itself n = (bytes_eq-Decides n n).1 refl

same-name : (m n : List ℕ) → bytes_eq m n ≡ true → m ≡ n
same-name m n h = (bytes_eq-Decides m n).0 h

turned : (m n : List ℕ) → bytes_eq m n ≡ true → bytes_eq n m ≡ true
turned m n h = (bytes_eq-Decides n m).1 (sym (same-name m n h))

-- ---- just one of variants that are told apart by a key

module _ (way : Way) (P : List ℕ → Type 0) (st : Setting) (R : Schema → Entry → Type 0) (conv : Part → Entry) (r : Relations) (fol : List ℕ → Bool) (tgt : Target → Bool) (v : Value) (ps : Parts) (es : model.Parts entry.Judge) (w : View way st R r v ps es) (key : Option (List ℕ)) (inside : VariantRow → Bool) where
  abbrev says : VariantRow → Bool
  says x = keyed x.name key && inside x

  pub record Told (s : Schema) (x : VariantRow) : Type 0 where
    pub keeps : Keeps way (judge r v ps fol s) (says x)
    pub touches : (n : List ℕ) → key ≡ Some n → judge r v ps fol s ≡ true → bytes_eq n x.name ≡ true

  abbrev pub AllTold : Schemas → List VariantRow → Type 0
  AllTold no_more [] = Unit {0}
  AllTold (schema s ss) (x ∷ xs) = Told s x × AllTold ss xs
  AllTold _ _ = ⊥

  none-says : (xs : List VariantRow) → key ≡ None → list_any says xs ≡ false
  none-says [] h = refl
  none-says (x ∷ xs) h = λ i. (ap (keyed x.name) h i && inside x) || none-says xs h i

  pub other-says : (n : List ℕ) (xs : List VariantRow) → key ≡ Some n → is_name n (names xs) ≡ false → list_any says xs ≡ false
  other-says n [] h g = refl
  other-says n (x ∷ xs) h g =
      let a = or_left (bytes_eq n x.name) (is_name n (names xs)) g in
      let b = other-says n xs h (or_right (bytes_eq n x.name) (is_name n (names xs)) g) in
      λ i. ((ap (keyed x.name) h ∙ a) i && inside x) || b i

  some-told : (us : Schemas) (xs : List VariantRow) → AllTold us xs → same_way way narrowed ≡ true → judge_any r v ps fol us ≡ true → list_any says xs ≡ true
  some-told no_more [] h z t = impossible t
  some-told (schema s ss) (x ∷ xs) h z t = by (judge r v ps fol s) refl t (some-told ss xs h.1 z)
    where
      first : (m : Way) → same_way m narrowed ≡ true → Keeps m (judge r v ps fol s) (says x) → judge r v ps fol s ≡ true → says x ≡ true
      first narrowed z f t = f t
      first widened z f t = impossible z

      by : (b : Bool) → judge r v ps fol s ≡ b → (b || judge_any r v ps fol ss) ≡ true → (judge_any r v ps fol ss ≡ true → list_any says xs ≡ true) → (says x || list_any says xs) ≡ true
      by true e t f = or-first (says x) _ (first way z h.0.keeps e)
      by false e t f = or-second (says x) _ (f t)
  some-told no_more (x ∷ xs) h z t = absurd h
  some-told (schema s ss) [] h z t = absurd h

  none-left : (n : List ℕ) → key ≡ Some n → (us : Schemas) (xs : List VariantRow) → AllTold us xs → is_name n (names xs) ≡ false → judge_count r v ps fol us ≡ 0
  none-left n k no_more [] h g = refl
  none-left n k (schema s ss) (x ∷ xs) h g = by (judge r v ps fol s) refl (none-left n k ss xs h.1 (or_right (bytes_eq n x.name) _ g))
    where
      by : (b : Bool) → judge r v ps fol s ≡ b → judge_count r v ps fol ss ≡ 0 → (if b then suc (judge_count r v ps fol ss) else judge_count r v ps fol ss) ≡ 0
      by true e f = absurd (true≢false (sym (h.0.touches n k e) ∙ or_left (bytes_eq n x.name) _ g))
      by false e f = f
  none-left n k no_more (x ∷ xs) h g = absurd h
  none-left n k (schema s ss) [] h g = absurd h

  one-told : same_way way widened ≡ true → (n : List ℕ) → key ≡ Some n → (us : Schemas) (xs : List VariantRow) → AllTold us xs → differ (names xs) ≡ true → list_any says xs ≡ true → Counted way P st R conv r fol tgt v ps es w us ≡ true
  one-told z n k no_more [] h d t = impossible t
  one-told z n k (schema s ss) (x ∷ xs) h d t = by (judge r v ps fol s) refl (one-told z n k ss xs h.1 (and_right (list_all (λ m. not (bytes_eq x.name m)) (names xs)) _ d))
    where
      first : (m : Way) → same_way m widened ≡ true → Keeps m (judge r v ps fol s) (says x) → says x ≡ true → judge r v ps fol s ≡ true
      first narrowed z f t = impossible z
      first widened z f t = f t

      said : (b : Bool) → says x ≡ b → judge r v ps fol s ≡ false → (b || list_any says xs) ≡ true → list_any says xs ≡ true
      said true y e t = absurd (true≢false (sym (first way z h.0.keeps y) ∙ e))
      said false y e t = t

      by : (b : Bool) → judge r v ps fol s ≡ b → (list_any says xs ≡ true → Counted way P st R conv r fol tgt v ps es w ss ≡ true) → ((if b then suc (judge_count r v ps fol ss) else judge_count r v ps fol ss) == 1) ≡ true
      by true e f = ap (λ n. suc n == 1) (none-left n k ss xs h.1 (ap (λ m. is_name m (names xs)) (same-name n x.name (h.0.touches n k e)) ∙ head-alone x.name (names xs) d))
      by false e f = f (said (says x) refl e t)
  one-told z n k no_more (x ∷ xs) h d t = absurd h
  one-told z n k (schema s ss) [] h d t = absurd h

  pub counted-told : (us : Schemas) (xs : List VariantRow) → AllTold us xs → differ (names xs) ≡ true → Keeps way (Counted way P st R conv r fol tgt v ps es w us) (list_any says xs)
  counted-told us xs h d = ways way refl
    where
      ways : (m : Way) → way ≡ m → Keeps m (Counted way P st R conv r fol tgt v ps es w us) (list_any says xs)
      ways narrowed e = λ t. some-told us xs h (ap (λ m. same_way m narrowed) e) (some-counted r v ps fol us t)
      ways widened e = λ t. by key refl t
        where
          by : (o : Option (List ℕ)) → key ≡ o → list_any says xs ≡ true → Counted way P st R conv r fol tgt v ps es w us ≡ true
          by None k t = impossible (sym (none-says xs k) ∙ t)
          by (Some n) k t = one-told (ap (λ m. same_way m widened) e) n k us xs h d t

-- ---- the tag

abbrev pub text_in : Option Value → Option (List ℕ)
text_in (Some (text s)) = Some s
text_in _ = None

abbrev pub tag_key : List ℕ → Value → Option (List ℕ)
tag_key tag (value.object ms) = text_in (member_at tag ms)
tag_key tag _ = None

pub text-there : (o : Option Value) (s : List ℕ) → text_in o ≡ Some s → o ≡ Some (text s)
text-there None s h = none-some s h
text-there (Some null) s h = none-some s h
text-there (Some (value.boolean b)) s h = none-some s h
text-there (Some (number z)) s h = none-some s h
text-there (Some fraction) s h = none-some s h
text-there (Some (text t)) s h = ap (λ u. Some (text u)) (some-same t s h)
text-there (Some (list xs)) s h = none-some s h
text-there (Some (value.object ms)) s h = none-some s h

-- ---- one branch

module _ (tag : List ℕ) where
  pub less-same : (n : List ℕ) → bytes_eq n tag ≡ false → (qs : Properties) → property_at n (less_property tag qs) ≡ property_at n qs
  less-same n h no_properties = refl
  less-same n h (property k s qs) = by (bytes_eq tag k) refl (less-same n h qs)
    where
      by : (b : Bool) → bytes_eq tag k ≡ b → property_at n (less_property tag qs) ≡ property_at n qs → property_at n (if b then less_property tag qs else property k s (less_property tag qs)) ≡ (if bytes_eq n k then the_schema s else property_at n qs)
      by true e f = f ∙ ap (λ b. if b then the_schema s else property_at n qs) (sym (sym (ap (bytes_eq n) (same-name tag k e)) ∙ h))
      by false e f = ap (λ m. if bytes_eq n k then the_schema s else m) f

  other-name : (n : List ℕ) → bytes_eq tag n ≡ false → bytes_eq n tag ≡ false
  other-name n h = by (bytes_eq n tag) refl
    where
      by : (b : Bool) → bytes_eq n tag ≡ b → b ≡ false
      by true e = absurd (true≢false (sym (turned n tag e) ∙ h))
      by false e = refl

  -- members beside the tag
  beside-member : (n : List ℕ) → bytes_eq n tag ≡ false → (ks : List (MemberPart entry.Judge)) → has_member n (without tag ks) ≡ has_member n ks
  beside-member n h [] = refl
  beside-member n h (k ∷ ks) = by (bytes_eq tag k.name) refl (beside-member n h ks)
    where
      by : (b : Bool) → bytes_eq tag k.name ≡ b → has_member n (without tag ks) ≡ has_member n ks → has_member n (if not b then k ∷ without tag ks else without tag ks) ≡ (bytes_eq n k.name || has_member n ks)
      by true e f = f ∙ ap (λ b. b || has_member n ks) (sym (sym (ap (bytes_eq n) (same-name tag k.name e)) ∙ h))
      by false e f = ap (λ b. bytes_eq n k.name || b) f

  beside-none : (n : List ℕ) (ks : List (MemberPart entry.Judge)) → has_member n ks ≡ false → has_member n (without tag ks) ≡ false
  beside-none n [] h = refl
  beside-none n (k ∷ ks) h = by (bytes_eq tag k.name) (or_left (bytes_eq n k.name) _ h) (beside-none n ks (or_right (bytes_eq n k.name) _ h))
    where
      by : (b : Bool) → bytes_eq n k.name ≡ false → has_member n (without tag ks) ≡ false → has_member n (if not b then k ∷ without tag ks else without tag ks) ≡ false
      by true e f = f
      by false e f = λ i. e i || f i

  pub beside-members : (ks : List (MemberPart entry.Judge)) → AreMembers ks → AreMembers (without tag ks)
  beside-members [] h = tt
  beside-members (k ∷ ks) h = by (bytes_eq tag k.name) (beside-members ks h.2)
    where
      by : (b : Bool) → AreMembers (without tag ks) → AreMembers (if not b then k ∷ without tag ks else without tag ks)
      by true f = f
      by false f = (beside-none k.name ks h.0, h.1, f)

module _ (way : Way) (st : Setting) (R : Schema → Entry → Type 0) (conv : Part → Entry) (r : Relations) (tag : List ℕ) (o : ObjectShape) (u : Schema) (s : List ℕ) (here_u : property_at tag o.props ≡ the_schema u) (const : constant_text u ≡ Some s) (req : is_name tag o.required_names ≡ true)
    (within : list_all (λ n. is_name n (names_of o.props)) o.required_names ≡ true) (closed : Bool) (open_way : Keeps way (not o.closed) (not closed)) (converted : AllParts (IsConverted way st R conv) (field_parts (branch_fields st tag o))) where
  abbrev fs : List FieldRow
  fs = branch_fields st tag o

  abbrev FS : List FieldEntry
  FS = fields_of (row_fields conv fs no_fields)

  abbrev FieldAt : List ℕ → MaybeSchema → Option FieldEntry → Type 0
  FieldAt n no_schema x = x ≡ None
  FieldAt n (the_schema t) x = (f : FieldEntry) × (x ≡ Some f) × Made way st R o.required_names n t f.entry

  field-at : (qs : Properties) → AllParts (IsConverted way st R conv) (field_parts (map (placed_field o.place) (property_fields st o.required_names qs))) → (n : List ℕ) → FieldAt n (property_at n qs) (field_named n (fields_of (row_fields conv (map (placed_field o.place) (property_fields st o.required_names qs)) no_fields)))
  field-at no_properties c n = refl
  field-at (property k t qs) c n = by (bytes_eq n k) refl (field-at qs c.1 n)
    where
      f : FieldEntry
      f = record { identifier = k; name = k; entry = nullable_entry (may_be_null st && not (is_name k o.required_names)) (conv (of_branch (o.place ++ (codes "properties" ∷ k ∷ [])) t)); state = state_of (is_name k o.required_names) (default_of t) }

      by : (b : Bool) → bytes_eq n k ≡ b → FieldAt n (property_at n qs) (field_named n (fields_of (row_fields conv (map (placed_field o.place) (property_fields st o.required_names qs)) no_fields)))
          → FieldAt n (if b then the_schema t else property_at n qs) (if b then Some f else field_named n (fields_of (row_fields conv (map (placed_field o.place) (property_fields st o.required_names qs)) no_fields)))
      by true e h = (f, refl, (conv (of_branch (o.place ++ (codes "properties" ∷ k ∷ [])) t), c.0, ap (λ x. nullable_entry (may_be_null st && not (is_name x o.required_names)) (conv (of_branch (o.place ++ (codes "properties" ∷ k ∷ [])) t))) (sym (same-name n k e))))
      by false e h = h

  -- a member beside the tag
  one-member : (n : List ℕ) (j : SchemaMember) (k : MemberPart entry.Judge) → j.name ≡ n → k.name ≡ n → JudgesMatch way st R j.says k.value → j.as_absent ≡ (may_be_null st && k.value unit_entry) → bytes_eq n tag ≡ false → Keeps way (shape_member o j) (member_takes closed no_rest k (field_named k.name FS))
  one-member n j k a b h z e =
      keep-from way _ _ _ (ap (λ m. (is_passed_over o.required_names j || maybe j.says (property_at m o.props)) && (is_given (property_at m o.props) || not o.closed)) a)
      (keep-to way _ _ _ (keep-from way _ _ _ (ap (λ m. (is_passed_over o.required_names j || maybe j.says m) && (is_given m || not o.closed)) (sym (less-same tag n e o.props))) (by (property_at n (less_property tag o.props)) (field_named n FS) (field-at (less_property tag o.props) converted n)))
      (ap (λ m. member_takes closed no_rest k (field_named m FS)) (sym b)))
    where
      by : (m : MaybeSchema) (x : Option FieldEntry) → FieldAt n m x → Keeps way ((is_passed_over o.required_names j || maybe j.says m) && (is_given m || not o.closed)) (member_takes closed no_rest k x)
      by no_schema x e = keep-from way _ _ _ (ap (λ b. b && (false || not o.closed)) (or-true (is_passed_over o.required_names j))) (keep-to way _ _ _ open_way (ap (member_takes closed no_rest k) (sym e)))
      by (the_schema t) x (f, e, c) = keep-from way _ _ _ (and_true (is_passed_over o.required_names j || j.says t)) (keep-to way _ _ _ (made-keeps way st R o.required_names n j k h a z t f.entry c) (ap (member_takes closed no_rest k) (sym e)))

  abbrev takes_each : List (MemberPart entry.Judge) → Bool
  takes_each ks = each_takes closed FS no_rest ks

  -- the tag's member
  tag-member : (x : Value) (j : SchemaMember) → bytes_eq tag j.name ≡ true → ((t : Schema) (c : List ℕ) → constant_text t ≡ Some c → j.says t ≡ same x (text c)) → shape_member o j ≡ same x (text s)
  tag-member x j e f =
      ap (λ b. (b || maybe j.says (property_at j.name o.props)) && (is_given (property_at j.name o.props) || not o.closed)) (passed-required o.required_names j (ap (λ n. is_name n o.required_names) (sym (same-name tag j.name e)) ∙ req))
      ∙ ap (λ m. maybe j.says (property_at m o.props) && (is_given (property_at m o.props) || not o.closed)) (sym (same-name tag j.name e))
      ∙ ap (λ m. maybe j.says m && (is_given m || not o.closed)) here_u ∙ and_true (j.says u) ∙ f u s const

  each-narrowed : (z : way ≡ narrowed) (name : List ℕ → Judge) (ms : Members) (js : List SchemaMember) (ks : List (MemberPart entry.Judge)) → MembersMatch way st R name ms js ks → list_all (shape_member o) js ≡ true → takes_each (without tag ks) ≡ true
  each-narrowed z name no_members [] [] h t = refl
  each-narrowed z name (member n x ms) (j ∷ js) (k ∷ ks) h t = by (bytes_eq tag k.name) refl (each-narrowed z name ms js ks h.1 (and_right (shape_member o j) _ t))
    where
      by : (b : Bool) → bytes_eq tag k.name ≡ b → takes_each (without tag ks) ≡ true → takes_each (if not b then k ∷ without tag ks else without tag ks) ≡ true
      by true e f = f
      by false e f =
          let a = subst (λ m. Keeps m (shape_member o j) (member_takes closed no_rest k (field_named k.name FS))) z (one-member n j k h.0.same_name h.0.name_is h.0.value h.0.as_absent (other-name tag n (ap (bytes_eq tag) (sym h.0.name_is) ∙ e))) (and_left _ _ t) in
          λ i. a i && f i
  each-narrowed z name no_members [] (k ∷ ks) h t = absurd h
  each-narrowed z name no_members (j ∷ js) ks h t = absurd h
  each-narrowed z name (member n x ms) [] ks h t = absurd h
  each-narrowed z name (member n x ms) (j ∷ js) [] h t = absurd h

  -- where the tag, if it comes, is that text
  each-widened : (z : way ≡ widened) (name : List ℕ → Judge) (ms : Members) (js : List SchemaMember) (ks : List (MemberPart entry.Judge)) → MembersMatch way st R name ms js ks → Constants way st R ms js → AreMembers ks → ((x : Value) → member_at tag ms ≡ Some x → same x (text s) ≡ true)
      → takes_each (without tag ks) ≡ true → list_all (shape_member o) js ≡ true
  each-widened z name no_members [] [] h c am f t = refl
  each-widened z name (member n x ms) (j ∷ js) (k ∷ ks) h c am f t = by (bytes_eq tag k.name) refl t (λ g t. each-widened z name ms js ks h.1 c.1 am.2 g t)
    where
      same-tag : bytes_eq tag n ≡ bytes_eq tag k.name
      same-tag = ap (bytes_eq tag) (sym h.0.name_is)

      absent : (ms : Members) (js : List SchemaMember) (ls : List (MemberPart entry.Judge)) → MembersMatch way st R name ms js ls → has_member tag ls ≡ false → (y : Value) → member_at tag ms ≡ Some y → same y (text s) ≡ true
      absent no_members js ls h g y e = none-some y e
      absent (member m v ms) [] ls h g y e = absurd h
      absent (member m v ms) (j ∷ js) [] h g y e = absurd h
      absent (member m v ms) (j ∷ js) (l ∷ ls) h g y e =
          let a = ap (bytes_eq tag) (sym h.0.name_is) ∙ or_left (bytes_eq tag l.name) _ g in
          absent ms js ls h.1 (or_right (bytes_eq tag l.name) _ g) y (ap (λ b. if b then Some v else member_at tag ms) (sym a) ∙ e)

      by : (b : Bool) → bytes_eq tag k.name ≡ b → takes_each (if not b then k ∷ without tag ks else without tag ks) ≡ true → (((x : Value) → member_at tag ms ≡ Some x → same x (text s) ≡ true) → takes_each (without tag ks) ≡ true → list_all (shape_member o) js ≡ true)
          → (shape_member o j && list_all (shape_member o) js) ≡ true
      by true e t rec =
          let a = tag-member x j (ap (bytes_eq tag) (h.0.same_name ∙ sym h.0.name_is) ∙ e) c.0 ∙ f x (ap (λ b. if b then Some x else member_at tag ms) (same-tag ∙ e)) in
          let g = ap (λ m. has_member m ks) (same-name tag k.name e) ∙ am.0 in
          let b = rec (absent ms js ks h.1 g) t in
          λ i. a i && b i
      by false e t rec =
          let a = subst (λ m. Keeps m (shape_member o j) (member_takes closed no_rest k (field_named k.name FS))) z (one-member n j k h.0.same_name h.0.name_is h.0.value h.0.as_absent (other-name tag n (same-tag ∙ e))) (and_left _ _ t) in
          let b = rec (λ y g. f y (ap (λ b. if b then Some x else member_at tag ms) (same-tag ∙ e) ∙ g)) (and_right (member_takes closed no_rest k (field_named k.name FS)) _ t) in
          λ i. a i && b i
  each-widened z name no_members [] (k ∷ ks) h c am f t = absurd h
  each-widened z name no_members (j ∷ js) ks h c am f t = absurd h
  each-widened z name (member n x ms) [] ks h c am f t = absurd h
  each-widened z name (member n x ms) (j ∷ js) [] h c am f t = absurd h

  -- ---- which members are there

  abbrev made_of : Properties → List FieldEntry
  made_of qs = fields_of (row_fields conv (map (placed_field o.place) (property_fields st o.required_names qs)) no_fields)

  pub all-has : (f : List ℕ → Bool) (ns : List (List ℕ)) → list_all f ns ≡ true → (n : List ℕ) → is_name n ns ≡ true → f n ≡ true
  all-has f [] h n g = impossible g
  all-has f (m ∷ ns) h n g = by (bytes_eq n m) refl g (all-has f ns (and_right (f m) _ h) n)
    where
      by : (b : Bool) → bytes_eq n m ≡ b → (b || is_name n ns) ≡ true → (is_name n ns ≡ true → f n ≡ true) → f n ≡ true
      by true e g k = ap f (same-name n m e) ∙ and_left _ _ h
      by false e g k = k g

  has-all : (f : List ℕ → Bool) (ns : List (List ℕ)) → ((n : List ℕ) → is_name n ns ≡ true → f n ≡ true) → list_all f ns ≡ true
  has-all f [] g = refl
  has-all f (n ∷ ns) g = let a = g n (or-first (bytes_eq n n) _ (itself n)) in let b = has-all f ns (λ m h. g m (or-second (bytes_eq m n) _ h)) in λ i. a i && b i

  there-narrowed : (ks : List (MemberPart entry.Judge)) → ((n : List ℕ) → is_name n o.required_names ≡ true → has_member n ks ≡ true) → (qs : Properties) → are_present (made_of (less_property tag qs)) (without tag ks) ≡ true
  there-narrowed ks f no_properties = refl
  there-narrowed ks f (property k t qs) = by (bytes_eq tag k) refl (there-narrowed ks f qs)
    where
      state : (b : Bool) (d : Option Value) → (b ≡ true → has_member k (without tag ks) ≡ true) → (may_be_missing (state_of b d) || has_member k (without tag ks)) ≡ true
      state true d g = g refl
      state false None g = refl
      state false (Some x) g = refl

      by : (b : Bool) → bytes_eq tag k ≡ b → are_present (made_of (less_property tag qs)) (without tag ks) ≡ true → are_present (made_of (if b then less_property tag qs else property k t (less_property tag qs))) (without tag ks) ≡ true
      by true e g = g
      by false e g =
          let a = state (is_name k o.required_names) (default_of t) (λ x. beside-member tag k (other-name tag k e) ks ∙ f k x) in
          λ i. a i && g i

  there-widened : (xs : List (MemberPart entry.Judge)) (qs : Properties) → are_present (made_of qs) xs ≡ true → (n : List ℕ) → is_name n o.required_names ≡ true → is_given (property_at n qs) ≡ true → has_member n xs ≡ true
  there-widened xs no_properties h n q g = impossible g
  there-widened xs (property k t qs) h n q g = by (bytes_eq n k) refl g (there-widened xs qs (and_right (may_be_missing (state_of (is_name k o.required_names) (default_of t)) || has_member k xs) _ h) n q)
    where
      needed : (b : Bool) (d : Option Value) (c : Bool) → b ≡ true → (may_be_missing (state_of b d) || c) ≡ true → c ≡ true
      needed true d c e h = h
      needed false d c e h = impossible e

      by : (b : Bool) → bytes_eq n k ≡ b → is_given (if b then the_schema t else property_at n qs) ≡ true → (is_given (property_at n qs) ≡ true → has_member n xs ≡ true) → has_member n xs ≡ true
      by true e g f = ap (λ m. has_member m xs) (same-name n k e) ∙ needed (is_name k o.required_names) (default_of t) (has_member k xs) (ap (λ m. is_name m o.required_names) (sym (same-name n k e)) ∙ q) (and_left _ _ h)
      by false e g f = f g

  -- the value of the tag
  pub tag-value : (name : List ℕ → Judge) (ms : Members) (js : List SchemaMember) (ks : List (MemberPart entry.Judge)) → MembersMatch way st R name ms js ks → Constants way st R ms js → list_all (shape_member o) js ≡ true → has_name tag ms ≡ true → (x : Value) × (member_at tag ms ≡ Some x) × (same x (text s) ≡ true)
  tag-value name no_members [] [] h c t g = impossible g
  tag-value name (member n x ms) (j ∷ js) (k ∷ ks) h c t g = by (bytes_eq tag n) refl g (tag-value name ms js ks h.1 c.1 (and_right (shape_member o j) _ t))
    where
      by : (b : Bool) → bytes_eq tag n ≡ b → (b || has_name tag ms) ≡ true → (has_name tag ms ≡ true → (y : Value) × (member_at tag ms ≡ Some y) × (same y (text s) ≡ true)) → (y : Value) × ((if b then Some x else member_at tag ms) ≡ Some y) × (same y (text s) ≡ true)
      by true e g f = (x, refl, sym (tag-member x j (ap (bytes_eq tag) h.0.same_name ∙ e) c.0) ∙ and_left _ _ t)
      by false e g f = f g
  tag-value name no_members [] (k ∷ ks) h c t g = absurd h
  tag-value name no_members (j ∷ js) ks h c t g = absurd h
  tag-value name (member n x ms) [] ks h c t g = absurd h
  tag-value name (member n x ms) (j ∷ js) [] h c t g = absurd h

  has-value : (ms : Members) (x : Value) → member_at tag ms ≡ Some x → has_name tag ms ≡ true
  has-value no_members x h = none-some x h
  has-value (member n y ms) x h = by (bytes_eq tag n) h (has-value ms x)
    where
      by : (b : Bool) → (if b then Some y else member_at tag ms) ≡ Some x → (member_at tag ms ≡ Some x → has_name tag ms ≡ true) → (b || has_name tag ms) ≡ true
      by true h f = refl
      by false h f = f h

  abbrev pub branch_takes : List (MemberPart entry.Judge) → Bool
  branch_takes ks = takes_each (without tag ks) && are_present FS (without tag ks)

  keyed-same : (a : Option (List ℕ)) → keyed s a ≡ true → a ≡ Some s
  keyed-same None h = impossible h
  keyed-same (Some m) h = ap Some (same-name m s h)

  pub branch-keeps : (name : List ℕ → Judge) (ms : Members) (js : List SchemaMember) (ks : List (MemberPart entry.Judge)) → MembersMatch way st R name ms js ks → Constants way st R ms js → AreMembers ks
      → Keeps way (list_all (shape_member o) js && list_all (λ n. has_name n ms) o.required_names) (keyed s (text_in (member_at tag ms)) && branch_takes ks)
  branch-keeps name ms js ks h c am = ways way refl
    where
      member-is : (n : List ℕ) → has_member n ks ≡ has_name n ms
      member-is n = has-member way st R conv r name ms js ks h n

      ways : (m : Way) → way ≡ m → Keeps m (list_all (shape_member o) js && list_all (λ n. has_name n ms) o.required_names) (keyed s (text_in (member_at tag ms)) && branch_takes ks)
      ways narrowed z = λ t.
          let a = and_left _ _ t in
          let b = and_right (list_all (shape_member o) js) _ t in
          let x = tag-value name ms js ks h c a (all-has (λ n. has_name n ms) o.required_names b tag req) in
          let k = ap (λ w. keyed s (text_in w)) (x.1 ∙ ap Some (text-only x.0 s x.2)) ∙ itself s in
          let e = each-narrowed z name ms js ks h a in
          let f = there-narrowed ks (λ n q. member-is n ∙ all-has (λ n. has_name n ms) o.required_names b n q) o.props in
          λ i. k i && (e i && f i)
      ways widened z = λ t.
          let k = text-there (member_at tag ms) s (keyed-same (text_in (member_at tag ms)) (and_left _ _ t)) in
          let b = and_right (keyed s (text_in (member_at tag ms))) _ t in
          let e = each-widened z name ms js ks h c am (λ x g. ap (λ y. same y (text s)) (some-same x (text s) (sym g ∙ k)) ∙ itself s) (and_left _ _ b) in
          let f = has-all (λ n. has_name n ms) o.required_names (λ n q. one n q (bytes_eq n tag) refl (has-value ms (text s) k) (and_right (takes_each (without tag ks)) _ b)) in
          λ i. e i && f i
        where
          one : (n : List ℕ) → is_name n o.required_names ≡ true → (b : Bool) → bytes_eq n tag ≡ b → has_name tag ms ≡ true → are_present FS (without tag ks) ≡ true → has_name n ms ≡ true
          one n q true e g f = ap (λ m. has_name m ms) (same-name n tag e) ∙ g
          one n q false e g f =
              sym (member-is n) ∙ sym (beside-member tag n e ks)
              ∙ there-widened (without tag ks) (less_property tag o.props) f n q (ap is_given (less-same tag n e o.props) ∙ given-name n o.props ∙ all-has (λ n. is_name n (names_of o.props)) o.required_names within n q)
