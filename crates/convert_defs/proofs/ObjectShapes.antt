-- What an object shape says of members, one by one.
use Rattle.schema_defs.specs.declared.Setting.{Setting}
use Rattle.schema_defs.specs.Layer.{MemberPart as SchemaMember, is_passed_over}
use Rattle.std.proofs.Common.{◌≡◌, ℕ, List, [], ◌∷◌, Bool, true, false, ◌&&◌, ◌||◌, not, Option, Some, None, is_none, option_map, refl, sym, ap, ◌∙◌, bytes_eq}
use Rattle.std.specs.Prelude.{if◌then◌else◌, nat_le}
use Rattle.std.specs.List.{list_all}
use Rattle.std.proofs.lemmas.Slice.Eq.{bytes_eq-Decides}
use Rattle.json_value.specs.Value as value
use Rattle.json_value.specs.Value.{Value, Members, member, no_members, same, text, null, number, fraction, list, has_name, member_count}
use Rattle.schema_defs.specs.declared.InstanceType.TheVariants.{Object}
use Rattle.schema_defs.specs.Location.{Location}
use Rattle.schema_defs.specs.Texts.{Relations}
use Rattle.schema_defs.specs.Schema.{Schema, boolean, object, Named, no_named, named, MaybeSchema, no_schema, the_schema, Properties, no_properties, property}
use Rattle.schema_defs.specs.Layer.{Judge, Parts, judge, parts_agree, of_kind_agrees, is_kind, named_agree, member_agrees, member_rules_agree, maybe, property_at, is_given}
use Rattle.model_defs.specs.Layer as model
use Rattle.model_defs.specs.Layer.{MemberPart}
use Rattle.entry_defs.specs.Entry.{Entry}
use Rattle.entry_defs.specs.Layer as entry
use Rattle.convert_defs.specs.Row.{Way}
use Rattle.enum_defs.specs.Words.{has_type, is_bare, without_lists, is_name, names_of}
use Rattle.convert_defs.proofs.PlacedShapes.{ObjectShape, object_shape, shape_of_named}
use Rattle.convert_defs.specs.Shapes.{Member}
use Rattle.enum_defs.specs.Shapes.{closed_by as is_closed, constant_text}
use Rattle.convert_defs.proofs.Bare.{and_left, and_right, and_true, impossible, none-some, some-same, typed, none-agrees}
use Rattle.convert_defs.proofs.Views.{View, of_null, of_boolean, of_number, of_text, of_list, of_object, MembersMatch, Constants}

-- a member, and the members of a value
abbrev pub shape_member : ObjectShape → SchemaMember → Bool
shape_member o m = (is_passed_over o.required_names m || maybe m.says (property_at m.name o.props)) && (is_given (property_at m.name o.props) || not o.closed)

abbrev pub shape_judge : ObjectShape → Value → Parts → Bool
shape_judge o (value.object ms) ps = list_all (shape_member o) ps.members && list_all (λ n. has_name n ms) o.required_names
shape_judge o _ ps = false

abbrev pub bound_member : ObjectShape → SchemaMember → Bool
bound_member o m = maybe m.says (property_at m.name o.props) && (is_given (property_at m.name o.props) || not o.closed)

abbrev pub bound_judge : ObjectShape → Value → Parts → Bool
bound_judge o (value.object ms) ps = list_all (bound_member o) ps.members && list_all (λ n. has_name n ms) o.required_names
bound_judge o _ ps = false

pub or-true : (b : Bool) → (b || true) ≡ true
or-true true = refl
or-true false = refl

and-false : (b : Bool) → (b && false) ≡ false
and-false true = refl
and-false false = refl

pub passed-required : (req : List (List ℕ)) (m : SchemaMember) → is_name m.name req ≡ true → is_passed_over req m ≡ false
passed-required req m h = ap (λ b. m.as_absent && not b) h ∙ and-false m.as_absent

pub given-name : (n : List ℕ) (ps : Properties) → is_given (property_at n ps) ≡ is_name n (names_of ps)
given-name n no_properties = refl
given-name n (property k s ps) = by (bytes_eq n k) (given-name n ps)
  where
    by : (b : Bool) → is_given (property_at n ps) ≡ is_name n (names_of ps) → is_given (if b then the_schema s else property_at n ps) ≡ (b || is_name n (names_of ps))
    by true h = refl
    by false h = h

of-all : (f : List ℕ → Bool) (ns : List (List ℕ)) → list_all f ns ≡ true → (n : List ℕ) → is_name n ns ≡ true → f n ≡ true
of-all f [] h n g = impossible g
of-all f (m ∷ ns) h n g = by (bytes_eq n m) refl g (of-all f ns (and_right (f m) _ h) n)
  where
    by : (b : Bool) → bytes_eq n m ≡ b → (b || is_name n ns) ≡ true → (is_name n ns ≡ true → f n ≡ true) → f n ≡ true
    by true e g k = ap f ((bytes_eq-Decides n m).0 e) ∙ and_left _ _ h
    by false e g k = k g

bound-one : (o : ObjectShape) → list_all (λ n. is_name n o.required_names) (names_of o.props) ≡ true → (m : SchemaMember) → shape_member o m ≡ bound_member o m
bound-one o q m = by (property_at m.name o.props) refl
  where
    by : (x : MaybeSchema) → property_at m.name o.props ≡ x → ((is_passed_over o.required_names m || maybe m.says x) && (is_given x || not o.closed)) ≡ (maybe m.says x && (is_given x || not o.closed))
    by no_schema e = ap (λ b. b && (false || not o.closed)) (or-true (is_passed_over o.required_names m))
    by (the_schema s) e = ap (λ b. (b || m.says s) && true) (passed-required o.required_names m (of-all (λ n. is_name n o.required_names) (names_of o.props) q m.name (sym (given-name m.name o.props) ∙ ap is_given e)))

all-bound : (o : ObjectShape) → list_all (λ n. is_name n o.required_names) (names_of o.props) ≡ true → (v : Value) (ps : Parts) → shape_judge o v ps ≡ bound_judge o v ps
all-bound o q null ps = refl
all-bound o q (value.boolean b) ps = refl
all-bound o q (number z) ps = refl
all-bound o q fraction ps = refl
all-bound o q (text s) ps = refl
all-bound o q (list xs) ps = refl
all-bound o q (value.object ms) ps = ap (λ b. b && list_all (λ n. has_name n ms) o.required_names) (members ps.members)
  where
    members : (js : List SchemaMember) → list_all (shape_member o) js ≡ list_all (bound_member o) js
    members [] = refl
    members (j ∷ js) = λ i. bound-one o q j i && members js i

module _ (way : Way) (st : Setting) (R : Schema → Entry → Type 0) (r : Relations) where
  -- the schema of the rest says whether the shape is open
  rest-open : (rest : MaybeSchema) (c : Bool) → is_closed rest ≡ Some c → (j : Judge) → ((b : Bool) → j (boolean b) ≡ b) → maybe j rest ≡ not c
  rest-open no_schema c e j h = ap not (some-same false c e)
  rest-open (the_schema (boolean b)) c e j h = h b ∙ sym (not_not b) ∙ ap not (some-same (not b) c e)
    where
      not_not : (b : Bool) → not (not b) ≡ b
      not_not true = refl
      not_not false = refl
  rest-open (the_schema (object p ss ls ns)) c e j h = none-some c e

  members-shaped : (props : Properties) (rest : MaybeSchema) (c : Bool) → is_closed rest ≡ Some c → (name : List ℕ → Judge) (ms : Members) (js : List SchemaMember) (ks : List (MemberPart entry.Judge)) → MembersMatch way st R name ms js ks → (l : Location) (req : List (List ℕ))
      → list_all (member_agrees r name props no_properties rest no_schema req) js ≡ list_all (shape_member (record { place = l; closed = c; props = props; required_names = req })) js
  members-shaped props rest c e name no_members [] [] h l req = refl
  members-shaped props rest c e name (member n v ms) (j ∷ js) (k ∷ ks) h l req =
      let a = rest-open rest c e j.says h.0.value.booleans in
      let b = members-shaped props rest c e name ms js ks h.1 l req in
      λ i. simple (is_passed_over req j || maybe j.says (property_at j.name props)) (is_given (property_at j.name props)) (a i) i && b i
    where
      simple : (m g o : Bool) → (m && true && (g || false || o) && true) ≡ (m && (g || o))
      simple true true o = refl
      simple true false true = refl
      simple true false false = refl
      simple false g o = refl
  members-shaped props rest c e name no_members [] (k ∷ ks) h l req = absurd h
  members-shaped props rest c e name no_members (j ∷ js) ks h l req = absurd h
  members-shaped props rest c e name (member n v ms) [] ks h l req = absurd h
  members-shaped props rest c e name (member n v ms) (j ∷ js) [] h l req = absurd h

  open-shaped : (js : List SchemaMember) (l : Location) → list_all (shape_member (record { place = l; closed = false; props = no_properties; required_names = [] })) js ≡ true
  open-shaped [] l = refl
  open-shaped (j ∷ js) l = λ i. (or-true (is_passed_over [] j) i && true) && open-shaped js l i

  named-shaped : (l : Location) (ns : Named) (o : ObjectShape) → shape_of_named l ns ≡ Some o → (ms : Members) (ps : Parts) (ks : List (MemberPart entry.Judge)) → MembersMatch way st R ps.name ms ps.members ks
      → named_agree r ms ps ns ≡ shape_judge o (value.object ms) ps
  named-shaped l no_named o e ms ps ks h =
      sym (and_true (list_all (shape_member (record { place = l; closed = false; props = no_properties; required_names = [] })) ps.members) ∙ open-shaped ps.members l)
      ∙ ap (λ x. shape_judge x (value.object ms) ps) (some-same (record { place = l; closed = false; props = no_properties; required_names = [] }) o e)
  named-shaped l (named props no_properties rest no_schema rules) o e ms ps ks h = by (is_none rules.max_properties && is_none rules.min_properties && list_all (λ n. is_name n (names_of props)) rules.required) refl e
    where
      ruled : is_none rules.max_properties ≡ true → is_none rules.min_properties ≡ true → member_rules_agree ms rules ≡ list_all (λ n. has_name n ms) rules.required
      ruled a b = λ i. none-agrees (λ m. nat_le m (member_count ms)) rules.min_properties b i && none-agrees (λ m. nat_le (member_count ms) m) rules.max_properties a i && list_all (λ n. has_name n ms) rules.required

      closed : (x : Option Bool) → is_closed rest ≡ x → is_none rules.max_properties ≡ true → is_none rules.min_properties ≡ true → option_map (λ c. record { place = l; closed = c; props = props; required_names = rules.required }) x ≡ Some o
          → named_agree r ms ps (named props no_properties rest no_schema rules) ≡ shape_judge o (value.object ms) ps
      closed None f a b g = none-some o g
      closed (Some c) f a b g =
          let x = members-shaped props rest c f ps.name ms ps.members ks h l rules.required in
          let y = ruled a b in
          (λ i. x i && y i) ∙ ap (λ z. shape_judge z (value.object ms) ps) (some-same (record { place = l; closed = c; props = props; required_names = rules.required }) o g)

      by : (b : Bool) → (is_none rules.max_properties && is_none rules.min_properties && list_all (λ n. is_name n (names_of props)) rules.required) ≡ b
          → (if b then option_map (λ c. record { place = l; closed = c; props = props; required_names = rules.required }) (is_closed rest) else None) ≡ Some o
          → named_agree r ms ps (named props no_properties rest no_schema rules) ≡ shape_judge o (value.object ms) ps
      by true f g = let a = and_left (is_none rules.max_properties && is_none rules.min_properties) _ f in closed (is_closed rest) refl (and_left _ _ a) (and_right (is_none rules.max_properties) _ a) g
      by false f g = none-some o g
  named-shaped l (named props (property k u us) rest names rules) o e ms ps ks h = none-some o e
  named-shaped l (named props no_properties rest (the_schema u) rules) o e ms ps ks h = none-some o e

  -- the schema of an object shape
  pub shape-judged : (m : Member) (o : ObjectShape) → object_shape m ≡ Some o → (v : Value) (ps : Parts) (es : model.Parts entry.Judge) → View way st R r v ps es → (fol : List ℕ → Bool) → judge r v ps fol m.1 ≡ shape_judge o v ps
  shape-judged (l, boolean b) o e v ps es w fol = none-some o e
  shape-judged (l, object p ss ls ns) o e v ps es w fol = by (has_type Object p.types && is_bare p ss && is_none p.format && is_none p.numbers && is_none p.texts && without_lists ls) refl e
    where
      shaped : {v : Value} {ps : Parts} {es : model.Parts entry.Judge} → View way st R r v ps es → shape_of_named l ns ≡ Some o → (is_kind v Object && of_kind_agrees r p v && parts_agree r v ps ls ns) ≡ shape_judge o v ps
      shaped (of_null ps) g = refl
      shaped (of_boolean b ps) g = refl
      shaped (of_number z ps f) g = refl
      shaped (of_text s ps) g = refl
      shaped (of_list xs ps ks h) g = refl
      shaped (of_object ms ps ks h am) g = named-shaped l ns o g ms ps ks h

      by : (b : Bool) → (has_type Object p.types && is_bare p ss && is_none p.format && is_none p.numbers && is_none p.texts && without_lists ls) ≡ b → (if b then shape_of_named l ns else None) ≡ Some o → judge r v ps fol (object p ss ls ns) ≡ shape_judge o v ps
      by true f g =
          let a = and_left _ (without_lists ls) f in
          let b = and_left _ (is_none p.texts) a in
          let c = and_left _ (is_none p.numbers) b in
          let k = and_left _ (is_none p.format) c in
          typed r v ps fol p ss ls ns Object (and_left _ _ k) (and_right (has_type Object p.types) _ k) ∙ shaped w g
      by false f g = none-some o g

  -- ---- shapes whose properties are all required: all of them bind

  pub bound-judged : (m : Member) (o : ObjectShape) → object_shape m ≡ Some o → list_all (λ n. is_name n o.required_names) (names_of o.props) ≡ true → (v : Value) (ps : Parts) (es : model.Parts entry.Judge) → View way st R r v ps es → (fol : List ℕ → Bool)
      → judge r v ps fol m.1 ≡ bound_judge o v ps
  bound-judged m o e q v ps es w fol = shape-judged m o e v ps es w fol ∙ all-bound o q v ps

  -- the member of a name
  pub record Found (n : List ℕ) (f g : SchemaMember → Bool) : Type 0 where
    pub at : SchemaMember
    pub is_of : Value
    pub same_name : at.name ≡ n
    pub first : f at ≡ true
    pub second : g at ≡ true
    pub constants : (u : Schema) (s : List ℕ) → constant_text u ≡ Some s → at.says u ≡ same is_of (text s)

  pub found : (n : List ℕ) (f g : SchemaMember → Bool) (name : List ℕ → Judge) (ms : Members) (js : List SchemaMember) (ks : List (MemberPart entry.Judge)) → MembersMatch way st R name ms js ks → Constants way st R ms js
      → list_all f js ≡ true → list_all g js ≡ true → has_name n ms ≡ true → Found n f g
  found n f g name no_members [] [] h c x y z = impossible z
  found n f g name (member l v ms) (j ∷ js) (k ∷ ks) h c x y z = by (bytes_eq n l) refl z (found n f g name ms js ks h.1 c.1 (and_right (f j) _ x) (and_right (g j) _ y))
    where
      by : (b : Bool) → bytes_eq n l ≡ b → (b || has_name n ms) ≡ true → (has_name n ms ≡ true → Found n f g) → Found n f g
      by true e z rec = record { at = j; is_of = v; same_name = h.0.same_name ∙ sym ((bytes_eq-Decides n l).0 e); first = and_left _ _ x; second = and_left _ _ y; constants = c.0 }
      by false e z rec = rec z
  found n f g name no_members [] (k ∷ ks) h c x y z = absurd h
  found n f g name no_members (j ∷ js) ks h c x y z = absurd h
  found n f g name (member l v ms) [] ks h c x y z = absurd h
  found n f g name (member l v ms) (j ∷ js) [] h c x y z = absurd h
