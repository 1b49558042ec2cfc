-- What an object shape says of the members of an object that it admits.
use Rattle.std.proofs.Common.{◌≡◌, ℕ, List, [], ◌∷◌, Bool, true, false, ◌&&◌, ◌||◌, not, Option, Some, None, is_none, option_map, refl, sym, ap, subst, ◌∙◌, true≢false, bytes_eq}
use Rattle.std.specs.Prelude.{if◌then◌else◌}
use Rattle.std.specs.List.{list_all, list_any}
use Rattle.std.proofs.lemmas.Slice.Eq.{bytes_eq-Decides}
use Rattle.json_value.specs.Value as value
use Rattle.json_value.specs.Value.{Value, Members, member, no_members, null, number, fraction, text, list, has_name}
use Rattle.schema_defs.specs.declared.InstanceType.TheVariants.{Object}
use Rattle.schema_defs.specs.Texts.{Relations}
use Rattle.schema_defs.specs.Schema.{Schema, boolean, object, Named, no_named, named, MaybeSchema, no_schema, the_schema, Properties, no_properties, property, Document}
use Rattle.schema_defs.specs.Layer.{Judge, MemberPart, Parts, judge, parts_agree, is_kind, if_given, types_agree, named_agree, member_agrees, member_rules_agree, within, is_passed_over, maybe, property_at, is_given, has_any, patterns_agree}
use Rattle.schema_defs.specs.Admits.{counts_as_absent, admits, admits-level, member_parts, parts_of, judge_within, allowed, name_admits}
use Rattle.enum_defs.specs.Words.{has_type, without_lists, is_bare, is_unruled, props_of, required_of, names_of, is_name}
use Rattle.enum_defs.specs.Shapes.{ObjectShape, closed_by, is_uncounted, closedness, object_shape}
use Rattle.enum_defs.proofs.Tests.{and_left, and_right, impossible, none-some, some-same}
use Rattle.enum_defs.proofs.Says.{says}
use Rattle.enum_defs.proofs.Constants.{has_type-is}

pub given-name : (n : List ℕ) (ps : Properties) → is_given (property_at n ps) ≡ is_name n (names_of ps)
given-name n no_properties = refl
given-name n (property k s ps) = by (bytes_eq n k) (given-name n ps)
  where
    by : (b : Bool) → is_given (property_at n ps) ≡ is_name n (names_of ps) → is_given (if b then the_schema s else property_at n ps) ≡ (b || is_name n (names_of ps))
    by true h = refl
    by false h = h

-- what the member's schema says, and that a member is named where the shape is closed
abbrev pub bound_in : Named → MemberPart → Bool
bound_in ns m = is_passed_over (required_of ns) m || maybe m.says (property_at m.name (props_of ns))

abbrev pub named_in : Bool → Named → MemberPart → Bool
named_in c ns m = is_given (property_at m.name (props_of ns)) || not c

module _ (r : Relations) (d : Document) where
  abbrev pub part : List ℕ → Value → MemberPart
  part n x = record { name = n; as_absent = counts_as_absent d.setting x; says = admits r d x }

  pub record ShapeSays (o : ObjectShape) (ms : Members) : Type 0 where
    pub required : list_all (λ n. has_name n ms) (required_of o.object) ≡ true
    pub bound : list_all (bound_in o.object) (member_parts r d ms) ≡ true
    pub named : list_all (named_in o.closed o.object) (member_parts r d ms) ≡ true

  -- ---- from what each member says

  each : (f g : MemberPart → Bool) (ms : Members) → ((n : List ℕ) (x : Value) → f (part n x) ≡ true → g (part n x) ≡ true) → list_all f (member_parts r d ms) ≡ true → list_all g (member_parts r d ms) ≡ true
  each f g no_members w h = refl
  each f g (member n x ms) w h =
      let a = w n x (and_left _ _ h) in
      let b = each f g ms w (and_right (f (part n x)) _ h) in
      λ i. a i && b i

  every : (g : MemberPart → Bool) (ms : Members) → ((n : List ℕ) (x : Value) → g (part n x) ≡ true) → list_all g (member_parts r d ms) ≡ true
  every g no_members w = refl
  every g (member n x ms) w = let a = w n x in let b = every g ms w in λ i. a i && b i

  or-true : (b : Bool) → (b || true) ≡ true
  or-true true = refl
  or-true false = refl

  -- the rest as a boolean says whether the shape is open
  rest-open : (rest : MaybeSchema) (c : Bool) → closed_by rest ≡ Some c → (x : Value) → maybe (admits r d x) rest ≡ not c
  rest-open no_schema c e x = ap not (some-same false c e)
  rest-open (the_schema (boolean b)) c e x = ap (λ j. j (boolean b)) (admits-level r d x) ∙ sym (twice b) ∙ ap not (some-same (not b) c e)
    where
      twice : (b : Bool) → not (not b) ≡ b
      twice true = refl
      twice false = refl
  rest-open (the_schema (object p ss ls ns)) c e x = none-some c e

  named-says : (ns : Named) (c : Bool) → closedness ns ≡ Some c → (ms : Members) → named_agree r ms (parts_of r d (value.object ms)) ns ≡ true → ShapeSays (record { object = ns; closed = c }) ms
  named-says no_named c e ms h = record {
    required = refl;
    bound = every (bound_in no_named) ms (λ n x. or-true (is_passed_over [] (part n x)));
    named = every (named_in c no_named) ms (λ n x. ap not (sym (some-same false c e)));
  }
  named-says (named props no_properties rest no_schema rules) c e ms h = by (is_uncounted rules && list_all (λ n. is_name n (names_of props)) rules.required) e
    where
      members : list_all (member_agrees r (name_admits r d) props no_properties rest no_schema rules.required) (member_parts r d ms) ≡ true
      members = and_left _ (member_rules_agree ms rules) h

      counts : member_rules_agree ms rules ≡ true
      counts = and_right (list_all (member_agrees r (name_admits r d) props no_properties rest no_schema rules.required) (member_parts r d ms)) _ h

      ns : Named
      ns = named props no_properties rest no_schema rules

      by : (b : Bool) → (if b then closed_by rest else None) ≡ Some c → ShapeSays (record { object = named props no_properties rest no_schema rules; closed = c }) ms
      by false g = none-some c g
      by true g = record {
        required = and_right (within rules.min_properties rules.max_properties _) _ counts;
        bound = each (member_agrees r (name_admits r d) props no_properties rest no_schema rules.required) (bound_in (named props no_properties rest no_schema rules)) ms (λ n x k. and_left _ _ (and_left _ _ (and_left _ _ k))) members;
        named = each (member_agrees r (name_admits r d) props no_properties rest no_schema rules.required) (named_in c (named props no_properties rest no_schema rules)) ms
            (λ n x k. third (is_given (property_at n props)) (maybe (admits r d x) rest) (rest-open rest c g x)
            (and_right ((is_passed_over rules.required (part n x) || maybe (admits r d x) (property_at n props)) && true) _ (and_left _ _ k))) members;
      }
        where
          third : (a b : Bool) → b ≡ not c → (a || false || b) ≡ true → (a || not c) ≡ true
          third true b e k = refl
          third false b e k = sym e ∙ k
  named-says (named props (property k u us) rest names rules) c e ms h = none-some c e
  named-says (named props no_properties rest (the_schema u) rules) c e ms h = none-some c e

  -- ---- from the schema

  object-kind : (v : Value) → is_kind v Object ≡ true → (ms : Members) × (v ≡ value.object ms)
  object-kind null h = impossible h
  object-kind (value.boolean b) h = impossible h
  object-kind (number z) h = impossible h
  object-kind fraction h = impossible h
  object-kind (text s) h = impossible h
  object-kind (list xs) h = impossible h
  object-kind (value.object ms) h = (ms, refl)

  pub shape-says : (s : Schema) (o : ObjectShape) → object_shape s ≡ Some o → (k : ℕ) (v : Value) → judge_within r d v (parts_of r d v) k s ≡ true → (ms : Members) × (v ≡ value.object ms) × ShapeSays o ms
  shape-says (boolean b) o e k v h = none-some o e
  shape-says (object p ss ls ns) o e k v h = by (has_type Object p.types && is_bare p ss && is_unruled p && without_lists ls) refl e
    where
      parts : parts_agree r v (parts_of r d v) ls ns ≡ true
      parts = (says r v (parts_of r d v) _ p ss ls ns h).parts

      types : if_given (types_agree v) p.types ≡ true
      types = (says r v (parts_of r d v) _ p ss ls ns h).types

      closed : (c : Option Bool) → closedness ns ≡ c → is_kind v Object ≡ true → option_map (λ c. record { object = ns; closed = c }) c ≡ Some o → (ms : Members) × (v ≡ value.object ms) × ShapeSays o ms
      closed None f t g = none-some o g
      closed (Some c) f t g =
          let z = object-kind v t in
          let a = named-says ns c f z.0 (sym (ap (λ x. parts_agree r x (parts_of r d x) ls ns) z.1) ∙ parts) in
          (z.0, z.1, subst (λ x. ShapeSays x z.0) (some-same (record { object = ns; closed = c }) o g) a)

      by : (b : Bool) → (has_type Object p.types && is_bare p ss && is_unruled p && without_lists ls) ≡ b → (if b then option_map (λ c. record { object = ns; closed = c }) (closedness ns) else None) ≡ Some o → (ms : Members) × (v ≡ value.object ms) × ShapeSays o ms
      by false f g = none-some o g
      by true f g =
          let t = and_left _ _ (and_left _ _ (and_left (has_type Object p.types && is_bare p ss && is_unruled p) (without_lists ls) f)) in
          closed (closedness ns) refl (sym (ap (if_given (types_agree v)) (has_type-is Object p.types t)) ∙ types) g

  -- ---- the member of a name

  pub found : (n : List ℕ) (f g : MemberPart → Bool) (ms : Members) → list_all f (member_parts r d ms) ≡ true → list_all g (member_parts r d ms) ≡ true → has_name n ms ≡ true → (x : Value) × (f (part n x) ≡ true) × (g (part n x) ≡ true)
  found n f g no_members x y z = impossible z
  found n f g (member l v ms) x y z = by (bytes_eq n l) refl z (found n f g ms (and_right (f (part l v)) _ x) (and_right (g (part l v)) _ y))
    where
      by : (b : Bool) → bytes_eq n l ≡ b → (b || has_name n ms) ≡ true → (has_name n ms ≡ true → (x : Value) × (f (part n x) ≡ true) × (g (part n x) ≡ true)) → (x : Value) × (f (part n x) ≡ true) × (g (part n x) ≡ true)
      by true e z rec =
          let s = (bytes_eq-Decides n l).0 e in
          (v, ap (λ m. f (part m v)) s ∙ and_left _ _ x, ap (λ m. g (part m v)) s ∙ and_left _ _ y)
      by false e z rec = rec z
