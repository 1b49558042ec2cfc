-- The parts of rows of allOf, anyOf, oneOf and not are inside the subschemas.
use Rattle.std.proofs.Common.{◌≡◌, ℕ, suc, List, [], ◌∷◌, map, filter, Bool, true, false, ◌&&◌, not, Option, Some, None, is_none, is_some, refl, ap, subst, true≢false, codes}
use Rattle.std.specs.Prelude.{if◌then◌else◌, nat_le, length}
use Rattle.std.specs.List.{list_all, list_any}
use Rattle.json_value.specs.Value.{Value}
use Rattle.schema_defs.specs.declared.InstanceType.{InstanceType}
use Rattle.schema_defs.specs.declared.InstanceType.TheVariants.{Null, Boolean, Object, Array, Number, Text, Integer}
use Rattle.schema_defs.specs.Location.{Step}
use Rattle.schema_defs.specs.Schema.{Plain, Schema, boolean, object, Same, same_value, Named, no_schema, the_schema, no_list, the_list, Schemas, no_more, schema, Document, ListRules}
use Rattle.model_defs.specs.Model.{deny_rule}
use Rattle.model_defs.specs.Layer.{is_text, is_boolean}
use Rattle.convert_defs.specs.Row.{Part, made, VariantRow, Row, leaf_row, ruled_row, refused_row, noted, plainly, here, narrowed, not_note, nested_enum, bad_not}
use Rattle.convert_defs.specs.Standing.{of_type, less_enum, alone, no_keyword}
use Rattle.enum_defs.specs.Words.{without_same}
use Rattle.convert_defs.specs.Scalars.{is_owner, is_number, never_entry}
use Rattle.convert_defs.specs.Shapes.{Member, schemas_of, external_members, members_from, option_member as option_shape, internal_members as internal_shape, TaggedShape, adjacent_members as adjacent_shape}
use Rattle.enum_defs.specs.Shapes.{the_only as only_one, is_null_schema}
use Rattle.enum_defs.specs.Exclusive.{exclusive}
use Rattle.convert_defs.specs.Table.{listed, type_of_listed, has_one_type, no_others, subschema_finding, finding_or, all_of_finding, any_of_finding, any_of_others, one_of_finding, one_of_only, one_of_internal, one_of_adjacent, one_of_external, one_of_option, only_member, not_finding, deny, under_not, denied, untagged_row, untagged_variant}
use Rattle.convert_defs.proofs.Bare.{none-some, some-same}
use Rattle.each_schema.specs.Each.{EachSchema, EachInSame, EachInAll}
use Rattle.convert_defs.proofs.InsideParts.{IsMadeToo, In as PartIn, AllIn as RowIn, MembersIn as AllMembersIn, VariantsIn as AllVariantsIn, of-one-type}
use Rattle.convert_defs.proofs.InsideShapes.{internal-in, adjacent-in, external-in}

abbrev is_text_type : Option InstanceType → Bool
is_text_type (Some Text) = true
is_text_type _ = false

abbrev is_boolean_type : Option InstanceType → Bool
is_boolean_type (Some Boolean) = true
is_boolean_type _ = false

abbrev is_integer_type : Option InstanceType → Bool
is_integer_type (Some Integer) = true
is_integer_type _ = false

module _ (At : Plain → Named → Type 0) (sized : ListRules → Type 0) (made_here : IsMadeToo At) (d : Document) where
  abbrev In : Part → Type 0
  In = PartIn At sized

  abbrev AllIn : Row → Type 0
  AllIn = RowIn At sized

  abbrev MembersIn : List Member → Type 0
  MembersIn = AllMembersIn At sized

  abbrev VariantsIn : List VariantRow → Type 0
  VariantsIn = AllVariantsIn At sized

  -- ---- members

  members-in : (k : Step) (i : ℕ) (us : Schemas) → EachInAll At sized us → MembersIn (members_from k i us)
  members-in k i no_more h = tt
  members-in k i (schema u us) h = (h.0, members-in k (suc i) us h.1)

  untagged-in : (ms : List Member) → MembersIn ms → VariantsIn (map untagged_variant ms)
  untagged-in [] h = tt
  untagged-in (m ∷ ms) h = (h.0, untagged-in ms h.1)

  kept-in : (p : Member → Bool) (ms : List Member) → MembersIn ms → MembersIn (filter p ms)
  kept-in p [] h = tt
  kept-in p (m ∷ ms) h = by (p m) (kept-in p ms h.1)
    where
      by : (b : Bool) → MembersIn (filter p ms) → MembersIn (if b then m ∷ filter p ms else filter p ms)
      by true g = (h.0, g)
      by false g = g

  only-in : (ms : List Member) (m : Member) → MembersIn ms → only_one ms ≡ Some m → EachSchema At sized m.1
  only-in [] m h e = none-some m e
  only-in (n ∷ []) m h e = subst (λ x. EachSchema At sized x.1) (some-same n m e) h.0
  only-in (n ∷ l ∷ ms) m h e = none-some m e

  member-in : (ms : List Member) (m : Member) → MembersIn ms → only_member ms ≡ Some m → EachSchema At sized m.1
  member-in [] m h e = none-some m e
  member-in (n ∷ []) m h e = subst (λ x. EachSchema At sized x.1) (some-same n m e) h.0
  member-in (n ∷ l ∷ ms) m h e = none-some m e

  option-in : (ms : List Member) (m : Member) → MembersIn ms → option_shape ms ≡ Some m → EachSchema At sized m.1
  option-in ms m h e = by (nat_le 2 (length ms)) e
    where
      by : (b : Bool) → (if b then only_one (filter (λ n. not (is_null_schema n.1)) ms) else None) ≡ Some m → EachSchema At sized m.1
      by true g = only-in (filter (λ n. not (is_null_schema n.1)) ms) m (kept-in (λ n. not (is_null_schema n.1)) ms h) g
      by false g = none-some m g

  one-of-in : (n : List ℕ) (ms : List Member) → MembersIn ms → AllIn (one_of_finding d n ms).row
  one-of-in n ms h = optional (option_shape ms) refl
    where
      only : (x : Option Member) → only_member ms ≡ x → AllIn (one_of_only d ms x).row
      only (Some m) e = (member-in ms m h e, tt)
      only None e = untagged-in ms h

      internal : (x : Option TaggedShape) → internal_shape d.setting ms ≡ x → AllIn (one_of_internal d ms x).row
      internal (Some t) e = internal-in At sized made_here d d.setting ms t h e
      internal None e = only (only_member ms) refl

      adjacent : (x : Option TaggedShape) → adjacent_shape ms ≡ x → AllIn (one_of_adjacent d ms x).row
      adjacent (Some t) e = adjacent-in At sized made_here d ms t h e
      adjacent None e = internal (internal_shape d.setting ms) refl

      external : (x : Option (List VariantRow)) → external_members ms ≡ x → AllIn (one_of_external d ms x).row
      external (Some ws) e = external-in At sized made_here d ms ws h e
      external None e = adjacent (adjacent_shape ms) refl

      optional : (x : Option Member) → option_shape ms ≡ x → AllIn (one_of_option d ms x).row
      optional (Some m) e = (option-in ms m h e, tt)
      optional None e = external (external_members ms) refl

  any-of-in : (n : List ℕ) (ms : List Member) → MembersIn ms → AllIn (any_of_finding d n ms).row
  any-of-in n [] h = tt
  any-of-in n (m ∷ ms) h = by (option_shape (m ∷ ms)) refl
    where
      apart : (b : Bool) → AllIn (if b then one_of_finding d n (m ∷ ms) else plainly (untagged_row (m ∷ ms))).row
      apart true = one-of-in n (m ∷ ms) h
      apart false = untagged-in (m ∷ ms) h

      by : (x : Option Member) → option_shape (m ∷ ms) ≡ x → AllIn (any_of_others d n (m ∷ ms) x).row
      by None e = apart (exclusive d (schemas_of (m ∷ ms)))
      by (Some l) e = (option-in (m ∷ ms) l h e, tt)

  all-of-in : (ms : List Member) → MembersIn ms → AllIn (all_of_finding ms).row
  all-of-in [] h = tt
  all-of-in (m ∷ []) h = (h.0, tt)
  all-of-in (m ∷ l ∷ ms) h = tt

  deny-in : (p : Part) (vs : List Value) → In p → AllIn (deny p vs).row
  deny-in p vs h = by (list_any is_owner vs)
    where
      by : (b : Bool) → AllIn (if b then plainly (refused_row nested_enum) else noted (here narrowed not_note ∷ []) (ruled_row p (deny_rule vs))).row
      by true = tt
      by false = (h, tt)

  denied-in : (o : Option InstanceType) (vs : List Value) → (o ≡ Some Number → ⊥) → AllIn (denied o vs).row
  denied-in None vs e = tt
  denied-in (Some Null) vs e = deny-in (made (alone (of_type Null no_keyword))) vs (of-one-type At sized made_here Null refl)
  denied-in (Some Boolean) vs e = deny-in (made (alone (of_type Boolean no_keyword))) vs (of-one-type At sized made_here Boolean refl)
  denied-in (Some Object) vs e = deny-in (made (alone (of_type Object no_keyword))) vs (of-one-type At sized made_here Object refl)
  denied-in (Some Array) vs e = deny-in (made (alone (of_type Array no_keyword))) vs (of-one-type At sized made_here Array refl)
  denied-in (Some Number) vs e = absurd (e refl)
  denied-in (Some Text) vs e = deny-in (made (alone (of_type Text no_keyword))) vs (of-one-type At sized made_here Text refl)
  denied-in (Some Integer) vs e = deny-in (made (alone (of_type Integer no_keyword))) vs (of-one-type At sized made_here Integer refl)

  never-number : (vs : List Value) → type_of_listed vs ≡ Some Number → ⊥
  never-number [] e = none-some Number e
  never-number (v ∷ vs) e = by (list_all is_text (v ∷ vs)) (list_all is_boolean (v ∷ vs)) (list_all is_number (v ∷ vs)) e
    where
      by : (a b c : Bool) → (if a then Some Text else if b then Some Boolean else if c then Some Integer else None) ≡ Some Number → ⊥
      by true b c e = true≢false (ap is_text_type e)
      by false true c e = true≢false (ap is_boolean_type e)
      by false false true e = true≢false (ap is_integer_type e)
      by false false false e = none-some Number e

  not-in : (n : List ℕ) (u : Schema) → EachSchema At sized u → AllIn (not_finding n u).row
  not-in n (boolean true) h = tt
  not-in n (boolean false) h = tt
  not-in n (object q sq lq nq) h = by (is_none q.types && no_others q lq nq && without_same sq) (has_one_type q.types && is_some q.enum_values) (is_none q.types && is_some q.enum_values && no_others (less_enum q) lq nq && without_same sq)
    where
      by : (a b c : Bool) → AllIn (if a then plainly (leaf_row (never_entry n)) else if b then deny (under_not (object (less_enum q) sq lq nq)) (listed q.enum_values) else if c then denied (type_of_listed (listed q.enum_values)) (listed q.enum_values) else plainly (refused_row bad_not)).row
      by true b c = tt
      by false true c = deny-in (under_not (object (less_enum q) sq lq nq)) (listed q.enum_values) (made_here.no_enum q nq h.0, h.1, h.2, h.3)
      by false false true = denied-in (type_of_listed (listed q.enum_values)) (listed q.enum_values) (never-number (listed q.enum_values))
      by false false false = tt

  pub subschemas-in : (n : List ℕ) (x : Same) → EachInSame At sized x → AllIn (finding_or (subschema_finding d n x)).row
  subschemas-in n (same_value (the_list us) no_list no_list no_schema false) h = all-of-in (members_from (codes "allOf") 0 us) (members-in (codes "allOf") 0 us h.0)
  subschemas-in n (same_value no_list (the_list us) no_list no_schema false) h = any-of-in n (members_from (codes "anyOf") 0 us) (members-in (codes "anyOf") 0 us h.1)
  subschemas-in n (same_value no_list no_list (the_list us) no_schema false) h = one-of-in n (members_from (codes "oneOf") 0 us) (members-in (codes "oneOf") 0 us h.2)
  subschemas-in n (same_value no_list no_list no_list (the_schema u) false) h = not-in n u h.3
  subschemas-in n _ h = tt
