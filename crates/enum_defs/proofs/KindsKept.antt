-- The kinds of the values that a schema admits are among those that it leaves open.
use Rattle.std.proofs.Common.{◌≡◌, ℕ, suc, zero, List, [], ◌∷◌, Bool, true, false, ◌&&◌, ◌||◌, not, Option, Some, None, refl, sym, ap, ◌∙◌, true≢false}
use Rattle.std.specs.Prelude.{◌==◌, if◌then◌else◌}
use Rattle.std.specs.List.{list_any}
use Rattle.json_value.specs.Value as value
use Rattle.json_value.specs.Value.{Value, same, number, fraction, text, list, null}
use Rattle.schema_defs.specs.declared.InstanceType.{InstanceType}
use Rattle.schema_defs.specs.declared.InstanceType.TheVariants.{Null, Boolean, Object, Array, Number, Text, Integer}
use Rattle.schema_defs.specs.Texts.{Relations}
use Rattle.schema_defs.specs.Schema.{Types, one_type, many_types, Schema, boolean, object, Same, no_same, same_value, MaybeSchemas, no_list, the_list, Schemas, no_more, schema, Document}
use Rattle.schema_defs.specs.Layer.{Parts, judge, judge_same, judge_all_of, judge_any_of, judge_one_of, judge_not, judge_all, judge_any, judge_count, if_given, types_agree, is_listed, is_kind}
use Rattle.schema_defs.specs.Admits.{target, judge_within, follow, follows, allowed, admits, admits-level, parts_of}
use Rattle.enum_defs.specs.declared.KindSet.{KindSet}
use Rattle.enum_defs.specs.Kinds.{every_kind, meet, join, kind_of_type, kind_of_value, has_kind, union, kinds_of_types, or_every, kinds_at, kinds_of_same, kinds_of_all, kinds_of_some, kinds_meet, kinds_union, followed, kinds_referred, kinds_within, kinds, null_free}
use Rattle.enum_defs.specs.Exclusive.{is_disjoint}
use Rattle.enum_defs.specs.Laws.{KindsAreSound, NullFreeIsSound}
use Rattle.enum_defs.proofs.Tests.{and_left, and_right, impossible, both, first, second, or_left, or_right, not_true, is_false}
use Rattle.enum_defs.proofs.Says.{says}

has-meet : (v : Value) (a b : KindSet) → has_kind v a ≡ true → has_kind v b ≡ true → has_kind v (meet a b) ≡ true
has-meet null a b h k = both a.null b.null h k
has-meet (value.boolean c) a b h k = both a.boolean b.boolean h k
has-meet (number z) a b h k = both a.number b.number h k
has-meet fraction a b h k = both a.number b.number h k
has-meet (text s) a b h k = both a.string b.string h k
has-meet (list xs) a b h k = both a.array b.array h k
has-meet (value.object ms) a b h k = both a.object b.object h k

has-left : (v : Value) (a b : KindSet) → has_kind v a ≡ true → has_kind v (join a b) ≡ true
has-left null a b h = first a.null b.null h
has-left (value.boolean c) a b h = first a.boolean b.boolean h
has-left (number z) a b h = first a.number b.number h
has-left fraction a b h = first a.number b.number h
has-left (text s) a b h = first a.string b.string h
has-left (list xs) a b h = first a.array b.array h
has-left (value.object ms) a b h = first a.object b.object h

has-right : (v : Value) (a b : KindSet) → has_kind v b ≡ true → has_kind v (join a b) ≡ true
has-right null a b h = second a.null b.null h
has-right (value.boolean c) a b h = second a.boolean b.boolean h
has-right (number z) a b h = second a.number b.number h
has-right fraction a b h = second a.number b.number h
has-right (text s) a b h = second a.string b.string h
has-right (list xs) a b h = second a.array b.array h
has-right (value.object ms) a b h = second a.object b.object h

has-every : (v : Value) → has_kind v every_kind ≡ true
has-every null = refl
has-every (value.boolean b) = refl
has-every (number z) = refl
has-every fraction = refl
has-every (text s) = refl
has-every (list xs) = refl
has-every (value.object ms) = refl

has-type : (v : Value) (k : InstanceType) → is_kind v k ≡ true → has_kind v (kind_of_type k) ≡ true
has-type null Null h = refl
has-type null Boolean h = impossible h
has-type null Object h = impossible h
has-type null Array h = impossible h
has-type null Number h = impossible h
has-type null Text h = impossible h
has-type null Integer h = impossible h
has-type (value.boolean b) Boolean h = refl
has-type (value.boolean b) Null h = impossible h
has-type (value.boolean b) Object h = impossible h
has-type (value.boolean b) Array h = impossible h
has-type (value.boolean b) Number h = impossible h
has-type (value.boolean b) Text h = impossible h
has-type (value.boolean b) Integer h = impossible h
has-type (number z) Number h = refl
has-type (number z) Integer h = refl
has-type (number z) Null h = impossible h
has-type (number z) Boolean h = impossible h
has-type (number z) Object h = impossible h
has-type (number z) Array h = impossible h
has-type (number z) Text h = impossible h
has-type fraction Number h = refl
has-type fraction Integer h = impossible h
has-type fraction Null h = impossible h
has-type fraction Boolean h = impossible h
has-type fraction Object h = impossible h
has-type fraction Array h = impossible h
has-type fraction Text h = impossible h
has-type (text s) Text h = refl
has-type (text s) Null h = impossible h
has-type (text s) Boolean h = impossible h
has-type (text s) Object h = impossible h
has-type (text s) Array h = impossible h
has-type (text s) Number h = impossible h
has-type (text s) Integer h = impossible h
has-type (list xs) Array h = refl
has-type (list xs) Null h = impossible h
has-type (list xs) Boolean h = impossible h
has-type (list xs) Object h = impossible h
has-type (list xs) Number h = impossible h
has-type (list xs) Text h = impossible h
has-type (list xs) Integer h = impossible h
has-type (value.object ms) Object h = refl
has-type (value.object ms) Null h = impossible h
has-type (value.object ms) Boolean h = impossible h
has-type (value.object ms) Array h = impossible h
has-type (value.object ms) Number h = impossible h
has-type (value.object ms) Text h = impossible h
has-type (value.object ms) Integer h = impossible h

has-same : (v w : Value) → same v w ≡ true → has_kind v (kind_of_value w) ≡ true
has-same null null h = refl
has-same null (value.boolean b) h = impossible h
has-same null (number z) h = impossible h
has-same null fraction h = impossible h
has-same null (text s) h = impossible h
has-same null (list xs) h = impossible h
has-same null (value.object ms) h = impossible h
has-same (value.boolean b) (value.boolean c) h = refl
has-same (value.boolean b) null h = impossible h
has-same (value.boolean b) (number z) h = impossible h
has-same (value.boolean b) fraction h = impossible h
has-same (value.boolean b) (text s) h = impossible h
has-same (value.boolean b) (list xs) h = impossible h
has-same (value.boolean b) (value.object ms) h = impossible h
has-same (number z) (number y) h = refl
has-same (number z) null h = impossible h
has-same (number z) (value.boolean b) h = impossible h
has-same (number z) fraction h = impossible h
has-same (number z) (text s) h = impossible h
has-same (number z) (list xs) h = impossible h
has-same (number z) (value.object ms) h = impossible h
has-same fraction fraction h = refl
has-same fraction null h = impossible h
has-same fraction (value.boolean b) h = impossible h
has-same fraction (number z) h = impossible h
has-same fraction (text s) h = impossible h
has-same fraction (list xs) h = impossible h
has-same fraction (value.object ms) h = impossible h
has-same (text s) (text t) h = refl
has-same (text s) null h = impossible h
has-same (text s) (value.boolean b) h = impossible h
has-same (text s) (number z) h = impossible h
has-same (text s) fraction h = impossible h
has-same (text s) (list xs) h = impossible h
has-same (text s) (value.object ms) h = impossible h
has-same (list xs) (list ys) h = refl
has-same (list xs) null h = impossible h
has-same (list xs) (value.boolean b) h = impossible h
has-same (list xs) (number z) h = impossible h
has-same (list xs) fraction h = impossible h
has-same (list xs) (text s) h = impossible h
has-same (list xs) (value.object ms) h = impossible h
has-same (value.object ms) (value.object ns) h = refl
has-same (value.object ms) null h = impossible h
has-same (value.object ms) (value.boolean b) h = impossible h
has-same (value.object ms) (number z) h = impossible h
has-same (value.object ms) fraction h = impossible h
has-same (value.object ms) (text s) h = impossible h
has-same (value.object ms) (list xs) h = impossible h

has-union : {A : Type 0} (v : Value) (f : A → Bool) (g : A → KindSet) → ((x : A) → f x ≡ true → has_kind v (g x) ≡ true) → (xs : List A) → list_any f xs ≡ true → has_kind v (union g xs) ≡ true
has-union v f g w [] h = impossible h
has-union v f g w (x ∷ xs) h = by (f x) refl h (has-union v f g w xs)
  where
    by : (b : Bool) → f x ≡ b → (b || list_any f xs) ≡ true → (list_any f xs ≡ true → has_kind v (union g xs) ≡ true) → has_kind v (join (g x) (union g xs)) ≡ true
    by true e h k = has-left v (g x) (union g xs) (w x e)
    by false e h k = has-right v (g x) (union g xs) (k h)

has-types : (v : Value) (t : Types) → types_agree v t ≡ true → has_kind v (kinds_of_types t) ≡ true
has-types v (one_type k) h = has-type v k h
has-types v (many_types ks) h = has-union v (is_kind v) kind_of_type (has-type v) ks h

has-given : {A : Type 0} (v : Value) (f : A → Bool) (g : A → KindSet) → ((x : A) → f x ≡ true → has_kind v (g x) ≡ true) → (o : Option A) → if_given f o ≡ true → has_kind v (or_every g o) ≡ true
has-given v f g w None h = has-every v
has-given v f g w (Some x) h = w x h

has-either : (v : Value) (a b : KindSet) (x y : Bool) → (x ≡ true → has_kind v a ≡ true) → (y ≡ true → has_kind v b ≡ true) → (x || y) ≡ true → has_kind v (join a b) ≡ true
has-either v a b true y f g h = has-left v a b (f refl)
has-either v a b false y f g h = has-right v a b (g h)

module _ (r : Relations) (v : Value) (ps : Parts) (fol : List ℕ → Bool) (refer : List ℕ → KindSet) (refs : (q : List ℕ) → fol q ≡ true → has_kind v (refer q) ≡ true) where
  some-counted : (us : Schemas) → (judge_count r v ps fol us == 1) ≡ true → judge_any r v ps fol us ≡ true
  some-counted no_more h = impossible h
  some-counted (schema s ss) h = by (judge r v ps fol s) h (some-counted ss)
    where
      by : (b : Bool) → ((if b then suc (judge_count r v ps fol ss) else judge_count r v ps fol ss) == 1) ≡ true → ((judge_count r v ps fol ss == 1) ≡ true → judge_any r v ps fol ss ≡ true) → (b || judge_any r v ps fol ss) ≡ true
      by true h f = refl
      by false h f = f h

  mutual
    pub has-judged : (s : Schema) → judge r v ps fol s ≡ true → has_kind v (kinds_at refer s) ≡ true
    has-judged (boolean true) h = has-every v
    has-judged (boolean false) h = impossible h
    has-judged (object p ss ls ns) h =
        let f = says r v ps fol p ss ls ns h in
        let t = has-given v (types_agree v) kinds_of_types (has-types v) p.types f.types in
        let e = has-given v (is_listed v) (union kind_of_value) (λ vs g. has-union v (same v) kind_of_value (has-same v) vs g) p.enum_values f.listed in
        let c = has-given v (same v) kind_of_value (has-same v) p.const_value f.constant in
        let q = has-given v fol refer refs p.reference f.reference in
        has-meet v (meet (or_every kinds_of_types p.types) (meet (or_every (union kind_of_value) p.enum_values) (or_every kind_of_value p.const_value))) _
        (has-meet v (or_every kinds_of_types p.types) _ t (has-meet v (or_every (union kind_of_value) p.enum_values) _ e c))
        (has-meet v (or_every refer p.reference) _ q (has-subschemas ss f.subschemas))

    has-subschemas : (ss : Same) → judge_same r v ps fol ss ≡ true → has_kind v (kinds_of_same refer ss) ≡ true
    has-subschemas no_same h = has-every v
    has-subschemas (same_value all any one none conditional) h =
        let three = and_left _ (judge_not r v ps fol none) h in
        let two = and_left _ (judge_one_of r v ps fol one) three in
        has-meet v (kinds_of_all refer all) _ (has-all_of all (and_left _ (judge_any_of r v ps fol any) two))
        (has-meet v (kinds_of_some refer any) (kinds_of_some refer one) (has-any_of any (and_right (judge_all_of r v ps fol all) _ two)) (has-one_of one (and_right (judge_all_of r v ps fol all && judge_any_of r v ps fol any) _ three)))

    has-all_of : (m : MaybeSchemas) → judge_all_of r v ps fol m ≡ true → has_kind v (kinds_of_all refer m) ≡ true
    has-all_of no_list h = has-every v
    has-all_of (the_list ss) h = has-all ss h

    has-any_of : (m : MaybeSchemas) → judge_any_of r v ps fol m ≡ true → has_kind v (kinds_of_some refer m) ≡ true
    has-any_of no_list h = has-every v
    has-any_of (the_list ss) h = has-any ss h

    has-one_of : (m : MaybeSchemas) → judge_one_of r v ps fol m ≡ true → has_kind v (kinds_of_some refer m) ≡ true
    has-one_of no_list h = has-every v
    has-one_of (the_list ss) h = has-any ss (some-counted ss h)

    has-all : (ss : Schemas) → judge_all r v ps fol ss ≡ true → has_kind v (kinds_meet refer ss) ≡ true
    has-all no_more h = has-every v
    has-all (schema s ss) h = has-meet v (kinds_at refer s) (kinds_meet refer ss) (has-judged s (and_left _ _ h)) (has-all ss (and_right (judge r v ps fol s) _ h))

    has-any : (ss : Schemas) → judge_any r v ps fol ss ≡ true → has_kind v (kinds_union refer ss) ≡ true
    has-any no_more h = impossible h
    has-any (schema s ss) h = has-either v (kinds_at refer s) (kinds_union refer ss) (judge r v ps fol s) (judge_any r v ps fol ss) (λ e. has-judged s e) (λ e. has-any ss e) h

-- what references lead to, where as many may be followed
module _ (r : Relations) (d : Document) (v : Value) (ps : Parts) where
  has-followed : (k : ℕ) → ((q : List ℕ) → follows r d v ps k q ≡ true → has_kind v (kinds_referred d k q) ≡ true) → (o : Option Schema) → follow (judge_within r d v ps k) o ≡ true → has_kind v (followed (kinds_at (kinds_referred d k)) o) ≡ true
  has-followed k f None h = impossible h
  has-followed k f (Some s) h = has-judged r v ps (follows r d v ps k) (kinds_referred d k) f s h

  has-referred : (k : ℕ) (q : List ℕ) → follows r d v ps k q ≡ true → has_kind v (kinds_referred d k q) ≡ true
  has-referred zero q h = impossible h
  has-referred (suc k) q h = has-followed k (has-referred k) (target d q) h

  pub has-within : (k : ℕ) (s : Schema) → judge_within r d v ps k s ≡ true → has_kind v (kinds_within d k s) ≡ true
  has-within k s h = has-judged r v ps (follows r d v ps k) (kinds_referred d k) (has-referred k) s h

pub kinds_are_sound : KindsAreSound
kinds_are_sound r d v s h = has-within r d v (parts_of r d v) (allowed d) s (sym (ap (λ j. j s) (admits-level r d v)) ∙ h)

pub null_free_is_sound : NullFreeIsSound
null_free_is_sound r d s f = is_false (admits r d null s) (λ h. true≢false (sym (kinds_are_sound r d null s h) ∙ not_true (kinds d s).null f))

-- disjoint kinds have no value in common
none-both : (a b : Bool) → (a && b) ≡ false → a ≡ true → b ≡ true → ⊥
none-both a b h x y = true≢false (sym (λ i. x i && y i) ∙ h)

pub disjoint-apart : (v : Value) (a b : KindSet) → is_disjoint a b ≡ true → has_kind v a ≡ true → has_kind v b ≡ true → ⊥
disjoint-apart v a b h = by v
  where
    n : Bool
    n = a.null && b.null

    o : Bool
    o = a.boolean && b.boolean

    u : Bool
    u = a.number && b.number

    s : Bool
    s = a.string && b.string

    y : Bool
    y = a.array && b.array

    z : (((((n || o) || u) || s) || y) || (a.object && b.object)) ≡ false
    z = not_true (((((n || o) || u) || s) || y) || (a.object && b.object)) h

    z4 : ((((n || o) || u) || s) || y) ≡ false
    z4 = or_left ((((n || o) || u) || s) || y) (a.object && b.object) z

    z3 : (((n || o) || u) || s) ≡ false
    z3 = or_left (((n || o) || u) || s) y z4

    z2 : ((n || o) || u) ≡ false
    z2 = or_left ((n || o) || u) s z3

    by : (v : Value) → has_kind v a ≡ true → has_kind v b ≡ true → ⊥
    by null = none-both a.null b.null (or_left n o (or_left (n || o) u z2))
    by (value.boolean c) = none-both a.boolean b.boolean (or_right n o (or_left (n || o) u z2))
    by (number c) = none-both a.number b.number (or_right (n || o) u z2)
    by fraction = none-both a.number b.number (or_right (n || o) u z2)
    by (text c) = none-both a.string b.string (or_right ((n || o) || u) s z3)
    by (list c) = none-both a.array b.array (or_right (((n || o) || u) || s) y z4)
    by (value.object c) = none-both a.object b.object (or_right ((((n || o) || u) || s) || y) (a.object && b.object) z)
