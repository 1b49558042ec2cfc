-- Merging what holds no schema meets what both sides say: types, formats, listed values, texts.
use Rattle.std.proofs.Common.{◌≡◌, ℕ, List, [], ◌∷◌, Bool, true, false, cond, ◌&&◌, ◌||◌, Option, Some, None, refl, ap, sym, ◌∙◌, subst, bytes_eq}
use Rattle.std.specs.List.{list_any}
use Rattle.std.specs.Prelude.{filter, codes, if◌then◌else◌}
use Rattle.std.proofs.lemmas.Slice.Eq.{bytes_eq-Decides}
use Rattle.json_value.specs.Value as value
use Rattle.json_value.specs.Value.{Value, null, number, fraction, text, list, is_whole, same}
use Rattle.json_value.proofs.Equality.{same_sound, same_itself}
use Rattle.schema_defs.specs.declared.InstanceType.{InstanceType}
use Rattle.schema_defs.specs.declared.InstanceType.TheVariants.{Null, Boolean, Object, Array, Number, Text, Integer}
use Rattle.schema_defs.specs.Texts.{Relations, IsLawful}
use Rattle.schema_defs.specs.Schema.{Types, one_type, many_types}
use Rattle.schema_defs.specs.Layer.{if_given, is_kind, types_agree, is_listed, number_format_agrees, text_format_agrees}
use Rattle.merge_defs.specs.Outcome.{never, answer, less_than, of_formats}
use Rattle.enum_defs.specs.Words.{same_type}
use Rattle.merge_defs.specs.Leaves.{names_type, all_types, some_types, one_if_named, two_types, is_ip, is_ip_of_one_kind, two_formats, some_values, two_lists, listed_values}
use Rattle.merge_laws.specs.Laws.{Meets, Given, AreProper, ProperTypes}
use Rattle.merge_laws.proofs.Steps.{no_no, yes_no, and-1, and-2, and-in, meets-exactly}

-- ---- booleans and lists

pub same_bools : (a b : Bool) → (a ≡ true → b ≡ true) → (b ≡ true → a ≡ true) → a ≡ b
same_bools true b f g = sym (f refl)
same_bools false true f g = g refl
same_bools false false f g = refl

pub list_any-same : {A : Type 0} (f g : A → Bool) → ((a : A) → f a ≡ g a) → (xs : List A) → list_any f xs ≡ list_any g xs
list_any-same f g h [] = refl
list_any-same f g h (x ∷ xs) = λ i. h x i || list_any-same f g h xs i

pub or-false : (b : Bool) → (b || false) ≡ b
or-false true = refl
or-false false = refl

-- a member that passes the second test
pub list_any-filter : {A : Type 0} (f g : A → Bool) (xs : List A) → list_any g (filter f xs) ≡ list_any (λ x. f x && g x) xs
list_any-filter f g [] = refl
list_any-filter f g (x ∷ xs) = cases (f x) (list_any-filter f g xs)
  where
    cases : (b : Bool) → list_any g (filter f xs) ≡ list_any (λ x. f x && g x) xs → list_any g (cond b (x ∷ filter f xs) (filter f xs)) ≡ ((b && g x) || list_any (λ x. f x && g x) xs)
    cases true h = ap (λ c. g x || c) h
    cases false h = h

pub any-find : {A : Type 0} (f : A → Bool) (C : Type 0) → ((a : A) → f a ≡ true → C) → (xs : List A) → list_any f xs ≡ true → C
any-find f C g [] h = no_no h
any-find f C g (x ∷ xs) h = cases (f x) refl h (any-find f C g xs)
  where
    cases : (b : Bool) → f x ≡ b → (b || list_any f xs) ≡ true → (list_any f xs ≡ true → C) → C
    cases true e h after = g x e
    cases false e h after = after h

pub any-weaker : {A : Type 0} (f g : A → Bool) → ((a : A) → f a ≡ true → g a ≡ true) → (xs : List A) → list_any f xs ≡ true → list_any g xs ≡ true
any-weaker f g h [] e = e
any-weaker f g h (x ∷ xs) e = cases (f x) refl e (any-weaker f g h xs)
  where
    or-right : (a : Bool) → list_any g xs ≡ true → (a || list_any g xs) ≡ true
    or-right true h = refl
    or-right false h = h

    cases : (b : Bool) → f x ≡ b → (b || list_any f xs) ≡ true → (list_any f xs ≡ true → list_any g xs ≡ true) → (g x || list_any g xs) ≡ true
    cases true e k after = ap (λ b. b || list_any g xs) (h x e)
    cases false e k after = or-right (g x) (after k)

pub and-comm : (a b : Bool) → (a && b) ≡ (b && a)
and-comm true true = refl
and-comm true false = refl
and-comm false true = refl
and-comm false false = refl

-- ---- types

pub type_sound : (k l : InstanceType) → same_type k l ≡ true → k ≡ l
type_sound Null Null h = refl
type_sound Boolean Boolean h = refl
type_sound Object Object h = refl
type_sound Array Array h = refl
type_sound Number Number h = refl
type_sound Text Text h = refl
type_sound Integer Integer h = refl
type_sound _ _ h = no_no h

pub type_itself : (k : InstanceType) → same_type k k ≡ true
type_itself Null = refl
type_itself Boolean = refl
type_itself Object = refl
type_itself Array = refl
type_itself Number = refl
type_itself Text = refl
type_itself Integer = refl

every_type : (k : InstanceType) → names_type all_types k ≡ true
every_type Null = refl
every_type Boolean = refl
every_type Object = refl
every_type Array = refl
every_type Number = refl
every_type Text = refl
every_type Integer = refl

-- the name of a whole value's type
abbrev pub name_of : Value → InstanceType
name_of null = Null
name_of (value.boolean b) = Boolean
name_of (number z) = Integer
name_of fraction = Number
name_of (text s) = Text
name_of (list xs) = Array
name_of (value.object ms) = Object

kind_null : (k : InstanceType) → is_kind null k ≡ same_type Null k
kind_null Null = refl
kind_null _ = refl

kind_boolean : (b : Bool) (k : InstanceType) → is_kind (value.boolean b) k ≡ same_type Boolean k
kind_boolean b Boolean = refl
kind_boolean b _ = refl

kind_number : (z : _) (k : InstanceType) → is_kind (number z) k ≡ (same_type Number k || same_type Integer k)
kind_number z Number = refl
kind_number z Integer = refl
kind_number z _ = refl

kind_text : (s : List ℕ) (k : InstanceType) → is_kind (text s) k ≡ same_type Text k
kind_text s Text = refl
kind_text s _ = refl

kind_list : (xs : _) (k : InstanceType) → is_kind (list xs) k ≡ same_type Array k
kind_list xs Array = refl
kind_list xs _ = refl

kind_object : (ms : _) (k : InstanceType) → is_kind (value.object ms) k ≡ same_type Object k
kind_object ms Object = refl
kind_object ms _ = refl

or-any : {A : Type 0} (f g : A → Bool) (xs : List A) → list_any (λ x. f x || g x) xs ≡ (list_any f xs || list_any g xs)
or-any f g [] = refl
or-any f g (x ∷ xs) = cases (f x) (g x) _ _ _ (or-any f g xs)
  where
    cases : (a b c d e : Bool) → e ≡ (c || d) → ((a || b) || e) ≡ ((a || c) || (b || d))
    cases true b c d e h = refl
    cases false true true d e h = refl
    cases false true false d e h = refl
    cases false false c d e h = h

-- of proper names a whole value has one where they name its type
pub kinds_named : (v : Value) → is_whole v ≡ true → (ks : List InstanceType) → AreProper ks → list_any (is_kind v) ks ≡ names_type ks (name_of v)
kinds_named null w ks p = list_any-same _ _ kind_null ks
kinds_named (value.boolean b) w ks p = list_any-same _ _ (kind_boolean b) ks
kinds_named (number z) w ks p = list_any-same _ _ (kind_number z) ks ∙ or-any (same_type Number) (same_type Integer) ks ∙ cases (names_type ks Number) (names_type ks Integer) (λ h. p h Integer)
  where
    cases : (a b : Bool) → (a ≡ true → b ≡ true) → (a || b) ≡ b
    cases true b h = sym (h refl)
    cases false b h = refl
kinds_named fraction w ks p = no_no w
kinds_named (text s) w ks p = list_any-same _ _ (kind_text s) ks
kinds_named (list xs) w ks p = list_any-same _ _ (kind_list xs) ks
kinds_named (value.object ms) w ks p = list_any-same _ _ (kind_object ms) ks

abbrev type_list : Types → List InstanceType
type_list (one_type k) = k ∷ []
type_list (many_types ks) = ks

proper_list : (t : Types) → ProperTypes t → AreProper (type_list t)
proper_list (one_type k) p = p
proper_list (many_types ks) p = p

pub types_named : (v : Value) → is_whole v ≡ true → (t : Types) → ProperTypes t → types_agree v t ≡ names_type (type_list t) (name_of v)
types_named v w (one_type k) p = sym (or-false _) ∙ kinds_named v w (k ∷ []) p
types_named v w (many_types ks) p = kinds_named v w ks p

meet_name : (n k : InstanceType) (f : InstanceType → Bool) → (same_type n k && f n) ≡ (same_type n k && f k)
meet_name n k f = cases (same_type n k) refl
  where
    cases : (b : Bool) → same_type n k ≡ b → (b && f n) ≡ (b && f k)
    cases true e = ap f (type_sound n k e)
    cases false e = refl

names_filter : (f : InstanceType → Bool) (n : InstanceType) → names_type (filter f all_types) n ≡ f n
names_filter f n = list_any-filter f (same_type n) all_types
    ∙ same_bools _ _ (any-find (λ k. f k && same_type n k) (f n ≡ true) (λ k t. subst (λ l. f l ≡ true) (sym (type_sound n k (and-2 (f k) _ t))) (and-1 (f k) _ t)) all_types)
    (λ h. any-weaker (same_type n) (λ k. f k && same_type n k) (λ k t. and-in (f k) _ (subst (λ l. f l ≡ true) (type_sound n k t) h) t) all_types (every_type n))

proper_filter : (ks ls : List InstanceType) → AreProper ks → AreProper ls → AreProper (filter (λ k. names_type ks k && names_type ls k) all_types)
proper_filter ks ls p q h k =
    let e = sym (names_filter (λ k. names_type ks k && names_type ls k) Number) ∙ h in
    names_filter (λ k. names_type ks k && names_type ls k) k ∙ and-in _ _ (p (and-1 (names_type ks Number) _ e) k) (q (and-2 (names_type ks Number) _ e) k)

module _ (v : Value) (w : is_whole v ≡ true) where
  -- whether the name of the value is among those of both
  abbrev Both : Types → Types → Bool
  Both x y = types_agree v x && types_agree v y

  both_named : (x y : Types) → ProperTypes x → ProperTypes y → Both x y ≡ (names_type (type_list x) (name_of v) && names_type (type_list y) (name_of v))
  both_named x y p q = λ i. types_named v w x p i && types_named v w y q i

  -- one name k that both give, where no other is of both
  one_meets : (x y : Types) (k : InstanceType) (b : Bool) → ProperTypes x → ProperTypes y → AreProper (k ∷ [])
      → ((n : InstanceType) → (names_type (type_list x) n && names_type (type_list y) n) ≡ (same_type n k && b))
      → Meets (Given ProperTypes) (Both x y) (if_given (types_agree v)) (one_if_named b k)
  one_meets x y k true p q r h = meets-exactly (Given ProperTypes) _ (if_given (types_agree v)) [] (Some (one_type k)) r
      (types_named v w (one_type k) r ∙ flip (same_type (name_of v) k) ∙ sym (h (name_of v)) ∙ sym (both_named x y p q))
    where
      flip : (b : Bool) → (b || false) ≡ (b && true)
      flip true = refl
      flip false = refl
  one_meets x y k false p q r h = λ e t. yes_no (same_type (name_of v) k && false) (none (same_type (name_of v) k)) (sym (h (name_of v)) ∙ sym (both_named x y p q) ∙ t)
    where
      none : (b : Bool) → (b && false) ≡ false
      none true = refl
      none false = refl

  some_meet : (b : Bool) (ks : List InstanceType) → AreProper ks → names_type ks (name_of v) ≡ b → Meets (Given ProperTypes) b (if_given (types_agree v)) (some_types ks)
  some_meet b [] p h = λ e t. no_no (h ∙ t)
  some_meet b (k ∷ []) p h = meets-exactly (Given ProperTypes) b (if_given (types_agree v)) [] (Some (one_type k)) p (types_named v w (one_type k) p ∙ h)
  some_meet b (k ∷ l ∷ ks) p h = meets-exactly (Given ProperTypes) b (if_given (types_agree v)) [] (Some (many_types (k ∷ l ∷ ks))) p (types_named v w (many_types (k ∷ l ∷ ks)) p ∙ h)

  pub two_types_meet : (x y : Types) → ProperTypes x → ProperTypes y → Meets (Given ProperTypes) (Both x y) (if_given (types_agree v)) (two_types x y)
  two_types_meet (one_type k) (one_type l) p q = one_meets (one_type k) (one_type l) k (same_type k l) p q p
      (λ n. (λ i. or-false (same_type n k) i && or-false (same_type n l) i) ∙ meet_name n k (λ m. same_type m l))
  two_types_meet (one_type k) (many_types ls) p q = one_meets (one_type k) (many_types ls) k (names_type ls k) p q p
      (λ n. (λ i. or-false (same_type n k) i && names_type ls n) ∙ meet_name n k (names_type ls))
  two_types_meet (many_types ks) (one_type l) p q = one_meets (many_types ks) (one_type l) l (names_type ks l) p q q
      (λ n. and-comm (names_type ks n) _ ∙ (λ i. or-false (same_type n l) i && names_type ks n) ∙ meet_name n l (names_type ks))
  two_types_meet (many_types ks) (many_types ls) p q = some_meet (Both (many_types ks) (many_types ls)) (filter (λ k. names_type ks k && names_type ls k) all_types) (proper_filter ks ls p q)
      (names_filter (λ k. names_type ks k && names_type ls k) (name_of v) ∙ sym (both_named (many_types ks) (many_types ls) p q))

-- ---- formats

module _ (r : Relations) (lawful : IsLawful r) where
  -- what a format says of a value
  abbrev pub format_agrees : Value → List ℕ → Bool
  format_agrees (number z) f = number_format_agrees z f
  format_agrees (text s) f = text_format_agrees r s f
  format_agrees _ f = true

  of_ipv4 : (v : Value) → format_agrees v (codes "ipv4") ≡ true → format_agrees v (codes "ip") ≡ true
  of_ipv4 (number z) h = refl
  of_ipv4 (text s) h = lawful.ipv4_is_ip s h
  of_ipv4 _ h = refl

  of_ipv6 : (v : Value) → format_agrees v (codes "ipv6") ≡ true → format_agrees v (codes "ip") ≡ true
  of_ipv6 (number z) h = refl
  of_ipv6 (text s) h = lawful.ipv6_is_ip s h
  of_ipv6 _ h = refl

  of_ip : (v : Value) (g : List ℕ) → is_ip_of_one_kind g ≡ true → format_agrees v g ≡ true → format_agrees v (codes "ip") ≡ true
  of_ip v g h t = cases (bytes_eq g (codes "ipv4")) refl h
    where
      cases : (b : Bool) → bytes_eq g (codes "ipv4") ≡ b → (b || bytes_eq g (codes "ipv6")) ≡ true → format_agrees v (codes "ip") ≡ true
      cases true e h = of_ipv4 v (subst (λ x. format_agrees v x ≡ true) ((bytes_eq-Decides g (codes "ipv4")).0 e) t)
      cases false e h = of_ipv6 v (subst (λ x. format_agrees v x ≡ true) ((bytes_eq-Decides g (codes "ipv6")).0 h) t)

  pub two_formats_meet : (v : Value) (f g : List ℕ) → Meets (Given (λ f. Unit {0})) (format_agrees v f && format_agrees v g) (if_given (format_agrees v)) (two_formats f g)
  two_formats_meet v f g = cases (bytes_eq f g) refl (is_ip f && is_ip_of_one_kind g) refl (is_ip g && is_ip_of_one_kind f) refl
    where
      twice : (a b : Bool) → a ≡ b → a ≡ (a && b)
      twice true b h = h
      twice false b h = refl

      -- a text of one kind of ip is an ip text, and numbers have neither
      narrower : (f g : List ℕ) → (is_ip f && is_ip_of_one_kind g) ≡ true → format_agrees v g ≡ true → format_agrees v f ≡ true
      narrower f g h t = subst (λ x. format_agrees v x ≡ true) (sym ((bytes_eq-Decides f (codes "ip")).0 (and-1 (is_ip f) _ h))) (of_ip v g (and-2 (is_ip f) _ h) t)

      cases : (a : Bool) → bytes_eq f g ≡ a → (b : Bool) → (is_ip f && is_ip_of_one_kind g) ≡ b → (c : Bool) → (is_ip g && is_ip_of_one_kind f) ≡ c
          → Meets (Given (λ f. Unit {0})) (format_agrees v f && format_agrees v g) (if_given (format_agrees v))
          (if a then answer [] (Some f) else if b then answer [] (Some g) else if c then answer [] (Some f) else never (less_than of_formats ∷ []))
      cases true e b _ c _ = meets-exactly (Given (λ f. Unit {0})) _ (if_given (format_agrees v)) [] (Some f) tt (twice _ _ (ap (format_agrees v) ((bytes_eq-Decides f g).0 e)))
      cases false e true h c _ = meets-exactly (Given (λ f. Unit {0})) _ (if_given (format_agrees v)) [] (Some g) tt (same_bools _ _ (λ t. and-in _ _ (narrower f g h t) t) (and-2 (format_agrees v f) _))
      cases false e false _ true h = meets-exactly (Given (λ f. Unit {0})) _ (if_given (format_agrees v)) [] (Some f) tt (same_bools _ _ (λ t. and-in _ _ t (narrower g f h t)) (and-1 (format_agrees v f) _))
      cases false e false _ false _ = λ n t. yes_no true n refl

-- ---- listed values

pub listed_filter : (v : Value) (f : Value → Bool) (vs : List Value) → is_listed v (filter f vs) ≡ (is_listed v vs && f v)
listed_filter v f vs = list_any-filter f (same v) vs ∙ same_bools _ _ out into
  where
    out : list_any (λ x. f x && same v x) vs ≡ true → (is_listed v vs && f v) ≡ true
    out h = and-in (is_listed v vs) (f v) (any-weaker (λ x. f x && same v x) (same v) (λ x t. and-2 (f x) _ t) vs h)
        (any-find (λ x. f x && same v x) (f v ≡ true) (λ x t. subst (λ y. f y ≡ true) (sym (same_sound v x (and-2 (f x) _ t))) (and-1 (f x) _ t)) vs h)

    into : (is_listed v vs && f v) ≡ true → list_any (λ x. f x && same v x) vs ≡ true
    into h = any-weaker (same v) (λ x. f x && same v x) (λ x t. and-in (f x) _ (subst (λ y. f y ≡ true) (same_sound v x t) (and-2 (is_listed v vs) _ h)) t) vs (and-1 (is_listed v vs) _ h)

pub some_values_meet : (v : Value) (b : Bool) (vs : List Value) → is_listed v vs ≡ b → Meets (Given (λ vs. Unit {0})) b (if_given (is_listed v)) (some_values vs)
some_values_meet v b [] h = λ e t. no_no (h ∙ t)
some_values_meet v b (x ∷ xs) h = meets-exactly (Given (λ vs. Unit {0})) b (if_given (is_listed v)) [] (Some (x ∷ xs)) tt h

pub two_lists_meet : (v : Value) (vs ws : List Value) → Meets (Given (λ vs. Unit {0})) (is_listed v vs && is_listed v ws) (if_given (is_listed v)) (two_lists vs ws)
two_lists_meet v vs ws = some_values_meet v _ (filter (λ x. is_listed x ws) vs) (listed_filter v (λ x. is_listed x ws) vs)

-- what `enum` and `const` of a side say is what its list says
pub listed_values_say : (v : Value) (vs : Option (List Value)) (c : Option Value) → if_given (is_listed v) (listed_values vs c) ≡ (if_given (is_listed v) vs && if_given (same v) c)
listed_values_say v None None = refl
listed_values_say v (Some vs) None = and-true _
  where
    and-true : (b : Bool) → b ≡ (b && true)
    and-true true = refl
    and-true false = refl
listed_values_say v None (Some c) = or-false _
listed_values_say v (Some vs) (Some c) = listed_filter v (same c) vs ∙ ap (λ b. is_listed v vs && b) (same_bools _ _ (λ h. subst (λ x. same x c ≡ true) (same_sound c v h) (same_itself c)) (λ h. subst (λ x. same x v ≡ true) (same_sound v c h) (same_itself v)))
