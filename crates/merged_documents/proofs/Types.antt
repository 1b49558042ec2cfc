-- Types and multiples that are read where no float is told: `number` is named where all types are, and multiples are at least 1.
use Rattle.std.proofs.Common.{ℕ, true≢false, ◌≡◌, ◌≤◌, pos, negsuc, List, [], ◌∷◌, Option, Some, None, Bool, true, false, ◌&&◌, ◌||◌, not, bytes_eq, refl, sym, ap, subst, ◌∙◌}
use Rattle.std.specs.Prelude.{nat_le, codes, if◌then◌else◌}
use Rattle.std.specs.List.{list_all}
use Rattle.std.proofs.lemmas.Bool.{leb-true}
use Rattle.std.proofs.lemmas.Slice.Eq.{bytes_eq-Decides}
use Rattle.json_value.specs.Value as value
use Rattle.json_value.specs.Value.{Value, Items, null, number, fraction, text, list, item, no_items, is_among, same}
use Rattle.schema_defs.specs.declared.InstanceType.{InstanceType}
use Rattle.schema_defs.specs.declared.InstanceType.TheVariants.{Null, Boolean, Object, Array, Number, Text, Integer}
use Rattle.schema_defs.specs.Schema.{one_type, many_types}
use Rattle.schema_defs.specs.Read.{multiple_of, type_named, type_of, types_in, types_of}
use Rattle.schema_faults.specs.Keywords.{type_words}
use Rattle.schema_faults.specs.Faults.{lists_all_types, names_number}
use Rattle.schema_laws.proofs.Options.{IfThere, mapped, with_answer, taken2}
use Rattle.enum_defs.specs.Words.{same_type}
use Rattle.convert_defs.proofs.Bare.{and_left, and_right, some-same}
use Rattle.merge_defs.specs.Leaves.{names_type}
use Rattle.merge_laws.specs.Laws.{AreProper, ProperTypes}

-- ---- names of types

abbrev word : InstanceType → List ℕ
word Null = codes "null"
word Boolean = codes "boolean"
word Object = codes "object"
word Array = codes "array"
word Number = codes "number"
word Text = codes "string"
word Integer = codes "integer"

word-names : (k : InstanceType) → type_named (word k) ≡ Some k
word-names Null = refl
word-names Boolean = refl
word-names Object = refl
word-names Array = refl
word-names Number = refl
word-names Text = refl
word-names Integer = refl

same-itself : (k : InstanceType) → same_type k k ≡ true
same-itself Null = refl
same-itself Boolean = refl
same-itself Object = refl
same-itself Array = refl
same-itself Number = refl
same-itself Text = refl
same-itself Integer = refl

abbrev is_number : Option InstanceType → Bool
is_number None = false
is_number (Some k) = same_type Number k

fifth : (a b c d e f g : Bool)
    → is_number (if a then Some Null else if b then Some Boolean else if c then Some Object else if d then Some Array else if e then Some Number else if f then Some Text else if g then Some Integer else None) ≡ true → e ≡ true
fifth true b c d e f g h = absurd (true≢false (sym h))
fifth false true c d e f g h = absurd (true≢false (sym h))
fifth false false true d e f g h = absurd (true≢false (sym h))
fifth false false false true e f g h = absurd (true≢false (sym h))
fifth false false false false true f g h = refl
fifth false false false false false true g h = absurd (true≢false (sym h))
fifth false false false false false false true h = absurd (true≢false (sym h))
fifth false false false false false false false h = absurd (true≢false (sym h))

number-word : (s : List ℕ) → is_number (type_named s) ≡ true → bytes_eq s (codes "number") ≡ true
number-word s h =
    fifth (bytes_eq s (codes "null")) (bytes_eq s (codes "boolean")) (bytes_eq s (codes "object")) (bytes_eq s (codes "array")) (bytes_eq s (codes "number")) (bytes_eq s (codes "string")) (bytes_eq s (codes "integer")) h

turned : (s t : List ℕ) → bytes_eq s t ≡ true → bytes_eq t s ≡ true
turned s t h = (bytes_eq-Decides t s).1 (sym ((bytes_eq-Decides s t).0 h))

-- ---- lists of names

either : (a b c d : Bool) → (a ≡ true → c ≡ true) → (b ≡ true → d ≡ true) → (a || b) ≡ true → (c || d) ≡ true
either true b c d f g h = λ i. f refl i || d
either false b true d f g h = refl
either false b false d f g h = g h

number-among : (xs : Items) → IfThere (λ (ks : List InstanceType). names_type ks Number ≡ true → is_among (text (codes "number")) xs ≡ true) (types_in xs)
number-among no_items = λ h. h
number-among (item v vs) =
    taken2 (λ (k : InstanceType). same_type Number k ≡ true → same (text (codes "number")) v ≡ true) (λ (ks : List InstanceType). names_type ks Number ≡ true → is_among (text (codes "number")) vs ≡ true)
    (λ (ks : List InstanceType). names_type ks Number ≡ true → is_among (text (codes "number")) (item v vs) ≡ true) (Some (λ (k : InstanceType) (ks : List InstanceType). k ∷ ks)) (type_of v) (types_in vs)
    (λ k f ks g. either (same_type Number k) (names_type ks Number) (same (text (codes "number")) v) (is_among (text (codes "number")) vs) f g) (first v) (number-among vs)
  where
    first : (v : Value) → IfThere (λ (k : InstanceType). same_type Number k ≡ true → same (text (codes "number")) v ≡ true) (type_of v)
    first (text s) = with_answer (λ (k : InstanceType). same_type Number k ≡ true → bytes_eq (codes "number") s ≡ true) (type_named s) (λ k e h. turned s (codes "number") (number-word s (ap is_number e ∙ h)))
    first null = tt
    first (value.boolean b) = tt
    first (number z) = tt
    first fraction = tt
    first (list xs) = tt
    first (value.object ms) = tt

among-named : (k : InstanceType) (xs : Items) → IfThere (λ (ks : List InstanceType). is_among (text (word k)) xs ≡ true → names_type ks k ≡ true) (types_in xs)
among-named k no_items = λ h. h
among-named k (item v vs) =
    taken2 (λ (l : InstanceType). same (text (word k)) v ≡ true → same_type k l ≡ true) (λ (ks : List InstanceType). is_among (text (word k)) vs ≡ true → names_type ks k ≡ true)
    (λ (ks : List InstanceType). is_among (text (word k)) (item v vs) ≡ true → names_type ks k ≡ true) (Some (λ (k : InstanceType) (ks : List InstanceType). k ∷ ks)) (type_of v) (types_in vs)
    (λ l f ks g. either (same (text (word k)) v) (is_among (text (word k)) vs) (same_type k l) (names_type ks k) f g) (first v) (among-named k vs)
  where
    named : (s : List ℕ) (l : InstanceType) → type_named s ≡ Some l → bytes_eq (word k) s ≡ true → same_type k l ≡ true
    named s l e h =
        let same-word : word k ≡ s = (bytes_eq-Decides (word k) s).0 h in
        subst (λ l. same_type k l ≡ true) (some-same k l (sym (word-names k) ∙ ap type_named same-word ∙ e)) (same-itself k)

    first : (v : Value) → IfThere (λ (l : InstanceType). same (text (word k)) v ≡ true → same_type k l ≡ true) (type_of v)
    first (text s) = with_answer (λ (l : InstanceType). bytes_eq (word k) s ≡ true → same_type k l ≡ true) (type_named s) (named s)
    first null = tt
    first (value.boolean b) = tt
    first (number z) = tt
    first fraction = tt
    first (list xs) = tt
    first (value.object ms) = tt

-- of all names each is named
abbrev AllPass : (List ℕ → Bool) → List (List ℕ) → Type 0
AllPass f [] = Unit {0}
AllPass f (n ∷ ns) = (f n ≡ true) × AllPass f ns

all-pass : (f : List ℕ → Bool) (ns : List (List ℕ)) → list_all f ns ≡ true → AllPass f ns
all-pass f [] h = tt
all-pass f (n ∷ ns) h = (and_left (f n) (list_all f ns) h, all-pass f ns (and_right (f n) (list_all f ns) h))

word-passes : (f : List ℕ → Bool) → AllPass f type_words → (k : InstanceType) → f (word k) ≡ true
word-passes f h Null = h.0
word-passes f h Boolean = h.1.0
word-passes f h Object = h.1.1.0
word-passes f h Array = h.1.1.1.0
word-passes f h Number = h.1.1.1.1.0
word-passes f h Text = h.1.1.1.1.1.0
word-passes f h Integer = h.1.1.1.1.1.1.0

each-word : (f : List ℕ → Bool) → list_all f type_words ≡ true → (k : InstanceType) → f (word k) ≡ true
each-word f h = word-passes f (all-pass f type_words h)

all-there : (a b : Bool) → (a && not b) ≡ false → a ≡ true → b ≡ true
all-there true true h g = refl
all-there true false h g = absurd (true≢false h)
all-there false b h g = absurd (true≢false (sym g))

-- ---- what is read

both-there : {A : Type 0} (P Q R : A → Type 0) (o : Option A) → IfThere P o → IfThere Q o → ((x : A) → P x → Q x → R x) → IfThere R o
both-there P Q R None h g f = tt
both-there P Q R (Some x) h g f = f x h g

every-name : (xs : Items) → IfThere (λ (ks : List InstanceType). (k : InstanceType) → is_among (text (word k)) xs ≡ true → names_type ks k ≡ true) (types_in xs)
every-name xs = by (types_in xs) (λ k. among-named k xs)
  where
    by : (o : Option (List InstanceType)) → ((k : InstanceType) → IfThere (λ (ks : List InstanceType). is_among (text (word k)) xs ≡ true → names_type ks k ≡ true) o) → IfThere (λ (ks : List InstanceType). (k : InstanceType) → is_among (text (word k)) xs ≡ true → names_type ks k ≡ true) o
    by None h = tt
    by (Some ks) h = h

list-proper : (xs : Items) → names_number (list xs) ≡ false → IfThere AreProper (types_in xs)
list-proper xs h =
    both-there (λ (ks : List InstanceType). names_type ks Number ≡ true → is_among (text (codes "number")) xs ≡ true) (λ (ks : List InstanceType). (k : InstanceType) → is_among (text (word k)) xs ≡ true → names_type ks k ≡ true) AreProper (types_in xs)
    (number-among xs) (every-name xs)
    (λ ks f g e k. g k (each-word (λ n. is_among (text n) xs) (all-there (is_among (text (codes "number")) xs) (lists_all_types xs) h (f e)) k))

pub types-proper : (v : Value) → names_number v ≡ false → IfThere ProperTypes (types_of v)
types-proper (list xs) h = mapped AreProper ProperTypes many_types (types_in xs) (list-proper xs h) (λ ks x. x)
types-proper (text s) h =
    mapped (λ (k : InstanceType). AreProper (k ∷ [])) ProperTypes one_type (type_named s) (with_answer (λ (k : InstanceType). AreProper (k ∷ [])) (type_named s) (λ k e g. absurd (true≢false (sym (number-word s (ap is_number e ∙ alone (same_type Number k) g)) ∙ h)))) (λ k x. x)
  where
    alone : (b : Bool) → (b || false) ≡ true → b ≡ true
    alone true g = refl
    alone false g = g
types-proper null h = tt
types-proper (value.boolean b) h = tt
types-proper (number z) h = tt
types-proper fraction h = tt
types-proper (value.object ms) h = tt

pub multiple-proper : (v : Value) → IfThere (λ m. 1 ≤ m) (multiple_of v)
multiple-proper (number (pos n)) = by n (nat_le 1 n) refl
  where
    by : (n : ℕ) (b : Bool) → nat_le 1 n ≡ b → IfThere (λ m. 1 ≤ m) (if b then Some n else None)
    by n true e = leb-true 1 n e
    by n false e = tt
multiple-proper (number (negsuc n)) = tt
multiple-proper null = tt
multiple-proper (value.boolean b) = tt
multiple-proper fraction = tt
multiple-proper (text s) = tt
multiple-proper (list xs) = tt
multiple-proper (value.object ms) = tt
