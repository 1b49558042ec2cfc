-- A member that is no known keyword changes nothing; the formats are lawful.
use Rattle.std.proofs.Common.{◌≡◌, ℕ, List, [], ◌∷◌, ◌++◌, Bool, true, false, ◌||◌, refl, sym, ap, ◌∙◌, true≢false, bytes_eq}
use Rattle.std.specs.Prelude.{Option, Some, None, option_map, if◌then◌else◌}
use Rattle.std.proofs.lemmas.Slice.Eq.{bytes_eq-Decides}
use Rattle.json_value.specs.Value as value
use Rattle.json_value.specs.Value.{Value, null, number, fraction, text, list, members, member, no_members, member_at}
use Rattle.schema_defs.specs.declared.Setting.{Setting}
use Rattle.schema_defs.specs.declared.Setting.TheVariants.{Strict}
use Rattle.schema_defs.specs.Formats.{is_ipv4, is_ipv6}
use Rattle.schema_defs.specs.Schema.{Schema, Definition, Document}
use Rattle.schema_defs.specs.Read.{◌⊛◌, Reading, Lookup, lookup_of, reading_at, reading, member_readings, is_known, schema_of, plain_of, numbers_of, texts_of, same_of, lists_of, named_of, definitions_of, document_of, make_document, under}
use Rattle.schema_defs.specs.Laws.{KeywordsAreMembers, UnknownMembersSayNothing, FormatsAreLawful, SettingsAreKept}

abbrev pub restricted : Lookup → Lookup
restricted f n = if is_known n then f n else None

schema_of-restricted : (f : Lookup) → schema_of (restricted f) ≡ schema_of f
unfolding schema_of plain_of numbers_of texts_of same_of lists_of named_of
schema_of-restricted f = refl

definitions_of-restricted : (f : Lookup) → definitions_of (restricted f) ≡ definitions_of f
unfolding definitions_of
definitions_of-restricted f = refl

module _ (f g : Lookup) (h : (n : List ℕ) → is_known n ≡ true → f n ≡ g n) where
  at_each : (n : List ℕ) (b : Bool) → is_known n ≡ b → (if b then f n else None) ≡ (if b then g n else None)
  at_each n true e = h n e
  at_each n false e = refl

  restricted-same : restricted f ≡ restricted g
  restricted-same = λ i n. at_each n (is_known n) refl i

  pub schema_of-same : schema_of f ≡ schema_of g
  schema_of-same = sym (schema_of-restricted f) ∙ ap schema_of restricted-same ∙ schema_of-restricted g

  pub definitions_of-same : definitions_of f ≡ definitions_of g
  definitions_of-same = sym (definitions_of-restricted f) ∙ ap definitions_of restricted-same ∙ definitions_of-restricted g

differs : (n k : List ℕ) → is_known n ≡ true → is_known k ≡ false → (b : Bool) → bytes_eq n k ≡ b → b ≡ false
differs n k hn hk false e = refl
differs n k hn hk true e = absurd (true≢false (sym hn ∙ ap is_known ((bytes_eq-Decides n k).0 e) ∙ hk))

skipped : (n k : List ℕ) (v : Value) (es fs : List (List ℕ × Value)) → bytes_eq n k ≡ false
    → reading_at n (member_readings (members (es ++ (k, v) ∷ fs))) ≡ reading_at n (member_readings (members (es ++ fs)))
skipped n k v [] fs h = λ i. if h i then Some (reading v) else reading_at n (member_readings (members fs))
skipped n k v (e ∷ es) fs h = ap (λ o. if bytes_eq n e.0 then Some (reading e.1) else o) (skipped n k v es fs h)

module _ (es fs : List (List ℕ × Value)) (k : List ℕ) (v : Value) (h : is_known k ≡ false) where
  abbrev long : Lookup
  long = lookup_of (member_readings (members (es ++ (k, v) ∷ fs)))

  abbrev short : Lookup
  short = lookup_of (member_readings (members (es ++ fs)))

  known_same : (n : List ℕ) → is_known n ≡ true → long n ≡ short n
  known_same n hn = skipped n k v es fs (differs n k hn h (bytes_eq n k) refl)

  document_same : (setting : Setting) → document_of setting (value.object (members (es ++ (k, v) ∷ fs))) ≡ document_of setting (value.object (members (es ++ fs)))
  unfolding document_of
  document_same setting = λ i. Some (make_document setting) ⊛ schema_of-same long short known_same i ⊛ definitions_of-same long short known_same i

pub unknown_members_say_nothing : UnknownMembersSayNothing
unknown_members_say_nothing = (λ setting es fs k v h. document_same es fs k v h setting, λ es fs k v h. schema_of-same (long es fs k v h) (short es fs k v h) (known_same es fs k v h))

kept : (setting : Setting) (s : Option Schema) (ds : Option (List Definition)) → Some (make_document setting) ⊛ s ⊛ ds ≡ option_map (under setting) (Some (make_document Strict) ⊛ s ⊛ ds)
kept setting None None = refl
kept setting (Some s) None = refl
kept setting None (Some ds) = refl
kept setting (Some s) (Some ds) = refl

pub settings_are_kept : SettingsAreKept
unfolding document_of
settings_are_kept setting (value.boolean b) = refl
settings_are_kept setting (value.object ms) = kept setting (schema_of (lookup_of (member_readings ms))) (definitions_of (lookup_of (member_readings ms)))
settings_are_kept setting null = refl
settings_are_kept setting (number z) = refl
settings_are_kept setting fraction = refl
settings_are_kept setting (text s) = refl
settings_are_kept setting (list xs) = refl

chosen : (b : Bool) (x : Value) (y : Option Reading) (z : Option Value) → y ≡ option_map reading z → (if b then Some (reading x) else y) ≡ option_map reading (if b then Some x else z)
chosen true x y z h = refl
chosen false x y z h = h

pub keywords_are_members : KeywordsAreMembers
keywords_are_members n no_members = refl
keywords_are_members n (member k v ms) = chosen (bytes_eq n k) v _ _ (keywords_are_members n ms)

either_left : (a b : Bool) → a ≡ true → (a || b) ≡ true
either_left a b h = λ i. h i || b

either_right : (a b : Bool) → b ≡ true → (a || b) ≡ true
either_right true b h = refl
either_right false b h = h

pub formats_are_lawful : FormatsAreLawful
formats_are_lawful p m = record { ipv4_is_ip = λ s h. either_left (is_ipv4 s) (is_ipv6 s) h; ipv6_is_ip = λ s h. either_right (is_ipv4 s) (is_ipv6 s) h }
