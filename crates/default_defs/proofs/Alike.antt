-- Two lists of parts that are related part by part: members have the same names in the same order.
use Rattle.std.proofs.Common.{◌≡◌, ℕ, suc, List, [], ◌∷◌, filter, length, Bool, true, false, not, refl, sym, ap, true≢false, bytes_eq}
use Rattle.std.specs.Prelude.{⊤, if◌then◌else◌}
use Rattle.model_defs.specs.Layer.{MemberPart, Parts, no_parts, list_parts, object_parts, is_none, named, without, members_in}
use Rattle.entry_defs.specs.Entry.{FieldEntry}
use Rattle.entry_defs.specs.Layer.{is_field, others}

-- `Key` relates what names say, and `Part` what items and the values of members say
module _ (J K : Type 0) (Key Part : J → K → Type 0) where
  abbrev pub AlikeItems : List J → List K → Type 0
  AlikeItems [] [] = ⊤
  AlikeItems [] (k ∷ ks) = ⊥
  AlikeItems (j ∷ js) [] = ⊥
  AlikeItems (j ∷ js) (k ∷ ks) = Part j k × AlikeItems js ks

  abbrev pub AlikeMember : MemberPart J → MemberPart K → Type 0
  AlikeMember m n = (m.name ≡ n.name) × Key m.key n.key × Part m.value n.value

  abbrev pub AlikeMembers : List (MemberPart J) → List (MemberPart K) → Type 0
  AlikeMembers [] [] = ⊤
  AlikeMembers [] (n ∷ ns) = ⊥
  AlikeMembers (m ∷ ms) [] = ⊥
  AlikeMembers (m ∷ ms) (n ∷ ns) = AlikeMember m n × AlikeMembers ms ns

  abbrev pub AlikeParts : Parts J → Parts K → Type 0
  AlikeParts no_parts no_parts = ⊤
  AlikeParts (list_parts js) (list_parts ks) = AlikeItems js ks
  AlikeParts (object_parts ms) (object_parts ns) = AlikeMembers ms ns
  AlikeParts _ _ = ⊥

  -- what holds of parts of each kind holds of all
  pub by_kind : (P : Parts J → Parts K → Type 0) → P no_parts no_parts → ((js : List J) (ks : List K) → AlikeItems js ks → P (list_parts js) (list_parts ks))
      → ((ms : List (MemberPart J)) (ns : List (MemberPart K)) → AlikeMembers ms ns → P (object_parts ms) (object_parts ns))
      → (ps : Parts J) (qs : Parts K) → AlikeParts ps qs → P ps qs
  by_kind P none items members no_parts no_parts h = none
  by_kind P none items members (list_parts js) (list_parts ks) h = items js ks h
  by_kind P none items members (object_parts ms) (object_parts ns) h = members ms ns h
  by_kind P none items members no_parts (list_parts ks) h = absurd h
  by_kind P none items members no_parts (object_parts ns) h = absurd h
  by_kind P none items members (list_parts js) no_parts h = absurd h
  by_kind P none items members (list_parts js) (object_parts ns) h = absurd h
  by_kind P none items members (object_parts ms) no_parts h = absurd h
  by_kind P none items members (object_parts ms) (list_parts ks) h = absurd h

  pub as_many : (js : List J) (ks : List K) → AlikeItems js ks → length js ≡ length ks
  as_many [] [] h = refl
  as_many [] (k ∷ ks) h = absurd h
  as_many (j ∷ js) [] h = absurd h
  as_many (j ∷ js) (k ∷ ks) h = ap suc (as_many js ks h.1)

  pub none_alike : (ms : List (MemberPart J)) (ns : List (MemberPart K)) → AlikeMembers ms ns → is_none ms ≡ is_none ns
  none_alike [] [] h = refl
  none_alike [] (n ∷ ns) h = absurd h
  none_alike (m ∷ ms) [] h = absurd h
  none_alike (m ∷ ms) (n ∷ ns) h = refl

  pub members_alike : (ps : Parts J) (qs : Parts K) → AlikeParts ps qs → AlikeMembers (members_in ps) (members_in qs)
  members_alike = by_kind (λ ps qs. AlikeMembers (members_in ps) (members_in qs)) tt (λ js ks h. tt) (λ ms ns h. h)

  -- those whose names pass a test
  pub kept : (p : List ℕ → Bool) (ms : List (MemberPart J)) (ns : List (MemberPart K)) → AlikeMembers ms ns
      → AlikeMembers (filter (λ m. p m.name) ms) (filter (λ n. p n.name) ns)
  kept p [] [] h = tt
  kept p [] (n ∷ ns) h = absurd h
  kept p (m ∷ ms) [] h = absurd h
  kept p (m ∷ ms) (n ∷ ns) h = by (p m.name) (p n.name) (ap p h.0.0) (kept p ms ns h.1)
    where
      by : (a b : Bool) → a ≡ b → AlikeMembers (filter (λ m. p m.name) ms) (filter (λ n. p n.name) ns)
          → AlikeMembers (if a then m ∷ filter (λ m. p m.name) ms else filter (λ m. p m.name) ms) (if b then n ∷ filter (λ n. p n.name) ns else filter (λ n. p n.name) ns)
      by true true e g = (h.0, g)
      by true false e g = absurd (true≢false e)
      by false true e g = absurd (true≢false (sym e))
      by false false e g = g

  pub named_alike : (x : List ℕ) (ms : List (MemberPart J)) (ns : List (MemberPart K)) → AlikeMembers ms ns → AlikeMembers (named x ms) (named x ns)
  named_alike x = kept (λ y. bytes_eq x y)

  pub without_alike : (x : List ℕ) (ms : List (MemberPart J)) (ns : List (MemberPart K)) → AlikeMembers ms ns → AlikeMembers (without x ms) (without x ns)
  without_alike x = kept (λ y. not (bytes_eq x y))

  pub others_alike : (fs : List FieldEntry) (ms : List (MemberPart J)) (ns : List (MemberPart K)) → AlikeMembers ms ns → AlikeMembers (others fs ms) (others fs ns)
  others_alike fs = kept (λ y. not (is_field fs y))
