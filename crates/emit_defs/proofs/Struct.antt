-- Structs: the fields that are written take what the fields of the entry take.
use Rattle.std.proofs.Common.{◌≡◌, ℕ, List, [], ◌∷◌, map, Bool, true, false, ◌&&◌, ◌||◌, not, cond, refl, sym, ap, ◌∙◌, bytes_eq}
use Rattle.std.specs.List.{filter, list_all, AllByRecursion}
use Rattle.model_defs.specs.Types.{TypeModel, boolean_type, text_type}
use Rattle.model_defs.specs.Layer as layer
use Rattle.model_defs.specs.Layer.{MemberPart, Parts, no_parts, list_parts, object_parts, one_type, is_none, named, own_members, other_members, unnamed_members, present_type, fields_take, rests_take}
use Rattle.model_defs.proofs.Flat.{and_first, and_second, and_true, or_false, not_true, kept}
use Rattle.entry_defs.specs.Entry.{Entry, text_entry, option_entry, State, required, optional, stated, Fields, no_fields, field_then, field_again, rest_field, next_field, Rest, no_rest, rest, FieldEntry, fields_of, rest_of}
use Rattle.entry_defs.specs.Layer.{Judge, each_member, is_field, others, may_be_missing, field_takes, rest_takes, members_take, struct_takes}
use Rattle.emit_defs.specs.Setting.{Setting}
use Rattle.emit_defs.specs.Models.{unboxed, type_model, used_type, manner, field_model, struct_models, after_state, manner_type, manner_default, manner_helper}
use Rattle.entry_defs.specs.Entry.{Target, Shape}
use Rattle.entry_defs.specs.Members.{names_differ}
use Rattle.entry_defs.specs.Sound.{Each, EachField}
use Rattle.emit_defs.proofs.Both.{Both}
use Rattle.emit_defs.proofs.Places.{next_each}
use Rattle.emit_defs.proofs.Pairs.{part, parts, filter_part, none_part}

-- ---- filters by names

module _ {J : Type 0} where
  all_kept : (ms : List (MemberPart J)) → filter (λ m. true) ms ≡ ms
  all_kept [] = refl
  all_kept (m ∷ ms) = ap (λ z. m ∷ z) (all_kept ms)

  after_first : (n : List ℕ) (q : List ℕ → Bool) (ms : List (MemberPart J))
      → filter (λ m. not (q m.name)) (filter (λ m. not (bytes_eq n m.name || false)) ms) ≡ filter (λ m. not (bytes_eq n m.name || q m.name)) ms
  after_first n q [] = refl
  after_first n q (m ∷ ms) =
      let rec = after_first n q ms in
      elim (bytes_eq n m.name) as (λ b.
      filter (λ x. not (q x.name)) (cond (not (b || false)) (m ∷ filter (λ x. not (bytes_eq n x.name || false)) ms) (filter (λ x. not (bytes_eq n x.name || false)) ms))
      ≡ cond (not (b || q m.name)) (m ∷ filter (λ x. not (bytes_eq n x.name || q x.name)) ms) (filter (λ x. not (bytes_eq n x.name || q x.name)) ms)) [
        | true ↦ rec
        | false ↦ ap (λ z. cond (not (q m.name)) (m ∷ z) z) rec
      ]

  abbrev pub own : List ℕ → List (MemberPart J) → List (MemberPart J)
  own n ms = filter (λ m. bytes_eq n m.name || false) ms

  own_named : (n : List ℕ) (ms : List (MemberPart J)) → own n ms ≡ named n ms
  own_named n ms = λ i. filter (λ m. or_false (bytes_eq n m.name) i) ms

  own_kept : (k n : List ℕ) → bytes_eq k n ≡ false → (ms : List (MemberPart J)) → own n (filter (λ m. not (bytes_eq k m.name || false)) ms) ≡ own n ms
  own_kept k n h ms = kept (k, boolean_type) (n, boolean_type) h ms

  abbrev pub rest_of_first : List ℕ → List (MemberPart J) → List (MemberPart J)
  rest_of_first k ms = filter (λ m. not (bytes_eq k m.name || false)) ms

  -- the members of other names are kept where one name's are taken out
  kept_all : (k : List ℕ) (ms whole : List (MemberPart J)) (gs : List FieldEntry) → list_all (λ g. not (bytes_eq k g.name)) gs ≡ true
      → AllByRecursion (λ g. own g.name ms ≡ named g.name whole) gs → AllByRecursion (λ g. own g.name (rest_of_first k ms) ≡ named g.name whole) gs
  kept_all k ms whole [] d h = tt
  kept_all k ms whole (g ∷ gs) d h =
      (own_kept k g.name (not_true _ (and_first _ _ d)) ms ∙ h.0, kept_all k ms whole gs (and_second _ _ d) h.1)

  own_all : (ms : List (MemberPart J)) (gs : List FieldEntry) → AllByRecursion (λ g. own g.name ms ≡ named g.name ms) gs
  own_all ms [] = tt
  own_all ms (g ∷ gs) = (own_named g.name ms, own_all ms gs)

-- ---- one field

present : (l : Bool) (st : State) (e : Entry) (t : TypeModel) → layer.helped_type (manner_helper (manner l st e)) (manner_type (manner l st e) t) ≡ t
present true required e t = refl
present false required e t = refl
present l (stated v) e t = refl
present l optional (option_entry e) t = refl
present l optional _ t = refl

missing : (leads : TypeModel → Bool) (n : ℕ) (l : Bool) (st : State) (e : Entry) (t : TypeModel) → leads t ≡ l
    → may_be_missing st ≡ (layer.has_default (manner_default (manner l st e) n) || (layer.has_no_helper (manner_helper (manner l st e)) && leads (manner_type (manner l st e) t)))
missing leads n true required e t h = refl
missing leads n false required e t h = sym h
missing leads n l (stated v) e t h = refl
missing leads n l optional (option_entry e) t h = refl
missing leads n l optional _ t h = refl

module _ (s : Setting) (owner : List ℕ) where
  pub unnamed_left : {J : Type 0} (n : ℕ) (fs : Fields) (ms : List (MemberPart J)) → unnamed_members (struct_models s owner n fs) ms ≡ others (fields_of fs) ms
  unnamed_left n no_fields ms = sym (all_kept ms)
  unnamed_left n (rest_field i e) ms = sym (all_kept ms)
  unnamed_left n (field_then i k e t fs) ms =
      unnamed_left (after_state t n) fs (filter (λ m. not (bytes_eq k m.name || false)) ms) ∙ after_first k (is_field (fields_of fs)) ms
  unnamed_left n (field_again i k fs) ms =
      unnamed_left (after_state required n) fs (filter (λ m. not (bytes_eq k m.name || false)) ms) ∙ after_first k (is_field (fields_of fs)) ms

  module _ (leads : TypeModel → Bool) where
    abbrev rest_reads : Rest → List (MemberPart layer.Judge) → Bool
    rest_reads no_rest ms = true
    rest_reads (rest i e) ms = layer.each_member text_type (type_model s.name unboxed e) ms

    rests_left : (n : ℕ) (fs : Fields) (ms : List (MemberPart layer.Judge)) → rests_take leads (struct_models s owner n fs) ms ≡ rest_reads (rest_of fs) ms
    rests_left n no_fields ms = refl
    rests_left n (rest_field i e) ms = and_true _
    rests_left n (field_then i k e t fs) ms = rests_left (after_state t n) fs ms
    rests_left n (field_again i k fs) ms = rests_left (after_state required n) fs ms

    module _ (P : List ℕ → Shape → Type 0) (Q : Target → Type 0) (told : (b : List ℕ → Bool) (e : Entry) → Each P Q e → leads (type_model s.name b e) ≡ s.leads e) where
      abbrev Pair : Type 0
      Pair = Both s P Q

      abbrev left : List (MemberPart Pair) → List (MemberPart Judge)
      left ms = map (part (λ p. p.left)) ms

      abbrev right : List (MemberPart Pair) → List (MemberPart layer.Judge)
      right ms = map (part (λ p. p.right)) ms

      one_field : (n : ℕ) (f : FieldEntry) → Each P Q f.entry → (ms : List (MemberPart Pair)) → field_takes f (left ms) ≡ layer.field_takes leads (field_model s owner n f) (right ms)
      one_field n f h [] = missing leads n (s.leads f.entry) f.state f.entry (used_type s owner f.entry) (told (s.is_boxed owner) f.entry h)
      one_field n f h (m ∷ []) =
          m.value.agree.one (s.is_boxed owner) f.entry h
          ∙ ap (λ t. m.value.right (one_type t)) (sym (present (s.leads f.entry) f.state f.entry (used_type s owner f.entry)))
      one_field n f h (m ∷ p ∷ ms) = refl

      -- the first field, where those behind it agree
      then_fields : (n : ℕ) (f : FieldEntry) (fs : Fields) → Each P Q f.entry → (whole ms : List (MemberPart Pair)) → own f.name ms ≡ named f.name whole
          → list_all (λ g. field_takes g (named g.name (left whole))) (fields_of fs) ≡ fields_take leads (struct_models s owner (after_state f.state n) fs) (right (rest_of_first f.name ms))
          → (field_takes f (named f.name (left whole)) && list_all (λ g. field_takes g (named g.name (left whole))) (fields_of fs))
          ≡ fields_take leads (field_model s owner n f ∷ struct_models s owner (after_state f.state n) fs) (right ms)
      then_fields n f fs h whole ms mine_own rec =
          let one = one_field n f h (named f.name whole) in
          let mine = filter_part (λ p. p.left) (bytes_eq f.name) whole in
          let yours = filter_part (λ p. p.right) (λ x. bytes_eq f.name x || false) ms ∙ ap right mine_own in
          let others = filter_part (λ p. p.right) (λ x. not (bytes_eq f.name x || false)) ms in
          (λ i. field_takes f (mine i) && rec i)
          ∙ (λ i. one i && fields_take leads (struct_models s owner (after_state f.state n) fs) (sym others i))
          ∙ ap (λ z. layer.field_takes leads (field_model s owner n f) z && fields_take leads (struct_models s owner (after_state f.state n) fs) (other_members (field_model s owner n f) (right ms))) (sym yours)

      each_field : (n : ℕ) (fs : Fields) → names_differ (fields_of fs) ≡ true → EachField P Q fs
          → (whole ms : List (MemberPart Pair)) → AllByRecursion (λ f. own f.name ms ≡ named f.name whole) (fields_of fs)
          → list_all (λ f. field_takes f (named f.name (left whole))) (fields_of fs) ≡ fields_take leads (struct_models s owner n fs) (right ms)
      each_field n no_fields d h whole ms a = refl
      each_field n (rest_field i e) d h whole ms a = refl
      each_field n (field_then i k e st fs) d h whole ms a =
          let f : FieldEntry = record { identifier = i; name = k; entry = e; state = st } in
          then_fields n f fs h.0 whole ms a.0 (each_field (after_state st n) fs (and_second _ _ d) h.1 whole (rest_of_first k ms) (kept_all k ms whole (fields_of fs) (and_first _ _ d) a.1))
      each_field n (field_again i k fs) d h whole ms a =
          let f : FieldEntry = record { identifier = i; name = k; entry = next_field fs; state = required } in
          then_fields n f fs (next_each P Q fs h) whole ms a.0 (each_field (after_state required n) fs (and_second _ _ d) h whole (rest_of_first k ms) (kept_all k ms whole (fields_of fs) (and_first _ _ d) a.1))

      pub members_read : (k e : Entry) → Each P Q k → Each P Q e → (b : List ℕ → Bool) (ms : List (MemberPart Pair))
          → each_member k e (left ms) ≡ layer.each_member (type_model s.name b k) (type_model s.name b e) (right ms)
      members_read k e hk he b [] = refl
      members_read k e hk he b (m ∷ ms) =
          let rec = members_read k e hk he b ms in
          λ i. (m.key.agree.one b k hk i && m.value.agree.one b e he i) && rec i

      rest_agrees : (fs : Fields) → EachField P Q fs → (ms : List (MemberPart Pair)) → rest_takes (rest_of fs) (left ms) ≡ rest_reads (rest_of fs) (right ms)
      rest_agrees no_fields h ms = refl
      rest_agrees (field_then i k e st fs) h ms = rest_agrees fs h.1 ms
      rest_agrees (field_again i k fs) h ms = rest_agrees fs h ms
      rest_agrees (rest_field i e) h ms = members_read text_entry e tt h unboxed ms

      pub members_agree : (closed : Bool) (n : ℕ) (fs : Fields) → names_differ (fields_of fs) ≡ true → EachField P Q fs → (ms : List (MemberPart Pair))
          → members_take closed (fields_of fs) (rest_of fs) (left ms) ≡ layer.members_take leads closed (struct_models s owner n fs) (right ms)
      members_agree closed n fs d h ms =
          let mine : others (fields_of fs) (left ms) ≡ left (others (fields_of fs) ms) = filter_part (λ p. p.left) (λ x. not (is_field (fields_of fs) x)) ms in
          let yours : unnamed_members (struct_models s owner n fs) (right ms) ≡ right (others (fields_of fs) ms) = unnamed_left n fs (right ms) ∙ filter_part (λ p. p.right) (λ x. not (is_field (fields_of fs) x)) ms in
          let none : is_none (others (fields_of fs) (left ms)) ≡ is_none (unnamed_members (struct_models s owner n fs) (right ms)) =
          ap is_none mine ∙ none_part (λ p. p.left) (others (fields_of fs) ms) ∙ sym (none_part (λ p. p.right) (others (fields_of fs) ms)) ∙ ap is_none (sym yours) in
          let each = each_field n fs d h ms ms (own_all ms (fields_of fs)) in
          let rests : rest_takes (rest_of fs) (others (fields_of fs) (left ms)) ≡ rests_take leads (struct_models s owner n fs) (unnamed_members (struct_models s owner n fs) (right ms)) =
          ap (rest_takes (rest_of fs)) mine ∙ rest_agrees fs h (others (fields_of fs) ms) ∙ ap (rest_reads (rest_of fs)) (sym yours) ∙ sym (rests_left n fs (unnamed_members (struct_models s owner n fs) (right ms))) in
          λ i. ((not closed || none i) && each i) && rests i

      pub struct_agrees : (closed : Bool) (n : ℕ) (fs : Fields) → names_differ (fields_of fs) ≡ true → EachField P Q fs → (ps : Parts Pair)
          → struct_takes closed (fields_of fs) (rest_of fs) (parts (λ p. p.left) ps) ≡ layer.struct_takes leads closed (struct_models s owner n fs) (parts (λ p. p.right) ps)
      struct_agrees closed n fs d h (object_parts ms) = members_agree closed n fs d h ms
      struct_agrees closed n fs d h no_parts = refl
      struct_agrees closed n fs d h (list_parts js) = refl
