-- Adjacent enums, one branch: beside the tag stands the content, or nothing.
use Rattle.schema_defs.specs.declared.Setting.{Setting}
use Rattle.schema_defs.specs.Layer.{MemberPart as SchemaMember}
use Rattle.std.proofs.Common.{◌≡◌, ◌⊎◌, ℕ, List, [], ◌∷◌, Bool, true, false, ◌&&◌, ◌||◌, not, Option, Some, None, inl, inr, refl, sym, ap, ◌∙◌, subst, true≢false, bytes_eq}
use Rattle.std.specs.Prelude.{if◌then◌else◌}
use Rattle.std.specs.List.{list_all}
use Rattle.std.proofs.lemmas.Slice.Eq.{bytes_eq-Decides}
use Rattle.json_value.specs.Value.{Value, Members, member, no_members, same, text, has_name, member_at}
use Rattle.schema_defs.specs.Texts.{Relations}
use Rattle.schema_defs.specs.Schema.{Schema, no_schema, the_schema}
use Rattle.schema_defs.specs.Layer.{Judge, maybe, property_at, is_given}
use Rattle.model_defs.specs.Layer.{MemberPart, named, without, is_none}
use Rattle.entry_defs.specs.Entry.{Entry, any_entry}
use Rattle.entry_defs.specs.Layer as entry
use Rattle.entry_defs.specs.Members.{has_member, AreMembers}
use Rattle.convert_defs.specs.Row.{Way, narrowed, widened}
use Rattle.convert_defs.proofs.PlacedShapes.{ObjectShape}
use Rattle.enum_defs.specs.Shapes.{constant_text}
use Rattle.convert_defs.specs.Laws.{Keeps}
use Rattle.convert_defs.proofs.Bare.{and_left, and_right, and_true, impossible, none-some, some-same, or_left, or_right}
use Rattle.convert_defs.proofs.Views.{JudgesMatch, MembersMatch, Constants}
use Rattle.convert_defs.proofs.Objects.{has-member}
use Rattle.convert_defs.proofs.Constants.{text-only}
use Rattle.convert_defs.proofs.External.{keyed}
use Rattle.convert_defs.proofs.Internal.{text_in, text-there}
use Rattle.convert_defs.proofs.ObjectShapes.{bound_member}

same-name : (m n : List ℕ) → bytes_eq m n ≡ true → m ≡ n
same-name m n h = (bytes_eq-Decides m n).0 h

-- members of one name, where names differ
pub named-once : (n : List ℕ) (ks : List (MemberPart entry.Judge)) → AreMembers ks → (named n ks ≡ []) ⊎ ((k : MemberPart entry.Judge) × (named n ks ≡ k ∷ []))
named-once n [] h = inl refl
named-once n (k ∷ ks) h = by (bytes_eq n k.name) refl (named-once n ks h.2)
  where
    gone : (ls : List (MemberPart entry.Judge)) → has_member n ls ≡ false → named n ls ≡ []
    gone [] g = refl
    gone (l ∷ ls) g = by (bytes_eq n l.name) g (gone ls)
      where
        by : (b : Bool) → (b || has_member n ls) ≡ false → (has_member n ls ≡ false → named n ls ≡ []) → (if b then l ∷ named n ls else named n ls) ≡ []
        by true g f = absurd (true≢false g)
        by false g f = f g

    by : (b : Bool) → bytes_eq n k.name ≡ b → (named n ks ≡ []) ⊎ ((l : MemberPart entry.Judge) × (named n ks ≡ l ∷ [])) → ((if b then k ∷ named n ks else named n ks) ≡ []) ⊎ ((l : MemberPart entry.Judge) × ((if b then k ∷ named n ks else named n ks) ≡ l ∷ []))
    by true e f = inr (k, ap (λ ls. k ∷ ls) (gone ks (ap (λ m. has_member m ks) (same-name n k.name e) ∙ h.0)))
    by false e f = f

-- the members beside two names
pub beside-both : (tag content : List ℕ) (closed : Bool) (ks : List (MemberPart entry.Judge)) → (not closed || is_none (without content (without tag ks))) ≡ list_all (λ k. bytes_eq tag k.name || bytes_eq content k.name || not closed) ks
beside-both tag content closed [] = or-true (not closed)
  where
    or-true : (b : Bool) → (b || true) ≡ true
    or-true true = refl
    or-true false = refl
beside-both tag content closed (k ∷ ks) = first (bytes_eq tag k.name) (beside-both tag content closed ks)
  where
    second : (b c : Bool) → (not c || is_none (without content (without tag ks))) ≡ list_all (λ k. bytes_eq tag k.name || bytes_eq content k.name || not c) ks
        → (not c || is_none (if not b then k ∷ without content (without tag ks) else without content (without tag ks))) ≡ ((b || not c) && list_all (λ k. bytes_eq tag k.name || bytes_eq content k.name || not c) ks)
    second true c f = f
    second false false f = f
    second false true f = refl

    first : (a : Bool) → (not closed || is_none (without content (without tag ks))) ≡ list_all (λ k. bytes_eq tag k.name || bytes_eq content k.name || not closed) ks
        → (not closed || is_none (without content (if not a then k ∷ without tag ks else without tag ks))) ≡ ((a || bytes_eq content k.name || not closed) && list_all (λ k. bytes_eq tag k.name || bytes_eq content k.name || not closed) ks)
    first true f = f
    first false f = second (bytes_eq content k.name) closed f

or-first : (a b : Bool) → a ≡ true → (a || b) ≡ true
or-first a b h = ap (λ x. x || b) h

or-second : (a b : Bool) → b ≡ true → (a || b) ≡ true
or-second true b h = refl
or-second false b h = h

module _ (way : Way) (st : Setting) (R : Schema → Entry → Type 0) (r : Relations) (tag content : List ℕ) (apart : bytes_eq content tag ≡ false) (o : ObjectShape) (u : Schema) (s : List ℕ) (here_u : property_at tag o.props ≡ the_schema u) (const : constant_text u ≡ Some s)
    (only : (n : List ℕ) → bytes_eq tag n ≡ false → bytes_eq content n ≡ false → property_at n o.props ≡ no_schema) (closed : Bool) (open_way : Keeps way (not o.closed) (not closed)) where
  -- the tag's member, and a member beside both
  tag-member : (x : Value) (j : SchemaMember) → bytes_eq tag j.name ≡ true → ((t : Schema) (c : List ℕ) → constant_text t ≡ Some c → j.says t ≡ same x (text c)) → bound_member o j ≡ same x (text s)
  tag-member x j e f =
      ap (λ m. maybe j.says (property_at m o.props) && (is_given (property_at m o.props) || not o.closed)) (sym (same-name tag j.name e))
      ∙ ap (λ m. maybe j.says m && (is_given m || not o.closed)) here_u ∙ and_true (j.says u) ∙ f u s const

  other-member : (j : SchemaMember) → bytes_eq tag j.name ≡ false → bytes_eq content j.name ≡ false → bound_member o j ≡ not o.closed
  other-member j e f = ap (λ m. maybe j.says m && (is_given m || not o.closed)) (only j.name e f)

  content-member : (j : SchemaMember) → bytes_eq content j.name ≡ true → bound_member o j ≡ (maybe j.says (property_at content o.props) && (is_given (property_at content o.props) || not o.closed))
  content-member j e = ap (λ m. maybe j.says (property_at m o.props) && (is_given (property_at m o.props) || not o.closed)) (sym (same-name content j.name e))

  -- the value of the tag
  pub tag-value : (name : List ℕ → Judge) (ms : Members) (js : List SchemaMember) (ks : List (MemberPart entry.Judge)) → MembersMatch way st R name ms js ks → Constants way st R ms js → list_all (bound_member o) js ≡ true → has_name tag ms ≡ true → (x : Value) × (member_at tag ms ≡ Some x) × (same x (text s) ≡ true)
  tag-value name no_members [] [] h c t g = impossible g
  tag-value name (member n x ms) (j ∷ js) (k ∷ ks) h c t g = by (bytes_eq tag n) refl g (tag-value name ms js ks h.1 c.1 (and_right (bound_member o j) _ t))
    where
      by : (b : Bool) → bytes_eq tag n ≡ b → (b || has_name tag ms) ≡ true → (has_name tag ms ≡ true → (y : Value) × (member_at tag ms ≡ Some y) × (same y (text s) ≡ true)) → (y : Value) × ((if b then Some x else member_at tag ms) ≡ Some y) × (same y (text s) ≡ true)
      by true e g f = (x, refl, sym (tag-member x j (ap (bytes_eq tag) h.0.same_name ∙ e) c.0) ∙ and_left _ _ t)
      by false e g f = f g
  tag-value name no_members [] (k ∷ ks) h c t g = absurd h
  tag-value name no_members (j ∷ js) ks h c t g = absurd h
  tag-value name (member n x ms) [] ks h c t g = absurd h
  tag-value name (member n x ms) (j ∷ js) [] h c t g = absurd h

  -- the content's members, by what the schema says of one
  module _ (says : MemberPart entry.Judge → Bool) (content_way : (j : SchemaMember) (k : MemberPart entry.Judge) → JudgesMatch way st R j.says k.value → bytes_eq content j.name ≡ true → Keeps way (bound_member o j) (says k)) where
    abbrev pub both_take : List (MemberPart entry.Judge) → Bool
    both_take ks = list_all (λ k. bytes_eq tag k.name || bytes_eq content k.name || not closed) ks && list_all says (named content ks)

    pub both-narrowed : (z : way ≡ narrowed) (name : List ℕ → Judge) (ms : Members) (js : List SchemaMember) (ks : List (MemberPart entry.Judge)) → MembersMatch way st R name ms js ks → list_all (bound_member o) js ≡ true → both_take ks ≡ true
    both-narrowed z name no_members [] [] h t = refl
    both-narrowed z name (member n x ms) (j ∷ js) (k ∷ ks) h t = by (bytes_eq tag k.name) refl (bytes_eq content k.name) refl (both-narrowed z name ms js ks h.1 (and_right (bound_member o j) _ t))
      where
        same-j : j.name ≡ k.name
        same-j = h.0.same_name ∙ sym h.0.name_is

        joined : (c : Bool) → (bytes_eq tag k.name || bytes_eq content k.name || not closed) ≡ true → bytes_eq content k.name ≡ c → (c ≡ true → says k ≡ true) → both_take ks ≡ true
            → ((bytes_eq tag k.name || bytes_eq content k.name || not closed) && list_all (λ k. bytes_eq tag k.name || bytes_eq content k.name || not closed) ks && list_all says (if c then k ∷ named content ks else named content ks)) ≡ true
        joined true a e f g = let b = f refl in let x = and_left _ _ g in let y = and_right (list_all (λ k. bytes_eq tag k.name || bytes_eq content k.name || not closed) ks) _ g in λ i. (a i && x i) && (b i && y i)
        joined false a e f g = let x = and_left _ _ g in let y = and_right (list_all (λ k. bytes_eq tag k.name || bytes_eq content k.name || not closed) ks) _ g in λ i. (a i && x i) && y i

        this : bytes_eq content k.name ≡ true → says k ≡ true
        this e = subst (λ m. Keeps m (bound_member o j) (says k)) z (content_way j k h.0.value (ap (bytes_eq content) same-j ∙ e)) (and_left _ _ t)

        opened : bytes_eq tag k.name ≡ false → bytes_eq content k.name ≡ false → not closed ≡ true
        opened e f = subst (λ m. Keeps m (not o.closed) (not closed)) z open_way (sym (other-member j (ap (bytes_eq tag) same-j ∙ e) (ap (bytes_eq content) same-j ∙ f)) ∙ and_left _ _ t)

        by : (a : Bool) → bytes_eq tag k.name ≡ a → (c : Bool) → bytes_eq content k.name ≡ c → both_take ks ≡ true
            → ((bytes_eq tag k.name || bytes_eq content k.name || not closed) && list_all (λ k. bytes_eq tag k.name || bytes_eq content k.name || not closed) ks && list_all says (if bytes_eq content k.name then k ∷ named content ks else named content ks)) ≡ true
        by true e c f g = joined (bytes_eq content k.name) (or-first _ (not closed) (or-first (bytes_eq tag k.name) (bytes_eq content k.name) e)) refl this g
        by false e true f g = joined (bytes_eq content k.name) (or-first _ (not closed) (or-second (bytes_eq tag k.name) (bytes_eq content k.name) f)) refl this g
        by false e false f g = joined (bytes_eq content k.name) (or-second (bytes_eq tag k.name || bytes_eq content k.name) (not closed) (opened e f)) refl this g
    both-narrowed z name no_members [] (k ∷ ks) h t = absurd h
    both-narrowed z name no_members (j ∷ js) ks h t = absurd h
    both-narrowed z name (member n x ms) [] ks h t = absurd h
    both-narrowed z name (member n x ms) (j ∷ js) [] h t = absurd h

    pub both-widened : (z : way ≡ widened) (name : List ℕ → Judge) (ms : Members) (js : List SchemaMember) (ks : List (MemberPart entry.Judge)) → MembersMatch way st R name ms js ks → Constants way st R ms js → AreMembers ks → ((x : Value) → member_at tag ms ≡ Some x → same x (text s) ≡ true)
        → both_take ks ≡ true → list_all (bound_member o) js ≡ true
    both-widened z name no_members [] [] h c am f t = refl
    both-widened z name (member n x ms) (j ∷ js) (k ∷ ks) h c am f t = by (bytes_eq tag k.name) refl (bytes_eq content k.name) refl t (λ g t. both-widened z name ms js ks h.1 c.1 am.2 g t)
      where
        same-j : j.name ≡ k.name
        same-j = h.0.same_name ∙ sym h.0.name_is

        same-tag : bytes_eq tag n ≡ bytes_eq tag k.name
        same-tag = ap (bytes_eq tag) (sym h.0.name_is)

        absent : (ms : Members) (js : List SchemaMember) (ls : List (MemberPart entry.Judge)) → MembersMatch way st R name ms js ls → has_member tag ls ≡ false → (y : Value) → member_at tag ms ≡ Some y → same y (text s) ≡ true
        absent no_members js ls h g y e = none-some y e
        absent (member m v ms) [] ls h g y e = absurd h
        absent (member m v ms) (j ∷ js) [] h g y e = absurd h
        absent (member m v ms) (j ∷ js) (l ∷ ls) h g y e =
            let a = ap (bytes_eq tag) (sym h.0.name_is) ∙ or_left (bytes_eq tag l.name) _ g in
            absent ms js ls h.1 (or_right (bytes_eq tag l.name) _ g) y (ap (λ b. if b then Some v else member_at tag ms) (sym a) ∙ e)

        -- the rest of the members
        rest : (a b : Bool) → bytes_eq content k.name ≡ b → ((a || b || not closed) && list_all (λ k. bytes_eq tag k.name || bytes_eq content k.name || not closed) ks && list_all says (if bytes_eq content k.name then k ∷ named content ks else named content ks)) ≡ true → both_take ks ≡ true
        rest a true e t =
            let x = and_right (a || true || not closed) _ (and_left _ _ t) in
            let y = and_right (says k) _ (ap (λ b. list_all says (if b then k ∷ named content ks else named content ks)) (sym e) ∙ and_right ((a || true || not closed) && list_all (λ k. bytes_eq tag k.name || bytes_eq content k.name || not closed) ks) _ t) in
            λ i. x i && y i
        rest a false e t =
            let x = and_right (a || false || not closed) _ (and_left _ _ t) in
            let y = ap (λ b. list_all says (if b then k ∷ named content ks else named content ks)) (sym e) ∙ and_right ((a || false || not closed) && list_all (λ k. bytes_eq tag k.name || bytes_eq content k.name || not closed) ks) _ t in
            λ i. x i && y i

        by : (a : Bool) → bytes_eq tag k.name ≡ a → (b : Bool) → bytes_eq content k.name ≡ b → ((a || b || not closed) && list_all (λ k. bytes_eq tag k.name || bytes_eq content k.name || not closed) ks && list_all says (if bytes_eq content k.name then k ∷ named content ks else named content ks)) ≡ true
            → (((x : Value) → member_at tag ms ≡ Some x → same x (text s) ≡ true) → both_take ks ≡ true → list_all (bound_member o) js ≡ true) → (bound_member o j && list_all (bound_member o) js) ≡ true
        by true e b g t rec =
            let a = tag-member x j (ap (bytes_eq tag) same-j ∙ e) c.0 ∙ f x (ap (λ b. if b then Some x else member_at tag ms) (same-tag ∙ e)) in
            let d = ap (λ m. has_member m ks) (same-name tag k.name e) ∙ am.0 in
            let y = rec (absent ms js ks h.1 d) (rest true b g t) in
            λ i. a i && y i
        by false e true g t rec =
            let w = and_left _ _ (ap (λ b. list_all says (if b then k ∷ named content ks else named content ks)) (sym g) ∙ and_right ((false || true || not closed) && list_all (λ k. bytes_eq tag k.name || bytes_eq content k.name || not closed) ks) _ t) in
            let a = subst (λ m. Keeps m (bound_member o j) (says k)) z (content_way j k h.0.value (ap (bytes_eq content) same-j ∙ g)) w in
            let y = rec (λ v q. f v (ap (λ b. if b then Some x else member_at tag ms) (same-tag ∙ e) ∙ q)) (rest false true g t) in
            λ i. a i && y i
        by false e false g t rec =
            let w = and_left _ _ (and_left _ _ t) in
            let a = other-member j (ap (bytes_eq tag) same-j ∙ e) (ap (bytes_eq content) same-j ∙ g) ∙ subst (λ m. Keeps m (not o.closed) (not closed)) z open_way w in
            let y = rec (λ v q. f v (ap (λ b. if b then Some x else member_at tag ms) (same-tag ∙ e) ∙ q)) (rest false false g t) in
            λ i. a i && y i
    both-widened z name no_members [] (k ∷ ks) h c am f t = absurd h
    both-widened z name no_members (j ∷ js) ks h c am f t = absurd h
    both-widened z name (member n x ms) [] ks h c am f t = absurd h
    both-widened z name (member n x ms) (j ∷ js) [] h c am f t = absurd h

    -- all that is required, and the content as the enum takes it
    module _ (beside : List (MemberPart entry.Judge) → Bool) (REQ : Members → Bool) (tag_there : (ms : Members) → REQ ms ≡ true → has_name tag ms ≡ true)
        (into : (ms : Members) (ks : List (MemberPart entry.Judge)) → ((n : List ℕ) → has_member n ks ≡ has_name n ms) → AreMembers ks → REQ ms ≡ true → list_all says (named content ks) ≡ true → beside (named content ks) ≡ true)
        (back : (ms : Members) (ks : List (MemberPart entry.Judge)) → ((n : List ℕ) → has_member n ks ≡ has_name n ms) → AreMembers ks → has_name tag ms ≡ true → beside (named content ks) ≡ true → (list_all says (named content ks) ≡ true) × (REQ ms ≡ true)) where
      pub adjacent-keeps : (name : List ℕ → Judge) (ms : Members) (js : List SchemaMember) (ks : List (MemberPart entry.Judge)) → MembersMatch way st R name ms js ks → Constants way st R ms js → AreMembers ks
          → Keeps way (list_all (bound_member o) js && REQ ms) (keyed s (text_in (member_at tag ms)) && ((not closed || is_none (without content (without tag ks))) && beside (named content ks)))
      adjacent-keeps name ms js ks h c am = ways way refl
        where
          member-is : (n : List ℕ) → has_member n ks ≡ has_name n ms
          member-is n = has-member way st R (λ p. any_entry) r name ms js ks h n

          keyed-same : (a : Option (List ℕ)) → keyed s a ≡ true → a ≡ Some s
          keyed-same None h = impossible h
          keyed-same (Some m) h = ap Some (same-name m s h)

          has-value : (ms : Members) (x : Value) → member_at tag ms ≡ Some x → has_name tag ms ≡ true
          has-value no_members x h = none-some x h
          has-value (member n y ms) x h = by (bytes_eq tag n) h (has-value ms x)
            where
              by : (b : Bool) → (if b then Some y else member_at tag ms) ≡ Some x → (member_at tag ms ≡ Some x → has_name tag ms ≡ true) → (b || has_name tag ms) ≡ true
              by true h f = refl
              by false h f = f h

          ways : (m : Way) → way ≡ m → Keeps m (list_all (bound_member o) js && REQ ms) (keyed s (text_in (member_at tag ms)) && ((not closed || is_none (without content (without tag ks))) && beside (named content ks)))
          ways narrowed z = λ t.
              let a = and_left _ _ t in
              let b = and_right (list_all (bound_member o) js) _ t in
              let x = tag-value name ms js ks h c a (tag_there ms b) in
              let k = ap (λ w. keyed s (text_in w)) (x.1 ∙ ap Some (text-only x.0 s x.2)) ∙ (bytes_eq-Decides s s).1 refl in
              let y = both-narrowed z name ms js ks h a in
              let e = beside-both tag content closed ks ∙ and_left _ _ y in
              let f = into ms ks member-is am b (and_right (list_all (λ k. bytes_eq tag k.name || bytes_eq content k.name || not closed) ks) _ y) in
              λ i. k i && (e i && f i)
          ways widened z = λ t.
              let k = text-there (member_at tag ms) s (keyed-same (text_in (member_at tag ms)) (and_left _ _ t)) in
              let b = and_right (keyed s (text_in (member_at tag ms))) _ t in
              let g = back ms ks member-is am (has-value ms (text s) k) (and_right (not closed || is_none (without content (without tag ks))) _ b) in
              let l = sym (beside-both tag content closed ks) ∙ and_left _ _ b in
              let q = g.0 in
              let e = both-widened z name ms js ks h c am (λ x n. ap (λ y. same y (text s)) (some-same x (text s) (sym n ∙ k)) ∙ (bytes_eq-Decides s s).1 refl) (λ i. l i && q i) in
              let f = g.1 in
              λ i. e i && f i
