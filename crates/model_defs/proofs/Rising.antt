-- Members in order of their names: what a look-up finds once a member is put where it stands in order, and that look-ups tell such members apart.
use Rattle.std.proofs.Common.{◌≡◌, ℕ, List, Bool, true, false, ◌||◌, cond, refl, sym, ap, ◌∙◌, subst, true≢false, bytes_eq, Option, Some, None}
use Rattle.std.proofs.lemmas.Cmp.{nat_list_cmp_total}
use Rattle.std.proofs.lemmas.Map.Text.{is_eq-slice_cmp}
use Rattle.std.proofs.lemmas.Slice.Eq.{bytes_eq-Decides}
use Rattle.std.specs.Ordering.{nat_cmp, is_eq, ordering_reverse}
use Rattle.std.specs.Cmp.Lexicographic.{slice_cmp}
use Rattle.std.specs.declared.cmp.Ordering.{Ordering}
use Rattle.std.specs.declared.cmp.Ordering.TheVariants.{Less, Equal, Greater}
use Rattle.json_value.specs.Value as value
use Rattle.json_value.specs.Value.{Value, Members, null, number, fraction, text, list, object, member, no_members, member_at, has_name, IsSmall, MembersSmall, IsBelowFirst}
use Rattle.model_defs.specs.Settled.{placed, put}
use Rattle.model_defs.specs.Flat.{MembersApart, NamesApart, MembersRise, NamesRise, RisingNames, SmallNamesApart}

abbrev order : List ℕ → List ℕ → Ordering
order k l = slice_cmp nat_cmp k l

pub bytes_itself : (n : List ℕ) → bytes_eq n n ≡ true
bytes_itself n = (bytes_eq-Decides n n).1 refl

-- ---- names in order

pub below_next : (j l : List ℕ) (ms : Members) → order j l ≡ Less → IsBelowFirst l ms → IsBelowFirst j ms
below_next j l no_members b h = tt
below_next j l (member m v ms) b h = nat_list_cmp_total.trans j l m b h

pub differ : (k l : List ℕ) → order k l ≡ Less → bytes_eq k l ≡ false
differ k l b = sym (is_eq-slice_cmp k l) ∙ ap is_eq b

differ_above : (k l : List ℕ) → order k l ≡ Greater → bytes_eq k l ≡ false
differ_above k l b = sym (is_eq-slice_cmp k l) ∙ ap is_eq b

pub agree : (k l : List ℕ) → order k l ≡ Equal → k ≡ l
agree k l e = (bytes_eq-Decides k l).0 (sym (is_eq-slice_cmp k l) ∙ ap is_eq e)

turned : (k l : List ℕ) → order k l ≡ Greater → order l k ≡ Less
turned k l e = nat_list_cmp_total.antisymm l k ∙ ap ordering_reverse e

pub not_among : (k : List ℕ) (ms : Members) → IsBelowFirst k ms → MembersRise ms → has_name k ms ≡ false
not_among k no_members b h = refl
not_among k (member l v ms) b h =
    let rec = not_among k ms (below_next k l ms b h.0) h.1 in
    λ i. differ k l b i || rec i

pub not_found : (k : List ℕ) (ms : Members) → IsBelowFirst k ms → MembersRise ms → member_at k ms ≡ None
not_found k no_members b h = refl
not_found k (member l v ms) b h =
    let rec = not_found k ms (below_next k l ms b h.0) h.1 in
    λ i. cond (differ k l b i) (Some v) (rec i)

-- ---- a member put in its place

twice : (b : Bool) (x y z : Option Value) → cond b x y ≡ cond b x (cond b z y)
twice true x y z = refl
twice false x y z = refl

swapped : (b c : Bool) (x y z : Option Value) → (b ≡ true → c ≡ true → ⊥) → cond c y (cond b x z) ≡ cond b x (cond c y z)
swapped true true x y z h = absurd (h refl refl)
swapped true false x y z h = refl
swapped false c x y z h = refl

-- what a look-up of k finds after j was put
pub put_found : (k j : List ℕ) (v : Value) (ms : Members) → member_at k (put j v ms) ≡ cond (bytes_eq k j) (Some v) (member_at k ms)
put_found k j v no_members = refl
put_found k j v (member l w ms) =
    let rec = put_found k j v ms in
    elim (order j l) as (λ o. order j l ≡ o →
    member_at k (placed o (member j v (member l w ms)) (member j v ms) (member l w (put j v ms))) ≡ cond (bytes_eq k j) (Some v) (cond (bytes_eq k l) (Some w) (member_at k ms))) [
      | Less ↦ λ e. refl
      | Equal ↦ λ e. twice (bytes_eq k j) (Some v) (member_at k ms) (Some w) ∙ ap (λ x. cond (bytes_eq k j) (Some v) (cond (bytes_eq k x) (Some w) (member_at k ms))) (agree j l e)
      | Greater ↦ λ e. ap (λ z. cond (bytes_eq k l) (Some w) z) rec
          ∙ swapped (bytes_eq k j) (bytes_eq k l) (Some v) (Some w) (member_at k ms)
          (λ a b. true≢false (sym ((bytes_eq-Decides j l).1 (sym ((bytes_eq-Decides k j).0 a) ∙ (bytes_eq-Decides k l).0 b)) ∙ differ_above j l e))
    ] refl

put_below : (k j : List ℕ) (v : Value) (ms : Members) → order k j ≡ Less → IsBelowFirst k ms → IsBelowFirst k (put j v ms)
put_below k j v no_members b h = b
put_below k j v (member l w ms) b h =
    elim (order j l) as (λ o. IsBelowFirst k (placed o (member j v (member l w ms)) (member j v ms) (member l w (put j v ms)))) [ Less ↦ b | Equal ↦ b | Greater ↦ h ]

pub put_rises : (j : List ℕ) (v : Value) (ms : Members) → MembersRise ms → MembersRise (put j v ms)
put_rises j v no_members h = (tt, tt)
put_rises j v (member l w ms) h =
    let rec = put_rises j v ms h.1 in
    elim (order j l) as (λ o. order j l ≡ o → MembersRise (placed o (member j v (member l w ms)) (member j v ms) (member l w (put j v ms)))) [
      | Less ↦ λ e. (e, h)
      | Equal ↦ λ e. (subst (λ x. IsBelowFirst x ms) (sym (agree j l e)) h.0, h.1)
      | Greater ↦ λ e. (put_below l j v ms (turned j l e) h.0, rec)
    ] refl

-- ---- look-ups tell rising members apart

none_some : (v : Value) → None ≡ Some v → ⊥
none_some v e = cc

head_found : (k : List ℕ) (v : Value) (ms : Members) → member_at k (member k v ms) ≡ Some v
head_found k v ms = ap (λ b. cond b (Some v) (member_at k ms)) (bytes_itself k)

value_or : Value → Option Value → Value
value_or d None = d
value_or d (Some v) = v

one_value : (v w : Value) → Some v ≡ Some w → v ≡ w
unfolding value_or
one_value v w e = ap (value_or v) e

-- below the first name the tails agree
tails_agree : (k : List ℕ) (v w : Value) (a b : Members) → IsBelowFirst k a → IsBelowFirst k b → MembersRise a → MembersRise b
    → (x : List ℕ) → cond (bytes_eq x k) (Some v) (member_at x a) ≡ cond (bytes_eq x k) (Some w) (member_at x b) → member_at x a ≡ member_at x b
tails_agree k v w a b ka kb ra rb x = elim (bytes_eq x k) as (λ t. bytes_eq x k ≡ t → cond t (Some v) (member_at x a) ≡ cond t (Some w) (member_at x b) → member_at x a ≡ member_at x b) [
  | true ↦ λ e h. subst (λ y. member_at y a ≡ member_at y b) (sym ((bytes_eq-Decides x k).0 e)) (not_found k a ka ra ∙ sym (not_found k b kb rb))
  | false ↦ λ e h. h
] refl

pub same_by_look_ups : (a b : Members) → MembersRise a → MembersRise b → ((k : List ℕ) → member_at k a ≡ member_at k b) → a ≡ b
same_by_look_ups no_members no_members ra rb h = refl
same_by_look_ups no_members (member l w b) ra rb h = absurd (none_some w (h l ∙ head_found l w b))
same_by_look_ups (member k v a) no_members ra rb h = absurd (none_some v (sym (h k) ∙ head_found k v a))
same_by_look_ups (member k v a) (member l w b) ra rb h =
    let rec = same_by_look_ups a b ra.1 rb.1 in
    elim (order k l) as (λ o. order k l ≡ o → member k v a ≡ member l w b) [
      | Less ↦ λ e. absurd (none_some v (sym (not_found k (member l w b) e rb) ∙ sym (h k) ∙ head_found k v a))
      | Greater ↦ λ e. absurd (none_some w (sym (not_found l (member k v a) (turned k l e) ra) ∙ h l ∙ head_found l w b))
      | Equal ↦ λ e.
          let n = agree k l e in
          let hk : (x : List ℕ) → cond (bytes_eq x k) (Some v) (member_at x a) ≡ cond (bytes_eq x k) (Some w) (member_at x b) = λ x. h x ∙ ap (λ y. cond (bytes_eq x y) (Some w) (member_at x b)) (sym n) in
          let kb : IsBelowFirst k b = subst (λ y. IsBelowFirst y b) (sym n) rb.0 in
          let values = one_value v w (sym (head_found k v a) ∙ hk k ∙ head_found k w b) in
          let rest = rec (λ x. tails_agree k v w a b ra.0 kb ra.1 rb.1 x (hk x)) in
          λ i. member (n i) (values i) (rest i)
    ] refl

-- ---- small values

members_apart : (ms : Members) → MembersRise ms → MembersApart ms
members_apart no_members h = tt
members_apart (member k v ms) h = (not_among k ms h.0 h.1, members_apart ms h.1)

names_apart : (v : Value) → NamesRise v → NamesApart v
names_apart (object ms) h = members_apart ms h
names_apart null h = tt
names_apart (value.boolean b) h = tt
names_apart (number z) h = tt
names_apart fraction h = tt
names_apart (text s) h = tt
names_apart (list xs) h = tt

members_rise : (ms : Members) → MembersSmall ms → MembersRise ms
members_rise no_members h = tt
members_rise (member k v ms) h = (h.2, members_rise ms h.3)

small_rise : (v : Value) → IsSmall v → NamesRise v
small_rise (object ms) h = members_rise ms h
small_rise null h = tt
small_rise (value.boolean b) h = tt
small_rise (number z) h = tt
small_rise fraction h = tt
small_rise (text s) h = tt
small_rise (list xs) h = tt

pub rising_names : RisingNames
rising_names = record { once = names_apart; small = small_rise }

pub small_names_apart : SmallNamesApart
small_names_apart v h = names_apart v (small_rise v h)
