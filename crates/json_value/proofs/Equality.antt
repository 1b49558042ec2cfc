-- `same` decides equality.
use Rattle.std.proofs.Common.{◌≡◌, Bool, true, false, ◌&&◌, refl, sym, ap, ◌∙◌, true≢false, bytes_eq}
use Rattle.std.specs.Bool.{Decides}
use Rattle.std.specs.Cmp.{signed_Decides}
use Rattle.std.proofs.lemmas.Slice.Eq.{bytes_eq-Decides}
use Rattle.json_value.specs.Value.{Value, Items, Members, null, boolean, number, fraction, text, list, object, no_items, item, no_members, member, same, same_items, same_members, same_bool}

first_of_both : (a b : Bool) → (a && b) ≡ true → a ≡ true
first_of_both true b h = refl
first_of_both false b h = h

second_of_both : (a b : Bool) → (a && b) ≡ true → b ≡ true
second_of_both true b h = h
second_of_both false b h = absurd (true≢false (sym h))

same_bool_sound : (a b : Bool) → same_bool a b ≡ true → a ≡ b
same_bool_sound true true h = refl
same_bool_sound true false h = sym h
same_bool_sound false true h = h
same_bool_sound false false h = refl

same_bool_itself : (a : Bool) → same_bool a a ≡ true
same_bool_itself true = refl
same_bool_itself false = refl

mutual
  pub same_sound : (a b : Value) → same a b ≡ true → a ≡ b
  same_sound null null h = refl
  same_sound (boolean a) (boolean b) h = ap boolean (same_bool_sound a b h)
  same_sound (number a) (number b) h = ap number ((signed_Decides a b).0 h)
  same_sound fraction fraction h = refl
  same_sound (text a) (text b) h = ap text ((bytes_eq-Decides a b).0 h)
  same_sound (list a) (list b) h = ap list (same_items_sound a b h)
  same_sound (object a) (object b) h = ap object (same_members_sound a b h)
  same_sound _ _ h = absurd (true≢false (sym h))

  pub same_items_sound : (a b : Items) → same_items a b ≡ true → a ≡ b
  same_items_sound no_items no_items h = refl
  same_items_sound (item x xs) (item y ys) h =
      let e = same_sound x y (first_of_both (same x y) (same_items xs ys) h) in
      let es = same_items_sound xs ys (second_of_both (same x y) (same_items xs ys) h) in
      λ i. item (e i) (es i)
  same_items_sound _ _ h = absurd (true≢false (sym h))

  pub same_members_sound : (a b : Members) → same_members a b ≡ true → a ≡ b
  same_members_sound no_members no_members h = refl
  same_members_sound (member j x xs) (member k y ys) h =
      let hs = second_of_both (bytes_eq j k) (same x y && same_members xs ys) h in
      let n = (bytes_eq-Decides j k).0 (first_of_both (bytes_eq j k) (same x y && same_members xs ys) h) in
      let e = same_sound x y (first_of_both (same x y) (same_members xs ys) hs) in
      let es = same_members_sound xs ys (second_of_both (same x y) (same_members xs ys) hs) in
      λ i. member (n i) (e i) (es i)
  same_members_sound _ _ h = absurd (true≢false (sym h))

mutual
  pub same_itself : (a : Value) → same a a ≡ true
  same_itself null = refl
  same_itself (boolean a) = same_bool_itself a
  same_itself (number a) = (signed_Decides a a).1 refl
  same_itself fraction = refl
  same_itself (text a) = (bytes_eq-Decides a a).1 refl
  same_itself (list a) = same_items_itself a
  same_itself (object a) = same_members_itself a

  pub same_items_itself : (a : Items) → same_items a a ≡ true
  same_items_itself no_items = refl
  same_items_itself (item x xs) = λ i. same_itself x i && same_items_itself xs i

  pub same_members_itself : (a : Members) → same_members a a ≡ true
  same_members_itself no_members = refl
  same_members_itself (member k x xs) = λ i. (bytes_eq-Decides k k).1 refl i && (same_itself x i && same_members_itself xs i)

pub same_Decides : (a b : Value) → Decides (same a b) (a ≡ b)
same_Decides a b = (same_sound a b, λ e. ap (λ v. same a v) (sym e) ∙ same_itself a)
