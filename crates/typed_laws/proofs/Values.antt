-- All values: what they are read as is typed values.
use Rattle.std.proofs.Common.{◌≡◌, ℕ, zero, suc, List, [], ◌∷◌, length, true, refl, sym, ap, ◌∙◌, nat_eq}
use Rattle.std.specs.List.{list_any}
use Rattle.json_value.specs.Value as value
use Rattle.json_value.specs.Value.{Value, Items, Members, null, number, fraction, text, list, object, item, no_items, member, no_members}
use Rattle.schema_defs.specs.Texts.{Relations}
use Rattle.model_defs.specs.Types.{TypeModel}
use Rattle.model_defs.specs.Model.{ContainerModel, ConversionsD}
use Rattle.model_defs.specs.Settled.{default_at}
use Rattle.typed_defs.specs.Typed.{Typed}
use Rattle.reading_defs.specs.Proper.{has_json_numbers, items_have_json_numbers, members_have_json_numbers}
use Rattle.reading_defs.specs.Reading.{Read, taken, value_reader, default_inside}
use Rattle.writing_laws.specs.Tables.{IsOrdered, ItemsOrdered, MembersOrdered, IsReadBack}
use Rattle.writing_laws.proofs.Taken.{and_left, and_right}
use Rattle.writing_laws.proofs.Back.{ReadsAgain, PartsBack}
use Rattle.writing_laws.proofs.Fields.{reader_is}
use Rattle.writing_laws.proofs.Again.{never_unsound, where_sound, numbers_at, ordered_at, members_rise, all_back, members_back, default_back}
use Rattle.typed_laws.specs.Laws.{WhatIsReadIsTyped}
use Rattle.typed_laws.proofs.Parts.{Is, ValueTyped, AllTyped, MembersTyped, PartsTyped}
use Rattle.typed_laws.proofs.Level.{level_type, level_content}

module _ (models : List ContainerModel) (cs : ConversionsD) (r : Relations) (p : IsReadBack models cs) where
  module _ (q : ℕ → TypeModel → Read Typed) (sound : (n : ℕ) (t : TypeModel) (x : Typed) → q n t ≡ taken x → ReadsAgain models cs r q q t x) (typed_so : (n : ℕ) (t : TypeModel) (x : Typed) → q n t ≡ taken x → Is models cs r q t x) where
    here : (v : Value) → has_json_numbers v ≡ true → PartsBack models cs r q q v → PartsTyped models cs r q v → ValueTyped models cs r q v
    here v n b t = record {
      as_type = λ s x e. level_type models cs r q p sound typed_so v n b t s x (sym (ap (λ z. z.as_type s) (reader_is models cs r q v)) ∙ e);
      as_content = λ c xs l e. level_content models cs r q p sound typed_so v n b t c l xs (sym (ap (λ z. z.as_content c) (reader_is models cs r q v)) ∙ e);
    }

    mutual
      value_typed : (v : Value) → has_json_numbers v ≡ true → IsOrdered v → ValueTyped models cs r q v
      value_typed null n o = here null n tt tt
      value_typed (value.boolean b) n o = here (value.boolean b) n tt tt
      value_typed (number z) n o = here (number z) n tt tt
      value_typed fraction n o = here fraction n tt tt
      value_typed (text s) n o = here (text s) n tt tt
      value_typed (list xs) n o = here (list xs) n (all_back models cs r p q q sound xs n o) (all_typed xs n o)
      value_typed (object ms) n o =
          let back = members_back models cs r p q q sound ms n o in
          here (object ms) n (back, members_rise ms o) (members_typed ms n o, back, members_rise ms o)

      all_typed : (xs : Items) → items_have_json_numbers xs ≡ true → ItemsOrdered xs → AllTyped models cs r q xs
      all_typed no_items n o = tt
      all_typed (item v vs) n o = (value_typed v (and_left (has_json_numbers v) (items_have_json_numbers vs) n) o.0, all_typed vs (and_right (has_json_numbers v) (items_have_json_numbers vs) n) o.1)

      members_typed : (ms : Members) → members_have_json_numbers ms ≡ true → MembersOrdered ms → MembersTyped models cs r q ms
      members_typed no_members n o = tt
      members_typed (member k v ms) n o = (
        here (text k) refl tt tt,
        value_typed v (and_left (has_json_numbers v) (members_have_json_numbers ms) n) o.1,
        members_typed ms (and_right (has_json_numbers v) (members_have_json_numbers ms) n) o.2,
      )

  default_typed : (k : ℕ) (entered : List ℕ) (n : ℕ) (t : TypeModel) (x : Typed) → default_inside models cs r k entered n t ≡ taken x → Is models cs r (default_inside models cs r k entered) t x
  default_typed zero entered n t x e = absurd (never_unsound x e)
  default_typed (suc k) entered n t x e =
      let q = default_inside models cs r k (n ∷ entered) in
      let v = default_at models cs r n in
      let is = value_typed q (default_back models cs r p k (n ∷ entered) q) (default_typed k (n ∷ entered)) v (numbers_at cs.defaults n p.numbers) (ordered_at cs.defaults n p.ordered) in
      is.as_type t x (where_sound (list_any (nat_eq n) entered) ((value_reader models cs r q v).as_type t) x e)

pub what_is_read_is_typed : WhatIsReadIsTyped
what_is_read_is_typed models cs r p t v x n o e =
    let q = default_inside models cs r (length cs.defaults) [] in
    (value_typed models cs r p q (default_back models cs r p (length cs.defaults) [] q) (default_typed models cs r p (length cs.defaults) []) v n o).as_type t x e
