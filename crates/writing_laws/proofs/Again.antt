-- All values: what is written of what was read is read again, by the parts of the value and the stated defaults that are missed.
use Rattle.std.proofs.Common.{◌≡◌, ℕ, zero, suc, List, [], ◌∷◌, length, slice_get, Bool, true, false, cond, refl, sym, ap, ◌∙◌, nat_eq}
use Rattle.std.specs.List.{list_all, list_any}
use Rattle.json_value.specs.Value as value
use Rattle.json_value.specs.Value.{Value, Items, Members, null, number, fraction, text, list, object, item, no_items, member, no_members}
use Rattle.schema_defs.specs.Texts.{Relations}
use Rattle.model_defs.specs.Types.{TypeModel}
use Rattle.model_defs.specs.Model.{ContainerModel, ConversionsD}
use Rattle.model_defs.specs.Settled.{default_at, or_null}
use Rattle.model_defs.specs.Flat.{MembersRise}
use Rattle.typed_defs.specs.Typed.{Typed}
use Rattle.typed_defs.specs.Written.{written}
use Rattle.reading_defs.specs.Proper.{has_json_numbers, items_have_json_numbers, members_have_json_numbers}
use Rattle.reading_defs.specs.Reading.{Read, taken, unsound, value_reader, default_inside}
use Rattle.writing_laws.specs.Tables.{IsOrdered, ItemsOrdered, MembersOrdered, AllOrdered, IsReadBack}
use Rattle.writing_laws.specs.Laws.{WrittenIsReadBack}
use Rattle.writing_laws.proofs.Taken.{and_left, and_right}
use Rattle.writing_laws.proofs.Back.{ReadsAgain, ValueBack, AllBack, MembersBack, PartsBack, content_written}
use Rattle.writing_laws.proofs.Fields.{reader_is}
use Rattle.writing_laws.proofs.Level.{level_type, level_content}

pub never_unsound : (x : Typed) → unsound ≡ taken x → ⊥
never_unsound x e = cc

pub where_sound : (b : Bool) (r : Read Typed) (x : Typed) → cond b unsound r ≡ taken x → r ≡ taken x
where_sound true r x e = absurd (never_unsound x e)
where_sound false r x e = e

pub numbers_at : (ds : List Value) (n : ℕ) → list_all has_json_numbers ds ≡ true → has_json_numbers (or_null (slice_get ds n)) ≡ true
numbers_at [] n h = refl
numbers_at (v ∷ ds) zero h = and_left (has_json_numbers v) (list_all has_json_numbers ds) h
numbers_at (v ∷ ds) (suc n) h = numbers_at ds n (and_right (has_json_numbers v) (list_all has_json_numbers ds) h)

pub ordered_at : (ds : List Value) (n : ℕ) → AllOrdered ds → IsOrdered (or_null (slice_get ds n))
ordered_at [] n h = tt
ordered_at (v ∷ ds) zero h = h.0
ordered_at (v ∷ ds) (suc n) h = ordered_at ds n h.1

pub members_rise : (ms : Members) → MembersOrdered ms → MembersRise ms
members_rise no_members h = tt
members_rise (member k v ms) h = (h.0, members_rise ms h.2)

module _ (models : List ContainerModel) (cs : ConversionsD) (r : Relations) (p : IsReadBack models cs) where
  module _ (q q' : ℕ → TypeModel → Read Typed) (sound : (n : ℕ) (t : TypeModel) (x : Typed) → q n t ≡ taken x → ReadsAgain models cs r q q' t x) where
    here : (v : Value) → has_json_numbers v ≡ true → PartsBack models cs r q q' v → ValueBack models cs r q q' v
    here v n b = record {
      as_type = λ t x e.
          let back = level_type models cs r q q' p sound v n b t x (sym (ap (λ z. z.as_type t) (reader_is models cs r q v)) ∙ e) in
          record { again = ap (λ z. z.as_type t) (reader_is models cs r q' (written models t x)) ∙ back.0; alike = back.1 };
      as_content = λ c xs l e.
          ap (λ z. z.as_content c) (reader_is models cs r q' (content_written models cs r q q' c xs))
          ∙ level_content models cs r q q' p sound v n b c l xs (sym (ap (λ z. z.as_content c) (reader_is models cs r q v)) ∙ e);
    }

    mutual
      value_back : (v : Value) → has_json_numbers v ≡ true → IsOrdered v → ValueBack models cs r q q' v
      value_back null n o = here null n tt
      value_back (value.boolean b) n o = here (value.boolean b) n tt
      value_back (number z) n o = here (number z) n tt
      value_back fraction n o = here fraction n tt
      value_back (text s) n o = here (text s) n tt
      value_back (list xs) n o = here (list xs) n (all_back xs n o)
      value_back (object ms) n o = here (object ms) n (members_back ms n o, members_rise ms o)

      pub all_back : (xs : Items) → items_have_json_numbers xs ≡ true → ItemsOrdered xs → AllBack models cs r q q' xs
      all_back no_items n o = tt
      all_back (item v vs) n o = (value_back v (and_left (has_json_numbers v) (items_have_json_numbers vs) n) o.0, all_back vs (and_right (has_json_numbers v) (items_have_json_numbers vs) n) o.1)

      pub members_back : (ms : Members) → members_have_json_numbers ms ≡ true → MembersOrdered ms → MembersBack models cs r q q' ms
      members_back no_members n o = tt
      members_back (member k v ms) n o = (
        here (text k) refl tt,
        value_back v (and_left (has_json_numbers v) (members_have_json_numbers ms) n) o.1,
        members_back ms (and_right (has_json_numbers v) (members_have_json_numbers ms) n) o.2,
      )

  -- stated defaults are read again, whatever others are read as then
  pub default_back : (k : ℕ) (entered : List ℕ) (q' : ℕ → TypeModel → Read Typed) (n : ℕ) (t : TypeModel) (x : Typed) → default_inside models cs r k entered n t ≡ taken x
      → ReadsAgain models cs r (default_inside models cs r k entered) q' t x
  default_back zero entered q' n t x e = absurd (never_unsound x e)
  default_back (suc k) entered q' n t x e =
      let q = default_inside models cs r k (n ∷ entered) in
      let v = default_at models cs r n in
      let back = value_back q q' (default_back k (n ∷ entered) q') v (numbers_at cs.defaults n p.numbers) (ordered_at cs.defaults n p.ordered) in
      (back.as_type t x (where_sound (list_any (nat_eq n) entered) ((value_reader models cs r q v).as_type t) x e)).again

pub written_is_read_back : WrittenIsReadBack
written_is_read_back models cs r p t v x n o e =
    let q = default_inside models cs r (length cs.defaults) [] in
    let back = value_back models cs r p q q (default_back models cs r p (length cs.defaults) [] q) v n o in
    (back.as_type t x e).again
