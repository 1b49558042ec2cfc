-- What each form of entry comes to.
use Rattle.std.proofs.Common.{◌≡◌, ℕ, suc, List, [], ◌∷◌, length, Bool, true, false, Option, Some, None, refl, sym, ap, ◌∙◌}
use Rattle.std.specs.Prelude.{◌==◌}
use Rattle.std.proofs.lemmas.Bool.{eq-eqb, ne_eqb}
use Rattle.json_value.specs.Value as value
use Rattle.json_value.specs.Value.{Value, null, number, fraction, text, list, object, Items, no_items, item, Members, no_members, member, item_count}
use Rattle.schema_defs.specs.Texts.{Relations}
use Rattle.model_defs.specs.Model.{RuleD}
use Rattle.model_defs.specs.Layer.{is_null}
use Rattle.entry_defs.specs.Entry as entry
use Rattle.entry_defs.specs.Entry.{Target, the_root, definition, Entry, any_entry, unit_entry, option_entry, vec_entry, set_entry, map_entry, tuple_entry, array_entry, reference, Entries, newtype_shape, entries_of}
use Rattle.entry_defs.specs.Layer.{rule_holds}
use Rattle.default_defs.specs.Found.{Found, refused, ended, is_ended, if_so, told, both, or_next}
use Rattle.default_defs.specs.Layer.{in_places, items_read, members_read}
use Rattle.default_defs.specs.Supplied.{item_readers, member_readers}
use Rattle.default_reading.specs.Steps.{Setting, missed, comes, comes_in, as_list, as_object, items_come, places_come, members_come}
use Rattle.default_reading.proofs.Joined.{stays, goes_on}

module _ (s : Setting) (r : Relations) where
  -- ---- lists of readers

  items_same : (e : Entry) (xs : Items) → items_read e (item_readers s.table r (missed s r) xs) ≡ items_come s r e xs
  unfolding comes
  items_same e no_items = refl
  items_same e (item v vs) = ap (both (comes s r e v)) (items_same e vs)

  places_same : (es : List Entry) (xs : Items) → in_places es (item_readers s.table r (missed s r) xs) ≡ places_come s r es xs
  unfolding comes
  places_same [] no_items = refl
  places_same [] (item v vs) = refl
  places_same (e ∷ es) no_items = refl
  places_same (e ∷ es) (item v vs) = ap (both (comes s r e v)) (places_same es vs)

  members_same : (k e : Entry) (ms : Members) → members_read k e (member_readers s.table r (missed s r) ms) ≡ members_come s r k e ms
  unfolding comes
  members_same k e no_members = refl
  members_same k e (member n v ms) = ap (both (both (comes s r k (text n)) (comes s r e v))) (members_same k e ms)

  counted : (xs : Items) → length (item_readers s.table r (missed s r) xs) ≡ item_count xs
  counted no_items = refl
  counted (item v vs) = ap suc (counted vs)

  -- ---- lists

  pub each_come : (v : Value) (xs : Items) (e : Entry) (b : Found) → Some xs ≡ as_list v → items_come s r e xs ≡ b → (m : ℕ) → comes_in s r m (vec_entry e) v ≡ b
  unfolding comes_in
  each_come null xs e b h k m = absurd (cc)
  each_come (value.boolean c) xs e b h k m = absurd (cc)
  each_come (number z) xs e b h k m = absurd (cc)
  each_come fraction xs e b h k m = absurd (cc)
  each_come (text n) xs e b h k m = absurd (cc)
  each_come (list ys) xs e b h k m = let same : ys ≡ xs = cc in items_same e ys ∙ ap (items_come s r e) same ∙ k
  each_come (object ms) xs e b h k m = absurd (cc)

  pub each_refused : (v : Value) (e : Entry) → None ≡ as_list v → (m : ℕ) → comes_in s r m (vec_entry e) v ≡ refused
  unfolding comes_in
  each_refused null e h m = refl
  each_refused (value.boolean c) e h m = refl
  each_refused (number z) e h m = refl
  each_refused fraction e h m = refl
  each_refused (text n) e h m = refl
  each_refused (list ys) e h m = absurd (cc)
  each_refused (object ms) e h m = refl

  -- a set is read as a list
  pub set_same : (m : ℕ) (e : Entry) (v : Value) → comes_in s r m (set_entry e) v ≡ comes_in s r m (vec_entry e) v
  unfolding comes_in
  set_same m e v = refl

  pub array_come : (v : Value) (xs : Items) (n : ℕ) (e : Entry) (b : Found) → Some xs ≡ as_list v → item_count xs ≡ n → items_come s r e xs ≡ b → (m : ℕ) → comes_in s r m (array_entry e n) v ≡ b
  unfolding comes_in
  array_come null xs n e b h l k m = absurd (cc)
  array_come (value.boolean c) xs n e b h l k m = absurd (cc)
  array_come (number z) xs n e b h l k m = absurd (cc)
  array_come fraction xs n e b h l k m = absurd (cc)
  array_come (text t) xs n e b h l k m = absurd (cc)
  array_come (list ys) xs n e b h l k m =
      let same : ys ≡ xs = cc in
      let long : (length (item_readers s.table r (missed s r) ys) == n) ≡ true = eq-eqb _ n (counted ys ∙ ap item_count same ∙ l) in
      ap (λ c. if_so c (items_read e (item_readers s.table r (missed s r) ys))) long ∙ items_same e ys ∙ ap (items_come s r e) same ∙ k
  array_come (object ms) xs n e b h l k m = absurd (cc)

  pub array_refused : (v : Value) (n : ℕ) (e : Entry) → None ≡ as_list v → (m : ℕ) → comes_in s r m (array_entry e n) v ≡ refused
  unfolding comes_in
  array_refused null n e h m = refl
  array_refused (value.boolean c) n e h m = refl
  array_refused (number z) n e h m = refl
  array_refused fraction n e h m = refl
  array_refused (text t) n e h m = refl
  array_refused (list ys) n e h m = absurd (cc)
  array_refused (object ms) n e h m = refl

  pub array_other : (v : Value) (xs : Items) (n : ℕ) (e : Entry) → Some xs ≡ as_list v → (item_count xs ≡ n → ⊥) → (m : ℕ) → comes_in s r m (array_entry e n) v ≡ refused
  unfolding comes_in
  array_other null xs n e h l m = refl
  array_other (value.boolean c) xs n e h l m = refl
  array_other (number z) xs n e h l m = refl
  array_other fraction xs n e h l m = refl
  array_other (text t) xs n e h l m = refl
  array_other (list ys) xs n e h l m =
      let same : ys ≡ xs = cc in
      let other : (length (item_readers s.table r (missed s r) ys) == n) ≡ false = ne_eqb _ n (λ q. l (sym (ap item_count same) ∙ sym (counted ys) ∙ q)) in
      ap (λ c. if_so c (items_read e (item_readers s.table r (missed s r) ys))) other
  array_other (object ms) xs n e h l m = refl

  -- ---- tuples

  pub places_come_of : (v : Value) (xs : Items) (es : Entries) (b : Found) → Some xs ≡ as_list v → item_count xs ≡ length (entries_of es) → places_come s r (entries_of es) xs ≡ b → (m : ℕ) → comes_in s r m (tuple_entry es) v ≡ b
  unfolding comes_in
  places_come_of null xs es b h l k m = absurd (cc)
  places_come_of (value.boolean c) xs es b h l k m = absurd (cc)
  places_come_of (number z) xs es b h l k m = absurd (cc)
  places_come_of fraction xs es b h l k m = absurd (cc)
  places_come_of (text t) xs es b h l k m = absurd (cc)
  places_come_of (list ys) xs es b h l k m =
      let same : ys ≡ xs = cc in
      let long : (length (item_readers s.table r (missed s r) ys) == length (entries_of es)) ≡ true = eq-eqb _ _ (counted ys ∙ ap item_count same ∙ l) in
      ap (λ c. if_so c (in_places (entries_of es) (item_readers s.table r (missed s r) ys))) long ∙ places_same (entries_of es) ys ∙ ap (places_come s r (entries_of es)) same ∙ k
  places_come_of (object ms) xs es b h l k m = absurd (cc)

  pub places_other : (v : Value) (xs : Items) (es : Entries) → Some xs ≡ as_list v → (item_count xs ≡ length (entries_of es) → ⊥) → (m : ℕ) → comes_in s r m (tuple_entry es) v ≡ refused
  unfolding comes_in
  places_other null xs es h l m = refl
  places_other (value.boolean c) xs es h l m = refl
  places_other (number z) xs es h l m = refl
  places_other fraction xs es h l m = refl
  places_other (text t) xs es h l m = refl
  places_other (list ys) xs es h l m =
      let same : ys ≡ xs = cc in
      let other : (length (item_readers s.table r (missed s r) ys) == length (entries_of es)) ≡ false = ne_eqb _ _ (λ q. l (sym (ap item_count same) ∙ sym (counted ys) ∙ q)) in
      ap (λ c. if_so c (in_places (entries_of es) (item_readers s.table r (missed s r) ys))) other
  places_other (object ms) xs es h l m = refl

  pub places_refused : (v : Value) (es : Entries) → None ≡ as_list v → (m : ℕ) → comes_in s r m (tuple_entry es) v ≡ refused
  unfolding comes_in
  places_refused null es h m = refl
  places_refused (value.boolean c) es h m = refl
  places_refused (number z) es h m = refl
  places_refused fraction es h m = refl
  places_refused (text t) es h m = refl
  places_refused (list ys) es h m = absurd (cc)
  places_refused (object ms) es h m = refl

  -- ---- maps

  pub map_come : (v : Value) (ms : Members) (k e : Entry) (b : Found) → Some ms ≡ as_object v → members_come s r k e ms ≡ b → (m : ℕ) → comes_in s r m (map_entry k e) v ≡ b
  unfolding comes_in
  map_come null ms k e b h q m = absurd (cc)
  map_come (value.boolean c) ms k e b h q m = absurd (cc)
  map_come (number z) ms k e b h q m = absurd (cc)
  map_come fraction ms k e b h q m = absurd (cc)
  map_come (text t) ms k e b h q m = absurd (cc)
  map_come (list ys) ms k e b h q m = absurd (cc)
  map_come (object ns) ms k e b h q m = let same : ns ≡ ms = cc in members_same k e ns ∙ ap (members_come s r k e) same ∙ q

  pub map_refused : (v : Value) (k e : Entry) → None ≡ as_object v → (m : ℕ) → comes_in s r m (map_entry k e) v ≡ refused
  unfolding comes_in
  map_refused null k e h m = refl
  map_refused (value.boolean c) k e h m = refl
  map_refused (number z) k e h m = refl
  map_refused fraction k e h m = refl
  map_refused (text t) k e h m = refl
  map_refused (list ys) k e h m = refl
  map_refused (object ms) k e h m = absurd (cc)

  -- ---- of the same value

  module _ (v : Value) where
    pub any_comes : (m : ℕ) → comes_in s r m any_entry v ≡ ended
    unfolding comes_in
    any_comes m = refl

    pub unit_comes : (b : Bool) (x : Found) → b ≡ is_null v → x ≡ told b → (m : ℕ) → comes_in s r m unit_entry v ≡ x
    unfolding comes_in
    unit_comes b x h k m = ap told (sym h) ∙ sym k

    pub null_comes : true ≡ is_null v → (e : Entry) (m : ℕ) → comes_in s r m (option_entry e) v ≡ ended
    unfolding comes_in
    null_comes h e m = ap (λ b. or_next (told b) (comes_in s r m e v)) (sym h) ∙ first_kept (comes_in s r m e v)
      where
        first_kept : (x : Found) → or_next ended x ≡ ended
        first_kept x = refl

    pub option_passed : false ≡ is_null v → (e : Entry) (m : ℕ) → comes_in s r m (option_entry e) v ≡ comes_in s r m e v
    unfolding comes_in
    option_passed h e m = ap (λ b. or_next (told b) (comes_in s r m e v)) (sym h)

    -- a newtype is read before its rule
    pub rule_unasked : (rule : Option RuleD) (e : Entry) (m : ℕ) (b : Found) → comes_in s r m e v ≡ b → is_ended b ≡ false → (n : List ℕ) → comes_in s r m (entry.item n (newtype_shape e rule)) v ≡ b
    unfolding comes_in
    rule_unasked rule e m b h k n = ap (λ x. both x (told (rule_holds r v rule))) h ∙ stays b (told (rule_holds r v rule)) k

    pub rule_asked : (rule : Option RuleD) (e : Entry) (m : ℕ) (b : Found) (c : Bool) (x : Found) → comes_in s r m e v ≡ b → is_ended b ≡ true → c ≡ rule_holds r v rule → x ≡ told c
        → (n : List ℕ) → comes_in s r m (entry.item n (newtype_shape e rule)) v ≡ x
    unfolding comes_in
    rule_asked rule e m b c x h k l t n = ap (λ y. both y (told (rule_holds r v rule))) h ∙ goes_on b (told (rule_holds r v rule)) k ∙ ap told (sym l) ∙ sym t
