-- What comes of values level by level.
use Rattle.std.proofs.Common.{◌≡◌, ℕ, zero, suc, ◌+◌, ◌-◌, length, Some, None, refl, sym, ap, subst, ◌∙◌, arith}
use Rattle.json_value.specs.Value as value
use Rattle.json_value.specs.Value.{Value, null, number, fraction, text, list, object, item}
use Rattle.schema_defs.specs.Texts.{Relations}
use Rattle.entry_defs.specs.Entry as entry
use Rattle.entry_defs.specs.Entry.{Target, Entry, boolean_entry, integer_entry, text_entry, native_entry, any_entry, unit_entry, option_entry, vec_entry, set_entry, map_entry, tuple_entry, array_entry, reference}
use Rattle.entry_defs.specs.Table.{Table, allowed, target_item}
use Rattle.tree_types.specs.declared.tree.Tree.{Tree}
use Rattle.tree_types.specs.declared.tree.TreeTable.{TreeTable}
use Rattle.tree_types.specs.View.{item_in, table_view, tree_view}
use Rattle.default_levels.proofs.Stays.{StaysAs, stays}
use Rattle.default_defs.specs.Found.{Found, refused, ended, endless, both, given}
use Rattle.default_defs.specs.Layer.{shape_read}
use Rattle.default_defs.specs.Supplied.{follows, item_read, parts_of, read_inside, stated_in, stated_in_targets, supplied}
use Rattle.listed_reading.proofs.Fuel.{as_many, enough}
use Rattle.default_reading.specs.Steps.{Setting, setting, missed, comes, comes_in, supplies}
use Rattle.default_reading.proofs.Joined.{both_alone}

-- ---- all references allowed

pub comes_level : (s : Setting) (r : Relations) (e : Entry) (v : Value) → comes s r e v ≡ comes_in s r (allowed s.table) e v
unfolding comes comes_in
comes_level s r e null = refl
comes_level s r e (value.boolean b) = refl
comes_level s r e (number z) = refl
comes_level s r e fraction = refl
comes_level s r e (text n) = refl
comes_level s r e (list xs) = refl
comes_level s r e (object ms) = refl

any_in : (s : Setting) (r : Relations) (n : ℕ) (v : Value) → comes_in s r n any_entry v ≡ ended
unfolding comes_in
any_in s r n v = refl

pub any_level : (s : Setting) (r : Relations) (v : Value) → comes s r any_entry v ≡ ended
any_level s r v = comes_level s r any_entry v ∙ any_in s r (allowed s.table) v

-- as many references as lead to different items are enough
pub comes_known : (x : TreeTable) (k : ℕ) (r : Relations) (e : Entry) (v : Value) (left : ℕ) (b : Found) → left ≡ length x.targets.items
    → ((m : ℕ) → comes_in (setting (table_view x) k) r (left + m) e v ≡ b) → comes (setting (table_view x) k) r e v ≡ b
comes_known x k r e v left b h known =
    let t = table_view x in
    comes_level (setting t k) r e v ∙ sym (ap (λ n. comes_in (setting t k) r n e v) (enough t left (h ∙ sym (as_many x.targets.items)))) ∙ known (allowed t - left)

-- ---- one reference

one_less : (n : ℕ) → n ≡ suc n - 1
one_less n = omega arith

one_more : (n m : ℕ) → suc n + m ≡ suc (n + m)
one_more n m = omega arith

module _ (s : Setting) (r : Relations) (v : Value) where
  -- an item's tree is read as what the item is
  opened : (n : ℕ) (e : Entry) → shape_read (missed s r) r v (parts_of s.table r (missed s r) v) (follows s.table r (missed s r) v (parts_of s.table r (missed s r) v) n) (item_in e).shape ≡ comes_in s r n e v
  unfolding comes_in
  opened n (entry.item i h) = refl
  opened n boolean_entry = both_alone (comes_in s r n boolean_entry v)
  opened n (integer_entry i) = both_alone (comes_in s r n (integer_entry i) v)
  opened n text_entry = both_alone (comes_in s r n text_entry v)
  opened n (native_entry f) = both_alone (comes_in s r n (native_entry f) v)
  opened n any_entry = both_alone (comes_in s r n any_entry v)
  opened n unit_entry = both_alone (comes_in s r n unit_entry v)
  opened n (option_entry e) = both_alone (comes_in s r n (option_entry e) v)
  opened n (vec_entry e) = both_alone (comes_in s r n (vec_entry e) v)
  opened n (set_entry e) = both_alone (comes_in s r n (set_entry e) v)
  opened n (map_entry i e) = both_alone (comes_in s r n (map_entry i e) v)
  opened n (tuple_entry es) = both_alone (comes_in s r n (tuple_entry es) v)
  opened n (array_entry e i) = both_alone (comes_in s r n (array_entry e i) v)
  opened n (reference q) = both_alone (comes_in s r n (reference q) v)

  pub one_followed : (q : Target) (x : Tree) (left : ℕ) (b : Found) → (left ≡ 0 → ⊥) → Some (item_in (tree_view x)) ≡ target_item s.table q
      → ((m : ℕ) → comes_in s r (left - 1 + m) (tree_view x) v ≡ b) → (m : ℕ) → comes_in s r (left + m) (reference q) v ≡ b
  unfolding comes_in
  one_followed q x zero b h e k m = absurd (h refl)
  one_followed q x (suc left) b h e k m =
      ap (λ n. follows s.table r (missed s r) v (parts_of s.table r (missed s r) v) n q) (one_more left m)
      ∙ ap (item_read (shape_read (missed s r) r v (parts_of s.table r (missed s r) v) (follows s.table r (missed s r) v (parts_of s.table r (missed s r) v) (left + m)))) (sym e)
      ∙ opened (left + m) (tree_view x)
      ∙ ap (λ n. comes_in s r (n + m) (tree_view x) v) (one_less left)
      ∙ k m

  pub none_followed : (q : Target) (left : ℕ) → (left ≡ 0 → ⊥) → None ≡ target_item s.table q → (m : ℕ) → comes_in s r (left + m) (reference q) v ≡ refused
  unfolding comes_in
  none_followed q zero h e m = absurd (h refl)
  none_followed q (suc left) h e m =
      ap (λ n. follows s.table r (missed s r) v (parts_of s.table r (missed s r) v) n q) (one_more left m)
      ∙ ap (item_read (shape_read (missed s r) r v (parts_of s.table r (missed s r) v) (follows s.table r (missed s r) v (parts_of s.table r (missed s r) v) (left + m)))) (sym e)

-- ---- defaults inside one another

pub supplied_known : (t : Table) (r : Relations) (e : Entry) (v : Value) (k : ℕ) (b : Found) → k ≡ stated_in_targets t.targets + stated_in e → both ended (comes (setting t k) r e v) ≡ b → b ≡ supplied t r e v
unfolding comes
supplied_known t r e v k b h known = sym known ∙ ap (λ n. read_inside t r (suc n) e v) h

-- what is refused or ends with no default inside does so with as many as there are
module _ (t : Table) (r : Relations) (e : Entry) (v : Value) (b : Found) where
  stays_so : StaysAs (read_inside t r 1 e v) (supplied t r e v)
  stays_so = stays t r 1 (suc (stated_in_targets t.targets + stated_in e)) (omega arith) e v

  pub alone_refused : b ≡ refused → both ended (comes (setting t 0) r e v) ≡ b → refused ≡ supplied t r e v
  unfolding comes
  alone_refused is h = sym (subst (λ z. StaysAs z (supplied t r e v)) (h ∙ is) stays_so)

  pub alone_ended : b ≡ ended → both ended (comes (setting t 0) r e v) ≡ b → ended ≡ supplied t r e v
  unfolding comes
  alone_ended is h = sym (subst (λ z. StaysAs z (supplied t r e v)) (h ∙ is) stays_so)

pub none_inside : (t : Table) (r : Relations) (e : Entry) (v : Value) (k : ℕ) → k ≡ 0 → supplies (setting t k) r e v ≡ endless
unfolding supplies
none_inside t r e v k h = ap (λ n. given (read_inside t r n e v)) h

pub one_inside : (t : Table) (r : Relations) (e : Entry) (v : Value) (k j : ℕ) (b c : Found) → (k ≡ 0 → ⊥) → j ≡ k - 1 → both ended (comes (setting t j) r e v) ≡ b → c ≡ given b → supplies (setting t k) r e v ≡ c
unfolding comes supplies
one_inside t r e v zero j b c h is known g = absurd (h refl)
one_inside t r e v (suc k) j b c h is known g =
    let same : k ≡ j = omega (arith, is) in
    ap (λ n. given (read_inside t r (suc n) e v)) same ∙ ap given known ∙ sym g
