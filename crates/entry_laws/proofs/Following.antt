-- Following references at one value: what is allowed is enough.
use Rattle.std.proofs.Common.{◌≡◌, ℕ, zero, suc, ◌≤◌, ◌+◌, List, [], ◌∷◌, ◌++◌, map, length, Bool, true, false, ◌&&◌, ◌||◌, Option, Some, None, refl, sym, ap, ◌∙◌, true≢false, flat_map, arith}
use Rattle.std.specs.Prelude.{if◌then◌else◌}
use Rattle.std.specs.List.{AllByRecursion}
use Rattle.std.proofs.lemmas.Slice.Eq.{bytes_eq-Decides}
use Rattle.json_value.specs.Value.{Value}
use Rattle.schema_defs.specs.Texts.{Relations}
use Rattle.model_defs.specs.Layer.{Parts, is_null}
use Rattle.model_defs.specs.Model.{external_tag, internal_tag, adjacent_tag, untagged}
use Rattle.entry_defs.specs.Entry.{Target, the_root, definition, Entry, boolean_entry, integer_entry, text_entry, native_entry, any_entry, unit_entry, option_entry, vec_entry, set_entry, map_entry, tuple_entry, array_entry, reference, item, Shape, struct_shape, enum_shape, newtype_shape, Variants, no_variants, variant_then, Contents, unit_contents, newtype_contents, tuple_contents, struct_contents}
use Rattle.entry_defs.specs.Layer.{Judge, entry_takes, shape_takes, some_takes, same_takes, rule_holds}
use Rattle.entry_defs.specs.Table.{ItemEntry, TargetEntry, Table, same_target, found, target_item, items_in, items_in_shape, items_of, allowed}
use Rattle.entry_defs.specs.Takes.{item_takes, follows}
use Rattle.entry_laws.specs.Laws.{AllowedAreEnough}
use Rattle.entry_laws.proofs.Rests.{settled}

-- ---- what holds of more references is taken of more entries

pub or-more : (a b c d : Bool) → (a ≡ true → b ≡ true) → (c ≡ true → d ≡ true) → (a || c) ≡ true → (b || d) ≡ true
or-more true b c d f g h = ap (λ z. z || d) (f refl)
or-more false true c d f g h = refl
or-more false false c d f g h = g h

pub and-more : (a b c : Bool) → (a ≡ true → b ≡ true) → (a && c) ≡ true → (b && c) ≡ true
and-more true b c f h = ap (λ z. z && c) (f refl) ∙ h
and-more false b c f h = absurd (true≢false (sym h))

module _ (r : Relations) (v : Value) (ps : Parts Judge) (f g : Target → Bool) (more : (q : Target) → f q ≡ true → g q ≡ true) where
  mutual
    entry-more : (e : Entry) → entry_takes r v ps f e ≡ true → entry_takes r v ps g e ≡ true
    entry-more boolean_entry h = h
    entry-more (integer_entry i) h = h
    entry-more text_entry h = h
    entry-more (native_entry k) h = h
    entry-more any_entry h = h
    entry-more unit_entry h = h
    entry-more (option_entry e) h = or-more (is_null v) (is_null v) (entry_takes r v ps f e) (entry_takes r v ps g e) (λ k. k) (entry-more e) h
    entry-more (vec_entry e) h = h
    entry-more (set_entry e) h = h
    entry-more (map_entry k e) h = h
    entry-more (tuple_entry es) h = h
    entry-more (array_entry e n) h = h
    entry-more (reference q) h = more q h
    entry-more (item n s) h = shape-more s h

    shape-more : (s : Shape) → shape_takes r v ps f s ≡ true → shape_takes r v ps g s ≡ true
    shape-more (struct_shape closed fs) h = h
    shape-more (enum_shape closed external_tag ws) h = h
    shape-more (enum_shape closed (internal_tag tag) ws) h = h
    shape-more (enum_shape closed (adjacent_tag tag content) ws) h = h
    shape-more (enum_shape closed untagged ws) h = some-more closed ws h
    shape-more (newtype_shape e rule) h = and-more (entry_takes r v ps f e) (entry_takes r v ps g e) (rule_holds r v rule) (entry-more e) h

    some-more : (closed : Bool) (ws : Variants) → some_takes r v ps f closed ws ≡ true → some_takes r v ps g closed ws ≡ true
    some-more closed no_variants h = h
    some-more closed (variant_then i n c ws) h =
        or-more (same_takes r v ps f closed c) (same_takes r v ps g closed c) (some_takes r v ps f closed ws) (some_takes r v ps g closed ws) (same-more closed c) (some-more closed ws) h

    same-more : (closed : Bool) (c : Contents) → same_takes r v ps f closed c ≡ true → same_takes r v ps g closed c ≡ true
    same-more closed unit_contents h = h
    same-more closed (newtype_contents e) h = entry-more e h
    same-more closed (tuple_contents es) h = h
    same-more closed (struct_contents fs) h = h

  item-more : (o : Option ItemEntry) → item_takes (shape_takes r v ps f) o ≡ true → item_takes (shape_takes r v ps g) o ≡ true
  item-more None h = h
  item-more (Some i) h = shape-more i.shape h

-- ---- targets

same-targets : (p q : Target) → same_target p q ≡ true → p ≡ q
same-targets the_root the_root h = refl
same-targets the_root (definition k) h = absurd (true≢false (sym h))
same-targets (definition k) the_root h = absurd (true≢false (sym h))
same-targets (definition k) (definition l) h = ap definition ((bytes_eq-Decides k l).0 h)

abbrev targets_of : List TargetEntry → List Target
targets_of ts = map (λ t. t.target) ts

-- two tests are the same where they are so at the targets, and at what leads nowhere
same-all : (f g : Target → Bool) (ts : List TargetEntry) (q : Target) → AllByRecursion (λ p. f p ≡ g p) (targets_of ts) → (found q ts ≡ None → f q ≡ g q) → f q ≡ g q
same-all f g [] q h n = n refl
same-all f g (t ∷ ts) q h n = by (same_target q t.target) refl (same-all f g ts q h.1)
  where
    by : (b : Bool) → same_target q t.target ≡ b → ((found q ts ≡ None → f q ≡ g q) → f q ≡ g q) → f q ≡ g q
    by true e rec = let p = same-targets q t.target e in ap f p ∙ h.0 ∙ ap g (sym p)
    by false e rec = rec (λ k. n (ap (λ b. if b then Some t.led_to else found q ts) e ∙ k))

-- ---- rounds

fewer : (xs ys : List ItemEntry) → length xs ≤ length (xs ++ ys)
fewer [] ys = let e : 0 ≤ length ys = omega arith in e
fewer (x ∷ xs) ys = let h = fewer xs ys in let e : suc (length xs) ≤ suc (length (xs ++ ys)) = omega (arith, h) in e

led-count : (ts : List TargetEntry) → length (map (λ t. t.led_to) ts) ≡ length (targets_of ts)
led-count [] = refl
led-count (t ∷ ts) = ap suc (led-count ts)

module _ (t : Table) (r : Relations) (v : Value) (ps : Parts Judge) where
  abbrev F : ℕ → Target → Bool
  F k q = follows t r v ps k q

  more-followed : (k : ℕ) (q : Target) → F k q ≡ true → F (suc k) q ≡ true
  more-followed zero q h = absurd (true≢false (sym h))
  more-followed (suc k) q h = item-more r v ps (F k) (F (suc k)) (more-followed k) (target_item t q) h

  nowhere : (k : ℕ) (q : Target) → target_item t q ≡ None → F k q ≡ false
  nowhere zero q h = refl
  nowhere (suc k) q h = ap (item_takes (shape_takes r v ps (F k))) h

  again : (k : ℕ) → AllByRecursion (λ q. F k q ≡ F (suc k) q) (targets_of t.targets) → (q : Target) → F (suc k) q ≡ F (suc (suc k)) q
  again k h q =
      let all : (p : Target) → F k p ≡ F (suc k) p = λ p. same-all (F k) (F (suc k)) t.targets p h (λ n. nowhere k p n ∙ sym (nowhere (suc k) p n)) in
      λ i. item_takes (shape_takes r v ps (λ p. all p i)) (target_item t q)

  enough : length (targets_of t.targets) ≤ length (items_of t)
  enough =
      let a = led-count t.targets in
      let first = map (λ (e : TargetEntry). e.led_to) t.targets in
      let second = flat_map (λ (e : TargetEntry). items_in_shape e.led_to.shape) t.targets in
      let b = fewer first second in
      let c : length (first ++ second) ≤ length (items_of t) = fewer (first ++ second) (flat_map items_in t.trees) in
      omega (arith, a, b, c)

  at-rest : (k : ℕ) → allowed t ≤ k → (q : Target) → F k q ≡ F (suc k) q
  at-rest zero l q = absurd (omega arith)
  at-rest (suc k) l q = settled F (targets_of t.targets) more-followed again k (let m = enough in omega (arith, l, m)) q

  -- an item takes what it takes by all that is followed
  pub followed : (q : Target) → F (allowed t) q ≡ item_takes (shape_takes r v ps (F (allowed t))) (target_item t q)
  followed q = at-rest (allowed t) (omega arith) q

  none-more : (k : ℕ) (q : Target) → F (k + allowed t) q ≡ F (allowed t) q
  none-more zero q = let e : 0 + allowed t ≡ allowed t = omega arith in ap (λ n. F n q) e
  none-more (suc k) q =
      let e : suc k + allowed t ≡ suc (k + allowed t) = omega arith in
      ap (λ n. F n q) e ∙ sym (at-rest (k + allowed t) (omega arith) q) ∙ none-more k q

pub allowed_are_enough : AllowedAreEnough
allowed_are_enough t r v ps k e = λ i. entry_takes r v ps (λ q. none-more t r v ps k q i) e
