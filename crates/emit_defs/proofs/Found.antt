-- Where the names of items differ, each item's container and rule are found by its name.
use Rattle.std.proofs.Common.{◌≡◌, ℕ, ◌+◌, List, [], ◌∷◌, ◌++◌, map, length, true, false, cond, refl, sym, ap, ◌∙◌, subst, true≢false, Some, None, inl, inr, bytes_eq}
use Rattle.std.specs.List.{IsDistinct, AllByRecursion, flat_map}
use Rattle.std.proofs.lemmas.Slice.Eq.{bytes_eq-Decides}
use Rattle.model_defs.specs.Model.{ContainerModel, ConversionsD, RuleD, container_named, rule_of}
use Rattle.model_defs.proofs.Rising.{bytes_itself}
use Rattle.entry_defs.specs.Entry.{Target, Entry, item, Shape, struct_shape, enum_shape, newtype_shape}
use Rattle.entry_defs.specs.Table.{ItemEntry, TargetEntry, Table, found, same_target, target_item, items_in, items_in_shape, items_of, Among}
use Rattle.emit_defs.specs.Setting.{Setting, setting_of}
use Rattle.emit_defs.specs.Models.{model_of_item, models_of_items, shape_defaults, shape_rules, conversions_of_items}
use Rattle.emit_defs.specs.Emission.{models_of}
use Rattle.entry_defs.specs.Sound.{Any, Each, EachInShape, Leads, IsSound}
use Rattle.entry_defs.proofs.Each.{among_left, among_right, each_entry, each_in_shape}
use Rattle.emit_defs.specs.Law.{IsOf, OfTable}

-- the rule of an item stands in the table of conversions
abbrev pub HasRule : ConversionsD → List ℕ → Shape → Type 0
HasRule cs n (newtype_shape e (Some r)) = rule_of n cs.constraints ≡ Some r
HasRule cs n (newtype_shape e None) = Unit {0}
HasRule cs n (struct_shape closed fs) = Unit {0}
HasRule cs n (enum_shape closed tag ws) = Unit {0}

-- the item of that name is found, and so is its rule
pub record IsPlaced (s : Setting) (models : List ContainerModel) (cs : ConversionsD) (n : List ℕ) (h : Shape) : Type 0 where
  pub at : ℕ
  pub found : container_named n models ≡ Some (model_of_item s at (record { name = n; shape = h }))
  pub rule : HasRule cs n h

-- ---- look-ups by names that differ

other_way : (m n : List ℕ) → bytes_eq m n ≡ false → bytes_eq n m ≡ false
other_way m n h = elim (bytes_eq n m) as (λ b. bytes_eq n m ≡ b → b ≡ false) [
  | true ↦ λ e. absurd (true≢false (sym ((bytes_eq-Decides m n).1 (sym ((bytes_eq-Decides n m).0 e))) ∙ h))
  | false ↦ λ e. refl
] refl

-- an item among those whose names differ from one has another name
apart : (n : List ℕ) (i : ItemEntry) (xs : List ItemEntry) → AllByRecursion (λ y. bytes_eq n y ≡ false) (map (λ x. x.name) xs) → Among i xs → bytes_eq i.name n ≡ false
apart n i [] d a = absurd a
apart n i (x ∷ xs) d (inl e) = subst (λ z. bytes_eq z.name n ≡ false) e (other_way n x.name d.0)
apart n i (x ∷ xs) d (inr a) = apart n i xs d.1 a

abbrev Found : Setting → ℕ → List ItemEntry → ItemEntry → Type 0
Found s n is i = (m : ℕ) × (container_named i.name (models_of_items s n is) ≡ Some (model_of_item s m i))

container_found : (s : Setting) (is : List ItemEntry) (n : ℕ) → IsDistinct bytes_eq (map (λ x. x.name) is) → (i : ItemEntry) → Among i is → Found s n is i
unfolding IsDistinct
container_found s [] n d i a = absurd a
container_found s (x ∷ xs) n d i (inl e) = (
  n,
  ap (λ z. cond (bytes_eq i.name z.name) (Some (model_of_item s n z)) (container_named i.name (models_of_items s (n + length (shape_defaults x.shape)) xs))) e
      ∙ ap (λ b. cond b (Some (model_of_item s n i)) (container_named i.name (models_of_items s (n + length (shape_defaults x.shape)) xs))) (bytes_itself i.name),
)
container_found s (x ∷ xs) n d i (inr a) =
    let rec = container_found s xs (n + length (shape_defaults x.shape)) d.1 i a in
    (rec.0, ap (λ b. cond b (Some (model_of_item s n x)) (container_named i.name (models_of_items s (n + length (shape_defaults x.shape)) xs))) (apart x.name i xs d.0 a) ∙ rec.1)

abbrev rules_of : List ItemEntry → ConversionsD
rules_of is = conversions_of_items is

-- the first item's rule isn't that of another name
past_first : (n : List ℕ) (x : ItemEntry) (xs : List ItemEntry) → bytes_eq n x.name ≡ false → rule_of n (rules_of (x ∷ xs)).constraints ≡ rule_of n (rules_of xs).constraints
past_first n x xs h = go (shape_rules x.shape)
  where
    go : (rs : List RuleD) → rule_of n (map (λ r. record { item = x.name; rule = r }) rs ++ (rules_of xs).constraints) ≡ rule_of n (rules_of xs).constraints
    go [] = refl
    go (r ∷ rs) = ap (λ b. cond b (Some r) (rule_of n (map (λ r. record { item = x.name; rule = r }) rs ++ (rules_of xs).constraints))) h ∙ go rs

at_first : (n : List ℕ) (c : Shape) (xs : List ItemEntry) → HasRule (rules_of (record { name = n; shape = c } ∷ xs)) n c
at_first n (newtype_shape e (Some r)) xs = ap (λ b. cond b (Some r) (rule_of n (rules_of xs).constraints)) (bytes_itself n)
at_first n (newtype_shape e None) xs = tt
at_first n (struct_shape closed fs) xs = tt
at_first n (enum_shape closed tag ws) xs = tt

later : (n : List ℕ) (c : Shape) (x : ItemEntry) (xs : List ItemEntry) → bytes_eq n x.name ≡ false → HasRule (rules_of xs) n c → HasRule (rules_of (x ∷ xs)) n c
later n (newtype_shape e (Some r)) x xs d h = past_first n x xs d ∙ h
later n (newtype_shape e None) x xs d h = tt
later n (struct_shape closed fs) x xs d h = tt
later n (enum_shape closed tag ws) x xs d h = tt

rule_found : (is : List ItemEntry) → IsDistinct bytes_eq (map (λ x. x.name) is) → (i : ItemEntry) → Among i is → HasRule (rules_of is) i.name i.shape
unfolding IsDistinct
rule_found [] d i a = absurd a
rule_found (x ∷ xs) d i (inl e) = subst (λ z. HasRule (rules_of (x ∷ xs)) z.name z.shape) e (at_first x.name x.shape xs)
rule_found (x ∷ xs) d i (inr a) = later i.name i.shape x xs (apart x.name i xs d.0 a) (rule_found xs d.1 i a)

-- ---- of a table

module _ (t : Table) (h : IsSound t) where
  abbrev pub Placed : List ℕ → Shape → Type 0
  Placed n c = IsPlaced (setting_of t) (models_of t) (conversions_of_items (items_of t)) n c

  all_placed : (i : ItemEntry) → Among i (items_of t) → Placed i.name i.shape
  all_placed i a =
      let f = container_found (setting_of t) (items_of t) 0 h.distinct i a in
      record { at = f.0; found = f.1; rule = rule_found (items_of t) h.distinct i a }

  abbrev led : List ItemEntry
  led = map (λ e. e.led_to) t.targets

  abbrev inner : List TargetEntry → List ItemEntry
  inner ts = flat_map (λ e. items_in_shape e.led_to.shape) ts

  abbrev inner_trees : List ItemEntry
  inner_trees = flat_map items_in t.trees

  pub whole : (e : Entry) → IsOf t e → Each Placed (Leads t) e
  whole e o = each_entry Placed (Leads t) e (λ i a. all_placed i (o.inside i a)) o.leads

  among_targets : (i : ItemEntry) → Among i (inner t.targets) → Among i (items_of t)
  among_targets i a = among_left i (led ++ inner t.targets) inner_trees (among_right i led (inner t.targets) a)

  among_led : (i : ItemEntry) → Among i led → Among i (items_of t)
  among_led i a = among_left i (led ++ inner t.targets) inner_trees (among_left i led (inner t.targets) a)

  among_trees : (i : ItemEntry) → Among i inner_trees → Among i (items_of t)
  among_trees i a = among_right i (led ++ inner t.targets) inner_trees a

  trees_of : (es : List Entry) → AllByRecursion (Each Any (Leads t)) es → ((i : ItemEntry) → Among i (flat_map items_in es) → Among i (items_of t)) → AllByRecursion (IsOf t) es
  trees_of [] x f = tt
  trees_of (e ∷ es) x f =
      (record { leads = x.0; inside = λ i a. f i (among_left i (items_in e) (flat_map items_in es) a) }, trees_of es x.1 (λ i a. f i (among_right i (items_in e) (flat_map items_in es) a)))

  targets_of : (ts : List TargetEntry) → AllByRecursion (λ e. EachInShape Any (Leads t) e.led_to.shape) ts
      → ((i : ItemEntry) → Among i (map (λ e. e.led_to) ts) → Among i (items_of t)) → ((i : ItemEntry) → Among i (inner ts) → Among i (items_of t))
      → AllByRecursion (λ x. IsOf t (item x.led_to.name x.led_to.shape)) ts
  targets_of [] x f g = tt
  targets_of (y ∷ ys) x f g = (
    record {
      leads = (tt, x.0);
      inside = λ i a. elim a [ inl e ↦ f i (inl e) | inr b ↦ g i (among_left i (items_in_shape y.led_to.shape) (inner ys) b) ];
    },
    targets_of ys x.1 (λ i a. f i (inr a)) (λ i a. g i (among_right i (items_in_shape y.led_to.shape) (inner ys) a)),
  )

  pub of_table : OfTable t
  of_table = record { trees = trees_of t.trees h.trees among_trees; targets = targets_of t.targets h.targets among_led among_targets }

  -- what is known of a target's item: it is among the items, and so are those inside it
  record IsLed (ts : List TargetEntry) (i : ItemEntry) : Type 0 where
    itself : Among i (map (λ e. e.led_to) ts)
    inside : (j : ItemEntry) → Among j (items_in_shape i.shape) → Among j (inner ts)
    each : EachInShape Any (Leads t) i.shape

  the_first : (x : TargetEntry) (xs : List TargetEntry) → EachInShape Any (Leads t) x.led_to.shape → IsLed (x ∷ xs) x.led_to
  the_first x xs e = record { itself = inl refl; inside = λ j a. among_left j (items_in_shape x.led_to.shape) (inner xs) a; each = e }

  a_later : (x : TargetEntry) (xs : List TargetEntry) (i : ItemEntry) → IsLed xs i → IsLed (x ∷ xs) i
  a_later x xs i e = record { itself = inr e.itself; inside = λ j a. among_right j (items_in_shape x.led_to.shape) (inner xs) (e.inside j a); each = e.each }

  no_item : (i : ItemEntry) → None ≡ Some i → ⊥
  no_item i e = cc

  the_same : (a b : ItemEntry) → Some a ≡ Some b → a ≡ b
  the_same a b e = ap (λ o. elim o [ None ↦ a | Some x ↦ x ]) e

  led_found : (q : Target) (ts : List TargetEntry) → AllByRecursion (λ e. EachInShape Any (Leads t) e.led_to.shape) ts → (i : ItemEntry) → found q ts ≡ Some i → IsLed ts i
  led_found q [] x i e = absurd (no_item i e)
  led_found q (y ∷ ys) x i e =
      let rec = led_found q ys x.1 i in
      elim (same_target q y.target) as (λ b. cond b (Some y.led_to) (found q ys) ≡ Some i → IsLed (y ∷ ys) i) [
        | true ↦ λ k. subst (IsLed (y ∷ ys)) (the_same y.led_to i k) (the_first y ys x.0)
        | false ↦ λ k. a_later y ys i (rec k)
      ] e

  pub target_whole : (q : Target) (i : ItemEntry) → target_item t q ≡ Some i → Each Placed (Leads t) (item i.name i.shape)
  target_whole q i e =
      let f = led_found q t.targets h.targets i e in
      (all_placed i (among_led i f.itself), each_in_shape Placed (Leads t) i.shape (λ j a. all_placed j (among_targets j (f.inside j a))) f.each)
