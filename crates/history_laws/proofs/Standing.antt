-- Trees that come one after another stand in the space, where the items that references lead to do.
use Rattle.std.proofs.Common.{◌≡◌, inl, List, [], ◌∷◌, ◌++◌, map, flat_map, Bool, true, None, sym, ap, subst, ◌∙◌, bytes_eq, append-nil}
use Rattle.std.specs.List.{IsDistinct, AllByRecursion}
use Rattle.std.proofs.lemmas.List.{map-append}
use Rattle.entry_defs.specs.Entry.{Target, Entry, item}
use Rattle.entry_defs.specs.Space.{Id, Space}
use Rattle.entry_defs.specs.Table.{ItemEntry, TargetEntry, Table, items_in, items_in_shape}
use Rattle.entry_defs.specs.Sound.{Any, Each, Leads, IsSound}
use Rattle.space_defs.specs.Held.{ItemIsHeld, Stands, HoldsTable}
use Rattle.space_trees.specs.Names.{item_names}
use Rattle.space_trees.specs.Placed.{placed}
use Rattle.space_trees.specs.Formed.{is_formed, IsFormed}
use Rattle.space_trees.specs.Filled.{leads_in, ids_in, placed_targets, placed_each, space_so_far}
use Rattle.space_trees.proofs.Places.{items-names}
use Rattle.space_trees.proofs.Enters.{names_of, Enters, enters-none, enters-both, Keeps, keeps, Fresh, fresh-left, fresh-right}
use Rattle.space_trees.proofs.Standing.{stands}
use Rattle.history_laws.specs.Placing.{led_alone}

abbrev pub inside : List Entry → List ItemEntry
inside es = flat_map items_in es

-- the items that references lead to, and those in them
abbrev pub led_items : Table → List ItemEntry
led_items t = map (λ x. x.led_to) t.targets ++ flat_map (λ x. items_in_shape x.led_to.shape) t.targets

-- ---- trees

module _ (ids : Target → Id) (leads : Target → Id → Bool) (OK : Target → Type 0) (lead : (q : Target) → OK q → leads q (ids q) ≡ true) where
  abbrev AllStand : List Entry → Space → Type 0
  AllStand es s = AllByRecursion (λ e. (i : Id) × Stands leads s e i) es

  each-stands : (es : List Entry) (s : Space) → AllByRecursion (λ e. is_formed e ≡ true) es → AllByRecursion (Each Any OK) es → Fresh s (inside es)
      → Enters s (placed_each ids es s) (inside es) × AllStand es (placed_each ids es s)
  each-stands [] s f o d = (enters-none s, tt)
  each-stands (e ∷ es) s f o d =
      let a = placed ids None e s in
      let u = placed_each ids es a.0 in
      let h = stands ids leads OK lead e s f.0 o.0 (fresh-left s (items_in e) (inside es) d) in
      let g = each-stands es a.0 f.1 o.1 (fresh-right s a.0 (items_in e) (inside es) h.0 d) in
      (enters-both s a.0 u (items_in e) (inside es) h.0 g.0, ((a.1, inl (keeps leads a.0 u (inside es) g.0 e a.1 h.1)), g.1))

items-kept : (leads : Target → Id → Bool) (s u : Space) → Keeps leads s u → (ts : List TargetEntry) → AllByRecursion (λ x. ItemIsHeld leads s x.led_to) ts → AllByRecursion (λ x. ItemIsHeld leads u x.led_to) ts
items-kept leads s u k [] h = tt
items-kept leads s u k (t ∷ ts) h = ((h.0.0, k (item t.led_to.name t.led_to.shape) h.0.0 h.0.1), items-kept leads s u k ts h.1)

-- ---- names

pub names-both : (xs ys : List ItemEntry) → names_of (xs ++ ys) ≡ names_of xs ++ names_of ys
names-both xs ys = map-append (λ (x : ItemEntry). x.name) xs ys

-- items of names that differ come behind those that are there
pub fresh-behind : (s : Space) (xs ys : List ItemEntry) → item_names s ≡ names_of xs → IsDistinct bytes_eq (names_of (xs ++ ys)) → Fresh s ys
fresh-behind s xs ys e d = subst (IsDistinct bytes_eq) (names-both xs ys ∙ ap (λ z. z ++ names_of ys) (sym e)) d

-- ---- a table

pub table-held : (t : Table) → ((q : Target) → Leads t q → leads_in t q (ids_in t q) ≡ true) → IsSound t → IsFormed t → HoldsTable (leads_in t) (placed_targets (ids_in t) t.targets) (led_alone t)
    → HoldsTable (leads_in t) (space_so_far t) t
table-held t lead sound formed first =
    let ids = ids_in t in
    let leads = leads_in t in
    let s = placed_targets ids t.targets in
    let here = led_items t in
    let behind = inside t.trees in
    let names : item_names s ≡ names_of here = sym (items-names 0 s) ∙ first.named ∙ ap names_of (append-nil here) in
    let u = space_so_far t in
    let c = each-stands ids leads (Leads t) lead t.trees s formed.trees sound.trees (fresh-behind s here behind names sound.distinct) in
    let k : Keeps leads s u = keeps leads s u behind c.0 in
    record {
      targets = items-kept leads s u k t.targets first.targets;
      trees = c.1;
      led = λ q j w. let x = first.led q j w in (x.0, x.1, k (item x.0.name x.0.shape) j x.2);
      named = items-names 0 u ∙ c.0.named ∙ ap (λ z. z ++ names_of behind) names ∙ sym (names-both here behind);
      distinct = sound.distinct;
      lower = c.0.lower first.lower;
    }
