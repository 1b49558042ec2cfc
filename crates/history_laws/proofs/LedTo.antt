-- Where a location has an item that references lead to: the schema there, and the item that it is converted to.
use Rattle.std.proofs.Common.{◌≡◌, ℕ, List, [], ◌∷◌, ◌++◌, map, Bool, true, false, Option, Some, None, refl, sym, ap, subst, ◌∙◌, bytes_eq}
use Rattle.std.specs.Prelude.{if◌then◌else◌}
use Rattle.std.proofs.lemmas.Slice.Eq.{bytes_eq-Decides}
use Rattle.schema_defs.specs.Location.{Location}
use Rattle.schema_defs.specs.Texts.{Relations}
use Rattle.schema_defs.specs.Schema.{Schema, Definition, Document}
use Rattle.schema_defs.specs.Admits.{defined, definition_word}
use Rattle.schema_defs.specs.Children.{schema_at}
use Rattle.schema_defs.proofs.Guarded.{defined_named, definition_stands}
use Rattle.entry_defs.specs.Entry.{Target, the_root, definition}
use Rattle.entry_defs.specs.Table.{ItemEntry, Table, found}
use Rattle.convert_defs.specs.Convert.{as_item, root_name}
use Rattle.convert_defs.specs.RootReference.{refers_to_root}
use Rattle.convert_defs.proofs.Bare.{none-some, some-same}
use Rattle.convert_walks.specs.Spot.{Spot}
use Rattle.convert_walks.specs.Tree.{entry_at, definition_spot, root_spot, definition_target, root_targets, table_of}
use Rattle.conversion_laws.proofs.Targets.{root-last, root-led}
use Rattle.history_laws.specs.Added.{definition_at, target_at}

-- the definition of that name, under its own keyword
abbrev IsDefined : List ℕ → List ℕ → Option Definition → Target → Type 0
IsDefined word m o q = (e : Definition) × (o ≡ Some e) × (word ≡ definition_word e.under_defs) × (definition m ≡ q)

is-defined : (word m : List ℕ) (o : Option Definition) (q : Target) → definition_at word m o ≡ Some q → IsDefined word m o q
is-defined word m None q h = none-some q h
is-defined word m (Some e) q h = by (bytes_eq word (definition_word e.under_defs)) refl h
  where
    by : (b : Bool) → bytes_eq word (definition_word e.under_defs) ≡ b → (if b then Some (definition m) else None) ≡ Some q → IsDefined word m (Some e) q
    by true k h = (e, refl, (bytes_eq-Decides word (definition_word e.under_defs)).0 k, some-same (definition m) q h)
    by false k h = none-some q h

module _ (r : Relations) (d : Document) (depth n : ℕ) where
  abbrev targets : Table
  targets = table_of r d depth n

  abbrev item-of : Definition → Option ItemEntry
  item-of e = Some (as_item e.name (entry_at r d depth n (definition_spot r d depth n e) e.body))

  abbrev found-among : List ℕ → List Definition → Option ItemEntry
  found-among m ds = found (definition m) (map (definition_target r d depth n) ds ++ root_targets r d depth n (refers_to_root d))

  definition-found : (m : List ℕ) (ds : List Definition) (e : Definition) → defined m ds ≡ Some e → found-among m ds ≡ item-of e
  definition-found m [] e h = none-some e h
  definition-found m (x ∷ ds) e h = by (bytes_eq m x.name) h (definition-found m ds e)
    where
      by : (b : Bool) → (if b then Some x else defined m ds) ≡ Some e → (defined m ds ≡ Some e → found-among m ds ≡ item-of e) → (if b then item-of x else found-among m ds) ≡ item-of e
      by true h f = ap item-of (some-same x e h)
      by false h f = f h

  -- `P` is a fact of each definition, and of the root where some reference leads there, on their spots
  module _ (P : Spot → Schema → Type 0) (root : refers_to_root d ≡ true → P (root_spot r d depth n) d.root) (definitions : (e : Definition) → defined e.name d.definitions ≡ Some e → P (definition_spot r d depth n e) e.body) where
    abbrev pub IsLed : Location → Target → Type 0
    IsLed at q = (s : Schema) × (schema_at d at ≡ Some s) × (name : List ℕ) × (o : Spot) × (found q targets.targets ≡ Some (as_item name (entry_at r d depth n o s))) × P o s

    root-at : (b : Bool) → refers_to_root d ≡ b → (q : Target) → (if b then Some the_root else None) ≡ Some q → IsLed [] q
    root-at true e q h = (
      d.root,
      refl,
      root_name d.root,
      root_spot r d depth n,
      ap (λ z. found z targets.targets) (sym (some-same the_root q h)) ∙ root-last r d depth n d.definitions (root_targets r d depth n (refers_to_root d)) ∙ root-led r d depth n (refers_to_root d) e,
      root e,
    )
    root-at false e q h = none-some q h

    pub led-at : (at : Location) (q : Target) → target_at d at ≡ Some q → IsLed at q
    led-at [] q h = root-at (refers_to_root d) refl q h
    led-at (word ∷ []) q h = none-some q h
    led-at (word ∷ m ∷ []) q h =
        let x = is-defined word m (defined m d.definitions) q h in
        let e = x.0 in
        let named : m ≡ e.name = (defined_named m d.definitions e x.1).0 in
        let own : defined e.name d.definitions ≡ Some e = subst (λ k. defined k d.definitions ≡ Some e) named x.1 in (
          e.body,
          (λ i. schema_at d (x.2 i ∷ named i ∷ [])) ∙ definition_stands d e own,
          e.name,
          definition_spot r d depth n e,
          ap (λ z. found z targets.targets) (sym x.3) ∙ definition-found m d.definitions e x.1,
          definitions e own,
        )
    led-at (word ∷ m ∷ k ∷ ks) q h = none-some q h
