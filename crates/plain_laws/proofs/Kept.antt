-- More levels leave plain what is plain, and so do fewer, where no more schemas stand in one another.
use Rattle.std.proofs.Common.{◌≡◌, ℕ, zero, suc, ◌≤◌, List, [], ◌∷◌, Bool, true, false, ◌&&◌, ◌||◌, refl, ◌⊎◌, inl, inr, arith, nat_le}
use Rattle.std.specs.List.{list_all}
use Rattle.std.proofs.lemmas.Bool.{le-leb, leb-true}
use Rattle.schema_defs.specs.Schema.{Schema, boolean, object, Same, no_same, same_value, Lists, no_lists, lists, Named, no_named, named, MaybeSchema, no_schema, the_schema, MaybeSchemas, no_list, the_list, Schemas, no_more, schema, Places, no_items, each_item, by_place, Properties, no_properties, property, Definition, Document}
use Rattle.schema_defs.specs.Counts.{nodes}
use Rattle.schema_defs.specs.References.{is_guarded}
use Rattle.convert_defs.proofs.Bare.{and_left, and_right, impossible}
use Rattle.plain_defs.specs.Rows.{rows_within, definition_row, plain_item}
use Rattle.plain_defs.specs.Plain.{has_rows}
use Rattle.plain_laws.specs.Height.{height, same_height, lists_height, named_height, maybe_height, list_height, schemas_height, places_height, properties_height, definitions_height}
use Rattle.plain_laws.specs.Laws.{RowsAreKept, PlainIsKept, RowsByHeight}
use Rattle.plain_laws.proofs.Facts.{either}
use Rattle.plain_laws.proofs.Weaker.{OfMaybe, OfAll, OfList, OfPlaces, OfProperties, OfSame, OfLists, OfNamed, Inside, Weaker, row-struct, row-item, row-option, all-rows}

-- ---- no more than m schemas stand in one another

abbrev IsLow : ℕ → Schema → Type 0
IsLow m s = height s ≤ m

module _ (m : ℕ) where
  low-maybe : (s : MaybeSchema) → maybe_height s ≤ m → OfMaybe (IsLow m) s
  low-maybe no_schema h = tt
  low-maybe (the_schema s) h = h

  low-all : (ss : Schemas) → schemas_height ss ≤ m → OfAll (IsLow m) ss
  low-all no_more h = tt
  low-all (schema s ss) h = (omega (arith, h), low-all ss (omega (arith, h)))

  low-list : (s : MaybeSchemas) → list_height s ≤ m → OfList (IsLow m) s
  low-list no_list h = tt
  low-list (the_list ss) h = low-all ss h

  low-places : (p : Places) → places_height p ≤ m → OfPlaces (IsLow m) p
  low-places no_items h = tt
  low-places (each_item s) h = h
  low-places (by_place ss) h = low-all ss h

  low-properties : (ps : Properties) → properties_height ps ≤ m → OfProperties (IsLow m) ps
  low-properties no_properties h = tt
  low-properties (property k s ps) h = (omega (arith, h), low-properties ps (omega (arith, h)))

  low-same : (ss : Same) → same_height ss ≤ m → OfSame (IsLow m) ss
  low-same no_same h = tt
  low-same (same_value all any one none c) h = (low-list any (omega (arith, h)), low-list one (omega (arith, h)))

  low-lists : (ls : Lists) → lists_height ls ≤ m → OfLists (IsLow m) ls
  low-lists no_lists h = tt
  low-lists (lists places rest contains rules) h = low-places places h

  low-named : (ns : Named) → named_height ns ≤ m → OfNamed (IsLow m) ns
  low-named no_named h = tt
  low-named (named props patterns rest names rules) h = (low-properties props (omega (arith, h)), low-maybe rest (omega (arith, h)))

  low-inside : (s : Schema) → IsLow (suc m) s → Inside (IsLow m) s
  low-inside (boolean b) h = tt
  low-inside (object p ss ls ns) h = (low-same ss (omega (arith, h)), low-lists ls (omega (arith, h)), low-named ns (omega (arith, h)))

high : {A : Type 0} (s : Schema) → height s ≤ 0 → A
high (boolean b) h = absurd (omega (arith, h))
high (object p ss ls ns) h = absurd (omega (arith, h))

-- by however many levels they are judged, they are plain by m levels
module _ (d : Document) where
  pub lower : (n m : ℕ) → Weaker (IsLow m) (rows_within d n) (rows_within d m)
  lower zero m = record { rows = λ s u h. impossible h; nullables = λ s u h. impossible h; objects = λ s u h. impossible h }
  lower (suc n) zero = record { rows = λ s u h. high s u; nullables = λ s u h. high s u; objects = λ s u h. high s u }
  lower (suc n) (suc m) =
      let w = lower n m in
      record {
        rows = λ s u h. all-rows d (IsLow m) (rows_within d n) (rows_within d m) w s (low-inside m s u) h;
        nullables = λ s u h. row-option d (IsLow m) (rows_within d n) (rows_within d m) w s (low-inside m s u) h;
        objects = λ s u h. row-struct d (IsLow m) (rows_within d n) (rows_within d m) w s (low-inside m s u) h;
      }

  lower-definition : (n m : ℕ) (s : Schema) → IsLow m s → definition_row d n s ≡ true → definition_row d m s ≡ true
  lower-definition zero m s u h = impossible h
  lower-definition (suc n) zero s u h = high s u
  lower-definition (suc n) (suc m) s u h = by (either ((rows_within d (suc n)).row s) (plain_item d (rows_within d n) s) h)
    where
      second : (a b : Bool) → b ≡ true → (a || b) ≡ true
      second true b h = refl
      second false b h = h

      first : (a b : Bool) → a ≡ true → (a || b) ≡ true
      first true b h = refl
      first false b h = impossible h

      by : ((rows_within d (suc n)).row s ≡ true) ⊎ (plain_item d (rows_within d n) s ≡ true) → definition_row d (suc m) s ≡ true
      by (inl k) = first ((rows_within d (suc m)).row s) (plain_item d (rows_within d m) s) ((lower (suc n) (suc m)).rows s u k)
      by (inr k) = second ((rows_within d (suc m)).row s) (plain_item d (rows_within d m) s) (row-item d (IsLow m) (rows_within d n) (rows_within d m) (lower n m) s (low-inside m s u) k)

  lower-definitions : (n m : ℕ) (es : List Definition) → definitions_height es ≤ m → list_all (λ e. definition_row d n e.body) es ≡ true → list_all (λ e. definition_row d m e.body) es ≡ true
  lower-definitions n m [] u h = refl
  lower-definitions n m (e ∷ es) u h =
      λ i. lower-definition n m e.body (omega (arith, u)) (and_left (definition_row d n e.body) (list_all (λ e. definition_row d n e.body) es) h) i
      && lower-definitions n m es (omega (arith, u)) (and_right (definition_row d n e.body) (list_all (λ e. definition_row d n e.body) es) h) i

pub rows_by_height : RowsByHeight
rows_by_height d n m u h =
    λ i. (lower d n m).rows d.root (omega (arith, u)) (and_left ((rows_within d n).row d.root) (list_all (λ e. definition_row d n e.body) d.definitions) h) i
    && lower-definitions d n m d.definitions (omega (arith, u)) (and_right ((rows_within d n).row d.root) (list_all (λ e. definition_row d n e.body) d.definitions) h) i

-- ---- more levels

module _ (P : Schema → Type 0) (always : (s : Schema) → P s) where
  any-maybe : (s : MaybeSchema) → OfMaybe P s
  any-maybe no_schema = tt
  any-maybe (the_schema s) = always s

  any-all : (ss : Schemas) → OfAll P ss
  any-all no_more = tt
  any-all (schema s ss) = (always s, any-all ss)

  any-list : (s : MaybeSchemas) → OfList P s
  any-list no_list = tt
  any-list (the_list ss) = any-all ss

  any-places : (p : Places) → OfPlaces P p
  any-places no_items = tt
  any-places (each_item s) = always s
  any-places (by_place ss) = any-all ss

  any-properties : (ps : Properties) → OfProperties P ps
  any-properties no_properties = tt
  any-properties (property k s ps) = (always s, any-properties ps)

  any-same : (ss : Same) → OfSame P ss
  any-same no_same = tt
  any-same (same_value all any one none c) = (any-list any, any-list one)

  any-lists : (ls : Lists) → OfLists P ls
  any-lists no_lists = tt
  any-lists (lists places rest contains rules) = any-places places

  any-named : (ns : Named) → OfNamed P ns
  any-named no_named = tt
  any-named (named props patterns rest names rules) = (any-properties props, any-maybe rest)

  any-inside : (s : Schema) → Inside P s
  any-inside (boolean b) = tt
  any-inside (object p ss ls ns) = (any-same ss, any-lists ls, any-named ns)

abbrev Any : Schema → Type 0
Any s = Unit {0}

module _ (d : Document) where
  kept : (n m : ℕ) → n ≤ m → Weaker Any (rows_within d n) (rows_within d m)
  kept zero m le = record { rows = λ s u h. impossible h; nullables = λ s u h. impossible h; objects = λ s u h. impossible h }
  kept (suc n) zero le = absurd (omega (arith, le))
  kept (suc n) (suc m) le =
      let w = kept n m (omega (arith, le)) in
      record {
        rows = λ s u h. all-rows d Any (rows_within d n) (rows_within d m) w s (any-inside Any (λ t. tt) s) h;
        nullables = λ s u h. row-option d Any (rows_within d n) (rows_within d m) w s (any-inside Any (λ t. tt) s) h;
        objects = λ s u h. row-struct d Any (rows_within d n) (rows_within d m) w s (any-inside Any (λ t. tt) s) h;
      }

  kept-definition : (n m : ℕ) → n ≤ m → (s : Schema) → definition_row d n s ≡ true → definition_row d m s ≡ true
  kept-definition zero m le s h = impossible h
  kept-definition (suc n) zero le s h = absurd (omega (arith, le))
  kept-definition (suc n) (suc m) le s h = by (either ((rows_within d (suc n)).row s) (plain_item d (rows_within d n) s) h)
    where
      second : (a b : Bool) → b ≡ true → (a || b) ≡ true
      second true b h = refl
      second false b h = h

      first : (a b : Bool) → a ≡ true → (a || b) ≡ true
      first true b h = refl
      first false b h = impossible h

      by : ((rows_within d (suc n)).row s ≡ true) ⊎ (plain_item d (rows_within d n) s ≡ true) → definition_row d (suc m) s ≡ true
      by (inl k) = first ((rows_within d (suc m)).row s) (plain_item d (rows_within d m) s) ((kept (suc n) (suc m) le).rows s tt k)
      by (inr k) = second ((rows_within d (suc m)).row s) (plain_item d (rows_within d m) s) (row-item d Any (rows_within d n) (rows_within d m) (kept n m (omega (arith, le))) s (any-inside Any (λ t. tt) s) k)

  kept-definitions : (n m : ℕ) → n ≤ m → (es : List Definition) → list_all (λ e. definition_row d n e.body) es ≡ true → list_all (λ e. definition_row d m e.body) es ≡ true
  kept-definitions n m le [] h = refl
  kept-definitions n m le (e ∷ es) h =
      λ i. kept-definition n m le e.body (and_left (definition_row d n e.body) (list_all (λ e. definition_row d n e.body) es) h) i && kept-definitions n m le es (and_right (definition_row d n e.body) (list_all (λ e. definition_row d n e.body) es) h) i

  kept-rows : (n m : ℕ) → n ≤ m → has_rows d n ≡ true → has_rows d m ≡ true
  kept-rows n m le h =
      λ i. (kept n m le).rows d.root tt (and_left ((rows_within d n).row d.root) (list_all (λ e. definition_row d n e.body) d.definitions) h) i
      && kept-definitions n m le d.definitions (and_right ((rows_within d n).row d.root) (list_all (λ e. definition_row d n e.body) d.definitions) h) i

pub rows_are_kept : RowsAreKept
rows_are_kept d n m s le = record { row = (kept d n m le).rows s tt; nullable = (kept d n m le).nullables s tt; object = (kept d n m le).objects s tt; definition = kept-definition d n m le s }

pub plain_is_kept : PlainIsKept
plain_is_kept d n m le h =
    let a = and_right (is_guarded d) (nat_le (nodes d) n && has_rows d n) h in
    λ i. and_left (is_guarded d) (nat_le (nodes d) n && has_rows d n) h i
    && (le-leb (nodes d) m (omega (arith, leb-true (nodes d) n (and_left (nat_le (nodes d) n) (has_rows d n) a), le)) i && kept-rows d n m le (and_right (nat_le (nodes d) n) (has_rows d n) a) i)
