-- Contains of both sides, what binds the rest, and how merged items end.
use Rattle.std.proofs.Common.{◌≡◌, ℕ, List, [], ◌∷◌, ◌++◌, Bool, true, false, append-nil, refl, sym, ap, ◌∙◌}
use Rattle.std.specs.Prelude.{Option, Result, Ok, Err, IsErrAnd, if◌then◌else◌}
use Rattle.schema_defs.specs.Schema.{ListRules, Schema, boolean, Lists, MaybeSchema, the_schema, no_schema, Places, Schemas, by_place}
use Rattle.merge_defs.specs.Alike.{same_schemas}
use Rattle.merge_defs.specs.Outcome.{Note, Outcome, never, answer, noted, mapped, never_unless, less_than, of_clash}
use Rattle.merge_defs.specs.Arrays.{Front, at_most, at_clash, ended_at, ending, rest_of, two_contains}
use Rattle.merge_steps.specs.declared.stop.Stop.{Stop}
use Rattle.merge_steps.specs.declared.stop.Stop.TheVariants.{Never}
use Rattle.merge_steps.specs.Ends.{Ends}
use Rattle.merge_steps.proofs.Ending.{maps, maps_off, ends_as, same_error}

-- ---- contains

module _ {X : Type 0} (v : X → MaybeSchema) (s t : Schema) where
  chosen : (b : Bool) → same_schemas s t ≡ b → two_contains (the_schema s) (the_schema t) ≡ (if b then answer [] (the_schema s) else never_unless false of_clash)
  chosen b e = ap (λ c. if c then answer [] (the_schema s) else never_unless false of_clash) e

  pub same_stays : (ns : List Note) (x : X) → same_schemas s t ≡ true → v x ≡ the_schema s → Ends v ns ns (two_contains (the_schema s) (the_schema t)) (Ok x)
  same_stays ns x h e = record { told = ap (noted ns) (chosen true h) ∙ ap (λ l. answer l (the_schema s)) (append-nil ns) ∙ ap (answer ns) (sym e) }

  pub others_clash : (old new : List Note) → same_schemas s t ≡ false → new ≡ old ++ less_than of_clash ∷ [] → Ends v old new (two_contains (the_schema s) (the_schema t)) (Err Never)
  others_clash old new h e = record { told = ap (noted old) (chosen false h) ∙ ap never (sym e) }

-- ---- what binds the rest

module _ {X : Type 0} (v : X → MaybeSchema) (join : Schema → Schema → Outcome Schema) (array : Bool) (c : ListRules) where
  pub rest_found : (ns : List Note) (stays : Bool) (s : Schema) (x : X) → v x ≡ the_schema s → Ends v ns ns (rest_of join array c stays (answer [] s)) (Ok x)
  rest_found ns stays s x e = ends_as x e

  pub rest_false : (ns : List Note) (stays : Bool) (x : X) → stays ≡ true → v x ≡ the_schema (boolean false) → Ends v ns ns (rest_of join array c stays (never [])) (Ok x)
  rest_false ns stays x h e = record { told = ap (λ b. noted ns (noted [] (if b then answer [] (the_schema (boolean false)) else never_unless false of_clash))) h ∙ ap (λ l. answer l (the_schema (boolean false))) (append-nil ns) ∙ ap (answer ns) (sym e) }

  pub rest_never : (old new : List Note) (stays : Bool) → stays ≡ false → new ≡ old ++ less_than of_clash ∷ [] → Ends v old new (rest_of join array c stays (never [])) (Err Never)
  rest_never old new stays h e = record { told = ap (λ b. noted old (noted [] (if b then answer [] (the_schema (boolean false)) else never_unless false of_clash))) h ∙ ap never (sym e) }

-- ---- the end of merged items; `g` puts contains and the sizes round the front

module _ {X Y : Type 0} (v : X → MaybeSchema) (w : Y → Lists) (g : Front → Lists) (items : Schemas) (most : Option ℕ) (o : Outcome MaybeSchema) where
  abbrev with_rest : MaybeSchema → Front
  with_rest r = record { places = by_place items; rest = r; max_items = most }

  pub goes_further : (old new : List Note) (x : X) (y : Y) (p : Places) → Ends v old new o (Ok x) → p ≡ by_place items → w y ≡ g (record { places = p; rest = v x; max_items = most })
      → Ends w old new (mapped g (mapped with_rest o)) (Ok y)
  goes_further old new x y p s h e =
      maps g (with_rest (v x)) y (maps {w = λ (f : Front). f} with_rest x (with_rest (v x)) s refl)
      (e ∙ ap (λ places. g (record { places = places; rest = v x; max_items = most })) h)

  pub stops_further : (old new : List Note) (r : Result Y Stop) (e : Stop) → IsErrAnd r (λ f. f ≡ e) → Ends v old new o (Err e) → Ends w old new (mapped g (mapped with_rest o)) r
  stops_further old new r e h s =
      same_error (λ p. Ends w old new (mapped g (mapped with_rest o)) p) r e h (maps_off {X = Front} {v = λ (f : Front). f} g e (maps_off with_rest e s))

module _ {Y : Type 0} (w : Y → Lists) (g : Front → Lists) (join : Schema → Schema → Outcome Schema) (array : Bool) (c : ListRules) (stays : Bool) (o : Outcome Schema) (items : Schemas) where
  pub ends_full : (ns : List Note) (y : Y) → w y ≡ g (record { places = by_place items; rest = no_schema; max_items = c.max_items })
      → Ends w ns ns (mapped g (ending join array c stays o (record { items = items; end = at_most }))) (Ok y)
  ends_full ns y e = ends_as y e

  pub ends_before : (ns : List Note) (k : _) (y : Y) → w y ≡ g (record { places = by_place items; rest = no_schema; max_items = ended_at k c.max_items })
      → Ends w ns ns (mapped g (ending join array c stays o (record { items = items; end = at_clash k }))) (Ok y)
  ends_before ns k y e = ends_as y e
